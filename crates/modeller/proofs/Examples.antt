-- The numbers that the program ends with, each once.
use Rattle.std.proofs.Common.{◌≡◌, [], ◌∷◌, map, refl}
use Rattle.std.specs.declared.io.ErrorKind.TheVariants.{InvalidData, OutOfMemory}
use Rattle.modeller_cmd.specs.declared.status.Status.TheVariants.{Done, Usage, BadModel, BadScript, TooLong, ReadFault, WriteFault, NoMemory}
use Rattle.modeller.specs.Ends.{HasRun, number_of_end}
use Rattle.modeller.specs.declared.end.End.TheVariants.{Ran, Wordless}

numbers_of_runs : map number_of_end
    (Ran Done ∷ Ran Usage ∷ Ran BadModel ∷ Ran BadScript ∷ Ran TooLong ∷ Ran ReadFault
    ∷ Ran WriteFault ∷ Ran NoMemory ∷ [])
    ≡ 0 ∷ 2 ∷ 3 ∷ 4 ∷ 5 ∷ 6 ∷ 7 ∷ 8 ∷ []
numbers_of_runs = refl

-- words that are no text have a number of their own, and want of memory has one wherever it comes
numbers_without_a_run : map number_of_end (Wordless OutOfMemory ∷ Wordless InvalidData ∷ []) ≡ 8 ∷ 1 ∷ []
numbers_without_a_run = refl

refused_words_have_run : HasRun (Ran Usage) (λ status. status ≡ Usage)
refused_words_have_run = refl

unreadable_words_have_not : HasRun (Wordless InvalidData) (λ status. status ≡ Usage) → ⊥
unreadable_words_have_not run = run
