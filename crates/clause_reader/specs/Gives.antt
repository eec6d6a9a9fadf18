-- What a reader gives where a value or a defect is meant.
use Rattle.std.specs.Prelude.{◌≡◌, Result, Ok, Err, IsOk}
use Rattle.clause_reader.specs.declared.read_error.ReadError.{ReadError}
use Rattle.clause_reader.specs.declared.read_error.ReadError.TheVariants.{Memory, Defect}

-- that very value, or that very defect, or want of memory where nothing is refused
abbrev pub Gives : {A D : Type 0} → Result A D → Result A (ReadError D) → Type 0
Gives meaning (Ok value) = meaning ≡ Ok value
Gives meaning (Err Memory) = IsOk meaning
Gives meaning (Err (Defect defect)) = meaning ≡ Err defect

-- a defect, or this one where memory was refused
abbrev pub defect_or : {D : Type 0} → D → ReadError D → D
defect_or memory Memory = memory
defect_or memory (Defect defect) = defect

-- a change that was made, by what stands after it, or why none was
abbrev pub made : {A T E : Type 0} → A → Result T E → Result A E
made new (Ok done) = Ok new
made new (Err fault) = Err fault
