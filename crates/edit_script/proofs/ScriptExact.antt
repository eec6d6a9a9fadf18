-- Reading answers what the lines say one by one.
use Rattle.std.proofs.Common.{◌≡◌, ℕ, ◌+◌, take, drop, List, [], ◌∷◌, ◌++◌, map, ◌⊎◌, inl, inr, Option, Some, None, Result, Ok, Err, refl, ap, sym, ◌∙◌}
use Rattle.std.specs.Option.{option_map, option_map_or}
use Rattle.clause_reader.specs.Lines.{lines_of}
use Rattle.clause_reader.specs.Reading.{on_result}
use Rattle.edit_script.specs.declared.command.Command.{Command}
use Rattle.edit_script.specs.declared.script_fault.ScriptFault.{ScriptFault}
use Rattle.edit_script.specs.declared.script_reason.ScriptReason.TheVariants.{NoMark}
use Rattle.edit_script.specs.Marks.{line_start, mark_place}
use Rattle.edit_script.specs.ScriptLaws.{ScriptsAreExact, RefusalsAreExact, InputsAreSplit, SaysCommands, HasNoMark, HasBadLine, Splits}
use Rattle.edit_script.proofs.LineStarts.{lines_of-before, lines_of-from_line}
use Rattle.edit_script.specs.Scripts.{all_or_first, command_at, command_lines, commands_after, script_read}

abbrev Said : Type 0
Said = Result Command ScriptFault

abbrev accepted : List Command → List Said
accepted commands = map (λ command. Ok command) commands

-- all commands
all-said : (results : List Said) (commands : List Command) → all_or_first results ≡ Ok commands → results ≡ accepted commands
all-said [] commands e = let same : [] ≡ commands = cc in ap accepted same
all-said (Err fault ∷ results) commands e = (cc)
all-said (Ok command ∷ results) commands e = by (all_or_first results) refl e (λ more h. all-said results more h)
  where
    by : (r : Result (List Command) ScriptFault) → all_or_first results ≡ r → on_result r (λ more. Ok (command ∷ more)) (λ fault. Err fault) ≡ Ok commands
        → ((more : List Command) → all_or_first results ≡ Ok more → results ≡ accepted more) → Ok command ∷ results ≡ accepted commands
    by (Ok more) is e later = let same : command ∷ more ≡ commands = cc in ap (λ (rest : List Said). Ok command ∷ rest) (later more is) ∙ ap accepted same
    by (Err fault) is e later = (cc)

said-all : (commands : List Command) → all_or_first (accepted commands) ≡ Ok commands
said-all [] = refl
said-all (command ∷ commands) =
    ap (λ (r : Result (List Command) ScriptFault). on_result r (λ more. Ok (command ∷ more)) (λ fault. Err fault)) (said-all commands)

-- the first fault
abbrev Breaks : List Said → ScriptFault → Type 0
Breaks results fault = (before : List Command) × (after : List Said) × (results ≡ accepted before ++ Err fault ∷ after)

first-fault : (results : List Said) (fault : ScriptFault) → all_or_first results ≡ Err fault → Breaks results fault
first-fault [] fault e = (cc)
first-fault (Err first ∷ results) fault e = let same : first ≡ fault = cc in ([], results, ap (λ (f : ScriptFault). Err f ∷ results) same)
first-fault (Ok command ∷ results) fault e = by (all_or_first results) refl e (λ h. first-fault results fault h)
  where
    by : (r : Result (List Command) ScriptFault) → all_or_first results ≡ r → on_result r (λ more. Ok (command ∷ more)) (λ first. Err first) ≡ Err fault
        → (all_or_first results ≡ Err fault → Breaks results fault) → Breaks (Ok command ∷ results) fault
    by (Ok more) is e later = (cc)
    by (Err first) is e later = let rest = later (is ∙ e) in (command ∷ rest.0, rest.1, ap (λ (others : List Said). Ok command ∷ others) rest.2)

fault-first : (before : List Command) (fault : ScriptFault) (after : List Said) → all_or_first (accepted before ++ Err fault ∷ after) ≡ Err fault
fault-first [] fault after = refl
fault-first (command ∷ before) fault after =
    ap (λ (r : Result (List Command) ScriptFault). on_result r (λ more. Ok (command ∷ more)) (λ first. Err first)) (fault-first before fault after)

pub scripts-exact : ScriptsAreExact
scripts-exact input commands =
    (λ e. to (mark_place input) refl e, λ says. ap (commands_after input) says.marked ∙ ap all_or_first says.said ∙ said-all commands)
  where
    to : (m : Option ℕ) → mark_place input ≡ m → commands_after input m ≡ Ok commands → SaysCommands input commands
    to None is e = (cc)
    to (Some mark) is e = record { mark = mark; marked = is; said = all-said (map command_at (command_lines input mark)) commands e }

pub refusals-exact : RefusalsAreExact
refusals-exact input fault = (λ e. to (mark_place input) refl e, from)
  where
    to : (m : Option ℕ) → mark_place input ≡ m → commands_after input m ≡ Err fault → HasNoMark input fault ⊎ HasBadLine input fault
    to None is e = let same : record { line = 0; reason = NoMark } ≡ fault = cc in inl (record { none = is; told = sym same })
    to (Some mark) is e =
        let first = first-fault (map command_at (command_lines input mark)) fault e in
        inr (record { mark = mark; marked = is; before = first.0; after = first.1; first = first.2 })

    from : HasNoMark input fault ⊎ HasBadLine input fault → script_read input ≡ Err fault
    from (inl none) = ap (commands_after input) none.none ∙ ap (λ (f : ScriptFault). Err f) (sym none.told)
    from (inr bad) = ap (commands_after input) bad.marked ∙ ap all_or_first bad.first ∙ fault-first bad.before fault bad.after

pub inputs-split : InputsAreSplit
inputs-split input start end e = by (mark_place input) refl e
  where
    by : (m : Option ℕ) → mark_place input ≡ m → option_map {U = ℕ × ℕ} (λ place. (line_start input place, line_start input (place + 1))) m ≡ Some (start, end) → Splits input start end
    by None is ends = (cc)
    by (Some mark) is ends =
        let from : line_start input mark ≡ start = ap (λ (o : Option (ℕ × ℕ)). option_map_or (λ pair. pair.0) o 0) ends in
        let to : line_start input (mark + 1) ≡ end = ap (λ (o : Option (ℕ × ℕ)). option_map_or (λ pair. pair.1) o 0) ends in
        record {
          mark = mark;
          marked = is;
          before = ap (λ n. lines_of (take n input)) (sym from) ∙ lines_of-before input mark;
          after = ap (λ n. lines_of (drop n input)) (sym to) ∙ lines_of-from_line input (mark + 1);
        }
