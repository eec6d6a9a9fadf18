-- A run: what it is given, what it leaves, and what its source, its sink and its notes report of themselves.
use Rattle.std.specs.Prelude.{◌≡◌, ℕ, false, List, Option, IfSome}
use Rattle.fixed_ops.specs.Counts.{Counts}
use Rattle.modeller_cmd.specs.Asking.{asks_nothing, input_told}
use Rattle.modeller_cmd.specs.Endings.{ReadsWhole, TakesLine}
use Rattle.modeller_cmd.specs.Output.{Output, output_of}
use Rattle.modeller_cmd.specs.declared.status.Status.{Status}

-- A run: what its source, its sink and its notes report of themselves; each of them, and the tally,
-- before it and after it; its words, and the status that it answers.
pub record Run (S K N : Type 0) : Type 0 where
  pub rest : S → Option (List ℕ)
  pub taken : S → ℕ
  pub read_faults : S → ℕ
  pub held : K → Option (List ℕ)
  pub write_faults : K → ℕ
  pub notes_held : N → Option (List ℕ)
  pub note_faults : N → ℕ
  pub words : List (List ℕ)
  pub source : S
  pub source_after : S
  pub out : K
  pub out_after : K
  pub notes : N
  pub notes_after : N
  pub first : Counts
  pub last : Counts
  pub status : Status

-- the run of these words that leaves this
abbrev pub run_of : {S K N : Type 0} → (S → Option (List ℕ)) → (S → ℕ) → (S → ℕ)
    → (K → Option (List ℕ)) → (K → ℕ) → (N → Option (List ℕ)) → (N → ℕ) → List (List ℕ)
    → S → S → K → K → N → N → Counts → Counts → Status → Run S K N
run_of rest taken read_faults held write_faults notes_held note_faults words source source_after
    out out_after notes notes_after first last status = record {
      rest = rest;
      taken = taken;
      read_faults = read_faults;
      held = held;
      write_faults = write_faults;
      notes_held = notes_held;
      note_faults = note_faults;
      words = words;
      source = source;
      source_after = source_after;
      out = out;
      out_after = out_after;
      notes = notes;
      notes_after = notes_after;
      first = first;
      last = last;
      status = status;
    }

-- the input of a run, where it is known
abbrev pub input_of : {S K N : Type 0} → Run S K N → Option (List ℕ)
input_of run = input_told run.rest run.source (asks_nothing run.words)

-- where it is, this holds of it
abbrev pub OfInput : {S K N : Type 0} → Run S K N → (List ℕ → Type 0) → Type 0
OfInput run P = IfSome (input_of run) P

-- and this of the output that the words ask for of it
abbrev pub OfOutput : {S K N : Type 0} → Run S K N → (Output → Type 0) → Type 0
OfOutput run P = OfInput run (λ input. P (output_of run.words input))

-- where the words ask for anything of the source, it was read to its end
abbrev pub InputIsRead : {S K N : Type 0} → Run S K N → Type 0
InputIsRead run = asks_nothing run.words ≡ false → ReadsWhole run.rest run.source run.source_after

-- the notes took this line
abbrev pub IsNoted : {S K N : Type 0} → Run S K N → List ℕ → Type 0
IsNoted run line = TakesLine run.notes_held run.note_faults run.notes run.notes_after line
