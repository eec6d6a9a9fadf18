-- What takes changes of clauses back, by places.
use Rattle.std.specs.Prelude.{◌≡◌, ℕ, ◌<◌, ◌≤◌, pos, List, [], ◌∷◌, ◌++◌, length, map, set, slice_get, slice_index_or, None, Ok, ⊤}
use Rattle.std.specs.List.{insert, position, remove}
use Rattle.fixed_ops.specs.declared.operation.Op.TheVariants.{X}
use Rattle.solid_model.specs.declared.change.Change.{Change}
use Rattle.solid_model.specs.declared.change.Change.TheVariants as change
use Rattle.solid_model.specs.declared.clause.Clause.{Clause}
use Rattle.solid_model.specs.declared.edit.Edit.{Edit}
use Rattle.solid_model.specs.declared.edit.Edit.TheVariants.{Set, Cut}
use Rattle.solid_model.specs.declared.placed_form.PlacedForm.{PlacedForm}
use Rattle.solid_model.specs.declared.reversal.Reversal.{Reversal}
use Rattle.solid_model.specs.declared.reversal.Reversal.TheVariants.{Write, Insert, Remove}
use Rattle.solid_model.specs.Changes.{done, Allows, DoesEdit}
use Rattle.solid_model.specs.Clauses.{place_of, IsClauseAt}
use Rattle.solid_model.specs.Edits.{edited}
use Rattle.solid_model.specs.Inverses.{inverse_of, put_before}
use Rattle.solid_model.specs.Named.{by_name, name_at, named_of}
use Rattle.solid_model.specs.Seen.{named_clause, placed_form}
use Rattle.solid_model.specs.Surgery.{down, moved, reads, up}

-- what the clause at a place says, and nothing where there is none
abbrev pub no_form : Clause
no_form = record { name = []; op = X; a = 0; b = 0; value = pos 0 }

abbrev pub form_at : List Clause → ℕ → PlacedForm
form_at clauses at = placed_form (slice_index_or clauses at no_form)

-- what takes a change back, by the clauses before it
abbrev pub reversal_of : List Clause → Change → Reversal
reversal_of clauses (change.Write at clause) = Write at (form_at clauses at)
reversal_of clauses (change.Insert at clause) = Remove at
reversal_of clauses (change.Remove at) = Insert at (name_at clauses at) (form_at clauses at)

-- the clauses once a change is taken back
abbrev pub reverted : List Clause → Reversal → List Clause
reverted clauses (Write at form) = set clauses at (named_clause (name_at clauses at) form)
reverted clauses (Insert at name form) =
    insert (map (moved (up at)) clauses) at (named_clause name form)
reverted clauses (Remove at) = remove (map (moved (down at)) clauses) at

-- What clauses allow to be taken back: a clause that is written or put in fits its place, one that is put
-- in has a new name and room, and one that is taken out is no operand and not the only one.
abbrev pub AllowsBack : List Clause → Reversal → Type 0
AllowsBack clauses (Write at form) =
    (at < length clauses) × IsClauseAt at (named_clause (name_at clauses at) form)
AllowsBack clauses (Insert at name form) =
    (at ≤ length clauses) × (length clauses < 65535) × (place_of clauses name ≡ None)
    × IsClauseAt at (named_clause name form)
AllowsBack clauses (Remove at) =
    (at < length clauses) × (1 < length clauses) × (position (reads at) clauses ≡ None)

-- the edit that it is
abbrev pub edit_back : List Clause → Reversal → Edit
edit_back clauses (Write at form) =
    Set (name_at clauses at) (by_name clauses (named_clause (name_at clauses at) form)).form
edit_back clauses (Insert at name form) =
    put_before (slice_get (named_of clauses) at) name (by_name clauses (named_clause name form)).form
edit_back clauses (Remove at) = Cut (name_at clauses at)

-- A change that an edit says was made, and what takes it back was put behind others.
pub record IsMadeAndKept (before after : List Clause) (edit : Edit) (others all : List Reversal)
    : Type 0 where
  pub change : Change
  pub allowed : Allows before change
  pub does : DoesEdit before edit change
  pub is : after ≡ done before change
  pub last : all ≡ others ++ reversal_of before change ∷ []

-- What takes an edit back was put behind others: it is allowed after the edit, leads back, and is the
-- edit's inverse.
pub record IsKeptBack (before after : List Clause) (edit : Edit) (others all : List Reversal) : Type 0 where
  pub back : Reversal
  pub last : all ≡ others ++ back ∷ []
  pub allowed : AllowsBack after back
  pub leads : reverted after back ≡ before
  pub accepted : edited after (edit_back after back) ≡ Ok before
  pub inverse : edit_back after back ≡ inverse_of before edit

-- the edits that some are, one after another
unfoldable pub edits_back : List Clause → List Reversal → List Edit
edits_back clauses [] = []
edits_back clauses (r ∷ rs) = edit_back clauses r ∷ edits_back (reverted clauses r) rs

-- each of them is allowed in its turn
unfoldable pub AllowBack : List Clause → List Reversal → Type 0
AllowBack clauses [] = ⊤
AllowBack clauses (r ∷ rs) = AllowsBack clauses r × AllowBack (reverted clauses r) rs
