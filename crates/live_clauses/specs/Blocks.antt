-- Lists of steps in one block of memory, one after another, with one table of constants.
use Rattle.std.specs.Prelude.{ℕ, ℤ, ◌+◌, ◌-◌, ◌<◌, ◌≤◌, List, [], map, length, take, drop, slice_index_or}
use Rattle.std.specs.List.{All}
use Rattle.live_clauses.specs.declared.packed_step.PackedStep.{PackedStep}
use Rattle.live_clauses.specs.declared.part.Part.{Part}
use Rattle.live_clauses.specs.declared.step.Step.{Step}
use Rattle.live_clauses.specs.Packed.{unpacked}
use Rattle.live_clauses.specs.Steps.{IsTape}

-- the list at a place among some lists, which past the end has no steps
abbrev pub list_at : List (List Step) → ℕ → List Step
list_at lists place = slice_index_or lists place []

-- the list that a part of a block is
abbrev pub part_of : List ℤ → List PackedStep → Part → List Step
part_of constants block part =
    map (unpacked constants) (take (part.end - part.start) (drop part.start block))

-- the lists that parts of a block are
abbrev pub parts_of : List ℤ → List PackedStep → List Part → List (List Step)
parts_of constants block parts = map (part_of constants block) parts

-- where the last of some parts ends
abbrev pub end_of : List Part → ℕ
end_of parts = (slice_index_or parts (length parts - 1) (record { start = 0; end = 0 })).end

-- a part of a block that is a list of at most so many steps, which can be evaluated
pub record IsPart (constants : List ℤ) (block : List PackedStep) (most : ℕ) (part : Part)
    : Type 0 where
  pub order : part.start ≤ part.end
  pub within : part.end ≤ length block
  pub few : part.end ≤ part.start + most
  pub tape : IsTape (part_of constants block part)

-- each part ends before each later one starts
abbrev pub AreApart : List Part → Type 0
AreApart parts = (i j : ℕ) (d : Part) → i < j → j < length parts
    → (slice_index_or parts i d).end ≤ (slice_index_or parts j d).start

-- such parts of a block, one after another
pub record AreParts (constants : List ℤ) (block : List PackedStep) (most : ℕ) (parts : List Part)
    : Type 0 where
  pub each : All (IsPart constants block most) parts
  pub apart : AreApart parts
