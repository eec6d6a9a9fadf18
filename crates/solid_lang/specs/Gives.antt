-- What the readers of a text give.
use Rattle.std.specs.Prelude.{◌≡◌, ℕ, ◌≤◌, List, Result, Ok, Err}
use Rattle.solid_lang.specs.declared.solid.Solid.{Solid}
use Rattle.solid_lang.specs.declared.solid_fault.SolidFault.{SolidFault}
use Rattle.solid_lang.specs.declared.solid_reason.SolidReason.TheVariants.{NoMemory}
use Rattle.solid_lang.specs.declared.solid_reason.SolidReason.{SolidReason}
use Rattle.solid_lang.specs.Counts.{clause_count}
use Rattle.solid_lang.specs.Reading.{SolidReads}
use Rattle.solid_lang.specs.Refusing.{NoSolid, SolidRefuses}
use Rattle.solid_lang.specs.Solids.{SolidTree, tree}

-- the text says a solid of so many clauses, at most 65,535
pub record HasClauses (text : List ℕ) (clauses : ℕ) : Type 0 where
  pub solid : SolidTree
  pub reads : SolidReads text solid
  pub count : clauses ≡ clause_count solid
  pub few : clauses ≤ 65535

-- a judgement: the clauses of the solid that the text says, or the fault for which it is refused
abbrev pub Judges : List ℕ → Result ℕ SolidFault → Type 0
Judges text (Ok clauses) = HasClauses text clauses
Judges text (Err fault) = SolidRefuses text fault.line fault.reason

-- want of memory for the solid that the text says, which is told as line 0
pub record LacksMemory (text : List ℕ) (line : ℕ) : Type 0 where
  pub solid : SolidTree
  pub reads : SolidReads text solid
  pub zero : line ≡ 0

-- why no solid is given
abbrev pub Withholds : List ℕ → ℕ → SolidReason → Type 0
Withholds text line NoMemory = LacksMemory text line
Withholds text line reason = NoSolid text line reason

-- a reading: the solid that the text says, or the fault for which it says none, or want of memory
abbrev pub GivesSolid : List ℕ → Result Solid SolidFault → Type 0
GivesSolid text (Ok solid) = SolidReads text (tree solid)
GivesSolid text (Err fault) = Withholds text fault.line fault.reason

-- the text says this solid, of at most 65,535 clauses
pub record ReadsShort (text : List ℕ) (solid : SolidTree) : Type 0 where
  pub reads : SolidReads text solid
  pub few : clause_count solid ≤ 65535

-- want of memory for such a solid that the text says, which is told as line 0
pub record LacksRoom (text : List ℕ) (line : ℕ) : Type 0 where
  pub solid : SolidTree
  pub reads : ReadsShort text solid
  pub zero : line ≡ 0

-- why no such solid is given
abbrev pub WithholdsShort : List ℕ → ℕ → SolidReason → Type 0
WithholdsShort text line NoMemory = LacksRoom text line
WithholdsShort text line reason = SolidRefuses text line reason

-- a reading of a solid of at most 65,535 clauses, or the fault for which it is refused, or want of
-- memory
abbrev pub GivesShortSolid : List ℕ → Result Solid SolidFault → Type 0
GivesShortSolid text (Ok solid) = ReadsShort text (tree solid)
GivesShortSolid text (Err fault) = WithholdsShort text fault.line fault.reason
