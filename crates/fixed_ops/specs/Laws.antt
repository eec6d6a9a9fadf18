-- What always holds of rounding, of the range of raw numbers, of results, of steps, of tallies, and of
-- numerals.
use Rattle.std.specs.Prelude.{◌≡◌, ◌≢◌, ℕ, ◌-◌, ◌^◌, ◌<◌, ℤ, pos, ◌+ℤ◌, ◌*ℤ◌, ◌≤ℤ◌, ◌<ℤ◌, Some}
use lib.IntN.{neg_ℤ}
use Rattle.fixed_ops.specs.declared.operation.Op.{Op}
use Rattle.fixed_ops.specs.declared.operation.Op.TheVariants.{Floor}
use Rattle.fixed_ops.specs.Arity.{arity_of}
use Rattle.fixed_ops.specs.Counts.{Counts, IsAtMost, RisesAtMost, RisesBy, no_counts, plus}
use Rattle.fixed_ops.specs.Floor.{IsFloor}
use Rattle.fixed_ops.specs.Numerals.{numeral}
use Rattle.fixed_ops.specs.NumberTexts.{number_text}
use Rattle.fixed_ops.specs.Operations.{op_result}
use Rattle.fixed_ops.specs.Points.{IsRawPoint, Point, step_value}
use Rattle.fixed_ops.specs.Quotient.{IsRoundedDown, quotient_of}
use Rattle.fixed_ops.specs.Raw.{IsRaw, greatest, least, clamp, floor_div}
use Rattle.fixed_ops.specs.Root.{IsRoot, floor_root}
use Rattle.fixed_ops.specs.Spelling.{Spelling, IsSpelling, spelled, spelling_value}

-- the floor is the greatest whole number that is at most the exact quotient, and nothing else is
abbrev pub FloorHolds : Type 0
FloorHolds = (t : ℤ) (d : ℕ) → 0 < d → IsFloor t d (floor_div t d)

abbrev pub OnlyFloorHolds : Type 0
OnlyFloorHolds = (t : ℤ) (d : ℕ) (q : ℤ) → 0 < d → IsFloor t d q → q ≡ floor_div t d

-- what a clamped whole number is, by where the number lies
pub record IsClamped (t r : ℤ) : Type 0 where
  pub within : IsRaw t → r ≡ t
  pub above : greatest <ℤ t → r ≡ greatest
  pub below : t <ℤ least → r ≡ least
  pub raw : IsRaw r

abbrev pub ClampHolds : Type 0
ClampHolds = (t : ℤ) → IsClamped t (clamp t)

-- a quotient by a number other than 0 is clamped from the exact one rounded down
pub record IsClampedQuotient (a b r : ℤ) : Type 0 where
  pub exact : ℤ
  pub rounded : IsRoundedDown (a *ℤ pos (2 ^ 32)) b exact
  pub clamped : r ≡ clamp exact

abbrev pub QuotientHolds : Type 0
QuotientHolds = (a b : ℤ) → b ≢ pos 0 → IsClampedQuotient a b (quotient_of a b)

-- and only one whole number is that
abbrev pub OnlyQuotientHolds : Type 0
OnlyQuotientHolds = (t b q r : ℤ) → b ≢ pos 0 → IsRoundedDown t b q → IsRoundedDown t b r → q ≡ r

-- what a quotient by 0 is, by the sign of the dividend
pub record IsOverZero (a r : ℤ) : Type 0 where
  pub positive : pos 0 <ℤ a → r ≡ greatest
  pub zero : a ≡ pos 0 → r ≡ pos 0
  pub negative : a <ℤ pos 0 → r ≡ least

abbrev pub QuotientByZeroHolds : Type 0
QuotientByZeroHolds = (a : ℤ) → IsOverZero a (quotient_of a (pos 0))

-- r is a whole number that is at most a, and the next one is above a
pub record IsWholeBelow (a r : ℤ) : Type 0 where
  pub count : ℤ
  pub whole : r ≡ count *ℤ pos (2 ^ 32)
  pub below : r ≤ℤ a
  pub next : a <ℤ (r +ℤ pos (2 ^ 32))

-- the least whole number that is a raw number
abbrev pub least_whole : ℤ
least_whole = neg_ℤ (pos (2 ^ 62 - 2 ^ 32))

-- What the floor of a raw number is. Below the least whole number it is the least raw number, which
-- is no whole number.
pub record IsWhole (a r : ℤ) : Type 0 where
  pub within : least_whole ≤ℤ a → IsWholeBelow a r
  pub low : a <ℤ least_whole → r ≡ least

abbrev pub WholeHolds : Type 0
WholeHolds = (a b : ℤ) → IsRaw a → IsWhole a (op_result Floor a b)

abbrev pub OnlyWholeHolds : Type 0
OnlyWholeHolds = (a b r : ℤ) → IsRaw a → IsWhole a r → r ≡ op_result Floor a b

-- the root is the greatest number whose square is at most n, and nothing else is
abbrev pub RootHolds : Type 0
RootHolds = (n : ℕ) → IsRoot n (floor_root n)

abbrev pub OnlyRootHolds : Type 0
OnlyRootHolds = (n r : ℕ) → IsRoot n r → r ≡ floor_root n

-- results on raw numbers are raw numbers
abbrev pub ResultsAreRaw : Type 0
ResultsAreRaw = (op : Op) (a b : ℤ) → IsRaw a → IsRaw b → IsRaw (op_result op a b)

-- a step reads only the operands that its operation has
abbrev pub OwnOperandsAreRead : Type 0
OwnOperandsAreRead = (op : Op) (p : Point) (constant a b x y : ℤ) → (0 < arity_of op → a ≡ x)
    → (1 < arity_of op → b ≡ y) → step_value op p constant a b ≡ step_value op p constant x y

-- and gives a raw number from raw numbers
abbrev pub StepsAreRaw : Type 0
StepsAreRaw = (op : Op) (p : Point) (constant a b : ℤ) → IsRawPoint p → IsRaw constant → IsRaw a
    → IsRaw b → IsRaw (step_value op p constant a b)

-- How rises of a tally add up. A tally that stands rises by no counts; a rise after a rise is one by
-- the sum; and a tally that takes in what another has counted from nothing rises by that. An exact
-- rise is one by at most as much, and a tally that stands rises by at most any counts; what rises by
-- at most some counts rises by at most greater ones, and one such rise after another by at most the
-- sum.
pub record TalliesAddUp : Type 0 where
  pub none : (counts : Counts) → RisesBy counts counts no_counts
  pub sum : (before mid after a b : Counts) → RisesBy before mid a → RisesBy mid after b
      → RisesBy before after (plus a b)
  pub joined : (before after work by : Counts) → RisesBy no_counts work by
      → RisesBy before after work → RisesBy before after by
  pub exact : (before after by : Counts) → RisesBy before after by → RisesAtMost before after by
  pub most_none : (counts most : Counts) → RisesAtMost counts counts most
  pub most_more : (before after most more : Counts) → RisesAtMost before after most
      → IsAtMost most more → RisesAtMost before after more
  pub most_sum : (before mid after a b : Counts) → RisesAtMost before mid a
      → RisesAtMost mid after b → RisesAtMost before after (plus a b)

-- a numeral that is spelled has the value of its parts
abbrev pub SpellingsAreRead : Type 0
SpellingsAreRead = (s : Spelling) → IsSpelling s → numeral (spelled s) ≡ Some (spelling_value s)

-- the text of a raw number is a numeral, and means it
abbrev pub NumberTextsAreRead : Type 0
NumberTextsAreRead = (v : ℤ) → IsRaw v → numeral (number_text v) ≡ Some v
