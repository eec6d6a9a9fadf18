-- What always holds of the halves of a box, and of the places of its samples.
use Rattle.std.specs.Prelude.{◌≡◌, ℕ, ◌≤◌, count_by, if◌then◌else◌}
use Rattle.view_places.specs.declared.lattice.Axis.{Axis}
use Rattle.view_places.specs.declared.lattice.Lattice.{Lattice}
use Rattle.interval_ops.specs.Spans.{IsSpan}
use Rattle.view_places.specs.Boxes.{Indices, halves_of, has_sample}
use Rattle.view_places.specs.Places.{steps_of}
use Rattle.view_places.specs.Spans.{IsRange, last_of, range_along}
use Rattle.view_places.specs.Window.{Window, IsWindow}

-- each sample of a box lies in exactly one of its halves, and no other sample lies in any
abbrev pub HalvesPart : Type 0
HalvesPart =
    (leaf : ℕ) (b : Indices) (i j k : ℕ) → count_by (has_sample i j k) (halves_of leaf b) ≡
    (if has_sample i j k b then 1 else 0)

-- the range along an axis has the least and the greatest place of the samples as its ends
abbrev pub RangesHold : Type 0
RangesHold =
    (v : Window) (lattice : Lattice) (axis : Axis) (low high : ℕ) → IsWindow v
    → low ≤ last_of lattice high
    → IsRange v lattice axis low (last_of lattice high) (range_along v lattice axis low high)

-- the range along an axis is a span: its ends are raw numbers in order
abbrev pub RangesAreSpans : Type 0
RangesAreSpans =
    (v : Window) (lattice : Lattice) (axis : Axis) (low high : ℕ) → IsWindow v
    → low ≤ steps_of v lattice axis
    → last_of lattice high ≤ steps_of v lattice axis → IsSpan (range_along v lattice axis low high)
