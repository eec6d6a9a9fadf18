use Rattle.std.proofs.Common.{◌≡◌, ◌+◌, ◌<◌, ℕ, Bool, List, length}
use Rattle.std.specs.Prelude.{◌||◌}
use Rattle.std.specs.List.{All}
use Rattle.arrayvec.specs.ArrayVec.{array_vec_len}
use Rattle.fixed_ops.specs.Counts.{Counts}
use Rattle.normal_shade.specs.Marks.{has_top_at, lit_along}
use Rattle.normal_shade.specs.TopSamples.{AllButWaiting, IsSample}
use Rattle.normal_shade.proofs.Lit.{left_of}
use Rattle.normal_shade.proofs.lighting.light_row.Given as goal

abbrev pub invariant-loop-i : goal.invariant-loop-i
invariant-loop-i l = record {
  room : l.scratch ≡ l.fn.scratch;
  same : length l.pixels ≡ length l.fn.pixels;
  few : array_vec_len l.waiting < 8;
  samples : All (IsSample l.places.view (length l.fn.pixels)) l.waiting.items;
  lit : (columns : ℕ → Bool) (points : ℕ) (old : List ℕ) (before : Counts)
      → AllButWaiting l.places.view l.list l.tops columns points l.fn.waiting.items old l.fn.pixels before l.fn.tally
      → AllButWaiting l.places.view l.list l.tops (λ p. columns p || has_top_at l.fn.w l.tops (left_of l.fn.b l.fn.j l.i) p)
      (points + lit_along l.places.view l.list l.tops l.fn.b l.fn.j l.fn.b.x0 l.i) l.waiting.items old l.pixels before l.tally;
}
