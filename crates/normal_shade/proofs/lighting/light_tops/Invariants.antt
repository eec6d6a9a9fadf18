use Rattle.std.proofs.Common.{◌≡◌, ◌<◌, length}
use Rattle.std.specs.List.{All}
use Rattle.arrayvec.specs.ArrayVec.{array_vec_len}
use Rattle.normal_shade.specs.Marks.{has_top_at}
use Rattle.normal_shade.specs.TopSamples.{AllButWaiting, IsSample}
use Rattle.normal_shade.proofs.Rows.{lit_to}
use Rattle.normal_shade.proofs.lighting.light_tops.Given as goal

abbrev pub invariant-loop-j : goal.invariant-loop-j
invariant-loop-j l = record {
  same : l.b ≡ l.fn.b;
  room : l.scratch ≡ l.fn.scratch;
  as_many : length l.pixels ≡ length l.fn.pixels;
  few : array_vec_len l.waiting < 8;
  samples : All (IsSample l.places.view (length l.fn.pixels)) l.waiting.items;
  lit : AllButWaiting l.places.view l.list l.tops (has_top_at l.fn.w l.tops (record l.fn.b { y1 = l.j }))
      (lit_to l.places.view l.list l.tops l.fn.b l.j) l.waiting.items l.fn.pixels l.pixels l.fn.tally l.tally;
}
