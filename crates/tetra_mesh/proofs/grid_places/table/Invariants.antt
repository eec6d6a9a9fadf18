use Rattle.std.proofs.Common.{◌≡◌, ℕ, ◌<◌, pos, get_or, length}
use Rattle.tetra_mesh.specs.Tables.{IsPointPlace}
use Rattle.tetra_mesh.proofs.grid_places.table.Given as goal

abbrev pub invariant-loop-i : goal.invariant-loop-i
invariant-loop-i l = (length l.places ≡ 513) × ((k : ℕ) → k < l.i → IsPointPlace l.fn.view l.fn.axis k (get_or l.places k (pos 0)))
