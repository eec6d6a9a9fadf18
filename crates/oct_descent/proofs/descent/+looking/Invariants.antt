use Rattle.std.proofs.Common.{◌≡◌, ◌≤◌, ◌+◌, ◌*◌, ℕ, drop, length, take}
use Rattle.std.specs.Prelude.{IfSome}
use Rattle.std.specs.List.{All}
use Rattle.box_chains.specs.Desks.{HasMore, list_of, samples}
use Rattle.box_chains.specs.Chains.{sides, visit}
use Rattle.box_chains.specs.Outcomes.{HandsOn, all_seen, asked_outcomes}
use Rattle.kuhn_cells.specs.Triangles.{GridPoint}
use Rattle.oct_descent.specs.Adding.{Adds}
use Rattle.oct_descent.specs.Bound.{CountsHullsAtLeast}
use Rattle.oct_descent.specs.After.{received_half}
use Rattle.oct_descent.specs.AfterDesks.{AreWorkedAfter, IsEnoughHalvesAfter, PaysHalvesAfter}
use Rattle.oct_descent.specs.GridValues.{list_grid_value}
use Rattle.oct_descent.specs.KeptBoxes.{halves_places}
use Rattle.oct_descent.specs.OldBoxes.{AreOldHalves, behind_halves, received_by}
use Rattle.view_places.specs.Window.{size_of}
use Rattle.oct_descent.specs.Ways.{gridded}
use Rattle.oct_descent.proofs.AfterLooks.{halves_below_after, halves_long_below_after}
use Rattle.oct_descent.specs.Known.{AreSettled, Charges, Grows}
use Rattle.oct_descent.specs.Halves.{owned}
use Rattle.oct_descent.specs.Asked.{longer}
use Rattle.oct_descent.specs.Kinds.{known_of, mesh}
use Rattle.oct_descent.proofs.descent.+looking.Given as goal

-- a box has five turns before its halves have theirs
abbrev pub decreases-look_into_told : goal.decreases-look_into_told
decreases-look_into_told l = 5 * sides l.b + 4

abbrev pub decreases-look_into_split : goal.decreases-look_into_split
decreases-look_into_split l = 5 * sides l.b + 3

abbrev pub decreases-look_into_anew : goal.decreases-look_into_anew
decreases-look_into_anew l = 5 * sides l.b + 2

abbrev pub decreases-look_into_halves : goal.decreases-look_into_halves
decreases-look_into_halves l = 5 * sides l.b + 1

abbrev pub decreases-look_into_each_half : goal.decreases-look_into_each_half
decreases-look_into_each_half l = 5 * sides l.b

abbrev pub invariant-look_into_each_half-loop-half : goal.invariant-look_into_each_half-loop-half
invariant-look_into_each_half-loop-half l = let list = list_of l.fn.desk l.live in let d = gridded l.fn.desk.view in let was = received_by l.fn.before in record {
  more : HasMore l.fn.desk l.desk;
  few : l.at ≤ l.half-index;
  told : drop l.at (all_seen l.desk.lists l.outcomes) ≡ asked_outcomes (samples l.fn.desk) list (longer mesh (size_of l.fn.desk.view) (drop l.half-index l.half-items));
  hand : All (HandsOn (length list) l.desk.lists) l.outcomes;
  stands : IfSome l.fn.before (AreOldHalves l.fn.desk.view l.fn.b (drop l.half-index l.half-items) l.boxes.before);
  left : behind_halves d was (drop l.half-index l.half-items) l.boxes.before ≡ behind_halves d was l.half-items l.fn.boxes.before;
  adds : Adds l.fn.boxes l.boxes (halves_places d list (take l.half-index l.half-items));
  settled : All (λ h. AreSettled d (list_grid_value l.fn.desk.view list) h (known_of l.values)) (take l.half-index l.half-items);
  grows : Grows (list_grid_value l.fn.desk.view list) l.fn.b (known_of l.fn.values) (known_of l.values);
  counted : (f : GridPoint → ℕ) → IsEnoughHalvesAfter f d was list l.half-items
      → Charges f (owned list l.half-items + halves_below_after d was list (take l.half-index l.half-items)) (known_of l.fn.values) (known_of l.values) l.fn.tally l.tally;
  worked : All (λ h. AreWorkedAfter d (received_half was h) (visit h list) (known_of l.values)) (take l.half-index l.half-items);
  paid : PaysHalvesAfter d was list l.half-items (known_of l.fn.values) (known_of l.values) l.fn.tally l.tally;
  traced : CountsHullsAtLeast (owned list l.half-items + halves_long_below_after d was list (take l.half-index l.half-items)) l.fn.tally l.tally;
}
