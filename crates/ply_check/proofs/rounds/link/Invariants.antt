use Rattle.std.proofs.Common.{◌≡◌, ◌<◌, length, take}
use Rattle.std.specs.Prelude.{All}
use Rattle.ply_check.specs.Arcs.{pairs}
use Rattle.ply_check.specs.Walks.{HaveOneSource, LeadsOn, table}
use Rattle.ply_check.proofs.rounds.link.Given as goal

abbrev pub invariant-loop-arc : goal.invariant-loop-arc
invariant-loop-arc l = record {
  size : length l.next ≡ length l.initial.next;
  below : All (λ v. v < length l.initial.next) l.next;
  leads : HaveOneSource (pairs l.arcs) → LeadsOn (table l.next) (pairs (take l.arc-index l.arcs));
}
