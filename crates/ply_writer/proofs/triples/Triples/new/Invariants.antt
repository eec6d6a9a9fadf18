use Rattle.std.proofs.Common.{◌≡◌, ℕ, ◌<◌, List, ◌∷◌, length}
use Rattle.std.specs.Prelude.{get_or}
use Rattle.ply_writer.specs.Triples.{triple_text, zeros_before}
use Rattle.ply_writer.proofs.triples.Triples.new.Given as goal

abbrev pub invariant-loop-number : goal.invariant-loop-number
invariant-loop-number l = record {
  room : length l.texts.items ≡ l.number;
  each : (k : ℕ) (d : List ℕ) → k < l.number → get_or l.texts.items k d ≡ zeros_before k ∷ triple_text k;
}
