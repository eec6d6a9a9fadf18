-- Each box on the ways to the samples is counted once.
use Rattle.std.proofs.Common.{◌≡◌, ℕ, zero, suc, ◌<◌, cond, [], ◌∷◌, length, refl, sym, ap, subst, ◌∙◌}
use Rattle.std.specs.List.{Contains, sum_by}
use Rattle.view_places.specs.Laws.{HalvesPart}
use Rattle.box_chains.specs.Chains.{Descent, Visit, chain, chain_within, is_split, next_visit, sides}
use Rattle.box_chains.specs.Counts.{first_lengths, spans_in}
use Rattle.box_chains.specs.Laws.{BoxesAreCountedOnce, IsOnWay}
use Rattle.box_chains.specs.Sums.{Sample}
use Rattle.box_chains.proofs.ChainLaws.{split-is_long}
use Rattle.box_chains.proofs.Paths.{IsOnPath, Splits, at_first, path, path-reached, path-sum, reached, reached-different, reached-on_path}
use Rattle.box_chains.proofs.SumLaws.{sum_in-same}

-- a chain is a way on which undecided boxes are split that are no leaves
pub chain-is : (n : ℕ) (d : Descent) (v : Visit) (s : Sample) → chain_within n d v s ≡ path (is_split d) n d v s
unfolding chain_within path
chain-is zero d v s = refl
chain-is (suc n) d v s = ap (λ l. v ∷ cond (is_split d v) l []) (chain-is n d (next_visit d v s) s)

pub splits : HalvesPart → (d : Descent) → 0 < d.leaf → Splits d (is_split d)
splits law d some = record { law = law; some = some; long = split-is_long d }

pub on-way : (d : Descent) (v w : Visit) → IsOnPath (is_split d) (sides v.box) d v w → IsOnWay d v w
on-way d v w way = record {
  sample = way.sample;
  lies = way.lies;
  on = subst (λ l. Contains l w) (sym (chain-is (sides v.box) d v way.sample)) way.on;
}

pub on-path : (d : Descent) (v w : Visit) → IsOnWay d v w → IsOnPath (is_split d) (sides v.box) d v w
on-path d v w way = record {
  sample = way.sample;
  lies = way.lies;
  on = subst (λ l. Contains l w) (chain-is (sides v.box) d v way.sample) way.on;
}

-- So each box on the ways to the samples is counted once.
pub boxes_are_counted_once_is : HalvesPart → BoxesAreCountedOnce
unfolding spans_in
boxes_are_counted_once_is law d v some is =
    let k = splits law d some in
    let n = sides v.box in
    record {
      boxes = reached (is_split d) n d v;
      different = reached-different n d (is_split d) v k is;
      each = λ w inside. on-way d v w (reached-on_path n d (is_split d) v w k is inside);
      all =
          λ w way. let path = on-path d v w way in
          path-reached n d (is_split d) v w path.sample k is path.lies path.on;
      sum =
          sum_in-same v.box (λ s. first_lengths s (chain d v s))
          (λ s. sum_by (at_first (λ w. length w.list) s) (path (is_split d) n d v s))
          (λ s lies. ap (first_lengths s) (chain-is n d v s))
          ∙ path-sum n d (is_split d) (λ w. length w.list) v k is;
    }
