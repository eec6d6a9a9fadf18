-- Each constant gets the next place of the new table, and the steps before it keep theirs.
use Rattle.std.proofs.Common.{◌≡◌, ℕ, ◌+◌, ◌<◌, ◌≤◌, ℤ, Bool, true, false, cond, List, [], ◌∷◌, ◌++◌, drop, get_or, length, map, set, take, refl, ap, sym, subst, ◌∙◌, arith}
use Rattle.std.proofs.lemmas.List.{drop-set-lt, drop_more, length-append, length-map, length-set, length-take, take_more, take_more_set}
use Rattle.live_clauses.specs.Packed.{is_constant, number_in, unpacked}
use Rattle.live_clauses.specs.Steps.{AreSteps, IsStepAt}
use Rattle.live_clauses.specs.declared.packed_step.PackedStep.{PackedStep}
use Rattle.live_clauses.specs.declared.step.Step.{Step}
use Rattle.live_clauses.proofs.RootLaws.{taken-stand}
use Rattle.live_clauses.proofs.Stored.{kept-pushed, kept_at, kept_at-is, no_step, read-stands, read-stored, step_at-unpacked}
use Rattle.live_clauses.proofs.owned.own_constants.Goals as goal

-- what is behind a place begins with what stands there
head-same : (steps others : List PackedStep) (at : ℕ) → at < length steps → at < length others → drop at steps ≡ drop at others → kept_at steps at ≡ kept_at others at
head-same steps others at here there same =
    ap (λ l. get_or l 0 no_step) (sym (drop_more steps at no_step here) ∙ same ∙ drop_more others at no_step there)

tail-same : (steps others : List PackedStep) (at : ℕ) → at < length steps → at < length others → drop at steps ≡ drop at others → drop (at + 1) steps ≡ drop (at + 1) others
tail-same steps others at here there same =
    ap (drop 1) (sym (drop_more steps at no_step here) ∙ same ∙ drop_more others at no_step there)

-- a condition that is asked twice
twice-first : (b : Bool) (n a : ℕ) → cond b n a ≡ cond b n (cond b 0 a)
twice-first true n a = refl
twice-first false n a = refl

twice-more : (b : Bool) (v none : ℤ) → cond b (v ∷ []) [] ≡ cond b (cond b v none ∷ []) []
twice-more true v none = refl
twice-more false v none = refl

one-more : (b : Bool) (v : ℤ) → length (cond b (v ∷ []) []) ≤ 1
one-more true v = omega arith
one-more false v = omega arith

pub own_constant-requires-clause-stored : goal.own_constant-requires-clause-stored
own_constant-requires-clause-stored c =
    let first = c.args.steps.now in
    let at = c.loop-at.at in
    let there : at < length first = omega (arith, c.loop-at-test.true, c.loop-at.invariant.long) in
    let here : at < length c.loop-at.steps = omega (arith, there, c.loop-at.invariant.long) in
    subst (λ (k : PackedStep). is_constant k.op ≡ true → k.a < length c.args.table.now) (sym (head-same c.loop-at.steps first at here there c.loop-at.invariant.behind))
    (read-stored c.args.table.now first c.requires.tape.each at (kept_at first at) there (kept_at-is first at there))

pub loop-at-preserved : goal.loop-at-preserved
loop-at-preserved c =
    let first = c.args.steps.now in
    let steps = c.loop-at.steps in
    let table = c.args.table.now in
    let constants = c.loop-at.constants.items in
    let at = c.loop-at.at in
    let all = map (unpacked table) first in
    let one = c.own_constant.new.step in
    let there : at < length first = omega (arith, c.loop-at-test.true, c.loop-at.invariant.long) in
    let here : at < length steps = omega (arith, there, c.loop-at.invariant.long) in
    let read = kept_at steps at in
    let same : read ≡ kept_at first at = head-same steps first at here there c.loop-at.invariant.behind in
    let step : Step = unpacked table read in
    let stands : IsStepAt at step =
    subst (λ (k : PackedStep). IsStepAt at (unpacked table k)) (sym same) (read-stands table first c.requires.tape.each at (kept_at first at) there (kept_at-is first at there)) in
    let each : AreSteps (map (unpacked constants) (take at steps)) = subst AreSteps (sym c.loop-at.invariant.front) (taken-stand all at c.requires.tape.each) in
    let many : length (take at steps) ≡ at = omega (arith, length-take at steps, here) in
    let pushed = kept-pushed constants (take at steps) step each (subst (λ n. IsStepAt n step) (sym many) stands) one c.own_constant.new.constants.items (take (at + 1) (set steps at one))
    c.own_constant.ensures.op (c.in_ok-own_constant.ensures.a ∙ twice-first (is_constant read.op) (length constants) read.a) c.in_ok-own_constant.ensures.b
    (c.in_ok-own_constant.ensures.table ∙ ap (λ l. constants ++ l) (twice-more (is_constant read.op) (number_in table read.a) _)) (take_more_set steps at one here) in
    record {
      front = pushed ∙ ap (λ l. l ++ step ∷ []) c.loop-at.invariant.front
          ∙ ap (λ s. take at all ++ s ∷ []) (ap (unpacked table) same ∙ step_at-unpacked table first at (kept_at first at) there (kept_at-is first at there))
          ∙ sym (take_more all at _ (omega (arith, there, length-map first (unpacked table))));
      behind = drop-set-lt (at + 1) steps at one (omega arith) ∙ tail-same steps first at here there c.loop-at.invariant.behind;
      long = omega (arith, length-set steps at one, c.loop-at.invariant.long);
      few = omega (arith, c.loop-at.invariant.few, ap length c.in_ok-own_constant.ensures.table, length-append constants (cond (is_constant read.op) (number_in table read.a ∷ []) []), one-more (is_constant read.op) (number_in table read.a));
    }
