-- One step more.
use Rattle.std.proofs.Common.{◌≡◌, ℕ, suc, zero, ◌+◌, ◌<◌, ◌≤◌, arith, refl, sym, ap, inl, inr, ◌∙◌}
use Rattle.std.specs.Prelude.{◌⊎◌}
use Rattle.std.proofs.lemmas.Bool.{cases_lt}
use Rattle.ply_check.specs.Walks.{IsNotBack, stepped, table}
use Rattle.ply_check.proofs.Walks.{one_more}
use Rattle.ply_check.proofs.rounds.is_away.Goals as goal

next_step : (next : ℕ → ℕ) (start at step : ℕ) → 0 < step → ((n : ℕ) → suc n ≡ step → at ≡ stepped next n start) → stepped next step start ≡ next at
next_step next start at zero some walk = absurd (omega (arith, some))
next_step next start at (suc n) some walk = one_more next n start ∙ ap next (sym (walk n refl))

away_on : (next : ℕ → ℕ) (start step : ℕ) → IsNotBack next step start → (stepped next step start ≡ start → ⊥) → IsNotBack next (step + 1) start
away_on next start step away here i some less back = by (cases_lt i step)
  where
    by : (i < step) ⊎ (step ≤ i) → ⊥
    by (inl low) = away i some low back
    by (inr high) = let e : i ≡ step = omega (arith, high, less) in here (ap (λ (k : ℕ). stepped next k start) (sym e) ∙ back)

pub returns-then-at-start-clause-back : goal.returns-then-at-start-clause-back
returns-then-at-start-clause-back c =
    λ no away.
    away c.loop-step._step (omega arith) (omega arith)
    (next_step (table c.args.next.now) c.args.start c.loop-step.at c.loop-step._step (omega arith) c.loop-step.invariant.walk ∙ c.if-at-start.true)

pub loop-step-preserved : goal.loop-step-preserved
loop-step-preserved c =
    let on = next_step (table c.args.next.now) c.args.start c.loop-step.at c.loop-step._step (omega arith) c.loop-step.invariant.walk in
    record {
      low = c.requires.below c.loop-step.at 0 c.loop-step.invariant.low;
      walk = λ n e. let k : n ≡ c.loop-step._step = omega (arith, e) in sym on ∙ ap (λ (i : ℕ). stepped (table c.args.next.now) i c.args.start) (sym k);
      away = away_on (table c.args.next.now) c.args.start c.loop-step._step c.loop-step.invariant.away (λ back. c.if-at-start.false (sym on ∙ back));
    }
