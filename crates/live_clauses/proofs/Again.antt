-- A live list is whole: each of its steps is live though no choice is made, and so it stays as it is.
use Rattle.std.proofs.Common.{◌≡◌, ℕ, zero, suc, ◌-◌, ◌<◌, ◌≤◌, cond, List, length, replicate, refl, ap, sym, subst, ◌∙◌, arith}
use Rattle.std.proofs.lemmas.Bool.Decides.{Decides-ltb}
use Rattle.std.proofs.lemmas.Option.{get_or_from_slice_get, slice_get_within}
use Rattle.fixed_ops.specs.Arity.{arity_of}
use Rattle.interval_ops.specs.declared.choice.Choice.{Choice}
use Rattle.interval_ops.specs.declared.choice.Choice.TheVariants.{Both}
use Rattle.live_clauses.specs.declared.step.Step.{Step}
use Rattle.live_clauses.specs.Choices.{step_at, choice_at, AreChoices}
use Rattle.live_clauses.specs.Live.{representative, IsLive, kept_below, new_place, renumbered, live_of, IsWhole}
use Rattle.live_clauses.specs.Live.IsLive.{Last, First, Second}
use Rattle.live_clauses.specs.Steps.{IsTape}
use Rattle.live_clauses.proofs.Representatives.{step_at-stands, representative_both}
use Rattle.live_clauses.proofs.Needs.{keeps_kept, live_keeps, kept_live, live_kept}
use Rattle.live_clauses.proofs.Kept.{kept_below-kept, length-live_below, live_below-at, kept_at}
use Rattle.live_clauses.proofs.Keeping.{last_kept, length-live_of, live_of-tape}
use Rattle.live_clauses.proofs.RootLaws.{all_both}
use Rattle.live_clauses.proofs.Whole.{each_kept, live_of-whole}

-- no step of a list chooses an operand
abbrev NoneChoose : List Step → List Choice → Type 0
NoneChoose steps choices = (place : ℕ) → place < length steps → choice_at choices place ≡ Both

none-choices : (steps : List Step) (choices : List Choice) → NoneChoose steps choices → AreChoices steps choices
none-choices steps choices none = λ place step at not_min not_max. none place (slice_get_within steps place step at)

-- so each step stands for itself
module _ (steps : List Step) (choices : List Choice) (tape : IsTape steps) (none : NoneChoose steps choices) where
  abbrev choose : AreChoices steps choices
  choose = none-choices steps choices none

  stands_for_itself : (place : ℕ) → place < length steps → representative steps choices place ≡ place
  stands_for_itself place within = representative_both steps choices tape.each choose place within (none place within)

  live_within : (place : ℕ) → IsLive steps choices place → place < length steps
  live_within place live = (live_keeps steps choices tape.some tape.each choose place live).within

  -- the last step is live, and the operands of a live step are
  last_live : IsLive steps choices (length steps - 1)
  last_live = rw (← stands_for_itself (length steps - 1) (omega (arith, tape.some))) Last

  first_live : (place : ℕ) → IsLive steps choices place → 0 < arity_of (step_at steps place).op → IsLive steps choices (step_at steps place).a
  first_live place live has =
      let within = live_within place live in
      let before = (step_at-stands steps place tape.each within).fits.first has in
      subst (IsLive steps choices) (stands_for_itself (step_at steps place).a (omega (arith, before, within))) (First place live has)

  second_live : (place : ℕ) → IsLive steps choices place → 1 < arity_of (step_at steps place).op → IsLive steps choices (step_at steps place).b
  second_live place live has =
      let within = live_within place live in
      let before = (step_at-stands steps place tape.each within).fits.second has in
      subst (IsLive steps choices) (stands_for_itself (step_at steps place).b (omega (arith, before, within))) (Second place live has)

  -- the list stays as it is exactly where each step is live
  all_kept : ((place : ℕ) → place < length steps → IsLive steps choices place) → (n : ℕ) → n ≤ length steps → kept_below steps choices n ≡ n
  all_kept live zero within = refl
  all_kept live (suc n) within =
      let kept = live_kept steps choices tape.some tape.each choose n (live n (omega arith)) in
      omega (arith, kept_below-kept steps choices n kept, all_kept live n (omega arith))

  live-stays : ((place : ℕ) → place < length steps → IsLive steps choices place) → live_of steps choices ≡ steps
  live-stays live = live_of-whole steps choices tape choose (all_kept live (length steps) (omega arith))

  stays-live : live_of steps choices ≡ steps → (place : ℕ) → place < length steps → IsLive steps choices place
  stays-live stays place within =
      let all : kept_below steps choices (length steps) ≡ length steps = sym (length-live_below steps choices (length steps)) ∙ ap length stays in
      kept_live steps choices tape.some tape.each choose place (each_kept steps choices tape choose all place within)

-- what is live though none choose is so under all such choices
live-alike : (steps : List Step) (choices other : List Choice) → IsTape steps → NoneChoose steps choices → NoneChoose steps other
    → (place : ℕ) → IsLive steps choices place → IsLive steps other place
live-alike steps choices other tape none also _ Last =
    subst (IsLive steps other) (sym (stands_for_itself steps choices tape none (length steps - 1) (omega (arith, tape.some)))) (last_live steps other tape also)
live-alike steps choices other tape none also _ (First place live has) =
    let within = live_within steps choices tape none place live in
    let before = (step_at-stands steps place tape.each within).fits.first has in
    subst (IsLive steps other) (sym (stands_for_itself steps choices tape none (step_at steps place).a (omega (arith, before, within))))
    (first_live steps other tape also place (live-alike steps choices other tape none also place live) has)
live-alike steps choices other tape none also _ (Second place live has) =
    let within = live_within steps choices tape none place live in
    let before = (step_at-stands steps place tape.each within).fits.second has in
    subst (IsLive steps other) (sym (stands_for_itself steps choices tape none (step_at steps place).b (omega (arith, before, within))))
    (second_live steps other tape also place (live-alike steps choices other tape none also place live) has)

all_none : (steps : List Step) → NoneChoose steps (replicate (length steps) Both)
all_none steps = λ place within. all_both (length steps) place

pub whole-live : (steps : List Step) → IsTape steps → IsWhole steps → (place : ℕ) → place < length steps → IsLive steps (replicate (length steps) Both) place
whole-live steps tape whole = stays-live steps (replicate (length steps) Both) tape (all_none steps) whole

pub live-whole : (steps : List Step) → IsTape steps → ((place : ℕ) → place < length steps → IsLive steps (replicate (length steps) Both) place) → IsWhole steps
live-whole steps tape live = live-stays steps (replicate (length steps) Both) tape (all_none steps) live

-- a whole list stays as it is under all of them
pub whole-stands : (steps : List Step) (choices : List Choice) → IsTape steps → IsWhole steps → ((place : ℕ) → place < length steps → choice_at choices place ≡ Both) → live_of steps choices ≡ steps
whole-stands steps choices tape whole none =
    live-stays steps choices tape none (λ place within.
    live-alike steps (replicate (length steps) Both) choices tape (all_none steps) none place (whole-live steps tape whole place within))

module _ (steps : List Step) (choices : List Choice) (tape : IsTape steps) (choose : AreChoices steps choices) where
  abbrev new : List Step
  new = live_of steps choices

  abbrev unmade : List Choice
  unmade = replicate (length new) Both

  abbrev new_tape : IsTape new
  new_tape = live_of-tape steps choices tape choose

  -- what stands at a live step's number
  renumbered_at : (place : ℕ) → IsLive steps choices place → step_at new (kept_below steps choices place) ≡ renumbered (new_place steps choices) (step_at steps place)
  renumbered_at place live =
      let keeps = live_keeps steps choices tape.some tape.each choose place live in
      get_or_from_slice_get new _ _ _ (live_below-at steps choices (length steps) place keeps.within (keeps_kept steps choices tape.some tape.each choose place keeps))

  -- a live step is live at its number, though no choice is made
  stays_live : (place : ℕ) → IsLive steps choices place → IsLive new unmade (kept_below steps choices place)
  stays_live _ Last =
      let is : length new - 1 ≡ kept_below steps choices (last_kept steps choices tape choose) = omega (arith, length-live_of steps choices tape choose) in
      subst (IsLive new unmade) is (last_live new unmade new_tape (all_none new))
  stays_live _ (First place live has) =
      let there = renumbered_at place live in
      let arity : arity_of (step_at new (kept_below steps choices place)).op ≡ arity_of (step_at steps place).op = ap (λ s. arity_of s.op) there in
      let operand : (step_at new (kept_below steps choices place)).a ≡ new_place steps choices (step_at steps place).a =
      ap (λ s. s.a) there ∙ ap (λ b. cond b (new_place steps choices (step_at steps place).a) 0) ((Decides-ltb 0 (arity_of (step_at steps place).op)).1 has) in
      subst (IsLive new unmade) operand (first_live new unmade new_tape (all_none new) (kept_below steps choices place) (stays_live place live) (omega (arith, arity, has)))
  stays_live _ (Second place live has) =
      let there = renumbered_at place live in
      let arity : arity_of (step_at new (kept_below steps choices place)).op ≡ arity_of (step_at steps place).op = ap (λ s. arity_of s.op) there in
      let operand : (step_at new (kept_below steps choices place)).b ≡ new_place steps choices (step_at steps place).b =
      ap (λ s. s.b) there ∙ ap (λ b. cond b (new_place steps choices (step_at steps place).b) 0) ((Decides-ltb 1 (arity_of (step_at steps place).op)).1 has) in
      subst (IsLive new unmade) operand (second_live new unmade new_tape (all_none new) (kept_below steps choices place) (stays_live place live) (omega (arith, arity, has)))

  -- and each number is that of a live step
  pub live_of-is_whole : IsWhole (live_of steps choices)
  live_of-is_whole =
      live-whole new new_tape (λ at within.
      let found = kept_at steps choices (length steps) at (omega (arith, within, length-live_below steps choices (length steps))) in
      subst (IsLive new unmade) found.3 (stays_live found.0 (kept_live steps choices tape.some tape.each choose found.0 found.2)))
