-- The clauses of a model are steps that no choice leaves out, and their root list means what they mean.
use Rattle.std.proofs.Common.{◌≡◌, ℕ, zero, suc, ◌<◌, ◌++◌, ℤ, List, [], ◌∷◌, length, map, replicate, take, get_or, fold, slice_get, Some, inl, inr, refl, ap, sym, subst, ◌∙◌, arith}
use Rattle.std.proofs.lemmas.List.{get_or-take, length-take, length-map, length-replicate, get_or-replicate, get_or_past}
use Rattle.std.proofs.lemmas.Bool.{cases_lt}
use Rattle.std.proofs.lemmas.Option.{get_or_from_slice_get, same_Some, slice_get-get_or, slice_get_within}
use Rattle.fixed_ops.specs.Points.{Point}
use Rattle.solid_model.specs.declared.clause.Clause.{Clause}
use Rattle.solid_model.specs.Clauses.{AreInOrder, IsModel}
use Rattle.solid_model.specs.Values.{clause_value, solid_value}
use Rattle.interval_ops.specs.declared.choice.Choice.TheVariants.{Both}
use Rattle.live_clauses.specs.declared.packed_step.PackedStep.{PackedStep}
use Rattle.live_clauses.specs.declared.step.Step.{Step}
use Rattle.live_clauses.specs.Choices.{choice_at, AreChoices}
use Rattle.live_clauses.specs.Live.{live_of, root_of}
use Rattle.live_clauses.specs.Packed.{unpacked}
use Rattle.live_clauses.specs.Steps.{IsStepAt, AreSteps, IsTape, value_after, tape_value, step_of, steps_of}
use Rattle.live_clauses.specs.Meanings.{Meaning, MeanTheirChoices, ReadsItsOperands, tape_meaning}
use Rattle.live_clauses.proofs.Keeping.{live_of-meaning, live_of-tape}
use Rattle.live_clauses.proofs.ValueLaws.{number_at, number_at-reads}
use Rattle.live_clauses.proofs.Representatives.{left_chooses, right_chooses}

-- the clause that a step comes from
clause_of_step : (clauses : List Clause) (place : ℕ) (step : Step) → slice_get (steps_of clauses) place ≡ Some step
    → (clause : Clause) × (slice_get clauses place ≡ Some clause) × (step_of clause ≡ step)
clause_of_step [] place step at = (cc)
clause_of_step (c ∷ clauses) zero step at = (c, refl, same_Some _ _ at)
clause_of_step (c ∷ clauses) (suc place) step at = clause_of_step clauses place step at

steps_of-stand : (clauses : List Clause) → AreInOrder clauses → AreSteps (steps_of clauses)
steps_of-stand clauses stand place step at =
    let from = clause_of_step clauses place step at in
    let stands = stand place from.0 from.1 in
    subst (IsStepAt place) from.2 (record { raw = stands.raw; fits = stands.fits })

-- so are the steps of the first clauses
pub front-stands : (clauses : List Clause) (n : ℕ) → AreInOrder clauses → AreSteps (steps_of (take n clauses))
front-stands clauses n stand =
    steps_of-stand (take n clauses) (λ place clause at.
    let less = slice_get_within (take n clauses) place clause at in
    let below : place < n = omega (arith, less, length-take n clauses) in
    let within : place < length clauses = omega (arith, less, length-take n clauses) in
    let is : get_or clauses place clause ≡ clause = sym (get_or-take n clauses place clause below) ∙ get_or_from_slice_get (take n clauses) place clause clause at in
    stand place clause (slice_get-get_or clauses place clause within ∙ ap Some is))

-- and those of a front of a list
pub taken-stand : (steps : List Step) (n : ℕ) → AreSteps steps → AreSteps (take n steps)
taken-stand steps n stand place step at =
    let less = slice_get_within (take n steps) place step at in
    let below : place < n = omega (arith, less, length-take n steps) in
    let within : place < length steps = omega (arith, less, length-take n steps) in
    let is : get_or steps place step ≡ step = sym (get_or-take n steps place step below) ∙ get_or_from_slice_get (take n steps) place step step at in
    stand place step (slice_get-get_or steps place step within ∙ ap Some is)

pub steps_of-tape : (clauses : List Clause) → IsModel clauses → IsTape (steps_of clauses)
steps_of-tape clauses model = record {
  some = omega (arith, length-map clauses step_of, model.some);
  few = omega (arith, length-map clauses step_of, model.clauses_are.few);
  each = steps_of-stand clauses model.clauses_are.each;
}

-- no choice is made
pub all_both : (n place : ℕ) → choice_at (replicate n Both) place ≡ Both
all_both n place =
    elim (cases_lt place n) [
      | inl within ↦ get_or-replicate n place Both Both within
      | inr past ↦ get_or_past (replicate n Both) place Both (omega (arith, length-replicate n Both))
    ]

pub all_both-choices : (steps : List Step) (n : ℕ) → AreChoices steps (replicate n Both)
all_both-choices steps n = λ place step at not_min not_max. all_both n place

all_both-means : {D : Type 0} (m : Meaning D) (steps : List Step) (n : ℕ) → MeanTheirChoices m steps (replicate n Both)
all_both-means m steps n = record {
  left = λ place step at is. absurd (left_chooses _ is (all_both n place));
  right = λ place step at is. absurd (right_chooses _ is (all_both n place));
}

-- so the root list means what the list of all clauses means
pub root_of-meaning : {D : Type 0} (m : Meaning D) → ReadsItsOperands m → (clauses : List Clause) → IsModel clauses → tape_meaning m (root_of clauses) ≡ tape_meaning m (steps_of clauses)
root_of-meaning m reads clauses model =
    live_of-meaning (steps_of clauses) (replicate (length clauses) Both) (steps_of-tape clauses model) (all_both-choices (steps_of clauses) (length clauses)) m reads
    (all_both-means m (steps_of clauses) (length clauses))

-- the values of the steps are those of the clauses
values-steps_of : (p : Point) (earlier : List ℤ) (clauses : List Clause)
    → fold (λ before step. before ++ value_after p before step ∷ []) earlier (steps_of clauses) ≡ fold (λ before clause. before ++ clause_value p before clause ∷ []) earlier clauses
values-steps_of p earlier [] = refl
values-steps_of p earlier (c ∷ clauses) = values-steps_of p (earlier ++ clause_value p earlier c ∷ []) clauses

pub steps_of-value : (p : Point) (clauses : List Clause) → tape_value p (steps_of clauses) ≡ solid_value p clauses
steps_of-value p clauses =
    rw (values-steps_of p [] clauses) (rw (length-map clauses step_of) refl)

-- and its value is theirs
pub root_of-value : (p : Point) (clauses : List Clause) → IsModel clauses → tape_value p (root_of clauses) ≡ solid_value p clauses
root_of-value p clauses model = root_of-meaning (number_at p) (number_at-reads p) clauses model ∙ steps_of-value p clauses

pub root_of-tape : (clauses : List Clause) → IsModel clauses → IsTape (root_of clauses)
root_of-tape clauses model = live_of-tape (steps_of clauses) (replicate (length clauses) Both) (steps_of-tape clauses model) (all_both-choices (steps_of clauses) (length clauses))

-- the root list as it is made: from the clauses as they are kept
pub root-made : (clauses : List Clause) (table : List ℤ) (kept live : List PackedStep) → map (unpacked table) kept ≡ steps_of clauses
    → map (unpacked table) live ≡ live_of (map (unpacked table) kept) (replicate (length kept) Both) → map (unpacked table) live ≡ root_of clauses
root-made clauses table kept live is made =
    let long : length kept ≡ length clauses = sym (length-map kept (unpacked table)) ∙ ap length is ∙ length-map clauses step_of in
    made ∙ ap (λ s. live_of s (replicate (length kept) Both)) is ∙ ap (λ n. live_of (steps_of clauses) (replicate n Both)) long
