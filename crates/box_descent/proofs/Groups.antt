-- Visitors that are asked once which of the children of a box they want.
use Rattle.std.proofs.Common.{◌≡◌, ℕ, ◌*◌, Bool, true, false, cond, List, [], ◌∷◌, ◌++◌, drop, length, refl, sym, ap, subst, ◌∙◌, ◌⊎◌, inl, inr, take, zero-mul, arith}
use Rattle.std.specs.Prelude.{Option, Some, None, slice_get}
use Rattle.std.specs.List.{filter}
use Rattle.std.proofs.lemmas.List.{drop_all, take_all}
use Rattle.box_chains.specs.Chains.{Descent, Visit, handed_on, visit}
use Rattle.box_chains.specs.Tallied.{CountsAtMost}
use Rattle.fixed_ops.specs.Counts.{Counts}
use Rattle.interval_ops.specs.HullCounts.{CountsHulls}
use Rattle.live_clauses.specs.declared.step.Step.{Step}
use Rattle.view_places.specs.Boxes.{Indices, halves_of}
use Rattle.box_descent.specs.Plans.{children, first_group, group_size, second_group}
use Rattle.box_descent.specs.Runs.{Below, Group, Left, Runs, Stops, StopsBelow, StopsLater, firsts, seconds, traces}
use Rattle.box_descent.specs.Visitors.{Meaning}
use Rattle.box_descent.specs.declared.plan.Order.{Order}
use Rattle.box_descent.specs.declared.plan.Order.TheVariants.{Ascending}
use Rattle.box_descent.specs.declared.plan.Plan.{Plan}

-- what each visit keeps, all keep
pub runs-keep : {S M : Type 0} (m : Meaning S M) (d : Descent) (tape : List Step) (P : S → Type 0)
    → ((a c : S) (b : Indices) (t u : Counts) → P a → m.draws d a c (visit b tape) t u → P c)
    → (a c : S) (boxes : List Indices) (t u : Counts) → P a → Runs m d tape a c boxes t u → P c
runs-keep m d tape P keeps a c [] t u p h = subst P h.0 p
runs-keep m d tape P keeps a c (b ∷ bs) t u p h = runs-keep m d tape P keeps h.mid c bs h.tally u (keeps a h.mid b t h.tally p h.first) h.rest

-- boxes that are visited, and then one more
pub record AreVisitedThen {S M : Type 0} (m : Meaning S M) (d : Descent) (tape : List Step) (a c : S) (boxes : List Indices) (b : Indices) (t u : Counts) : Type 0 where
  pub mid : S
  pub tally : Counts
  pub first : Runs m d tape a mid boxes t tally
  pub last : m.draws d mid c (visit b tape) tally u

pub runs-last : {S M : Type 0} (m : Meaning S M) (d : Descent) (tape : List Step) (a c : S) (boxes : List Indices) (b : Indices) (t u : Counts) → Runs m d tape a c (boxes ++ b ∷ []) t u
    → AreVisitedThen m d tape a c boxes b t u
runs-last {S} m d tape a c [] b t u h = record {
  mid = a;
  tally = t;
  first = (refl, refl);
  last = subst (λ (s : S). m.draws d a s (visit b tape) t u) h.rest.0 (subst (λ (k : Counts). m.draws d a h.mid (visit b tape) t k) h.rest.1 h.first);
}
runs-last m d tape a c (x ∷ xs) b t u h =
    let rest = runs-last m d tape h.mid c xs b h.tally u h.rest in
    record { mid = rest.mid; tally = rest.tally; first = record { mid = h.mid; tally = h.tally; first = h.first; rest = rest.first }; last = rest.last }

-- where children are visited in ascending order, the first group has all of them
first-all : (plan : Plan) (b : Indices) → plan.order ≡ Ascending → first_group plan b ≡ halves_of plan.leaf b
first-all plan b e = rw e (take_all (length (halves_of plan.leaf b)) (halves_of plan.leaf b) (omega arith))

second-none : (plan : Plan) (b : Indices) → plan.order ≡ Ascending → second_group plan b ≡ []
second-none plan b e = rw e (drop_all (length (halves_of plan.leaf b)) (halves_of plan.leaf b) (omega arith))

-- So they are traced and visited together.
pub record IsOneGroup {S M : Type 0} (m : Meaning S M) (d : Descent) (v : Visit) (a c : S) (t u : Counts) : Type 0 where
  pub tally : Counts
  pub group : Group m d (handed_on d v) (filter (m.wanted d a) (halves_of m.plan.leaf v.box)) a c (filter (m.wanted d a) (halves_of m.plan.leaf v.box)) t tally
  pub none : CountsHulls 0 tally u

pub one-group : {S M : Type 0} (m : Meaning S M) (d : Descent) (v : Visit) (a c : S) (t u : Counts) → m.plan.order ≡ Ascending → Below m d v a c t u → IsOneGroup m d v a c t u
one-group {S} m d v a c t u e h =
    let second = subst (λ bs. Group m d (handed_on d v) (filter (m.wanted d h.mid) bs) h.mid c (filter (m.wanted d h.mid) bs) h.tally u) (second-none m.plan v.box e) h.second in
    record {
      tally = h.tally;
      group = subst (λ (s : S). Group m d (handed_on d v) (filter (m.wanted d a) (halves_of m.plan.leaf v.box)) a s (filter (m.wanted d a) (halves_of m.plan.leaf v.box)) t h.tally) second.runs.0
          (subst (λ bs. Group m d (handed_on d v) (filter (m.wanted d a) bs) a h.mid (filter (m.wanted d a) bs) t h.tally) (first-all m.plan v.box e) h.first);
      none = subst (λ (k : Counts). CountsHulls 0 h.tally k) second.runs.1 (subst (λ n. CountsHulls n h.tally second.tally) (zero-mul (length (handed_on d v))) second.traced);
    }

-- and if not all of them are visited, it is among these that memory is wanted, or after them
pub record StopsAfter {S M : Type 0} (m : Meaning S M) (d : Descent) (v : Visit) (a c : S) (t u : Counts) : Type 0 where
  pub tally : Counts
  pub group : Group m d (handed_on d v) (filter (m.wanted d a) (halves_of m.plan.leaf v.box)) a c (filter (m.wanted d a) (halves_of m.plan.leaf v.box)) t tally
  pub none : CountsAtMost 0 0 tally u

abbrev pub StopsInGroup : {S M : Type 0} → Meaning S M → Descent → Visit → S → S → Counts → Counts → Type 0
StopsInGroup m d v a c t u =
    Stops m d (handed_on d v) (filter (m.wanted d a) (halves_of m.plan.leaf v.box)) a c t u ⊎ StopsAfter m d v a c t u

no-box : {A : Type 0} (place : ℕ) (b : Indices) → slice_get [] place ≡ Some b → A
no-box place b there = absurd (omega (arith, ap (λ (o : Option Indices). is-some o) there))
  where
    is-some : Option Indices → ℕ
    is-some None = 0
    is-some (Some x) = 1

pub stops-in : {S M : Type 0} (m : Meaning S M) (d : Descent) (v : Visit) (a c : S) (t u : Counts) → m.plan.order ≡ Ascending → StopsBelow m d v a c t u → StopsInGroup m d v a c t u
stops-in m d v a c t u e (inl h) =
    inl (subst (λ bs. Stops m d (handed_on d v) (filter (m.wanted d a) bs) a c t u) (first-all m.plan v.box e) h)
stops-in {S} m d v a c t u e (inr h) = by (subst (λ bs. Stops m d (handed_on d v) (filter (m.wanted d h.mid) bs) h.mid c h.tally u) (second-none m.plan v.box e) h.second)
  where
    first : Group m d (handed_on d v) (filter (m.wanted d a) (halves_of m.plan.leaf v.box)) a h.mid (filter (m.wanted d a) (halves_of m.plan.leaf v.box)) t h.tally
    first = subst (λ bs. Group m d (handed_on d v) (filter (m.wanted d a) bs) a h.mid (filter (m.wanted d a) bs) t h.tally) (first-all m.plan v.box e) h.first

    by : Stops m d (handed_on d v) [] h.mid c h.tally u → StopsInGroup m d v a c t u
    by (inl none) = inr (record {
      tally = h.tally;
      group = subst (λ (s : S). Group m d (handed_on d v) (filter (m.wanted d a) (halves_of m.plan.leaf v.box)) a s (filter (m.wanted d a) (halves_of m.plan.leaf v.box)) t h.tally) none.0 first;
      none = subst (λ n. CountsAtMost 0 n h.tally u) (zero-mul (length (handed_on d v))) none.1;
    })
    by (inr left) = no-box left.place left.box left.there
