-- Boxes that are visited one after another, and their children.
use Rattle.std.proofs.Common.{◌≡◌, ℕ, ◌+◌, ◌-◌, ◌<◌, ◌&&◌, Bool, true, false, cond, List, ◌∷◌, drop, length, get_or, reverse, take, refl, sym, ap, subst, ◌∙◌}
use Rattle.std.specs.Prelude.{Result, Ok, Err, OnErr}
use Rattle.std.specs.List.{All, filter}
use Rattle.std.proofs.lemmas.List.{drop_more, length-reverse}
use Rattle.std.proofs.lemmas.List.Elements.{All-weaker}
use Rattle.std.proofs.lemmas.List.Sorted.{All-permutation, IsPermutation-reverse}
use Rattle.box_chains.proofs.HalfLaws.{halves-are_parts}
use Rattle.box_chains.proofs.Lanes.{rest-is}
use Rattle.box_chains.specs.Chains.{Descent, Visit, decision, is_long, sides, visit}
use Rattle.box_chains.specs.Desks.{HasMore, Tracing, list_of}
use Rattle.box_chains.specs.Parts.{IsPart}
use Rattle.fixed_ops.specs.Counts.{Counts}
use Rattle.live_clauses.specs.declared.step.Step.{Step}
use Rattle.view_places.specs.Boxes.{Indices, IsBox, halves_of}
use Rattle.box_descent.specs.Looked.{IsPlaced, MayVisit, looked}
use Rattle.box_descent.specs.Plans.{children, first_group, goes_on, goes_on_by, group_size, is_backwards, meets_border, second_group}
use Rattle.box_descent.specs.Runs.{Group, Stops}
use Rattle.box_descent.specs.VisitorLaws.{IsSplit}
use Rattle.box_descent.specs.Visitors.{Meaning}
use Rattle.box_descent.specs.declared.plan.Plan.{Plan}
use Rattle.box_descent.proofs.Longest.{list-kept, longest, looked-more, part-placed, parts-shorter}

pub on_err : {T E : Type 0} (r : Result T E) (P : Type 0) → P → OnErr r P
on_err (Ok x) P p = tt
on_err (Err e) P p = p

-- what is so of a descent and of a tape
pub moved : (plan : Plan) (P : Descent → List Step → Type 0) (before after : Tracing) (at : ℕ) → HasMore before after → at < length before.lists → P (looked plan after) (list_of after at) → P (looked plan before) (list_of before at)
moved plan P before after at more among p = subst (λ d. P d (list_of before at)) (looked-more plan before after more) (subst (λ l. P (looked plan after) l) (list-kept before after at more among) p)

pub back : (plan : Plan) (P : Descent → List Step → Type 0) (before after : Tracing) (at : ℕ) → HasMore before after → at < length before.lists → P (looked plan before) (list_of before at) → P (looked plan after) (list_of after at)
back plan P before after at more among p = subst (λ d. P d (list_of after at)) (sym (looked-more plan before after more)) (subst (λ l. P (looked plan before) l) (sym (list-kept before after at more among)) p)

-- the children of a box, from the first to the last or the other way round, are its halves
pub children-all : (P : Indices → Type 0) (plan : Plan) (b : Indices) → All P (halves_of plan.leaf b) → All P (children plan b)
children-all P plan b halves = by (is_backwards plan b)
  where
    by : (t : Bool) → All P (cond t (reverse (halves_of plan.leaf b)) (halves_of plan.leaf b))
    by true = All-permutation P (halves_of plan.leaf b) (reverse (halves_of plan.leaf b)) (IsPermutation-reverse (halves_of plan.leaf b)) halves
    by false = halves

pub children-many : (plan : Plan) (b : Indices) → length (children plan b) ≡ length (halves_of plan.leaf b)
children-many plan b = by (is_backwards plan b)
  where
    by : (t : Bool) → length (cond t (reverse (halves_of plan.leaf b)) (halves_of plan.leaf b)) ≡ length (halves_of plan.leaf b)
    by true = length-reverse (halves_of plan.leaf b)
    by false = refl

-- so they are parts of it, and placed
pub children-parts : (plan : Plan) (b : Indices) → 0 < plan.leaf → IsBox b → All (IsPart plan.leaf b) (children plan b)
children-parts plan b some is = children-all (IsPart plan.leaf b) plan b (halves-are_parts plan.leaf b some is)

pub children-placed : (plan : Plan) (desk : Tracing) (b : Indices) (at : ℕ) → 0 < plan.leaf → MayVisit plan desk b at → All (IsPlaced desk) (children plan b)
children-placed plan desk b at some may =
    All-weaker (IsPart plan.leaf b) (IsPlaced desk) (λ part is. part-placed plan desk plan.leaf b part at is may) (children plan b) (children-parts plan b some may.visit_is.box)

-- the boxes that can be visited from one on are it and those behind it
pub next-is : {S M : Type 0} (m : Meaning S M) (d : Descent) (s : S) (tape : List Step) (boxes : List Indices) (n : ℕ) (b : Indices) → n < length boxes → b ≡ get_or boxes n b
    → m.fits d s tape (drop n boxes) → m.fits d s tape (b ∷ drop (n + 1) boxes)
next-is m d s tape boxes n b within read fits =
    subst (λ x. m.fits d s tape (x ∷ drop (n + 1) boxes)) (sym read) (subst (m.fits d s tape) (drop_more boxes n b within) fits)

-- a box that is split is no leaf
pub goes-long : (plan : Plan) (d : Descent) (v : Visit) → goes_on plan d v ≡ true → is_long d.leaf v.box ≡ true
goes-long plan d v goes = by (is_long d.leaf v.box) (goes_on_by (meets_border plan d v.box) (decision d v)) goes
  where
    by : (p q : Bool) → (p && q) ≡ true → p ≡ true
    by true q e = refl
    by false q e = e

-- what children did is told of the same boxes and the same tape
pub group-same : {S M : Type 0} (m : Meaning S M) (d : Descent) (tape other : List Step) (boxes others : List Indices) (a c : S) (t u : Counts) → tape ≡ other → boxes ≡ others
    → Group m d tape (filter (m.wanted d a) boxes) a c (filter (m.wanted d a) boxes) t u → Group m d other (filter (m.wanted d a) others) a c (filter (m.wanted d a) others) t u
group-same m d tape other boxes others a c t u same alike h =
    subst (λ bs. Group m d other (filter (m.wanted d a) bs) a c (filter (m.wanted d a) bs) t u) alike (subst (λ l. Group m d l (filter (m.wanted d a) boxes) a c (filter (m.wanted d a) boxes) t u) same h)

pub stops-same : {S M : Type 0} (m : Meaning S M) (d : Descent) (tape other : List Step) (boxes others : List Indices) (a c : S) (t u : Counts) → tape ≡ other → boxes ≡ others
    → Stops m d tape (filter (m.wanted d a) boxes) a c t u → Stops m d other (filter (m.wanted d a) others) a c t u
stops-same m d tape other boxes others a c t u same alike h =
    subst (λ bs. Stops m d other (filter (m.wanted d a) bs) a c t u) alike (subst (λ l. Stops m d l (filter (m.wanted d a) boxes) a c t u) same h)

pub fits-same : {S M : Type 0} (m : Meaning S M) (d : Descent) (s : S) (tape other : List Step) (boxes others : List Indices) → tape ≡ other → boxes ≡ others
    → m.fits d s other (filter (m.wanted d s) others) → m.fits d s tape (filter (m.wanted d s) boxes)
fits-same m d s tape other boxes others same alike h =
    subst (λ bs. m.fits d s tape (filter (m.wanted d s) bs)) (sym alike) (subst (λ l. m.fits d s l (filter (m.wanted d s) others)) (sym same) h)

-- so its children are shorter
pub children-shorter : (plan : Plan) (d : Descent) (v : Visit) → 0 < plan.leaf → IsBox v.box → goes_on plan d v ≡ true → d.leaf ≡ plan.leaf → longest (children plan v.box) < sides v.box
children-shorter plan d v some is goes leaf =
    parts-shorter plan.leaf v.box (children plan v.box) is (ap (λ n. is_long n v.box) (sym leaf) ∙ goes-long plan d v goes) (children-parts plan v.box some is)

-- the groups of its children
pub first-is : (plan other : Plan) (b : Indices) (kids : List Indices) (size : ℕ) → other ≡ plan → kids ≡ children other b → size ≡ group_size other b
    → take size kids ≡ first_group plan b
first-is plan other b kids size same are is =
    ap (λ n. take n kids) (is ∙ ap (λ (p : Plan). group_size p b) same) ∙ ap (take (group_size plan b)) (are ∙ ap (λ (p : Plan). children p b) same)

pub second-is : (plan other : Plan) (b : Indices) (kids : List Indices) (size : ℕ) → other ≡ plan → kids ≡ children other b → size ≡ group_size other b
    → take (length kids - size) (drop size kids) ≡ second_group plan b
second-is plan other b kids size same are is =
    rest-is kids size ∙ ap (λ n. drop n kids) (is ∙ ap (λ (p : Plan). group_size p b) same) ∙ ap (drop (group_size plan b)) (are ∙ ap (λ (p : Plan). children p b) same)

pub split-is : {S M : Type 0} (m : Meaning S M) (desk : Tracing) (b : Indices) (given : ℕ) (s : S) (later : List Indices) → MayVisit m.plan desk b given
    → goes_on m.plan (looked m.plan desk) (visit b (list_of desk given)) ≡ true → m.fits (looked m.plan desk) s (list_of desk given) (b ∷ later)
    → IsSplit m (looked m.plan desk) s (visit b (list_of desk given))
split-is m desk b given s later may long fits = record { leaf = refl; visit_is = may.visit_is; long = long; later = later; fits = fits }
