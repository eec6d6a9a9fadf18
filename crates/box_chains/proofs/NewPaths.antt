-- Boxes on the ways to samples that were not on the ways of a frame before, whichever boxes are split.
use Rattle.std.proofs.Common.{◌≡◌, ◌≢◌, ℕ, zero, suc, ◌*◌, ◌<◌, ◌≤◌, Bool, true, false, not, cond, List, [], ◌∷◌, refl, sym, ap, subst, ◌∙◌, ◌⊎◌, inl, inr, arith}
use Rattle.std.specs.Prelude.{None, Option, Some, filter}
use Rattle.std.specs.List.{AllPairs, Contains, sum_by}
use Rattle.std.proofs.lemmas.Bool.{false≢true}
use Rattle.std.proofs.lemmas.Bool.Decides.{Decides-eqb}
use Rattle.std.proofs.lemmas.List.Elements.{All-contains_itself, All-weaker}
use Rattle.std.proofs.lemmas.List.Kept.{AllPairs-filter}
use Rattle.std.proofs.lemmas.List.Sums.{sum_by-cons}
use Rattle.std.proofs.lemmas.Map.Views.{Contains-from_any}
use Rattle.live_clauses.specs.Equality.{same_list}
use Rattle.live_clauses.specs.Laws.{ListsAreToldApart}
use Rattle.view_places.specs.Boxes.{Indices, IsBox}
use Rattle.box_chains.specs.Chains.{Descent, Visit, next_visit, sides, visit}
use Rattle.box_chains.specs.Counts.{is_first}
use Rattle.box_chains.specs.NewBoxes.{HasTheBox}
use Rattle.box_chains.specs.Redrawn.{is_old, same_box, same_visit}
use Rattle.box_chains.specs.Sums.{LiesIn, Sample, size, sum_in}
use Rattle.box_chains.proofs.Paths.{IsOnPath, Splits, at_first, end-sum, first-lies, first_of, head-or-tail, path, path-around, path-reached, path-same, path-sum, path_end, reached, reached-different, reached-inside, reached-on_path}
use Rattle.box_chains.proofs.RedrawnLaws.{both, last-stands, stands-old}
use Rattle.box_chains.proofs.SumLaws.{sum_by-equal, sum_in-same}

-- the boxes on the ways of the frame before
abbrev pub path_before : (Visit → Bool) → ℕ → Descent → Option Visit → Sample → List Visit
path_before split n d None s = []
path_before split n d (Some u) s = path split n d u s

-- a box was on the way to some sample
abbrev pub WasOnPath : (Visit → Bool) → ℕ → Descent → Option Visit → Visit → Type 0
WasOnPath split n d None w = ⊥
WasOnPath split n d (Some u) w = IsOnPath split n d u w

-- boxes that are told to be the same are
abbrev box_of : ℕ → ℕ → ℕ → ℕ → ℕ → ℕ → Indices
box_of x0 x1 y0 y1 z0 z1 = record { x0 = x0; x1 = x1; y0 = y0; y1 = y1; z0 = z0; z1 = z1 }

same-box : (a b : Indices) → same_box a b ≡ true → a ≡ b
same-box a b h =
    let x0 = both _ _ h in
    let x1 = both _ _ x0.1 in
    let y0 = both _ _ x1.1 in
    let y1 = both _ _ y0.1 in
    let z = both _ _ y1.1 in
    ap (λ n. box_of n a.x1 a.y0 a.y1 a.z0 a.z1) ((Decides-eqb a.x0 b.x0).0 x0.0)
    ∙ ap (λ n. box_of b.x0 n a.y0 a.y1 a.z0 a.z1) ((Decides-eqb a.x1 b.x1).0 x1.0)
    ∙ ap (λ n. box_of b.x0 b.x1 n a.y1 a.z0 a.z1) ((Decides-eqb a.y0 b.y0).0 y0.0)
    ∙ ap (λ n. box_of b.x0 b.x1 b.y0 n a.z0 a.z1) ((Decides-eqb a.y1 b.y1).0 y1.0)
    ∙ ap (λ n. box_of b.x0 b.x1 b.y0 b.y1 n a.z1) ((Decides-eqb a.z0 b.z0).0 z.0)
    ∙ ap (λ n. box_of b.x0 b.x1 b.y0 b.y1 b.z0 n) ((Decides-eqb a.z1 b.z1).0 z.1)

same-visit : ListsAreToldApart → (v w : Visit) → same_visit v w ≡ true → v ≡ w
same-visit apart v w h =
    let parts = both (same_box v.box w.box) (same_list v.list w.list) h in
    ap (λ b. visit b v.list) (same-box v.box w.box parts.0)
    ∙ ap (visit w.box) ((apart v.list w.list).0 parts.1)

-- a box that is old stands among those of the frame before
old-stands : ListsAreToldApart → (visits : List Visit) (w : Visit) → is_old visits w ≡ true → Contains visits w
old-stands apart visits w h = Contains-from_any {eq = same_visit} (same-visit apart) w visits h

-- a box that holds a sample is old there exactly where it was on the way to some sample
pub old-was : ListsAreToldApart → (n : ℕ) (d : Descent) (split : Visit → Bool) (before : Option Visit) (v w : Visit) (s : Sample)
    → HasTheBox before v → LiesIn v.box s → is_old (path_before split n d before s) w ≡ true → WasOnPath split n d before w
old-was apart n d split None v w s has lies old = false≢true old
old-was apart n d split (Some u) v w s has lies old = record {
  sample = s;
  lies = subst (λ b. LiesIn b s) (sym (has u refl)) lies;
  on = old-stands apart (path split n d u s) w old;
}

pub was-old : ListsAreToldApart → (n : ℕ) (d : Descent) (split : Visit → Bool) (before : Option Visit) (v w : Visit) (s : Sample)
    → Splits d split → IsBox v.box → HasTheBox before v → LiesIn w.box s → WasOnPath split n d before w
    → is_old (path_before split n d before s) w ≡ true
was-old apart n d split None v w s k is has held was = absurd was
was-old apart n d split (Some u) v w s k is has held was =
    stands-old apart (path split n d u s) w
    (path-same n d split u w was.sample s k (subst IsBox (sym (has u refl)) is) was.lies held was.on)

-- tests that are true where the other is are equal
same-test : (a b : Bool) → (a ≡ true → b ≡ true) → (b ≡ true → a ≡ true) → a ≡ b
same-test true b there back = sym (there refl)
same-test false true there back = back refl
same-test false false there back = refl

-- so it is old at each of its samples or at none
old-alike : ListsAreToldApart → (n : ℕ) (d : Descent) (split : Visit → Bool) (before : Option Visit) (v w : Visit) (s t : Sample)
    → Splits d split → IsBox v.box → HasTheBox before v → LiesIn v.box s → LiesIn v.box t → LiesIn w.box s → LiesIn w.box t
    → is_old (path_before split n d before s) w ≡ is_old (path_before split n d before t) w
old-alike apart n d split before v w s t k is has s_lies t_lies s_held t_held =
    same-test (is_old (path_before split n d before s) w) (is_old (path_before split n d before t) w)
    (λ old. was-old apart n d split before v w t k is has t_held (old-was apart n d split before v w s has s_lies old))
    (λ old. was-old apart n d split before v w s k is has s_held (old-was apart n d split before v w t has t_lies old))

-- whether a box is new, told at its first sample
abbrev pub is_new : (Visit → Bool) → ℕ → Descent → Option Visit → Visit → Bool
is_new split n d before w = not (is_old (path_before split n d before (first_of w.box)) w)

-- the new boxes that are reached
abbrev pub new_reached : (Visit → Bool) → ℕ → Descent → Option Visit → Visit → List Visit
new_reached split n d before v = filter (is_new split n d before) (reached split n d v)

-- what passes a test is in the list, and passes
filter-in : {X : Type 0} (p : X → Bool) (xs : List X) (y : X) → Contains (filter p xs) y → Contains xs y × (p y ≡ true)
filter-in p [] y (i, h, at) = absurd (omega (arith, h))
filter-in {X} p (x ∷ xs) y inside = by (p x) refl inside (λ rest. filter-in p xs y rest)
  where
    by : (t : Bool) → p x ≡ t → Contains (cond t (x ∷ filter p xs) (filter p xs)) y
        → (Contains (filter p xs) y → Contains xs y × (p y ≡ true)) → Contains (x ∷ xs) y × (p y ≡ true)
    by true e here later = ends (head-or-tail x (filter p xs) y here)
      where
        ends : (x ≡ y) ⊎ Contains (filter p xs) y → Contains (x ∷ xs) y × (p y ≡ true)
        ends (inl same) = ((zero, omega arith, same), ap p (sym same) ∙ e)
        ends (inr there) = let rest = later there in ((suc rest.0.0, omega (arith, rest.0.1), rest.0.2), rest.1)
    by false e there later = let rest = later there in ((suc rest.0.0, omega (arith, rest.0.1), rest.0.2), rest.1)

in-filter : {X : Type 0} (p : X → Bool) (xs : List X) (y : X) → Contains xs y → p y ≡ true → Contains (filter p xs) y
in-filter p [] y (i, h, at) passes = absurd (omega (arith, h))
in-filter {X} p (x ∷ xs) y inside passes = by (p x) refl (head-or-tail x xs y inside) (λ rest. in-filter p xs y rest passes)
  where
    by : (t : Bool) → p x ≡ t → (x ≡ y) ⊎ Contains xs y → (Contains xs y → Contains (filter p xs) y)
        → Contains (cond t (x ∷ filter p xs) (filter p xs)) y
    by true e (inl same) later = (zero, omega arith, same)
    by true e (inr there) later = let rest = later there in (suc rest.0, omega (arith, rest.1), rest.2)
    by false e (inl same) later = absurd (false≢true (sym e ∙ ap p same ∙ passes))
    by false e (inr there) later = later there

-- a sum over what passes a test
filter-sum : {X : Type 0} (p : X → Bool) (f : X → ℕ) (xs : List X) → sum_by (λ x. cond (not (p x)) 0 (f x)) xs ≡ sum_by f (filter p xs)
filter-sum p f [] = refl
filter-sum {X} p f (x ∷ xs) = by (p x) refl (filter-sum p f xs)
  where
    g : X → ℕ
    g y = cond (not (p y)) 0 (f y)

    by : (t : Bool) → p x ≡ t → sum_by g xs ≡ sum_by f (filter p xs)
        → sum_by g (x ∷ xs) ≡ sum_by f (cond t (x ∷ filter p xs) (filter p xs))
    by true e rest =
        let own : g x ≡ f x = rw e refl in
        omega (arith, sum_by-cons g x xs, sum_by-cons f x (filter p xs), own, rest)
    by false e rest =
        let own : g x ≡ 0 = rw e refl in
        omega (arith, sum_by-cons g x xs, own, rest)

not-not : (t : Bool) → not (not t) ≡ t
not-not true = refl
not-not false = refl

not-true : (t : Bool) → not t ≡ true → t ≡ false
not-true true h = absurd (false≢true h)
not-true false h = refl

pub new-different : (n : ℕ) (d : Descent) (split : Visit → Bool) (before : Option Visit) (v : Visit) → Splits d split → IsBox v.box
    → AllPairs (λ a b. a.box ≢ b.box) (new_reached split n d before v)
new-different n d split before v k is =
    AllPairs-filter (λ a b. a.box ≢ b.box) (is_new split n d before) (reached split n d v) (reached-different n d split v k is)

-- what is in the list is on some way, and was on none
pub new-each : ListsAreToldApart → (n : ℕ) (d : Descent) (split : Visit → Bool) (before : Option Visit) (v w : Visit) → Splits d split
    → IsBox v.box → HasTheBox before v → Contains (new_reached split n d before v) w
    → IsOnPath split n d v w × (WasOnPath split n d before w → ⊥)
new-each apart n d split before v w k is has inside =
    let parts = filter-in (is_new split n d before) (reached split n d v) w inside in
    let box = reached-inside n d split v w k is parts.0 in
    let young = not-true (is_old (path_before split n d before (first_of w.box)) w) parts.1 in (
      reached-on_path n d split v w k is parts.0,
      λ was. false≢true (sym young ∙ was-old apart n d split before v w (first_of w.box) k is has (first-lies w.box box.box) was),
    )

-- and what is so is in the list
pub new-all : ListsAreToldApart → (n : ℕ) (d : Descent) (split : Visit → Bool) (before : Option Visit) (v w : Visit) → Splits d split
    → IsBox v.box → HasTheBox before v → IsOnPath split n d v w → (WasOnPath split n d before w → ⊥)
    → Contains (new_reached split n d before v) w
new-all apart n d split before v w k is has way young =
    let around = path-around n d split v w way.sample k is way.lies way.on in
    in-filter (is_new split n d before) (reached split n d v) w
    (path-reached n d split v w way.sample k is way.lies way.on)
    (by (is_old (path_before split n d before (first_of w.box)) w)
    (λ old. young (old-was apart n d split before v w (first_of w.box) has
    (around.inside.lies (first_of w.box) (first-lies w.box around.inside.box)) old)))
  where
    by : (t : Bool) → (t ≡ true → ⊥) → not t ≡ true
    by true never = absurd (never refl)
    by false never = refl

-- what a box adds that is not old
abbrev pub unless_old : (Visit → Bool) → ℕ → Descent → Option Visit → (Visit → ℕ) → Visit → ℕ
unless_old split n d before f w = cond (is_old (path_before split n d before (first_of w.box)) w) 0 (f w)

new-of : (n : ℕ) (d : Descent) (split : Visit → Bool) (before : Option Visit) (f : Visit → ℕ) (ws : List Visit)
    → sum_by (unless_old split n d before f) ws ≡ sum_by f (filter (is_new split n d before) ws)
new-of n d split before f ws =
    sum_by-equal (unless_old split n d before f) (λ w. cond (not (is_new split n d before w)) 0 (f w)) ws
    (All-weaker (Contains ws) (λ w. unless_old split n d before f w ≡ cond {A = ℕ} (not (is_new split n d before w)) 0 (f w))
    (λ w among. ap (λ t. cond {A = ℕ} t 0 (f w)) (sym (not-not (is_old (path_before split n d before (first_of w.box)) w))))
    ws (All-contains_itself ws))
    ∙ filter-sum (is_new split n d before) f ws

-- What the boxes on the ways add that are not old, each at its first sample, is what the new boxes add.
pub new-sum : ListsAreToldApart → (n : ℕ) (d : Descent) (split : Visit → Bool) (before : Option Visit) (f : Visit → ℕ) (v : Visit)
    → Splits d split → IsBox v.box → HasTheBox before v
    → sum_in v.box (λ s. sum_by (λ w. cond (is_old (path_before split n d before s) w) 0 (at_first f s w)) (path split n d v s))
    ≡ sum_by f (new_reached split n d before v)
new-sum apart n d split before f v k is has =
    sum_in-same v.box (λ s. sum_by (λ w. cond (is_old (path_before split n d before s) w) 0 (at_first f s w)) (path split n d v s))
    (λ s. sum_by (at_first (unless_old split n d before f) s) (path split n d v s))
    (λ s lies. sum_by-equal (λ w. cond (is_old (path_before split n d before s) w) 0 (at_first f s w))
    (at_first (unless_old split n d before f) s) (path split n d v s)
    (All-weaker (Contains (path split n d v s))
    (λ w. cond {A = ℕ} (is_old (path_before split n d before s) w) 0 (at_first f s w) ≡ at_first (unless_old split n d before f) s w)
    (λ w on.
    let around = path-around n d split v w s k is lies on in
    let first = first-lies w.box around.inside.box in
    ap (λ t. cond {A = ℕ} t 0 (at_first f s w))
    (old-alike apart n d split before v w s (first_of w.box) k is has lies (around.inside.lies (first_of w.box) first) around.lies first)
    ∙ turned (is_old (path_before split n d before (first_of w.box)) w) (is_first w.box s) (f w))
    (path split n d v s) (All-contains_itself (path split n d v s))))
    ∙ path-sum n d split (unless_old split n d before f) v k is
    ∙ new-of n d split before f (reached split n d v)
  where
    turned : (a b : Bool) (m : ℕ) → cond {A = ℕ} a 0 (cond b m 0) ≡ cond b (cond a 0 m) 0
    turned true true m = refl
    turned true false m = refl
    turned false true m = refl
    turned false false m = refl

-- the last box on a way stands on it
end-on : (n : ℕ) (d : Descent) (split : Visit → Bool) (v : Visit) (s : Sample) → 0 < n → Contains (path split n d v s) (path_end split n d v s)
unfolding path
end-on zero d split v s some = absurd (omega (arith, some))
end-on (suc n) d split v s some = last-stands v (cond (split v) (path split n d (next_visit d v s) s) []) v

-- What the last boxes on the ways take at each sample that are not old is what the new boxes take that are not split.
pub new-ends : ListsAreToldApart → (n : ℕ) (d : Descent) (split : Visit → Bool) (before : Option Visit) (f : Visit → ℕ) (v : Visit)
    → Splits d split → IsBox v.box → HasTheBox before v → sides v.box ≤ n
    → sum_in v.box (λ s. cond (is_old (path_before split n d before s) (path_end split n d v s)) 0 (f (path_end split n d v s)))
    ≡ sum_by (λ w. cond (split w) 0 (size w.box * f w)) (new_reached split n d before v)
new-ends apart n d split before f v k is has few =
    sum_in-same v.box (λ s. cond (is_old (path_before split n d before s) (path_end split n d v s)) 0 (f (path_end split n d v s)))
    (λ s. unless_old split n d before f (path_end split n d v s))
    (λ s lies.
    let end = path_end split n d v s in
    let around = path-around n d split v end s k is lies (end-on n d split v s (omega (arith, few, is.x))) in
    let first = first-lies end.box around.inside.box in
    ap (λ t. cond {A = ℕ} t 0 (f end))
    (old-alike apart n d split before v end s (first_of end.box) k is has lies (around.inside.lies (first_of end.box) first) around.lies first))
    ∙ end-sum n d split (unless_old split n d before f) v k is few
    ∙ sum_by-equal (λ w. cond (split w) 0 (size w.box * unless_old split n d before f w))
    (unless_old split n d before (λ w. cond (split w) 0 (size w.box * f w))) (reached split n d v)
    (All-weaker (Contains (reached split n d v))
    (λ w. cond {A = ℕ} (split w) 0 (size w.box * unless_old split n d before f w)
    ≡ unless_old split n d before (λ w. cond {A = ℕ} (split w) 0 (size w.box * f w)) w)
    (λ w among. turned (split w) (is_old (path_before split n d before (first_of w.box)) w) (size w.box) (f w))
    (reached split n d v) (All-contains_itself (reached split n d v)))
    ∙ new-of n d split before (λ w. cond (split w) 0 (size w.box * f w)) (reached split n d v)
  where
    turned : (a b : Bool) (m e : ℕ) → cond {A = ℕ} a 0 (m * cond b 0 e) ≡ cond b 0 (cond a 0 (m * e))
    turned true true m e = refl
    turned true false m e = refl
    turned false true m e = omega arith
    turned false false m e = refl
