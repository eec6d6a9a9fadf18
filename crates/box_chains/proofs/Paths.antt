-- The boxes on the ways to samples, whichever boxes are split on them, and the boxes that are reached on some way.
use Rattle.std.proofs.Common.{◌≡◌, ◌≢◌, ℕ, zero, suc, ◌+◌, ◌*◌, ◌<◌, ◌≤◌, Bool, true, false, cond, List, [], ◌∷◌, refl, sym, ap, subst, ◌∙◌, ◌⊎◌, inl, inr, arith}
use Rattle.std.specs.Prelude.{None, count_by, unwrap_or}
use Rattle.std.specs.List.{All, AllPairs, Contains, flat_map, last_or, sum_by}
use Rattle.std.proofs.lemmas.List.Elements.{All-contains, All-contains_itself, All-weaker, Contains-append_right}
use Rattle.std.proofs.lemmas.List.Kept.{AllPairs-cons}
use Rattle.std.proofs.lemmas.List.Sums.{sum_by-cons}
use Rattle.view_places.specs.Boxes.{Indices, IsBox, halves_of, has_sample}
use Rattle.view_places.specs.Laws.{HalvesPart}
use Rattle.box_chains.specs.Chains.{Descent, Visit, half_visit, half_with, is_long, next_visit, sides}
use Rattle.box_chains.specs.Counts.{is_first}
use Rattle.box_chains.specs.Parts.{IsPart}
use Rattle.box_chains.specs.Sums.{LiesIn, Sample, size, sum_in}
use Rattle.box_chains.proofs.ChainLaws.{box-has_sides, last-given, next-is_half, sum-over_halves}
use Rattle.box_chains.proofs.HalfLaws.{counts, few-halves, half_with-among, half_with-part, halves-are_parts, lies-has, part-is_box, part-is_shorter, part-lies}
use Rattle.box_chains.proofs.Joined.{Contains-flat_map, pairs-flat_map, pairs-nil, pairs-weaker, parts-of, sum_by-flat_map}
use Rattle.box_chains.proofs.SumLaws.{sum_by-equal, sum_in-const, sum_in-first, sum_in-plus, sum_in-same}

-- the boxes on the way to a sample, where such boxes are split
unfoldable pub path : (Visit → Bool) → ℕ → Descent → Visit → Sample → List Visit
path split zero d v s = []
path split (suc n) d v s = v ∷ cond (split v) (path split n d (next_visit d v s) s) []

-- the last of them
abbrev pub path_end : (Visit → Bool) → ℕ → Descent → Visit → Sample → Visit
path_end split n d v s = unwrap_or (last_or None (path split n d v s)) v

-- the boxes that are reached on some way
unfoldable pub reached : (Visit → Bool) → ℕ → Descent → Visit → List Visit
reached split zero d v = []
reached split (suc n) d v = v ∷ cond (split v) (flat_map
    (λ half. reached split n d (half_visit d v half)) (halves_of d.leaf v.box)) []

-- only long boxes are split
pub record Splits (d : Descent) (split : Visit → Bool) : Type 0 where
  pub law : HalvesPart
  pub some : 0 < d.leaf
  pub long : (w : Visit) → split w ≡ true → is_long d.leaf w.box ≡ true

pub head-or-tail : {X : Type 0} (x : X) (xs : List X) (y : X) → Contains (x ∷ xs) y
    → (x ≡ y) ⊎ Contains xs y
head-or-tail x xs y (zero, h, is) = inl is
head-or-tail x xs y (suc k, h, is) = inr (k, omega (arith, h), is)

-- the first sample of a box
abbrev pub first_of : Indices → Sample
first_of b = record { i = b.x0; j = b.y0; k = b.z0 }

pub first-lies : (b : Indices) → IsBox b → LiesIn b (first_of b)
first-lies b is =
    record { x = (omega arith, is.x); y = (omega arith, is.y); z = (omega arith, is.z) }

-- a box that is reached lies in the one from which it is
pub record IsInside (b part : Indices) : Type 0 where
  pub box : IsBox part
  pub lies : (s : Sample) → LiesIn part s → LiesIn b s
  pub fewer : sides part ≤ sides b

-- a half of a box that is split, which a sample of it has
part-of : (d : Descent) (split : Visit → Bool) (k : Splits d split) (v : Visit) (half : Indices)
    → IsBox v.box → Contains (halves_of d.leaf v.box) half → IsPart d.leaf v.box half
part-of d split k v half is among =
    All-contains (IsPart d.leaf v.box) (halves_of d.leaf v.box) half
    (halves-are_parts d.leaf v.box k.some is) among

pub reached-inside : (n : ℕ) (d : Descent) (split : Visit → Bool) (v w : Visit) → Splits d split
    → IsBox v.box → Contains (reached split n d v) w → IsInside v.box w.box
unfolding reached
reached-inside zero d split v w k is (i, h, at) = absurd (omega (arith, h))
reached-inside (suc n) d split v w k is inside =
    by (split v) refl (head-or-tail v (cond (split v)
    (flat_map (λ half. reached split n d (half_visit d v half)) (halves_of d.leaf v.box)) []) w inside)
    (λ half box has. reached-inside n d split (half_visit d v half) w k box has)
  where
    by : (t : Bool) → split v ≡ t → (v ≡ w) ⊎ Contains
        (cond t (flat_map (λ half. reached split n d (half_visit d v half))
        (halves_of d.leaf v.box)) []) w
        → ((half : Indices) → IsBox half → Contains (reached split n d (half_visit d v half)) w
        → IsInside half w.box) → IsInside v.box w.box
    by t e (inl same) below = subst (λ a. IsInside v.box a.box) same
        (record { box = is; lies = λ s h. h; fewer = omega arith })
    by false e (inr (i, h, at)) below = absurd (omega (arith, h))
    by true e (inr among) below =
        let at = parts-of (λ half. reached split n d (half_visit d v half))
        (halves_of d.leaf v.box) w among in
        let part = part-of d split k v at.part is at.among in
        let rest = below at.part (part-is_box d.leaf v.box at.part part) at.has in
        record {
          box = rest.box;
          lies = λ s h. part-lies d.leaf v.box at.part s part (rest.lies s h);
          fewer = omega (arith, rest.fewer, part-is_shorter d.leaf v.box at.part (k.long v e) part);
        }

-- no sample lies in two halves
abbrev AreApart : Indices → Indices → Type 0
AreApart a b = (s : Sample) → LiesIn a s → LiesIn b s → ⊥

halves-apart : (bs : List Indices) → ((s : Sample) → count_by
    (λ half. has_sample s.i s.j s.k half) bs ≤ 1) → AllPairs AreApart bs
halves-apart [] few = pairs-nil AreApart
halves-apart (b ∷ bs) few =
    AllPairs-cons AreApart b bs
    (All-weaker (Contains bs) (AreApart b)
    (λ c among s here there.
    let first : cond {A = ℕ} (has_sample s.i s.j s.k b) 1 0 ≡ 1 = rw (lies-has b s here) refl in
    let more = counts (λ half. has_sample s.i s.j s.k half) bs c among (lies-has c s there) in
    omega (
      arith,
      few s,
      sum_by-cons (λ half. cond (has_sample s.i s.j s.k half) 1 0) b bs,
      first,
      more,
    ))
    bs (All-contains_itself bs))
    (halves-apart bs (λ s. omega (
      arith,
      few s,
      sum_by-cons
          (λ half. cond (has_sample s.i s.j s.k half) 1 0) b bs,
    )))

abbrev AreDifferent : Visit → Visit → Type 0
AreDifferent a b = a.box ≢ b.box

-- boxes that are reached from two halves that are apart are different
apart-different : (n : ℕ) (d : Descent) (split : Visit → Bool) (v : Visit) (a b : Indices)
    → Splits d split → IsBox a → IsBox b → AreApart a b
    → All (λ x. All (AreDifferent x) (reached split n d (half_visit d v b)))
    (reached split n d (half_visit d v a))
apart-different n d split v a b k is_a is_b apart =
    All-weaker (Contains (reached split n d (half_visit d v a)))
    (λ x. All (AreDifferent x) (reached split n d (half_visit d v b)))
    (λ x x_in. All-weaker (Contains (reached split n d (half_visit d v b))) (AreDifferent x)
    (λ y y_in same.
    let in_a = reached-inside n d split (half_visit d v a) x k is_a x_in in
    let in_b = reached-inside n d split (half_visit d v b) y k is_b y_in in
    let s = first_of x.box in
    let here = first-lies x.box in_a.box in
    apart s (in_a.lies s here) (in_b.lies s (subst (λ c. LiesIn c s) same here)))
    (reached split n d (half_visit d v b)) (All-contains_itself
    (reached split n d (half_visit d v b))))
    (reached split n d (half_visit d v a)) (All-contains_itself
    (reached split n d (half_visit d v a)))

-- no box is reached twice
pub reached-different : (n : ℕ) (d : Descent) (split : Visit → Bool) (v : Visit) → Splits d split
    → IsBox v.box → AllPairs AreDifferent (reached split n d v)
unfolding reached
reached-different zero d split v k is = pairs-nil AreDifferent
reached-different (suc n) d split v k is =
    by (split v) refl (λ half box. reached-different n d split (half_visit d v half) k box)
  where
    halves : List Indices
    halves = halves_of d.leaf v.box

    parts : All (IsPart d.leaf v.box) halves
    parts = halves-are_parts d.leaf v.box k.some is

    below : Indices → List Visit
    below half = reached split n d (half_visit d v half)

    by : (t : Bool) → split v ≡ t → ((half : Indices) → IsBox half
        → AllPairs AreDifferent (below half)) → AllPairs AreDifferent
        (v ∷ cond t (flat_map below halves) [])
    by false e each = AllPairs-cons AreDifferent v [] (λ i d h. absurd (omega (arith, h)))
        (pairs-nil AreDifferent)
    by true e each =
        AllPairs-cons AreDifferent v (flat_map below halves)
        (All-weaker (Contains (flat_map below halves)) (AreDifferent v)
        (λ w among same.
        let at = parts-of below halves w among in
        let part = All-contains (IsPart d.leaf v.box) halves at.part parts at.among in
        let inside = reached-inside n d split (half_visit d v at.part) w k
        (part-is_box d.leaf v.box at.part part) at.has in
        let less = part-is_shorter d.leaf v.box at.part (k.long v e) part in
        omega (arith, inside.fewer, less, ap sides same))
        (flat_map below halves) (All-contains_itself (flat_map below halves)))
        (pairs-flat_map AreDifferent below halves
        (All-weaker (IsPart d.leaf v.box) (λ half. AllPairs AreDifferent (below half))
        (λ half part. each half (part-is_box d.leaf v.box half part)) halves parts)
        (pairs-weaker (IsPart d.leaf v.box) AreApart (λ a b. All
        (λ x. All (AreDifferent x) (below b)) (below a)) halves parts
        (λ a b in_a in_b apart. apart-different n d split v a b k (part-is_box d.leaf v.box a in_a)
        (part-is_box d.leaf v.box b in_b) apart)
        (halves-apart halves (λ s. few-halves d.leaf v.box s k.law))))

path-goes_on : (n : ℕ) (d : Descent) (split : Visit → Bool) (v : Visit) (s : Sample) → split v ≡ true
    → path split (suc n) d v s ≡ v ∷ path split n d (next_visit d v s) s
unfolding path
path-goes_on n d split v s e = ap (λ t. v ∷ cond t (path split n d (next_visit d v s) s) []) e

-- a box is on the way to a sample
pub record IsOnPath (split : Visit → Bool) (n : ℕ) (d : Descent) (v w : Visit) : Type 0 where
  pub sample : Sample
  pub lies : LiesIn v.box sample
  pub on : Contains (path split n d v sample) w

-- what is reached is on the way to a sample
pub reached-on_path : (n : ℕ) (d : Descent) (split : Visit → Bool) (v w : Visit) → Splits d split
    → IsBox v.box → Contains (reached split n d v) w → IsOnPath split n d v w
unfolding reached path
reached-on_path zero d split v w k is (i, h, at) = absurd (omega (arith, h))
reached-on_path (suc n) d split v w k is inside =
    by (split v) refl (head-or-tail v (cond (split v)
    (flat_map (λ half. reached split n d (half_visit d v half)) (halves_of d.leaf v.box)) []) w inside)
    (λ half box has. reached-on_path n d split (half_visit d v half) w k box has)
  where
    by : (t : Bool) → split v ≡ t → (v ≡ w) ⊎ Contains
        (cond t (flat_map (λ half. reached split n d (half_visit d v half))
        (halves_of d.leaf v.box)) []) w
        → ((half : Indices) → IsBox half → Contains (reached split n d (half_visit d v half)) w
        → IsOnPath split n d (half_visit d v half) w) → IsOnPath split (suc n) d v w
    by t e (inl same) below = record {
      sample = first_of v.box;
      lies = first-lies v.box is;
      on = (zero, omega arith, same);
    }
    by false e (inr (i, h, at)) below = absurd (omega (arith, h))
    by true e (inr among) below =
        let at = parts-of (λ half. reached split n d (half_visit d v half))
        (halves_of d.leaf v.box) w among in
        let part = part-of d split k v at.part is at.among in
        let way = below at.part (part-is_box d.leaf v.box at.part part) at.has in
        let next = next-is_half d v at.part way.sample k.law at.among way.lies in
        record {
          sample = way.sample;
          lies = part-lies d.leaf v.box at.part way.sample part way.lies;
          on = subst (λ l. Contains l w) (sym (path-goes_on n d split v way.sample e))
              (Contains-append_right (v ∷ []) (path split n d (next_visit d v way.sample) way.sample) w
              (subst (λ u. Contains (path split n d u way.sample) w) (sym next) way.on));
        }

-- and what is on the way to a sample is reached
pub path-reached : (n : ℕ) (d : Descent) (split : Visit → Bool) (v w : Visit) (s : Sample)
    → Splits d split → IsBox v.box → LiesIn v.box s → Contains (path split n d v s) w
    → Contains (reached split n d v) w
unfolding reached path
path-reached zero d split v w s k is lies (i, h, at) = absurd (omega (arith, h))
path-reached (suc n) d split v w s k is lies on =
    by (split v) refl
    (head-or-tail v (cond (split v) (path split n d (next_visit d v s) s) []) w on)
    (λ box has. path-reached n d split (next_visit d v s) w s k box among.1 has)
  where
    among : Contains (halves_of d.leaf v.box) (half_with d.leaf v.box s)
        × LiesIn (half_with d.leaf v.box s) s
    among = half_with-among k.law d.leaf v.box s lies

    below : Indices → List Visit
    below half = reached split n d (half_visit d v half)

    by : (t : Bool) → split v ≡ t
        → (v ≡ w) ⊎ Contains (cond t (path split n d (next_visit d v s) s) []) w
        → (IsBox (half_with d.leaf v.box s) → Contains (path split n d (next_visit d v s) s) w
        → Contains (reached split n d (next_visit d v s)) w)
        → Contains (v ∷ cond t (flat_map below (halves_of d.leaf v.box)) []) w
    by t e (inl same) later = (zero, omega arith, same)
    by false e (inr (i, h, at)) later = absurd (omega (arith, h))
    by true e (inr further) later =
        Contains-append_right (v ∷ []) (flat_map below (halves_of d.leaf v.box)) w
        (Contains-flat_map below (halves_of d.leaf v.box) (half_with d.leaf v.box s) w among.0
        (later (part-is_box d.leaf v.box (half_with d.leaf v.box s)
        (part-of d split k v (half_with d.leaf v.box s) is among.0)) further))

-- a box on the way to a sample holds it, and lies in the first one
pub record IsAround (b part : Indices) (s : Sample) : Type 0 where
  pub inside : IsInside b part
  pub lies : LiesIn part s

pub path-around : (n : ℕ) (d : Descent) (split : Visit → Bool) (v w : Visit) (s : Sample)
    → Splits d split → IsBox v.box → LiesIn v.box s → Contains (path split n d v s) w
    → IsAround v.box w.box s
unfolding path
path-around zero d split v w s k is lies (i, h, at) = absurd (omega (arith, h))
path-around (suc n) d split v w s k is lies on =
    by (split v) refl
    (head-or-tail v (cond (split v) (path split n d (next_visit d v s) s) []) w on)
    (λ has. path-around n d split (next_visit d v s) w s k
    (part-is_box d.leaf v.box (half_with d.leaf v.box s) half.0) half.1 has)
  where
    half : IsPart d.leaf v.box (half_with d.leaf v.box s) × LiesIn (half_with d.leaf v.box s) s
    half = half_with-part k.law d.leaf v.box s k.some is lies

    by : (t : Bool) → split v ≡ t
        → (v ≡ w) ⊎ Contains (cond t (path split n d (next_visit d v s) s) []) w
        → (Contains (path split n d (next_visit d v s) s) w
        → IsAround (half_with d.leaf v.box s) w.box s) → IsAround v.box w.box s
    by t e (inl same) later = subst (λ a. IsAround v.box a.box s) same (record {
      inside = record { box = is; lies = λ s h. h; fewer = omega arith };
      lies = lies;
    })
    by false e (inr (i, h, at)) later = absurd (omega (arith, h))
    by true e (inr further) later =
        let rest = later further in
        record {
          inside = record {
            box = rest.inside.box;
            lies = λ t h. part-lies d.leaf v.box (half_with d.leaf v.box s) t half.0 (rest.inside.lies t h);
            fewer = omega (
              arith,
              rest.inside.fewer,
              part-is_shorter d.leaf v.box (half_with d.leaf v.box s) (k.long v e) half.0,
            );
          };
          lies = rest.lies;
        }

-- a box on the way to one sample is on the way to each of its samples
pub path-same : (n : ℕ) (d : Descent) (split : Visit → Bool) (v w : Visit) (s t : Sample)
    → Splits d split → IsBox v.box → LiesIn v.box s → LiesIn w.box t
    → Contains (path split n d v s) w → Contains (path split n d v t) w
unfolding path
path-same zero d split v w s t k is lies held (i, h, at) = absurd (omega (arith, h))
path-same (suc n) d split v w s t k is lies held on =
    by (split v) refl
    (head-or-tail v (cond (split v) (path split n d (next_visit d v s) s) []) w on)
    (λ has. path-same n d split (next_visit d v s) w s t k box among.1 held has)
  where
    among : Contains (halves_of d.leaf v.box) (half_with d.leaf v.box s)
        × LiesIn (half_with d.leaf v.box s) s
    among = half_with-among k.law d.leaf v.box s lies

    box : IsBox (half_with d.leaf v.box s)
    box = part-is_box d.leaf v.box (half_with d.leaf v.box s)
        (part-of d split k v (half_with d.leaf v.box s) is among.0)

    by : (b : Bool) → split v ≡ b
        → (v ≡ w) ⊎ Contains (cond b (path split n d (next_visit d v s) s) []) w
        → (Contains (path split n d (next_visit d v s) s) w
        → Contains (path split n d (next_visit d v s) t) w)
        → Contains (v ∷ cond b (path split n d (next_visit d v t) t) []) w
    by b e (inl same) later = (zero, omega arith, same)
    by false e (inr (i, h, at)) later = absurd (omega (arith, h))
    by true e (inr further) later =
        let there = (path-around n d split (next_visit d v s) w s k box among.1 further).inside.lies t held in
        let next = next-is_half d v (half_with d.leaf v.box s) t k.law among.0 there in
        Contains-append_right (v ∷ []) (path split n d (next_visit d v t) t) w
        (subst (λ u. Contains (path split n d u t) w) (sym next) (later further))

-- Sums.

-- what a box adds where a sample is its first
abbrev pub at_first : (Visit → ℕ) → Sample → Visit → ℕ
at_first f s w = cond (is_first w.box s) (f w) 0

-- what halves take is what the boxes below them take
below-sum : (d : Descent) (split : Visit → Bool) (n : ℕ) (g : Visit → ℕ) (v : Visit)
    (f : Indices → ℕ) → Splits d split → IsBox v.box
    → ((half : Indices) → IsPart d.leaf v.box half
    → f half ≡ sum_by g (reached split n d (half_visit d v half)))
    → sum_by f (halves_of d.leaf v.box)
    ≡ sum_by g (flat_map (λ half. reached split n d (half_visit d v half)) (halves_of d.leaf v.box))
below-sum d split n g v f k is each =
    let below : Indices → List Visit = λ half. reached split n d (half_visit d v half) in
    sum_by-equal f (λ half. sum_by g (below half)) (halves_of d.leaf v.box)
    (All-weaker (IsPart d.leaf v.box) (λ half. f half ≡ sum_by g (below half)) each
    (halves_of d.leaf v.box) (halves-are_parts d.leaf v.box k.some is))
    ∙ sym (sum_by-flat_map g below (halves_of d.leaf v.box))

-- what the boxes on the ways add, each at its first sample, is what the boxes that are reached add
pub path-sum : (n : ℕ) (d : Descent) (split : Visit → Bool) (f : Visit → ℕ) (v : Visit)
    → Splits d split → IsBox v.box
    → sum_in v.box (λ s. sum_by (at_first f s) (path split n d v s)) ≡ sum_by f (reached split n d v)
unfolding reached path
path-sum zero d split f v k is =
    let none : size v.box * 0 ≡ 0 = omega arith in
    sum_in-const v.box 0 ∙ none
path-sum (suc n) d split f v k is =
    by (split v) refl (λ half box. path-sum n d split f (half_visit d v half) k box)
  where
    rest : Sample → ℕ
    rest s = sum_by (at_first f s) (path split n d (next_visit d v s) s)

    below : Indices → List Visit
    below half = reached split n d (half_visit d v half)

    of : Indices → ℕ
    of half = sum_in half (λ s. sum_by (at_first f s) (path split n d (half_visit d v half) s))

    own : Sample → ℕ
    own s = at_first f s v

    once : sum_in v.box own ≡ f v
    once = sum_in-first v.box (f v) is

    by : (t : Bool) → split v ≡ t
        → ((half : Indices) → IsBox half → of half ≡ sum_by f (below half))
        → sum_in v.box (λ s. sum_by (at_first f s) (v ∷ cond t (path split n d (next_visit d v s) s) []))
        ≡ sum_by f (v ∷ cond t (flat_map below (halves_of d.leaf v.box)) [])
    by false e each =
        let apart = sum_in-same v.box (λ s. sum_by (at_first f s) (v ∷ [])) own
        (λ s lies. sum_by-cons (at_first f s) v [] ∙ omega arith) in
        omega (arith, apart, once, sum_by-cons f v [])
    by true e each =
        let apart = sum_in-same v.box (λ s. sum_by (at_first f s) (v ∷ path split n d (next_visit d v s) s))
        (λ s. own s + rest s)
        (λ s lies. sum_by-cons (at_first f s) v (path split n d (next_visit d v s) s)) in
        let halves = sum-over_halves d v rest
        (λ half s. sum_by (at_first f s) (path split n d (half_visit d v half) s)) k.law
        (λ half s among lies. ap (λ u. sum_by (at_first f s) (path split n d u s))
        (next-is_half d v half s k.law among lies)) in
        let joined = below-sum d split n f v of k is
        (λ half part. each half (part-is_box d.leaf v.box half part)) in
        omega (
          arith,
          apart,
          sum_in-plus v.box own rest,
          once,
          halves,
          joined,
          sum_by-cons f v (flat_map below (halves_of d.leaf v.box)),
        )

-- what the last boxes on the ways take at each sample is what those boxes take that are reached and not split
pub end-sum : (n : ℕ) (d : Descent) (split : Visit → Bool) (f : Visit → ℕ) (v : Visit)
    → Splits d split → IsBox v.box → sides v.box ≤ n
    → sum_in v.box (λ s. f (path_end split n d v s))
    ≡ sum_by (λ w. cond (split w) 0 (size w.box * f w)) (reached split n d v)
unfolding reached path
end-sum zero d split f v k is few = absurd (omega (arith, box-has_sides v.box is, few))
end-sum (suc n) d split f v k is few =
    by (split v) refl
    (λ half box less. end-sum n d split f (half_visit d v half) k box (omega (arith, less, few)))
  where
    g : Visit → ℕ
    g w = cond (split w) 0 (size w.box * f w)

    below : Indices → List Visit
    below half = reached split n d (half_visit d v half)

    of : Indices → ℕ
    of half = sum_in half (λ s. f (path_end split n d (half_visit d v half) s))

    last : (m : ℕ) (s : Sample) → 0 < m
        → unwrap_or (last_or None (v ∷ path split m d (next_visit d v s) s)) v
        ≡ path_end split m d (next_visit d v s) s
    last zero s some = absurd (omega (arith, some))
    last (suc m) s some =
        last-given (next_visit d v s)
        (cond (split (next_visit d v s)) (path split m d (next_visit d (next_visit d v s) s) s) [])
        v (next_visit d v s)

    by : (t : Bool) → split v ≡ t
        → ((half : Indices) → IsBox half → sides half < sides v.box → of half ≡ sum_by g (below half))
        → sum_in v.box (λ s. f (unwrap_or (last_or None (v ∷ cond t (path split n d (next_visit d v s) s) [])) v))
        ≡ sum_by g (v ∷ cond t (flat_map below (halves_of d.leaf v.box)) [])
    by false e each =
        let own : g v ≡ size v.box * f v = rw e refl in
        omega (arith, sum_in-const v.box (f v), own, sum_by-cons g v [])
    by true e each =
        let own : g v ≡ 0 = rw e refl in
        let next = sum_in-same v.box
        (λ s. f (unwrap_or (last_or None (v ∷ path split n d (next_visit d v s) s)) v))
        (λ s. f (path_end split n d (next_visit d v s) s))
        (λ s lies.
        let half = half_with-part k.law d.leaf v.box s k.some is lies in
        ap f (last n s (omega (
          arith,
          few,
          part-is_shorter d.leaf v.box (half_with d.leaf v.box s) (k.long v e) half.0,
          box-has_sides (half_with d.leaf v.box s) (part-is_box d.leaf v.box (half_with d.leaf v.box s) half.0),
        )))) in
        let halves = sum-over_halves d v (λ s. f (path_end split n d (next_visit d v s) s))
        (λ half s. f (path_end split n d (half_visit d v half) s)) k.law
        (λ half s among lies. ap (λ u. f (path_end split n d u s))
        (next-is_half d v half s k.law among lies)) in
        let joined = below-sum d split n g v of k is
        (λ half part. each half (part-is_box d.leaf v.box half part)
        (part-is_shorter d.leaf v.box half (k.long v e) part)) in
        omega (
          arith,
          next,
          halves,
          joined,
          own,
          sum_by-cons g v (flat_map below (halves_of d.leaf v.box)),
        )
