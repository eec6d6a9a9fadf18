-- What the halves of a box are.
use Rattle.std.proofs.Common.{◌≡◌, ℕ, zero, suc, ◌-◌, ◌<◌, ◌≤◌, Bool, true, false, cond, List, [], ◌∷◌, refl, ap, ◌∙◌, arith}
use Rattle.std.specs.Prelude.{nat_lt, nat_le, ◌||◌, Some, count_by, unwrap_or}
use Rattle.std.specs.List.{All, Contains, find, flat_map}
use Rattle.std.proofs.lemmas.Bool.{and_parts, leb-true, ltb-true}
use Rattle.std.proofs.lemmas.Bool.Decides.{nat_tests}
use Rattle.std.proofs.lemmas.List.Concat.{flat_map-cons}
use Rattle.std.proofs.lemmas.List.Elements.{All-append, All-cons, All-contains, All-head, All-nil, All-tail, All-weaker}
use Rattle.std.proofs.lemmas.List.Sums.{sum_by-cons}
use Rattle.view_places.specs.Laws.{HalvesPart}
use Rattle.view_places.specs.Boxes.{Indices, IsBox, halves_of, halves_x, halves_y, halves_z, has_sample, middle}
use Rattle.box_chains.specs.Chains.{half_with, is_long, sides}
use Rattle.box_chains.specs.Parts.{IsPart, IsPartAlong}
use Rattle.box_chains.specs.Sums.{LiesIn, Sample}

whole-side : (leaf low high : ℕ) → low < high → nat_lt leaf (high - low) ≡ false
    → IsPartAlong leaf low high low high
whole-side leaf low high some e = record {
  above = omega arith;
  some = some;
  below = omega arith;
  shorter = λ long. absurd (grind (arith, nat_tests));
}

lower-side : (leaf low high : ℕ) → 0 < leaf → nat_lt leaf (high - low) ≡ true
    → IsPartAlong leaf low high low (middle low high)
lower-side leaf low high some e =
    let long : leaf < high - low = grind (arith, nat_tests) in
    record {
      above = omega arith;
      some = omega (arith, long);
      below = omega arith;
      shorter = λ h. omega (arith, long);
    }

upper-side : (leaf low high : ℕ) → 0 < leaf → nat_lt leaf (high - low) ≡ true
    → IsPartAlong leaf low high (middle low high) high
upper-side leaf low high some e =
    let long : leaf < high - low = grind (arith, nat_tests) in
    record {
      above = omega (arith, long);
      some = omega (arith, long);
      below = omega arith;
      shorter = λ h. omega (arith, long);
    }

-- what holds of all parts of each
pub All-flat_map : {X Y : Type 0} (P : Y → Type 0) (f : X → List Y) (xs : List X)
    → All (λ x. All P (f x)) xs → All P (flat_map f xs)
All-flat_map P f [] h = All-nil P
All-flat_map P f (x ∷ xs) h =
    rw (flat_map-cons f x xs) (All-append P (f x) (flat_map f xs)
    (All-head (λ y. All P (f y)) x xs h) (All-flat_map P f xs
    (All-tail (λ y. All P (f y)) x xs h)))

two : {X : Type 0} (P : X → Type 0) (x y : X) → P x → P y → All P (x ∷ y ∷ [])
two P x y px py = All-cons P x (y ∷ []) px (All-cons P y [] py (All-nil P))

one : {X : Type 0} (P : X → Type 0) (x : X) → P x → All P (x ∷ [])
one P x px = All-cons P x [] px (All-nil P)

-- cut along z: the other sides are whole
record IsLayer (leaf : ℕ) (b part : Indices) : Type 0 where
  x0 : part.x0 ≡ b.x0
  x1 : part.x1 ≡ b.x1
  y0 : part.y0 ≡ b.y0
  y1 : part.y1 ≡ b.y1
  z : IsPartAlong leaf b.z0 b.z1 part.z0 part.z1

-- cut along z and y
record IsRow (leaf : ℕ) (b part : Indices) : Type 0 where
  x0 : part.x0 ≡ b.x0
  x1 : part.x1 ≡ b.x1
  y : IsPartAlong leaf b.y0 b.y1 part.y0 part.y1
  z : IsPartAlong leaf b.z0 b.z1 part.z0 part.z1

layers : (leaf : ℕ) (b : Indices) → 0 < leaf → IsBox b → All (IsLayer leaf b) (halves_z leaf b)
layers leaf b some is = by (nat_lt leaf (b.z1 - b.z0)) refl
  where
    by : (l : Bool) → nat_lt leaf (b.z1 - b.z0) ≡ l → All (IsLayer leaf b)
        (cond l (record b { z1 = middle b.z0 b.z1 } ∷ record b { z0 = middle b.z0 b.z1 } ∷ [])
        (b ∷ []))
    by false e = one (IsLayer leaf b) b (record {
      x0 = refl;
      x1 = refl;
      y0 = refl;
      y1 = refl;
      z = whole-side leaf b.z0 b.z1 is.z e;
    })
    by true e = two (IsLayer leaf b) (record b { z1 = middle b.z0 b.z1 })
        (record b { z0 = middle b.z0 b.z1 })
        (record {
          x0 = refl;
          x1 = refl;
          y0 = refl;
          y1 = refl;
          z = lower-side leaf b.z0 b.z1 some e;
        })
        (record {
          x0 = refl;
          x1 = refl;
          y0 = refl;
          y1 = refl;
          z = upper-side leaf b.z0 b.z1 some e;
        })

rows : (leaf : ℕ) (b l : Indices) → 0 < leaf → IsBox b → IsLayer leaf b l
    → All (IsRow leaf b) (halves_y leaf l)
rows leaf b l some is layer = by (nat_lt leaf (l.y1 - l.y0)) refl
  where
    side : nat_lt leaf (b.y1 - b.y0) ≡ nat_lt leaf (l.y1 - l.y0)
    side = rw (layer.y0, layer.y1) refl

    by : (t : Bool) → nat_lt leaf (l.y1 - l.y0) ≡ t → All (IsRow leaf b)
        (cond t (record l { y1 = middle l.y0 l.y1 } ∷ record l { y0 = middle l.y0 l.y1 } ∷ [])
        (l ∷ []))
    by false e = one (IsRow leaf b) l (record {
      x0 = layer.x0;
      x1 = layer.x1;
      y = rw (layer.y0, layer.y1) (whole-side leaf b.y0 b.y1 is.y (side ∙ e));
      z = layer.z;
    })
    by true e =
        two (IsRow leaf b) (record l { y1 = middle l.y0 l.y1 }) (record l { y0 = middle l.y0 l.y1 })
        (record {
          x0 = layer.x0;
          x1 = layer.x1;
          y = rw (layer.y0, layer.y1)
              (lower-side leaf b.y0 b.y1 some (side ∙ e));
          z = layer.z;
        })
        (record {
          x0 = layer.x0;
          x1 = layer.x1;
          y = rw (layer.y0, layer.y1)
              (upper-side leaf b.y0 b.y1 some (side ∙ e));
          z = layer.z;
        })

parts : (leaf : ℕ) (b r : Indices) → 0 < leaf → IsBox b → IsRow leaf b r
    → All (IsPart leaf b) (halves_x leaf r)
parts leaf b r some is row = by (nat_lt leaf (r.x1 - r.x0)) refl
  where
    side : nat_lt leaf (b.x1 - b.x0) ≡ nat_lt leaf (r.x1 - r.x0)
    side = rw (row.x0, row.x1) refl

    by : (t : Bool) → nat_lt leaf (r.x1 - r.x0) ≡ t → All (IsPart leaf b)
        (cond t (record r { x1 = middle r.x0 r.x1 } ∷ record r { x0 = middle r.x0 r.x1 } ∷ [])
        (r ∷ []))
    by false e = one (IsPart leaf b) r (record {
      x = rw (row.x0, row.x1)
          (whole-side leaf b.x0 b.x1 is.x (side ∙ e));
      y = row.y;
      z = row.z;
    })
    by true e = two (IsPart leaf b) (record r { x1 = middle r.x0 r.x1 })
        (record r { x0 = middle r.x0 r.x1 })
        (record {
          x = rw (row.x0, row.x1) (lower-side leaf b.x0 b.x1 some (side ∙ e));
          y = row.y;
          z = row.z;
        })
        (record {
          x = rw (row.x0, row.x1) (upper-side leaf b.x0 b.x1 some (side ∙ e));
          y = row.y;
          z = row.z;
        })

-- the halves of a box are parts of it
pub halves-are_parts : (leaf : ℕ) (b : Indices) → 0 < leaf → IsBox b
    → All (IsPart leaf b) (halves_of leaf b)
halves-are_parts leaf b some is =
    let all_rows = All-flat_map (IsRow leaf b) (halves_y leaf) (halves_z leaf b)
    (All-weaker (IsLayer leaf b) (λ l. All (IsRow leaf b) (halves_y leaf l))
    (λ l layer. rows leaf b l some is layer) (halves_z leaf b) (layers leaf b some is)) in
    All-flat_map (IsPart leaf b) (halves_x leaf) (flat_map (halves_y leaf) (halves_z leaf b))
    (All-weaker (IsRow leaf b) (λ r. All (IsPart leaf b) (halves_x leaf r))
    (λ r row. parts leaf b r some is row) (flat_map (halves_y leaf) (halves_z leaf b)) all_rows)

-- a part of a box is a box
pub part-is_box : (leaf : ℕ) (b part : Indices) → IsPart leaf b part → IsBox part
part-is_box leaf b part is = record { x = is.x.some; y = is.y.some; z = is.z.some }

-- and has shorter sides, where one is longer than a leaf's
pub part-is_shorter : (leaf : ℕ) (b part : Indices) → is_long leaf b ≡ true → IsPart leaf b part
    → sides part < sides b
part-is_shorter leaf b part long is =
    by (nat_lt leaf (b.x1 - b.x0)) (nat_lt leaf (b.y1 - b.y0))
    (nat_lt leaf (b.z1 - b.z0)) refl refl refl long
  where
    px : part.x1 - part.x0 ≤ b.x1 - b.x0
    px = omega (arith, is.x.above, is.x.some, is.x.below)

    py : part.y1 - part.y0 ≤ b.y1 - b.y0
    py = omega (arith, is.y.above, is.y.some, is.y.below)

    pz : part.z1 - part.z0 ≤ b.z1 - b.z0
    pz = omega (arith, is.z.above, is.z.some, is.z.below)

    by : (x y z : Bool) → nat_lt leaf (b.x1 - b.x0) ≡ x → nat_lt leaf (b.y1 - b.y0) ≡ y
        → nat_lt leaf (b.z1 - b.z0) ≡ z → (x || (y || z)) ≡ true → sides part < sides b
    by true y z ex ey ez h =
        let less = is.x.shorter (grind (arith, nat_tests)) in omega (arith, less, px, py, pz)
    by false true z ex ey ez h =
        let less = is.y.shorter (grind (arith, nat_tests)) in omega (arith, less, px, py, pz)
    by false false true ex ey ez h =
        let less = is.z.shorter (grind (arith, nat_tests)) in omega (arith, less, px, py, pz)
    by false false false ex ey ez h = absurd (grind (arith, nat_tests, h))

-- what an element that passes adds to a count
pub counts : {X : Type 0} (p : X → Bool) (xs : List X) (x : X) → Contains xs x → p x ≡ true
    → 0 < count_by p xs
counts p [] x (k, in', is) passes = absurd (omega (arith, in'))
counts p (y ∷ ys) x (zero, in', is) passes =
    let same : p y ≡ true = ap p is ∙ passes in
    let first : cond {A = ℕ} (p y) 1 0 ≡ 1 = rw same refl in
    omega (arith, sum_by-cons (λ z. cond (p z) 1 0) y ys, first)
counts p (y ∷ ys) x (suc k, in', is) passes =
    let more = counts p ys x (k, omega (arith, in'), is) passes in
    omega (arith, sum_by-cons (λ z. cond (p z) 1 0) y ys, more)

-- the only element that passes is found
found : {X : Type 0} (p : X → Bool) (xs : List X) (x : X) → count_by p xs ≤ 1 → Contains xs x
    → p x ≡ true → find p xs ≡ Some x
found p [] x few (k, in', is) passes = absurd (omega (arith, in'))
found p (y ∷ ys) x few (zero, in', is) passes = rw is (rw passes refl)
found p (y ∷ ys) x few (suc k, in', is) passes =
    by (p y) refl (λ less. found p ys x less (k, omega (arith, in'), is) passes)
  where
    by : (t : Bool) → p y ≡ t → (count_by p ys ≤ 1 → find p ys ≡ Some x)
        → cond t (Some y) (find p ys) ≡ Some x
    by true e others =
        let more = counts p ys x (k, omega (arith, in'), is) passes in
        let first : cond {A = ℕ} (p y) 1 0 ≡ 1 = rw e refl in
        absurd (omega (arith, sum_by-cons (λ z. cond (p z) 1 0) y ys, first, more, few))
    by false e others =
        let first : cond {A = ℕ} (p y) 1 0 ≡ 0 = rw e refl in
        others (omega (arith, sum_by-cons (λ z. cond (p z) 1 0) y ys, first, few))

pub lies-has : (b : Indices) (s : Sample) → LiesIn b s → has_sample s.i s.j s.k b ≡ true
lies-has b s is =
    let x0 : nat_le b.x0 s.i ≡ true = grind (arith, nat_tests, is.x) in
    let x1 : nat_lt s.i b.x1 ≡ true = grind (arith, nat_tests, is.x) in
    let y0 : nat_le b.y0 s.j ≡ true = grind (arith, nat_tests, is.y) in
    let y1 : nat_lt s.j b.y1 ≡ true = grind (arith, nat_tests, is.y) in
    let z0 : nat_le b.z0 s.k ≡ true = grind (arith, nat_tests, is.z) in
    let z1 : nat_lt s.k b.z1 ≡ true = grind (arith, nat_tests, is.z) in
    rw (x0, x1, y0, y1, z0, z1) refl

-- a sample of a part lies in the box
pub part-lies : (leaf : ℕ) (b part : Indices) (s : Sample) → IsPart leaf b part → LiesIn part s
    → LiesIn b s
part-lies leaf b part s is lies = record {
  x = (omega (arith, is.x.above, lies.x), omega (arith, is.x.below, lies.x));
  y = (omega (arith, is.y.above, lies.y), omega (arith, is.y.below, lies.y));
  z = (omega (arith, is.z.above, lies.z), omega (arith, is.z.below, lies.z));
}

-- a sample that lies in no box is in none of them, and one that lies in a box is in one of its halves alone
pub few-halves : (leaf : ℕ) (b : Indices) (s : Sample) → HalvesPart
    → count_by (λ half. has_sample s.i s.j s.k half) (halves_of leaf b) ≤ 1
few-halves leaf b s law = by (has_sample s.i s.j s.k b) (law leaf b s.i s.j s.k)
  where
    by : (t : Bool) → count_by (has_sample s.i s.j s.k) (halves_of leaf b) ≡ cond t 1 0
        → count_by (λ half. has_sample s.i s.j s.k half) (halves_of leaf b) ≤ 1
    by true e = omega (arith, e)
    by false e = omega (arith, e)

-- the half with a sample is the one in which it lies
pub half_with-is : HalvesPart → (leaf : ℕ) (b half : Indices) (s : Sample)
    → Contains (halves_of leaf b) half → LiesIn half s → half_with leaf b s ≡ half
half_with-is law leaf b half s among lies =
    ap (λ o. unwrap_or o b) (found (λ h. has_sample s.i s.j s.k h) (halves_of leaf b) half
    (few-halves leaf b s law) among (lies-has half s lies))

pub has-lies : (b : Indices) (s : Sample) → has_sample s.i s.j s.k b ≡ true → LiesIn b s
has-lies b s e =
    let x0 = and_parts (nat_le b.x0 s.i) _ e in
    let x1 = and_parts (nat_lt s.i b.x1) _ x0.1 in
    let y0 = and_parts (nat_le b.y0 s.j) _ x1.1 in
    let y1 = and_parts (nat_lt s.j b.y1) _ y0.1 in
    let z = and_parts (nat_le b.z0 s.k) (nat_lt s.k b.z1) y1.1 in
    record {
      x = (leb-true b.x0 s.i x0.0, ltb-true s.i b.x1 x1.0);
      y = (leb-true b.y0 s.j y0.0, ltb-true s.j b.y1 y1.0);
      z = (leb-true b.z0 s.k z.0, ltb-true s.k b.z1 z.1);
    }

-- where an element passes, one that passes is found
finds : {X : Type 0} (p : X → Bool) (xs : List X) (d : X) → 0 < count_by p xs
    → Contains xs (unwrap_or (find p xs) d) × (p (unwrap_or (find p xs) d) ≡ true)
finds p [] d some = absurd (omega (arith, some))
finds p (y ∷ ys) d some = by (p y) refl (λ more. finds p ys d more)
  where
    by : (t : Bool) → p y ≡ t
        → (0 < count_by p ys → Contains ys (unwrap_or (find p ys) d)
        × (p (unwrap_or (find p ys) d) ≡ true))
        → Contains (y ∷ ys) (unwrap_or (cond t (Some y) (find p ys)) d)
        × (p (unwrap_or (cond t (Some y) (find p ys)) d) ≡ true)
    by true e others = ((zero, omega arith, refl), e)
    by false e others =
        let first : cond {A = ℕ} (p y) 1 0 ≡ 0 = rw e refl in
        let rest = others (omega (arith, sum_by-cons (λ z. cond (p z) 1 0) y ys, first, some)) in
        ((suc (rest.0.0), omega (arith, rest.0.1), rest.0.2), rest.1)

-- a sample of a box lies in the half with it, which is a half
pub half_with-among : HalvesPart → (leaf : ℕ) (b : Indices) (s : Sample) → LiesIn b s
    → Contains (halves_of leaf b) (half_with leaf b s) × LiesIn (half_with leaf b s) s
half_with-among law leaf b s lies =
    let one : cond {A = ℕ} (has_sample s.i s.j s.k b) 1 0 ≡ 1 = rw (lies-has b s lies) refl in
    let once : count_by (λ h. has_sample s.i s.j s.k h)
    (halves_of leaf b) ≡ 1 = law leaf b s.i s.j s.k ∙ one in
    let found_one = finds (λ h. has_sample s.i s.j s.k h) (halves_of leaf b) b
    (omega (arith, once)) in
    (found_one.0, has-lies (half_with leaf b s) s found_one.1)

-- and a part of the box
pub half_with-part : HalvesPart → (leaf : ℕ) (b : Indices) (s : Sample) → 0 < leaf → IsBox b
    → LiesIn b s → IsPart leaf b (half_with leaf b s) × LiesIn (half_with leaf b s) s
half_with-part law leaf b s some is lies =
    let among = half_with-among law leaf b s lies in (
      All-contains (IsPart leaf b) (halves_of leaf b) (half_with leaf b s)
          (halves-are_parts leaf b some is) among.0,
      among.1,
    )
