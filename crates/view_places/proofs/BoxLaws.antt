-- Each sample of a box lies in exactly one of its halves.
use Rattle.std.proofs.Common.{◌≡◌, ℕ, ◌+◌, ◌-◌, ◌<◌, ◌≤◌, Bool, true, false, cond, List, [], ◌∷◌, refl, ◌∙◌, zero-add, arith}
use Rattle.std.specs.Prelude.{count_by, nat_lt, nat_le, ◌&&◌}
use Rattle.std.specs.List.{flat_map}
use Rattle.std.proofs.lemmas.Bool.Decides.{nat_tests}
use Rattle.std.proofs.lemmas.List.Concat.{flat_map-cons}
use Rattle.std.proofs.lemmas.List.Sums.{sum_by-append}
use Rattle.view_places.specs.Boxes.{Indices, halves_x, halves_y, halves_z, has_sample, middle}
use Rattle.view_places.specs.Laws.{HalvesPart}

abbrev one : Bool → ℕ
one b = cond b 1 0

-- a range in two parts
parts : (low mid high k : ℕ) → low ≤ mid → mid ≤ high → one (nat_le low k && nat_lt k mid) + one (nat_le mid k && nat_lt k high) ≡ one (nat_le low k && nat_lt k high)
parts low mid high k below above = grind (arith, nat_tests)

-- a test in front of all three
front : (t a b c : Bool) → one a + one b ≡ one c → one (t && a) + one (t && b) ≡ one (t && c)
front true a b c e = e
front false a b c e = refl

and_true : (b : Bool) → (b && true) ≡ b
and_true true = refl
and_true false = refl

and_false : (b : Bool) → (b && false) ≡ false
and_false true = refl
and_false false = refl

-- a test behind all three
behind : (l1 h1 l2 h2 l h r : Bool) → one (l1 && h1) + one (l2 && h2) ≡ one (l && h) → one (l1 && (h1 && r)) + one (l2 && (h2 && r)) ≡ one (l && (h && r))
behind l1 h1 l2 h2 l h true e = rw (and_true h1, and_true h2, and_true h) e
behind l1 h1 l2 h2 l h false e = rw (and_false h1, and_false h2, and_false h) (rw (and_false l1, and_false l2, and_false l) refl)

middle_within : (low high leaf : ℕ) → nat_lt leaf (high - low) ≡ true → (low ≤ middle low high) × (middle low high ≤ high)
middle_within low high leaf e = let longer : leaf < high - low = grind (arith, nat_tests) in (omega (arith, longer), omega arith)

by_z : (leaf : ℕ) (b : Indices) (i j k : ℕ) → count_by (has_sample i j k) (halves_z leaf b) ≡ one (has_sample i j k b)
by_z leaf b i j k = by (nat_lt leaf (b.z1 - b.z0)) refl
  where
    by : (l : Bool) → nat_lt leaf (b.z1 - b.z0) ≡ l → count_by (has_sample i j k) (cond l (record b { z1 = middle b.z0 b.z1 } ∷ record b { z0 = middle b.z0 b.z1 } ∷ []) (b ∷ [])) ≡ one (has_sample i j k b)
    by false e = zero-add (one (has_sample i j k b))
    by true e =
        let within = middle_within b.z0 b.z1 leaf e in
        rw zero-add (front (nat_le b.x0 i) _ _ _ (front (nat_lt i b.x1) _ _ _ (front (nat_le b.y0 j) _ _ _ (front (nat_lt j b.y1) _ _ _ (parts b.z0 (middle b.z0 b.z1) b.z1 k within.0 within.1)))))

by_y : (leaf : ℕ) (b : Indices) (i j k : ℕ) → count_by (has_sample i j k) (halves_y leaf b) ≡ one (has_sample i j k b)
by_y leaf b i j k = by (nat_lt leaf (b.y1 - b.y0)) refl
  where
    by : (l : Bool) → nat_lt leaf (b.y1 - b.y0) ≡ l → count_by (has_sample i j k) (cond l (record b { y1 = middle b.y0 b.y1 } ∷ record b { y0 = middle b.y0 b.y1 } ∷ []) (b ∷ [])) ≡ one (has_sample i j k b)
    by false e = zero-add (one (has_sample i j k b))
    by true e =
        let within = middle_within b.y0 b.y1 leaf e in
        rw zero-add (front (nat_le b.x0 i) _ _ _ (front (nat_lt i b.x1) _ _ _ (behind _ _ _ _ _ _ (nat_le b.z0 k && nat_lt k b.z1) (parts b.y0 (middle b.y0 b.y1) b.y1 j within.0 within.1))))

by_x : (leaf : ℕ) (b : Indices) (i j k : ℕ) → count_by (has_sample i j k) (halves_x leaf b) ≡ one (has_sample i j k b)
by_x leaf b i j k = by (nat_lt leaf (b.x1 - b.x0)) refl
  where
    by : (l : Bool) → nat_lt leaf (b.x1 - b.x0) ≡ l → count_by (has_sample i j k) (cond l (record b { x1 = middle b.x0 b.x1 } ∷ record b { x0 = middle b.x0 b.x1 } ∷ []) (b ∷ [])) ≡ one (has_sample i j k b)
    by false e = zero-add (one (has_sample i j k b))
    by true e =
        let within = middle_within b.x0 b.x1 leaf e in
        rw zero-add (behind _ _ _ _ _ _ (nat_le b.y0 j && (nat_lt j b.y1 && (nat_le b.z0 k && nat_lt k b.z1))) (parts b.x0 (middle b.x0 b.x1) b.x1 i within.0 within.1))

-- a list whose elements are cut up, none of them gaining or losing a sample
cut_up : (p : Indices → Bool) (f : Indices → List Indices) → ((b : Indices) → count_by p (f b) ≡ one (p b)) → (bs : List Indices) → count_by p (flat_map f bs) ≡ count_by p bs
cut_up p f same [] = refl
cut_up p f same (b ∷ bs) =
    let whole = sum_by-append (λ x. one (p x)) (b ∷ []) bs in
    let cut = sum_by-append (λ x. one (p x)) (f b) (flat_map f bs) in
    rw flat_map-cons (omega (arith, whole, cut, same b, cut_up p f same bs))

pub halves_part_is : HalvesPart
halves_part_is leaf b i j k =
    cut_up (has_sample i j k) (halves_x leaf) (λ c. by_x leaf c i j k) (flat_map (halves_y leaf) (halves_z leaf b))
    ∙ cut_up (has_sample i j k) (halves_y leaf) (λ c. by_y leaf c i j k) (halves_z leaf b) ∙ by_z leaf b i j k
