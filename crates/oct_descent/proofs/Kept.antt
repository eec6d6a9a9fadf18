-- The places of a box, from those of its halves.
use Rattle.std.proofs.Common.{◌≡◌, ℕ, zero, suc, ◌<◌, ◌≤◌, Bool, true, false, List, [], ◌∷◌, ◌++◌, refl, sym, ap, ◌∙◌, arith}
use Rattle.std.specs.Prelude.{Option, None}
use Rattle.std.specs.List.{All, flat_map}
use Rattle.std.proofs.lemmas.List.Concat.{flat_map-cons}
use Rattle.std.proofs.lemmas.List.Elements.{All-head, All-tail, All-weaker}
use Rattle.box_chains.specs.Chains.{Visit, half_visit, handed_on, is_long, sides}
use Rattle.box_chains.specs.Parts.{IsPart}
use Rattle.box_chains.specs.Laws.{Lawful}
use Rattle.live_clauses.specs.declared.step.Step.{Step}
use Rattle.view_places.specs.Boxes.{Indices, IsBox, halves_of}
use Rattle.oct_descent.specs.KeptBoxes.{box_places, halves_places, places_of, places_within, split_places}
use Rattle.oct_descent.specs.Ways.{CellDescent, is_open}
use Rattle.oct_descent.specs.declared.split_box.SplitBox.{SplitBox}
use Rattle.oct_descent.proofs.WayLaws.{box-has_sides}

-- parts that are equal one by one are equal when joined
flat_map-same : {X Y : Type 0} (f g : X → List Y) (xs : List X) → All (λ x. f x ≡ g x) xs → flat_map f xs ≡ flat_map g xs
flat_map-same f g [] same = refl
flat_map-same f g (x ∷ xs) same =
    flat_map-cons f x xs ∙ ap (λ l. l ++ flat_map f xs) (All-head (λ y. f y ≡ g y) x xs same) ∙ ap (λ l. g x ++ l) (flat_map-same f g xs (All-tail (λ y. f y ≡ g y) x xs same))
    ∙ sym (flat_map-cons g x xs)

-- the places of a box do not hang on what is kept below it, unless it is longer than a leaf
apart : (d : CellDescent) (v : Visit) (below other : List (Option SplitBox)) → is_long d.boxes.leaf v.box ≡ false → box_places d v below ≡ box_places d v other
apart d v below other e = rw e refl

-- more turns than there are sides change nothing
places-enough : (laws : Lawful) (n m : ℕ) (d : CellDescent) (v : Visit) → 0 < d.boxes.leaf → IsBox v.box → sides v.box ≤ n → sides v.box ≤ m → places_within n d v ≡ places_within m d v
unfolding places_within
places-enough laws zero m d v some is few more = absurd (omega (arith, box-has_sides v.box is, few))
places-enough laws (suc n) zero d v some is few more = absurd (omega (arith, box-has_sides v.box is, more))
places-enough laws (suc n) (suc m) d v some is few more =
    by (is_long d.boxes.leaf v.box) refl
    (λ half part less. places-enough laws n m d (half_visit d.boxes v half) some (laws.parts.box d.boxes.leaf v.box half part) (omega (arith, less, few)) (omega (arith, less, more)))
  where
    below : ℕ → List (Option SplitBox)
    below turns = flat_map (λ half. places_within turns d (half_visit d.boxes v half)) (halves_of d.boxes.leaf v.box)

    by : (long : Bool) → is_long d.boxes.leaf v.box ≡ long
        → ((half : Indices) → IsPart d.boxes.leaf v.box half → sides half < sides v.box → places_within n d (half_visit d.boxes v half) ≡ places_within m d (half_visit d.boxes v half))
        → box_places d v (below n) ≡ box_places d v (below m)
    by false e same = apart d v (below n) (below m) e
    by true e same =
        ap (box_places d v)
        (flat_map-same (λ half. places_within n d (half_visit d.boxes v half)) (λ half. places_within m d (half_visit d.boxes v half)) (halves_of d.boxes.leaf v.box)
        (All-weaker (IsPart d.boxes.leaf v.box) (λ half. places_within n d (half_visit d.boxes v half) ≡ places_within m d (half_visit d.boxes v half))
        (λ half part. same half part (laws.parts.shorter d.boxes.leaf v.box half e part)) (halves_of d.boxes.leaf v.box) (laws.parts.all d.boxes.leaf v.box some is)))

-- the places of a box are its own and those of its halves
pub places-are : (laws : Lawful) (d : CellDescent) (v : Visit) → 0 < d.boxes.leaf → IsBox v.box
    → places_of d v ≡ box_places d v (halves_places d (handed_on d.boxes v) (halves_of d.boxes.leaf v.box))
unfolding places_within
places-are laws d v some is = by (sides v.box) refl (box-has_sides v.box is)
  where
    below : List (Option SplitBox)
    below = halves_places d (handed_on d.boxes v) (halves_of d.boxes.leaf v.box)

    by : (n : ℕ) → n ≡ sides v.box → 0 < n → places_within n d v ≡ box_places d v below
    by zero same h = absurd (omega (arith, h))
    by (suc n) same h = long (is_long d.boxes.leaf v.box) refl
      where
        inner : List (Option SplitBox)
        inner = flat_map (λ half. places_within n d (half_visit d.boxes v half)) (halves_of d.boxes.leaf v.box)

        long : (t : Bool) → is_long d.boxes.leaf v.box ≡ t → box_places d v inner ≡ box_places d v below
        long false e = apart d v inner below e
        long true e =
            ap (box_places d v)
            (flat_map-same (λ half. places_within n d (half_visit d.boxes v half)) (λ half. places_of d (half_visit d.boxes v half)) (halves_of d.boxes.leaf v.box)
            (All-weaker (IsPart d.boxes.leaf v.box) (λ half. places_within n d (half_visit d.boxes v half) ≡ places_of d (half_visit d.boxes v half))
            (λ half part.
            let less = laws.parts.shorter d.boxes.leaf v.box half e part in
            places-enough laws n (sides half) d (half_visit d.boxes v half) some (laws.parts.box d.boxes.leaf v.box half part) (omega (arith, less, same)) (omega arith))
            (halves_of d.boxes.leaf v.box) (laws.parts.all d.boxes.leaf v.box some is)))

-- a cell has none
pub places-cell : (laws : Lawful) (d : CellDescent) (v : Visit) → 0 < d.boxes.leaf → IsBox v.box → is_long d.boxes.leaf v.box ≡ false → places_of d v ≡ []
places-cell laws d v some is short = places-are laws d v some is ∙ rw short refl

-- a box of more cells that is not split has one
pub places-shut : (laws : Lawful) (d : CellDescent) (v : Visit) → 0 < d.boxes.leaf → IsBox v.box → is_long d.boxes.leaf v.box ≡ true → is_open d v ≡ false → places_of d v ≡ None ∷ []
places-shut laws d v some is long shut = places-are laws d v some is ∙ rw (long, shut) refl

-- and one that is split those of its halves behind it
pub places-split : (laws : Lawful) (d : CellDescent) (v : Visit) (live : List Step) → 0 < d.boxes.leaf → IsBox v.box → is_long d.boxes.leaf v.box ≡ true → is_open d v ≡ true → live ≡ handed_on d.boxes v
    → places_of d v ≡ split_places d v.box live
places-split laws d v live some is long open' same =
    let here : places_of d v ≡ split_places d v.box (handed_on d.boxes v) = places-are laws d v some is ∙ rw (long, open') refl in
    here ∙ ap (split_places d v.box) (sym same)
