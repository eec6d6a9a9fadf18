-- The nodes of a box, from those of its halves.
use Rattle.std.proofs.Common.{◌≡◌, ℕ, zero, suc, ◌<◌, ◌≤◌, Bool, true, false, List, [], ◌∷◌, ◌++◌, refl, sym, ap, ◌∙◌, arith}
use Rattle.std.specs.Prelude.{Option, Some, None}
use Rattle.std.specs.List.{All, flat_map}
use Rattle.std.proofs.lemmas.List.Concat.{flat_map-cons}
use Rattle.std.proofs.lemmas.List.Elements.{All-head, All-tail, All-weaker}
use Rattle.box_chains.specs.Chains.{Descent, Visit, decision, half_visit, handed_on, is_long, sides}
use Rattle.box_chains.specs.Parts.{IsPart}
use Rattle.box_chains.specs.Laws.{Lawful}
use Rattle.view_places.specs.Boxes.{Indices, IsBox, halves_of}
use Rattle.quad_descent.specs.KeptLists.{box_lists, halves_lists, lists_of}
use Rattle.quad_descent.specs.Nodes.{box_nodes, kept_within, nodes_of}
use Rattle.quad_descent.specs.declared.node.Node.{Node}

box-has_sides : (b : Indices) → IsBox b → 0 < sides b
box-has_sides b is = omega (arith, is.x)

-- parts that are equal one by one are equal when joined
flat_map-same : {X Y : Type 0} (f g : X → List Y) (xs : List X) → All (λ x. f x ≡ g x) xs
    → flat_map f xs ≡ flat_map g xs
flat_map-same f g [] same = refl
flat_map-same f g (x ∷ xs) same =
    flat_map-cons f x xs
    ∙ ap (λ l. l ++ flat_map f xs) (All-head (λ y. f y ≡ g y) x xs same)
    ∙ ap (λ l. g x ++ l) (flat_map-same f g xs (All-tail (λ y. f y ≡ g y) x xs same))
    ∙ sym (flat_map-cons g x xs)

-- what is kept of a box that is not split does not hang on what is kept below it
pub record StandsAlone {K : Type 0} (of_box : Descent → Visit → List K → Option Bool → List K) : Type 0 where
  pub decided : (d : Descent) (v : Visit) (inside : Bool) (below other : List K)
      → of_box d v below (Some inside) ≡ of_box d v other (Some inside)
  pub short : (d : Descent) (v : Visit) (below other : List K) → is_long d.leaf v.box ≡ false
      → of_box d v below None ≡ of_box d v other None

-- more turns than there are sides change nothing
kept-enough : {K : Type 0} (of_box : Descent → Visit → List K → Option Bool → List K) → StandsAlone of_box
    → (laws : Lawful) (n m : ℕ) (d : Descent) (v : Visit) → 0 < d.leaf → IsBox v.box → sides v.box ≤ n
    → sides v.box ≤ m → kept_within of_box n d v ≡ kept_within of_box m d v
unfolding kept_within
kept-enough of_box alone laws zero m d v some is few more =
    absurd (omega (arith, box-has_sides v.box is, few))
kept-enough of_box alone laws (suc n) zero d v some is few more =
    absurd (omega (arith, box-has_sides v.box is, more))
kept-enough {K} of_box alone laws (suc n) (suc m) d v some is few more =
    by (is_long d.leaf v.box) refl (decision d v)
    (λ half part less. kept-enough of_box alone laws n m d (half_visit d v half) some
    (laws.parts.box d.leaf v.box half part) (omega (arith, less, few)) (omega (arith, less, more)))
  where
    below : ℕ → List K
    below turns =
        flat_map (λ half. kept_within of_box turns d (half_visit d v half)) (halves_of d.leaf v.box)

    by : (long : Bool) → is_long d.leaf v.box ≡ long → (o : Option Bool)
        → ((half : Indices) → IsPart d.leaf v.box half → sides half < sides v.box
        → kept_within of_box n d (half_visit d v half) ≡ kept_within of_box m d (half_visit d v half))
        → of_box d v (below n) o ≡ of_box d v (below m) o
    by long e (Some inside) same = alone.decided d v inside (below n) (below m)
    by false e None same = alone.short d v (below n) (below m) e
    by true e None same =
        ap (λ b. of_box d v b None)
        (flat_map-same (λ half. kept_within of_box n d (half_visit d v half))
        (λ half. kept_within of_box m d (half_visit d v half)) (halves_of d.leaf v.box)
        (All-weaker (IsPart d.leaf v.box) (λ half. kept_within of_box n d
        (half_visit d v half) ≡ kept_within of_box m d (half_visit d v half))
        (λ half part. same half part (laws.parts.shorter d.leaf v.box half e part))
        (halves_of d.leaf v.box) (laws.parts.all d.leaf v.box some is)))

-- what is kept of a box and of the boxes below it
abbrev pub kept_of : {K : Type 0} → (Descent → Visit → List K → Option Bool → List K) → Descent → Visit → List K
kept_of of_box d v = kept_within of_box (sides v.box) d v

-- it is what its decision makes of what is kept of its halves
kept-are : {K : Type 0} (of_box : Descent → Visit → List K → Option Bool → List K) → StandsAlone of_box
    → (laws : Lawful) (d : Descent) (v : Visit) → 0 < d.leaf → IsBox v.box
    → kept_of of_box d v ≡ of_box d v (flat_map (λ half. kept_of of_box d (half_visit d v half)) (halves_of d.leaf v.box)) (decision d v)
unfolding kept_within
kept-are {K} of_box alone laws d v some is = by (sides v.box) refl (box-has_sides v.box is)
  where
    below : List K
    below = flat_map (λ half. kept_of of_box d (half_visit d v half)) (halves_of d.leaf v.box)

    by : (n : ℕ) → n ≡ sides v.box → 0 < n → kept_within of_box n d v ≡ of_box d v below (decision d v)
    by zero same h = absurd (omega (arith, h))
    by (suc n) same h = long (is_long d.leaf v.box) refl (decision d v)
      where
        inner : List K
        inner = flat_map (λ half. kept_within of_box n d (half_visit d v half)) (halves_of d.leaf v.box)

        long : (t : Bool) → is_long d.leaf v.box ≡ t → (o : Option Bool)
            → of_box d v inner o ≡ of_box d v below o
        long t e (Some inside) = alone.decided d v inside inner below
        long false e None = alone.short d v inner below e
        long true e None =
            ap (λ b. of_box d v b None)
            (flat_map-same (λ half. kept_within of_box n d (half_visit d v half))
            (λ half. kept_of of_box d (half_visit d v half)) (halves_of d.leaf v.box)
            (All-weaker (IsPart d.leaf v.box) (λ half. kept_within of_box n d
            (half_visit d v half) ≡ kept_of of_box d (half_visit d v half))
            (λ half part.
            let less = laws.parts.shorter d.leaf v.box half e part in
            kept-enough of_box alone laws n (sides half) d (half_visit d v half) some
            (laws.parts.box d.leaf v.box half part) (omega (arith, less, same)) (omega arith))
            (halves_of d.leaf v.box) (laws.parts.all d.leaf v.box some is)))

nodes-alone : StandsAlone box_nodes
nodes-alone = record {
  decided = λ d v inside below other. by d v below other inside;
  short = λ d v below other e. rw e refl;
}
  where
    by : (d : Descent) (v : Visit) (below other : List Node) (inside : Bool) → box_nodes d v below (Some inside) ≡ box_nodes d v other (Some inside)
    by d v below other true = refl
    by d v below other false = refl

lists-alone : StandsAlone box_lists
lists-alone = record {
  decided = λ d v inside below other. refl;
  short = λ d v below other e. rw e refl;
}

-- the nodes below a box that is split
abbrev pub nodes_below : Descent → Visit → List Indices → List Node
nodes_below d v halves = flat_map (λ half. nodes_of d (half_visit d v half)) halves

-- The nodes of a box are what its decision says, from those of its halves, and so are its lists.
pub nodes-are : (laws : Lawful) (d : Descent) (v : Visit) → 0 < d.leaf → IsBox v.box
    → nodes_of d v ≡ box_nodes d v (nodes_below d v (halves_of d.leaf v.box)) (decision d v)
nodes-are laws d v some is = kept-are box_nodes nodes-alone laws d v some is

pub lists-are : (laws : Lawful) (d : Descent) (v : Visit) → 0 < d.leaf → IsBox v.box
    → lists_of d v ≡ box_lists d v (halves_lists d (handed_on d v) (halves_of d.leaf v.box)) (decision d v)
lists-are laws d v some is = kept-are box_lists lists-alone laws d v some is
