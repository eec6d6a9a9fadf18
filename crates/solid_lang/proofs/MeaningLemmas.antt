-- The clauses of a solid have its value.
use Rattle.std.proofs.Common.{◌≡◌, ℕ, suc, ◌+◌, ◌-◌, ℤ, pos, List, [], ◌∷◌, ◌++◌, length, get_or, refl, ap, subst, ◌∙◌, arith}
use Rattle.fixed_ops.specs.Points.{Point}
use Rattle.fixed_ops.specs.declared.operation.Op.TheVariants.{X, Y, Z}
use Rattle.solid_model.specs.Values.{values}
use Rattle.solid_lang.specs.declared.axes.Axes.{Axes}
use Rattle.solid_lang.specs.declared.step.Step.{Step}
use Rattle.solid_lang.specs.Compiled.{clauses_at, compiled, coordinate, coordinates, first_axes}
use Rattle.solid_lang.specs.CompiledLaws.{CompiledSolidsKeepValues, CompiledSolidsAreCounted}
use Rattle.solid_lang.specs.Meaning.{add, distance, divided, greater, lesser, moved_back, negative, scaled_back, square, sub, value_at}
use Rattle.solid_lang.specs.Solids.{SolidTree, Ball, Block, Cylinder, Move, Scale, Union, Intersect, Difference}
use Rattle.solid_lang.specs.Steps.{after, ball_steps, box_steps, cylinder_steps, difference_steps, intersect_steps, last_of, move_steps, moved_axes, scale_steps, scaled_axes, solid_steps, union_steps}
use Rattle.solid_lang.specs.Placing.{Each}
use Rattle.solid_lang.proofs.EachStep.{each-back, each-front}
use Rattle.solid_lang.proofs.FitLemmas.{length-solid_steps}
use Rattle.solid_lang.proofs.ValueLemmas.{IsValue, compiled_values}

-- formulas, one operation after the other, for any operations
ball_formula : (add sub : ℤ → ℤ → ℤ) (square : ℤ → ℤ) (x y z r a b c d e f g h u v w : ℤ) → a ≡ square x → b ≡ square y → c ≡ add a b → d ≡ square z → e ≡ add c d
    → f ≡ r → g ≡ square f → h ≡ sub e g → x ≡ u → y ≡ v → z ≡ w → h ≡ sub (add (add (square u) (square v)) (square w)) (square r)
ball_formula add sub square x y z r a b c d e f g h u v w i j k l m n o p q s t = cc

box_formula : (sub greater : ℤ → ℤ → ℤ) (distance : ℤ → ℤ) (x y z i j k a b c d e f g h l m o u v w : ℤ)
    → a ≡ distance x → b ≡ i → c ≡ sub a b → d ≡ distance y → e ≡ j → f ≡ sub d e → g ≡ greater c f → h ≡ distance z → l ≡ k → m ≡ sub h l → o ≡ greater g m
    → x ≡ u → y ≡ v → z ≡ w → o ≡ greater (greater (sub (distance u) i) (sub (distance v) j)) (sub (distance w) k)
box_formula sub greater distance x y z i j k a b c d e f g h l m o u v w e1 e2 e3 e4 e5 e6 e7 e8 e9 e10 e11 hx hy hz = cc

cylinder_formula : (add sub greater : ℤ → ℤ → ℤ) (square distance : ℤ → ℤ) (x y z r t a b c d e f g h i j u v w : ℤ)
    → a ≡ square x → b ≡ square y → c ≡ add a b → d ≡ r → e ≡ square d → f ≡ sub c e → g ≡ distance z → h ≡ t → i ≡ sub g h → j ≡ greater f i
    → x ≡ u → y ≡ v → z ≡ w → j ≡ greater (sub (add (square u) (square v)) (square r)) (sub (distance w) t)
cylinder_formula add sub greater square distance x y z r t a b c d e f g h i j u v w e1 e2 e3 e4 e5 e6 e7 e8 e9 e10 hx hy hz = cc

two_formula : (f : ℤ → ℤ → ℤ) (a b x y c : ℤ) → c ≡ f a b → a ≡ x → b ≡ y → c ≡ f x y
two_formula f a b x y c e h k = cc

-- in a list that has the values of the steps, where the coordinates are those of a point
module _ (p : Point) (all : List ℤ) where
  value : ℕ → ℤ
  value place = get_or all place (pos 0)

  -- the coordinates of a point stand at these places
  record Gives (at : Axes) (q : Point) : Type 0 where
    x : get_or all at.x (pos 0) ≡ q.x
    y : get_or all at.y (pos 0) ≡ q.y
    z : get_or all at.z (pos 0) ≡ q.z

  Values : ℕ → List Step → Type 0
  Values n steps = Each (IsValue p all) n steps

  place : (n m : ℕ) (v : ℤ) → n ≡ m → get_or all n (pos 0) ≡ v → get_or all m (pos 0) ≡ v
  place n m v e h = subst (λ j. get_or all j (pos 0) ≡ v) e h

  ball_value : (n : ℕ) (at : Axes) (r : ℤ) (q : Point) → Each (IsValue p all) n (ball_steps n at r) → Gives at q
      → get_or all (n + 8 - 1) (pos 0) ≡ value_at (Ball r) q
  ball_value n at r q h g =
      place (n + 7) (n + 8 - 1) _ (omega arith)
      (ball_formula add sub square _ _ _ r _ _ _ _ _ _ _ _ q.x q.y q.z
      (place (n + 0) n _ (omega arith) (h 0 _ refl)) (h 1 _ refl) (h 2 _ refl) (h 3 _ refl) (h 4 _ refl) (h 5 _ refl) (h 6 _ refl) (h 7 _ refl) g.x g.y g.z)

  box_value : (n : ℕ) (at : Axes) (a b c : ℤ) (q : Point) → Each (IsValue p all) n (box_steps n at a b c) → Gives at q
      → get_or all (n + 11 - 1) (pos 0) ≡ value_at (Block a b c) q
  box_value n at a b c q h g =
      place (n + 10) (n + 11 - 1) _ (omega arith)
      (box_formula sub greater distance _ _ _ a b c _ _ _ _ _ _ _ _ _ _ _ q.x q.y q.z
      (place (n + 0) n _ (omega arith) (h 0 _ refl)) (h 1 _ refl) (h 2 _ refl) (h 3 _ refl) (h 4 _ refl) (h 5 _ refl) (h 6 _ refl) (h 7 _ refl) (h 8 _ refl) (h 9 _ refl) (h 10 _ refl) g.x g.y g.z)

  cylinder_value : (n : ℕ) (at : Axes) (r t : ℤ) (q : Point) → Each (IsValue p all) n (cylinder_steps n at r t) → Gives at q
      → get_or all (n + 10 - 1) (pos 0) ≡ value_at (Cylinder r t) q
  cylinder_value n at r t q h g =
      place (n + 9) (n + 10 - 1) _ (omega arith)
      (cylinder_formula add sub greater square distance _ _ _ r t _ _ _ _ _ _ _ _ _ _ q.x q.y q.z
      (place (n + 0) n _ (omega arith) (h 0 _ refl)) (h 1 _ refl) (h 2 _ refl) (h 3 _ refl) (h 4 _ refl) (h 5 _ refl) (h 6 _ refl) (h 7 _ refl) (h 8 _ refl) (h 9 _ refl) g.x g.y g.z)

  -- where the point stands that is taken back
  moved_gives : (n : ℕ) (at : Axes) (x y z : ℤ) (q : Point) → Each (IsValue p all) n (move_steps n at x y z) → Gives at q
      → Gives (moved_axes n) (moved_back x y z q)
  moved_gives n at x y z q h g = record {
    x = two_formula sub _ _ q.x x _ (h 1 _ refl) g.x (place (n + 0) n _ (omega arith) (h 0 _ refl));
    y = two_formula sub _ _ q.y y _ (h 3 _ refl) g.y (h 2 _ refl);
    z = two_formula sub _ _ q.z z _ (h 5 _ refl) g.z (h 4 _ refl);
  }

  scaled_gives : (n : ℕ) (at : Axes) (k : ℤ) (q : Point) → Each (IsValue p all) n (scale_steps n at k) → Gives at q
      → Gives (scaled_axes n) (scaled_back k q)
  scaled_gives n at k q h g =
      let factor = place (n + 0) n _ (omega arith) (h 0 _ refl) in
      record {
        x = two_formula divided _ _ q.x k _ (h 1 _ refl) g.x factor;
        y = two_formula divided _ _ q.y k _ (h 2 _ refl) g.y factor;
        z = two_formula divided _ _ q.z k _ (h 3 _ refl) g.z factor;
      }

  -- the parts of two joined solids
  second_of : (a b : SolidTree) (n : ℕ) (at : Axes) (steps : List Step) → Each (IsValue p all) n (solid_steps a n at ++ (solid_steps b (after n a) at ++ steps))
      → Each (IsValue p all) (after n a) (solid_steps b (after n a) at)
  second_of a b n at steps h =
      let one = length-solid_steps a n at in
      each-front (IsValue p all) (after n a) (solid_steps b (after n a) at) steps
      (each-back (IsValue p all) n (after n a) (solid_steps a n at) (solid_steps b (after n a) at ++ steps) (omega (arith, one)) h)

  joined_of : (a b : SolidTree) (n : ℕ) (at : Axes) (steps : List Step) → Each (IsValue p all) n (solid_steps a n at ++ (solid_steps b (after n a) at ++ steps))
      → Each (IsValue p all) (after (after n a) b) steps
  joined_of a b n at steps h =
      let one = length-solid_steps a n at in
      let two = length-solid_steps b (after n a) at in
      each-back (IsValue p all) (after n a) (after (after n a) b) (solid_steps b (after n a) at) steps (omega (arith, two))
      (each-back (IsValue p all) n (after n a) (solid_steps a n at) (solid_steps b (after n a) at ++ steps) (omega (arith, one)) h)

  -- the last of the steps of a solid has its value at the point
  solid_has_value : (s : SolidTree) (n : ℕ) (at : Axes) (q : Point) → Each (IsValue p all) n (solid_steps s n at) → Gives at q
      → get_or all (last_of n s) (pos 0) ≡ value_at s q
  solid_has_value (Ball r) n at q h g = ball_value n at r q h g
  solid_has_value (Block a b c) n at q h g = box_value n at a b c q h g
  solid_has_value (Cylinder r t) n at q h g = cylinder_value n at r t q h g
  solid_has_value (Move x y z s) n at q h g =
      let inner = solid_has_value s (n + 6) (moved_axes n) (moved_back x y z q)
      (each-back (IsValue p all) n (n + 6) (move_steps n at x y z) (solid_steps s (n + 6) (moved_axes n)) refl h)
      (moved_gives n at x y z q (each-front (IsValue p all) n (move_steps n at x y z) (solid_steps s (n + 6) (moved_axes n)) h) g) in
      place (last_of (n + 6) s) (last_of n (Move x y z s)) _ (omega arith) inner
  solid_has_value (Scale k s) n at q h g =
      let inner = solid_has_value s (n + 4) (scaled_axes n) (scaled_back k q)
      (each-back (IsValue p all) n (n + 4) (scale_steps n at k) (solid_steps s (n + 4) (scaled_axes n)) refl h)
      (scaled_gives n at k q (each-front (IsValue p all) n (scale_steps n at k) (solid_steps s (n + 4) (scaled_axes n)) h) g) in
      place (last_of (n + 4) s) (last_of n (Scale k s)) _ (omega arith) inner
  solid_has_value (Union a b) n at q h g =
      let steps = union_steps (last_of n a) (last_of (after n a) b) in
      let first = solid_has_value a n at q (each-front (IsValue p all) n (solid_steps a n at) (solid_steps b (after n a) at ++ steps) h) g in
      let second = solid_has_value b (after n a) at q (second_of a b n at steps h) g in
      place (after (after n a) b + 0) (last_of n (Union a b)) _ (omega arith)
      (two_formula lesser _ _ (value_at a q) (value_at b q) _ (joined_of a b n at steps h 0 _ refl) first second)
  solid_has_value (Intersect a b) n at q h g =
      let steps = intersect_steps (last_of n a) (last_of (after n a) b) in
      let first = solid_has_value a n at q (each-front (IsValue p all) n (solid_steps a n at) (solid_steps b (after n a) at ++ steps) h) g in
      let second = solid_has_value b (after n a) at q (second_of a b n at steps h) g in
      place (after (after n a) b + 0) (last_of n (Intersect a b)) _ (omega arith)
      (two_formula greater _ _ (value_at a q) (value_at b q) _ (joined_of a b n at steps h 0 _ refl) first second)
  solid_has_value (Difference a b) n at q h g =
      let end = after (after n a) b in
      let steps = difference_steps end (last_of n a) (last_of (after n a) b) in
      let first = solid_has_value a n at q (each-front (IsValue p all) n (solid_steps a n at) (solid_steps b (after n a) at ++ steps) h) g in
      let second = solid_has_value b (after n a) at q (second_of a b n at steps h) g in
      let joined = joined_of a b n at steps h in
      let turned = place (end + 0) end _ (omega arith) (joined 0 _ refl) ∙ ap negative second in
      place (end + 1) (last_of n (Difference a b)) _ (omega arith)
      (two_formula greater _ _ (value_at a q) (negative (value_at b q)) _ (joined 1 _ refl) first turned)

length-clauses_at : (n : ℕ) (steps : List Step) → length (clauses_at n steps) ≡ length steps
length-clauses_at n [] = refl
length-clauses_at n (x ∷ xs) = ap suc (length-clauses_at (n + 1) xs)

pub length-compiled : CompiledSolidsAreCounted
length-compiled s = omega (arith, length-clauses_at 3 (solid_steps s 3 first_axes), length-solid_steps s 3 first_axes)

pub compiled_keep : CompiledSolidsKeepValues
compiled_keep s p =
    let all = values p (compiled s) in
    let hold = compiled_values p s in
    let gives : Gives p all first_axes p = record { x = hold 0 (coordinate X) refl; y = hold 1 (coordinate Y) refl; z = hold 2 (coordinate Z) refl } in
    let later = each-back (IsValue p all) 0 3 coordinates (solid_steps s 3 first_axes) refl hold in
    ap (λ k. get_or all (k - 1) (pos 0)) (length-compiled s) ∙ solid_has_value p all s 3 first_axes p later gives
