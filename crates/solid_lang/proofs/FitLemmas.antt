-- Operands of the steps of a solid stand before them, and the steps are as many as are counted.
use Rattle.std.proofs.Common.{◌≡◌, ◌≢◌, ℕ, zero, suc, ◌+◌, ◌-◌, ◌<◌, ◌≤◌, ℤ, pos, List, [], ◌∷◌, ◌++◌, length, Some, slice_get, refl, ap, sym, subst, ◌∙◌, length-append, arith}
use Rattle.fixed_ops.specs.declared.operation.Op.{Op}
use Rattle.fixed_ops.specs.declared.operation.Op.TheVariants.{X, Y, Z, Const, Neg, Square, Abs, Add, Sub, Div, Min, Max}
use Rattle.fixed_ops.specs.Arity.{arity_of}
use Rattle.solid_model.specs.Clauses.{FitsAt}
use Rattle.solid_lang.specs.declared.axes.Axes.{Axes}
use Rattle.solid_lang.specs.declared.step.Step.{Step}
use Rattle.solid_lang.specs.Compiled.{all_steps, coordinate, coordinates, first_axes}
use Rattle.solid_lang.specs.Counts.{form_clauses}
use Rattle.solid_lang.specs.Solids.{SolidTree, Ball, Block, Cylinder, Move, Scale, Union, Intersect, Difference}
use Rattle.solid_lang.specs.Steps.{after, ball_steps, box_steps, constant, cylinder_steps, difference_steps, intersect_steps, last_of, move_steps, moved_axes, on_one, on_two, scale_steps, scaled_axes, solid_steps, union_steps}
use Rattle.solid_lang.specs.Placing.{Each, Fits, StandBefore}
use Rattle.solid_lang.proofs.EachStep.{each_is, each-append}

fits_none : (place : ℕ) (op : Op) → arity_of op ≡ 0 → Fits place (coordinate op)
fits_none place op none = record {
  first = λ some. absurd (omega (arith, none, some));
  second = λ two. absurd (omega (arith, none, two));
  no_first = λ _. refl;
  no_second = λ _. refl;
  no_value = λ _. refl;
}

fits_constant : (place : ℕ) (value : ℤ) → Fits place (constant value)
fits_constant place value = record {
  first = λ some. absurd (omega (arith, some));
  second = λ two. absurd (omega (arith, two));
  no_first = λ _. refl;
  no_second = λ _. refl;
  no_value = λ other. absurd (other refl);
}

fits_one : (place : ℕ) (op : Op) (a : ℕ) → arity_of op ≡ 1 → a < place → Fits place (on_one op a)
fits_one place op a one before = record {
  first = λ _. before;
  second = λ two. absurd (omega (arith, one, two));
  no_first = λ none. absurd (omega (arith, one, none));
  no_second = λ _. refl;
  no_value = λ _. refl;
}

fits_two : (place : ℕ) (op : Op) (a b : ℕ) → arity_of op ≡ 2 → a < place → b < place → Fits place (on_two op a b)
fits_two place op a b two first second = record {
  first = λ _. first;
  second = λ _. second;
  no_first = λ none. absurd (omega (arith, two, none));
  no_second = λ few. absurd (omega (arith, two, few));
  no_value = λ _. refl;
}

pub ball_fits : (n : ℕ) (at : Axes) (r : ℤ) → StandBefore n at → Each Fits n (ball_steps n at r)
ball_fits n at r h =
    let x = h.x in let y = h.y in let z = h.z in
    each_is Fits n (ball_steps n at r) (
      fits_one (n + 0) Square at.x refl (omega (arith, x)),
      (
        fits_one (n + 1) Square at.y refl (omega (arith, y)),
        (
          fits_two (n + 2) Add n (n + 1) refl (omega arith) (omega arith),
          (
            fits_one (n + 3) Square at.z refl (omega (arith, z)),
            (
              fits_two (n + 4) Add (n + 2) (n + 3) refl (omega arith) (omega arith),
              (
                fits_constant (n + 5) r,
                (
                  fits_one (n + 6) Square (n + 5) refl (omega arith),
                  (fits_two (n + 7) Sub (n + 4) (n + 6) refl (omega arith) (omega arith), tt),
                ),
              ),
            ),
          ),
        ),
      ),
    )

pub box_fits : (n : ℕ) (at : Axes) (a b c : ℤ) → StandBefore n at → Each Fits n (box_steps n at a b c)
box_fits n at a b c h =
    let x = h.x in let y = h.y in let z = h.z in
    each_is Fits n (box_steps n at a b c) (
      fits_one (n + 0) Abs at.x refl (omega (arith, x)),
      (
        fits_constant (n + 1) a,
        (
          fits_two (n + 2) Sub n (n + 1) refl (omega arith) (omega arith),
          (
            fits_one (n + 3) Abs at.y refl (omega (arith, y)),
            (
              fits_constant (n + 4) b,
              (
                fits_two (n + 5) Sub (n + 3) (n + 4) refl (omega arith) (omega arith),
                (
                  fits_two (n + 6) Max (n + 2) (n + 5) refl (omega arith) (omega arith),
                  (
                    fits_one (n + 7) Abs at.z refl (omega (arith, z)),
                    (
                      fits_constant (n + 8) c,
                      (
                        fits_two (n + 9) Sub (n + 7) (n + 8) refl (omega arith) (omega arith),
                        (fits_two (n + 10) Max (n + 6) (n + 9) refl (omega arith) (omega arith), tt),
                      ),
                    ),
                  ),
                ),
              ),
            ),
          ),
        ),
      ),
    )

pub cylinder_fits : (n : ℕ) (at : Axes) (r t : ℤ) → StandBefore n at → Each Fits n (cylinder_steps n at r t)
cylinder_fits n at r t h =
    let x = h.x in let y = h.y in let z = h.z in
    each_is Fits n (cylinder_steps n at r t) (
      fits_one (n + 0) Square at.x refl (omega (arith, x)),
      (
        fits_one (n + 1) Square at.y refl (omega (arith, y)),
        (
          fits_two (n + 2) Add n (n + 1) refl (omega arith) (omega arith),
          (
            fits_constant (n + 3) r,
            (
              fits_one (n + 4) Square (n + 3) refl (omega arith),
              (
                fits_two (n + 5) Sub (n + 2) (n + 4) refl (omega arith) (omega arith),
                (
                  fits_one (n + 6) Abs at.z refl (omega (arith, z)),
                  (
                    fits_constant (n + 7) t,
                    (
                      fits_two (n + 8) Sub (n + 6) (n + 7) refl (omega arith) (omega arith),
                      (fits_two (n + 9) Max (n + 5) (n + 8) refl (omega arith) (omega arith), tt),
                    ),
                  ),
                ),
              ),
            ),
          ),
        ),
      ),
    )

pub move_fits : (n : ℕ) (at : Axes) (x y z : ℤ) → StandBefore n at → Each Fits n (move_steps n at x y z)
move_fits n at x y z h =
    let hx = h.x in let hy = h.y in let hz = h.z in
    each_is Fits n (move_steps n at x y z) (
      fits_constant (n + 0) x,
      (
        fits_two (n + 1) Sub at.x n refl (omega (arith, hx)) (omega arith),
        (
          fits_constant (n + 2) y,
          (
            fits_two (n + 3) Sub at.y (n + 2) refl (omega (arith, hy)) (omega arith),
            (
              fits_constant (n + 4) z,
              (fits_two (n + 5) Sub at.z (n + 4) refl (omega (arith, hz)) (omega arith), tt),
            ),
          ),
        ),
      ),
    )

pub scale_fits : (n : ℕ) (at : Axes) (k : ℤ) → StandBefore n at → Each Fits n (scale_steps n at k)
scale_fits n at k h =
    let x = h.x in let y = h.y in let z = h.z in
    each_is Fits n (scale_steps n at k) (
      fits_constant (n + 0) k,
      (
        fits_two (n + 1) Div at.x n refl (omega (arith, x)) (omega arith),
        (
          fits_two (n + 2) Div at.y n refl (omega (arith, y)) (omega arith),
          (fits_two (n + 3) Div at.z n refl (omega (arith, z)) (omega arith), tt),
        ),
      ),
    )

pub union_fits : (n first second : ℕ) → first < n → second < n → Each Fits n (union_steps first second)
union_fits n first second a b =
    each_is Fits n (union_steps first second) (fits_two (n + 0) Min first second refl (omega (arith, a)) (omega (arith, b)), tt)

pub intersect_fits : (n first second : ℕ) → first < n → second < n → Each Fits n (intersect_steps first second)
intersect_fits n first second a b =
    each_is Fits n (intersect_steps first second) (fits_two (n + 0) Max first second refl (omega (arith, a)) (omega (arith, b)), tt)

pub difference_fits : (n first second : ℕ) → first < n → second < n → Each Fits n (difference_steps n first second)
difference_fits n first second a b =
    each_is Fits n (difference_steps n first second) (
      fits_one (n + 0) Neg second refl (omega (arith, b)),
      (fits_two (n + 1) Max first n refl (omega (arith, a)) (omega arith), tt),
    )

pub moved_before : (n : ℕ) → StandBefore (n + 6) (moved_axes n)
moved_before n = record { x = omega arith; y = omega arith; z = omega arith }

pub scaled_before : (n : ℕ) → StandBefore (n + 4) (scaled_axes n)
scaled_before n = record { x = omega arith; y = omega arith; z = omega arith }

pub stand_later : (n m : ℕ) (at : Axes) → n ≤ m → StandBefore n at → StandBefore m at
stand_later n m at past h =
    let x = h.x in let y = h.y in let z = h.z in
    record { x = omega (arith, x, past); y = omega (arith, y, past); z = omega (arith, z, past) }

-- a solid has steps
pub some_clauses : (s : SolidTree) → 1 ≤ form_clauses s
some_clauses (Ball r) = omega arith
some_clauses (Block a b c) = omega arith
some_clauses (Cylinder r h) = omega arith
some_clauses (Move x y z s) = omega arith
some_clauses (Scale k s) = omega arith
some_clauses (Union a b) = omega arith
some_clauses (Intersect a b) = omega arith
some_clauses (Difference a b) = omega arith

length-joined : (xs ys zs : List Step) (i j k : ℕ) → length xs ≡ i → length ys ≡ j → length zs ≡ k → length (xs ++ (ys ++ zs)) ≡ i + j + k
length-joined xs ys zs i j k a b c = omega (arith, a, b, c, length-append xs (ys ++ zs), length-append ys zs)

-- as many as are counted
pub length-solid_steps : (s : SolidTree) (n : ℕ) (at : Axes) → length (solid_steps s n at) ≡ form_clauses s
length-solid_steps (Ball r) n at = refl
length-solid_steps (Block a b c) n at = refl
length-solid_steps (Cylinder r h) n at = refl
length-solid_steps (Move x y z s) n at =
    let inner = length-solid_steps s (n + 6) (moved_axes n) in
    omega (arith, inner, length-append (move_steps n at x y z) (solid_steps s (n + 6) (moved_axes n)))
length-solid_steps (Scale k s) n at =
    let inner = length-solid_steps s (n + 4) (scaled_axes n) in
    omega (arith, inner, length-append (scale_steps n at k) (solid_steps s (n + 4) (scaled_axes n)))
length-solid_steps (Union a b) n at =
    length-joined (solid_steps a n at) (solid_steps b (after n a) at) (union_steps (last_of n a) (last_of (after n a) b)) _ _ 1
    (length-solid_steps a n at) (length-solid_steps b (after n a) at) refl
length-solid_steps (Intersect a b) n at =
    length-joined (solid_steps a n at) (solid_steps b (after n a) at) (intersect_steps (last_of n a) (last_of (after n a) b)) _ _ 1
    (length-solid_steps a n at) (length-solid_steps b (after n a) at) refl
length-solid_steps (Difference a b) n at =
    length-joined (solid_steps a n at) (solid_steps b (after n a) at)
    (difference_steps (after (after n a) b) (last_of n a) (last_of (after n a) b)) _ _ 2
    (length-solid_steps a n at) (length-solid_steps b (after n a) at) refl

-- two solids and how they are joined
joined_fit : (a b : SolidTree) (n : ℕ) (at : Axes) (steps : List Step) → Each Fits n (solid_steps a n at) → Each Fits (after n a) (solid_steps b (after n a) at)
    → Each Fits (after (after n a) b) steps → Each Fits n (solid_steps a n at ++ (solid_steps b (after n a) at ++ steps))
joined_fit a b n at steps first second last =
    let one = length-solid_steps a n at in
    let two = length-solid_steps b (after n a) at in
    each-append Fits n (after n a) (solid_steps a n at) (solid_steps b (after n a) at ++ steps) (omega (arith, one)) first
    (each-append Fits (after n a) (after (after n a) b) (solid_steps b (after n a) at) steps (omega (arith, two)) second last)

-- and what each of them says fits where it stands
pub solid_fits : (s : SolidTree) (n : ℕ) (at : Axes) → StandBefore n at → Each Fits n (solid_steps s n at)
solid_fits (Ball r) n at h = ball_fits n at r h
solid_fits (Block a b c) n at h = box_fits n at a b c h
solid_fits (Cylinder r t) n at h = cylinder_fits n at r t h
solid_fits (Move x y z s) n at h =
    each-append Fits n (n + 6) (move_steps n at x y z) (solid_steps s (n + 6) (moved_axes n)) refl (move_fits n at x y z h)
    (solid_fits s (n + 6) (moved_axes n) (moved_before n))
solid_fits (Scale k s) n at h =
    each-append Fits n (n + 4) (scale_steps n at k) (solid_steps s (n + 4) (scaled_axes n)) refl (scale_fits n at k h)
    (solid_fits s (n + 4) (scaled_axes n) (scaled_before n))
solid_fits (Union a b) n at h =
    let m = after n a in
    let first = some_clauses a in let second = some_clauses b in
    joined_fit a b n at (union_steps (last_of n a) (last_of m b)) (solid_fits a n at h) (solid_fits b m at (stand_later n m at (omega arith) h))
    (union_fits (after m b) (last_of n a) (last_of m b) (omega (arith, first)) (omega (arith, second)))
solid_fits (Intersect a b) n at h =
    let m = after n a in
    let first = some_clauses a in let second = some_clauses b in
    joined_fit a b n at (intersect_steps (last_of n a) (last_of m b)) (solid_fits a n at h) (solid_fits b m at (stand_later n m at (omega arith) h))
    (intersect_fits (after m b) (last_of n a) (last_of m b) (omega (arith, first)) (omega (arith, second)))
solid_fits (Difference a b) n at h =
    let m = after n a in
    let first = some_clauses a in let second = some_clauses b in
    joined_fit a b n at (difference_steps (after m b) (last_of n a) (last_of m b)) (solid_fits a n at h) (solid_fits b m at (stand_later n m at (omega arith) h))
    (difference_fits (after m b) (last_of n a) (last_of m b) (omega (arith, first)) (omega (arith, second)))

pub coordinates_fit : Each Fits 0 coordinates
coordinates_fit = each_is Fits 0 coordinates (fits_none 0 X refl, (fits_none 1 Y refl, (fits_none 2 Z refl, tt)))

pub all_fit : (s : SolidTree) → Each Fits 0 (all_steps s)
all_fit s =
    each-append Fits 0 3 coordinates (solid_steps s 3 first_axes) refl coordinates_fit
    (solid_fits s 3 first_axes (record { x = omega arith; y = omega arith; z = omega arith }))
