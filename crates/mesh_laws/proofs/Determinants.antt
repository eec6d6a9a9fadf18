-- Determinants of ways between places, as differences of two natural numbers.
use Rattle.std.proofs.Common.{◌≡◌, ℕ, ◌+◌, ◌*◌, ◌<◌, ◌≤◌, ℤ, pos, ◌+ℤ◌, ◌*ℤ◌, Bool, true, false, refl, arith, ap}
use Rattle.std.specs.Prelude.{◌-ℤ◌, ◌<ℤ◌, ◌||◌}
use Rattle.std.proofs.lemmas.Int.{ints}
use Rattle.std.proofs.Math.Nat.{mul-le-mul_left}
use borrow.Author.Differences.{up, down, product_is, same_in}
use Rattle.kuhn_cells.specs.Triangles.{GridPoint, point}
use Rattle.kuhn_cells.specs.Vectors.{Vector, determinant}

-- ---- differences of natural numbers

unfoldable pub diff : ℕ → ℕ → ℤ
diff a b = pos a -ℤ pos b

-- a difference by its two parts
pub diff_is : (a b : ℕ) → up (diff a b) + b ≡ down (diff a b) + a
unfolding diff
diff_is a b = omega (arith, ints)

diff_add : (a b c d : ℕ) → diff a b +ℤ diff c d ≡ diff (a + c) (b + d)
diff_add a b c d = omega (arith, ints, diff_is a b, diff_is c d, diff_is (a + c) (b + d))

-- the difference of two
pub diff_sub : (a b c d : ℕ) → diff a b -ℤ diff c d ≡ diff (a + d) (b + c)
diff_sub a b c d = omega (arith, ints, diff_is a b, diff_is c d, diff_is (a + d) (b + c))

pub diff_same : (a b c d : ℕ) → a + d ≡ c + b → diff a b ≡ diff c d
diff_same a b c d h = omega (arith, ints, h, diff_is a b, diff_is c d)

diff_below : (a b : ℕ) → a < b → diff a b <ℤ pos 0
diff_below a b h = omega (arith, ints, h, diff_is a b)

-- the product of two
pub diff_mul : (a b c d : ℕ) → diff a b *ℤ diff c d ≡ diff (a * c + b * d) (a * d + b * c)
diff_mul a b c d =
    let x = diff a b in
    let y = diff c d in
    let h = diff_is a b in
    let k = diff_is c d in
    let p = product_is x y in
    same_in (x *ℤ y) (diff (a * c + b * d) (a * d + b * c))
    (omega (arith, p.0, p.1, diff_is (a * c + b * d) (a * d + b * c), ap (λ m. m * up y) h, ap (λ m. m * down y) h, ap (λ m. m * a) k, ap (λ m. m * b) k))

-- ---- determinants

-- the way from a place to another, by their coordinates, which are natural numbers
pub record Arrow : Type 0 where
  pub tail : GridPoint
  pub head : GridPoint

abbrev pub arrow : GridPoint → GridPoint → Arrow
arrow p q = record { tail = p; head = q }

abbrev pub vector : Arrow → Vector
vector a = record { x = diff a.head.x a.tail.x; y = diff a.head.y a.tail.y; z = diff a.head.z a.tail.z }

-- what is added and what is taken away in a product of one difference and a difference of two products of two
unfoldable pub plus : (a b c d e f g h i j : ℕ) → ℕ
plus a b c d e f g h i j = a * ((c * e + d * f) + (g * j + h * i)) + b * ((c * f + d * e) + (g * i + h * j))

unfoldable pub minus : (a b c d e f g h i j : ℕ) → ℕ
minus a b c d e f g h i j = a * ((c * f + d * e) + (g * i + h * j)) + b * ((c * e + d * f) + (g * j + h * i))

term : (a b c d e f g h i j : ℕ) → diff a b *ℤ ((diff c d *ℤ diff e f) -ℤ (diff g h *ℤ diff i j)) ≡ diff (plus a b c d e f g h i j) (minus a b c d e f g h i j)
unfolding plus minus
term a b c d e f g h i j =
    rw (diff_mul c d e f, diff_mul g h i j, diff_sub (c * e + d * f) (c * f + d * e) (g * i + h * j) (g * j + h * i)) (diff_mul a b _ _)

-- the same in a determinant of three ways
unfoldable pub added : Arrow → Arrow → Arrow → ℕ
added u v w =
    (plus u.head.x u.tail.x v.head.y v.tail.y w.head.z w.tail.z v.head.z v.tail.z w.head.y w.tail.y + minus u.head.y u.tail.y v.head.x v.tail.x w.head.z w.tail.z v.head.z v.tail.z w.head.x w.tail.x)
    + plus u.head.z u.tail.z v.head.x v.tail.x w.head.y w.tail.y v.head.y v.tail.y w.head.x w.tail.x

unfoldable pub taken : Arrow → Arrow → Arrow → ℕ
taken u v w =
    (minus u.head.x u.tail.x v.head.y v.tail.y w.head.z w.tail.z v.head.z v.tail.z w.head.y w.tail.y + plus u.head.y u.tail.y v.head.x v.tail.x w.head.z w.tail.z v.head.z v.tail.z w.head.x w.tail.x)
    + minus u.head.z u.tail.z v.head.x v.tail.x w.head.y w.tail.y v.head.y v.tail.y w.head.x w.tail.x

pub determinant_is : (u v w : Arrow) → determinant (vector u) (vector v) (vector w) ≡ diff (added u v w) (taken u v w)
unfolding added taken
determinant_is u v w =
    rw (term u.head.x u.tail.x v.head.y v.tail.y w.head.z w.tail.z v.head.z v.tail.z w.head.y w.tail.y, term u.head.y u.tail.y v.head.x v.tail.x w.head.z w.tail.z v.head.z v.tail.z w.head.x w.tail.x, term u.head.z u.tail.z v.head.x v.tail.x w.head.y w.tail.y v.head.y v.tail.y w.head.x w.tail.x, diff_sub (plus u.head.x u.tail.x v.head.y v.tail.y w.head.z w.tail.z v.head.z v.tail.z w.head.y w.tail.y) (minus u.head.x u.tail.x v.head.y v.tail.y w.head.z w.tail.z v.head.z v.tail.z w.head.y w.tail.y) (plus u.head.y u.tail.y v.head.x v.tail.x w.head.z w.tail.z v.head.z v.tail.z w.head.x w.tail.x) (minus u.head.y u.tail.y v.head.x v.tail.x w.head.z w.tail.z v.head.z v.tail.z w.head.x w.tail.x))
    (diff_add _ _ _ _)

-- the ways may be taken round
added_round : (u v w : Arrow) → added u v w ≡ added v w u
unfolding added plus minus
added_round u v w = omega arith

taken_round : (u v w : Arrow) → taken u v w ≡ taken v w u
unfolding taken plus minus
taken_round u v w = omega arith

-- the ways from the first of four places to the others, and the ways from the last to the others
pub from_last : (p q r s : GridPoint) → determinant (vector (arrow p q)) (vector (arrow p r)) (vector (arrow p s)) ≡ determinant (vector (arrow s q)) (vector (arrow s p)) (vector (arrow s r))
unfolding added taken plus minus
from_last p q r s =
    rw (determinant_is (arrow p q) (arrow p r) (arrow p s), determinant_is (arrow s q) (arrow s p) (arrow s r)) (diff_same _ _ _ _ (omega arith))

-- ---- determinants that are not positive

-- so many times one place and so many times another
abbrev pub weighed : ℕ → ℕ → GridPoint → GridPoint → GridPoint
weighed k l p q = point (k * p.x + l * q.x) (k * p.y + l * q.y) (k * p.z + l * q.z)

abbrev pub mixed : ℕ → ℕ → Arrow → Arrow → Arrow
mixed k l a b = arrow (weighed k l a.tail b.tail) (weighed k l a.head b.head)

added_mixed : (k l : ℕ) (a b v w : Arrow) → added (mixed k l a b) v w ≡ k * added a v w + l * added b v w
unfolding added plus minus
added_mixed k l a b v w = omega arith

taken_mixed : (k l : ℕ) (a b v w : Arrow) → taken (mixed k l a b) v w ≡ k * taken a v w + l * taken b v w
unfolding taken plus minus
taken_mixed k l a b v w = omega arith

-- a determinant is at most 0, and below 0 where a flag says so
pub record IsLow (strict : Bool) (u v w : Arrow) : Type 0 where
  pub most : added u v w ≤ taken u v w
  pub less : strict ≡ true → added u v w < taken u v w

weigh : (k a b : ℕ) → a ≤ b → k * a ≤ k * b
weigh k a b h = mul-le-mul_left k h

weigh_less : (k a b : ℕ) → 1 ≤ k → a < b → k * a < k * b
weigh_less k a b some h = let e = weigh k (a + 1) b (omega (arith, h)) in omega (arith, e, some)

or_strict : (b c : Bool) (k l a t d s : ℕ) → 1 ≤ k → 1 ≤ l → a ≤ t → d ≤ s → (b ≡ true → a < t) → (c ≡ true → d < s) → (b || c) ≡ true → k * a + l * d < k * t + l * s
or_strict true c k l a t d s p q h i first second e =
    let x = weigh_less k a t p (first refl) in let y = weigh l d s i in omega (arith, x, y)
or_strict false c k l a t d s p q h i first second e =
    let x = weigh k a t h in let y = weigh_less l d s q (second e) in omega (arith, x, y)

mix_first : (k l : ℕ) (b c : Bool) (x y v w : Arrow) → 1 ≤ k → 1 ≤ l → IsLow b x v w → IsLow c y v w → IsLow (b || c) (mixed k l x y) v w
mix_first k l b c x y v w p q h i =
    let most = h.most in
    let more = i.most in
    let e = weigh k (added x v w) (taken x v w) most in
    let f = weigh l (added y v w) (taken y v w) more in
    record {
      most = rw (added_mixed k l x y v w, taken_mixed k l x y v w) (omega (arith, e, f));
      less = λ strict. rw (added_mixed k l x y v w, taken_mixed k l x y v w) (or_strict b c k l _ _ _ _ p q most more h.less i.less strict);
    }

turn_low : (b : Bool) (u v w : Arrow) → IsLow b u v w → IsLow b v w u
turn_low b u v w h = record { most = rw (← added_round u v w, ← taken_round u v w) h.most; less = λ e. rw (← added_round u v w, ← taken_round u v w) (h.less e) }

mix_second : (k l : ℕ) (b c : Bool) (u x y w : Arrow) → 1 ≤ k → 1 ≤ l → IsLow b u x w → IsLow c u y w → IsLow (b || c) u (mixed k l x y) w
mix_second k l b c u x y w p q h i =
    turn_low _ w u (mixed k l x y) (turn_low _ (mixed k l x y) w u (mix_first k l b c x y w u p q (turn_low b u x w h) (turn_low c u y w i)))

mix_third : (k l : ℕ) (b c : Bool) (u v x y : Arrow) → 1 ≤ k → 1 ≤ l → IsLow b u v x → IsLow c u v y → IsLow (b || c) u v (mixed k l x y)
mix_third k l b c u v x y p q h i =
    turn_low _ (mixed k l x y) u v (mix_first k l b c x y u v p q (turn_low b v x u (turn_low b u v x h)) (turn_low c v y u (turn_low c u v y i)))

-- ---- from the ends of three edges to places between them

-- one of two cases passes
abbrev pub either : (Bool → Bool) → Bool
either p = p true || p false

-- so many times the one end and so many times the other, each once at least
pub record IsWeight (k l : ℕ) : Type 0 where
  pub inner : 1 ≤ k
  pub outer : 1 ≤ l
  pub whole : k + l ≡ 65536

abbrev pub between : ℕ → ℕ → (Bool → Arrow) → Arrow
between k l x = mixed k l (x true) (x false)

pub low_between : (less : Bool → Bool → Bool → Bool) (x y z : Bool → Arrow) → ((a b c : Bool) → IsLow (less a b c) (x a) (y b) (z c)) → (i j k l m n : ℕ) → IsWeight i j → IsWeight k l → IsWeight m n → IsLow (either (λ a. either (λ b. either (λ c. less a b c)))) (between i j x) (between k l y) (between m n z)
low_between less x y z each i j k l m n p q r =
    let third = λ (a b : Bool). mix_third m n (less a b true) (less a b false) (x a) (y b) (z true) (z false) r.inner r.outer (each a b true) (each a b false) in
    let second = λ (a : Bool). mix_second k l (either (λ c. less a true c)) (either (λ c. less a false c)) (x a) (y true) (y false) (between m n z) q.inner q.outer (third a true) (third a false) in
    mix_first i j (either (λ b. either (λ c. less true b c))) (either (λ b. either (λ c. less false b c))) (x true) (x false) (between k l y) (between m n z) p.inner p.outer (second true) (second false)

pub below_zero : (u v w : Arrow) → IsLow true u v w → determinant (vector u) (vector v) (vector w) <ℤ pos 0
below_zero u v w h = rw (determinant_is u v w) (diff_below _ _ (h.less refl))
