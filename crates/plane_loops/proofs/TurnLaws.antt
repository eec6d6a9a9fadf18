-- The segment of one triangle.
use Rattle.std.proofs.Common.{◌≡◌, ℕ, ◌-◌, ◌≤◌, Bool, true, false, List, [], ◌∷◌, ◌++◌, refl, arith, ◌∙◌, ap, subst, sym, inl, inr}
use Rattle.std.specs.Prelude.{◌⊎◌, ◌&&◌, min, max, Contains, if◌then◌else◌}
use Rattle.std.proofs.lemmas.Bool.{cases_eq, false≢true, true≢false}
use Rattle.std.proofs.lemmas.List.Elements.{Contains-append_cases, Contains-append_left, Contains-append_right}
use Rattle.kuhn_cells.specs.Arrangement.{differ}
use Rattle.plane_loops.specs.declared.left_triangle.LeftTriangle.{LeftTriangle}
use Rattle.plane_loops.specs.Following.{left_triangle}
use Rattle.plane_loops.specs.Planes.{PlaneEdge, PlanePoint, edge_from, further}
use Rattle.plane_loops.specs.Segments.{Segment, Triangle, cell_segments, edge_between, segments_in}
use Rattle.fixed_ops.proofs.Lists.{head_or_tail, in_head, not_in_none}

abbrev pub triangle : ℕ → ℕ → ℕ → Triangle
triangle a b c = record { a = a; b = b; c = c }

abbrev pub segment : PlaneEdge → PlaneEdge → Segment
segment e f = record { from = e; to = f }

-- whether a corner of a cell is inside
abbrev pub side : (PlanePoint → Bool) → PlanePoint → ℕ → Bool
side inside cell c = inside (further cell c)

-- ---- by the sides of the corners

abbrev pub tip : Bool → Bool → Bool → PlaneEdge → PlaneEdge → List Segment
tip a b c ab ac = if differ a b && differ a c then (if a then segment ab ac else segment ac ab) ∷ [] else []

abbrev pub tips : Bool → Bool → Bool → PlaneEdge → PlaneEdge → PlaneEdge → PlaneEdge → PlaneEdge → PlaneEdge → List Segment
tips a b c ab ac bc ba ca cb = tip a b c ab ac ++ (tip b c a bc ba ++ (tip c a b ca cb ++ []))

abbrev ends_on : Bool → PlaneEdge → PlaneEdge → PlaneEdge
ends_on c ca cb = if c then cb else ca

to_same : (e f g : PlaneEdge) → f ≡ g → segment e f ∷ [] ≡ segment e g ∷ []
to_same e f g same = ap (λ (x : PlaneEdge). segment e x ∷ []) same

from_same : (e f g : PlaneEdge) → e ≡ f → segment f g ∷ [] ≡ segment e g ∷ []
from_same e f g same = ap (λ (x : PlaneEdge). segment x g ∷ []) (sym same)

-- from an inside corner to an outside one, with the triangle told from its first corner on, from its second, or from its third
first_way : (a b c : Bool) (ab ac bc ba ca cb : PlaneEdge) → a ≡ true → b ≡ false → ab ≡ ba → bc ≡ cb → ac ≡ ca → tips a b c ab ac bc ba ca cb ≡ segment ab (ends_on c ca cb) ∷ []
first_way true false true ab ac bc ba ca cb p q e f g = from_same ab ba bc e ∙ to_same ab bc cb f
first_way true false false ab ac bc ba ca cb p q e f g = to_same ab ac ca g
first_way true true c ab ac bc ba ca cb p q e f g = absurd (true≢false q)
first_way false b c ab ac bc ba ca cb p q e f g = absurd (false≢true p)

second_way : (a b c : Bool) (ab ac bc ba ca cb : PlaneEdge) → a ≡ true → b ≡ false → ab ≡ ba → bc ≡ cb → ac ≡ ca → tips c a b ca cb ab ac bc ba ≡ segment ab (ends_on c ca cb) ∷ []
second_way true false true ab ac bc ba ca cb p q e f g = from_same ab ba bc e ∙ to_same ab bc cb f
second_way true false false ab ac bc ba ca cb p q e f g = to_same ab ac ca g
second_way true true c ab ac bc ba ca cb p q e f g = absurd (true≢false q)
second_way false b c ab ac bc ba ca cb p q e f g = absurd (false≢true p)

third_way : (a b c : Bool) (ab ac bc ba ca cb : PlaneEdge) → a ≡ true → b ≡ false → ab ≡ ba → bc ≡ cb → ac ≡ ca → tips b c a bc ba ca cb ab ac ≡ segment ab (ends_on c ca cb) ∷ []
third_way true false true ab ac bc ba ca cb p q e f g = from_same ab ba bc e ∙ to_same ab bc cb f
third_way true false false ab ac bc ba ca cb p q e f g = to_same ab ac ca g
third_way true true c ab ac bc ba ca cb p q e f g = absurd (true≢false q)
third_way false b c ab ac bc ba ca cb p q e f g = absurd (false≢true p)

no_way : (s a b c : Bool) (ab ac bc ba ca cb : PlaneEdge) → a ≡ s → b ≡ s → c ≡ s → tips a b c ab ac bc ba ca cb ≡ []
no_way true a b c ab ac bc ba ca cb p q r = rw (p, q, r) refl
no_way false a b c ab ac bc ba ca cb p q r = rw (p, q, r) refl

-- ---- by the corners

turned_round : (cell : PlanePoint) (a b : ℕ) → edge_between cell a b ≡ edge_between cell b a
turned_round cell a b =
    let e : min a b ≡ min b a = omega arith in
    let f : max a b ≡ max b a = omega arith in
    ap (λ (m : ℕ). edge_from (further cell m) (max a b - m)) e ∙ ap (λ (m : ℕ). edge_from (further cell (min b a)) (m - min b a)) f

-- where the segment ends that starts between the first two corners
abbrev pub end_edge : (PlanePoint → Bool) → PlanePoint → ℕ → ℕ → ℕ → PlaneEdge
end_edge inside cell a b c = edge_between cell c (if side inside cell c then b else a)

pushed : (s : Bool) (cell : PlanePoint) (a b c : ℕ) → ends_on s (edge_between cell c a) (edge_between cell c b) ≡ edge_between cell c (if s then b else a)
pushed true cell a b c = refl
pushed false cell a b c = refl

last_step : (inside : PlanePoint → Bool) (cell : PlanePoint) (a b c : ℕ) → segment (edge_between cell a b) (ends_on (side inside cell c) (edge_between cell c a) (edge_between cell c b)) ∷ [] ≡ segment (edge_between cell a b) (end_edge inside cell a b c) ∷ []
last_step inside cell a b c = to_same _ _ _ (pushed (side inside cell c) cell a b c)

first_turn : (inside : PlanePoint → Bool) (cell : PlanePoint) (a b c : ℕ) → side inside cell a ≡ true → side inside cell b ≡ false → segments_in inside cell (triangle a b c) ≡ segment (edge_between cell a b) (end_edge inside cell a b c) ∷ []
first_turn inside cell a b c p q =
    first_way (side inside cell a) (side inside cell b) (side inside cell c) _ _ _ _ _ _ p q (turned_round cell a b) (turned_round cell b c) (turned_round cell a c) ∙ last_step inside cell a b c

second_turn : (inside : PlanePoint → Bool) (cell : PlanePoint) (a b c : ℕ) → side inside cell a ≡ true → side inside cell b ≡ false → segments_in inside cell (triangle c a b) ≡ segment (edge_between cell a b) (end_edge inside cell a b c) ∷ []
second_turn inside cell a b c p q =
    second_way (side inside cell a) (side inside cell b) (side inside cell c) _ _ _ _ _ _ p q (turned_round cell a b) (turned_round cell b c) (turned_round cell a c) ∙ last_step inside cell a b c

third_turn : (inside : PlanePoint → Bool) (cell : PlanePoint) (a b c : ℕ) → side inside cell a ≡ true → side inside cell b ≡ false → segments_in inside cell (triangle b c a) ≡ segment (edge_between cell a b) (end_edge inside cell a b c) ∷ []
third_turn inside cell a b c p q =
    third_way (side inside cell a) (side inside cell b) (side inside cell c) _ _ _ _ _ _ p q (turned_round cell a b) (turned_round cell b c) (turned_round cell a c) ∙ last_step inside cell a b c

-- a segment starts between an inside corner and an outside one, and ends at the third corner
pub record IsTurn (inside : PlanePoint → Bool) (cell : PlanePoint) (a b c : ℕ) (s : Segment) : Type 0 where
  pub inner : side inside cell a ≡ true
  pub outer : side inside cell b ≡ false
  pub is_segment : segment (edge_between cell a b) (end_edge inside cell a b c) ≡ s

only_one : {A : Type 0} (xs : List A) (x s : A) → xs ≡ x ∷ [] → Contains xs s → x ≡ s
only_one {A} xs x s e h =
    let P : List A → Type 0 = λ l. Contains l s in
    by (head_or_tail x [] s (subst P e h))
  where
    by : (x ≡ s) ⊎ Contains [] s → x ≡ s
    by (inl same) = same
    by (inr none) = absurd (not_in_none s none)

nothing : {A : Type 0} (xs : List A) (s : A) → xs ≡ [] → Contains xs s → ⊥
nothing {A} xs s e h = let P : List A → Type 0 = λ l. Contains l s in not_in_none s (subst P e h)

-- each segment of a triangle is one of three
pub which_turn : (inside : PlanePoint → Bool) (cell : PlanePoint) (a b c : ℕ) (s : Segment) → Contains (segments_in inside cell (triangle a b c)) s → IsTurn inside cell a b c s ⊎ (IsTurn inside cell b c a s ⊎ IsTurn inside cell c a b s)
which_turn inside cell a b c s h = by (side inside cell a) (side inside cell b) (side inside cell c) refl refl refl
  where
    by : (sa sb sc : Bool) → side inside cell a ≡ sa → side inside cell b ≡ sb → side inside cell c ≡ sc → IsTurn inside cell a b c s ⊎ (IsTurn inside cell b c a s ⊎ IsTurn inside cell c a b s)
    by true true true p q r = absurd (nothing _ s (no_way true (side inside cell a) (side inside cell b) (side inside cell c) _ _ _ _ _ _ p q r) h)
    by false false false p q r = absurd (nothing _ s (no_way false (side inside cell a) (side inside cell b) (side inside cell c) _ _ _ _ _ _ p q r) h)
    by true false sc p q r = inl (record { inner = p; outer = q; is_segment = only_one _ _ s (first_turn inside cell a b c p q) h })
    by sa true false p q r = inr (inl (record { inner = q; outer = r; is_segment = only_one _ _ s (second_turn inside cell b c a q r) h }))
    by false sb true p q r = inr (inr (record { inner = r; outer = p; is_segment = only_one _ _ s (third_turn inside cell c a b r p) h }))

-- ---- the segments of a cell, by the direction of the edge where each starts, and by the side of its lower end

pub record HasTurn (inside : PlanePoint → Bool) (cell : PlanePoint) (s : Segment) : Type 0 where
  pub dir : ℕ
  pub low : Bool
  pub some : 1 ≤ dir
  pub few : dir ≤ 3
  pub turn : let t = left_triangle dir low in IsTurn inside cell t.a t.b t.c s

pub turn_of : (inside : PlanePoint → Bool) (cell : PlanePoint) (s : Segment) → Contains (cell_segments inside cell) s → HasTurn inside cell s
turn_of inside cell s h = by (Contains-append_cases (segments_in inside cell (triangle 0 1 3)) (segments_in inside cell (triangle 0 3 2) ++ []) s h)
  where
    first : IsTurn inside cell 0 1 3 s ⊎ (IsTurn inside cell 1 3 0 s ⊎ IsTurn inside cell 3 0 1 s) → HasTurn inside cell s
    first (inl t) = record { dir = 1; low = true; some = omega arith; few = omega arith; turn = t }
    first (inr (inl t)) = record { dir = 2; low = true; some = omega arith; few = omega arith; turn = t }
    first (inr (inr t)) = record { dir = 3; low = false; some = omega arith; few = omega arith; turn = t }

    second : IsTurn inside cell 0 3 2 s ⊎ (IsTurn inside cell 3 2 0 s ⊎ IsTurn inside cell 2 0 3 s) → HasTurn inside cell s
    second (inl t) = record { dir = 3; low = true; some = omega arith; few = omega arith; turn = t }
    second (inr (inl t)) = record { dir = 1; low = false; some = omega arith; few = omega arith; turn = t }
    second (inr (inr t)) = record { dir = 2; low = false; some = omega arith; few = omega arith; turn = t }

    by_last : Contains (segments_in inside cell (triangle 0 3 2)) s ⊎ Contains [] s → HasTurn inside cell s
    by_last (inl k) = second (which_turn inside cell 0 3 2 s k)
    by_last (inr k) = absurd (not_in_none s k)

    by : Contains (segments_in inside cell (triangle 0 1 3)) s ⊎ Contains (segments_in inside cell (triangle 0 3 2) ++ []) s → HasTurn inside cell s
    by (inl k) = first (which_turn inside cell 0 1 3 s k)
    by (inr k) = by_last (Contains-append_cases (segments_in inside cell (triangle 0 3 2)) [] s k)

-- one of the three directions
pub cases_dir : (dir : ℕ) → 1 ≤ dir → dir ≤ 3 → (dir ≡ 1) ⊎ ((dir ≡ 2) ⊎ (dir ≡ 3))
cases_dir dir some few = by (cases_eq dir 1) (cases_eq dir 2)
  where
    by : (dir ≡ 1) ⊎ (dir ≡ 1 → ⊥) → (dir ≡ 2) ⊎ (dir ≡ 2 → ⊥) → (dir ≡ 1) ⊎ ((dir ≡ 2) ⊎ (dir ≡ 3))
    by (inl e) q = inl e
    by (inr e) (inl f) = inr (inl f)
    by (inr e) (inr f) = inr (inr (omega (arith, some, few, e, f)))

-- what holds for each of the three holds for a direction
pub each_dir : (P : ℕ → Type 0) → P 1 → P 2 → P 3 → (dir : ℕ) → 1 ≤ dir → dir ≤ 3 → P dir
each_dir P one two three dir some few = by (cases_dir dir some few)
  where
    by : (dir ≡ 1) ⊎ ((dir ≡ 2) ⊎ (dir ≡ 3)) → P dir
    by (inl e) = subst P (sym e) one
    by (inr (inl e)) = subst P (sym e) two
    by (inr (inr e)) = subst P (sym e) three

-- a cell has the segment that starts between two such corners
abbrev Leaves : (PlanePoint → Bool) → PlanePoint → LeftTriangle → Type 0
Leaves inside cell t =
    side inside cell t.a ≡ true → side inside cell t.b ≡ false → Contains (cell_segments inside cell) (segment (edge_between cell t.a t.b) (end_edge inside cell t.a t.b t.c))

has_one : {A : Type 0} (xs : List A) (x : A) → xs ≡ x ∷ [] → Contains xs x
has_one {A} xs x e = let P : List A → Type 0 = λ l. Contains l x in subst P (sym e) (in_head [] x)

in_lower : (inside : PlanePoint → Bool) (cell : PlanePoint) (s : Segment) → segments_in inside cell (triangle 0 1 3) ≡ s ∷ [] → Contains (cell_segments inside cell) s
in_lower inside cell s e = Contains-append_left (segments_in inside cell (triangle 0 1 3)) (segments_in inside cell (triangle 0 3 2) ++ []) s (has_one _ s e)

in_upper : (inside : PlanePoint → Bool) (cell : PlanePoint) (s : Segment) → segments_in inside cell (triangle 0 3 2) ≡ s ∷ [] → Contains (cell_segments inside cell) s
in_upper inside cell s e =
    Contains-append_right (segments_in inside cell (triangle 0 1 3)) (segments_in inside cell (triangle 0 3 2) ++ []) s (Contains-append_left (segments_in inside cell (triangle 0 3 2)) [] s (has_one _ s e))

pub leaves : (inside : PlanePoint → Bool) (cell : PlanePoint) (dir : ℕ) (low : Bool) → 1 ≤ dir → dir ≤ 3 → Leaves inside cell (left_triangle dir low)
leaves inside cell dir true some few =
    each_dir (λ d. Leaves inside cell (left_triangle d true))
    (λ p q. in_lower inside cell _ (first_turn inside cell 0 1 3 p q))
    (λ p q. in_lower inside cell _ (second_turn inside cell 1 3 0 p q))
    (λ p q. in_upper inside cell _ (first_turn inside cell 0 3 2 p q)) dir some few
leaves inside cell dir false some few =
    each_dir (λ d. Leaves inside cell (left_triangle d false))
    (λ p q. in_upper inside cell _ (second_turn inside cell 3 2 0 p q))
    (λ p q. in_upper inside cell _ (third_turn inside cell 2 0 3 p q))
    (λ p q. in_lower inside cell _ (third_turn inside cell 3 0 1 p q)) dir some few
