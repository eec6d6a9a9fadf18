-- The segment that leaves an edge, and where it ends.
use Rattle.std.proofs.Common.{◌≡◌, ℕ, ◌+◌, ◌-◌, ◌/◌, ◌%◌, ◌<◌, ◌≤◌, Bool, true, false, refl, arith, ◌∙◌, ap, subst, sym, inl, inr}
use Rattle.std.specs.Prelude.{◌⊎◌, min, max, not, Contains, if◌then◌else◌}
use Rattle.std.proofs.lemmas.Bool.{cases_lt}
use Rattle.kuhn_cells.specs.Arrangement.{differ}
use Rattle.plane_loops.specs.declared.left_triangle.LeftTriangle.{LeftTriangle}
use Rattle.plane_loops.specs.Following.{cell_before, left_triangle, opposite_edge}
use Rattle.plane_loops.specs.Planes.{PlaneEdge, PlanePoint, further, is_mixed, lower, point, upper}
use Rattle.plane_loops.specs.Segments.{Segment, cell_segments, edge_between}
use Rattle.plane_loops.proofs.TurnLaws.{HasTurn, IsTurn, each_dir, end_edge, leaves, segment, side}

abbrev pub edge : ℕ → ℕ → ℕ → PlaneEdge
edge x y dir = record { x = x; y = y; dir = dir }

pub edge_same : (x y v w dir : ℕ) → x ≡ v → y ≡ w → edge x y dir ≡ edge v w dir
edge_same x y v w dir e f = rw (e, f) refl

pub point_same : (x y v w : ℕ) → x ≡ v → y ≡ w → point x y ≡ point v w
point_same x y v w e f = rw (e, f) refl

-- ---- where an edge lies in the cell of the triangle to its left

pub record HasEnds (e : PlaneEdge) (t : LeftTriangle) (low : Bool) : Type 0 where
  pub is_edge : edge_between (cell_before e t) t.a t.b ≡ e
  pub at_a : further (cell_before e t) t.a ≡ (if low then lower e else upper e)
  pub at_b : further (cell_before e t) t.b ≡ (if low then upper e else lower e)

pub has_ends : (x y dir : ℕ) (low : Bool) → 1 ≤ dir → dir ≤ 3 → (left_triangle dir low).back_x ≤ x → (left_triangle dir low).back_y ≤ y → HasEnds (edge x y dir) (left_triangle dir low) low
has_ends x y dir true some few =
    each_dir (λ d. (left_triangle d true).back_x ≤ x → (left_triangle d true).back_y ≤ y → HasEnds (edge x y d) (left_triangle d true) true)
    (λ h k. record { is_edge = edge_same _ _ _ _ 1 (omega arith) (omega arith); at_a = point_same _ _ _ _ (omega arith) (omega arith); at_b = point_same _ _ _ _ (omega arith) (omega arith) })
    (λ h k. record { is_edge = edge_same _ _ _ _ 2 (omega (arith, h)) (omega arith); at_a = point_same _ _ _ _ (omega (arith, h)) (omega arith); at_b = point_same _ _ _ _ (omega (arith, h)) (omega arith) })
    (λ h k. record { is_edge = edge_same _ _ _ _ 3 (omega arith) (omega arith); at_a = point_same _ _ _ _ (omega arith) (omega arith); at_b = point_same _ _ _ _ (omega arith) (omega arith) }) dir some few
has_ends x y dir false some few =
    each_dir (λ d. (left_triangle d false).back_x ≤ x → (left_triangle d false).back_y ≤ y → HasEnds (edge x y d) (left_triangle d false) false)
    (λ h k. record { is_edge = edge_same _ _ _ _ 1 (omega arith) (omega (arith, k)); at_a = point_same _ _ _ _ (omega arith) (omega (arith, k)); at_b = point_same _ _ _ _ (omega arith) (omega (arith, k)) })
    (λ h k. record { is_edge = edge_same _ _ _ _ 2 (omega arith) (omega arith); at_a = point_same _ _ _ _ (omega arith) (omega arith); at_b = point_same _ _ _ _ (omega arith) (omega arith) })
    (λ h k. record { is_edge = edge_same _ _ _ _ 3 (omega arith) (omega arith); at_a = point_same _ _ _ _ (omega arith) (omega arith); at_b = point_same _ _ _ _ (omega arith) (omega arith) }) dir some few

-- ---- the edge on which the segment ends that leaves an edge

abbrev pub left_of : (PlanePoint → Bool) → PlaneEdge → LeftTriangle
left_of inside e = left_triangle e.dir (inside (lower e))

abbrev pub next_with : (PlanePoint → Bool) → PlaneEdge → LeftTriangle → PlaneEdge
next_with inside e t = let cell = cell_before e t in opposite_edge cell t (inside (further cell t.c))

abbrev pub next_in : (PlanePoint → Bool) → PlaneEdge → PlaneEdge
next_in inside e = next_with inside e (left_of inside e)

-- an edge that holds a vertex, with the triangle to its left beside it
pub record IsLeaving (inside : PlanePoint → Bool) (e : PlaneEdge) : Type 0 where
  pub some : 1 ≤ e.dir
  pub few : e.dir ≤ 3
  pub mixed : is_mixed inside e ≡ true
  pub back_x : (left_of inside e).back_x ≤ e.x
  pub back_y : (left_of inside e).back_y ≤ e.y

pub record HasSides (inside : PlanePoint → Bool) (cell : PlanePoint) (t : LeftTriangle) : Type 0 where
  pub inner : side inside cell t.a ≡ true
  pub outer : side inside cell t.b ≡ false

other_side : (b : Bool) → differ true b ≡ true → b ≡ false
other_side true h = sym h
other_side false h = refl

pub sides_of : (inside : PlanePoint → Bool) (e : PlaneEdge) → IsLeaving inside e → HasSides inside (cell_before e (left_of inside e)) (left_of inside e)
sides_of inside e h =
    let ends = has_ends e.x e.y e.dir (inside (lower e)) h.some h.few h.back_x h.back_y in
    by (inside (lower e)) refl h.mixed ends.at_a ends.at_b
  where
    by : (b : Bool) → inside (lower e) ≡ b → differ (inside (lower e)) (inside (upper e)) ≡ true → further (cell_before e (left_of inside e)) (left_of inside e).a ≡ (if inside (lower e) then lower e else upper e) → further (cell_before e (left_of inside e)) (left_of inside e).b ≡ (if inside (lower e) then upper e else lower e) → HasSides inside (cell_before e (left_of inside e)) (left_of inside e)
    by true low mixed a b =
        let high = other_side (inside (upper e)) (subst (λ (s : Bool). differ s (inside (upper e)) ≡ true) low mixed) in
        record {
          inner = ap inside (a ∙ ap (λ (s : Bool). if s then lower e else upper e) low) ∙ low;
          outer = ap inside (b ∙ ap (λ (s : Bool). if s then upper e else lower e) low) ∙ high;
        }
    by false low mixed a b =
        let high : inside (upper e) ≡ true = subst (λ (s : Bool). differ s (inside (upper e)) ≡ true) low mixed in
        record {
          inner = ap inside (a ∙ ap (λ (s : Bool). if s then lower e else upper e) low) ∙ high;
          outer = ap inside (b ∙ ap (λ (s : Bool). if s then upper e else lower e) low) ∙ low;
        }

-- the segment that leaves an edge
pub leaves_at : (inside : PlanePoint → Bool) (e : PlaneEdge) → IsLeaving inside e → Contains (cell_segments inside (cell_before e (left_of inside e))) (segment e (next_in inside e))
leaves_at inside e h =
    let ends = has_ends e.x e.y e.dir (inside (lower e)) h.some h.few h.back_x h.back_y in
    let sides = sides_of inside e h in
    let cell = cell_before e (left_of inside e) in
    let P : PlaneEdge → Type 0 = λ f. Contains (cell_segments inside cell) (segment f (next_in inside e)) in
    subst P ends.is_edge (leaves inside cell e.dir (inside (lower e)) h.some h.few sides.inner sides.outer)

-- ---- where a segment of a cell starts, and where it ends

pub record StartsAt (inside : PlanePoint → Bool) (cell : PlanePoint) (dir : ℕ) (low : Bool) (s : Segment) : Type 0 where
  pub starts : s.from ≡ edge (cell.x + (left_triangle dir low).back_x) (cell.y + (left_triangle dir low).back_y) dir
  pub is_low : inside (point (cell.x + (left_triangle dir low).back_x) (cell.y + (left_triangle dir low).back_y)) ≡ low
  pub ends : end_edge inside cell (left_triangle dir low).a (left_triangle dir low).b (left_triangle dir low).c ≡ s.to

abbrev Turning : (PlanePoint → Bool) → PlanePoint → Segment → Bool → ℕ → Type 0
Turning inside cell s low dir =
    IsTurn inside cell (left_triangle dir low).a (left_triangle dir low).b (left_triangle dir low).c s → StartsAt inside cell dir low s

from_is : (s r : Segment) → r ≡ s → s.from ≡ r.from
from_is s r e = ap (λ (x : Segment). x.from) (sym e)

pub starts_at : (inside : PlanePoint → Bool) (cell : PlanePoint) (s : Segment) (dir : ℕ) (low : Bool) → 1 ≤ dir → dir ≤ 3 → Turning inside cell s low dir
starts_at inside cell s dir true some few =
    each_dir (Turning inside cell s true)
    (λ t. record { starts = from_is s _ t.is_segment; is_low = t.inner; ends = ap (λ (x : Segment). x.to) t.is_segment })
    (λ t. record { starts = from_is s _ t.is_segment; is_low = t.inner; ends = ap (λ (x : Segment). x.to) t.is_segment })
    (λ t. record { starts = from_is s _ t.is_segment; is_low = t.inner; ends = ap (λ (x : Segment). x.to) t.is_segment }) dir some few
starts_at inside cell s dir false some few =
    each_dir (Turning inside cell s false)
    (λ t. record { starts = from_is s _ t.is_segment; is_low = t.outer; ends = ap (λ (x : Segment). x.to) t.is_segment })
    (λ t. record { starts = from_is s _ t.is_segment; is_low = t.outer; ends = ap (λ (x : Segment). x.to) t.is_segment })
    (λ t. record { starts = from_is s _ t.is_segment; is_low = t.outer; ends = ap (λ (x : Segment). x.to) t.is_segment }) dir some few

-- a segment of a cell ends on the edge that follows the one where it starts, and the cell is that of the triangle to the left
pub record IsFollowed (inside : PlanePoint → Bool) (cell : PlanePoint) (s : Segment) : Type 0 where
  pub next : next_in inside s.from ≡ s.to
  pub beside : cell_before s.from (left_of inside s.from) ≡ cell

pub followed : (inside : PlanePoint → Bool) (cell : PlanePoint) (s : Segment) → HasTurn inside cell s → IsFollowed inside cell s
followed inside cell s h =
    let dir = h.dir in
    let low = h.low in
    let at = starts_at inside cell s dir low h.some h.few h.turn in
    let t = left_triangle dir low in
    let e = edge (cell.x + t.back_x) (cell.y + t.back_y) dir in
    let back : cell_before e t ≡ cell = point_same _ _ _ _ (omega arith) (omega arith) in
    let left : left_of inside s.from ≡ t = ap (left_of inside) at.starts ∙ ap (left_triangle dir) at.is_low in
    record {
      next = ap (next_with inside s.from) left ∙ ap (λ (f : PlaneEdge). next_with inside f t) at.starts ∙ ap (λ (c : PlanePoint). opposite_edge c t (inside (further c t.c))) back ∙ at.ends;
      beside = ap (cell_before s.from) left ∙ ap (λ (f : PlaneEdge). cell_before f t) at.starts ∙ back;
    }

-- ---- the edge on which a segment ends

-- of two corners one mask is a part of the other
pub record IsPair (a b : ℕ) : Type 0 where
  pub along_x : min a b % 2 + (max a b - min a b) % 2 ≡ max a b % 2
  pub along_y : min a b / 2 % 2 + (max a b - min a b) / 2 % 2 ≡ max a b / 2 % 2
  pub some : 1 ≤ max a b - min a b
  pub few : max a b - min a b ≤ 3

-- so it is of the corners of each triangle
pub record ArePairs (t : LeftTriangle) : Type 0 where
  pub third_first : IsPair t.c t.a
  pub third_second : IsPair t.c t.b
  pub first_second : IsPair t.a t.b

pub are_pairs : (dir : ℕ) (low : Bool) → 1 ≤ dir → dir ≤ 3 → ArePairs (left_triangle dir low)
are_pairs dir true some few =
    each_dir (λ d. ArePairs (left_triangle d true))
    (record { third_first = record { along_x = refl; along_y = refl; some = omega arith; few = omega arith }; third_second = record { along_x = refl; along_y = refl; some = omega arith; few = omega arith }; first_second = record { along_x = refl; along_y = refl; some = omega arith; few = omega arith } })
    (record { third_first = record { along_x = refl; along_y = refl; some = omega arith; few = omega arith }; third_second = record { along_x = refl; along_y = refl; some = omega arith; few = omega arith }; first_second = record { along_x = refl; along_y = refl; some = omega arith; few = omega arith } })
    (record { third_first = record { along_x = refl; along_y = refl; some = omega arith; few = omega arith }; third_second = record { along_x = refl; along_y = refl; some = omega arith; few = omega arith }; first_second = record { along_x = refl; along_y = refl; some = omega arith; few = omega arith } }) dir some few
are_pairs dir false some few =
    each_dir (λ d. ArePairs (left_triangle d false))
    (record { third_first = record { along_x = refl; along_y = refl; some = omega arith; few = omega arith }; third_second = record { along_x = refl; along_y = refl; some = omega arith; few = omega arith }; first_second = record { along_x = refl; along_y = refl; some = omega arith; few = omega arith } })
    (record { third_first = record { along_x = refl; along_y = refl; some = omega arith; few = omega arith }; third_second = record { along_x = refl; along_y = refl; some = omega arith; few = omega arith }; first_second = record { along_x = refl; along_y = refl; some = omega arith; few = omega arith } })
    (record { third_first = record { along_x = refl; along_y = refl; some = omega arith; few = omega arith }; third_second = record { along_x = refl; along_y = refl; some = omega arith; few = omega arith }; first_second = record { along_x = refl; along_y = refl; some = omega arith; few = omega arith } }) dir some few

-- an edge between two corners of a cell that holds a vertex
pub record IsIn (inside : PlanePoint → Bool) (cell : PlanePoint) (e : PlaneEdge) : Type 0 where
  pub some : 1 ≤ e.dir
  pub few : e.dir ≤ 3
  pub mixed : is_mixed inside e ≡ true
  pub low_x : e.x ≤ cell.x + 1
  pub low_y : e.y ≤ cell.y + 1
  pub high_x : (upper e).x ≤ cell.x + 1
  pub high_y : (upper e).y ≤ cell.y + 1

differ_both : (a b : Bool) → a ≡ not b → differ a b ≡ true
differ_both true true h = sym h
differ_both true false h = refl
differ_both false true h = refl
differ_both false false h = h

differ_turned : (a b : Bool) → a ≡ not b → differ b a ≡ true
differ_turned true true h = sym h
differ_turned true false h = refl
differ_turned false true h = refl
differ_turned false false h = h

pub between : (inside : PlanePoint → Bool) (cell : PlanePoint) (a b : ℕ) → IsPair a b → side inside cell a ≡ not (side inside cell b) → IsIn inside cell (edge_between cell a b)
between inside cell a b h apart =
    let hx = h.along_x in
    let hy = h.along_y in
    let high : upper (edge_between cell a b) ≡ further cell (max a b) = point_same _ _ _ _ (omega (arith, hx)) (omega (arith, hy)) in
    record {
      some = h.some;
      few = h.few;
      mixed = by (cases_lt a b) high;
      low_x = omega arith;
      low_y = omega arith;
      high_x = omega (arith, hx);
      high_y = omega (arith, hy);
    }
  where
    by : (a < b) ⊎ (b ≤ a) → upper (edge_between cell a b) ≡ further cell (max a b) → is_mixed inside (edge_between cell a b) ≡ true
    by (inl less) high =
        let m : min a b ≡ a = omega (arith, less) in
        let n : max a b ≡ b = omega (arith, less) in
        ap (λ (p : PlanePoint). differ (side inside cell (min a b)) (inside p)) (high ∙ ap (further cell) n) ∙ ap (λ (k : ℕ). differ (side inside cell k) (side inside cell b)) m ∙ differ_both _ _ apart
    by (inr most) high =
        let m : min a b ≡ b = omega (arith, most) in
        let n : max a b ≡ a = omega (arith, most) in
        ap (λ (p : PlanePoint). differ (side inside cell (min a b)) (inside p)) (high ∙ ap (further cell) n) ∙ ap (λ (k : ℕ). differ (side inside cell k) (side inside cell a)) m ∙ differ_turned _ _ apart

-- the segment of a triangle ends on an edge that holds a vertex
pub ends_in : (inside : PlanePoint → Bool) (cell : PlanePoint) (t : LeftTriangle) → ArePairs t → HasSides inside cell t → IsIn inside cell (end_edge inside cell t.a t.b t.c)
ends_in inside cell t pairs sides = by (side inside cell t.c) refl
  where
    by : (s : Bool) → side inside cell t.c ≡ s → IsIn inside cell (edge_between cell t.c (if side inside cell t.c then t.b else t.a))
    by true e =
        subst (λ (b : Bool). IsIn inside cell (edge_between cell t.c (if b then t.b else t.a))) (sym e) (between inside cell t.c t.b pairs.third_second (e ∙ sym (ap not sides.outer)))
    by false e =
        subst (λ (b : Bool). IsIn inside cell (edge_between cell t.c (if b then t.b else t.a))) (sym e) (between inside cell t.c t.a pairs.third_first (e ∙ sym (ap not sides.inner)))
