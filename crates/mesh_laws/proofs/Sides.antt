-- The inside ends of the edges of each triangle of a tetrahedron lie behind it: the check.
use Rattle.std.proofs.Common.{◌≡◌, ℕ, ◌+◌, ◌<◌, Bool, true, false, List, [], ◌∷◌, refl, ap, sym, ◌∙◌, inl, inr}
use Rattle.std.specs.Prelude.{◌==◌, ◌&&◌, ◌⊎◌, not, nat_le, nat_lt, get_or, All, if◌then◌else◌}
use Rattle.std.specs.List.{list_all}
use Rattle.std.proofs.lemmas.Bool.{agree_below, agree_below_at, and_parts, eqb-true, leb-true, ltb-true, ne_eqb, not-true, true≢false}
use Rattle.std.proofs.lemmas.List.Elements.{All-weaker}
use Rattle.std.proofs.lemmas.List.Sums.{AllPass-from_list_all}
use Rattle.kuhn_cells.specs.Arrangement.{arranged}
use Rattle.kuhn_cells.specs.Corners.{along_x, along_y, along_z, corner, is_negative}
use Rattle.kuhn_cells.specs.declared.edge_key.EdgeKey.{EdgeKey}
use Rattle.kuhn_cells.specs.Grids.{lower, upper}
use Rattle.kuhn_cells.specs.Triangles.{GridPoint, further, point}
use Rattle.kuhn_cells.proofs.Checks.{both, both_at, every, every_at}
use Rattle.kuhn_cells.proofs.EdgeLaws.{pattern_at as pattern_is, step_on}
use Rattle.mesh_laws.proofs.Determinants.{Arrow, IsLow, added, arrow, either, minus, plus, taken}
use Rattle.mesh_laws.proofs.Owners.{direction, low}
use Rattle.mesh_laws.proofs.Turns.{Way, key_of, pattern_at, ways_in}

-- the ends of an edge, upwards or downwards
abbrev pub AreEnds : EdgeKey → GridPoint → GridPoint → Type 0
AreEnds e p q = ((lower e ≡ p) × (upper e ≡ q)) ⊎ ((lower e ≡ q) × (upper e ≡ p))

-- a corner of the cell at 0
abbrev pub corner_point : ℕ → GridPoint
corner_point mask = point (along_x mask) (along_y mask) (along_z mask)

-- the way from a corner of a tetrahedron to the inside end of an edge, or to the outside one
abbrev pub to_end : ℕ → ℕ → Way → Bool → Arrow
to_end tetra from w inner = arrow (corner_point (corner tetra from)) (corner_point (corner tetra (if inner then w.inner else w.outer)))

abbrev pub less_at : ℕ → ℕ → Way × Way × Way → Bool → Bool → Bool → Bool
less_at tetra from t a b c = nat_lt (added (to_end tetra from t.1 a) (to_end tetra from t.0 b) (to_end tetra from t.2 c)) (taken (to_end tetra from t.1 a) (to_end tetra from t.0 b) (to_end tetra from t.2 c))

abbrev pub low_at : ℕ → ℕ → Way × Way × Way → Bool → Bool → Bool → Bool
low_at tetra from t a b c = nat_le (added (to_end tetra from t.1 a) (to_end tetra from t.0 b) (to_end tetra from t.2 c)) (taken (to_end tetra from t.1 a) (to_end tetra from t.0 b) (to_end tetra from t.2 c))

-- whichever ends of the three edges are taken, the determinant is not positive, and for some ends it is negative
unfoldable pub is_behind : ℕ → Way × Way × Way → ℕ → Bool
is_behind tetra t from =
    both (λ a. both (λ b. both (λ c. low_at tetra from t a b c))) && either (λ a. either (λ b. either (λ c. less_at tetra from t a b c)))

-- An edge runs from an inside corner to an outside one, and its lower end is one of them, and the upper end the other.
is_way : ℕ → List Bool → Way → Bool
is_way tetra pattern w =
    let rises = nat_lt w.inner w.outer in
    let high = corner tetra (if rises then w.outer else w.inner) in
    nat_lt w.inner 4
    && (nat_lt w.outer 4
    && (get_or pattern w.inner false
    && (not (get_or pattern w.outer false)
    && (low tetra w == corner tetra (if rises then w.inner else w.outer)
    && (along_x (low tetra w) + along_x (direction tetra w) == along_x high
    && (along_y (low tetra w) + along_y (direction tetra w) == along_y high
    && along_z (low tetra w) + along_z (direction tetra w) == along_z high))))))

faces_out : ℕ → List Bool → Way × Way × Way → Bool
faces_out tetra pattern t =
    (is_way tetra pattern t.0 && (is_way tetra pattern t.1 && is_way tetra pattern t.2))
    && (is_behind tetra t t.0.inner && (is_behind tetra t t.1.inner && is_behind tetra t t.2.inner))

all_face_out : ℕ → Bool → Bool → Bool → Bool → Bool
all_face_out tetra v0 v1 v2 v3 =
    let pattern = v0 ∷ v1 ∷ v2 ∷ v3 ∷ [] in
    list_all (faces_out tetra pattern) (ways_in (is_negative tetra) pattern)

always_out : agree_below (λ tetra. every (all_face_out tetra)) (λ _. true) 6 ≡ true
unfolding all_face_out faces_out is_way is_behind added taken plus minus ways_in arranged
always_out = refl

-- ---- what the check says of the triangles of a tetrahedron of a cell

-- an edge of a cell goes from an inside point to an outside one, upwards or downwards
pub record HasEnds (inside : GridPoint → Bool) (cell : GridPoint) (tetra : ℕ) (w : Way) : Type 0 where
  pub lit : inside (further cell (corner tetra w.inner)) ≡ true
  pub dark : inside (further cell (corner tetra w.outer)) ≡ false
  pub inner : w.inner < 4
  pub outer : w.outer < 4
  pub apart : (w.inner == w.outer) ≡ false
  pub ends : AreEnds (key_of cell tetra w) (further cell (corner tetra w.inner)) (further cell (corner tetra w.outer))

ends_of : (cell : GridPoint) (tetra : ℕ) (w : Way) (rises : Bool) → low tetra w ≡ corner tetra (if rises then w.inner else w.outer) → further (further cell (low tetra w)) (direction tetra w) ≡ further cell (corner tetra (if rises then w.outer else w.inner)) → AreEnds (key_of cell tetra w) (further cell (corner tetra w.inner)) (further cell (corner tetra w.outer))
ends_of cell tetra w true at up = inl (ap (further cell) at, up)
ends_of cell tetra w false at up = inr (ap (further cell) at, up)

upper_is : (cell : GridPoint) (low dir high : ℕ) → (along_x low + along_x dir == along_x high) ≡ true → (along_y low + along_y dir == along_y high) ≡ true → (along_z low + along_z dir == along_z high) ≡ true → further (further cell low) dir ≡ further cell high
upper_is cell low dir high x y z =
    rw (step_on cell.x (along_x low) (along_x dir) (along_x high) x, step_on cell.y (along_y low) (along_y dir) (along_y high) y, step_on cell.z (along_z low) (along_z dir) (along_z high) z) refl

has_ends : (inside : GridPoint → Bool) (cell : GridPoint) (tetra : ℕ) (w : Way) → is_way tetra (pattern_at inside cell tetra) w ≡ true → HasEnds inside cell tetra w
unfolding is_way
has_ends inside cell tetra w h =
    let p0 = and_parts _ _ h in
    let p1 = and_parts _ _ p0.1 in
    let p2 = and_parts _ _ p1.1 in
    let p3 = and_parts _ _ p2.1 in
    let p4 = and_parts _ _ p3.1 in
    let p5 = and_parts _ _ p4.1 in
    let p6 = and_parts _ _ p5.1 in
    let at = λ (c : ℕ). inside (further cell c) in
    record {
      lit = sym (pattern_is at tetra w.inner (ltb-true _ _ p0.0)) ∙ p2.0;
      inner = ltb-true _ _ p0.0;
      outer = ltb-true _ _ p1.0;
      apart = ne_eqb w.inner w.outer (λ same. true≢false (sym p2.0 ∙ ap (λ k. get_or (pattern_at inside cell tetra) k false) same ∙ not-true _ p3.0));
      dark = sym (pattern_is at tetra w.outer (ltb-true _ _ p1.0)) ∙ not-true _ p3.0;
      ends = ends_of cell tetra w (nat_lt w.inner w.outer) (eqb-true _ _ p4.0) (upper_is cell (low tetra w) (direction tetra w) _ p5.0 p6.0 p6.1);
    }

-- all three edges of a triangle have their ends, and the inside ends lie behind it
pub record IsOut (inside : GridPoint → Bool) (cell : GridPoint) (tetra : ℕ) (t : Way × Way × Way) : Type 0 where
  pub first : HasEnds inside cell tetra t.0
  pub second : HasEnds inside cell tetra t.1
  pub third : HasEnds inside cell tetra t.2
  pub at_first : is_behind tetra t t.0.inner ≡ true
  pub at_second : is_behind tetra t t.1.inner ≡ true
  pub at_third : is_behind tetra t t.2.inner ≡ true

out_of : (inside : GridPoint → Bool) (cell : GridPoint) (tetra : ℕ) (t : Way × Way × Way) → faces_out tetra (pattern_at inside cell tetra) t ≡ true → IsOut inside cell tetra t
unfolding faces_out
out_of inside cell tetra t h =
    let both_parts = and_parts _ _ h in
    let w0 = and_parts _ _ both_parts.0 in
    let w1 = and_parts _ _ w0.1 in
    let b0 = and_parts _ _ both_parts.1 in
    let b1 = and_parts _ _ b0.1 in
    record {
      first = has_ends inside cell tetra t.0 w0.0;
      second = has_ends inside cell tetra t.1 w1.0;
      third = has_ends inside cell tetra t.2 w1.1;
      at_first = b0.0;
      at_second = b1.0;
      at_third = b1.1;
    }

pub all_out : (inside : GridPoint → Bool) (cell : GridPoint) (tetra : ℕ) → tetra < 6 → All (IsOut inside cell tetra) (ways_in (is_negative tetra) (pattern_at inside cell tetra))
unfolding all_face_out
all_out inside cell tetra few =
    let pattern = pattern_at inside cell tetra in
    let at = λ (which : ℕ). inside (further cell (corner tetra which)) in
    let ways = ways_in (is_negative tetra) pattern in
    All-weaker (λ t. faces_out tetra pattern t ≡ true) (IsOut inside cell tetra) (out_of inside cell tetra) ways
    (AllPass-from_list_all (faces_out tetra pattern) ways (every_at (all_face_out tetra) (agree_below_at (λ tetra. every (all_face_out tetra)) (λ _. true) 6 tetra always_out few) (at 0) (at 1) (at 2) (at 3)))

-- the determinants at the ends of the edges of a triangle that faces out
pub ends_low : (tetra : ℕ) (t : Way × Way × Way) (from : ℕ) → is_behind tetra t from ≡ true → (a b c : Bool) → IsLow (less_at tetra from t a b c) (to_end tetra from t.1 a) (to_end tetra from t.0 b) (to_end tetra from t.2 c)
unfolding is_behind
ends_low tetra t from h a b c =
    let all = (and_parts _ _ h).0 in
    record {
      most = leb-true _ _ (both_at (λ c. low_at tetra from t a b c) (both_at (λ b. both (λ c. low_at tetra from t a b c)) (both_at (λ a. both (λ b. both (λ c. low_at tetra from t a b c))) all a) b) c);
      less = ltb-true _ _;
    }

pub some_less : (tetra : ℕ) (t : Way × Way × Way) (from : ℕ) → is_behind tetra t from ≡ true → either (λ a. either (λ b. either (λ c. less_at tetra from t a b c))) ≡ true
unfolding is_behind
some_less tetra t from h = (and_parts _ _ h).1
