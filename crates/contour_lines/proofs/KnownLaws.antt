-- What is known of the points of a plane grid, row by row.
use Rattle.std.proofs.Common.{◌≡◌, ◌≢◌, ℕ, ◌+◌, ◌*◌, ◌<◌, ◌≤◌, ℤ, pos, Bool, true, false, cond, length, get_or, set, refl, sym, ap, ◌∙◌, ◌⊎◌, inl, inr, arith}
use Rattle.std.specs.Prelude.{Option, Some, None, ◌==◌, nat_le}
use Rattle.std.proofs.lemmas.Bool.{and_parts, cases_order, eqb-true, false≢true, le-leb, leb-true}
use Rattle.std.proofs.lemmas.Grind.{get_or-set_at}
use Rattle.std.proofs.lemmas.List.{get_or-set_other}
use Rattle.kuhn_cells.specs.Triangles.{GridPoint, point}
use Rattle.oct_descent.specs.GridLaws.{LawsOf}
use Rattle.oct_descent.specs.Known.{Sets}
use Rattle.oct_descent.specs.Tables.{read, same_point}
use Rattle.contour_lines.specs.Tables.{PlaneValues, is_in_plane, known_at, known_of}
use Rattle.contour_lines.specs.Ways.{plane}
use Rattle.contour_lines.proofs.RowLaws.{row-before}

-- where the value of a point stands
abbrev pub place : PlaneValues → GridPoint → ℕ
place t p = p.y * (t.n.x + 1) + p.x

in-plane : (t : PlaneValues) (x y : ℕ) → x ≤ t.n.x → y ≤ t.n.y → is_in_plane t.n (point x y 0) ≡ true
in-plane t x y wide high = rw (le-leb x t.n.x wide, le-leb y t.n.y high) refl

pub known-is : (t : PlaneValues) (x y : ℕ) → x ≤ t.n.x → y ≤ t.n.y → known_at t (point x y 0) ≡ read t.kept (y * (t.n.x + 1) + x)
unfolding known_at
known-is t x y wide high = ap (λ b. cond b (read t.kept (y * (t.n.x + 1) + x)) None) (in-plane t x y wide high)

pub place-within : (w h x y : ℕ) → x ≤ w → y ≤ h → y * (w + 1) + x < (h + 1) * (w + 1)
place-within w h x y wide high = row-before (w + 1) x y (h + 1) (omega (arith, wide)) (omega (arith, high))

pub none-known : (t : PlaneValues) (p : GridPoint) → ((k : ℕ) → get_or t.kept.known k false ≡ false) → known_at t p ≡ None
unfolding known_at
none-known t p none = rw (none (place t p)) (by (is_in_plane t.n p))
  where
    by : (b : Bool) → cond {A = Option ℤ} b None None ≡ None
    by true = refl
    by false = refl

-- different points stand at different places
apart : (t : PlaneValues) (p q : GridPoint) → p.x ≤ t.n.x → q.x ≤ t.n.x → place t p ≡ place t q → (p.x ≡ q.x) × (p.y ≡ q.y)
apart t p q wide other same = by (cases_order p.y q.y)
  where
    w : ℕ
    w = t.n.x + 1

    by : (p.y ≡ q.y) ⊎ ((p.y < q.y) ⊎ (q.y < p.y)) → (p.x ≡ q.x) × (p.y ≡ q.y)
    by (inl e) =
        let rows : p.y * w ≡ q.y * w = ap (λ n. n * w) e in
        (omega (arith, same, rows), e)
    by (inr (inl less)) = absurd (omega (arith, same, row-before w p.x p.y q.y (omega (arith, wide)) less))
    by (inr (inr more)) = absurd (omega (arith, same, row-before w q.x q.y p.y (omega (arith, other)) more))

-- a point whose value is kept
pub plane-sets : (laws : LawsOf plane) (t : PlaneValues) (x y : ℕ) (v : ℤ) (at : ℕ) → x ≤ t.n.x → y ≤ t.n.y → at ≡ y * (t.n.x + 1) + x → at < length t.kept.known → at < length t.kept.values
    → Sets (point x y 0) v (known_of t) (known_of (record { n = t.n; kept = record { known = set t.kept.known at true; values = set t.kept.values at v } }))
unfolding known_at
plane-sets laws t x y v at wide high is known values = record { n = (refl, (refl, refl)); each = λ q. by q (same_point p q) refl (is_in_plane t.n q) refl }
  where
    p : GridPoint
    p = point x y 0

    after : PlaneValues
    after = record { n = t.n; kept = record { known = set t.kept.known at true; values = set t.kept.values at v } }

    set-here : read after.kept at ≡ Some v
    set-here = rw (get_or-set_at t.kept.known at at true false refl known, get_or-set_at t.kept.values at at v (pos 0) refl values) refl

    set-other : (k : ℕ) → k ≢ at → read after.kept k ≡ read t.kept k
    set-other k other = rw (get_or-set_other t.kept.known at k true false other, get_or-set_other t.kept.values at k v (pos 0) other) refl

    differ : (q : GridPoint) → same_point p q ≡ false → is_in_plane t.n q ≡ true → place t q ≢ at
    differ q other within same =
        let wide_q = and_parts (nat_le q.x t.n.x) _ within in
        let rest = and_parts (nat_le q.y t.n.y) (q.z == 0) wide_q.1 in
        let parts = apart t q p (leb-true q.x t.n.x wide_q.0) wide (same ∙ is) in
        let low : q.z ≡ 0 = eqb-true q.z 0 rest.1 in
        let one : q ≡ p = ap (λ (i : ℕ). point i q.y q.z) parts.0 ∙ ap (λ (j : ℕ). point x j q.z) parts.1 ∙ ap (λ (k : ℕ). point x y k) low in
        false≢true (sym other ∙ ap (same_point p) one ∙ laws.work.itself p)

    by : (q : GridPoint) (s : Bool) → same_point p q ≡ s → (i : Bool) → is_in_plane t.n q ≡ i → known_at after q ≡ cond s (Some v) (known_at t q)
    by q true e true within =
        let one = laws.work.same p q e in
        let there : place t q ≡ at = ap (place t) (sym one) ∙ sym is in
        ap (λ b. cond b (read after.kept (place t q)) None) within ∙ ap (read after.kept) there ∙ set-here
    by q true e false without =
        absurd (false≢true (sym without ∙ ap (is_in_plane t.n) (sym (laws.work.same p q e)) ∙ in-plane t x y wide high))
    by q false e true within =
        ap (λ b. cond b (read after.kept (place t q)) None) within ∙ set-other (place t q) (differ q e within) ∙ sym (ap (λ b. cond b (read t.kept (place t q)) None) within)
    by q false e false without =
        ap (λ b. cond b (read after.kept (place t q)) None) without ∙ sym (ap (λ b. cond b (read t.kept (place t q)) None) without)
