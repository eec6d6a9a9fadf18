-- Paths along the edges of a grid pass an odd number of vertices exactly where they lead from one side to the other.
use Rattle.std.proofs.Common.{◌≡◌, ℕ, ◌+◌, ◌%◌, Bool, true, false, cond, List, [], ◌∷◌, refl, arith, ap, sym, subst, ◌∙◌, inl, inr}
use Rattle.std.specs.Prelude.{◌⊎◌, ◌↔◌, ◌||◌, Contains}
use Rattle.std.specs.List.{list_any}
use Rattle.std.proofs.lemmas.Bool.{or_cases, or_left, or_right, false≢true, true≢false, false_from_ne_true}
use Rattle.std.proofs.lemmas.List.Elements.{Contains-append_right}
use Rattle.std.proofs.lemmas.List.Sums.{sum_by-cons}
use Rattle.kuhn_cells.specs.declared.edge_key.EdgeKey.{EdgeKey}
use Rattle.kuhn_cells.specs.Arrangement.{differ}
use Rattle.kuhn_cells.specs.Faces.{same_edge}
use Rattle.kuhn_cells.specs.Grids.{Grid, edges, is_inside_at, is_mixed, lower, upper, vertices}
use Rattle.kuhn_cells.specs.Triangles.{GridPoint}
use Rattle.kuhn_cells.proofs.EdgeLaws.{differ_symmetric}
use Rattle.kuhn_cells.proofs.FaceLaws.{same_as_itself, same_is_equal}
use Rattle.kuhn_cells.proofs.VertexLaws.{vertices_are_mixed_edges}
use Rattle.mesh_laws.specs.Separating.{IsParted, IsPath, passed}
use Rattle.fixed_ops.proofs.Lists.{head_or_tail, in_filter, not_in_none}

-- ---- an edge of a grid holds a vertex where its ends differ

differ_apart : (a b : Bool) → differ a b ≡ true → a ≡ b → ⊥
differ_apart true true h e = false≢true h
differ_apart true false h e = true≢false e
differ_apart false true h e = false≢true e
differ_apart false false h e = false≢true h

apart_differ : (a b : Bool) → (a ≡ b → ⊥) → differ a b ≡ true
apart_differ true true h = absurd (h refl)
apart_differ true false h = refl
apart_differ false true h = refl
apart_differ false false h = absurd (h refl)

pub crossed : (g : Grid) (e : EdgeKey) → Contains (edges g) e → Contains (vertices g) e ↔ IsParted g (lower e) (upper e)
unfolding vertices
crossed g e h =
    (λ v. differ_apart _ _ ((vertices_are_mixed_edges g e).0 v).mixed, λ parted. in_filter (is_mixed (is_inside_at g)) (edges g) e h (apart_differ _ _ parted))

-- ---- an edge is one of a list

contained : (e : EdgeKey) (es : List EdgeKey) → list_any (same_edge e) es ≡ true → Contains es e
contained e [] h = absurd (false≢true h)
contained e (f ∷ fs) h = by (or_cases _ _ h) (λ k. contained e fs k)
  where
    by : (same_edge e f ≡ true) ⊎ (list_any (same_edge e) fs ≡ true) → (list_any (same_edge e) fs ≡ true → Contains fs e) → Contains (f ∷ fs) e
    by (inl same) next = (0, omega arith, sym (same_is_equal e f same))
    by (inr later) next = Contains-append_right (f ∷ []) fs e (next later)

listed : (e : EdgeKey) (es : List EdgeKey) → Contains es e → list_any (same_edge e) es ≡ true
listed e [] h = absurd (not_in_none e h)
listed e (f ∷ fs) h = by (head_or_tail f fs e h) (λ k. listed e fs k)
  where
    by : (f ≡ e) ⊎ Contains fs e → (Contains fs e → list_any (same_edge e) fs ≡ true) → (same_edge e f || list_any (same_edge e) fs) ≡ true
    by (inl same) next = or_left _ _ (subst (λ (x : EdgeKey). same_edge e x ≡ true) (sym same) (same_as_itself e))
    by (inr later) next = or_right _ _ (next later)

holds_where_mixed : (g : Grid) (e : EdgeKey) → Contains (edges g) e → list_any (same_edge e) (vertices g) ≡ is_mixed (is_inside_at g) e
holds_where_mixed g e h = by (is_mixed (is_inside_at g) e) refl
  where
    by : (b : Bool) → is_mixed (is_inside_at g) e ≡ b → list_any (same_edge e) (vertices g) ≡ b
    by true is = listed e (vertices g) ((crossed g e h).1 (differ_apart _ _ is))
    by false is = false_from_ne_true _ (λ k. true≢false (sym ((vertices_are_mixed_edges g e).0 (contained e (vertices g) k)).mixed ∙ is))

-- ---- paths

abbrev bit : Bool → ℕ
bit b = cond b 1 0

one_step : (a b c : Bool) (n : ℕ) → n % 2 ≡ bit (differ b c) → (bit (differ a b) + n) % 2 ≡ bit (differ a c)
one_step true true true n h = omega (arith, h)
one_step true true false n h = omega (arith, h)
one_step true false true n h = omega (arith, h)
one_step true false false n h = omega (arith, h)
one_step false true true n h = omega (arith, h)
one_step false true false n h = omega (arith, h)
one_step false false true n h = omega (arith, h)
one_step false false false n h = omega (arith, h)

pub not_from_itself : (a : Bool) → differ a a ≡ false
not_from_itself true = refl
not_from_itself false = refl

parity : (g : Grid) (p q : GridPoint) (path : List EdgeKey) → IsPath g p path q → passed (vertices g) path % 2 ≡ bit (differ (is_inside_at g p) (is_inside_at g q))
parity g p q [] h = rw (ap (is_inside_at g) h, not_from_itself (is_inside_at g q)) refl
parity g p q (e ∷ es) h = by h.1 (λ r k. parity g r q es k)
  where
    more : (a b : Bool) (n : ℕ) → list_any (same_edge e) (vertices g) ≡ differ a b → n % 2 ≡ bit (differ b (is_inside_at g q)) → passed (vertices g) es ≡ n → passed (vertices g) (e ∷ es) % 2 ≡ bit (differ a (is_inside_at g q))
    more a b n holds rest same =
        ap (λ m. m % 2) (sum_by-cons (λ x. cond (list_any (same_edge x) (vertices g)) 1 0) e es ∙ rw (holds, same) refl) ∙ one_step a b (is_inside_at g q) n rest

    by : ((p ≡ lower e) × IsPath g (upper e) es q) ⊎ ((p ≡ upper e) × IsPath g (lower e) es q) → ((r : GridPoint) → IsPath g r es q → passed (vertices g) es % 2 ≡ bit (differ (is_inside_at g r) (is_inside_at g q))) → passed (vertices g) (e ∷ es) % 2 ≡ bit (differ (is_inside_at g p) (is_inside_at g q))
    by (inl up) next =
        subst (λ (r : GridPoint). passed (vertices g) (e ∷ es) % 2 ≡ bit (differ (is_inside_at g r) (is_inside_at g q))) (sym up.0)
        (more (is_inside_at g (lower e)) (is_inside_at g (upper e)) (passed (vertices g) es) (holds_where_mixed g e h.0) (next (upper e) up.1) refl)
    by (inr down) next =
        subst (λ (r : GridPoint). passed (vertices g) (e ∷ es) % 2 ≡ bit (differ (is_inside_at g r) (is_inside_at g q))) (sym down.0)
        (more (is_inside_at g (upper e)) (is_inside_at g (lower e)) (passed (vertices g) es) (holds_where_mixed g e h.0 ∙ differ_symmetric (is_inside_at g (lower e)) (is_inside_at g (upper e))) (next (lower e) down.1) refl)

odd_apart : (a b : Bool) (n : ℕ) → n % 2 ≡ bit (differ a b) → (n % 2 ≡ 1) ↔ (a ≡ b → ⊥)
odd_apart a b n h = by (differ a b) refl h
  where
    by : (d : Bool) → differ a b ≡ d → n % 2 ≡ bit d → (n % 2 ≡ 1) ↔ (a ≡ b → ⊥)
    by true is e = (λ odd. differ_apart a b is, λ apart. e)
    by false is e = (λ odd. absurd (omega (arith, odd, e)), λ apart. absurd (true≢false (sym (apart_differ a b apart) ∙ is)))

pub paths_cross : (g : Grid) (p q : GridPoint) (path : List EdgeKey) → IsPath g p path q → (passed (vertices g) path % 2 ≡ 1) ↔ IsParted g p q
paths_cross g p q path h = odd_apart (is_inside_at g p) (is_inside_at g q) (passed (vertices g) path) (parity g p q path h)
