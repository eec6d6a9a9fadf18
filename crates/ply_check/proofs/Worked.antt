-- What is worked out is right.
use Rattle.std.proofs.Common.{◌≡◌, ℕ, ◌+◌, ◌-◌, ◌<◌, ◌≤◌, Bool, List, length, get_or, refl, sym, ap, arith, inl, inr, subst, cond, ◌∙◌}
use Rattle.std.specs.Prelude.{◌⊎◌, nat_lt, not, All, if◌then◌else◌}
use Rattle.std.specs.Bool.{Decides}
use Rattle.std.specs.List.{HoldsAt, list_all, position_or_len, range_with_len}
use Rattle.std.proofs.lemmas.Bool.{cases_lt, false≢true, le-leb, le-ltb, leb-true, lt-ltb, not-false}
use Rattle.std.proofs.lemmas.Bool.Decides.{Decides-and, Decides-by_and, Decides-eqb, Decides-like, Decides-not}
use Rattle.std.proofs.lemmas.List.{get_or_default}
use Rattle.std.proofs.lemmas.List.FromFn.{get_or-range_with_len, length-range_with_len}
use Rattle.std.proofs.lemmas.List.Sums.{fails_before_first, passes_at_first}
use Rattle.kuhn_cells.specs.Faces.{Face as Triple}
use Rattle.mesh_laws.specs.Closed.{IsTriangle, directed_edges}
use Rattle.mesh_laws.specs.Manifold.{HasFan, arcs}
use Rattle.ply_check.specs.declared.finding.Finding.{Finding}
use Rattle.ply_check.specs.declared.finding.Finding.TheVariants.{Closed, Edge, Face, Vertex}
use Rattle.ply_check.specs.Findings.{after, finding_of, goes_round, is_away, is_paired, is_triangle}
use Rattle.ply_check.specs.VerdictLaws.{FindingsAreWorkedOut}
use Rattle.ply_check.specs.Lowest.{IsLowestFault}
use Rattle.ply_check.specs.Verdicts.{ArePaired, IsPaired, Verdict}
use Rattle.ply_check.specs.Walks.{GoesRound, IsNotBack, first_of, stepped}
use Rattle.ply_check.proofs.Decisions.{fan_goes_round, linked, round_is_fan}

pub triangle_decides : (f : Triple) → Decides (is_triangle f) (IsTriangle f)
triangle_decides f =
    Decides-like (is_triangle f) (λ h. record { ab = h.0; bc = h.1.0; ca = h.1.1 }) (λ h. (h.ab, (h.bc, h.ca)))
    (Decides-and _ _ (Decides-not _ (Decides-eqb f.a f.b)) (Decides-and _ _ (Decides-not _ (Decides-eqb f.b f.c)) (Decides-not _ (Decides-eqb f.c f.a))))

pub paired_decides : (es : List (ℕ × ℕ)) (e : ℕ × ℕ) → Decides (is_paired es e) (IsPaired es e)
paired_decides es e =
    Decides-like (is_paired es e) (λ h. record { once = h.0; back = h.1 }) (λ h. (h.once, h.back))
    (Decides-and _ _ (Decides-eqb _ _) (Decides-eqb _ _))

-- ---- the first of a list that fails a test

module _ {X : Type 0} (p : X → Bool) (P : X → Type 0) (each : (x : X) → Decides (p x) (P x)) (xs : List X) (d : X) where
  passes : (j : ℕ) (e : X) → j < position_or_len (λ x. not (p x)) xs → P (get_or xs j e)
  passes j e less = (each (get_or xs j e)).0 (not-false (p (get_or xs j e)) (fails_before_first (λ x. not (p x)) xs j e less))

  first_fails : position_or_len (λ x. not (p x)) xs < length xs → IsLowestFault (HoldsAt P xs) (length xs) (position_or_len (λ x. not (p x)) xs)
  first_fails within =
      record {
        within = within;
        fails = λ holds.
            let at : ℕ = position_or_len (λ x. not (p x)) xs in
            let no = passes_at_first (λ x. not (p x)) xs d within in
            false≢true (sym (ap not ((each (get_or xs at d)).1 (holds d))) ∙ no);
        below = λ j less e. passes j e less;
      }

  all_pass : length xs ≤ position_or_len (λ x. not (p x)) xs → All P xs
  all_pass past k e within = passes k e (omega (arith, past, within))

-- ---- a fan

not_back_decides : (es : List (ℕ × ℕ)) (n : ℕ) → Decides (list_all (is_away es) (range_with_len 1 (n - 1))) (IsNotBack (after es) n (first_of es))
not_back_decides es n =
    Decides-like (list_all (is_away es) (range_with_len 1 (n - 1))) to back
    (Decides-by_and (is_away es) (IsAway es) (list_all (is_away es)) each refl (λ x xs. refl) (range_with_len 1 (n - 1)))
  where
    IsAway : List (ℕ × ℕ) → ℕ → Type 0
    IsAway ds i = stepped (after ds) i (first_of ds) ≡ first_of ds → ⊥

    each : (i : ℕ) → Decides (is_away es i) (IsAway es i)
    each i = Decides-not _ (Decides-eqb (stepped (after es) i (first_of es)) (first_of es))

    long : length (range_with_len 1 (n - 1)) ≡ n - 1
    long = length-range_with_len 1 (n - 1)

    to : All (IsAway es) (range_with_len 1 (n - 1)) → IsNotBack (after es) n (first_of es)
    to all i some less =
        let at : i - 1 < n - 1 = omega (arith, some, less) in
        let e : get_or (range_with_len 1 (n - 1)) (i - 1) 0 ≡ i = get_or-range_with_len 1 (n - 1) (i - 1) 0 at ∙ omega (arith, some) in
        subst (IsAway es) e (all (i - 1) 0 (omega (arith, at, long)))

    back : IsNotBack (after es) n (first_of es) → All (IsAway es) (range_with_len 1 (n - 1))
    back away k d within =
        let at : k < n - 1 = omega (arith, within, long) in
        subst (IsAway es) (sym (get_or-range_with_len 1 (n - 1) k d at)) (away (1 + k) (omega arith) (omega (arith, at)))

round_decides : (es : List (ℕ × ℕ)) → Decides (goes_round es) (GoesRound (after es) es)
round_decides es =
    Decides-like (goes_round es) (λ h. record { long = h.0; away = h.1 }) (λ r. (r.long, r.away))
    (Decides-and _ _ (leb-true 3 (length es), le-leb 3 (length es)) (not_back_decides es (length es)))

fan_decides : (fs : List Triple) (v : ℕ) → All IsTriangle fs → ArePaired fs → Decides (goes_round (arcs fs v)) (HasFan fs v)
fan_decides fs v t paired =
    Decides-like (goes_round (arcs fs v)) (round_is_fan fs v (after (arcs fs v)) t paired (linked fs v t paired))
    (fan_goes_round fs v (after (arcs fs v)) t paired (linked fs v t paired)) (round_decides (arcs fs v))

-- ---- one after the other

pick : {A : Type 0} (a b : ℕ) (x y : A) → a < b → (if nat_lt a b then x else y) ≡ x
pick {A} a b x y less = ap (λ t. cond {A = A} t x y) (lt-ltb a b less)

pass : {A : Type 0} (a b : ℕ) (x y : A) → b ≤ a → (if nat_lt a b then x else y) ≡ y
pass {A} a b x y past = ap (λ t. cond {A = A} t x y) (le-ltb a b past)

pub worked_out : FindingsAreWorkedOut
worked_out count fs = faces_first (cases_lt face (length fs))
  where
    es : List (ℕ × ℕ)
    es = directed_edges fs

    vs : List ℕ
    vs = range_with_len 0 count

    face : ℕ
    face = position_or_len (λ f. not (is_triangle f)) fs

    edge : ℕ
    edge = position_or_len (λ e. not (is_paired es e)) es

    vertex : ℕ
    vertex = position_or_len (λ v. not (goes_round (arcs fs v))) vs

    rest : Finding
    rest = if nat_lt vertex count then Vertex vertex else Closed

    later : Finding
    later = if nat_lt edge (length es) then Edge (get_or es edge (0, 0)).0 (get_or es edge (0, 0)).1 else rest

    many : length vs ≡ count
    many = length-range_with_len 0 count

    at_vertex : (j : ℕ) → j < count → HoldsAt (HasFan fs) vs j → HasFan fs j
    at_vertex j less h = subst (HasFan fs) (get_or-range_with_len 0 count j 0 less ∙ omega arith) (h 0)

    from_vertex : (j : ℕ) → j < count → HasFan fs j → HoldsAt (HasFan fs) vs j
    from_vertex j less h d = subst (HasFan fs) (sym (get_or-range_with_len 0 count j d less ∙ omega arith)) h

    vertices : All IsTriangle fs → ArePaired fs → (vertex < count) ⊎ (count ≤ vertex) → Verdict count fs rest
    vertices t paired (inl less) =
        let r = first_fails (λ v. goes_round (arcs fs v)) (HasFan fs) (λ v. fan_decides fs v t paired) vs 0 (omega (arith, less, many)) in
        subst (Verdict count fs) (sym (pick vertex count (Vertex vertex) Closed less)) (
          t,
          paired,
          record {
            within = less;
            fails = λ h. r.fails (from_vertex vertex less h);
            below = λ j low. at_vertex j (omega (arith, low, less)) (r.below j low);
          },
        )
    vertices t paired (inr past) =
        let all = all_pass (λ v. goes_round (arcs fs v)) (HasFan fs) (λ v. fan_decides fs v t paired) vs 0 (omega (arith, past, many)) in
        subst (Verdict count fs) (sym (pass vertex count (Vertex vertex) Closed past))
        (t, paired, λ u less. at_vertex u less (λ d. all u d (omega (arith, less, many))))

    edges_next : All IsTriangle fs → (edge < length es) ⊎ (length es ≤ edge) → Verdict count fs later
    edges_next t (inl less) =
        subst (Verdict count fs) (sym (pick edge (length es) (Edge (get_or es edge (0, 0)).0 (get_or es edge (0, 0)).1) rest less)) (
          t,
          record {
            place = edge;
            lowest = first_fails (is_paired es) (IsPaired es) (paired_decides es) es (0, 0) less;
            there = λ d. get_or_default es edge d (0, 0) less;
          },
        )
    edges_next t (inr past) =
        subst (Verdict count fs) (sym (pass edge (length es) (Edge (get_or es edge (0, 0)).0 (get_or es edge (0, 0)).1) rest past))
        (vertices t (all_pass (is_paired es) (IsPaired es) (paired_decides es) es (0, 0) past) (cases_lt vertex count))

    faces_first : (face < length fs) ⊎ (length fs ≤ face) → Verdict count fs (finding_of count fs)
    faces_first (inl less) =
        subst (Verdict count fs) (sym (pick face (length fs) (Face face) later less))
        (first_fails is_triangle IsTriangle triangle_decides fs (record { a = 0; b = 0; c = 0 }) less)
    faces_first (inr past) =
        subst (Verdict count fs) (sym (pass face (length fs) (Face face) later past))
        (edges_next (all_pass is_triangle IsTriangle triangle_decides fs (record { a = 0; b = 0; c = 0 }) past) (cases_lt edge (length es)))
