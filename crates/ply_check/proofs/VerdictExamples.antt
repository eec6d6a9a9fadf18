-- What is found of small sets of faces, and tables of their vertices, worked out by hand.
use Rattle.std.proofs.Common.{◌≡◌, ℕ, zero, suc, ◌<◌, Bool, true, List, [], ◌∷◌, refl, arith}
use Rattle.std.specs.Prelude.{◌+◌, All, get_or}
use Rattle.std.specs.Bool.{Decides}
use Rattle.std.specs.List.{HoldsAt, list_all}
use Rattle.std.proofs.lemmas.List.Elements.{All-cons, All-nil}
use Rattle.std.proofs.lemmas.Bool.Decides.{Decides-by_and}
use Rattle.kuhn_cells.specs.Faces.{Face as Triple}
use Rattle.mesh_laws.specs.Closed.{IsTriangle, directed_edges}
use Rattle.mesh_laws.specs.Manifold.{HasFan, arcs}
use Rattle.ply_check.specs.declared.finding.Finding.TheVariants.{Closed, Edge, Face, Vertex}
use Rattle.ply_check.specs.Buckets.{AreSums, below}
use Rattle.ply_check.specs.Faults.{AreClear}
use Rattle.ply_check.specs.Findings.{after, is_paired, is_triangle}
use Rattle.ply_check.specs.Verdicts.{ArePaired, IsPaired, Verdict}
use Rattle.ply_check.proofs.Decisions.{fan_goes_round, linked, round_is_fan}
use Rattle.ply_check.proofs.Worked.{paired_decides, triangle_decides}
use Rattle.ply_check.specs.Walks.{GoesRound, IsNotBack}

-- ---- tests

all_decides : {A : Type 0} (p : A → Bool) (P : A → Type 0) → ((x : A) → Decides (p x) (P x)) → (xs : List A) → Decides (list_all p xs) (All P xs)
all_decides p P each xs = Decides-by_and p P (list_all p) each refl (λ x xs. refl) xs

are_triangles : (fs : List Triple) → list_all is_triangle fs ≡ true → All IsTriangle fs
are_triangles fs h = (all_decides is_triangle IsTriangle triangle_decides fs).0 h

are_paired : (fs : List Triple) → list_all (is_paired (directed_edges fs)) (directed_edges fs) ≡ true → ArePaired fs
are_paired fs h = (all_decides (is_paired (directed_edges fs)) (IsPaired (directed_edges fs)) (paired_decides (directed_edges fs)) (directed_edges fs)).0 h

abbrev triple : ℕ → ℕ → ℕ → Triple
triple a b c = record { a = a; b = b; c = c }

-- ---- no faces

nothing_is_closed : Verdict 0 [] Closed
nothing_is_closed =
    (λ k d within. absurd (omega (arith, within)), λ k d within. absurd (omega (arith, within)), λ v less. absurd (omega (arith, less)))

-- a vertex without a face
no_triangles : All IsTriangle []
no_triangles k d within = absurd (omega (arith, within))

no_edges : ArePaired []
no_edges k d within = absurd (omega (arith, within))

lone_vertex : Verdict 1 [] (Vertex 0)
lone_vertex = (
  no_triangles,
  no_edges,
  record {
    within = omega arith;
    fails = λ fan. let long = (fan_goes_round [] 0 (after (arcs [] 0)) no_triangles no_edges (linked [] 0 no_triangles no_edges) fan).long in absurd (omega (arith, long));
    below = λ j less. absurd (omega (arith, less));
  },
)

-- ---- two triangles with the same sides

abbrev two_sided : List Triple
two_sided = triple 0 1 2 ∷ triple 0 2 1 ∷ []

two_sided_triangles : All IsTriangle two_sided
unfolding is_triangle
two_sided_triangles = are_triangles two_sided refl

two_sided_paired : ArePaired two_sided
unfolding is_paired
two_sided_paired = are_paired two_sided refl

-- they are closed, and no manifold: two arcs are no fan
two_sided_verdict : Verdict 3 two_sided (Vertex 0)
two_sided_verdict = (
  two_sided_triangles,
  two_sided_paired,
  record {
    within = omega arith;
    fails = λ fan. let long = (fan_goes_round two_sided 0 (after (arcs two_sided 0)) two_sided_triangles two_sided_paired (linked two_sided 0 two_sided_triangles two_sided_paired) fan).long in absurd (omega (arith, long));
    below = λ j less. absurd (omega (arith, less));
  },
)

-- ---- a tetrahedron

abbrev tetrahedron : List Triple
tetrahedron = triple 0 2 1 ∷ triple 0 1 3 ∷ triple 0 3 2 ∷ triple 1 2 3 ∷ []

tetrahedron_triangles : All IsTriangle tetrahedron
unfolding is_triangle
tetrahedron_triangles = are_triangles tetrahedron refl

tetrahedron_paired : ArePaired tetrahedron
unfolding is_paired
tetrahedron_paired = are_paired tetrahedron refl

-- three steps lead back, and fewer do not
three_back : (next : ℕ → ℕ) (start : ℕ) → (next start ≡ start → ⊥) → (next (next start) ≡ start → ⊥) → IsNotBack next 3 start
three_back next start one two zero some less e = absurd (omega (arith, some))
three_back next start one two (suc zero) some less e = one e
three_back next start one two (suc (suc zero)) some less e = two e
three_back next start one two (suc (suc (suc i))) some less e = absurd (omega (arith, less))

fan_at : (u : ℕ) → GoesRound (after (arcs tetrahedron u)) (arcs tetrahedron u) → HasFan tetrahedron u
fan_at u round = round_is_fan tetrahedron u (after (arcs tetrahedron u)) tetrahedron_triangles tetrahedron_paired (linked tetrahedron u tetrahedron_triangles tetrahedron_paired) round

fans : (v : ℕ) → v < 4 → HasFan tetrahedron v
fans zero less =
    fan_at 0 (record { long = omega arith; away = three_back (after (arcs tetrahedron 0)) 2 (λ e. omega (arith, e)) (λ e. omega (arith, e)) })
fans (suc zero) less =
    fan_at 1 (record { long = omega arith; away = three_back (after (arcs tetrahedron 1)) 0 (λ e. omega (arith, e)) (λ e. omega (arith, e)) })
fans (suc (suc zero)) less =
    fan_at 2 (record { long = omega arith; away = three_back (after (arcs tetrahedron 2)) 1 (λ e. omega (arith, e)) (λ e. omega (arith, e)) })
fans (suc (suc (suc zero))) less =
    fan_at 3 (record { long = omega arith; away = three_back (after (arcs tetrahedron 3)) 0 (λ e. omega (arith, e)) (λ e. omega (arith, e)) })
fans (suc (suc (suc (suc v)))) less = absurd (omega (arith, less))

tetrahedron_is_closed : Verdict 4 tetrahedron Closed
tetrahedron_is_closed = (tetrahedron_triangles, tetrahedron_paired, fans)

-- a vertex more, without a face
one_more_vertex : Verdict 5 tetrahedron (Vertex 4)
one_more_vertex = (
  tetrahedron_triangles,
  tetrahedron_paired,
  record {
    within = omega arith;
    fails = λ fan. let long = (fan_goes_round tetrahedron 4 (after (arcs tetrahedron 4)) tetrahedron_triangles tetrahedron_paired (linked tetrahedron 4 tetrahedron_triangles tetrahedron_paired) fan).long in absurd (omega (arith, long));
    below = fans;
  },
)

-- ---- two tetrahedra that share a tip: the way round it comes back too soon

abbrev two_on_a_tip : List Triple
two_on_a_tip =
    triple 0 2 1 ∷ triple 0 1 3 ∷ triple 0 3 2 ∷ triple 1 2 3
    ∷ triple 0 5 4 ∷ triple 0 4 6 ∷ triple 0 6 5 ∷ triple 4 5 6 ∷ []

tip_triangles : All IsTriangle two_on_a_tip
unfolding is_triangle
tip_triangles = are_triangles two_on_a_tip refl

tip_paired : ArePaired two_on_a_tip
unfolding is_paired
tip_paired = are_paired two_on_a_tip refl

two_on_a_tip_verdict : Verdict 7 two_on_a_tip (Vertex 0)
two_on_a_tip_verdict = (
  tip_triangles,
  tip_paired,
  record {
    within = omega arith;
    fails = λ fan. (fan_goes_round two_on_a_tip 0 (after (arcs two_on_a_tip 0)) tip_triangles tip_paired (linked two_on_a_tip 0 tip_triangles tip_paired) fan).away 3 (omega arith) (omega arith) refl;
    below = λ j less. absurd (omega (arith, less));
  },
)

-- ---- edges and faces that break it

-- the same triangle twice
abbrev doubled : List Triple
doubled = triple 0 1 2 ∷ triple 0 1 2 ∷ []

doubled_edge : Verdict 3 doubled (Edge 0 1)
unfolding is_triangle
doubled_edge = (
  are_triangles doubled refl,
  record {
    place = 0;
    lowest = record {
      within = omega arith;
      fails = λ h. let once = (h (0, 0)).once in absurd (omega (arith, once));
      below = λ j less. absurd (omega (arith, less));
    };
    there = λ d. refl;
  },
)

-- The tetrahedron with its second face turned: of the first face's edges, 0 2 and 2 1 are paired, and
-- 1 0 is not.
abbrev turned : List Triple
turned = triple 0 2 1 ∷ triple 0 3 1 ∷ triple 0 3 2 ∷ triple 1 2 3 ∷ []

turned_edge : Verdict 4 turned (Edge 1 0)
unfolding is_triangle is_paired
turned_edge = (
  are_triangles turned refl,
  record {
    place = 2;
    lowest = record {
      within = omega arith;
      fails = λ h. let once = (h (0, 0)).once in absurd (omega (arith, once));
      below = below;
    };
    there = λ d. refl;
  },
)
  where
    below : (j : ℕ) → j < 2 → HoldsAt (IsPaired (directed_edges turned)) (directed_edges turned) j
    below zero less = λ d. record { once = refl; back = refl }
    below (suc zero) less = λ d. record { once = refl; back = refl }
    below (suc (suc j)) less = absurd (omega (arith, less))

-- a face on one vertex, behind an open one
abbrev flat : List Triple
flat = triple 0 1 2 ∷ triple 3 3 3 ∷ []

flat_face : Verdict 4 flat (Face 1)
flat_face = record { within = omega arith; fails = λ h. (h (triple 0 0 0)).ab refl; below = below }
  where
    below : (j : ℕ) → j < 1 → HoldsAt IsTriangle flat j
    below zero less = λ d. record { ab = λ e. omega (arith, e); bc = λ e. omega (arith, e); ca = λ e. omega (arith, e) }
    below (suc j) less = absurd (omega (arith, less))

-- ---- tables

-- of the numbers 2, 0, 2 and 1 one is at most 0, two are at most 1, and all four are at most 2, not three of them
sums_of_four : AreSums (2 ∷ 0 ∷ 2 ∷ 1 ∷ []) (1 ∷ 2 ∷ 4 ∷ [])
sums_of_four = record { sum = sum }
  where
    sum : (u : ℕ) → u < 3 → get_or (1 ∷ 2 ∷ 4 ∷ []) u 0 ≡ below (2 ∷ 0 ∷ 2 ∷ 1 ∷ []) (u + 1)
    sum zero less = refl
    sum (suc zero) less = refl
    sum (suc (suc zero)) less = refl
    sum (suc (suc (suc u))) less = absurd (omega (arith, less))

last_sum_of_three : AreSums (2 ∷ 0 ∷ 2 ∷ 1 ∷ []) (1 ∷ 2 ∷ 3 ∷ []) → ⊥
last_sum_of_three are = let sum : 3 ≡ 4 = are.sum 2 (omega arith) in omega (arith, sum)

-- no edge at either of two vertices
abbrev nothing : List ℕ
nothing = 0 ∷ 0 ∷ []

-- the vertex 1 is the last of two, which may be the next one of a vertex
two_vertices : AreClear 2 nothing nothing (1 ∷ 0 ∷ [])
two_vertices = record {
  degrees = record { firsts = refl; seconds = refl; leave = none; arrive = none };
  size = refl;
  below = All-cons (λ v. v < 2) 1 (0 ∷ []) (omega arith) (All-cons (λ v. v < 2) 0 [] (omega arith) (All-nil (λ v. v < 2)));
}
  where
    none : (v : ℕ) → get_or nothing v 0 ≡ 0
    none zero = refl
    none (suc zero) = refl
    none (suc (suc v)) = refl

-- something is noted where an edge leaves a vertex, and where one comes back to it
edge_there : (next : List ℕ) → AreClear 2 (0 ∷ 1 ∷ []) nothing next → ⊥
edge_there next clear = let one : 1 ≡ 0 = clear.degrees.leave 1 in omega (arith, one)

edge_back : (next : List ℕ) → AreClear 2 nothing (0 ∷ 1 ∷ []) next → ⊥
edge_back next clear = let one : 1 ≡ 0 = clear.degrees.arrive 1 in omega (arith, one)

-- a table of one vertex is too short, and no third vertex is next
one_vertex : AreClear 2 nothing nothing (1 ∷ []) → ⊥
one_vertex clear = let size : 1 ≡ 2 = clear.size in omega (arith, size)

third_vertex : AreClear 2 nothing nothing (0 ∷ 2 ∷ []) → ⊥
third_vertex clear = let less : 2 < 2 = clear.below 1 0 (omega arith) in omega (arith, less)
