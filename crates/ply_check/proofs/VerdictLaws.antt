-- The laws of findings, proved.
use Rattle.std.proofs.Common.{◌≡◌, ℕ, ◌<◌, List, length, get_or, refl, ap, inl, inr}
use Rattle.std.specs.Prelude.{◌⊎◌, All}
use Rattle.std.specs.List.{HoldsAt}
use Rattle.std.proofs.lemmas.Bool.{cases_order}
use Rattle.kuhn_cells.specs.Faces.{Face as Triple}
use Rattle.mesh_laws.specs.Closed.{IsClosed, IsTriangle, directed_edges}
use Rattle.mesh_laws.proofs.ClosedLaws.{edges_are_paired}
use Rattle.mesh_laws.proofs.FanLaws.{have_one_cycle}
use Rattle.ply_check.specs.declared.finding.Finding.{Finding}
use Rattle.ply_check.specs.declared.finding.Finding.TheVariants.{Closed, Edge, Face, Vertex}
use Rattle.ply_check.specs.VerdictLaws.{MeshesAreFoundClosed, OneFindingIsRight, VerdictsAreExact}
use Rattle.ply_check.specs.Lowest.{IsLowestFault}
use Rattle.ply_check.proofs.Decisions.{some_verdict}
use Rattle.ply_check.specs.Verdicts.{ArePaired, IsFirstUnpaired, IsPaired, Verdict}

-- ---- closed

pub closed_is : (faces : List Triple) → IsClosed faces → ArePaired faces
closed_is faces c = λ k d within. record { once = c.once k d within; back = c.back k d within }

pub closed_from : (faces : List Triple) → All IsTriangle faces → ArePaired faces → IsClosed faces
closed_from faces triangles paired =
    record { triangles = triangles; once = λ k d within. (paired k d within).once; back = λ k d within. (paired k d within).back }

pub verdicts_are_exact : VerdictsAreExact
verdicts_are_exact count faces =
    (λ h. (closed_from faces h.0 h.1, h.2), λ h. (h.0.triangles, closed_is faces h.0, h.1))

pub meshes_are_found_closed : MeshesAreFoundClosed
meshes_are_found_closed g framed =
    ((edges_are_paired g framed).triangles, closed_is _ (edges_are_paired g framed), have_one_cycle g framed)

-- ---- one finding

-- the lowest fault is one
lowest_is_one : (P : ℕ → Type 0) (n j k : ℕ) → IsLowestFault P n j → IsLowestFault P n k → j ≡ k
lowest_is_one P n j k p q = by (cases_order j k)
  where
    by : (j ≡ k) ⊎ ((j < k) ⊎ (k < j)) → j ≡ k
    by (inl same) = same
    by (inr (inl less)) = absurd (p.fails (q.below j less))
    by (inr (inr more)) = absurd (q.fails (p.below k more))

-- where there is a fault the fact does not hold throughout
no_fault : (P : ℕ → Type 0) (n k : ℕ) → IsLowestFault P n k → ((j : ℕ) → j < n → P j) → ⊥
no_fault P n k p all = p.fails (all k p.within)

holds_throughout : {X : Type 0} (P : X → Type 0) (xs : List X) → All P xs → (j : ℕ) → j < length xs → HoldsAt P xs j
holds_throughout P xs all j within = λ d. all j d within

no_fault_in : {X : Type 0} (P : X → Type 0) (xs : List X) (k : ℕ) → IsLowestFault (HoldsAt P xs) (length xs) k → All P xs → ⊥
no_fault_in P xs k p all = no_fault (HoldsAt P xs) (length xs) k p (holds_throughout P xs all)

same_first : (faces : List Triple) (u v w z : ℕ) → IsFirstUnpaired faces u v → IsFirstUnpaired faces w z → Edge u v ≡ Edge w z
same_first faces u v w z p q =
    let place = lowest_is_one _ _ p.place q.place p.lowest q.lowest in
    let one : get_or (directed_edges faces) p.place (0, 0) ≡ (u, v) = p.there (0, 0) in
    let two : get_or (directed_edges faces) q.place (0, 0) ≡ (w, z) = q.there (0, 0) in
    let e : (u, v) ≡ (w, z) = cc in
    ap (λ (x : ℕ × ℕ). Edge x.0 x.1) e

unique : (count : ℕ) (faces : List Triple) (f g : Finding) → Verdict count faces f → Verdict count faces g → f ≡ g
unique count faces (Face j) (Face k) p q = ap Face (lowest_is_one _ _ j k p q)
unique count faces (Face j) (Edge u v) p q = absurd (no_fault_in IsTriangle faces j p q.0)
unique count faces (Face j) (Vertex v) p q = absurd (no_fault_in IsTriangle faces j p q.0)
unique count faces (Face j) Closed p q = absurd (no_fault_in IsTriangle faces j p q.0)
unique count faces (Edge u v) (Face k) p q = absurd (no_fault_in IsTriangle faces k q p.0)
unique count faces (Edge u v) (Edge w z) p q = same_first faces u v w z p.1 q.1
unique count faces (Edge u v) (Vertex w) p q = absurd (no_fault_in (IsPaired (directed_edges faces)) (directed_edges faces) p.1.place p.1.lowest q.1)
unique count faces (Edge u v) Closed p q = absurd (no_fault_in (IsPaired (directed_edges faces)) (directed_edges faces) p.1.place p.1.lowest q.1)
unique count faces (Vertex v) (Face k) p q = absurd (no_fault_in IsTriangle faces k q p.0)
unique count faces (Vertex v) (Edge w z) p q = absurd (no_fault_in (IsPaired (directed_edges faces)) (directed_edges faces) q.1.place q.1.lowest p.1)
unique count faces (Vertex v) (Vertex w) p q = ap Vertex (lowest_is_one _ _ v w p.2 q.2)
unique count faces (Vertex v) Closed p q = absurd (no_fault _ _ v p.2 q.2)
unique count faces Closed (Face k) p q = absurd (no_fault_in IsTriangle faces k q p.0)
unique count faces Closed (Edge w z) p q = absurd (no_fault_in (IsPaired (directed_edges faces)) (directed_edges faces) q.1.place q.1.lowest p.1)
unique count faces Closed (Vertex w) p q = absurd (no_fault _ _ w q.2 p.2)
unique count faces Closed Closed p q = refl

pub one_finding_is_right : OneFindingIsRight
one_finding_is_right count faces = record { unique = unique count faces; some = some_verdict count faces }
