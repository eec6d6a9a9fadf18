-- What breaks that faces are closed and a manifold, of one vertex more.
use Rattle.std.proofs.Common.{◌≡◌, ℕ, suc, ◌+◌, ◌*◌, ◌<◌, ◌≤◌, List, [], ◌∷◌, ◌++◌, length, get_or, take, set, refl, sym, ap, arith, inl, inr, subst, ◌∙◌}
use Rattle.std.specs.Prelude.{◌⊎◌, map, All, Contains}
use Rattle.std.proofs.lemmas.Bool.{cases_eq, cases_lt}
use Rattle.std.proofs.lemmas.List.{get_or-map, get_or_default, get_or-set_other, get_or-set_same, get_or-take, length-map, length-take, map-append, take_more}
use Rattle.std.proofs.lemmas.List.Elements.{All-append, All-cons, All-contains, All-head, All-nil, All-tail}
use Rattle.kuhn_cells.specs.Faces.{Face as Triple}
use Rattle.mesh_laws.specs.Closed.{IsTriangle, directed_edges}
use Rattle.mesh_laws.specs.Manifold.{HasFan, arcs}
use Rattle.ply_check.specs.declared.arc.Arc.{Arc}
use Rattle.ply_check.specs.declared.mesh_faults.Faults.{Faults}
use Rattle.ply_check.specs.declared.finding.Finding.TheVariants.{Closed, Edge, Vertex}
use Rattle.ply_check.specs.Arcs.{AreWithin, IsWithin, arcs_from, arcs_of, pairs}
use Rattle.ply_check.specs.Corners.{triple_of, triples}
use Rattle.ply_check.specs.Degrees.{AreDegrees, IsLeastUnpaired, IsOnce, IsUnpairedAt, arriving, leaving}
use Rattle.ply_check.specs.Faults.{AreFaultsBelow, IsFirstBelow, IsLowestBelow, edge}
use Rattle.ply_check.specs.Findings.{after}
use Rattle.ply_check.specs.Verdicts.{ArePaired, IsPaired, Verdict}
use Rattle.ply_check.specs.Walks.{GoesRound, HaveOneSource, LeadsOn, table}
use Rattle.ply_check.proofs.ArcLaws.{arc_is_of, edge_has_arc, keys_of, of_first, of_none, of_second, of_third, pairs_from}
use Rattle.ply_check.proofs.Decisions.{fan_goes_round, linked, round_is_fan}
use Rattle.ply_check.proofs.EdgeLaws.{edges_arrive, edges_leave, firsts_differ}
use Rattle.ply_check.proofs.Places.{edges_long}

-- ---- which vertex follows which

source_at : (xs : List Arc) (k : ℕ) (d : Arc) → k < length xs → get_or (map (λ (e : ℕ × ℕ). e.0) (pairs xs)) k 0 ≡ (get_or xs k d).next
source_at xs k d within =
    get_or-map (λ (e : ℕ × ℕ). e.0) (pairs xs) k (0, 0) 0 (omega (arith, within, length-map {B = ℕ × ℕ} xs (λ (a : Arc). (a.next, a.last))))
    ∙ ap (λ (e : ℕ × ℕ). e.0) (get_or-map (λ (a : Arc). (a.next, a.last)) xs k d (0, 0) within)

sources_long : (xs : List Arc) → length (map (λ (e : ℕ × ℕ). e.0) (pairs xs)) ≡ length xs
sources_long xs = length-map (pairs xs) (λ (e : ℕ × ℕ). e.0) ∙ length-map {B = ℕ × ℕ} xs (λ (a : Arc). (a.next, a.last))

pub leads_more : (next : List ℕ) (xs : List Arc) (i : ℕ) (d : Arc) → i < length xs → HaveOneSource (pairs xs) → (get_or xs i d).next < length next
    → LeadsOn (table next) (pairs (take i xs)) → LeadsOn (table (set next (get_or xs i d).next (get_or xs i d).last)) (pairs (take (i + 1) xs))
leads_more next xs i d within one low leads =
    subst P (sym (ap pairs (take_more xs i d within) ∙ map-append (λ (x : Arc). (x.next, x.last)) (take i xs) (a ∷ [])))
    (All-append L (pairs (take i xs)) ((a.next, a.last) ∷ []) before (All-cons L (a.next, a.last) [] (get_or-set_same next a.next a.last 0 low) (All-nil L)))
  where
    a : Arc
    a = get_or xs i d

    L : ℕ × ℕ → Type 0
    L e = table (set next a.next a.last) e.0 ≡ e.1

    P : List (ℕ × ℕ) → Type 0
    P es = LeadsOn (table (set next a.next a.last)) es

    long : length (pairs (take i xs)) ≡ i
    long = let m = length-map {B = ℕ × ℕ} (take i xs) (λ (x : Arc). (x.next, x.last)) in omega (arith, m, length-take i xs, within)

    at : (k : ℕ) (e : ℕ × ℕ) → k < i → get_or (pairs (take i xs)) k e ≡ ((get_or xs k d).next, (get_or xs k d).last)
    at k e low_ =
        get_or-map (λ (x : Arc). (x.next, x.last)) (take i xs) k d e (omega (arith, low_, length-take i xs, within))
        ∙ ap (λ (x : Arc). (x.next, x.last)) (get_or-take i xs k d low_)

    differ : (k : ℕ) → k < i → (get_or xs k d).next ≡ a.next → ⊥
    differ k low_ same =
        one k i 0 low_ (omega (arith, within, sources_long xs)) (source_at xs k d (omega (arith, low_, within)) ∙ (same ∙ sym (source_at xs i d within)))

    before : All L (pairs (take i xs))
    before k e less =
        let low_ : k < i = omega (arith, less, long) in
        let x : Arc = get_or xs k d in
        let old : table next x.next ≡ x.last = subst (λ (p : ℕ × ℕ). table next p.0 ≡ p.1) (at k e low_) (leads k e less) in
        subst L (sym (at k e low_)) (get_or-set_other next a.next x.next a.last 0 (differ k low_) ∙ old)

-- ---- the first edge that is not paired

pub record AreNoted (fs : List Triple) (u top : ℕ) (xs : List Arc) (to back : List ℕ) : Type 0 where
  pub triangles : All IsTriangle fs
  pub arcs : xs ≡ arcs_from u 0 fs
  pub degrees : AreDegrees top (pairs xs) to back

same_arcs : (fs : List Triple) (u : ℕ) (xs : List Arc) → xs ≡ arcs_from u 0 fs → pairs xs ≡ arcs fs u
same_arcs fs u xs e = ap pairs e ∙ pairs_from u 0 fs

once_is_paired : (fs : List Triple) (u top v : ℕ) (xs : List Arc) (to back : List ℕ) → AreNoted fs u top xs to back → IsOnce to back v → IsPaired (directed_edges fs) (u, v)
once_is_paired fs u top v xs to back noted once =
    let es = same_arcs fs u xs noted.arcs in
    record {
      once = sym (edges_leave fs u v noted.triangles) ∙ (ap (λ (l : List (ℕ × ℕ)). leaving l v) (sym es) ∙ (sym (noted.degrees.leave v) ∙ once.to_one));
      back = sym (edges_arrive fs u v noted.triangles) ∙ (ap (λ (l : List (ℕ × ℕ)). arriving l v) (sym es) ∙ (sym (noted.degrees.arrive v) ∙ once.back_one));
    }

paired_is_once : (fs : List Triple) (u top v : ℕ) (xs : List Arc) (to back : List ℕ) → AreNoted fs u top xs to back → IsPaired (directed_edges fs) (u, v) → IsOnce to back v
paired_is_once fs u top v xs to back noted paired =
    let es = same_arcs fs u xs noted.arcs in
    record {
      to_one = noted.degrees.leave v ∙ (ap (λ (l : List (ℕ × ℕ)). leaving l v) es ∙ (edges_leave fs u v noted.triangles ∙ paired.once));
      back_one = noted.degrees.arrive v ∙ (ap (λ (l : List (ℕ × ℕ)). arriving l v) es ∙ (edges_arrive fs u v noted.triangles ∙ paired.back));
    }

pub first_after : (fs : List Triple) (u top : ℕ) (xs : List Arc) (to back : List ℕ) (first least : ℕ) → AreNoted fs u top xs to back
    → IsLeastUnpaired to back xs first least → IsFirstBelow fs u first → IsFirstBelow fs (u + 1) least
first_after fs u top xs to back first least noted is so_far =
    record {
      within = omega (arith, is.most, so_far.within);
      paired = λ j less low. at j less low (cases_lt (edge fs j).0 u);
      there = λ less. by is.reached less;
    }
  where
    from_u : (j : ℕ) → j < least → (edge fs j).0 ≡ u → IsPaired (directed_edges fs) (edge fs j)
    from_u j less same =
        let within : j < 3 * length fs = omega (arith, less, is.most, so_far.within, edges_long fs) in
        let r = edge_has_arc fs u 0 j noted.triangles within same in
        let there : Contains xs r.arc = subst (λ (l : List Arc). Contains l r.arc) (sym noted.arcs) r.among in
        elim (All-contains (λ (a : Arc). IsOnce to back a.next ⊎ (least ≤ a.place)) xs r.arc is.each there) [
          | inl once ↦
              subst (IsPaired (directed_edges fs)) (ap (λ (k : ℕ). (k, r.arc.next)) (sym same) ∙ ap (λ (k : ℕ). ((edge fs j).0, k)) r.next)
              (once_is_paired fs u top r.arc.next xs to back noted once)
          | inr high ↦ absurd (omega (arith, high, r.place, less))
        ]

    at : (j : ℕ) → j < least → (edge fs j).0 < u + 1 → ((edge fs j).0 < u) ⊎ (u ≤ (edge fs j).0) → IsPaired (directed_edges fs) (edge fs j)
    at j less low (inl old) = so_far.paired j (omega (arith, less, is.most)) old
    at j less low (inr high) = from_u j less (omega (arith, low, high))

    by : (least ≡ first) ⊎ IsUnpairedAt to back xs least → least < length (directed_edges fs) → IsPaired (directed_edges fs) (edge fs least) → ⊥
    by (inl same) less paired =
        so_far.there (omega (arith, less, same)) (subst (λ (k : ℕ). IsPaired (directed_edges fs) (edge fs k)) same paired)
    by (inr bad) less paired =
        let of = arc_is_of fs u 0 bad.arc (subst (λ (l : List Arc). Contains l bad.arc) noted.arcs bad.among) in
        let e : least ≡ of.j = omega (arith, of.place, bad.there) in
        bad.fails (paired_is_once fs u top bad.arc.next xs to back noted
        (subst (IsPaired (directed_edges fs)) (ap (edge fs) e ∙ of.edge) paired))

-- ---- the lowest vertex without a fan

pub record AreRound (fs : List Triple) (u : ℕ) (xs : List Arc) (next : List ℕ) : Type 0 where
  pub triangles : All IsTriangle fs
  pub arcs : xs ≡ arcs_from u 0 fs
  pub leads : HaveOneSource (pairs xs) → LeadsOn (table next) (pairs xs)

leads_on_there : (fs : List Triple) (u : ℕ) (xs : List Arc) (next : List ℕ) → AreRound fs u xs next → ArePaired fs → LeadsOn (table next) (arcs fs u)
leads_on_there fs u xs next are paired =
    let es = same_arcs fs u xs are.arcs in
    subst (LeadsOn (table next)) es (are.leads (subst HaveOneSource (sym es) (firsts_differ fs u are.triangles paired)))

-- one that goes round has a fan
pub lowest_on : (fs : List Triple) (u top vertex : ℕ) (xs : List Arc) (next : List ℕ) → AreRound fs u xs next → GoesRound (table next) (pairs xs) → vertex ≡ top
    → (ArePaired fs → IsLowestBelow fs top u vertex) → ArePaired fs → IsLowestBelow fs top (u + 1) vertex
lowest_on fs u top vertex xs next are round all so_far paired =
    let fan = round_is_fan fs u (table next) are.triangles paired (leads_on_there fs u xs next are paired)
    (subst (GoesRound (table next)) (same_arcs fs u xs are.arcs) round) in
    record {
      most = inl all;
      fans = λ j less low.
          elim (cases_lt j u) [
            | inl before ↦ (so_far paired).fans j before low
            | inr high ↦ let e : u ≡ j = omega (arith, high, less) in subst (HasFan fs) e fan
          ];
      fails = (so_far paired).fails;
    }

-- one that does not is the lowest
pub lowest_found : (fs : List Triple) (u top vertex : ℕ) (xs : List Arc) (next : List ℕ) → AreRound fs u xs next → (GoesRound (table next) (pairs xs) → ⊥) → u < top → vertex ≡ top
    → (ArePaired fs → IsLowestBelow fs top u vertex) → ArePaired fs → IsLowestBelow fs top (u + 1) u
lowest_found fs u top vertex xs next are broken low all so_far paired =
    record {
      most = inr (omega arith);
      fans = λ j less below. (so_far paired).fans j below (omega (arith, below, low, all));
      fails = λ less fan. broken (subst (GoesRound (table next)) (sym (same_arcs fs u xs are.arcs))
          (fan_goes_round fs u (table next) are.triangles paired (leads_on_there fs u xs next are paired) fan));
    }

-- one that was found before stays
pub lowest_stays : (fs : List Triple) (u top vertex : ℕ) → (vertex ≡ top → ⊥)
    → (ArePaired fs → IsLowestBelow fs top u vertex) → ArePaired fs → IsLowestBelow fs top (u + 1) vertex
lowest_stays fs u top vertex other so_far paired =
    let r = so_far paired in
    let low : vertex < u = elim r.most [ inl e ↦ absurd (other e) | inr less ↦ less ] in
    record {
      most = inr (omega (arith, low));
      fans = λ j less below. r.fans j (omega (arith, below, low)) below;
      fails = r.fails;
    }

-- ---- before any vertex is looked at

pub none_found : (faces : List (List ℕ)) (top : ℕ) → AreFaultsBelow (triples faces) top 0 (record { edge = 3 * length faces; vertex = top })
none_found faces top =
    let long = edges_long (triples faces) in
    let same = length-map faces triple_of in
    record {
      edge = record {
        within = omega (arith, long, same);
        paired = λ j less low. absurd (omega (arith, low));
        there = λ less. absurd (omega (arith, less, long, same));
      };
      vertex = λ paired. record {
        most = inl refl;
        fans = λ j less below. absurd (omega (arith, less));
        fails = λ less. absurd (omega (arith, less));
      };
    }

-- ---- all vertices stand below a number

three_below : (top : ℕ) (f : Triple) (fs : List Triple) → All (λ v. v < top) (keys_of (f ∷ fs)) → (f.a < top) × (f.b < top) × (f.c < top) × All (λ v. v < top) (keys_of fs)
three_below top f fs h =
    let one = All-tail (λ v. v < top) f.a (f.b ∷ f.c ∷ keys_of fs) h in
    let two = All-tail (λ v. v < top) f.b (f.c ∷ keys_of fs) one in (
      All-head (λ v. v < top) f.a (f.b ∷ f.c ∷ keys_of fs) h,
      All-head (λ v. v < top) f.b (f.c ∷ keys_of fs) one,
      All-head (λ v. v < top) f.c (keys_of fs) two,
      All-tail (λ v. v < top) f.c (keys_of fs) two,
    )

one_within : (top : ℕ) (a : Arc) (l : List Arc) → l ≡ a ∷ [] → a.next < top → a.last < top → AreWithin top l
one_within top a l e next last = subst (AreWithin top) (sym e) (All-cons (IsWithin top) a [] (record { next = next; last = last }) (All-nil (IsWithin top)))

pub arcs_within : (top u n : ℕ) (fs : List Triple) → All (λ v. v < top) (keys_of fs) → AreWithin top (arcs_from u n fs)
arcs_within top u n [] h = All-nil (IsWithin top)
arcs_within top u n (f ∷ fs) h =
    let low = three_below top f fs h in
    All-append (IsWithin top) (arcs_of u n f) (arcs_from u (suc n) fs) (here low (cases_eq f.a u) (cases_eq f.b u) (cases_eq f.c u)) (arcs_within top u (suc n) fs low.3)
  where
    here : (f.a < top) × (f.b < top) × (f.c < top) × All (λ v. v < top) (keys_of fs)
        → (f.a ≡ u) ⊎ (f.a ≡ u → ⊥) → (f.b ≡ u) ⊎ (f.b ≡ u → ⊥) → (f.c ≡ u) ⊎ (f.c ≡ u → ⊥) → AreWithin top (arcs_of u n f)
    here low (inl i) j k = one_within top _ (arcs_of u n f) (of_first u n f i) low.1 low.2
    here low (inr i) (inl j) k = one_within top _ (arcs_of u n f) (of_second u n f i j) low.2 low.0
    here low (inr i) (inr j) (inl k) = one_within top _ (arcs_of u n f) (of_third u n f i j k) low.0 low.1
    here low (inr i) (inr j) (inr k) = subst (AreWithin top) (sym (of_none u n f i j k)) (All-nil (IsWithin top))

no_arcs_above : (top u : ℕ) (fs : List Triple) → All (λ v. v < top) (keys_of fs) → top ≤ u → arcs_from u 0 fs ≡ []
no_arcs_above top u fs h high = by 0 fs h
  where
    by : (n : ℕ) (gs : List Triple) → All (λ v. v < top) (keys_of gs) → arcs_from u n gs ≡ []
    by n [] low = refl
    by n (f ∷ gs) low =
        let each = three_below top f gs low in
        ap (λ (l : List Arc). l ++ arcs_from u (suc n) gs)
        (of_none u n f (λ e. omega (arith, e, each.0, high)) (λ e. omega (arith, e, each.1, high)) (λ e. omega (arith, e, each.2, high)))
        ∙ by (suc n) gs each.3

source_below : (top j : ℕ) (fs : List Triple) → All (λ v. v < top) (keys_of fs) → j < length (directed_edges fs) → (edge fs j).0 < top
source_below top j fs h within =
    let low = h j 0 (omega (arith, within, length-map (directed_edges fs) (λ (e : ℕ × ℕ). e.0))) in
    omega (arith, low, get_or-map (λ (e : ℕ × ℕ). e.0) (directed_edges fs) j (0, 0) 0 within)

-- ---- what is found

pub record AreWhole (fs : List Triple) (top : ℕ) (faults : Faults) : Type 0 where
  pub triangles : All IsTriangle fs
  pub below : All (λ v. v < top) (keys_of fs)
  pub found : AreFaultsBelow fs top top faults

pub finds_edge : (fs : List Triple) (top count : ℕ) (faults : Faults) (a b : ℕ) → AreWhole fs top faults → faults.edge < length (directed_edges fs) → (a, b) ≡ edge fs faults.edge
    → Verdict count fs (Edge a b)
finds_edge fs top count faults a b whole less same = (
  whole.triangles,
  record {
    place = faults.edge;
    lowest = record {
      within = less;
      fails = λ h. whole.found.edge.there less (h (0, 0));
      below = λ j low d.
          let within : j < length (directed_edges fs) = omega (arith, low, less) in
          subst (IsPaired (directed_edges fs)) (get_or_default (directed_edges fs) j (0, 0) d within)
          (whole.found.edge.paired j low (source_below top j fs whole.below within));
    };
    there = λ d. get_or_default (directed_edges fs) faults.edge d (0, 0) less ∙ sym same;
  },
)

all_paired : (fs : List Triple) (top : ℕ) (faults : Faults) → AreWhole fs top faults → length (directed_edges fs) ≤ faults.edge → ArePaired fs
all_paired fs top faults whole past k d within =
    subst (IsPaired (directed_edges fs)) (get_or_default (directed_edges fs) k (0, 0) d within)
    (whole.found.edge.paired k (omega (arith, past, within)) (source_below top k fs whole.below within))

no_fan_above : (fs : List Triple) (top u : ℕ) (faults : Faults) → AreWhole fs top faults → ArePaired fs → top ≤ u → HasFan fs u → ⊥
no_fan_above fs top u faults whole paired high fan =
    let round = fan_goes_round fs u (after (arcs fs u)) whole.triangles paired (linked fs u whole.triangles paired) fan in
    let none = sym (pairs_from u 0 fs) ∙ ap pairs (no_arcs_above top u fs whole.below high) in
    omega (arith, round.long, ap length none)

pub finds_vertex : (fs : List Triple) (top count : ℕ) (faults : Faults) → AreWhole fs top faults → length (directed_edges fs) ≤ faults.edge → faults.vertex < count
    → Verdict count fs (Vertex faults.vertex)
finds_vertex fs top count faults whole past less = (whole.triangles, paired, record { within = less; fails = fails (cases_lt faults.vertex top); below = λ j low. lowest.fans j (top_above j low lowest.most) low })
  where
    paired : ArePaired fs
    paired = all_paired fs top faults whole past

    lowest : IsLowestBelow fs top top faults.vertex
    lowest = whole.found.vertex paired

    fails : (faults.vertex < top) ⊎ (top ≤ faults.vertex) → HasFan fs faults.vertex → ⊥
    fails (inl low) = lowest.fails low
    fails (inr high) = no_fan_above fs top faults.vertex faults whole paired high

    top_above : (j : ℕ) → j < faults.vertex → (faults.vertex ≡ top) ⊎ (faults.vertex < top) → j < top
    top_above j low (inl e) = omega (arith, low, e)
    top_above j low (inr under) = omega (arith, low, under)

pub finds_none : (fs : List Triple) (top count : ℕ) (faults : Faults) → AreWhole fs top faults → length (directed_edges fs) ≤ faults.edge → count ≤ faults.vertex
    → Verdict count fs Closed
finds_none fs top count faults whole past high = (whole.triangles, paired, λ u less. lowest.fans u (top_above u less lowest.most) (omega (arith, less, high)))
  where
    paired : ArePaired fs
    paired = all_paired fs top faults whole past

    lowest : IsLowestBelow fs top top faults.vertex
    lowest = whole.found.vertex paired

    top_above : (u : ℕ) → u < count → (faults.vertex ≡ top) ⊎ (faults.vertex < top) → u < top
    top_above u less (inl e) = omega (arith, less, high, e)
    top_above u less (inr under) = omega (arith, less, high, under)
