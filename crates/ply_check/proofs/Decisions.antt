-- There always is a verdict: each thing that is looked for is there, or it is not.
use Rattle.std.proofs.Common.{◌≡◌, ℕ, zero, suc, ◌<◌, ◌≤◌, List, [], ◌∷◌, length, get_or, refl, sym, ap, arith, inl, inr, subst, ◌∙◌}
use Rattle.std.specs.Prelude.{◌⊎◌, All, AllPairs, Contains, map}
use Rattle.std.specs.List.{HoldsAt}
use Rattle.std.proofs.lemmas.Bool.{cases_eq, cases_lt, eq-eqb, ne_eqb}
use Rattle.std.proofs.lemmas.List.{get_or_default, length-map}
use Rattle.std.proofs.lemmas.List.Elements.{All-cons, All-contains, All-nil}
use Rattle.kuhn_cells.specs.Faces.{Face as Triple}
use Rattle.mesh_laws.specs.Closed.{IsTriangle, directed_edges, occurrences}
use Rattle.mesh_laws.specs.Manifold.{HasFan, arcs}
use Rattle.mesh_laws.proofs.Lists.{Differ}
use Rattle.ply_check.specs.declared.finding.Finding.{Finding}
use Rattle.ply_check.specs.declared.finding.Finding.TheVariants.{Closed, Edge, Face, Vertex}
use Rattle.ply_check.specs.Findings.{after}
use Rattle.ply_check.specs.Lowest.{IsLowestFault}
use Rattle.ply_check.specs.Verdicts.{ArePaired, IsPaired, Verdict}
use Rattle.ply_check.proofs.EdgeLaws.{arcs_are_one_to_one, arcs_by_next, firsts_differ}
use Rattle.ply_check.specs.Walks.{GoesRound, IsNotBack, LeadsOn, first_of, stepped}
use Rattle.ply_check.proofs.FanLaws.{IsCycle, cycle_is_as_long, cycle_keeps_away, walk_is_apart, walk_is_exact}
use Rattle.ply_check.proofs.Lists.{all_in}
use Rattle.ply_check.proofs.Walks.{length-walk, walk}
use Rattle.fixed_ops.proofs.Lists.{first_before, in_head, in_map, rest_in_order}

abbrev pub OrNot : Type 0 → Type 0
OrNot P = P ⊎ (P → ⊥)

-- ---- the way along the arcs at a vertex

leads_on : (es : List (ℕ × ℕ)) → AllPairs Differ (map (λ (e : ℕ × ℕ). e.0) es) → All (λ (e : ℕ × ℕ). after es e.0 ≡ e.1) es
leads_on [] apart = All-nil (λ (e : ℕ × ℕ). 0 ≡ e.1)
leads_on (e ∷ es) apart =
    All-cons (λ (d : ℕ × ℕ). after (e ∷ es) d.0 ≡ d.1) e es (rw (eq-eqb e.0 e.0 refl) refl)
    (all_in (λ (d : ℕ × ℕ). after (e ∷ es) d.0 ≡ d.1) es (λ d at.
    let other : e.0 ≡ d.0 → ⊥ =
    All-contains (Differ e.0) (map (λ (a : ℕ × ℕ). a.0) es) d.0 (first_before Differ e.0 (map (λ (a : ℕ × ℕ). a.0) es) apart) (in_map (λ (a : ℕ × ℕ). a.0) es d at) in
    rw (ne_eqb e.0 d.0 other)
    (All-contains (λ (a : ℕ × ℕ). after es a.0 ≡ a.1) es d (leads_on es (rest_in_order Differ e.0 (map (λ (a : ℕ × ℕ). a.0) es) apart)) at)))

starts_there : (es : List (ℕ × ℕ)) → 0 < length es → Contains (map (λ (e : ℕ × ℕ). e.0) es) (first_of es)
starts_there [] some = absurd (omega (arith, some))
starts_there (e ∷ es) some = in_head (map (λ (d : ℕ × ℕ). d.0) es) e.0

pub linked : (fs : List Triple) (u : ℕ) → All IsTriangle fs → ArePaired fs → LeadsOn (after (arcs fs u)) (arcs fs u)
linked fs u t paired = leads_on (arcs fs u) (firsts_differ fs u t paired)

-- the way goes round exactly where the vertex has a fan
pub round_is_fan : (fs : List Triple) (u : ℕ) (next : ℕ → ℕ) → All IsTriangle fs → ArePaired fs → LeadsOn next (arcs fs u) → GoesRound next (arcs fs u) → HasFan fs u
round_is_fan fs u next t paired on round =
    let es = arcs fs u in
    let ys : List ℕ = map (λ (e : ℕ × ℕ). e.0) es in
    let many : length ys ≡ length es = length-map es (λ (e : ℕ × ℕ). e.0) in
    let one = arcs_are_one_to_one fs u next t paired on in
    let start = starts_there es (omega (arith, round.long)) in
    let away = λ (i : ℕ) (some : 0 < i) (less : i < length ys). round.away i some (omega (arith, less, many)) in
    record {
      cycle = walk next (first_of es) (length ys);
      long = omega (arith, length-walk next (first_of es) (length ys), many, round.long);
      differ = walk_is_apart next ys one (first_of es) start away;
      exact = λ v w.
          ap (λ (ds : List (ℕ × ℕ)). occurrences ds v w) (sym (arcs_by_next next es on))
          ∙ walk_is_exact next ys one (first_of es) start away v w;
    }

pub fan_goes_round : (fs : List Triple) (u : ℕ) (next : ℕ → ℕ) → All IsTriangle fs → ArePaired fs → LeadsOn next (arcs fs u) → HasFan fs u → GoesRound next (arcs fs u)
fan_goes_round fs u next t paired on fan = record { long = long; away = away }
  where
    is : IsCycle next (map (λ (e : ℕ × ℕ). e.0) (arcs fs u)) fan.cycle
    is =
        record {
          differ = fan.differ;
          exact = λ v w. ap (λ (ds : List (ℕ × ℕ)). occurrences ds v w) (arcs_by_next next (arcs fs u) on) ∙ fan.exact v w;
        }

    many : length (map (λ (e : ℕ × ℕ). e.0) (arcs fs u)) ≡ length (arcs fs u)
    many = length-map (arcs fs u) (λ (e : ℕ × ℕ). e.0)

    long : 3 ≤ length (arcs fs u)
    long = omega (arith, fan.long, many, cycle_is_as_long next (map (λ (e : ℕ × ℕ). e.0) (arcs fs u)) fan.cycle (firsts_differ fs u t paired) is)

    away : IsNotBack next (length (arcs fs u)) (first_of (arcs fs u))
    away i some less =
        cycle_keeps_away next (map (λ (e : ℕ × ℕ). e.0) (arcs fs u)) fan.cycle (firsts_differ fs u t paired) is (first_of (arcs fs u))
        (starts_there (arcs fs u) (omega (arith, long))) i some (omega (arith, less, many))

-- ---- a fan

away_or_not : (next : ℕ → ℕ) (n x : ℕ) → OrNot (IsNotBack next n x)
away_or_not next zero x = inl (λ i some less. absurd (omega (arith, less)))
away_or_not next (suc n) x =
    elim (away_or_not next n x) [
      | inl away ↦ by away (cases_eq (stepped next n x) x) (cases_lt 0 n)
      | inr back ↦ inr (λ away. back (λ i some less. away i some (omega (arith, less))))
    ]
  where
    more : IsNotBack next n x → (0 < n → stepped next n x ≡ x → ⊥) → IsNotBack next (suc n) x
    more away here i some less same = at (cases_lt i n)
      where
        at : (i < n) ⊎ (n ≤ i) → ⊥
        at (inl before) = away i some before same
        at (inr high) =
            let e : i ≡ n = omega (arith, high, less) in
            here (omega (arith, e, some)) (ap (λ (k : ℕ). stepped next k x) (sym e) ∙ same)

    by : IsNotBack next n x → OrNot (stepped next n x ≡ x) → (0 < n) ⊎ (n ≤ 0) → OrNot (IsNotBack next (suc n) x)
    by away (inl same) (inl some) = inr (λ far. far n some (omega arith) same)
    by away (inl same) (inr none) = inl (more away (λ some e. omega (arith, some, none)))
    by away (inr differ) least = inl (more away (λ some e. differ e))

round_or_not : (es : List (ℕ × ℕ)) → OrNot (GoesRound (after es) es)
round_or_not es = by (cases_lt (length es) 3) (away_or_not (after es) (length es) (first_of es))
  where
    by : (length es < 3) ⊎ (3 ≤ length es) → OrNot (IsNotBack (after es) (length es) (first_of es)) → OrNot (GoesRound (after es) es)
    by (inl few) away = inr (λ round. omega (arith, few, round.long))
    by (inr long) (inl away) = inl (record { long = long; away = away })
    by (inr long) (inr back) = inr (λ round. back round.away)

fan_or_not : (fs : List Triple) (u : ℕ) → All IsTriangle fs → ArePaired fs → OrNot (HasFan fs u)
fan_or_not fs u t paired = by (round_or_not (arcs fs u))
  where
    by : OrNot (GoesRound (after (arcs fs u)) (arcs fs u)) → OrNot (HasFan fs u)
    by (inl round) = inl (round_is_fan fs u (after (arcs fs u)) t paired (linked fs u t paired) round)
    by (inr none) = inr (λ fan. none (fan_goes_round fs u (after (arcs fs u)) t paired (linked fs u t paired) fan))

-- ---- the lowest fault

lowest_or_all : (P : ℕ → Type 0) (n : ℕ) → ((k : ℕ) → OrNot (P k)) → ((k : ℕ) × IsLowestFault P n k) ⊎ ((j : ℕ) → j < n → P j)
lowest_or_all P zero each = inr (λ j less. absurd (omega (arith, less)))
lowest_or_all P (suc n) each =
    elim (lowest_or_all P n each) [
      | inl r ↦ inl (r.0, record { within = omega (arith, r.1.within); fails = r.1.fails; below = r.1.below })
      | inr all ↦ by all (each n)
    ]
  where
    more : ((j : ℕ) → j < n → P j) → P n → (j : ℕ) → j < suc n → P j
    more all here j less = at (cases_lt j n)
      where
        at : (j < n) ⊎ (n ≤ j) → P j
        at (inl low) = all j low
        at (inr high) = let e : n ≡ j = omega (arith, less, high) in subst P e here

    by : ((j : ℕ) → j < n → P j) → OrNot (P n) → ((k : ℕ) × IsLowestFault P (suc n) k) ⊎ ((j : ℕ) → j < suc n → P j)
    by all (inl here) = inr (more all here)
    by all (inr fails) = inl (n, record { within = omega arith; fails = fails; below = all })

-- at a place of a list, which past its end holds what stands for none: all that is asked there is of its elements
at_or_not : {X : Type 0} (P : X → Type 0) (xs : List X) (d : X) → ((x : X) → OrNot (P x)) → (k : ℕ) → k < length xs → OrNot (HoldsAt P xs k)
at_or_not {X} P xs d each k within = by (each (get_or xs k d))
  where
    by : OrNot (P (get_or xs k d)) → OrNot (HoldsAt P xs k)
    by (inl here) = inl (λ e. subst P (get_or_default xs k d e within) here)
    by (inr fails) = inr (λ h. fails (h d))

lowest_in : {X : Type 0} (P : X → Type 0) (xs : List X) (d : X) → ((x : X) → OrNot (P x)) → ((k : ℕ) × IsLowestFault (HoldsAt P xs) (length xs) k) ⊎ All P xs
lowest_in {X} P xs d each = by (lowest_or_all (λ k. k < length xs → HoldsAt P xs k) (length xs) place)
  where
    place : (k : ℕ) → OrNot (k < length xs → HoldsAt P xs k)
    place k = at (cases_lt k (length xs))
      where
        at : (k < length xs) ⊎ (length xs ≤ k) → OrNot (k < length xs → HoldsAt P xs k)
        at (inr past) = inl (λ within. absurd (omega (arith, within, past)))
        at (inl within) = now (at_or_not P xs d each k within)
          where
            now : OrNot (HoldsAt P xs k) → OrNot (k < length xs → HoldsAt P xs k)
            now (inl here) = inl (λ w. here)
            now (inr fails) = inr (λ h. fails (h within))

    by : ((k : ℕ) × IsLowestFault (λ k. k < length xs → HoldsAt P xs k) (length xs) k) ⊎ ((j : ℕ) → j < length xs → j < length xs → HoldsAt P xs j)
        → ((k : ℕ) × IsLowestFault (HoldsAt P xs) (length xs) k) ⊎ All P xs
    by (inl r) =
        inl (
          r.0,
          record {
            within = r.1.within;
            fails = λ h. r.1.fails (λ w. h);
            below = λ j less. r.1.below j less (omega (arith, less, r.1.within));
          },
        )
    by (inr all) = inr (λ k d within. all k within within d)

triangle_or_not : (f : Triple) → OrNot (IsTriangle f)
triangle_or_not f = by (cases_eq f.a f.b) (cases_eq f.b f.c) (cases_eq f.c f.a)
  where
    by : OrNot (f.a ≡ f.b) → OrNot (f.b ≡ f.c) → OrNot (f.c ≡ f.a) → OrNot (IsTriangle f)
    by (inl e) q r = inr (λ t. t.ab e)
    by (inr p) (inl e) r = inr (λ t. t.bc e)
    by (inr p) (inr q) (inl e) = inr (λ t. t.ca e)
    by (inr p) (inr q) (inr r) = inl (record { ab = p; bc = q; ca = r })

paired_or_not : (es : List (ℕ × ℕ)) (e : ℕ × ℕ) → OrNot (IsPaired es e)
paired_or_not es e = by (cases_eq (occurrences es e.0 e.1) 1) (cases_eq (occurrences es e.1 e.0) 1)
  where
    by : OrNot (occurrences es e.0 e.1 ≡ 1) → OrNot (occurrences es e.1 e.0 ≡ 1) → OrNot (IsPaired es e)
    by (inl p) (inl q) = inl (record { once = p; back = q })
    by (inr p) q = inr (λ w. p w.once)
    by (inl p) (inr q) = inr (λ w. q w.back)

-- ---- a verdict

pub some_verdict : (count : ℕ) (fs : List Triple) → (f : Finding) × Verdict count fs f
some_verdict count fs = triangles (lowest_in IsTriangle fs (record { a = 0; b = 0; c = 0 }) triangle_or_not)
  where
    fans : All IsTriangle fs → ArePaired fs → ((k : ℕ) × IsLowestFault (HasFan fs) count k) ⊎ ((j : ℕ) → j < count → HasFan fs j) → (f : Finding) × Verdict count fs f
    fans t p (inl r) = (Vertex r.0, (t, p, r.1))
    fans t p (inr all) = (Closed, (t, p, all))

    pairs : All IsTriangle fs
        → ((k : ℕ) × IsLowestFault (HoldsAt (IsPaired (directed_edges fs)) (directed_edges fs)) (length (directed_edges fs)) k) ⊎ ArePaired fs
        → (f : Finding) × Verdict count fs f
    pairs t (inl r) =
        let e = get_or (directed_edges fs) r.0 (0, 0) in
        (Edge e.0 e.1, (t, record { place = r.0; lowest = r.1; there = λ d. get_or_default (directed_edges fs) r.0 d (0, 0) r.1.within }))
    pairs t (inr p) = fans t p (lowest_or_all (HasFan fs) count (λ u. fan_or_not fs u t p))

    triangles : ((k : ℕ) × IsLowestFault (HoldsAt IsTriangle fs) (length fs) k) ⊎ All IsTriangle fs → (f : Finding) × Verdict count fs f
    triangles (inl r) = (Face r.0, r.1)
    triangles (inr t) = pairs t (lowest_in (IsPaired (directed_edges fs)) (directed_edges fs) (0, 0) (paired_or_not (directed_edges fs)))
