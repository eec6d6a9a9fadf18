-- Tables of how many edges lead from a vertex, and back.
use Rattle.std.proofs.Common.{◌≡◌, ℕ, ◌+◌, ◌-◌, ◌<◌, ◌≤◌, min, Bool, true, false, List, [], ◌∷◌, ◌++◌, length, get_or, take, drop, set, refl, sym, ap, arith, inl, inr, subst, cond, ◌∙◌}
use Rattle.std.specs.Prelude.{◌==◌, ◌&&◌, ◌⊎◌, count_by, Contains}
use Rattle.std.proofs.lemmas.Bool.{and_from, and_parts, cases_eq, cases_lt, eq-eqb, eqb-true, false≢true, ne_eqb}
use Rattle.std.proofs.lemmas.List.{drop_more, get_or-set_other, get_or-set_same, length-map, length-set, length-take, map-append, take_more}
use Rattle.std.proofs.lemmas.List.Elements.{All-append, All-cons, All-contains, All-nil, Contains-append_left, Contains-push}
use Rattle.std.proofs.lemmas.List.Sums.{count_by-le-length, sum_by-append}
use Rattle.ply_check.specs.declared.arc.Arc.{Arc}
use Rattle.ply_check.specs.Arcs.{IsWithin, pairs}
use Rattle.ply_check.specs.Degrees.{AreDegrees, IsLeastUnpaired, IsOnce, IsUnpairedAt}
use Rattle.ply_check.proofs.Lists.{all_in, count-cons}

-- ---- counts

-- what stands for an arc past the end of a list
abbrev pub none : Arc
none = record { next = 0; last = 0; place = 0 }

pub count_more : (p : ℕ × ℕ → Bool) (arcs : List Arc) (i : ℕ) (d : Arc) → i < length arcs
    → count_by p (pairs (take (i + 1) arcs)) ≡ count_by p (pairs (take i arcs)) + cond (p ((get_or arcs i d).next, (get_or arcs i d).last)) 1 0
count_more p arcs i d within =
    let a : Arc = get_or arcs i d in
    let e : pairs (take (i + 1) arcs) ≡ pairs (take i arcs) ++ (a.next, a.last) ∷ [] =
    ap pairs (take_more arcs i d within) ∙ map-append (λ (x : Arc). (x.next, x.last)) (take i arcs) (a ∷ []) in
    let s = sum_by-append (λ x. cond (p x) 1 0) (pairs (take i arcs)) ((a.next, a.last) ∷ []) in
    omega (arith, ap (count_by p) e, s)

pub count_less : (p : ℕ × ℕ → Bool) (arcs : List Arc) (i : ℕ) (d : Arc) → i < length arcs
    → count_by p (pairs (drop i arcs)) ≡ cond (p ((get_or arcs i d).next, (get_or arcs i d).last)) 1 0 + count_by p (pairs (drop (i + 1) arcs))
count_less p arcs i d within =
    let a : Arc = get_or arcs i d in
    ap (λ (l : List Arc). count_by p (pairs l)) (drop_more arcs i d within) ∙ count-cons p (a.next, a.last) (pairs (drop (i + 1) arcs))

pub count_few : (p : ℕ × ℕ → Bool) (arcs : List Arc) (i : ℕ) → count_by p (pairs (take i arcs)) ≤ length arcs
count_few p arcs i =
    omega (arith, count_by-le-length p (pairs (take i arcs)), length-map {B = ℕ × ℕ} (take i arcs) (λ (x : Arc). (x.next, x.last)), length-take i arcs)

-- ---- tables

add_one : (table : List ℕ) (w v : ℕ) → w < length table → get_or (set table w (get_or table w 0 + 1)) v 0 ≡ get_or table v 0 + cond (w == v) 1 0
add_one table w v within = by (cases_eq v w)
  where
    by : (v ≡ w) ⊎ (v ≡ w → ⊥) → get_or (set table w (get_or table w 0 + 1)) v 0 ≡ get_or table v 0 + cond (w == v) 1 0
    by (inl e) =
        let one : get_or (set table w (get_or table w 0 + 1)) v 0 ≡ get_or table w 0 + 1 = ap (λ k. get_or (set table w (get_or table w 0 + 1)) k 0) e ∙ get_or-set_same table w (get_or table w 0 + 1) 0 within in
        omega (arith, one, ap (λ k. get_or table k 0) e, ap (λ b. cond {A = ℕ} b 1 0) (eq-eqb w v (sym e)))
    by (inr other) =
        omega (arith, get_or-set_other table w v (get_or table w 0 + 1) 0 other, ap (λ b. cond {A = ℕ} b 1 0) (ne_eqb w v (λ h. other (sym h))))

take_one : (table : List ℕ) (w v : ℕ) → w < length table → 1 ≤ get_or table w 0
    → get_or (set table w (get_or table w 0 - 1)) v 0 + cond (w == v) 1 0 ≡ get_or table v 0
take_one table w v within some = by (cases_eq v w)
  where
    by : (v ≡ w) ⊎ (v ≡ w → ⊥) → get_or (set table w (get_or table w 0 - 1)) v 0 + cond (w == v) 1 0 ≡ get_or table v 0
    by (inl e) =
        let one : get_or (set table w (get_or table w 0 - 1)) v 0 ≡ get_or table w 0 - 1 = ap (λ k. get_or (set table w (get_or table w 0 - 1)) k 0) e ∙ get_or-set_same table w (get_or table w 0 - 1) 0 within in
        omega (arith, one, some, ap (λ k. get_or table k 0) e, ap (λ b. cond {A = ℕ} b 1 0) (eq-eqb w v (sym e)))
    by (inr other) =
        omega (arith, get_or-set_other table w v (get_or table w 0 - 1) 0 other, ap (λ b. cond {A = ℕ} b 1 0) (ne_eqb w v (λ h. other (sym h))))

pub degrees_more : (top : ℕ) (arcs : List Arc) (i : ℕ) (d : Arc) (to back : List ℕ) → i < length arcs → IsWithin top (get_or arcs i d)
    → AreDegrees top (pairs (take i arcs)) to back
    → AreDegrees top (pairs (take (i + 1) arcs)) (set to (get_or arcs i d).next (get_or to (get_or arcs i d).next 0 + 1))
    (set back (get_or arcs i d).last (get_or back (get_or arcs i d).last 0 + 1))
degrees_more top arcs i d to back within fits are =
    let a : Arc = get_or arcs i d in
    record {
      firsts = length-set to a.next (get_or to a.next 0 + 1) ∙ are.firsts;
      seconds = length-set back a.last (get_or back a.last 0 + 1) ∙ are.seconds;
      leave = λ v. omega (arith, add_one to a.next v (omega (arith, fits.next, are.firsts)), are.leave v, count_more (λ (e : ℕ × ℕ). e.0 == v) arcs i d within);
      arrive = λ v. omega (arith, add_one back a.last v (omega (arith, fits.last, are.seconds)), are.arrive v, count_more (λ (e : ℕ × ℕ). e.1 == v) arcs i d within);
    }

pub some_to : (top : ℕ) (arcs : List Arc) (i : ℕ) (d : Arc) (to back : List ℕ) → i < length arcs → AreDegrees top (pairs (drop i arcs)) to back
    → (1 ≤ get_or to (get_or arcs i d).next 0) × (1 ≤ get_or back (get_or arcs i d).last 0)
some_to top arcs i d to back within are =
    let a : Arc = get_or arcs i d in (
      omega (arith, are.leave a.next, count_less (λ (e : ℕ × ℕ). e.0 == a.next) arcs i d within, ap (λ b. cond {A = ℕ} b 1 0) (eq-eqb a.next a.next refl)),
      omega (arith, are.arrive a.last, count_less (λ (e : ℕ × ℕ). e.1 == a.last) arcs i d within, ap (λ b. cond {A = ℕ} b 1 0) (eq-eqb a.last a.last refl)),
    )

pub degrees_less : (top : ℕ) (arcs : List Arc) (i : ℕ) (d : Arc) (to back : List ℕ) → i < length arcs → IsWithin top (get_or arcs i d)
    → AreDegrees top (pairs (drop i arcs)) to back
    → AreDegrees top (pairs (drop (i + 1) arcs)) (set to (get_or arcs i d).next (get_or to (get_or arcs i d).next 0 - 1))
    (set back (get_or arcs i d).last (get_or back (get_or arcs i d).last 0 - 1))
degrees_less top arcs i d to back within fits are =
    let a : Arc = get_or arcs i d in
    let some = some_to top arcs i d to back within are in
    record {
      firsts = length-set to a.next (get_or to a.next 0 - 1) ∙ are.firsts;
      seconds = length-set back a.last (get_or back a.last 0 - 1) ∙ are.seconds;
      leave = λ v. omega (arith, take_one to a.next v (omega (arith, fits.next, are.firsts)) some.0, are.leave v, count_less (λ (e : ℕ × ℕ). e.0 == v) arcs i d within);
      arrive = λ v. omega (arith, take_one back a.last v (omega (arith, fits.last, are.seconds)) some.1, are.arrive v, count_less (λ (e : ℕ × ℕ). e.1 == v) arcs i d within);
    }

-- ---- the least place

once_is : (to back : List ℕ) (v : ℕ) → (get_or to v 0 == 1 && get_or back v 0 == 1) ≡ true → IsOnce to back v
once_is to back v h = let p = and_parts _ _ h in record { to_one = eqb-true _ _ p.0; back_one = eqb-true _ _ p.1 }

once_not : (to back : List ℕ) (v : ℕ) → (get_or to v 0 == 1 && get_or back v 0 == 1) ≡ false → IsOnce to back v → ⊥
once_not to back v h once = false≢true (sym h ∙ and_from _ _ (eq-eqb _ _ once.to_one) (eq-eqb _ _ once.back_one))

unpaired_later : (to back : List ℕ) (arcs : List Arc) (a : Arc) (place : ℕ) → IsUnpairedAt to back arcs place → IsUnpairedAt to back (arcs ++ a ∷ []) place
unpaired_later to back arcs a place at =
    record { arc = at.arc; among = Contains-append_left arcs (a ∷ []) at.arc at.among; there = at.there; fails = at.fails }

pub least_kept : (to back : List ℕ) (arcs : List Arc) (i : ℕ) (d : Arc) (first least : ℕ) → i < length arcs → IsLeastUnpaired to back (take i arcs) first least
    → (get_or to (get_or arcs i d).next 0 == 1 && get_or back (get_or arcs i d).next 0 == 1) ≡ true → IsLeastUnpaired to back (take (i + 1) arcs) first least
least_kept to back arcs i d first least within is once =
    let a : Arc = get_or arcs i d in
    let P : Arc → Type 0 = λ (x : Arc). IsOnce to back x.next ⊎ (least ≤ x.place) in
    subst (λ (l : List Arc). IsLeastUnpaired to back l first least) (sym (take_more arcs i d within))
    (record {
      most = is.most;
      each = All-append P (take i arcs) (a ∷ []) is.each (All-cons P a [] (inl (once_is to back a.next once)) (All-nil P));
      reached = by is.reached;
    })
  where
    by : (least ≡ first) ⊎ IsUnpairedAt to back (take i arcs) least → (least ≡ first) ⊎ IsUnpairedAt to back (take i arcs ++ get_or arcs i d ∷ []) least
    by (inl e) = inl e
    by (inr at) = inr (unpaired_later to back (take i arcs) (get_or arcs i d) least at)

pub least_taken : (to back : List ℕ) (arcs : List Arc) (i : ℕ) (d : Arc) (first least less : ℕ) → i < length arcs → IsLeastUnpaired to back (take i arcs) first least
    → (get_or to (get_or arcs i d).next 0 == 1 && get_or back (get_or arcs i d).next 0 == 1) ≡ false
    → less ≡ min least (get_or arcs i d).place
    → IsLeastUnpaired to back (take (i + 1) arcs) first less
least_taken to back arcs i d first least less within is other which =
    subst (λ (l : List Arc). IsLeastUnpaired to back l first less) (sym (take_more arcs i d within))
    (record {
      most = omega (arith, which, is.most);
      each = All-append P (take i arcs) (a ∷ []) (all_in P (take i arcs) (λ x at. fewer x (each_of x at))) (All-cons P a [] (inr (omega (arith, which))) (All-nil P));
      reached = reach (cases_lt a.place least);
    })
  where
    a : Arc
    a = get_or arcs i d

    P : Arc → Type 0
    P x = IsOnce to back x.next ⊎ (less ≤ x.place)

    each_of : (x : Arc) → Contains (take i arcs) x → IsOnce to back x.next ⊎ (least ≤ x.place)
    each_of x at = All-contains (λ (y : Arc). IsOnce to back y.next ⊎ (least ≤ y.place)) (take i arcs) x is.each at

    fewer : (x : Arc) → IsOnce to back x.next ⊎ (least ≤ x.place) → P x
    fewer x (inl once) = inl once
    fewer x (inr high) = inr (omega (arith, high, which))

    here : IsUnpairedAt to back (take i arcs ++ a ∷ []) a.place
    here = record { arc = a; among = Contains-push (take i arcs) a; there = refl; fails = once_not to back a.next other }

    before : (least ≡ first) ⊎ IsUnpairedAt to back (take i arcs) least → less ≡ least → (less ≡ first) ⊎ IsUnpairedAt to back (take i arcs ++ a ∷ []) less
    before (inl e) same = inl (same ∙ e)
    before (inr at) same = inr (subst (IsUnpairedAt to back (take i arcs ++ a ∷ [])) (sym same) (unpaired_later to back (take i arcs) a least at))

    reach : (a.place < least) ⊎ (least ≤ a.place) → (less ≡ first) ⊎ IsUnpairedAt to back (take i arcs ++ a ∷ []) less
    reach (inl low) = let e : a.place ≡ less = omega (arith, which, low) in inr (subst (IsUnpairedAt to back (take i arcs ++ a ∷ [])) e here)
    reach (inr high) = before is.reached (omega (arith, which, high))
