-- Which columns have their top samples in a box, and in its halves.
use Rattle.std.proofs.Common.{◌≡◌, ℕ, ◌+◌, ◌-◌, ◌*◌, ◌/◌, ◌%◌, ◌<◌, ◌≤◌, Bool, true, false, cond, List, [], ◌∷◌, get_or, refl, sym, ap, ◌∙◌, arith}
use Rattle.std.specs.Prelude.{nat_le, nat_lt, ◌==◌, ◌||◌}
use Rattle.std.specs.List.{filter, list_any}
use Rattle.std.proofs.lemmas.Bool.{and_parts, eq-eqb, le-leb, leb-true, lt-ltb, ltb-true}
use Rattle.std.proofs.lemmas.List.Elements.{All-weaker}
use Rattle.std.proofs.lemmas.List.Folds.{list_any_at, list_any_none}
use Rattle.std.proofs.lemmas.Nat.{div-add-mod'}
use Rattle.live_clauses.specs.declared.step.Step.{Step}
use Rattle.view_places.specs.Boxes.{Indices, IsBox, halves_of}
use Rattle.view_places.specs.Window.{Window}
use Rattle.box_chains.specs.Chains.{half_with, visit}
use Rattle.box_chains.specs.Laws.{Lawful}
use Rattle.box_chains.specs.Parts.{IsPart}
use Rattle.box_chains.specs.Sums.{LiesIn, Sample}
use Rattle.box_chains.specs.Tested.{has_some}
use Rattle.box_chains.specs.Visits.{IsVisit}
use Rattle.height_map.specs.Bound.{layered}
use Rattle.height_map.specs.Columns.{covers}
use Rattle.normal_shade.specs.Laws.{SlopesAreKept}
use Rattle.normal_shade.specs.Lit.{pruned}
use Rattle.normal_shade.specs.Marks.{has_top_at, is_marked, is_within, shade_at, some_top_at}
use Rattle.normal_shade.specs.Shades.{lit}
use Rattle.normal_shade.proofs.Lit.{Becomes, lit-numbers, lit-places}
use Rattle.normal_shade.proofs.Sums.{some-of}
use Rattle.normal_shade.proofs.Visits.{slopes-pruned}

-- the top sample of the column at a place
abbrev pub top_sample : ℕ → List ℕ → ℕ → Sample
top_sample w tops p = record { i = p % w; j = p / w; k = get_or tops p 0 - 1 }

-- the column at a place has a top, and its top sample lies in a box
pub record IsHeld (w : ℕ) (tops : List ℕ) (b : Indices) (p : ℕ) : Type 0 where
  pub some : 0 < get_or tops p 0
  pub lies : LiesIn b (top_sample w tops p)

pub held-from : (w : ℕ) (tops : List ℕ) (b : Indices) (p : ℕ) → has_top_at w tops b p ≡ true → IsHeld w tops b p
held-from w tops b p e =
    let parts = and_parts (covers w b p) (is_within b (get_or tops p 0)) e in
    let x0 = and_parts (nat_le b.x0 (p % w)) _ parts.0 in
    let x1 = and_parts (nat_lt (p % w) b.x1) _ x0.1 in
    let y = and_parts (nat_le b.y0 (p / w)) (nat_lt (p / w) b.y1) x1.1 in
    let z = and_parts (nat_lt b.z0 (get_or tops p 0)) (nat_le (get_or tops p 0) b.z1) parts.1 in
    let low = ltb-true b.z0 (get_or tops p 0) z.0 in
    let high = leb-true (get_or tops p 0) b.z1 z.1 in
    record {
      some = omega (arith, low);
      lies = record {
        x = (leb-true b.x0 (p % w) x0.0, ltb-true (p % w) b.x1 x1.0);
        y = (leb-true b.y0 (p / w) y.0, ltb-true (p / w) b.y1 y.1);
        z = (omega (arith, low), omega (arith, low, high));
      };
    }

pub held-to : (w : ℕ) (tops : List ℕ) (b : Indices) (p : ℕ) → IsHeld w tops b p → has_top_at w tops b p ≡ true
held-to w tops b p held =
    let lies = held.lies in
    let low : b.z0 < get_or tops p 0 = omega (arith, lies.z.0, held.some) in
    let high : get_or tops p 0 ≤ b.z1 = omega (arith, lies.z.1, held.some) in
    rw (
      le-leb b.x0 (p % w) lies.x.0,
      lt-ltb (p % w) b.x1 lies.x.1,
      le-leb b.y0 (p / w) lies.y.0,
      lt-ltb (p / w) b.y1 lies.y.1,
      lt-ltb b.z0 (get_or tops p 0) low,
      le-leb (get_or tops p 0) b.z1 high,
    ) refl

-- that sample passes the test
held-marked : (w : ℕ) (tops : List ℕ) (b : Indices) (p : ℕ) → IsHeld w tops b p → is_marked w tops (top_sample w tops p) ≡ true
held-marked w tops b p held =
    eq-eqb (get_or tops (p / w * w + p % w) 0) (get_or tops p 0 - 1 + 1)
    (ap (λ q. get_or tops q 0) (div-add-mod' p w) ∙ omega (arith, held.some))

-- so it tells of the box
held-some : (laws : Lawful) (w : ℕ) (tops : List ℕ) (b : Indices) (p : ℕ) → has_top_at w tops b p ≡ true → has_some (is_marked w tops) b ≡ true
held-some laws w tops b p e =
    let held = held-from w tops b p e in
    some-of laws (is_marked w tops) b (top_sample w tops p) held.lies (held-marked w tops b p held)

-- where those that pass one test are among those that pass another, dropping the others leaves what is asked
any-kept : {X : Type 0} (f test : X → Bool) (xs : List X) → ((x : X) → f x ≡ true → test x ≡ true) → list_any f (filter test xs) ≡ list_any f xs
any-kept f test [] among = refl
any-kept f test (x ∷ xs) among = by (test x) (f x) refl (among x) (any-kept f test xs among)
  where
    by : (t u : Bool) → f x ≡ u → (u ≡ true → t ≡ true) → list_any f (filter test xs) ≡ list_any f xs → list_any f (cond t (x ∷ filter test xs) (filter test xs)) ≡ (u || list_any f xs)
    by true u e h rest = ap (λ s. s || list_any f (filter test xs)) e ∙ ap (λ s. u || s) rest
    by false true e h rest = absurd (omega (arith, ap (λ t. cond {A = ℕ} t 1 0) (h refl)))
    by false false e h rest = rest

-- the boxes in which some column has its top sample have those of all
pub boxes-held : (laws : Lawful) (w : ℕ) (tops : List ℕ) (boxes : List Indices) (p : ℕ) → some_top_at w tops (filter (has_some (is_marked w tops)) boxes) p ≡ some_top_at w tops boxes p
boxes-held laws w tops boxes p = any-kept (λ h. has_top_at w tops h p) (has_some (is_marked w tops)) boxes (λ h e. held-some laws w tops h p e)

-- the halves in which some column has its top sample have those of the box
pub halves-held : (laws : Lawful) (w : ℕ) (tops : List ℕ) (b : Indices) (p : ℕ) → IsBox b
    → some_top_at w tops (filter (has_some (is_marked w tops)) (halves_of 8 b)) p ≡ has_top_at w tops b p
halves-held laws w tops b p is =
    any-kept at (has_some (is_marked w tops)) (halves_of 8 b) (λ h e. held-some laws w tops h p e) ∙ by (at b) refl
  where
    at : Indices → Bool
    at h = has_top_at w tops h p

    by : (t : Bool) → at b ≡ t → list_any at (halves_of 8 b) ≡ t
    by true e =
        let held = held-from w tops b p e in
        let s = top_sample w tops p in
        let among = laws.parts.among 8 b s held.lies in
        let found = among.0 in
        let half = half_with 8 b s in
        list_any_at at (halves_of 8 b) found.0 half found.1
        (ap at found.2 ∙ held-to w tops half p (record { some = held.some; lies = among.1 }))
    by false e =
        list_any_none at (halves_of 8 b)
        (All-weaker (IsPart 8 b) (λ h. at h ≡ false) (λ h part. other h part (at h) refl) (halves_of 8 b) (laws.parts.all 8 b (omega arith) is))
      where
        other : (h : Indices) → IsPart 8 b h → (t : Bool) → at h ≡ t → t ≡ false
        other h part false is = refl
        other h part true is =
            let held = held-from w tops h p is in
            let there = held-to w tops b p (record { some = held.some; lies = laws.parts.lies 8 b h (top_sample w tops p) part held.lies }) in
            absurd (omega (arith, ap (λ t. cond {A = ℕ} t 1 0) (sym there ∙ e)))

-- the light on them is the same by the list that the box prunes
pub shade-pruned : (laws : Lawful) (kept : SlopesAreKept) (view : Window) (list : List Step) (b : Indices) (tops : List ℕ) (p : ℕ) → IsVisit (layered view) (visit b list)
    → has_top_at view.w tops b p ≡ true → shade_at view (pruned (layered view) (visit b list)) tops p ≡ shade_at view list tops p
shade-pruned laws kept view list b tops p is e =
    let held = held-from view.w tops b p e in
    ap (λ m. cond (get_or tops p 0 == 0) 0 (lit m)) (slopes-pruned laws kept view (visit b list) (top_sample view.w tops p) is held.lies)

pub lit-pruned : (laws : Lawful) (kept : SlopesAreKept) (view : Window) (list live : List Step) (b : Indices) (tops xs ys : List ℕ) → IsVisit (layered view) (visit b list) → live ≡ pruned (layered view) (visit b list)
    → Becomes (has_top_at view.w tops b) (shade_at view live tops) xs ys → Becomes (has_top_at view.w tops b) (shade_at view list tops) xs ys
lit-pruned laws kept view list live b tops xs ys is same changed =
    lit-numbers (has_top_at view.w tops b) (shade_at view live tops) (shade_at view list tops) xs ys
    (λ p e. ap (λ l. shade_at view l tops p) same ∙ shade-pruned laws kept view list b tops p is e) changed

-- what the halves that have tops light is what the box does
pub lit-halves : (laws : Lawful) (w : ℕ) (tops : List ℕ) (b : Indices) (boxes : List Indices) (g : ℕ → ℕ) (xs ys : List ℕ) → IsBox b → boxes ≡ filter (has_some (is_marked w tops)) (halves_of 8 b)
    → Becomes (some_top_at w tops boxes) g xs ys → Becomes (has_top_at w tops b) g xs ys
lit-halves laws w tops b boxes g xs ys is are changed =
    lit-places (some_top_at w tops boxes) (has_top_at w tops b) g xs ys (λ p. ap (λ bs. some_top_at w tops bs p) are ∙ halves-held laws w tops b p is) changed
