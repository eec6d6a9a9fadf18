-- The longest of some boxes, and a desk behind whose tapes others were put.
use Rattle.std.proofs.Common.{◌≡◌, ℕ, zero, suc, ◌<◌, ◌≤◌, Bool, true, false, cond, List, [], ◌∷◌, drop, length, get_or, map, take, sym, ap, subst, ◌∙◌, arith}
use Rattle.std.specs.List.{All, filter}
use Rattle.std.proofs.lemmas.List.{get_or-take}
use Rattle.std.proofs.lemmas.List.Elements.{All-head, All-tail, All-weaker}
use Rattle.std.proofs.lemmas.List.Sums.{count_by-le-length, length-filter}
use Rattle.box_chains.specs.Chains.{is_long, sides, visit}
use Rattle.box_chains.specs.Desks.{HasMore, Tracing, list_of}
use Rattle.box_chains.proofs.HalfLaws.{part-is_box, part-is_shorter}
use Rattle.box_chains.specs.Parts.{IsPart}
use Rattle.box_chains.specs.Sums.{maximum}
use Rattle.box_chains.specs.Visits.{IsVisit}
use Rattle.live_clauses.specs.Steps.{IsTape}
use Rattle.view_places.specs.Boxes.{Indices, IsBox}
use Rattle.box_descent.specs.Looked.{IsPlaced, MayVisit, looked}
use Rattle.box_descent.specs.declared.plan.Plan.{Plan}

abbrev pub longest : List Indices → ℕ
longest boxes = maximum (map sides boxes)

pub longest-at : (boxes : List Indices) (i : ℕ) (b : Indices) → i < length boxes → b ≡ get_or boxes i b → sides b ≤ longest boxes
longest-at [] i b within read = absurd (omega (arith, within))
longest-at (c ∷ cs) zero b within read = omega (arith, ap sides read)
longest-at (c ∷ cs) (suc i) b within read = omega (arith, longest-at cs i b (omega (arith, within)) read)

pub longest-kept : (test : Indices → Bool) (boxes : List Indices) → longest (filter test boxes) ≤ longest boxes
longest-kept test [] = omega arith
longest-kept test (c ∷ cs) = by (test c) (longest-kept test cs)
  where
    by : (t : Bool) → longest (filter test cs) ≤ longest cs → longest (cond t (c ∷ filter test cs) (filter test cs)) ≤ longest (c ∷ cs)
    by true rest = omega (arith, rest)
    by false rest = omega (arith, rest)

pub longest-take : (n : ℕ) (boxes : List Indices) → longest (take n boxes) ≤ longest boxes
longest-take zero boxes = omega arith
longest-take (suc n) [] = omega arith
longest-take (suc n) (c ∷ cs) = omega (arith, longest-take n cs)

pub longest-drop : (n : ℕ) (boxes : List Indices) → longest (drop n boxes) ≤ longest boxes
longest-drop zero boxes = omega arith
longest-drop (suc n) [] = omega arith
longest-drop (suc n) (c ∷ cs) = omega (arith, longest-drop n cs)

longest-below : (n : ℕ) (boxes : List Indices) → 0 < n → All (λ b. sides b < n) boxes → longest boxes < n
longest-below n [] some are = some
longest-below n (c ∷ cs) some are = omega (arith, All-head (λ b. sides b < n) c cs are, longest-below n cs some (All-tail (λ b. sides b < n) c cs are))

-- parts of a box that is split are shorter
pub parts-shorter : (leaf : ℕ) (b : Indices) (hs : List Indices) → IsBox b → is_long leaf b ≡ true → All (IsPart leaf b) hs → longest hs < sides b
parts-shorter leaf b hs is long parts =
    longest-below (sides b) hs (omega (arith, is.x)) (All-weaker (IsPart leaf b) (λ h. sides h < sides b) (λ h part. part-is_shorter leaf b h long part) hs parts)

pub few-kept : {X : Type 0} (test : X → Bool) (xs : List X) → length (filter test xs) ≤ length xs
few-kept test xs = omega (arith, length-filter test xs, count_by-le-length test xs)

pub few-taken : {X : Type 0} (n : ℕ) (xs : List X) → length (take n xs) ≤ length xs
few-taken zero xs = omega arith
few-taken (suc n) [] = omega arith
few-taken (suc n) (x ∷ xs) = omega (arith, few-taken n xs)

pub few-dropped : {X : Type 0} (n : ℕ) (xs : List X) → length (drop n xs) ≤ length xs
few-dropped zero xs = omega arith
few-dropped (suc n) [] = omega arith
few-dropped (suc n) (x ∷ xs) = omega (arith, few-dropped n xs)

-- ---- a desk behind whose lists others were put

-- its lists stay
pub list-kept : (before after : Tracing) (at : ℕ) → HasMore before after → at < length before.lists → list_of after at ≡ list_of before at
list-kept before after at more among =
    sym (get_or-take (length before.lists) after.lists at [] among) ∙ ap (λ ls. get_or ls at []) more.lists

-- and there are no fewer
pub lists-more : (before after : Tracing) → HasMore before after → length before.lists ≤ length after.lists
lists-more before after more = omega (arith, few-taken (length before.lists) after.lists, ap length more.lists)

pub looked-more : (plan : Plan) (before after : Tracing) → HasMore before after → looked plan after ≡ looked plan before
looked-more plan before after more =
    ap (λ v. record { view = v; lattice = after.lattice; leaf = plan.leaf }) more.view ∙ ap (λ l. record { view = before.view; lattice = l; leaf = plan.leaf }) more.lattice

pub may-more : (plan : Plan) (before after : Tracing) (b : Indices) (at : ℕ) → HasMore before after → MayVisit plan before b at → MayVisit plan after b at
may-more plan before after b at more may =
    let kept = list-kept before after at more may.among in
    record {
      visit_is = subst (λ d. IsVisit d (visit b (list_of after at))) (sym (looked-more plan before after more)) (subst (λ l. IsVisit (looked plan before) (visit b l)) (sym kept) may.visit_is);
      among = omega (arith, may.among, lists-more before after more);
      room = omega (arith, ap length kept, may.room, more.room);
    }

pub part-placed : (plan : Plan) (desk : Tracing) (leaf : ℕ) (b part : Indices) (at : ℕ) → IsPart leaf b part → MayVisit plan desk b at → IsPlaced desk part
part-placed plan desk leaf b part at is may = record {
  window = may.visit_is.window;
  box = part-is_box leaf b part is;
  within = record { x = omega (arith, is.x.below, may.visit_is.within.x); y = omega (arith, is.y.below, may.visit_is.within.y); z = omega (arith, is.z.below, may.visit_is.within.z) };
}

pub placed-may : (plan : Plan) (desk : Tracing) (b : Indices) (at : ℕ) → IsPlaced desk b → IsTape (list_of desk at) → at < length desk.lists → length (list_of desk at) ≤ desk.room → MayVisit plan desk b at
placed-may plan desk b at placed tape among room = record {
  visit_is = record { window = placed.window; box = placed.box; within = placed.within; tape = tape };
  among = among;
  room = room;
}
