-- What tracing a tape over boxes found of them.
use Rattle.std.proofs.Common.{◌≡◌, ℕ, ◌+◌, ◌<◌, ◌≤◌, ◌&&◌, ◌||◌, Bool, true, false, cond, List, [], ◌∷◌, ◌++◌, length, get_or, map, take, refl, sym, ap, subst, ◌∙◌, arith}
use Rattle.std.specs.Prelude.{Option, Some, None}
use Rattle.std.specs.List.{All, filter}
use mir.Val.{bool_byte}
use Rattle.std.proofs.lemmas.List.{get_or-map, get_or_default, length-append, length-map}
use Rattle.std.proofs.lemmas.List.Elements.{All-filter, All-get_or, All-map, All-weaker, filter_more}
use Rattle.box_chains.proofs.Theorems.{laws}
use Rattle.box_chains.specs.Chains.{Descent, Visit, decision, handed_on, is_long, visit}
use Rattle.box_chains.specs.Desks.{HasMore, Tracing, list_of, samples}
use Rattle.box_chains.specs.Outcomes.{AreInRoot, HandsOn, IsHandedOn, all_seen, asked_decisions, asked_outcome, asked_outcomes, decision_of, held_decision, outcome_by, seen, traced_decisions, traced_outcomes}
use Rattle.box_chains.specs.declared.asked_box.AskedBox.{AskedBox}
use Rattle.box_chains.specs.declared.outcome.Outcome.{Outcome}
use Rattle.box_chains.specs.declared.outcome.Outcome.TheVariants.{Inside as AllInside, Outside as AllOutside, Open}
use Rattle.box_chains.specs.declared.traced_box.TracedBox.{TracedBox}
use Rattle.live_clauses.specs.Live.{IsWhole}
use Rattle.live_clauses.specs.Steps.{IsTape}
use Rattle.live_clauses.specs.declared.step.Step.{Step}
use Rattle.view_places.specs.Boxes.{Indices}
use Rattle.view_places.specs.Spans.{IsInRoot}
use Rattle.box_descent.specs.Founds.{GivesTape, IsFound, child_tape, found_of}
use Rattle.box_descent.specs.Looked.{IsPlaced, MayVisit, looked}
use Rattle.box_descent.specs.Plans.{asked, goes_on, goes_on_by, is_held, is_traced, meets_border}
use Rattle.box_descent.specs.declared.found.Found.{Found}
use Rattle.box_descent.specs.declared.found.Found.TheVariants.{Untraced, Inside, Outside, Ambiguous}
use Rattle.box_descent.specs.declared.plan.Plan.{Plan}
use Rattle.box_descent.proofs.Longest.{list-kept, looked-more, may-more}
use Rattle.box_descent.proofs.RunLemmas.{StandsAt, kept-at}

abbrev is_open : Outcome (List Step) → ℕ
is_open (Open list) = 1
is_open AllInside = 0
is_open AllOutside = 2

abbrev list_in : Outcome (List Step) → List Step
list_in (Open list) = list
list_in AllInside = []
list_in AllOutside = []

-- what was told of a box that was traced
pub record IsTold (plan : Plan) (desk : Tracing) (b : Indices) (given : ℕ) (t : TracedBox) : Type 0 where
  pub may : MayVisit plan desk b given
  pub decision : t.decision ≡ decision_of (samples desk) (list_of desk given) b
  pub outcome : seen desk.lists t.outcome ≡ asked_outcome (samples desk) (list_of desk given) (asked plan (looked plan desk) b)
  pub hands : HandsOn (length (list_of desk given)) desk.lists t.outcome

-- a tape that was handed on may be given to a box
handed-gives : (plan : Plan) (desk : Tracing) (b : Indices) (given at : ℕ) → MayVisit plan desk b given
    → IsHandedOn (length (list_of desk given)) desk.lists at
    → list_of desk at ≡ handed_on (looked plan desk) (visit b (list_of desk given))
    → GivesTape plan desk b at (handed_on (looked plan desk) (visit b (list_of desk given)))
handed-gives plan desk b given at may on is =
    let tape : IsTape (list_of desk at) = subst IsTape (sym is) (laws.visits.handed (looked plan desk) (visit b (list_of desk given)) may.visit_is).0 in
    record {
      may = record {
        visit_is = record { window = may.visit_is.window; box = may.visit_is.box; within = may.visit_is.within; tape = tape };
        among = on.among;
        room = omega (arith, on.few, may.room);
      };
      is = is;
    }

-- so what is found of it is right
pub found-right : (plan : Plan) (desk : Tracing) (b : Indices) (given : ℕ) (t : TracedBox) → IsTold plan desk b given t → IsFound plan desk b given (found_of given t)
found-right plan desk b given t told = by t.outcome t.decision (is_held plan d b) refl told.decision told.outcome told.hands
  where
    d : Descent
    d = looked plan desk

    v : Visit
    v = visit b (list_of desk given)

    lists : List (List Step)
    lists = desk.lists

    outside : (held : Bool) (e : Option Bool) → AllOutside ≡ outcome_by (held_decision held e) (handed_on d v) → e ≡ Some false
    outside false None same = absurd (omega (arith, ap is_open same))
    outside false (Some true) same = absurd (omega (arith, ap is_open same))
    outside false (Some false) same = refl
    outside true None same = absurd (omega (arith, ap is_open same))
    outside true (Some true) same = absurd (omega (arith, ap is_open same))
    outside true (Some false) same = refl

    inside : (held : Bool) (e : Option Bool) → AllInside ≡ outcome_by (held_decision held e) (handed_on d v) → (e ≡ Some true) × (held ≡ false)
    inside false None same = absurd (omega (arith, ap is_open same))
    inside false (Some true) same = (refl, refl)
    inside false (Some false) same = absurd (omega (arith, ap is_open same))
    inside true None same = absurd (omega (arith, ap is_open same))
    inside true (Some true) same = absurd (omega (arith, ap is_open same))
    inside true (Some false) same = absurd (omega (arith, ap is_open same))

    open-held : (held : Bool) (i : Bool) (list : List Step) → Open list ≡ outcome_by (held_decision held (Some i)) (handed_on d v) → (i ≡ true) × ((held ≡ true) × (list ≡ handed_on d v))
    open-held false true list same = absurd (omega (arith, ap is_open same))
    open-held false false list same = absurd (omega (arith, ap is_open same))
    open-held true true list same = (refl, (refl, ap list_in same))
    open-held true false list same = absurd (omega (arith, ap is_open same))

    open-none : (held : Bool) (list : List Step) → Open list ≡ outcome_by (held_decision held None) (handed_on d v) → list ≡ handed_on d v
    open-none false list same = ap list_in same
    open-none true list same = ap list_in same

    by : (o : Outcome ℕ) (e : Option Bool) (held : Bool) → is_held plan d b ≡ held → e ≡ decision d v
        → seen lists o ≡ outcome_by (held_decision (is_held plan d b) (decision d v)) (handed_on d v) → HandsOn (length (list_of desk given)) lists o
        → IsFound plan desk b given (found_of given (record { decision = e; outcome = o }))
    by AllOutside e held is same told' hands = outside (is_held plan d b) (decision d v) told'
    by AllInside e held is same told' hands =
        let in-all = inside (is_held plan d b) (decision d v) told' in (
          in-all.0,
          (
            record { may = told.may; is = ap (λ (h : Bool). cond h (handed_on d v) v.list) (sym in-all.1) },
            λ is-held. absurd (omega (arith, ap {B = ℕ} (λ (h : Bool). cond h 1 0) (sym is-held ∙ in-all.1))),
          ),
        )
    by (Open at) None held is same told' hands =
        let none = open-none (is_held plan d b) (list_of desk at) (told' ∙ ap (λ x. outcome_by (held_decision (is_held plan d b) x) (handed_on d v)) (sym same)) in
        (sym same, (handed-gives plan desk b given at told.may hands none, hands.whole))
    by (Open at) (Some i) held is same told' hands =
        let all = open-held (is_held plan d b) i (list_of desk at) (told' ∙ ap (λ x. outcome_by (held_decision (is_held plan d b) x) (handed_on d v)) (sym same)) in
        let gives = handed-gives plan desk b given at told.may hands all.1.1 in (
          sym same ∙ ap (λ x. Some x) all.0,
          (record { may = gives.may; is = all.1.1 ∙ ap (λ (h : Bool). cond h (handed_on d v) v.list) (sym all.1.0) }, λ is-held. hands.whole),
        )

-- the tape of its children, where it has some to be visited
pub record GivesChildren (plan : Plan) (desk : Tracing) (b : Indices) (given at : ℕ) : Type 0 where
  pub gives : GivesTape plan desk b at (handed_on (looked plan desk) (visit b (list_of desk given)))
  pub whole : IsWhole (list_of desk at)
  pub long : goes_on plan (looked plan desk) (visit b (list_of desk given)) ≡ true

abbrev some-number : Option ℕ → ℕ → ℕ
some-number None other = other
some-number (Some n) other = n

pub children-given : (plan : Plan) (desk : Tracing) (b : Indices) (given at : ℕ) (found : Found) → IsFound plan desk b given found → Some at ≡ child_tape plan desk b found
    → GivesChildren plan desk b given at
children-given plan desk b given at found right is = by found right is
  where
    d : Descent
    d = looked plan desk

    v : Visit
    v = visit b (list_of desk given)

    none-some : {n : ℕ} → Some n ≡ None → ⊥
    none-some same = absurd (omega (arith, ap (λ o. some-number o 0) same, ap (λ o. some-number o 1) same))

    both : (p q : Bool) (n : ℕ) → Some at ≡ cond (p && q) (Some n) None → (at ≡ n) × ((p ≡ true) × (q ≡ true))
    both true true n same = (ap (λ o. some-number o 0) same, (refl, refl))
    both true false n same = absurd (none-some same)
    both false q n same = absurd (none-some same)

    one : (p : Bool) (n : ℕ) → Some at ≡ cond p (Some n) None → (at ≡ n) × (p ≡ true)
    one true n same = (ap (λ o. some-number o 0) same, refl)
    one false n same = absurd (none-some same)

    by : (f : Found) → IsFound plan desk b given f → Some at ≡ child_tape plan desk b f → GivesChildren plan desk b given at
    by Untraced r same = absurd (none-some same)
    by Outside r same = absurd (none-some same)
    by (Ambiguous n) r same =
        let is-long = one (is_long plan.leaf b) n same in
        subst (GivesChildren plan desk b given) (sym is-long.0) (record {
          gives = r.1.0;
          whole = r.1.1;
          long = ambiguous-goes r.0 is-long.1;
        })
      where
        ambiguous-goes : decision d v ≡ None → is_long plan.leaf b ≡ true → goes_on plan d v ≡ true
        ambiguous-goes e long = ap (λ l. l && goes_on_by (meets_border plan d b) (decision d v)) long ∙ ap (goes_on_by (meets_border plan d b)) e
    by (Inside n) r same =
        let is-long = both (is_long plan.leaf b) (meets_border plan d b) n same in
        let held : is_held plan d b ≡ true = held-border plan.prunes_inside (meets_border plan d b) is-long.1.1 in
        subst (GivesChildren plan desk b given) (sym is-long.0) (record {
          gives = record { may = r.1.0.may; is = r.1.0.is ∙ ap (λ (h : Bool). cond h (handed_on d v) v.list) held };
          whole = r.1.1 held;
          long = inside-goes r.0 is-long.1.0 is-long.1.1;
        })
      where
        held-border : (p q : Bool) → q ≡ true → (p || q) ≡ true
        held-border true q e = refl
        held-border false q e = e

        inside-goes : decision d v ≡ Some true → is_long plan.leaf b ≡ true → meets_border plan d b ≡ true → goes_on plan d v ≡ true
        inside-goes e long border = ap (λ l. l && goes_on_by (meets_border plan d b) (decision d v)) long ∙ ap (goes_on_by (meets_border plan d b)) e ∙ border

-- What was told of boxes that were traced together stands behind the tapes of a desk that has more of them since.
pub record AreTold (plan : Plan) (desk : Tracing) (lists : List (List Step)) (given : ℕ) (boxes : List Indices) (traced : List TracedBox) : Type 0 where
  pub decisions : traced_decisions traced ≡ asked_decisions (samples desk) (list_of desk given) (map (asked plan (looked plan desk)) (filter (is_traced plan) boxes))
  pub outcomes : all_seen lists (traced_outcomes traced) ≡ asked_outcomes (samples desk) (list_of desk given) (map (asked plan (looked plan desk)) (filter (is_traced plan) boxes))
  pub hands : All (HandsOn (length (list_of desk given)) lists) (traced_outcomes traced)

pub told-many : (plan : Plan) (desk : Tracing) (lists : List (List Step)) (given : ℕ) (boxes : List Indices) (traced : List TracedBox) → AreTold plan desk lists given boxes traced
    → length traced ≡ length (filter (is_traced plan) boxes)
told-many plan desk lists given boxes traced told =
    let some = filter (is_traced plan) boxes in
    let asked' = map (asked plan (looked plan desk)) some in
    sym (length-map traced (λ (t : TracedBox). t.decision)) ∙ ap length told.decisions ∙ length-map asked' (λ (a : AskedBox). decision_of (samples desk) (list_of desk given) a.range) ∙ length-map some (asked plan (looked plan desk))

-- so what was told of the next of them is known
pub told-next : (plan : Plan) (before desk : Tracing) (given n at : ℕ) (boxes : List Indices) (b : Indices) (traced : List TracedBox) (t : TracedBox) → HasMore before desk → MayVisit plan before b given
    → AreTold plan before desk.lists given boxes traced → n < length boxes → b ≡ get_or boxes n b → is_traced plan b ≡ true
    → at ≡ length (filter (is_traced plan) (take n boxes)) → t ≡ get_or traced at t → IsTold plan desk b given t
told-next plan before desk given n at boxes b traced t more may told within read is-traced place there = record {
  may = may-more plan before desk b given more may;
  decision = sym (get_or-map (λ (x : TracedBox). x.decision) traced at t t.decision among ∙ ap (λ (x : TracedBox). x.decision) (sym there))
      ∙ ap (λ ds. get_or ds at t.decision) told.decisions
      ∙ get_or-map (λ (a : AskedBox). decision_of (samples before) (list_of before given) a.range) asked' at (asked plan d b) t.decision among-asked
      ∙ ap (λ (a : AskedBox). decision_of (samples before) (list_of before given) a.range) asked-there
      ∙ told-same (λ d' l. decision_of (record { view = d'.view; lattice = d'.lattice }) l b);
  outcome = sym (get_or-map (seen desk.lists) (traced_outcomes traced) at t.outcome (seen desk.lists t.outcome) (omega (arith, among, length-map traced (λ (x : TracedBox). x.outcome)))
      ∙ ap (seen desk.lists) (get_or-map (λ (x : TracedBox). x.outcome) traced at t t.outcome among ∙ ap (λ (x : TracedBox). x.outcome) (sym there)))
      ∙ ap (λ os. get_or os at (seen desk.lists t.outcome)) told.outcomes
      ∙ get_or-map (asked_outcome (samples before) (list_of before given)) asked' at (asked plan d b) (seen desk.lists t.outcome) among-asked
      ∙ ap (asked_outcome (samples before) (list_of before given)) asked-there
      ∙ told-same (λ d' l. asked_outcome (record { view = d'.view; lattice = d'.lattice }) l (asked plan d' b));
  hands = subst (λ l. HandsOn (length l) desk.lists t.outcome) (sym (list-kept before desk given more may.among))
      (subst (HandsOn (length (list_of before given)) desk.lists)
      (get_or-map (λ (x : TracedBox). x.outcome) traced at t t.outcome among ∙ ap (λ (x : TracedBox). x.outcome) (sym there))
      (All-get_or (HandsOn (length (list_of before given)) desk.lists) (traced_outcomes traced) at t.outcome (omega (arith, among, length-map traced (λ (x : TracedBox). x.outcome))) told.hands));
}
  where
    d : Descent
    d = looked plan before

    some : List Indices
    some = filter (is_traced plan) boxes

    asked' : List AskedBox
    asked' = map (asked plan d) some

    stands : StandsAt some at b
    stands = subst (λ k. StandsAt some k b) (sym place) (kept-at (is_traced plan) boxes n b within read is-traced)

    among : at < length traced
    among = omega (arith, stands.among, told-many plan before desk.lists given boxes traced told)

    among-asked : at < length asked'
    among-asked = omega (arith, stands.among, length-map some (asked plan d))

    asked-there : get_or asked' at (asked plan d b) ≡ asked plan d b
    asked-there = get_or-map (asked plan d) some at b (asked plan d b) stands.among ∙ ap (asked plan d) (stands.there b)

    told-same : {A : Type 0} (tell : Descent → List Step → A) → tell d (list_of before given) ≡ tell (looked plan desk) (list_of desk given)
    told-same tell = ap (λ d'. tell d' (list_of before given)) (sym (looked-more plan before desk more)) ∙ ap (tell (looked plan desk)) (sym (list-kept before desk given more may.among))

-- boxes are traced where they are placed
pub asked-in_root : (plan : Plan) (desk : Tracing) (boxes : List Indices) → All (IsPlaced desk) boxes
    → AreInRoot (samples desk) (map (asked plan (looked plan desk)) (filter (is_traced plan) boxes))
asked-in_root plan desk boxes placed =
    let some = filter (is_traced plan) boxes in
    All-map (λ (a : AskedBox). IsInRoot desk.view desk.lattice a.range) (asked plan (looked plan desk)) some
    (All-weaker (IsPlaced desk) (IsInRoot desk.view desk.lattice) (λ b placed-there. placed-there.within) some
    (All-filter (is_traced plan) (IsPlaced desk) boxes placed))

pub told-among : (plan : Plan) (desk : Tracing) (lists : List (List Step)) (given n at : ℕ) (boxes : List Indices) (b : Indices) (traced : List TracedBox)
    → AreTold plan desk lists given boxes traced → n < length boxes → b ≡ get_or boxes n b → at ≡ length (filter (is_traced plan) (take n boxes))
    → is_traced plan b ≡ true → at < length traced
told-among plan desk lists given n at boxes b traced told within read place is-traced =
    omega (arith, (kept-at (is_traced plan) boxes n b within read is-traced).among, told-many plan desk lists given boxes traced told, place)

-- and what is found of the next box is right
pub found-next : (plan : Plan) (before desk : Tracing) (given n at : ℕ) (boxes : List Indices) (b : Indices) (traced : List TracedBox) (found : Found) → HasMore before desk → MayVisit plan before b given
    → AreTold plan before desk.lists given boxes traced → n < length boxes → b ≡ get_or boxes n b
    → at ≡ length (filter (is_traced plan) (take n boxes))
    → (is_traced plan b ≡ false → found ≡ Untraced)
    → ((t : TracedBox) → is_traced plan b ≡ true → t ≡ get_or traced at t → found ≡ found_of given t)
    → IsFound plan desk b given found
found-next plan before desk given n at boxes b traced found more may told within read place untraced is-told = by (is_traced plan b) refl
  where
    none : TracedBox
    none = record { decision = None; outcome = AllOutside }

    by : (t : Bool) → is_traced plan b ≡ t → IsFound plan desk b given found
    by false e = subst (IsFound plan desk b given) (sym (untraced e)) e
    by true e =
        let t = get_or traced at none in
        let there : t ≡ get_or traced at t = get_or_default traced at none t (told-among plan before desk.lists given n at boxes b traced told within read place e) in
        subst (IsFound plan desk b given) (sym (is-told t e there))
        (found-right plan desk b given t (told-next plan before desk given n at boxes b traced t more may told within read e place there))

-- how many of the first boxes were traced, with one more
pub traced-more : (plan : Plan) (boxes : List Indices) (n at more : ℕ) (b : Indices) → n < length boxes → b ≡ get_or boxes n b
    → at ≡ length (filter (is_traced plan) (take n boxes)) → more ≡ bool_byte (is_traced plan b) → at + more ≡ length (filter (is_traced plan) (take (n + 1) boxes))
traced-more plan boxes n at more b within read place one =
    omega (arith, place, one, by (is_traced plan b) (filter (is_traced plan) (take n boxes)), ap length (filter_more (is_traced plan) boxes n b within ∙ ap (λ x. filter (is_traced plan) (take n boxes) ++ cond (is_traced plan x) (x ∷ []) []) (sym read)))
  where
    by : (t : Bool) (first : List Indices) → length (first ++ cond t (b ∷ []) []) ≡ length first + bool_byte t
    by true first = omega (arith, length-append first (b ∷ []))
    by false first = omega (arith, length-append first [])

pub byte-most : (b : Bool) → bool_byte b ≤ 1
byte-most true = omega arith
byte-most false = omega arith
