-- Boxes whose lists are traced side by side, each in its lane.
use Rattle.std.proofs.Common.{Bool, false, Option, None, ◌≡◌, ℕ, ◌+◌, ◌-◌, ◌<◌, List, [], ◌∷◌, ◌++◌, length, get_or, take, drop, map, ap, sym, ◌∙◌, arith}
use Rattle.std.proofs.lemmas.List.{ext_get_or, get_or-map, get_or_read, length-drop, length-map, map-append, take_all}
use Rattle.std.proofs.Math.Seq.{take-add}
use Rattle.interval_ops.specs.Decided.{decided_of}
use Rattle.interval_ops.specs.Spans.{Interval, all_numbers}
use Rattle.live_clauses.specs.Choices.{lane}
use Rattle.live_clauses.specs.Live.{live_of}
use Rattle.live_clauses.specs.declared.choice_row.ChoiceRow.{ChoiceRow}
use Rattle.live_clauses.specs.declared.step.Step.{Step}
use Rattle.std.specs.List.{range_with_len}
use Rattle.std.proofs.lemmas.List.FromFn.{get_or-map-range_with_len, length-range_with_len}
use Rattle.interval_ops.specs.declared.region.Region.{Region}
use Rattle.view_places.specs.Spans.{region_of}
use Rattle.choice_trace.specs.Halves.{region_in}
use Rattle.choice_trace.specs.Hulls.{choices_over, hull_in, tape_hull}
use Rattle.box_chains.specs.Outcomes.{asked_decisions, asked_outcome, asked_outcomes, decision_in, decision_of, held_decision, held_in, lane_decision, lane_outcome, outcome_by}
use Rattle.box_chains.specs.Placing.{Sampling}
use Rattle.box_chains.specs.declared.asked_box.AskedBox.{AskedBox}
use Rattle.box_chains.specs.declared.outcome.Outcome.{Outcome}
use Rattle.box_chains.specs.declared.outcome.Outcome.TheVariants.{Outside}

-- what stands behind a place
pub rest-is : {X : Type 0} (xs : List X) (i : ℕ) → take (length xs - i) (drop i xs) ≡ drop i xs
rest-is xs i = take_all (length xs - i) (drop i xs) (omega (arith, length-drop i xs))

-- the first of some boxes
pub take-one : {X : Type 0} (xs : List X) (x : X) → 0 < length xs → x ≡ get_or xs 0 x → take 1 xs ≡ x ∷ []
take-one [] x some is = absurd (omega (arith, some))
take-one (y ∷ ys) x some is = ap (λ a. a ∷ []) (sym is)

-- what holds of some boxes in turn, and then of some more
pub map-join : {X Y : Type 0} (f : X → Y) (xs : List X) (i n : ℕ) → map f (take i xs) ++ map f (take n (drop i xs)) ≡ map f (take (i + n) xs)
map-join f xs i n = sym (map-append f (take i xs) (take n (drop i xs))) ∙ sym (ap (map f) (take-add i n xs))

-- what the hull in a lane decides
pub hull-decides : (hulls : List Interval) (l : ℕ) (hull : Interval) → l < length hulls → hull ≡ get_or hulls l hull → decided_of hull ≡ decision_in hulls l
hull-decides hulls l hull within is = ap decided_of (get_or_read hulls l hull within is all_numbers)

-- and in all lanes, where each is that of its box
pub hulls-decide : (places : Sampling) (tape : List Step) (asked : List AskedBox) (regions : List Region) (hulls : List Interval) (n : ℕ)
    → regions ≡ map (λ a. region_of places.view places.lattice a.range) asked → length asked ≡ n
    → ((l : ℕ) → l < n → hull_in hulls l ≡ tape_hull (region_in regions l) tape)
    → map (decision_in hulls) (range_with_len 0 n) ≡ asked_decisions places tape asked
hulls-decide places tape asked regions hulls n placed count hull =
    ext_get_or None (map (decision_in hulls) (range_with_len 0 n)) (map g asked)
    (length-map (range_with_len 0 n) (decision_in hulls) ∙ length-range_with_len 0 n ∙ sym count ∙ sym (length-map asked g))
    (λ l h. by l (omega (arith, h, length-map (range_with_len 0 n) (decision_in hulls), length-range_with_len 0 n)))
  where
    g : AskedBox → Option Bool
    g a = decision_of places tape a.range

    nothing : AskedBox
    nothing = record { range = record { x0 = 0; x1 = 0; y0 = 0; y1 = 0; z0 = 0; z1 = 0 }; held = false }

    by : (l : ℕ) → l < n → get_or (map (decision_in hulls) (range_with_len 0 n)) l None ≡ get_or (map g asked) l None
    by l h =
        let among : l < length asked = omega (arith, h, count) in
        let region : region_in regions l ≡ region_of places.view places.lattice (get_or asked l nothing).range =
        ap (λ rs. region_in rs l) placed ∙ get_or-map (λ a. region_of places.view places.lattice a.range) asked l nothing _ among in
        get_or-map-range_with_len (decision_in hulls) 0 n l l None h (omega arith)
        ∙ ap decided_of (hull l h)
        ∙ ap (λ r. decided_of (tape_hull r tape)) region
        ∙ sym (get_or-map g asked l nothing None among)

-- what is decided in a lane
pub decision-read : (asked : List AskedBox) (hulls : List Interval) (l : ℕ) (hull : Interval) (box : AskedBox) → l < length hulls → hull ≡ get_or hulls l hull → l < length asked → box ≡ get_or asked l box
    → held_decision box.held (decided_of hull) ≡ lane_decision asked hulls l
decision-read asked hulls l hull box within is among read =
    ap (λ h. held_decision h (decided_of hull)) (ap (λ a. a.held) read ∙ sym (get_or-map (λ a. a.held) asked l box false among))
    ∙ ap (λ h. held_decision (held_in asked l) (decided_of h)) (get_or_read hulls l hull within is all_numbers)

-- what is told in a lane
pub outcome-read : (list : List Step) (asked : List AskedBox) (hulls : List Interval) (rows : List ChoiceRow) (l : ℕ) (hull : Interval) (box : AskedBox) (o : Outcome (List Step))
    → l < length hulls → hull ≡ get_or hulls l hull → l < length asked → box ≡ get_or asked l box
    → o ≡ outcome_by (held_decision box.held (decided_of hull)) (live_of list (take (length list) (lane l rows)))
    → o ≡ lane_outcome list asked hulls rows l
outcome-read list asked hulls rows l hull box o within is among read told =
    told ∙ ap (λ d. outcome_by d (live_of list (take (length list) (lane l rows)))) (decision-read asked hulls l hull box within is among read)

-- what the hulls and the choices in all lanes tell, where each is that of its box
pub lanes-told : (places : Sampling) (list : List Step) (asked : List AskedBox) (regions : List Region) (hulls : List Interval) (rows : List ChoiceRow) (n : ℕ)
    → regions ≡ map (λ a. region_of places.view places.lattice a.range) asked → length asked ≡ n
    → ((l : ℕ) → l < n → hull_in hulls l ≡ tape_hull (region_in regions l) list)
    → ((l : ℕ) → l < n → take (length list) (lane l rows) ≡ choices_over (region_in regions l) list)
    → map (lane_outcome list asked hulls rows) (range_with_len 0 n) ≡ asked_outcomes places list asked
lanes-told places list asked regions hulls rows n placed count hull chosen =
    ext_get_or Outside (map f (range_with_len 0 n)) (map g asked)
    (length-map (range_with_len 0 n) f ∙ length-range_with_len 0 n ∙ sym count ∙ sym (length-map asked g))
    (λ l h. by l (omega (arith, h, length-map (range_with_len 0 n) f, length-range_with_len 0 n)))
  where
    f : ℕ → Outcome (List Step)
    f = lane_outcome list asked hulls rows

    g : AskedBox → Outcome (List Step)
    g = asked_outcome places list

    nothing : AskedBox
    nothing = record { range = record { x0 = 0; x1 = 0; y0 = 0; y1 = 0; z0 = 0; z1 = 0 }; held = false }

    over : Bool → Region → Outcome (List Step)
    over held r = outcome_by (held_decision held (decided_of (tape_hull r list))) (live_of list (choices_over r list))

    by : (l : ℕ) → l < n → get_or (map f (range_with_len 0 n)) l Outside ≡ get_or (map g asked) l Outside
    by l h =
        let among : l < length asked = omega (arith, h, count) in
        let region : region_in regions l ≡ region_of places.view places.lattice (get_or asked l nothing).range =
        ap (λ rs. region_in rs l) placed ∙ get_or-map (λ a. region_of places.view places.lattice a.range) asked l nothing _ among in
        let held : held_in asked l ≡ (get_or asked l nothing).held = get_or-map (λ a. a.held) asked l nothing false among in
        get_or-map-range_with_len f 0 n l l Outside h (omega arith)
        ∙ ap (λ s. outcome_by (held_decision (held_in asked l) (decided_of s)) (live_of list (take (length list) (lane l rows)))) (hull l h)
        ∙ ap (λ cs. outcome_by (held_decision (held_in asked l) (decided_of (tape_hull (region_in regions l) list))) (live_of list cs)) (chosen l h)
        ∙ ap (over (held_in asked l)) region
        ∙ ap (λ b. over b (region_of places.view places.lattice (get_or asked l nothing).range)) held
        ∙ sym (get_or-map g asked l nothing Outside among)
