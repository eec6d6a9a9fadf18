-- What tracing together told of the halves of a box.
use Rattle.std.proofs.Common.{◌≡◌, ℕ, ◌+◌, ◌<◌, ◌≤◌, Bool, true, false, cond, List, [], ◌∷◌, ◌++◌, length, get_or, drop, refl, sym, ap, subst, ◌∙◌, ◌⊎◌, inl, inr, arith}
use mir.Val.{bool_byte}
use Rattle.std.specs.Prelude.{Option, Some, None}
use Rattle.std.specs.List.{All}
use Rattle.std.proofs.lemmas.Bool.{false≢true}
use Rattle.std.proofs.Math.ListN.{get_or-map as get_or-map-same}
use Rattle.std.proofs.lemmas.List.{drop_more, get_or-take, get_or_default, length-drop, length-map, length-take}
use Rattle.std.proofs.lemmas.List.Concat.{flat_map-cons}
use Rattle.std.proofs.lemmas.List.Elements.{All-get_or}
use Rattle.box_chains.specs.Chains.{decision, handed_on, is_long, visit}
use Rattle.box_chains.specs.Outcomes.{HandsOn, all_seen, asked_outcome, asked_outcomes, held_decision, outcome_by, seen}
use Rattle.box_chains.specs.Desks.{HasMore, Tracing, list_of, samples}
use Rattle.live_clauses.specs.Blocks.{list_at}
use Rattle.box_chains.specs.Placing.{Sampling}
use Rattle.box_chains.specs.declared.asked_box.AskedBox.{AskedBox}
use Rattle.box_chains.specs.declared.outcome.Outcome.{Outcome}
use Rattle.box_chains.specs.declared.outcome.Outcome.TheVariants.{Inside, Outside, Open}
use Rattle.kuhn_cells.specs.declared.grid_size.GridSize.{GridSize}
use Rattle.live_clauses.specs.declared.step.Step.{Step}
use Rattle.view_places.specs.Boxes.{Indices}
use Rattle.view_places.specs.Window.{Window, size_of}
use Rattle.oct_descent.specs.Asked.{IsAt, IsOpened, IsStep, asked_of, longer}
use Rattle.oct_descent.specs.Kinds.{GridKind, descent_of}
use Rattle.oct_descent.specs.Ways.{is_open, is_open_by}
use Rattle.view_places.specs.declared.lattice.Lattice.TheVariants as lattices

-- whether an outcome hands on a list, and which
unfoldable pub opens : Outcome (List Step) → Bool
opens Inside = false
opens Outside = false
opens (Open list) = true

unfoldable pub list_in : Outcome (List Step) → List Step
list_in Inside = []
list_in Outside = []
list_in (Open list) = list

opens-by : (meets : Indices → Bool) (b : Indices) (told : Option Bool) (held : Bool) (live : List Step) → meets b ≡ held → opens (outcome_by (held_decision held told) live) ≡ is_open_by meets b told
unfolding opens
opens-by meets b None false live e = refl
opens-by meets b None true live e = refl
opens-by meets b (Some true) false live e = sym e
opens-by meets b (Some true) true live e = sym e
opens-by meets b (Some false) false live e = refl
opens-by meets b (Some false) true live e = refl

list-by : (told : Option Bool) (held : Bool) (live : List Step) → opens (outcome_by (held_decision held told) live) ≡ true → list_in (outcome_by (held_decision held told) live) ≡ live
unfolding list_in opens
list-by None false live e = refl
list-by None true live e = refl
list-by (Some true) false live e = absurd (false≢true e)
list-by (Some true) true live e = refl
list-by (Some false) false live e = absurd (false≢true e)
list-by (Some false) true live e = absurd (false≢true e)

-- a box stays open where its outcome hands on a list, and that is the box's
told-opens : (k : GridKind) (view : Window) (b : Indices) (list : List Step) (o : Outcome (List Step)) → o ≡ asked_outcome (record { view = view; lattice = lattices.Grid }) list (asked_of k (size_of view) b) → is_open (descent_of k view) (visit b list) ≡ opens o
told-opens k view b list o is =
    let d = descent_of k view in
    sym (ap opens is ∙ opens-by d.meets b (decision d.boxes (visit b list)) (d.meets b) (handed_on d.boxes (visit b list)) refl)

told-hands : (k : GridKind) (view : Window) (b : Indices) (list : List Step) (o : Outcome (List Step)) → o ≡ asked_outcome (record { view = view; lattice = lattices.Grid }) list (asked_of k (size_of view) b) → opens o ≡ true
    → list_in o ≡ handed_on (descent_of k view).boxes (visit b list)
told-hands k view b list o is open' =
    let d = descent_of k view in
    ap list_in is ∙ list-by (decision d.boxes (visit b list)) (d.meets b) (handed_on d.boxes (visit b list)) (sym (ap opens is) ∙ open')

-- what stands at a place stands first behind it
head_or : {A : Type 0} → A → List A → A
head_or d [] = d
head_or d (x ∷ xs) = x

rest_of : {A : Type 0} → List A → List A
rest_of [] = []
rest_of (x ∷ xs) = xs

record IsNext {A : Type 0} (xs : List A) (at : ℕ) (d y : A) (ys : List A) : Type 0 where
  within : at < length xs
  is : get_or xs at d ≡ y
  rest : drop (at + 1) xs ≡ ys

next-is : {A : Type 0} (xs : List A) (at : ℕ) (d y : A) (ys : List A) → drop at xs ≡ y ∷ ys → IsNext xs at d y ys
unfolding head_or rest_of
next-is xs at d y ys e =
    let within : at < length xs = omega (arith, length-drop at xs, ap length e) in
    let both = sym (drop_more xs at d within) ∙ e in
    record { within = within; is = ap (head_or d) both; rest = ap rest_of both }

-- what is told of the halves stands step by step
pub step-told : (k : GridKind) (places : Sampling) (list : List Step) (halves : List Indices) (half : Indices) (i : ℕ) (lists : List (List Step)) (outcomes : List (Outcome ℕ)) (at next : ℕ) → i < length halves → half ≡ get_or halves i half
    → All (HandsOn (length list) lists) outcomes → drop at (all_seen lists outcomes) ≡ asked_outcomes places list (longer k (size_of places.view) (drop i halves))
    → next ≡ at + cond (is_long 1 half) 1 0 → IsStep k places list halves half i lists outcomes at next
step-told k places list halves half i lists outcomes at next within read hands are step = by (is_long 1 half) refl
  where
    n : GridSize
    n = size_of places.view

    piece : Indices → List AskedBox
    piece b = cond (is_long 1 b) (asked_of k n b ∷ []) []

    after : List Indices
    after = drop (i + 1) halves

    split : drop at (all_seen lists outcomes) ≡ asked_outcomes places list (piece half ++ longer k n after)
    split = are ∙ ap (λ hs. asked_outcomes places list (longer k n hs)) (drop_more halves i half within ∙ ap (λ h. h ∷ after) (sym read))
        ∙ ap (asked_outcomes places list) (flat_map-cons piece half after)

    by : (long : Bool) → is_long 1 half ≡ long → IsStep k places list halves half i lists outcomes at next
    by true e =
        let next' = next-is (all_seen lists outcomes) at Outside (asked_outcome places list (asked_of k n half)) (asked_outcomes places list (longer k n after))
        (split ∙ ap (λ (t : Bool). asked_outcomes places list (cond t (asked_of k n half ∷ []) [] ++ longer k n after)) e) in
        let within' : at < length outcomes = omega (arith, next'.within, length-map outcomes (seen lists)) in
        record {
          told = λ long. record { within = within'; is = sym (get_or-map-same (seen lists) outcomes at Outside) ∙ next'.is; hands = All-get_or (HandsOn (length list) lists) outcomes at Outside within' hands };
          rest = ap (λ k. drop k (all_seen lists outcomes)) (step ∙ ap (λ (t : Bool). at + cond {A = ℕ} t 1 0) e) ∙ next'.rest;
        }
    by false e = record {
      told = λ long. absurd (false≢true (sym e ∙ long));
      rest = ap (λ k. drop k (all_seen lists outcomes)) (step ∙ ap (λ (t : Bool). at + cond {A = ℕ} t 1 0) e ∙ omega arith) ∙ split ∙ ap (λ (t : Bool). asked_outcomes places list (cond t (asked_of k n half ∷ []) [] ++ longer k n after)) e;
    }

-- what is told of a box of a grid at a place
told-at : (k : GridKind) (places : Sampling) (list : List Step) (b : Indices) (lists : List (List Step)) (outcomes : List (Outcome ℕ)) (at : ℕ) → places.lattice ≡ lattices.Grid → IsAt k places list b lists outcomes at
    → seen lists (get_or outcomes at Outside) ≡ asked_outcome (record { view = places.view; lattice = lattices.Grid }) list (asked_of k (size_of places.view) b)
told-at k places list b lists outcomes at placed told =
    told.is ∙ ap (λ l. asked_outcome (record { view = places.view; lattice = l }) list (asked_of k (size_of places.view) b)) placed

-- a box that hands on a list stays open, and it is that box's list
pub opened-told : (k : GridKind) (places : Sampling) (list : List Step) (b : Indices) (lists : List (List Step)) (outcomes : List (Outcome ℕ)) (at live : ℕ) (d : Outcome ℕ) → places.lattice ≡ lattices.Grid
    → IsAt k places list b lists outcomes at → get_or outcomes at d ≡ Open live → IsOpened k places.view b list lists live
unfolding opens list_in
opened-told k places list b lists outcomes at live d placed told is =
    let here = sym (get_or_default outcomes at d Outside told.within) ∙ is in
    let o = seen lists (get_or outcomes at Outside) in
    let all = told-at k places list b lists outcomes at placed told in
    let open' = ap (λ x. opens (seen lists x)) here in
    record {
      open' = told-opens k places.view b list o all ∙ open';
      same = sym (ap (λ x. list_in (seen lists x)) here) ∙ told-hands k places.view b list o all open';
      hands = subst (HandsOn (length list) lists) here told.hands;
    }

-- any other does not
pub closed-told : (k : GridKind) (places : Sampling) (list : List Step) (b : Indices) (lists : List (List Step)) (outcomes : List (Outcome ℕ)) (at : ℕ) (d : Outcome ℕ) → places.lattice ≡ lattices.Grid
    → IsAt k places list b lists outcomes at → (get_or outcomes at d ≡ Inside) ⊎ (get_or outcomes at d ≡ Outside) → is_open (descent_of k places.view) (visit b list) ≡ false
unfolding opens
closed-told k places list b lists outcomes at d placed told is = by is
  where
    opened : is_open (descent_of k places.view) (visit b list) ≡ opens (seen lists (get_or outcomes at Outside))
    opened = told-opens k places.view b list (seen lists (get_or outcomes at Outside)) (told-at k places list b lists outcomes at placed told)

    here : get_or outcomes at Outside ≡ get_or outcomes at d
    here = sym (get_or_default outcomes at d Outside told.within)

    by : (get_or outcomes at d ≡ Inside) ⊎ (get_or outcomes at d ≡ Outside) → is_open (descent_of k places.view) (visit b list) ≡ false
    by (inl e) = opened ∙ ap (λ x. opens (seen lists x)) (here ∙ e)
    by (inr e) = opened ∙ ap (λ x. opens (seen lists x)) (here ∙ e)

-- a list keeps its number where lists are put behind
pub list-stays : (before after : Tracing) (at : ℕ) → HasMore before after → at < length before.lists → list_of after at ≡ list_of before at
list-stays before after at more among =
    sym (get_or-take (length before.lists) after.lists at [] among) ∙ ap (λ lists. list_at lists at) more.lists

pub among-stays : (before after : Tracing) (at : ℕ) → HasMore before after → at < length before.lists → at < length after.lists
among-stays before after at more among = omega (arith, among, ap length more.lists, length-take (length before.lists) after.lists)

pub more-samples : (before after : Tracing) → HasMore before after → samples after ≡ samples before
more-samples before after more =
    ap (λ v. record { view = v; lattice = after.lattice }) more.view ∙ ap (λ l. record { view = before.view; lattice = l }) more.lattice

-- a flag as a number
pub byte-is : (b : Bool) → bool_byte b ≡ cond b 1 0
byte-is true = refl
byte-is false = refl

pub byte-most : (b : Bool) → bool_byte b ≤ 1
byte-most true = omega arith
byte-most false = omega arith
