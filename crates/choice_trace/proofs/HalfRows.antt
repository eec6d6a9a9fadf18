-- Rows that are written lane by lane, and what is so of the lanes of a list's rows then.
use Rattle.std.proofs.Common.{◌≡◌, ℕ, ◌+◌, ◌-◌, ◌<◌, ◌≤◌, ◌||◌, ◌↔◌, Bool, false, List, [], ◌++◌, Some, slice_get, ap, refl, below_more, get_or, get_or-set_other, get_or-set_same, length, length-set, set, sym, take, ◌∙◌, arith}
use Rattle.std.proofs.lemmas.List.{ext_get_or, get_or-map, get_or-take, get_or_default, get_or_read, length-map, length-take-le, set-append_right}
use Rattle.interval_ops.specs.Choices.{choice_of}
use Rattle.interval_ops.specs.Spans.{Interval, all_numbers}
use Rattle.interval_ops.specs.declared.choice.Choice.{Choice}
use Rattle.interval_ops.specs.declared.choice.Choice.TheVariants.{Left, Right, Both}
use Rattle.interval_ops.specs.declared.region.Region.{Region}
use Rattle.live_clauses.specs.Choices.{choice_at, choice_in, lane}
use Rattle.live_clauses.specs.Steps.{AreSteps}
use Rattle.live_clauses.specs.declared.choice_row.ChoiceRow.{ChoiceRow}
use Rattle.live_clauses.specs.declared.step.Step.{Step}
use Rattle.choice_trace.specs.Halves.{is_made, row_in}
use Rattle.choice_trace.specs.Hulls.{choices_over, hull_at, hull_in, step_hull}
use Rattle.choice_trace.proofs.HullLists.{choice_of-same, hull_at-step, step_hull-same}
use Rattle.choice_trace.proofs.Traces.{choice_there}
use Rattle.std.proofs.lemmas.Bool.{or_parts}

-- a lane of two rows is read
pub lane_read : {B : Type 0} (f : Interval → Interval → B) (a b : List Interval) (l : ℕ) (x y : Interval) → l < length a → l < length b
    → f (get_or a l x) (get_or b l y) ≡ f (get_or a l all_numbers) (get_or b l all_numbers)
lane_read f a b l x y in_a in_b =
    ap (λ s. f s (get_or b l y)) (get_or_default a l x all_numbers in_a) ∙ ap (λ s. f (get_or a l all_numbers) s) (get_or_default b l y all_numbers in_b)

-- a lane of two rows of a list is read
pub lane_of_rows : {B : Type 0} (f : Interval → Interval → B) (rows : List (List Interval)) (i j l : ℕ) (x y : List Interval) → i < length rows → j < length rows
    → x ≡ get_or rows i x → y ≡ get_or rows j y → f (hull_in x l) (hull_in y l) ≡ f (hull_in (row_in rows i) l) (hull_in (row_in rows j) l)
lane_of_rows f rows i j l x y first second is_x is_y =
    ap (λ (row : List Interval). f (hull_in row l) (hull_in y l)) (get_or_read rows i x first is_x [])
    ∙ ap (λ (row : List Interval). f (hull_in (row_in rows i) l) (hull_in row l)) (get_or_read rows j y second is_y [])

-- a row that is written behind those before it is written into all of them
pub row_written : {A : Type 0} (rows front back : List A) (at : ℕ) (row : A) → rows ≡ front ++ back → length front ≡ at
    → front ++ set back 0 row ≡ set rows at row
row_written rows front back at row whole len =
    let start : at - at ≡ 0 = omega arith in
    sym (ap (λ l. set l at row) whole ∙ set-append_right front back at at row len (omega arith) ∙ ap (λ n. front ++ set back n row) start)

-- a lane of the rows before a place holds the hulls of a list so far
abbrev pub AreTraced : Region → List Step → ℕ → ℕ → List (List Interval) → Type 0
AreTraced region steps at l rows = (place : ℕ) → place < at → hull_in (row_in rows place) l ≡ hull_at region steps place

-- an operand that is read from the rows before a place
operand : (region : Region) (steps : List Step) (at l : ℕ) (rows earlier : List (List Interval)) → earlier ≡ take at rows → AreTraced region steps at l rows
    → AreTraced region steps at l earlier
operand region steps at l rows earlier front below place h =
    ap (λ all. hull_in (row_in all place) l) front ∙ ap (λ row. hull_in row l) (get_or-take at rows place [] h) ∙ below place h

-- the hull that a lane of a step gets is the list's
pub hull_made : (region : Region) (steps : List Step) (at l : ℕ) (step : Step) (rows earlier : List (List Interval)) (new : Interval)
    → AreSteps steps → slice_get steps at ≡ Some step → earlier ≡ take at rows → AreTraced region steps at l rows
    → new ≡ step_hull step.op region step.value (hull_in (row_in earlier step.a) l) (hull_in (row_in earlier step.b) l) → new ≡ hull_at region steps at
hull_made region steps at l step rows earlier new stand is front below made =
    let fits = (stand at step is).fits in
    let read = operand region steps at l rows earlier front below in
    made
    ∙ step_hull-same step.op region step.value (hull_in (row_in earlier step.a) l) (hull_in (row_in earlier step.b) l) (hull_at region steps step.a) (hull_at region steps step.b)
    (λ h. read step.a (fits.first h)) (λ h. read step.b (fits.second h))
    ∙ sym (hull_at-step region steps at step stand is)

-- and so is its choice
pub choice_made : (region : Region) (steps : List Step) (at l : ℕ) (step : Step) (rows earlier : List (List Interval)) (new : Choice)
    → AreSteps steps → slice_get steps at ≡ Some step → earlier ≡ take at rows → AreTraced region steps at l rows
    → new ≡ choice_of step.op (hull_in (row_in earlier step.a) l) (hull_in (row_in earlier step.b) l) → new ≡ choice_at (choices_over region steps) at
choice_made region steps at l step rows earlier new stand is front below made =
    let fits = (stand at step is).fits in
    let read = operand region steps at l rows earlier front below in
    made
    ∙ choice_of-same step.op (hull_in (row_in earlier step.a) l) (hull_in (row_in earlier step.b) l) (hull_at region steps step.a) (hull_at region steps step.b)
    (λ h. read step.a (fits.first h)) (λ h. read step.b (fits.second h))
    ∙ sym (choice_there region steps at step is)

-- so many choices are of both operands
abbrev pub AreBoth : ℕ → List Choice → Type 0
AreBoth count choices = (place : ℕ) → place < count → choice_at choices place ≡ Both

-- a choice of no single operand is of both
not_made : (choice : Choice) → is_made choice ≡ false → choice ≡ Both
not_made Left e = (cc)
not_made Right e = (cc)
not_made Both e = refl

-- a flag that one more choice raises
pub flag_more : (old new : Bool) (choices : List Choice) (at : ℕ) (choice : Choice) → new ≡ (old || is_made choice) → choice ≡ choice_at choices at
    → (old ≡ false) ↔ AreBoth at choices → (new ≡ false) ↔ AreBoth (at + 1) choices
flag_more old new choices at choice is here both = (
  λ off. let off_both = or_parts old (is_made choice) (sym is ∙ off) in
      below_more (λ place. choice_at choices place ≡ Both) at (both.0 off_both.0) (sym here ∙ not_made choice off_both.1),
  λ all. is ∙ ap (λ flag. flag || is_made choice) (both.1 (λ place h. all place (omega (arith, h)))) ∙ ap is_made (here ∙ all at (omega arith)),
)

-- a row that is written is one choice more in each lane
pub lane_written : (rows : List ChoiceRow) (all : List Choice) (at l : ℕ) (new : ChoiceRow) → at < length rows → ((place : ℕ) → place < at → choice_at (lane l rows) place ≡ choice_at all place)
    → choice_in new l ≡ choice_at all at → (place : ℕ) → place < at + 1 → choice_at (lane l (set rows at new)) place ≡ choice_at all place
lane_written rows all at l new room below here =
    let f : ChoiceRow → Choice = λ row. choice_in row l in
    below_more (λ place. choice_at (lane l (set rows at new)) place ≡ choice_at all place) at
    (λ place h.
    get_or-map f (set rows at new) place new Both (omega (arith, h, room, length-set rows at new)) ∙ ap f (get_or-set_other rows at place new new (λ e. omega (arith, e, h)))
    ∙ sym (get_or-map f rows place new Both (omega (arith, h, room))) ∙ below place h)
    (get_or-map f (set rows at new) at new Both (omega (arith, room, length-set rows at new)) ∙ ap f (get_or-set_same rows at new new room) ∙ here)

-- the choices of a lane are the list's
pub lane_traced : (rows : List ChoiceRow) (all : List Choice) (n l : ℕ) → n ≤ length rows → length all ≡ n
    → ((place : ℕ) → place < n → choice_at (lane l rows) place ≡ choice_at all place) → take n (lane l rows) ≡ all
lane_traced rows all n l room len each =
    let kept : length (take n (lane l rows)) ≡ n = length-take-le n (lane l rows) (omega (arith, length-map rows (λ row. choice_in row l))) in
    ext_get_or Both (take n (lane l rows)) all (kept ∙ sym len)
    (λ place h. get_or-take n (lane l rows) place Both (omega (arith, h, kept)) ∙ each place (omega (arith, h, kept)))
