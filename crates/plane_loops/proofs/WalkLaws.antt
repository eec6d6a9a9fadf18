-- Walks along successors, as the code takes them.
use Rattle.std.proofs.Common.{◌≡◌, ℕ, zero, suc, ◌+◌, ◌-◌, ◌<◌, ◌≤◌, Bool, true, false, List, [], ◌∷◌, ◌++◌, refl, arith, ap, sym, ◌∙◌, length, get_or, set}
use Rattle.std.specs.List.{concat, range_with_len}
use Rattle.std.proofs.lemmas.List.{append-nil, append_assoc, get_or_default, length-append}
use Rattle.plane_loops.specs.Contours.{ends_from}
use Rattle.plane_loops.specs.Following.{loops_from, mark_all, rest_from, unmarked, walk}
use Rattle.plane_loops.proofs.Lists.{at, unmarked_less}
use Rattle.fixed_ops.proofs.Lists.{range_step}

walk_suc : (more : ℕ) (next : List ℕ) (marks : List Bool) (v : ℕ) → at marks v ≡ false → walk (suc more) next marks v ≡ v ∷ walk more next (set marks v true) (get_or next v 0)
unfolding walk
walk_suc more next marks v h = rw h refl

pub walk_on : (next : List ℕ) (marks : List Bool) (v : ℕ) → v < length marks → at marks v ≡ false → walk (unmarked marks) next marks v ≡ v ∷ walk (unmarked (set marks v true)) next (set marks v true) (get_or next v 0)
walk_on next marks v within h =
    ap (λ (m : ℕ). walk m next marks v) (unmarked_less marks v within h) ∙ walk_suc (unmarked (set marks v true)) next marks v h

pub walk_off : (more : ℕ) (next : List ℕ) (marks : List Bool) (v : ℕ) → at marks v ≡ true → walk more next marks v ≡ []
unfolding walk
walk_off zero next marks v h = refl
walk_off (suc more) next marks v h = rw h refl

pub mark_cons : (marks : List Bool) (v : ℕ) (vs : List ℕ) → mark_all marks (v ∷ vs) ≡ mark_all (set marks v true) vs
unfolding mark_all
mark_cons marks v vs = refl

pub mark_none : (marks : List Bool) → mark_all marks [] ≡ marks
unfolding mark_all
mark_none marks = refl

pub loops_skip : (next : List ℕ) (marks : List Bool) (v : ℕ) (vs : List ℕ) → at marks v ≡ true → loops_from next marks (v ∷ vs) ≡ loops_from next marks vs
unfolding loops_from
loops_skip next marks v vs h = rw h refl

pub loops_take : (next : List ℕ) (marks : List Bool) (v : ℕ) (vs : List ℕ) → at marks v ≡ false → loops_from next marks (v ∷ vs) ≡ walk (unmarked marks) next marks v ∷ loops_from next (mark_all marks (walk (unmarked marks) next marks v)) vs
unfolding loops_from
loops_take next marks v vs h = rw h refl

pub loops_none : (next : List ℕ) (marks : List Bool) → loops_from next marks [] ≡ []
unfolding loops_from
loops_none next marks = refl

-- ---- one more vertex of a loop

pub order_on : (next : List ℕ) (marks : List Bool) (v : ℕ) (d : Bool) (order longer out : List ℕ) → v < length marks → get_or marks v d ≡ false → longer ≡ order ++ v ∷ [] → order ++ walk (unmarked marks) next marks v ≡ out → longer ++ walk (unmarked (set marks v true)) next (set marks v true) (get_or next v 0) ≡ out
order_on next marks v d order longer out within h e whole =
    let rest = walk (unmarked (set marks v true)) next (set marks v true) (get_or next v 0) in
    let free = get_or_default marks v true d within ∙ h in
    ap (λ l. l ++ rest) e ∙ append_assoc order (v ∷ []) rest ∙ ap (λ l. order ++ l) (sym (walk_on next marks v within free)) ∙ whole

pub marks_on : (next : List ℕ) (marks : List Bool) (v : ℕ) (d : Bool) (out : List Bool) → v < length marks → get_or marks v d ≡ false → mark_all marks (walk (unmarked marks) next marks v) ≡ out → mark_all (set marks v true) (walk (unmarked (set marks v true)) next (set marks v true) (get_or next v 0)) ≡ out
marks_on next marks v d out within h whole =
    let free = get_or_default marks v true d within ∙ h in
    sym (mark_cons marks v _) ∙ ap (mark_all marks) (sym (walk_on next marks v within free)) ∙ whole

pub order_off : (next : List ℕ) (marks : List Bool) (v : ℕ) (d : Bool) (order out : List ℕ) → v < length marks → get_or marks v d ≡ true → order ++ walk (unmarked marks) next marks v ≡ out → order ≡ out
order_off next marks v d order out within h whole =
    let done = walk_off (unmarked marks) next marks v (get_or_default marks v true d within ∙ h) in
    sym (append-nil order) ∙ ap (λ l. order ++ l) (sym done) ∙ whole

pub marks_off : (next : List ℕ) (marks : List Bool) (v : ℕ) (d : Bool) (out : List Bool) → v < length marks → get_or marks v d ≡ true → mark_all marks (walk (unmarked marks) next marks v) ≡ out → marks ≡ out
marks_off next marks v d out within h whole =
    let done = walk_off (unmarked marks) next marks v (get_or_default marks v true d within ∙ h) in
    sym (mark_none marks) ∙ ap (mark_all marks) (sym done) ∙ whole

pub count_on : (marks : List Bool) (v : ℕ) (d : Bool) (long all : ℕ) → v < length marks → get_or marks v d ≡ false → long + unmarked marks ≡ all → (long + 1) + unmarked (set marks v true) ≡ all
count_on marks v d long all within h whole =
    let e = unmarked_less marks v within (get_or_default marks v true d within ∙ h) in
    omega (arith, e, whole)

-- ---- one more start

pub rest_skip : (next : List ℕ) (marks : List Bool) (s : ℕ) (d : Bool) → length marks ≡ length next → s < length next → get_or marks s d ≡ true → rest_from next marks s ≡ rest_from next marks (s + 1)
rest_skip next marks s d size few h =
    ap (loops_from next marks) (range_step (length next) s few) ∙ loops_skip next marks s (range_with_len (s + 1) (length next - (s + 1))) (get_or_default marks s true d (omega (arith, size, few)) ∙ h)

pub rest_take : (next : List ℕ) (marks : List Bool) (s : ℕ) (d : Bool) → length marks ≡ length next → s < length next → get_or marks s d ≡ false → rest_from next marks s ≡ walk (unmarked marks) next marks s ∷ rest_from next (mark_all marks (walk (unmarked marks) next marks s)) (s + 1)
rest_take next marks s d size few h =
    ap (loops_from next marks) (range_step (length next) s few) ∙ loops_take next marks s (range_with_len (s + 1) (length next - (s + 1))) (get_or_default marks s true d (omega (arith, size, few)) ∙ h)

pub take_order : (loop : List ℕ) (loops all : List (List ℕ)) (order more out : List ℕ) → all ≡ loop ∷ loops → more ≡ order ++ loop → order ++ concat all ≡ out → more ++ concat loops ≡ out
take_order loop loops all order more out e f whole =
    ap (λ l. l ++ concat loops) f ∙ append_assoc order loop (concat loops) ∙ ap (λ l. order ++ concat l) (sym e) ∙ whole

pub take_ends : (loop : List ℕ) (loops all : List (List ℕ)) (order more ends longer out : List ℕ) → all ≡ loop ∷ loops → more ≡ order ++ loop → longer ≡ ends ++ length more ∷ [] → ends ++ ends_from (length order) all ≡ out → longer ++ ends_from (length more) loops ≡ out
take_ends loop loops all order more ends longer out e f g whole =
    let long : length more ≡ length order + length loop = ap length f ∙ length-append order loop in
    ap (λ l. l ++ ends_from (length more) loops) g
    ∙ append_assoc ends (length more ∷ []) (ends_from (length more) loops)
    ∙ ap (λ n. ends ++ n ∷ ends_from n loops) long
    ∙ ap (λ l. ends ++ ends_from (length order) l) (sym e)
    ∙ whole

pub rest_none : (next : List ℕ) (marks : List Bool) (s : ℕ) → length next ≤ s → rest_from next marks s ≡ []
rest_none next marks s all = let e : length next - s ≡ 0 = omega (arith, all) in ap (λ n. loops_from next marks (range_with_len s n)) e ∙ loops_none next marks

pub rest_by : (next : List ℕ) (marks new : List Bool) (s : ℕ) (d : Bool) → length marks ≡ length next → s < length next → get_or marks s d ≡ false → new ≡ mark_all marks (walk (unmarked marks) next marks s) → rest_from next marks s ≡ walk (unmarked marks) next marks s ∷ rest_from next new (s + 1)
rest_by next marks new s d size few h e =
    rest_take next marks s d size few h ∙ ap (λ m. walk (unmarked marks) next marks s ∷ rest_from next m (s + 1)) (sym e)
