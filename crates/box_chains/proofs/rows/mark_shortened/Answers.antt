-- The lanes of boxes that hand on shorter lists are marked, and where there are none nothing is.
use Rattle.std.proofs.Common.{length, take, inl, inr, ap, sym, ◌∙◌, arith}
use Rattle.std.proofs.lemmas.Bool.{false≢true, cases_lt}
use Rattle.std.proofs.lemmas.List.{take-map}
use Rattle.live_clauses.specs.Choices.{choice_in, lane}
use Rattle.box_chains.proofs.rows.mark_shortened.Goals as goal

pub mark_lanes-requires-clause-choices : goal.mark_lanes-requires-clause-choices
mark_lanes-requires-clause-choices g c = λ l few asked. elim (cases_lt l g.row.L) [
  | inl within ↦
      let same = sym (take-map (λ row. choice_in row l) c.len.result c.args.rows.now)
      ∙ ap (λ n. take n (lane l c.args.rows.now)) (c.len.ensures.len ∙ ap length c.list-list.ensures.list) in
      rw (c.list-list.ensures.list, same) (c.requires.only l within)
  | inr past ↦ absurd (false≢true (sym (c.shortened-lanes.ensures.others l past) ∙ asked))
]

pub returns-then-lanes-ne0 : goal.returns-then-lanes-ne0
returns-then-lanes-ne0 g c = λ l within is.
    let same = sym (take-map (λ row. choice_in row l) c.len.result c.args.rows.now)
    ∙ ap (λ n. take n (lane l c.args.rows.now)) (c.len.ensures.len ∙ ap length c.list-list.ensures.list) in
    let marked = c.mark_lanes.ensures l (omega (arith, within, c.requires.lanes)) (c.shortened-lanes.ensures.within l within ∙ is) in
    rw (← same, ← c.list-list.ensures.list) marked
