-- The memory of the places is filled with 0, and the last one is set.
use Rattle.std.proofs.Common.{◌≡◌, replicate, drop, ap, ◌∙◌}
use Rattle.std.proofs.lemmas.List.{length-take-le}
use Rattle.live_clauses.proofs.Bits.{marked-last}
use Rattle.live_clauses.proofs.marking.mark_last.Goals as goal

pub returns : goal.returns
returns c = λ l place within.
    let filled : c.fill.new.self ≡ replicate c.args.places 0 = c.fill.ensures.after (λ y is. is) ∙ ap (λ n. replicate n 0) (length-take-le c.args.places c.args.marks.now c.requires.room) in
    marked-last l c.args.places c.args.lanes c.fill.new.self (drop c.args.places c.args.marks.now) filled c.requires.some place within
