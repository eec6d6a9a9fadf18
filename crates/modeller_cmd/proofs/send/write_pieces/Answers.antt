-- Each piece is written after those before it, and none is left behind.
use Rattle.std.proofs.Common.{◌≡◌, ◌++◌, ◌∙◌, [], ap, append-nil, append_assoc, refl, subst, sym}
use Rattle.modeller_io.specs.Held.{Gains, GainsProperPrefix}
use Rattle.modeller_cmd.proofs.Gaining.{GainsProperPrefix-after, Gains-then, RoseBy-after, on-err}
use Rattle.modeller_cmd.proofs.send.write_pieces.Goals as goal

pub loop-out-init : goal.loop-out-init
loop-out-init g c = record {
  front = c.args.text.piece;
  gained = subst (Gains g.K.Sink.held c.args.out.now c.write_all.new.sink) c.piece.ensures.piece c.in_ok-write_all.ensures.ok;
  whole = refl;
  no_fault = c.in_ok-write_all.ensures.no_fault;
}

pub loop-out-smaller : goal.loop-out-smaller
loop-out-smaller g c = c.loop-out-test.ensures.shorter refl

pub loop-out-preserved : goal.loop-out-preserved
loop-out-preserved g c =
    let so_far = c.loop-out.invariant in
    record {
      front = so_far.front ++ c.advance.new.self.piece;
      gained = Gains-then g.K.Sink.held c.args.out.now c.loop-out.out c.write_all-in-loop-out.new.sink so_far.front c.advance.new.self.piece so_far.gained
          (subst (Gains g.K.Sink.held c.loop-out.out c.write_all-in-loop-out.new.sink) c.piece-in-loop-out.ensures.piece c.in_ok-write_all-2.ensures.ok);
      whole = append_assoc so_far.front c.advance.new.self.piece c.advance.new.self.rest ∙ ap (λ rest. so_far.front ++ rest) (sym (c.loop-out-test.ensures.more refl)) ∙ so_far.whole;
      no_fault = c.in_ok-write_all-2.ensures.no_fault ∙ so_far.no_fault;
    }

pub returns-in_err-write_all-2-clause-err : goal.returns-in_err-write_all-2-clause-err
returns-in_err-write_all-2-clause-err g c =
    let so_far = c.loop-out.invariant in
    on-err c.from_residual-in_err-write_all-2.result _
    (subst (GainsProperPrefix g.K.Sink.held c.args.out.now c.write_all-in-loop-out.new.sink)
    (ap (λ rest. so_far.front ++ rest) (sym (c.loop-out-test.ensures.more refl)) ∙ so_far.whole)
    (GainsProperPrefix-after g.K.Sink.held c.args.out.now c.loop-out.out c.write_all-in-loop-out.new.sink so_far.front c.advance.new.self.piece c.advance.new.self.rest so_far.gained
    (subst (GainsProperPrefix g.K.Sink.held c.loop-out.out c.write_all-in-loop-out.new.sink) c.piece-in-loop-out.ensures.piece c.in_err-write_all-2.ensures.err)))

pub returns-in_err-write_all-2-clause-cause : goal.returns-in_err-write_all-2-clause-cause
returns-in_err-write_all-2-clause-cause g c =
    on-err c.from_residual-in_err-write_all-2.result _
    (RoseBy-after g.K.Sink.faults c.args.out.now c.loop-out.out c.write_all-in-loop-out.new.sink 1 c.loop-out.invariant.no_fault c.in_err-write_all-2.ensures.cause)

pub returns-clause-ok : goal.returns-clause-ok
returns-clause-ok g c =
    let so_far = c.loop-out.invariant in
    let none : c.loop-out.text.rest ≡ [] = c.loop-out-test.ensures.done.0 refl in
    subst (Gains g.K.Sink.held c.args.out.now c.loop-out.out) (sym (append-nil so_far.front) ∙ ap (λ rest. so_far.front ++ rest) (sym none) ∙ so_far.whole) so_far.gained

pub returns-clause-no_fault : goal.returns-clause-no_fault
returns-clause-no_fault g c = c.loop-out.invariant.no_fault
