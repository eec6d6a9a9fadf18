-- A front of the second text behind the whole first one is a front of both.
use Rattle.std.proofs.lemmas.Result.{on_err_weaker}
use Rattle.modeller_cmd.proofs.Bands.{front-then}
use Rattle.modeller_cmd.proofs.send.write_apart.Goals as goal

pub returns-clause-err : goal.returns-clause-err
returns-clause-err g c =
    on_err_weaker c.write_all-2.result
    (λ rest. front-then g.K.Sink.held c.args.out.now c.write_all.new.sink c.write_all-2.new.sink c.args.first.now c.args.next.now c.in_ok-write_all.ensures.ok rest)
    c.write_all-2.ensures.err
