use Rattle.std.proofs.Common.{subst}
use Rattle.modeller_io.specs.Held.{Gains, GainsProperPrefix}
use Rattle.grid_text.specs.Texts.{text_of}
use Rattle.modeller_cmd.proofs.AtOnce.{sent-in-part, sent-none}
use Rattle.modeller_cmd.proofs.send.send_mesh.Goals as goal

pub returns-in_err-pieces : goal.returns-in_err-pieces
returns-in_err-pieces g c = sent-none g.K.Sink.held g.K.Sink.faults c.args.out.now (text_of c.args.grid.now.view c.args.grid.now.list) c.from_residual.result c.from_residual.ensures.1

pub returns-in_err-write_pieces : goal.returns-in_err-write_pieces
returns-in_err-write_pieces g c =
    sent-in-part g.K.Sink.held g.K.Sink.faults c.args.out.now c.write_pieces.new.out (text_of c.args.grid.now.view c.args.grid.now.list) c.from_residual-in_err-write_pieces.result c.from_residual-in_err-write_pieces.ensures.1
    (record {
      gained = subst (GainsProperPrefix g.K.Sink.held c.args.out.now c.write_pieces.new.out) c.in_ok-pieces.ensures c.in_err-write_pieces.ensures.err;
      fault = c.in_err-write_pieces.ensures.cause;
    })

pub returns : goal.returns
returns g c = record {
  stop = tt;
  gained = subst (Gains g.K.Sink.held c.args.out.now c.write_pieces.new.out) c.in_ok-pieces.ensures c.in_ok-write_pieces.ensures.ok;
  no_fault = c.in_ok-write_pieces.ensures.no_fault;
  failed = λ is. cc;
  unwritten = λ is. cc;
}
