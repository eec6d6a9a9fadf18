-- The token is the longest run of its bytes.
use Rattle.std.proofs.Common.{take, drop, sym, subst}
use Rattle.clause_reader.specs.Scan.{SplitsRun}
use Rattle.clause_reader.proofs.Scans.{splits-run}
use Rattle.clause_reader.proofs.token.split_run.Goals as goal

pub returns : goal.returns
returns c =
    rw (c.split_at.ensures.front, c.split_at.ensures.back)
    (subst (λ n. SplitsRun c.args.text.now (take n c.args.text.now) (drop n c.args.text.now)) (sym c.run_len.ensures.value) (splits-run c.args.text.now))
