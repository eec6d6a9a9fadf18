-- The law of results is a lemma.
use Rattle.fixed_ops.proofs.ResultLaws.{IsRaw-op_result}
use Rattle.fixed_ops.proofs.laws.raw_results.Goals as goal

pub returns : goal.returns
returns c = IsRaw-op_result
