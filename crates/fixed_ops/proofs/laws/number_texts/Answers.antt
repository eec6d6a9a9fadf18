-- The law of number texts is a lemma.
use Rattle.fixed_ops.proofs.TextLaws.{number_text_reads}
use Rattle.fixed_ops.proofs.laws.number_texts.Goals as goal

pub returns : goal.returns
returns c = number_text_reads
