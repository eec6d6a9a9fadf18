-- The text of a solid is read as its clauses.
use Rattle.std.proofs.Common.{ap, ◌∙◌, sym}
use Rattle.clause_reader.specs.Reading.{text_read}
use Rattle.solid_lang.proofs.LineLemmas.{text_is_lines}
use Rattle.solid_lang.proofs.ModelLemmas.{compiled_text_is_read}
use Rattle.solid_lang.specs.Solids.{tree}
use Rattle.solid_lang.proofs.text.solid_text.Goals as goal

pub returns-clause-read : goal.returns-clause-read
returns-clause-read c =
    let solid = tree c.args.solid.now in
    rw (c.in_ok-put_all.ensures, c.in_ok-text.ensures.items)
    (sym (ap text_read (text_is_lines solid)) ∙ compiled_text_is_read solid c.count_clauses-count.ensures.raw c.requires.few)
