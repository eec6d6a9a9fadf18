-- The blanks are the longest run of them.
use Rattle.std.proofs.Common.{drop, sym, subst}
use Rattle.std.proofs.lemmas.List.{take_rest}
use Rattle.clause_reader.specs.Scan.{SkipsBlanks}
use Rattle.clause_reader.proofs.Scans.{skips-blanks}
use Rattle.clause_reader.proofs.token.skip_blanks.Goals as goal

pub returns : goal.returns
returns c =
    rw take_rest (subst (λ n. SkipsBlanks c.args.text.now (drop n c.args.text.now)) (sym c.blank_len.ensures.value) (skips-blanks c.args.text.now))
