-- All tokens are built.
use Rattle.std.proofs.Common.{sym, ap, ◌∙◌}
use Rattle.solid_lang.specs.Building.{solid_read}
use Rattle.solid_lang.proofs.Passing.{Tokens}
use Rattle.solid_lang.proofs.reader.build_text.Goals as goal

pub build-requires : goal.build-requires
build-requires c = rw c.new-tokens.ensures c.requires.good

pub returns-in-Ok-clause-solid : goal.returns-in-Ok-clause-solid
returns-in-Ok-clause-solid c =
    (c.build.new.tokens, ap (λ (xs : Tokens). solid_read 256 xs) (sym c.new-tokens.ensures) ∙ c.in-Ok.ensures)
