-- Each token that is a text is the next word, and one that is none leaves no words.
use Rattle.std.proofs.Common.{ap, ◌∙◌}
use Rattle.view_settings.specs.Words.{bytes_of}
use Rattle.modeller_c.proofs.WordLemmas.{takes-more, takes-none}
use Rattle.modeller_c.proofs.words.words_of.Goals as goal

pub returns-in_default-from_utf8 : goal.returns-in_default-from_utf8
returns-in_default-from_utf8 c =
    ap bytes_of c.new.ensures.items
    ∙ takes-none c.args.line.now (bytes_of c.loop-token.words.items) c.in-Some.token.now c.loop-token.tokens c.next.new.self
    c.loop-token.invariant c.in-Some.ensures.next c.in_default-from_utf8.ensures.cases.0

pub loop-token-preserved : goal.loop-token-preserved
loop-token-preserved c =
    rw c.in_ok-push_word.ensures
    (rw c.in-Ok.ensures.cases.0
    (takes-more c.args.line.now (bytes_of c.loop-token.words.items) c.in-Some.token.now c.loop-token.tokens c.next.new.self
    c.loop-token.invariant c.in-Some.ensures.next (c.in-Ok.ensures.cases.1)))
