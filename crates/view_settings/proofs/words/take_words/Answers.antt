use Rattle.std.proofs.Common.{sym, ◌∙◌}
use Rattle.view_settings.proofs.WordLaws.{taken_next, refused_next, all_taken}
use Rattle.view_settings.proofs.words.take_words.Goals as goal

pub returns-in-Err : goal.returns-in-Err
returns-in-Err c =
    let refused = rw c.as_bytes.ensures.value at c.in-Err.ensures.fault in
    let same = refused_next c.loop-word.settings c.in-Err.reason c.args.words.now c.loop-word.word-index c.word-item.result c.loop-word-test.true c.word-item.is refused ∙ c.loop-word.invariant in
    rw (c.fault.ensures, c.len-at.ensures.len) same

pub loop-word-preserved : goal.loop-word-preserved
loop-word-preserved c =
    let taken = rw c.as_bytes.ensures.value at c.in_default.ensures.ok in
    taken_next c.loop-word.settings c.take.new.self c.args.words.now c.loop-word.word-index c.word-item.result c.loop-word-test.true c.word-item.is taken ∙ c.loop-word.invariant

pub returns : goal.returns
returns c = sym (all_taken c.loop-word.settings c.args.words.now c.loop-word.word-index c.loop-word-test.false) ∙ c.loop-word.invariant
