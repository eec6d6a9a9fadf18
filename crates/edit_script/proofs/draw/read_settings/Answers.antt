-- Each word is taken after those before it.
use Rattle.std.proofs.Common.{Ok, Err, sym, ◌∙◌}
use Rattle.edit_script.proofs.SettingLemmas.{takes-more, takes-none, takes-all}
use Rattle.edit_script.proofs.draw.read_settings.Goals as goal

pub returns-then-is_err-clause-value : goal.returns-then-is_err-clause-value
returns-then-is_err-clause-value c =
    takes-none c.args.verb c.args.tokens c.loop-word.settings c.in-Some.word.now c.next.new.self c.loop-word.tokens c.take.result
    c.loop-word.invariant c.in-Some.ensures.next c.take.ensures.fault (sym c.is_err.ensures.value ∙ c.if-is_err.true)

pub loop-word-preserved : goal.loop-word-preserved
loop-word-preserved c =
    takes-more c.args.verb c.args.tokens c.loop-word.settings c.take.new.self c.in-Some.word.now c.next.new.self c.loop-word.tokens c.take.result
    c.loop-word.invariant c.in-Some.ensures.next c.take.ensures.ok (sym c.is_err.ensures.value ∙ c.if-is_err.false)

pub returns-in-Ok-clause-value : goal.returns-in-Ok-clause-value
returns-in-Ok-clause-value c =
    takes-all c.args.verb c.args.tokens c.loop-word.settings c.loop-word.tokens (Ok c.in-Ok.job) c.loop-word.invariant c.in_default.ensures.next.0
    (sym c.finish.ensures.job ∙ c.in-Ok.is)

pub returns-in-Err-clause-value : goal.returns-in-Err-clause-value
returns-in-Err-clause-value c =
    takes-all c.args.verb c.args.tokens c.loop-word.settings c.loop-word.tokens (Err c.in-Err.field-0) c.loop-word.invariant c.in_default.ensures.next.0
    (sym c.finish.ensures.job ∙ c.in-Err.is)
