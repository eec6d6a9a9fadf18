-- What ends the work: the words are refused, the source is not read, or the job was executed.
use Rattle.std.proofs.Common.{◌≡◌, Err, ap, arith, ◌∙◌}
use Rattle.view_settings.specs.Words.{bytes_of}
use Rattle.modeller_cmd.specs.Asking.{asks_nothing, input_told, reads_nothing}
use Rattle.modeller_cmd.proofs.Inputs.{told-by-words}
use Rattle.modeller_cmd.proofs.Outcomes.{some_follows}
use Rattle.modeller_cmd.proofs.Running.{executed-end, unread-end, words-end}
use Rattle.modeller_cmd.proofs.Soundness.{laws_of}
use Rattle.std.proofs.lemmas.Bool.{false_from_ne_true}
use Rattle.modeller_cmd.proofs.command.work.Goals as goal

pub returns-in_err-job-clause-run : goal.returns-in_err-job-clause-run
returns-in_err-job-clause-run g c =
    words-end g.S.Source.rest g.S.Source.taken g.S.Source.faults g.K.Sink.held g.K.Sink.faults (bytes_of c.args.words.now) c.args.source.now c.args.out.now c.args.tally.now
    c.from_residual.result c.in_err-job.field-0.0 c.in_err-job.ensures.job c.from_residual.ensures.1

pub returns-in_err-input-clause-run : goal.returns-in_err-input-clause-run
returns-in_err-input-clause-run g c =
    let read = c.in_err-input.ensures in
    unread-end g.S.Source.rest g.S.Source.taken g.S.Source.faults g.K.Sink.held g.K.Sink.faults (bytes_of c.args.words.now) c.args.source.now c.args.out.now c.args.tally.now
    c.read_input.new.source c.in_ok-job.job c.in_err-input.field-0.0 c.in_ok-job.ensures.job c.in_ok-job.ensures.nothing
    (false_from_ne_true (reads_nothing c.in_ok-job.job) (λ nothing. grind (arith, (read.unasked nothing).0)))
    (λ is. read.failed (ap (λ e. Err e) is)) (λ other. read.no_fault (λ is. other cc)) (λ is. read.too_long (ap (λ e. Err e) is)) (λ is. read.too_long_took (ap (λ e. Err e) is))
    (λ more below. let long = read.too_long_there more below in cc) read.lost c.from_residual-in_err-input.result c.from_residual-in_err-input.ensures.1

pub returns-clause-run : goal.returns-clause-run
returns-clause-run g c =
    let words = bytes_of c.args.words.now in
    let job = c.in_ok-job.job in
    let read = c.in_ok-input.ensures in
    let all = some_follows (input_told g.S.Source.rest c.args.source.now (asks_nothing words)) _ (λ bytes. c.deref.result.now ≡ bytes) (λ bytes same. c.deref.ensures.value ∙ same)
    (told-by-words g.S.Source.rest c.args.source.now (reads_nothing job) (asks_nothing words) _ c.in_ok-job.ensures.nothing read.all) in
    executed-end g.S.Source.rest g.S.Source.taken g.S.Source.faults g.K.Sink.held g.K.Sink.faults words c.args.source.now c.args.out.now c.args.tally.now
    c.read_input.new.source c.execute.new.out c.execute.new.tally job c.deref.result.now c.in_ok-job.ensures.job c.in_ok-job.ensures.nothing all
    (omega (arith, read.within, c.deref.ensures.len)) (read.no_fault (λ is. cc)) read.whole (λ nothing. (read.unasked nothing).1) (λ more below. let long = read.too_long_there more below in cc) read.lost
    c.execute.result c.execute.ensures

pub returns-in_err-job-clause-laws : goal.returns-in_err-job-clause-laws
returns-in_err-job-clause-laws g c = λ input.
    laws_of (bytes_of c.args.words.now) input c.read_job.result c.read_job.ensures.job c.read_job.ensures.keeps

pub returns-in_err-input-clause-laws : goal.returns-in_err-input-clause-laws
returns-in_err-input-clause-laws g c = λ input.
    laws_of (bytes_of c.args.words.now) input c.read_job.result c.read_job.ensures.job c.read_job.ensures.keeps

pub returns-clause-laws : goal.returns-clause-laws
returns-clause-laws g c = λ input.
    laws_of (bytes_of c.args.words.now) input c.read_job.result c.read_job.ensures.job c.read_job.ensures.keeps
