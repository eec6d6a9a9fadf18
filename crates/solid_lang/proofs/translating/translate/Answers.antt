-- A text of which no solid is built is refused, or memory was.
use Rattle.std.proofs.Common.{◌≡◌, ◌≢◌, IsOk, Err}
use Rattle.solid_lang.specs.Translated.{translated}
use Rattle.solid_lang.specs.declared.solid_reason.SolidReason.TheVariants.{NoMemory}
use Rattle.solid_lang.proofs.Translations.{handed_on, short_lacks, short_refused}
use Rattle.solid_lang.proofs.translating.translate.Goals as goal

pub returns-in_err-solid-clause-err : goal.returns-in_err-solid-clause-err
returns-in_err-solid-clause-err c =
    let text = c.args.text.now in
    let fault = c.in_err-solid.field-0.0 in
    handed_on c.from_residual.result fault (λ f. f.reason ≢ NoMemory → translated text ≡ Err f) c.from_residual.ensures.1
    (short_refused text fault.line fault.reason c.in_err-solid.ensures)

pub returns-in_err-solid-clause-memory : goal.returns-in_err-solid-clause-memory
returns-in_err-solid-clause-memory c =
    let text = c.args.text.now in
    let fault = c.in_err-solid.field-0.0 in
    handed_on c.from_residual.result fault (λ f. f.reason ≡ NoMemory → (f.line ≡ 0) × IsOk (translated text)) c.from_residual.ensures.1
    (short_lacks text fault.line fault.reason c.in_err-solid.ensures)
