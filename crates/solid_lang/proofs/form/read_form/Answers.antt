-- The form that is found is the one that the word names.
use Rattle.solid_lang.proofs.FormLemmas.{form_found}
use Rattle.solid_lang.proofs.form.read_form.Goals as goal

pub returns : goal.returns
returns c = form_found c.args.word.now c.find_form.result c.find_form.ensures.found c.find_form.ensures.missing
