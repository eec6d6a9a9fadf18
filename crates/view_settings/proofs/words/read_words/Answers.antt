use Rattle.std.proofs.Common.{ap, sym, ◌∙◌, arith}
use Rattle.view_settings.specs.Verbs.{verb_named}
use Rattle.view_settings.proofs.NameLaws.{verb_found}
use Rattle.view_settings.proofs.WordLaws.{no_verb}
use Rattle.view_settings.proofs.words.read_words.Goals as goal

pub returns-in_default-read_verb-clause-job : goal.returns-in_default-read_verb-clause-job
returns-in_default-read_verb-clause-job c =
    let none = sym (verb_found c.as_bytes.result.now c.read_verb.result c.read_verb.ensures.found c.read_verb.ensures.missing) ∙ c.in_default-read_verb.is in
    rw c.fault-in_default-read_verb.ensures (sym (no_verb c.args.words.now c.first-item.result (omega (arith, c.in-len1-up.len_at_least)) c.first-item.is (ap verb_named (sym c.as_bytes.ensures.value) ∙ none)))
