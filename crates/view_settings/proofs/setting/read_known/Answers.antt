use Rattle.std.proofs.Common.{◌≡◌, None, sym, ◌∙◌, refl}
use Rattle.view_settings.specs.Names.{name_called}
use Rattle.view_settings.proofs.NameLaws.{name_found}
use Rattle.view_settings.proofs.setting.read_known.Goals as goal

pub returns-in_err-name-clause-value : goal.returns-in_err-name-clause-value
returns-in_err-name-clause-value c =
    let none : name_called c.args.text.now ≡ None = sym (name_found c.args.text.now c.read_name.result c.read_name.ensures.found c.read_name.ensures.missing) ∙ c.in_err-name.was in
    rw (c.from_residual.ensures, none) refl
