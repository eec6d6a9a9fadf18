use Rattle.std.proofs.Common.{◌∙◌, ap, length, take}
use Rattle.box_chains.specs.Desks.{Tracing}
use Rattle.box_chains.proofs.Seen.{cut-back, desk-of}
use Rattle.box_chains.proofs.desk.Desk.cut.Goals as goal

pub returns-clause-back : goal.returns-clause-back
returns-clause-back c = λ before more is.
    let inside = c.self.inside in
    cut-back before c.args.self.now _ c.args.count more is
    (ap (desk-of inside.places.view inside.places.lattice (length inside.room)) c.cut.ensures
    ∙ ap (λ (d : Tracing). record d { lists = take c.args.count d.lists }) c.self.view_is)
