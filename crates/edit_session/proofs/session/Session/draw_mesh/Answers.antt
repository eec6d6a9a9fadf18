use Rattle.edit_session.proofs.Drawn.{session-meshed}
use Rattle.edit_session.proofs.session.Session.draw_mesh.Goals as goal

pub returns-clause-drawn : goal.returns-clause-drawn
returns-clause-drawn c =
    session-meshed c.args.self.now c.args.view.now c.model.result.now c.self.inside.model c.self.inside.image c.self.inside.mesh _ c.in_ok-tree.tree c.self.view_is c.model.ensures.model c.in_ok-tree.ensures.tree
