use Rattle.model_frames.proofs.Frames.{on_ok}
use Rattle.model_frames.proofs.GridWork.{cells-same}
use Rattle.model_frames.proofs.mesh.mixed_cells.Goals as goal

pub returns-clause-cells : goal.returns-clause-cells
returns-clause-cells c = cells-same c.cell_list.result c.args.view.now c.args.list.now c.in_ok-grid.grid c.in_ok-grid.ensures.grid c.cell_list.ensures

pub returns-clause-at_least : goal.returns-clause-at_least
returns-clause-at_least c = on_ok _ _ c.in_ok-grid.ensures.at_least

pub returns-clause-traced : goal.returns-clause-traced
returns-clause-traced c = on_ok _ _ c.in_ok-grid.ensures.traced
