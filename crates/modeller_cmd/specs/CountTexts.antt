-- What `count` writes of the work of an image, and `cost` in a script.
use Rattle.std.specs.Prelude.{ℕ, List, ◌++◌, codes, decimal, length}
use Rattle.edit_session.specs.Sessions.{Cost}
use Rattle.live_clauses.specs.Live.{root_of}
use Rattle.model_frames.specs.Images.{plain_points}
use Rattle.quad_descent.specs.Raster.{fresh_points, fresh_spans}
use Rattle.solid_model.specs.declared.clause.Clause.{Clause}
use Rattle.view_places.specs.Window.{Window}

-- the three lines that tell so many evaluations and traced steps, and so many plain evaluations
abbrev pub count_lines : ℕ → ℕ → ℕ → List ℕ
count_lines points spans plain =
    codes "points " ++ decimal points ++ codes "\nspans " ++ decimal spans
    ++ codes "\nplain " ++ decimal plain ++ codes "\n"

-- those that tell what a fresh image of a solid over a view takes
abbrev pub count_text : Window → List Clause → List ℕ
count_text view clauses =
    count_lines (fresh_points view (root_of clauses)) (fresh_spans view (root_of clauses))
    (plain_points view (length clauses))

-- the line that tells what an image took: its evaluations, and its traced steps
abbrev pub cost_text : Cost → List ℕ
cost_text cost = decimal cost.points ++ codes " " ++ decimal cost.spans ++ codes "\n"
