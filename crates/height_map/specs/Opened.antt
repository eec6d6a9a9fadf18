-- What is drawn of a box whose outcome is known, and the work that it takes, but for its own trace.
use Rattle.std.specs.Prelude.{ℕ, List}
use Rattle.box_chains.specs.declared.outcome.Outcome.{Outcome}
use Rattle.box_chains.specs.declared.outcome.Outcome.TheVariants.{Inside as AllInside, Outside as AllOutside, Open}
use Rattle.live_clauses.specs.declared.step.Step.{Step}
use Rattle.view_places.specs.Boxes.{Indices}
use Rattle.view_places.specs.Window.{Window}
use Rattle.height_map.specs.Bound.{layered}
use Rattle.box_chains.specs.Tested.{open_points_where, open_spans_where}
use Rattle.height_map.specs.Columns.{is_open, leaf_top, lifted}

-- the top of a column, once the samples of the box are looked at
abbrev pub outcome_top : Window → Indices → Outcome (List Step) → ℕ → ℕ → ℕ
outcome_top view b AllInside p old = lifted b.z1 old
outcome_top view b AllOutside p old = old
outcome_top view b (Open list) p old = leaf_top view list b p old

-- the evaluations that the box takes over some tops
abbrev pub outcome_points : Window → List ℕ → Indices → Outcome (List Step) → ℕ
outcome_points view tops b AllInside = 0
outcome_points view tops b AllOutside = 0
outcome_points view tops b (Open list) =
    open_points_where (is_open view list b tops) (layered view) b list

-- the steps that are traced below it
abbrev pub outcome_traced : Window → List ℕ → Indices → Outcome (List Step) → ℕ
outcome_traced view tops b AllInside = 0
outcome_traced view tops b AllOutside = 0
outcome_traced view tops b (Open list) =
    open_spans_where (is_open view list b tops) (layered view) b list
