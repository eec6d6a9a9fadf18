-- Height maps as boxes of samples, with the work that one takes at most.
use Rattle.std.specs.Prelude.{◌≡◌, ℕ, ◌+◌, nat_le, Bool, List}
use Rattle.box_chains.specs.Chains.{Descent, Visit}
use Rattle.box_chains.specs.declared.leaves.TheConstants.{LEAF}
use Rattle.box_chains.specs.Counts.{root_visit, spans_in}
use Rattle.box_chains.specs.Sums.{Sample}
use Rattle.box_chains.specs.Tested.{points_where, spans_where}
use Rattle.fixed_ops.specs.Counts.{Counts, risen}
use Rattle.live_clauses.specs.declared.step.Step.{Step}
use Rattle.view_places.specs.Window.{Window}
use Rattle.view_places.specs.declared.lattice.Lattice.TheVariants.{Height}
use Rattle.height_map.specs.Tops.{top_of}

-- how the samples of a height map are looked into
abbrev pub layered : Window → Descent
layered view = record { view = view; lattice = Height; leaf = LEAF }

-- the box of all samples, with the whole list
abbrev pub layers_root : Window → List Step → Visit
layers_root view list = root_visit (layered view) list

-- a sample does not lie behind the top of its column
abbrev pub is_near : Window → List Step → Sample → Bool
is_near view list s = nat_le (top_of view list s.i s.j) (s.k + 1)

-- what a height map takes at most: the evaluations of the samples that do not lie behind a top, and
-- the steps that are traced over all boxes
abbrev pub height_points : Window → List Step → ℕ
height_points view list = points_where (is_near view list) (layered view) (layers_root view list)

abbrev pub height_spans : Window → List Step → ℕ
height_spans view list = spans_in (layered view) (layers_root view list)

-- the steps that a height map takes: those that are traced over the boxes on the ways to the
-- samples that do not lie behind a top
abbrev pub near_spans : Window → List Step → ℕ
near_spans view list = spans_where (is_near view list) (layered view) (layers_root view list)

-- a tally's count of evaluations rises by exactly so many
abbrev pub CountsPoints : ℕ → Counts → Counts → Type 0
CountsPoints n before after = after.points ≡ risen before.points n

-- a tally's count of hulls rises by exactly so many
abbrev pub CountsSpans : ℕ → Counts → Counts → Type 0
CountsSpans n before after = after.spans ≡ risen before.spans n
