-- What is left of the tree before, and the work of boxes that are drawn after it.
use Rattle.std.specs.Prelude.{◌≡◌, ℕ, ◌-◌, ◌<◌, ◌≤◌, List, [], ◌++◌, Option, Some, None, drop, length, slice_index_or, is_some, true, if◌then◌else◌}
use Rattle.std.specs.List.{flat_map}
use Rattle.box_chains.specs.Chains.{Descent, Visit, visit}
use Rattle.box_chains.specs.Redrawn.{spans_after}
use Rattle.live_clauses.specs.declared.step.Step.{Step}
use Rattle.view_places.specs.Boxes.{Indices}
use Rattle.quad_descent.specs.Drawn.{count_of}
use Rattle.quad_descent.specs.KeptLists.{lists_of}
use Rattle.quad_descent.specs.Nodes.{nodes_of}
use Rattle.quad_descent.specs.declared.node.Node.{Node}
use Rattle.quad_descent.specs.declared.node.Node.TheVariants.{Outside}
use Rattle.quad_descent.specs.declared.old_tree.OldTree.{OldTree}

-- a box as the tree before had it, where it reached that box: the box received a list there
abbrev pub visit_before : Option (List Step) → Indices → Option Visit
visit_before None b = None
visit_before (Some list) b = Some (visit b list)

-- what the tree before kept of a box
abbrev pub nodes_before : Descent → Option Visit → List Node
nodes_before d None = []
nodes_before d (Some v) = nodes_of d v

abbrev pub lists_before : Descent → Option Visit → List (Option (List Step))
lists_before d None = []
lists_before d (Some v) = lists_of d v

-- and of some boxes that received a list there
abbrev pub all_nodes_before : Descent → Option (List Step) → List Indices → List Node
all_nodes_before d received boxes = flat_map (λ b. nodes_before d (visit_before received b)) boxes

abbrev pub all_lists_before : Descent → Option (List Step) → List Indices → List (Option (List Step))
all_lists_before d received boxes = flat_map (λ b. lists_before d (visit_before received b)) boxes

-- these nodes and lists are passed, the first of what is left of a tree
pub record Passes (passed : List Node) (handed : List (Option (List Step))) (old new : OldTree) : Type 0 where
  pub nodes : old.nodes.now ≡ passed ++ new.nodes.now
  pub lists : old.lists ≡ handed ++ new.lists

-- some boxes are the next ones of a tree
pub record StandNext (d : Descent) (boxes : List Indices) (tree : OldTree) : Type 0 where
  pub more_nodes : List Node
  pub more_lists : List (Option (List Step))
  pub nodes : tree.nodes.now ≡ all_nodes_before d tree.received boxes ++ more_nodes
  pub lists : tree.lists ≡ all_lists_before d tree.received boxes ++ more_lists

-- how many nodes stood for the next box and the boxes below it, and as many lists: none where the tree
-- did not reach it
abbrev pub next_count : OldTree → ℕ
next_count tree =
    if is_some tree.received then count_of (slice_index_or tree.nodes.now 0 Outside) else 0

-- the list that the next box handed on to its halves, where it had some
abbrev pub next_handed : OldTree → Option (List Step)
next_handed tree = if is_some tree.received then slice_index_or tree.lists 0 None else None

-- all nodes and lists of the next box are there
pub record IsThere (tree : OldTree) : Type 0 where
  pub some : is_some tree.received ≡ true → 0 < length tree.nodes.now
  pub nodes : next_count tree ≤ length tree.nodes.now
  pub lists : next_count tree ≤ length tree.lists

-- so many nodes and lists of a tree are passed
pub record IsBehind (count : ℕ) (old new : OldTree) : Type 0 where
  pub nodes : new.nodes.now ≡ drop count old.nodes.now
  pub lists : new.lists ≡ drop count old.lists

-- the steps that are traced below a box which is new
abbrev pub spans_below : Descent → Option Visit → Visit → ℕ
spans_below d before v = spans_after d before v - length v.list
