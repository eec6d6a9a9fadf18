-- What the tree before had of a box, and of its halves.
use Rattle.std.proofs.Common.{◌≡◌, ℕ, zero, suc, ◌<◌, Bool, true, false, cond, List, [], ◌∷◌, ◌++◌, append-nil, append_assoc, length, get_or, drop, refl, sym, ap, ◌∙◌, arith}
use Rattle.std.specs.Prelude.{Option, Some, None, is_some}
use Rattle.std.specs.List.{flat_map}
use Rattle.std.proofs.Math.Seq.{drop-append_seam}
use Rattle.std.proofs.lemmas.Bool.{false≢true}
use Rattle.std.proofs.lemmas.List.{length-append}
use Rattle.std.proofs.lemmas.List.Concat.{flat_map-cons}
use Rattle.box_chains.proofs.Theorems.{laws}
use Rattle.box_chains.specs.Chains.{Descent, Visit, decision, half_visit, handed_on, is_long, is_split, sides, visit}
use Rattle.box_chains.specs.Redrawn.{half_before}
use Rattle.live_clauses.specs.declared.step.Step.{Step}
use Rattle.view_places.specs.Boxes.{Indices, IsBox, halves_of}
use Rattle.view_places.specs.Spans.{root_box_of}
use Rattle.view_places.specs.Window.{Window}
use Rattle.view_places.specs.declared.lattice.Lattice.TheVariants.{Raster}
use Rattle.quad_descent.specs.Drawn.{count_of}
use Rattle.quad_descent.specs.KeptLists.{box_lists, halves_lists, lists_of}
use Rattle.quad_descent.specs.Nodes.{box_nodes, halves_nodes, kept_within, nodes_of, rows_of, split_node}
use Rattle.quad_descent.specs.OldTrees.{IsBehind, IsThere, Passes, StandNext, all_lists_before, all_nodes_before, lists_before, next_count, next_handed, nodes_before, visit_before}
use Rattle.quad_descent.specs.Raster.{raster, raster_root}
use Rattle.quad_descent.specs.declared.node.Node.{Node}
use Rattle.quad_descent.specs.declared.node.Node.TheVariants.{Outside, Inside, Leaf, Split}
use Rattle.quad_descent.specs.declared.old_tree.OldTree.{OldTree}
use Rattle.quad_descent.proofs.NodeLaws.{lists-are, nodes-are}
use Rattle.quad_descent.proofs.Painted.{head-of}

pub same-rest : {K : Type 0} (xs ys zs : List K) → xs ++ ys ≡ xs ++ zs → ys ≡ zs
same-rest xs ys zs e = sym (drop-append_seam xs ys) ∙ ap (drop (length xs)) e ∙ drop-append_seam xs zs

pub passes-then : (a b c : OldTree) (ns os : List Node) (ls ks : List (Option (List Step))) → Passes ns ls a b → Passes os ks b c → Passes (ns ++ os) (ls ++ ks) a c
passes-then a b c ns os ls ks p q = record {
  nodes = p.nodes ∙ ap (λ l. ns ++ l) q.nodes ∙ sym (append_assoc ns os c.nodes.now);
  lists = p.lists ∙ ap (λ l. ls ++ l) q.lists ∙ sym (append_assoc ls ks c.lists);
}

-- what a box handed on to its halves, where it had some
abbrev pub handed_in : Descent → Option Visit → Option (List Step)
handed_in d None = None
handed_in d (Some v) = cond (is_split d v) (Some (handed_on d v)) None

-- so its halves are those that received that list
pub was-half : {A : Type 0} (f : (Indices → Option Visit) → A) (d : Descent) (was : Option Visit) → f (λ h. half_before d was h) ≡ f (λ h. visit_before (handed_in d was) h)
was-half f d None = refl
was-half {A} f d (Some v) = by (is_split d v)
  where
    by : (t : Bool) → f (λ h. cond t (Some (half_visit d v h)) None) ≡ f (λ h. visit_before (cond t (Some (handed_on d v)) None) h)
    by true = refl
    by false = refl

-- ---- a box and its halves

split-open : (d : Descent) (v : Visit) → is_split d v ≡ true → (decision d v ≡ None) × (is_long d.leaf v.box ≡ true)
split-open d v split = by (decision d v) refl
  where
    by : (o : Option Bool) → decision d v ≡ o → (decision d v ≡ None) × (is_long d.leaf v.box ≡ true)
    by None e = (e, rw e at split)
    by (Some inside) e = absurd (false≢true (rw e at split))

-- the nodes and the lists of a box that is split are one for itself and those of its halves
pub split-parts : (d : Descent) (v : Visit) → 0 < d.leaf → IsBox v.box → is_split d v ≡ true
    → (nodes_of d v ≡ split_node (halves_nodes d (handed_on d v) (halves_of d.leaf v.box))) × (lists_of d v ≡ Some (handed_on d v) ∷ halves_lists d (handed_on d v) (halves_of d.leaf v.box))
split-parts d v some is split =
    let told = split-open d v split in
    (nodes-are laws d v some is ∙ rw (told.0, told.1) refl, lists-are laws d v some is ∙ rw (told.0, told.1) refl)

-- and those of another are one alone
pub record IsAlone (d : Descent) (v : Visit) : Type 0 where
  pub node : Node
  pub nodes : nodes_of d v ≡ node ∷ []
  pub lists : lists_of d v ≡ None ∷ []

pub end-alone : (d : Descent) (v : Visit) → 0 < d.leaf → IsBox v.box → is_split d v ≡ false → IsAlone d v
end-alone d v some is whole = by (decision d v) refl (is_long d.leaf v.box) refl whole
  where
    by : (o : Option Bool) → decision d v ≡ o → (t : Bool) → is_long d.leaf v.box ≡ t → is_split d v ≡ false → IsAlone d v
    by (Some true) e t f w = record { node = Inside; nodes = nodes-are laws d v some is ∙ rw e refl; lists = lists-are laws d v some is ∙ rw e refl }
    by (Some false) e t f w = record { node = Outside; nodes = nodes-are laws d v some is ∙ rw e refl; lists = lists-are laws d v some is ∙ rw e refl }
    by None e true f w = absurd (false≢true (sym (rw e at w) ∙ f))
    by None e false f w = record { node = Leaf (rows_of d.view d.lattice (handed_on d v) v.box); nodes = nodes-are laws d v some is ∙ rw (e, f) refl; lists = lists-are laws d v some is ∙ rw (e, f) refl }

-- nothing is kept of halves that were not reached
flat_map-none : {X Y : Type 0} (none : X → List Y) (xs : List X) → ((x : X) → none x ≡ []) → flat_map none xs ≡ []
flat_map-none none [] e = refl
flat_map-none none (x ∷ xs) e = flat_map-cons none x xs ∙ ap (λ l. l ++ flat_map none xs) (e x) ∙ flat_map-none none xs e

-- a box of the tree before is its own node and list, and those of its halves
pub record HasParts (d : Descent) (v : Visit) : Type 0 where
  pub node : Node
  pub nodes : nodes_of d v ≡ node ∷ all_nodes_before d (handed_in d (Some v)) (halves_of 8 v.box)
  pub lists : lists_of d v ≡ handed_in d (Some v) ∷ all_lists_before d (handed_in d (Some v)) (halves_of 8 v.box)

has-parts : (view : Window) (v : Visit) → IsBox v.box → HasParts (raster view) v
has-parts view v is = by (is_split (raster view) v) refl
  where
    d : Descent
    d = raster view

    halves : List Indices
    halves = halves_of 8 v.box

    by : (t : Bool) → is_split d v ≡ t → HasParts d v
    by true e =
        let parts = split-parts d v (omega arith) is e in
        let handed : handed_in d (Some v) ≡ Some (handed_on d v) = rw e refl in
        record {
          node = Split (length (halves_nodes d (handed_on d v) halves));
          nodes = parts.0 ∙ ap (λ r. Split (length (halves_nodes d (handed_on d v) halves)) ∷ all_nodes_before d r halves) (sym handed);
          lists = parts.1 ∙ ap (λ r. r ∷ all_lists_before d r halves) (sym handed);
        }
    by false e =
        let alone = end-alone d v (omega arith) is e in
        let handed : handed_in d (Some v) ≡ None = rw e refl in
        record {
          node = alone.node;
          nodes = alone.nodes ∙ ap (λ l. alone.node ∷ l) (sym (flat_map-none (λ h. nodes_before d (visit_before None h)) halves (λ h. refl))) ∙ ap (λ r. alone.node ∷ all_nodes_before d r halves) (sym handed);
          lists = alone.lists ∙ ap (λ l. None ∷ l) (sym (flat_map-none (λ h. lists_before d (visit_before None h)) halves (λ h. refl))) ∙ ap (λ r. r ∷ all_lists_before d r halves) (sym handed);
        }

-- a tree whose next box was opened
pub record IsOpened (d : Descent) (b : Indices) (old new : OldTree) : Type 0 where
  pub own_nodes : List Node
  pub own_lists : List (Option (List Step))
  pub passes : Passes own_nodes own_lists old new
  pub handed : new.received ≡ handed_in d (visit_before old.received b)
  pub nodes : nodes_before d (visit_before old.received b) ≡ own_nodes ++ all_nodes_before d new.received (halves_of 8 b)
  pub lists : lists_before d (visit_before old.received b) ≡ own_lists ++ all_lists_before d new.received (halves_of 8 b)
  pub next : StandNext d (halves_of 8 b) new

-- what stands behind the nodes of the next box
next-nodes : (d : Descent) (b : Indices) (bs : List Indices) (t : OldTree) (next : StandNext d (b ∷ bs) t)
    → t.nodes.now ≡ nodes_before d (visit_before t.received b) ++ (all_nodes_before d t.received bs ++ next.more_nodes)
next-nodes d b bs t next =
    next.nodes ∙ ap (λ l. l ++ next.more_nodes) (flat_map-cons (λ x. nodes_before d (visit_before t.received x)) b bs)
    ∙ append_assoc (nodes_before d (visit_before t.received b)) (all_nodes_before d t.received bs) next.more_nodes

next-lists : (d : Descent) (b : Indices) (bs : List Indices) (t : OldTree) (next : StandNext d (b ∷ bs) t)
    → t.lists ≡ lists_before d (visit_before t.received b) ++ (all_lists_before d t.received bs ++ next.more_lists)
next-lists d b bs t next =
    next.lists ∙ ap (λ l. l ++ next.more_lists) (flat_map-cons (λ x. lists_before d (visit_before t.received x)) b bs)
    ∙ append_assoc (lists_before d (visit_before t.received b)) (all_lists_before d t.received bs) next.more_lists

pub opened : (view : Window) (b : Indices) (bs : List Indices) (old new : OldTree) → IsBox b → StandNext (raster view) (b ∷ bs) old → IsBehind (cond (is_some old.received) 1 0) old new
    → new.received ≡ next_handed old → IsOpened (raster view) b old new
opened view b bs old new is next behind handed = by old.received refl
  where
    d : Descent
    d = raster view

    halves : List Indices
    halves = halves_of 8 b

    by : (r : Option (List Step)) → old.received ≡ r → IsOpened d b old new
    by None e =
        let no : new.received ≡ None = handed ∙ rw e refl in
        let none : nodes_before d (visit_before old.received b) ≡ all_nodes_before d new.received halves =
        ap (λ r. nodes_before d (visit_before r b)) e ∙ sym (flat_map-none (λ h. nodes_before d (visit_before None h)) halves (λ h. refl)) ∙ ap (λ r. all_nodes_before d r halves) (sym no) in
        let bare : lists_before d (visit_before old.received b) ≡ all_lists_before d new.received halves =
        ap (λ r. lists_before d (visit_before r b)) e ∙ sym (flat_map-none (λ h. lists_before d (visit_before None h)) halves (λ h. refl)) ∙ ap (λ r. all_lists_before d r halves) (sym no) in
        let nodes : new.nodes.now ≡ old.nodes.now = rw e at behind.nodes in
        let lists : new.lists ≡ old.lists = rw e at behind.lists in
        record {
          own_nodes = [];
          own_lists = [];
          passes = record { nodes = sym nodes; lists = sym lists };
          handed = no ∙ ap (λ r. handed_in d (visit_before r b)) (sym e);
          nodes = none;
          lists = bare;
          next = record {
            more_nodes = all_nodes_before d old.received bs ++ next.more_nodes;
            more_lists = all_lists_before d old.received bs ++ next.more_lists;
            nodes = nodes ∙ next-nodes d b bs old next ∙ ap (λ l. l ++ (all_nodes_before d old.received bs ++ next.more_nodes)) none;
            lists = lists ∙ next-lists d b bs old next ∙ ap (λ l. l ++ (all_lists_before d old.received bs ++ next.more_lists)) bare;
          };
        }
    by (Some list) e =
        let v = visit b list in
        let parts = has-parts view v is in
        let was : visit_before old.received b ≡ Some v = ap (λ r. visit_before r b) e in
        let nodes_are : old.nodes.now ≡ (parts.node ∷ all_nodes_before d (handed_in d (Some v)) halves) ++ (all_nodes_before d old.received bs ++ next.more_nodes) =
        next-nodes d b bs old next ∙ ap (λ l. l ++ (all_nodes_before d old.received bs ++ next.more_nodes)) (ap (nodes_before d) was ∙ parts.nodes) in
        let lists_are : old.lists ≡ (handed_in d (Some v) ∷ all_lists_before d (handed_in d (Some v)) halves) ++ (all_lists_before d old.received bs ++ next.more_lists) =
        next-lists d b bs old next ∙ ap (λ l. l ++ (all_lists_before d old.received bs ++ next.more_lists)) (ap (lists_before d) was ∙ parts.lists) in
        let on : next_handed old ≡ get_or old.lists 0 None = rw e refl in
        let got : new.received ≡ handed_in d (Some v) = handed ∙ on ∙ ap (λ l. get_or l 0 None) lists_are in
        let nodes : new.nodes.now ≡ drop 1 old.nodes.now = rw e at behind.nodes in
        let lists : new.lists ≡ drop 1 old.lists = rw e at behind.lists in
        let rest : new.nodes.now ≡ all_nodes_before d (handed_in d (Some v)) halves ++ (all_nodes_before d old.received bs ++ next.more_nodes) = nodes ∙ ap (drop 1) nodes_are in
        let left : new.lists ≡ all_lists_before d (handed_in d (Some v)) halves ++ (all_lists_before d old.received bs ++ next.more_lists) = lists ∙ ap (drop 1) lists_are in
        record {
          own_nodes = parts.node ∷ [];
          own_lists = handed_in d (Some v) ∷ [];
          passes = record { nodes = nodes_are ∙ ap (λ l. parts.node ∷ l) (sym rest); lists = lists_are ∙ ap (λ l. handed_in d (Some v) ∷ l) (sym left) };
          handed = got ∙ ap (handed_in d) (sym was);
          nodes = ap (nodes_before d) was ∙ parts.nodes ∙ ap (λ r. parts.node ∷ all_nodes_before d r halves) (sym got);
          lists = ap (lists_before d) was ∙ parts.lists ∙ ap (λ r. handed_in d (Some v) ∷ all_lists_before d r halves) (sym got);
          next = record {
            more_nodes = all_nodes_before d old.received bs ++ next.more_nodes;
            more_lists = all_lists_before d old.received bs ++ next.more_lists;
            nodes = rest ∙ ap (λ r. all_nodes_before d r halves ++ (all_nodes_before d old.received bs ++ next.more_nodes)) (sym got);
            lists = left ∙ ap (λ r. all_lists_before d r halves ++ (all_lists_before d old.received bs ++ next.more_lists)) (sym got);
          };
        }

-- parts that are as long one by one are as long when joined
flat_map-as-long : {X Y Z : Type 0} (f : X → List Y) (g : X → List Z) (xs : List X) → ((x : X) → length (f x) ≡ length (g x))
    → length (flat_map f xs) ≡ length (flat_map g xs)
flat_map-as-long f g [] same = refl
flat_map-as-long f g (x ∷ xs) same =
    omega (
      arith,
      ap length (flat_map-cons f x xs),
      ap length (flat_map-cons g x xs),
      length-append (f x) (flat_map f xs),
      length-append (g x) (flat_map g xs),
      same x,
      flat_map-as-long f g xs same,
    )

-- there are as many lists of a box as nodes
kept-as-many : (n : ℕ) (d : Descent) (v : Visit) → length (kept_within box_lists n d v) ≡ length (kept_within box_nodes n d v)
unfolding kept_within
kept-as-many zero d v = refl
kept-as-many (suc n) d v =
    by (decision d v) (is_long d.leaf v.box) refl
    (flat_map-as-long (λ half. kept_within box_lists n d (half_visit d v half)) (λ half. kept_within box_nodes n d (half_visit d v half)) (halves_of d.leaf v.box)
    (λ half. kept-as-many n d (half_visit d v half)))
  where
    lists : List (Option (List Step))
    lists = flat_map (λ half. kept_within box_lists n d (half_visit d v half)) (halves_of d.leaf v.box)

    nodes : List Node
    nodes = flat_map (λ half. kept_within box_nodes n d (half_visit d v half)) (halves_of d.leaf v.box)

    by : (o : Option Bool) (long : Bool) → is_long d.leaf v.box ≡ long → length lists ≡ length nodes → length (box_lists d v lists o) ≡ length (box_nodes d v nodes o)
    by (Some true) long e same = refl
    by (Some false) long e same = refl
    by None true e same = rw e (ap suc same)
    by None false e same = rw e refl

pub as-many : (d : Descent) (v : Visit) → length (lists_of d v) ≡ length (nodes_of d v)
as-many d v = kept-as-many (sides v.box) d v

-- as many nodes and lists stand for the next box as it has
pub record IsCounted (d : Descent) (b : Indices) (tree : OldTree) : Type 0 where
  pub nodes : next_count tree ≡ length (nodes_before d (visit_before tree.received b))
  pub lists : next_count tree ≡ length (lists_before d (visit_before tree.received b))
  pub some : is_some tree.received ≡ true → 0 < length tree.nodes.now

pub counted : (view : Window) (b : Indices) (bs : List Indices) (tree : OldTree) → IsBox b → StandNext (raster view) (b ∷ bs) tree → IsCounted (raster view) b tree
counted view b bs tree is next = by tree.received refl
  where
    d : Descent
    d = raster view

    by : (r : Option (List Step)) → tree.received ≡ r → IsCounted d b tree
    by None e = record { nodes = rw e refl; lists = rw e refl; some = λ h. absurd (false≢true (ap is_some (sym e) ∙ h)) }
    by (Some list) e =
        let v = visit b list in
        let was : visit_before tree.received b ≡ Some v = ap (λ r. visit_before r b) e in
        let head = head-of laws d v (omega arith) is in
        let own : nodes_before d (visit_before tree.received b) ≡ head.node ∷ head.below = ap (nodes_before d) was ∙ head.is in
        let first : tree.nodes.now ≡ (head.node ∷ head.below) ++ (all_nodes_before d tree.received bs ++ next.more_nodes) = next-nodes d b bs tree next ∙ ap (λ l. l ++ (all_nodes_before d tree.received bs ++ next.more_nodes)) own in
        let count : next_count tree ≡ count_of (get_or tree.nodes.now 0 Outside) = rw e refl in
        let many : next_count tree ≡ length (head.node ∷ head.below) = count ∙ ap (λ l. count_of (get_or l 0 Outside)) first ∙ head.count in
        record {
          nodes = many ∙ ap length (sym own);
          lists = many ∙ ap length (sym head.is) ∙ sym (as-many d v) ∙ ap (λ o. length (lists_before d o)) (sym was);
          some = λ h. omega (arith, ap length first);
        }

pub next-there : (view : Window) (b : Indices) (bs : List Indices) (tree : OldTree) → IsBox b → StandNext (raster view) (b ∷ bs) tree → IsThere tree
next-there view b bs tree is next =
    let d = raster view in
    let c = counted view b bs tree is next in
    record {
      some = c.some;
      nodes = omega (arith, c.nodes, ap length (next-nodes d b bs tree next), length-append (nodes_before d (visit_before tree.received b)) (all_nodes_before d tree.received bs ++ next.more_nodes));
      lists = omega (arith, c.lists, ap length (next-lists d b bs tree next), length-append (lists_before d (visit_before tree.received b)) (all_lists_before d tree.received bs ++ next.more_lists));
    }

-- a tree whose next box was passed with all below it
pub next-passed : (view : Window) (b : Indices) (bs : List Indices) (old new : OldTree) → IsBox b → StandNext (raster view) (b ∷ bs) old → IsBehind (next_count old) old new
    → Passes (nodes_before (raster view) (visit_before old.received b)) (lists_before (raster view) (visit_before old.received b)) old new
next-passed view b bs old new is next behind =
    let d = raster view in
    let c = counted view b bs old is next in
    let ns = nodes_before d (visit_before old.received b) in
    let ls = lists_before d (visit_before old.received b) in
    let nodes_are = next-nodes d b bs old next in
    let lists_are = next-lists d b bs old next in
    record {
      nodes = nodes_are ∙ ap (λ l. ns ++ l) (sym (behind.nodes ∙ ap (λ n. drop n old.nodes.now) c.nodes ∙ ap (drop (length ns)) nodes_are ∙ drop-append_seam ns (all_nodes_before d old.received bs ++ next.more_nodes)));
      lists = lists_are ∙ ap (λ l. ls ++ l) (sym (behind.lists ∙ ap (λ n. drop n old.lists) c.lists ∙ ap (drop (length ls)) lists_are ∙ drop-append_seam ls (all_lists_before d old.received bs ++ next.more_lists)));
    }

-- the list that stands first is what the next box handed on
pub handed-is : (view : Window) (b : Indices) (bs : List Indices) (tree : OldTree) → IsBox b → StandNext (raster view) (b ∷ bs) tree → next_handed tree ≡ handed_in (raster view) (visit_before tree.received b)
handed-is view b bs tree is next = by tree.received refl
  where
    d : Descent
    d = raster view

    by : (r : Option (List Step)) → tree.received ≡ r → next_handed tree ≡ handed_in d (visit_before tree.received b)
    by None e =
        let none : next_handed tree ≡ None = rw e refl in
        none ∙ ap (λ r. handed_in d (visit_before r b)) (sym e)
    by (Some list) e =
        let v = visit b list in
        let parts = has-parts view v is in
        let was : visit_before tree.received b ≡ Some v = ap (λ r. visit_before r b) e in
        let on : next_handed tree ≡ get_or tree.lists 0 None = rw e refl in
        on ∙ ap (λ l. get_or l 0 None) (next-lists d b bs tree next ∙ ap (λ l. l ++ (all_lists_before d tree.received bs ++ next.more_lists)) (ap (lists_before d) was ∙ parts.lists)) ∙ ap (handed_in d) (sym was)

-- the box of all samples is the next one of a whole tree
pub root-stands : (view : Window) (tree : OldTree) (list : List Step) → tree.received ≡ Some list → tree.nodes.now ≡ nodes_of (raster view) (raster_root view list) → tree.lists ≡ lists_of (raster view) (raster_root view list)
    → StandNext (raster view) (root_box_of view Raster ∷ []) tree
root-stands view tree list got nodes lists =
    let d = raster view in
    let b = root_box_of view Raster in
    record {
      more_nodes = [];
      more_lists = [];
      nodes = nodes ∙ ap (λ r. nodes_before d (visit_before r b)) (sym got) ∙ sym (append-nil (nodes_before d (visit_before tree.received b))) ∙ sym (flat_map-cons (λ x. nodes_before d (visit_before tree.received x)) b [])
          ∙ sym (append-nil (all_nodes_before d tree.received (b ∷ [])));
      lists = lists ∙ ap (λ r. lists_before d (visit_before r b)) (sym got) ∙ sym (append-nil (lists_before d (visit_before tree.received b))) ∙ sym (flat_map-cons (λ x. lists_before d (visit_before tree.received x)) b [])
          ∙ sym (append-nil (all_lists_before d tree.received (b ∷ [])));
    }
