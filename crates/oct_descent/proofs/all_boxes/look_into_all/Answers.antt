use Rattle.std.proofs.Common.{◌≡◌, List, arith, length, ap, subst, sym, ◌∙◌}
use Rattle.std.proofs.lemmas.Bool.{false≢true}
use Rattle.box_chains.specs.Chains.{visit}
use Rattle.box_chains.specs.Desks.{Tracing, list_of}
use Rattle.box_chains.specs.Visits.{IsVisit}
use Rattle.live_clauses.specs.declared.step.Step.{Step}
use Rattle.view_places.specs.Spans.{root_box_of}
use Rattle.view_places.specs.declared.lattice.Lattice.TheVariants.{Grid}
use Rattle.oct_descent.specs.AfterDesks.{AreWorkedAfter, ChargesBoxAfter, PaysBoxAfter}
use Rattle.oct_descent.specs.GridValues.{list_grid_value}
use Rattle.oct_descent.specs.OldBoxes.{received_by, visit_before}
use Rattle.view_places.specs.Window.{size_of}
use Rattle.oct_descent.specs.Tables.{is_known}
use Rattle.oct_descent.specs.Ways.{gridded}
use Rattle.oct_descent.proofs.AfterBounds.{whole-counted_after}
use Rattle.oct_descent.proofs.AfterPaid.{whole-paid_after}
use Rattle.oct_descent.proofs.Before.{root-was}
use Rattle.oct_descent.proofs.Sizes.{size-from}
use Rattle.oct_descent.proofs.Whole.{whole-told}
use Rattle.oct_descent.specs.Known.{AreSettled, Grows}
use Rattle.oct_descent.specs.Kinds.{known_of}
use Rattle.box_chains.proofs.Theorems.{laws}
use Rattle.oct_descent.proofs.all_boxes.look_into_all.Goals as goal

pub look_into-requires-clause-may : goal.look_into-requires-clause-may
look_into-requires-clause-may c =
    let is = ap (λ (d : Tracing). list_of d 0) c.requires.desk in
    let view = ap (λ (d : Tracing). d.view) c.requires.desk in
    let root = subst (λ (d : Tracing). c.root-root.result ≡ root_box_of d.view d.lattice) c.requires.desk c.root-root.ensures in
    record {
      lattice = ap (λ (d : Tracing). d.lattice) c.requires.desk;
      visit_is = subst (λ l. IsVisit (gridded c.args.desk.now.view).boxes (visit c.root-root.result l)) (sym is)
          (subst (λ b. IsVisit (gridded c.args.desk.now.view).boxes (visit b c.args.list.now)) (sym root) (subst (λ v. IsVisit (gridded v).boxes (visit (root_box_of c.args.view.now Grid) c.args.list.now)) (sym view) c.grid_holds.ensures.visit));
      n = size-from c.in_ok-values.values.n (size_of c.args.desk.now.view) (c.in_ok-values.ensures.n ∙ c.grid.ensures.size ∙ ap size_of (sym view));
      among = omega (arith, ap (λ (d : Tracing). length d.lists) c.requires.desk);
      room = omega (arith, ap length is, ap (λ (d : Tracing). d.room) c.requires.desk);
      right = λ p covers known. absurd (false≢true (sym (ap is_known (c.in_ok-values.ensures.none p)) ∙ known));
    }

pub returns-in_err-look_into-clause-at_most : goal.returns-in_err-look_into-clause-at_most
returns-in_err-look_into-clause-at_most c =
    let view = ap (λ (d : Tracing). d.view) c.requires.desk in
    let is = ap (λ (d : Tracing). list_of d 0) c.requires.desk in
    let root = subst (λ (d : Tracing). c.root-root.result ≡ root_box_of d.view d.lattice) c.requires.desk c.root-root.ensures in
    let d = gridded c.args.desk.now.view in
    whole-counted_after laws c.args.view.now c.args.desk.now.view (received_by c.args.before) c.args.list.now c.root-root.result c.in_ok-values.values c.look_into.new.values c.args.tally.now c.look_into.new.tally view root
    (c.in_ok-values.ensures.n ∙ c.grid.ensures.size) c.in_ok-values.ensures.none
    (subst (λ r. ChargesBoxAfter d r (visit c.root-root.result c.args.list.now) (known_of c.in_ok-values.values) (known_of c.look_into.new.values) c.args.tally.now c.look_into.new.tally) (ap (visit_before c.args.before) root ∙ root-was c.args.view.now c.args.before)
    (subst (λ (l : List Step). ChargesBoxAfter d (visit_before c.args.before c.root-root.result) (visit c.root-root.result l) (known_of c.in_ok-values.values) (known_of c.look_into.new.values) c.args.tally.now c.look_into.new.tally) is
    c.in_err-look_into.ensures.counted))

pub returns-clause-at_most : goal.returns-clause-at_most
returns-clause-at_most c =
    let view = ap (λ (d : Tracing). d.view) c.requires.desk in
    let is = ap (λ (d : Tracing). list_of d 0) c.requires.desk in
    let root = subst (λ (d : Tracing). c.root-root.result ≡ root_box_of d.view d.lattice) c.requires.desk c.root-root.ensures in
    let d = gridded c.args.desk.now.view in
    whole-counted_after laws c.args.view.now c.args.desk.now.view (received_by c.args.before) c.args.list.now c.root-root.result c.in_ok-values.values c.look_into.new.values c.args.tally.now c.look_into.new.tally view root
    (c.in_ok-values.ensures.n ∙ c.grid.ensures.size) c.in_ok-values.ensures.none
    (subst (λ r. ChargesBoxAfter d r (visit c.root-root.result c.args.list.now) (known_of c.in_ok-values.values) (known_of c.look_into.new.values) c.args.tally.now c.look_into.new.tally) (ap (visit_before c.args.before) root ∙ root-was c.args.view.now c.args.before)
    (subst (λ (l : List Step). ChargesBoxAfter d (visit_before c.args.before c.root-root.result) (visit c.root-root.result l) (known_of c.in_ok-values.values) (known_of c.look_into.new.values) c.args.tally.now c.look_into.new.tally) is
    c.in_ok-look_into.ensures.counted))

pub returns-clause-told : goal.returns-clause-told
returns-clause-told c =
    let view = ap (λ (d : Tracing). d.view) c.requires.desk in
    let is = ap (λ (d : Tracing). list_of d 0) c.requires.desk in
    let root = subst (λ (d : Tracing). c.root-root.result ≡ root_box_of d.view d.lattice) c.requires.desk c.root-root.ensures in
    whole-told c.args.view.now c.args.desk.now.view c.args.list.now c.root-root.result c.in_ok-values.values c.look_into.new.values view root (c.in_ok-values.ensures.n ∙ c.grid.ensures.size) c.requires.bounded c.in_ok-values.ensures.none
    (subst (λ (l : List Step). Grows (list_grid_value c.args.desk.now.view l) c.root-root.result (known_of c.in_ok-values.values) (known_of c.look_into.new.values)) is c.in_ok-look_into.ensures.grows)
    (subst (λ (l : List Step). AreSettled (gridded c.args.desk.now.view) (list_grid_value c.args.desk.now.view l) c.root-root.result (known_of c.look_into.new.values)) is c.in_ok-look_into.ensures.settled)

pub returns-clause-at_least : goal.returns-clause-at_least
returns-clause-at_least c =
    let view = ap (λ (d : Tracing). d.view) c.requires.desk in
    let is = ap (λ (d : Tracing). list_of d 0) c.requires.desk in
    let root = subst (λ (d : Tracing). c.root-root.result ≡ root_box_of d.view d.lattice) c.requires.desk c.root-root.ensures in
    let d = gridded c.args.desk.now.view in
    let was = ap (visit_before c.args.before) root ∙ root-was c.args.view.now c.args.before in
    whole-paid_after laws c.args.view.now c.args.desk.now.view (received_by c.args.before) c.args.list.now c.root-root.result c.in_ok-values.values c.look_into.new.values c.args.tally.now c.look_into.new.tally view root
    (c.in_ok-values.ensures.n ∙ c.grid.ensures.size) c.in_ok-values.ensures.none
    (subst (λ r. AreWorkedAfter d r (visit c.root-root.result c.args.list.now) (known_of c.look_into.new.values)) was
    (subst (λ (l : List Step). AreWorkedAfter d (visit_before c.args.before c.root-root.result) (visit c.root-root.result l) (known_of c.look_into.new.values)) is c.in_ok-look_into.ensures.worked))
    (subst (λ r. PaysBoxAfter d r (visit c.root-root.result c.args.list.now) (known_of c.in_ok-values.values) (known_of c.look_into.new.values) c.args.tally.now c.look_into.new.tally) was
    (subst (λ (l : List Step). PaysBoxAfter d (visit_before c.args.before c.root-root.result) (visit c.root-root.result l) (known_of c.in_ok-values.values) (known_of c.look_into.new.values) c.args.tally.now c.look_into.new.tally) is c.in_ok-look_into.ensures.paid))

pub returns-in_err-values-clause-at_most : goal.returns-in_err-values-clause-at_most
returns-in_err-values-clause-at_most c = laws.bounds.none c.args.tally.now _ _

pub returns-in_err-boxes-clause-at_most : goal.returns-in_err-boxes-clause-at_most
returns-in_err-boxes-clause-at_most c = laws.bounds.none c.args.tally.now _ _
