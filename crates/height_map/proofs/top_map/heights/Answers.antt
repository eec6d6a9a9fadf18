use Rattle.std.proofs.Common.{◌≡◌, ◌*◌, ap, arith, length, refl, replicate, subst, ◌∙◌}
use Rattle.std.proofs.Math.Nat.{mul_comm}
use Rattle.std.proofs.lemmas.List.{length-replicate}
use Rattle.box_chains.proofs.Theorems.{laws}
use Rattle.box_chains.specs.Chains.{visit}
use Rattle.box_chains.specs.Counts.{spans_in}
use Rattle.box_chains.specs.Desks.{Tracing, list_of}
use Rattle.box_chains.specs.Tallied.{CountsAtMost}
use Rattle.box_chains.specs.Tested.{points_where}
use Rattle.box_descent.specs.Looked.{looked}
use Rattle.view_places.specs.Spans.{root_box_of}
use Rattle.view_places.specs.Window.{IsWindow}
use Rattle.height_map.specs.Bound.{layered}
use Rattle.height_map.specs.Columns.{has_open, is_open}
use Rattle.height_map.specs.Mappers.{map_plan}
use Rattle.height_map.specs.declared.drawing.Mapper.{Mapper}
use Rattle.height_map.proofs.Evaluated.{map-points}
use Rattle.height_map.proofs.MapperLaws.{RootDone, at-start, maps_are_lawful, one-lies, root-done, root-stops, start-is}
use Rattle.height_map.proofs.Maps.{map-counted, map-drawn, same_maps}
use Rattle.height_map.proofs.Traced.{map-traced}
use Rattle.height_map.proofs.top_map.heights.Goals as goal

pub returns-in_err-desk-clause-at_most : goal.returns-in_err-desk-clause-at_most
returns-in_err-desk-clause-at_most c = laws.bounds.none c.args.tally.now _ _

pub returns-in_err-vec-clause-at_most : goal.returns-in_err-vec-clause-at_most
returns-in_err-vec-clause-at_most c = laws.bounds.none c.args.tally.now _ _

pub descend-requires-clause-laws : goal.descend-requires-clause-laws
descend-requires-clause-laws c = maps_are_lawful

pub descend-requires-clause-fit : goal.descend-requires-clause-fit
descend-requires-clause-fit c =
    let view = c.args.view.now in
    let list = c.args.list.now in
    let desk = c.in_ok-desk.desk in
    let made = c.in_ok-desk.ensures in
    let root = c.root-root.result in
    let w = ap (λ v. v.w) c.view.view_is in
    let h = ap (λ v. v.h) c.view.view_is in
    let items = c.in_ok-vec.ensures.items_if_clones_equal (λ y h. h) in
    let count : c.view.inside.w * c.view.inside.h ≡ view.h * view.w = ap (λ n. n * c.view.inside.h) w ∙ ap (λ n. view.w * n) h ∙ mul_comm view.w view.h in
    let empty : c.in_ok-vec.field-0.items ≡ replicate (view.h * view.w) 0 = items ∙ ap (λ n. replicate n 0) count in
    let window : IsWindow view = subst IsWindow c.view.view_is c.view.invariant in
    let begun : Mapper = record { tops = c.in_ok-vec.field-0 } in
    let start = start-is view list desk begun root made c.root-root.ensures window c.len-len.ensures.tape (ap length empty ∙ length-replicate (view.h * view.w) 0) in
    record { can = start.can; beside = one-lies desk.view.w (has_open desk.view.w begun.tops.items) root }

pub returns-in_err-descend-clause-at_most : goal.returns-in_err-descend-clause-at_most
returns-in_err-descend-clause-at_most c =
    let view = c.args.view.now in
    let list = c.args.list.now in
    let desk = c.in_ok-desk.desk in
    let made = c.in_ok-desk.ensures in
    let root = c.root-root.result in
    let w = ap (λ v. v.w) c.view.view_is in
    let h = ap (λ v. v.h) c.view.view_is in
    let items = c.in_ok-vec.ensures.items_if_clones_equal (λ y h. h) in
    let count : c.view.inside.w * c.view.inside.h ≡ view.h * view.w = ap (λ n. n * c.view.inside.h) w ∙ ap (λ n. view.w * n) h ∙ mul_comm view.w view.h in
    let empty : c.in_ok-vec.field-0.items ≡ replicate (view.h * view.w) 0 = items ∙ ap (λ n. replicate n 0) count in
    let window : IsWindow view = subst IsWindow c.view.view_is c.view.invariant in
    let begun : Mapper = record { tops = c.in_ok-vec.field-0 } in
    let start = start-is view list desk begun root made c.root-root.ensures window c.len-len.ensures.tape (ap length empty ∙ length-replicate (view.h * view.w) 0) in
    let is = c.root-root.ensures ∙ ap (λ (d : Tracing). root_box_of d.view d.lattice) made in
    let d = looked map_plan desk in
    let t = c.args.tally.now in
    let u = c.descend.new.tally in
    let old = begun.tops.items in
    let new = c.descend.new.visitor.tops.items in
    map-counted laws view list root old t u is
    (at-start (λ v l b. CountsAtMost (points_where (is_open v l b old) (layered v) (visit b l)) (spans_in (layered v) (visit b l)) t u) view list desk root made
    (root-stops d (list_of desk 0) root begun c.descend.new.visitor t u start.layers start.spot c.in_err-descend.ensures.halted))

pub returns-clause-map : goal.returns-clause-map
returns-clause-map c =
    let view = c.args.view.now in
    let list = c.args.list.now in
    let desk = c.in_ok-desk.desk in
    let made = c.in_ok-desk.ensures in
    let root = c.root-root.result in
    let w = ap (λ v. v.w) c.view.view_is in
    let h = ap (λ v. v.h) c.view.view_is in
    let items = c.in_ok-vec.ensures.items_if_clones_equal (λ y h. h) in
    let count : c.view.inside.w * c.view.inside.h ≡ view.h * view.w = ap (λ n. n * c.view.inside.h) w ∙ ap (λ n. view.w * n) h ∙ mul_comm view.w view.h in
    let empty : c.in_ok-vec.field-0.items ≡ replicate (view.h * view.w) 0 = items ∙ ap (λ n. replicate n 0) count in
    let window : IsWindow view = subst IsWindow c.view.view_is c.view.invariant in
    let begun : Mapper = record { tops = c.in_ok-vec.field-0 } in
    let start = start-is view list desk begun root made c.root-root.ensures window c.len-len.ensures.tape (ap length empty ∙ length-replicate (view.h * view.w) 0) in
    let is = c.root-root.ensures ∙ ap (λ (d : Tracing). root_box_of d.view d.lattice) made in
    let d = looked map_plan desk in
    let t = c.args.tally.now in
    let u = c.descend.new.tally in
    let old = begun.tops.items in
    let new = c.descend.new.visitor.tops.items in
    let done = at-start (λ v l b. RootDone v l b old new t u) view list desk root made (root-done d (list_of desk 0) root begun c.descend.new.visitor t u start.layers start.spot c.in_ok-descend.ensures.drawn) in
    same_maps _ _ w h (ap (λ v. v.d) c.view.view_is) (map-drawn view list root view.w old new is refl (omega (arith, window.w.some)) empty done.tops)

pub returns-clause-at_most : goal.returns-clause-at_most
returns-clause-at_most c =
    let view = c.args.view.now in
    let list = c.args.list.now in
    let desk = c.in_ok-desk.desk in
    let made = c.in_ok-desk.ensures in
    let root = c.root-root.result in
    let w = ap (λ v. v.w) c.view.view_is in
    let h = ap (λ v. v.h) c.view.view_is in
    let items = c.in_ok-vec.ensures.items_if_clones_equal (λ y h. h) in
    let count : c.view.inside.w * c.view.inside.h ≡ view.h * view.w = ap (λ n. n * c.view.inside.h) w ∙ ap (λ n. view.w * n) h ∙ mul_comm view.w view.h in
    let empty : c.in_ok-vec.field-0.items ≡ replicate (view.h * view.w) 0 = items ∙ ap (λ n. replicate n 0) count in
    let window : IsWindow view = subst IsWindow c.view.view_is c.view.invariant in
    let begun : Mapper = record { tops = c.in_ok-vec.field-0 } in
    let start = start-is view list desk begun root made c.root-root.ensures window c.len-len.ensures.tape (ap length empty ∙ length-replicate (view.h * view.w) 0) in
    let is = c.root-root.ensures ∙ ap (λ (d : Tracing). root_box_of d.view d.lattice) made in
    let d = looked map_plan desk in
    let t = c.args.tally.now in
    let u = c.descend.new.tally in
    let old = begun.tops.items in
    let new = c.descend.new.visitor.tops.items in
    let done = at-start (λ v l b. RootDone v l b old new t u) view list desk root made (root-done d (list_of desk 0) root begun c.descend.new.visitor t u start.layers start.spot c.in_ok-descend.ensures.drawn) in
    map-counted laws view list root old t u is done.at_most

pub returns-clause-points : goal.returns-clause-points
returns-clause-points c =
    let view = c.args.view.now in
    let list = c.args.list.now in
    let desk = c.in_ok-desk.desk in
    let made = c.in_ok-desk.ensures in
    let root = c.root-root.result in
    let w = ap (λ v. v.w) c.view.view_is in
    let h = ap (λ v. v.h) c.view.view_is in
    let items = c.in_ok-vec.ensures.items_if_clones_equal (λ y h. h) in
    let count : c.view.inside.w * c.view.inside.h ≡ view.h * view.w = ap (λ n. n * c.view.inside.h) w ∙ ap (λ n. view.w * n) h ∙ mul_comm view.w view.h in
    let empty : c.in_ok-vec.field-0.items ≡ replicate (view.h * view.w) 0 = items ∙ ap (λ n. replicate n 0) count in
    let window : IsWindow view = subst IsWindow c.view.view_is c.view.invariant in
    let begun : Mapper = record { tops = c.in_ok-vec.field-0 } in
    let start = start-is view list desk begun root made c.root-root.ensures window c.len-len.ensures.tape (ap length empty ∙ length-replicate (view.h * view.w) 0) in
    let is = c.root-root.ensures ∙ ap (λ (d : Tracing). root_box_of d.view d.lattice) made in
    let d = looked map_plan desk in
    let t = c.args.tally.now in
    let u = c.descend.new.tally in
    let old = begun.tops.items in
    let new = c.descend.new.visitor.tops.items in
    let done = at-start (λ v l b. RootDone v l b old new t u) view list desk root made (root-done d (list_of desk 0) root begun c.descend.new.visitor t u start.layers start.spot c.in_ok-descend.ensures.drawn) in
    map-points laws view list root (view.h * view.w) old t u is empty done.points

pub returns-clause-hulls : goal.returns-clause-hulls
returns-clause-hulls c =
    let view = c.args.view.now in
    let list = c.args.list.now in
    let desk = c.in_ok-desk.desk in
    let made = c.in_ok-desk.ensures in
    let root = c.root-root.result in
    let w = ap (λ v. v.w) c.view.view_is in
    let h = ap (λ v. v.h) c.view.view_is in
    let items = c.in_ok-vec.ensures.items_if_clones_equal (λ y h. h) in
    let count : c.view.inside.w * c.view.inside.h ≡ view.h * view.w = ap (λ n. n * c.view.inside.h) w ∙ ap (λ n. view.w * n) h ∙ mul_comm view.w view.h in
    let empty : c.in_ok-vec.field-0.items ≡ replicate (view.h * view.w) 0 = items ∙ ap (λ n. replicate n 0) count in
    let window : IsWindow view = subst IsWindow c.view.view_is c.view.invariant in
    let begun : Mapper = record { tops = c.in_ok-vec.field-0 } in
    let start = start-is view list desk begun root made c.root-root.ensures window c.len-len.ensures.tape (ap length empty ∙ length-replicate (view.h * view.w) 0) in
    let is = c.root-root.ensures ∙ ap (λ (d : Tracing). root_box_of d.view d.lattice) made in
    let d = looked map_plan desk in
    let t = c.args.tally.now in
    let u = c.descend.new.tally in
    let old = begun.tops.items in
    let new = c.descend.new.visitor.tops.items in
    let done = at-start (λ v l b. RootDone v l b old new t u) view list desk root made (root-done d (list_of desk 0) root begun c.descend.new.visitor t u start.layers start.spot c.in_ok-descend.ensures.drawn) in
    map-traced laws view list root (view.h * view.w) old t u is (record { x = window.w.some; y = window.h.some; z = window.d.some }) empty done.hulls
