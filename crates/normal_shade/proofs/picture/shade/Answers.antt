use Rattle.std.proofs.Common.{◌≡◌, ◌*◌, ap, arith, length, replicate, subst, ◌∙◌}
use Rattle.std.proofs.lemmas.List.{length-replicate}
use Rattle.box_chains.proofs.Theorems.{laws}
use Rattle.box_chains.specs.Tallied.{CountsAtMost, CountsExactly}
use Rattle.view_places.specs.Boxes.{IsBox}
use Rattle.view_places.specs.Spans.{root_box_of}
use Rattle.view_places.specs.Window.{IsWindow}
use Rattle.view_places.specs.declared.lattice.Lattice.TheVariants.{Height}
use Rattle.normal_shade.specs.declared.shading.Shader.{Shader}
use Rattle.normal_shade.specs.Shades.{shade_points, shade_spans}
use Rattle.normal_shade.proofs.Pictures.{dark-count, map-may, map-shaded, map-work, tops-length}
use Rattle.normal_shade.proofs.ShaderLaws.{can-start, root-done, root-stops, shades_are_lawful}
use Rattle.normal_shade.proofs.picture.shade.Goals as goal

pub returns-in_err-desk-clause-at_most : goal.returns-in_err-desk-clause-at_most
returns-in_err-desk-clause-at_most c = laws.bounds.none c.args.tally.now _ _

pub returns-in_err-vec-clause-at_most : goal.returns-in_err-vec-clause-at_most
returns-in_err-vec-clause-at_most c = laws.bounds.none c.args.tally.now _ _

pub descend-requires-clause-laws : goal.descend-requires-clause-laws
descend-requires-clause-laws c = shades_are_lawful

pub descend-requires-clause-fit : goal.descend-requires-clause-fit
descend-requires-clause-fit c =
    let view = c.args.view.now in
    let list = c.args.tape.now in
    let tops = c.args.tops.now in
    let desk = c.in_ok-desk.desk in
    let made = c.in_ok-desk.ensures in
    let items = c.in_ok-vec.ensures.items_if_clones_equal (λ y h. h) in
    let count : c.view.inside.w * c.view.inside.h ≡ length tops = dark-count view list tops c.view.inside.w c.view.inside.h (ap (λ v. v.w) c.view.view_is) (ap (λ v. v.h) c.view.view_is) c.requires.tops in
    let start : Shader = record { tops = c.args.tops; pixels = c.in_ok-vec.field-0; scratch = c.new-2.result } in
    let can = can-start view list desk start made (tops-length view list tops c.requires.tops) (ap length items ∙ length-replicate (c.view.inside.w * c.view.inside.h) 0 ∙ count) in
    can

pub returns-in_err-descend-clause-at_most : goal.returns-in_err-descend-clause-at_most
returns-in_err-descend-clause-at_most c =
    let view = c.args.view.now in
    let list = c.args.tape.now in
    let tops = c.args.tops.now in
    let desk = c.in_ok-desk.desk in
    let made = c.in_ok-desk.ensures in
    let items = c.in_ok-vec.ensures.items_if_clones_equal (λ y h. h) in
    let count : c.view.inside.w * c.view.inside.h ≡ length tops = dark-count view list tops c.view.inside.w c.view.inside.h (ap (λ v. v.w) c.view.view_is) (ap (λ v. v.h) c.view.view_is) c.requires.tops in
    let start : Shader = record { tops = c.args.tops; pixels = c.in_ok-vec.field-0; scratch = c.new-2.result } in
    let can = can-start view list desk start made (tops-length view list tops c.requires.tops) (ap length items ∙ length-replicate (c.view.inside.w * c.view.inside.h) 0 ∙ count) in
    let window : IsWindow view = subst IsWindow c.view.view_is c.view.invariant in
    let root = c.root-root.result in
    let box : IsBox (root_box_of view Height) = record { x = window.w.some; y = window.h.some; z = window.d.some } in
    let is = (map-may view list desk root tops made c.root-root.ensures window c.len-len.ensures.tape c.requires.tops).visit_is.box in
    map-work laws CountsAtMost view list desk root tops c.args.tally.now c.descend.new.tally made c.root-root.ensures box c.requires.tops
    (root-stops desk root start c.descend.new.visitor c.args.tally.now c.descend.new.tally can is c.in_err-descend.ensures.halted)

pub returns-clause-pixels : goal.returns-clause-pixels
returns-clause-pixels c =
    let view = c.args.view.now in
    let list = c.args.tape.now in
    let tops = c.args.tops.now in
    let desk = c.in_ok-desk.desk in
    let made = c.in_ok-desk.ensures in
    let items = c.in_ok-vec.ensures.items_if_clones_equal (λ y h. h) in
    let count : c.view.inside.w * c.view.inside.h ≡ length tops = dark-count view list tops c.view.inside.w c.view.inside.h (ap (λ v. v.w) c.view.view_is) (ap (λ v. v.h) c.view.view_is) c.requires.tops in
    let start : Shader = record { tops = c.args.tops; pixels = c.in_ok-vec.field-0; scratch = c.new-2.result } in
    let can = can-start view list desk start made (tops-length view list tops c.requires.tops) (ap length items ∙ length-replicate (c.view.inside.w * c.view.inside.h) 0 ∙ count) in
    let window : IsWindow view = subst IsWindow c.view.view_is c.view.invariant in
    let root = c.root-root.result in
    let box : IsBox (root_box_of view Height) = record { x = window.w.some; y = window.h.some; z = window.d.some } in
    let is = (map-may view list desk root tops made c.root-root.ensures window c.len-len.ensures.tape c.requires.tops).visit_is.box in
    map-shaded view list desk root tops start.pixels.items c.descend.new.visitor.pixels.items made c.root-root.ensures window.w.some c.requires.tops (items ∙ ap (λ n. replicate n 0) count)
    (root-done desk root start c.descend.new.visitor c.args.tally.now c.descend.new.tally can is c.in_ok-descend.ensures.drawn).pixels

pub returns-clause-counted : goal.returns-clause-counted
returns-clause-counted c =
    let view = c.args.view.now in
    let list = c.args.tape.now in
    let tops = c.args.tops.now in
    let desk = c.in_ok-desk.desk in
    let made = c.in_ok-desk.ensures in
    let items = c.in_ok-vec.ensures.items_if_clones_equal (λ y h. h) in
    let count : c.view.inside.w * c.view.inside.h ≡ length tops = dark-count view list tops c.view.inside.w c.view.inside.h (ap (λ v. v.w) c.view.view_is) (ap (λ v. v.h) c.view.view_is) c.requires.tops in
    let start : Shader = record { tops = c.args.tops; pixels = c.in_ok-vec.field-0; scratch = c.new-2.result } in
    let can = can-start view list desk start made (tops-length view list tops c.requires.tops) (ap length items ∙ length-replicate (c.view.inside.w * c.view.inside.h) 0 ∙ count) in
    let window : IsWindow view = subst IsWindow c.view.view_is c.view.invariant in
    let root = c.root-root.result in
    let box : IsBox (root_box_of view Height) = record { x = window.w.some; y = window.h.some; z = window.d.some } in
    let is = (map-may view list desk root tops made c.root-root.ensures window c.len-len.ensures.tape c.requires.tops).visit_is.box in
    map-work laws CountsExactly view list desk root tops c.args.tally.now c.descend.new.tally made c.root-root.ensures box c.requires.tops
    (root-done desk root start c.descend.new.visitor c.args.tally.now c.descend.new.tally can is c.in_ok-descend.ensures.drawn).counted

pub returns-clause-at_most : goal.returns-clause-at_most
returns-clause-at_most c =
    let view = c.args.view.now in
    let list = c.args.tape.now in
    let tops = c.args.tops.now in
    let desk = c.in_ok-desk.desk in
    let made = c.in_ok-desk.ensures in
    let items = c.in_ok-vec.ensures.items_if_clones_equal (λ y h. h) in
    let count : c.view.inside.w * c.view.inside.h ≡ length tops = dark-count view list tops c.view.inside.w c.view.inside.h (ap (λ v. v.w) c.view.view_is) (ap (λ v. v.h) c.view.view_is) c.requires.tops in
    let start : Shader = record { tops = c.args.tops; pixels = c.in_ok-vec.field-0; scratch = c.new-2.result } in
    let can = can-start view list desk start made (tops-length view list tops c.requires.tops) (ap length items ∙ length-replicate (c.view.inside.w * c.view.inside.h) 0 ∙ count) in
    let window : IsWindow view = subst IsWindow c.view.view_is c.view.invariant in
    let root = c.root-root.result in
    let box : IsBox (root_box_of view Height) = record { x = window.w.some; y = window.h.some; z = window.d.some } in
    let is = (map-may view list desk root tops made c.root-root.ensures window c.len-len.ensures.tape c.requires.tops).visit_is.box in
    laws.bounds.exact c.args.tally.now c.descend.new.tally (shade_points view list) (shade_spans view list) (shade_points view list) (shade_spans view list) (omega arith) (omega arith)
    (map-work laws CountsExactly view list desk root tops c.args.tally.now c.descend.new.tally made c.root-root.ensures box c.requires.tops
    (root-done desk root start c.descend.new.visitor c.args.tally.now c.descend.new.tally can is c.in_ok-descend.ensures.drawn).counted)
