use Rattle.std.proofs.Common.{◌≡◌, ◌∙◌, ap, arith, length, subst, sym, refl}
use Rattle.std.proofs.lemmas.List.{with_items_is}
use Rattle.box_chains.specs.Chains.{Descent, visit}
use Rattle.box_chains.specs.Desks.{list_of}
use Rattle.box_chains.specs.Tallied.{CountsAtMost, CountsExactly}
use Rattle.box_chains.proofs.Theorems.{laws}
use Rattle.box_descent.specs.Looked.{looked}
use Rattle.height_map.specs.Bound.{layered}
use Rattle.box_chains.specs.Visits.{IsVisit}
use Rattle.height_map.specs.Desks.{MayDraw}
use Rattle.normal_shade.specs.Lit.{lit_where, pruned}
use Rattle.normal_shade.specs.Marks.{has_top_at, is_marked, shade_at}
use Rattle.normal_shade.specs.Shaders.{shade_plan}
use Rattle.normal_shade.specs.Shading.{spans_below}
use Rattle.normal_shade.proofs.Held.{lit-pruned}
use Rattle.normal_shade.proofs.Lit.{Becomes}
use Rattle.normal_shade.proofs.Kept.{slopes_kept}
use Rattle.normal_shade.proofs.ShaderLaws.{end-is, on_err-then, on_ok-both}
use Rattle.normal_shade.proofs.Work.{end-counted}
use Rattle.normal_shade.proofs.shading.ShaderVisitor.visit.Goals as goal

pub light_box-requires-clause-may : goal.light_box-requires-clause-may
light_box-requires-clause-may c =
    let desk = c.args.desk.now in
    let s = c.args.self.now in
    let end = end-is desk c.args.b c.args.given c.args.found s c.requires.next.1 c.requires.may c.requires.found c.requires.end in
    subst (λ at. MayDraw desk c.args.b at (length s.tops.now)) (sym c.tape_or-tape.ensures) end.may

pub light_box-requires-clause-picture : goal.light_box-requires-clause-picture
light_box-requires-clause-picture c = ap length c.deref_mut.ensures.value ∙ c.requires.next.1.pixels

pub returns-clause-drawn : goal.returns-clause-drawn
returns-clause-drawn c =
    let desk = c.args.desk.now in
    let s = c.args.self.now in
    let b = c.args.b in
    let list = list_of desk c.args.given in
    let fits = c.requires.next.1 in
    let end = end-is desk b c.args.given c.args.found s fits c.requires.may c.requires.found c.requires.end in
    let is : list_of desk c.tape_or-tape.result ≡ pruned (layered desk.view) (visit b list) = ap (list_of desk) c.tape_or-tape.ensures ∙ end.is in
    let visit_is = subst (λ (e : Descent). IsVisit e (visit b list)) fits.layers c.requires.may.visit_is in
    on_ok-both c.light_box.result _ _ _
    (λ pixels counted. record {
      tops = refl;
      pixels = subst (λ ys. Becomes (has_top_at desk.view.w s.tops.now b) (shade_at desk.view list s.tops.now) s.pixels.items ys)
          (sym (with_items_is s.pixels c.light_box.new.pixels (pixels.same ∙ ap length c.deref_mut.ensures.value ∙ sym (s.pixels.ok.0))))
          (subst (λ xs. Becomes (has_top_at desk.view.w s.tops.now b) (shade_at desk.view list s.tops.now) xs c.light_box.new.pixels) c.deref_mut.ensures.value
          (lit-pruned laws slopes_kept desk.view list (list_of desk c.tape_or-tape.result) b s.tops.now c.deref_mut.result.now c.light_box.new.pixels visit_is is pixels));
      counted = subst (λ (e : Descent). CountsExactly (lit_where (is_marked desk.view.w s.tops.now) e (visit b list)) (spans_below (is_marked desk.view.w s.tops.now) e (visit b list)) c.args.tally.now c.light_box.new.tally) (sym fits.layers)
          (end-counted laws (is_marked desk.view.w s.tops.now) (layered desk.view) (visit b list) (list_of desk c.tape_or-tape.result) c.args.tally.now c.light_box.new.tally (omega arith) visit_is.box end.whole is counted);
    })
    c.light_box.ensures.pixels c.light_box.ensures.counted

pub returns-clause-halted : goal.returns-clause-halted
returns-clause-halted c =
    let desk = c.args.desk.now in
    let v = visit c.args.b (list_of desk c.args.given) in
    let test = is_marked desk.view.w c.args.self.now.tops.now in
    let d = looked shade_plan desk in
    on_err-then c.light_box.result _ _
    (λ same. subst (λ k. CountsAtMost (lit_where test d v) (spans_below test d v) c.args.tally.now k) (sym same) (laws.bounds.none c.args.tally.now (lit_where test d v) (spans_below test d v)))
    c.light_box.ensures.none
