use Rattle.std.proofs.Common.{map, ap, sym, ◌∙◌, arith}
use Rattle.std.proofs.lemmas.List.{take_all}
use Rattle.view_places.specs.Spans.{region_of}
use Rattle.box_chains.proofs.rows.regions_of.Goals as goal

pub returns : goal.returns
returns g c =
    sym (take_all c.loop-l.l c.loop-l.regions (omega (arith, c.loop-l-test.false, c.loop-l.invariant.count))) ∙ c.loop-l.invariant.done
    ∙ ap (map (λ a. region_of c.args.places.now.view c.args.places.now.lattice a.range))
    (take_all c.loop-l.l c.args.asked.now (omega (arith, c.loop-l-test.false, c.requires.boxes)))
