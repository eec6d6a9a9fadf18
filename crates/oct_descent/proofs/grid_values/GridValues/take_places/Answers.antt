use Rattle.std.proofs.Common.{◌≡◌, ◌+◌, ◌<◌, ap, arith, subst}
use Rattle.kuhn_cells.specs.Triangles.{point}
use Rattle.kuhn_cells.specs.declared.grid_size.GridSize.{GridSize}
use Rattle.oct_descent.specs.Tables.{known_at, read}
use Rattle.oct_descent.specs.Taking.{TakesValue}
use Rattle.oct_descent.proofs.Bricks.{keeps-then, reads, within-from}
use Rattle.oct_descent.proofs.Sizes.{size-is}
use Rattle.oct_descent.proofs.Takes.{row-at, row-more, row-within, value-takes}
use Rattle.oct_descent.proofs.grid_values.GridValues.take_places.Goals as goal

pub take_place-requires-clause-from : goal.take_place-requires-clause-from
take_place-requires-clause-from c =
    row-within c.args.other.now c.args.first c.args.y c.args.z c.args.from c.loop-i.i c.args.end c.holds-2.ensures.kept (omega (arith, c.loop-i-test.true, c.loop-i.auto.i-end, c.requires.some)) c.requires.brick c.requires.from

pub take_place-requires-clause-to : goal.take_place-requires-clause-to
take_place-requires-clause-to c =
    omega (arith, row-within c.args.self.now c.args.first c.args.y c.args.z c.args.to c.loop-i.i c.args.end c.holds.ensures.kept (omega (arith, c.loop-i-test.true, c.loop-i.auto.i-end, c.requires.some)) c.requires.brick c.requires.to, c.loop-i.invariant.keeps.more)

pub overflow_add-from : goal.overflow_add-from
overflow_add-from c =
    omega (arith, row-within c.args.other.now c.args.first c.args.y c.args.z c.args.from c.loop-i.i c.args.end c.holds-2.ensures.kept (omega (arith, c.loop-i-test.true, c.loop-i.auto.i-end, c.requires.some)) c.requires.brick c.requires.from, c.holds-2.ensures.few)

pub overflow_add-to : goal.overflow_add-to
overflow_add-to c =
    omega (arith, row-within c.args.self.now c.args.first c.args.y c.args.z c.args.to c.loop-i.i c.args.end c.holds.ensures.kept (omega (arith, c.loop-i-test.true, c.loop-i.auto.i-end, c.requires.some)) c.requires.brick c.requires.to, c.holds.ensures.few)

pub loop-i-preserved : goal.loop-i-preserved
loop-i-preserved c =
    let i = c.loop-i.i in
    let q = point (c.args.first + i) c.args.y c.args.z in
    let less : c.args.first + i < c.args.end = omega (arith, c.loop-i-test.true, c.loop-i.auto.i-end, c.requires.some) in
    let other = c.args.other.now in
    let mid = c.loop-i.self in
    let n = size-is other.n c.args.self.now.n c.requires.n in
    let m = size-is mid.n c.args.self.now.n c.loop-i.invariant.keeps.n in
    let here = c.loop-i.invariant.keeps.each q (c.args.to + i) (row-at c.args.self.now c.args.first c.args.y c.args.z c.args.to i c.args.end less c.requires.brick c.requires.to) in
    let there = row-at other c.args.first c.args.y c.args.z c.args.from i c.args.end less c.requires.brick c.requires.from in
    let value : read other.kept (c.args.from + i) ≡ known_at other q =
    reads other q (c.args.from + i) (omega (arith, less, c.requires.x, ap (λ (s : GridSize). s.x) n)) (omega (arith, c.requires.y, ap (λ (s : GridSize). s.y) n)) (omega (arith, c.requires.z, ap (λ (s : GridSize). s.z) n)) there in
    let within = within-from mid.n q (omega (arith, less, c.requires.x, ap (λ (s : GridSize). s.x) m)) (omega (arith, c.requires.y, ap (λ (s : GridSize). s.y) m)) (omega (arith, c.requires.z, ap (λ (s : GridSize). s.z) m)) in
    record {
      keeps = keeps-then c.args.self.now mid c.take_place.new.self c.loop-i.invariant.keeps c.take_place.ensures.keeps;
      takes = row-more c.args.first i c.args.y c.args.z other c.args.self.now mid c.take_place.new.self c.loop-i.invariant.takes
          (value-takes q other mid c.take_place.new.self (subst (λ v. TakesValue q v mid c.take_place.new.self) value (c.take_place.ensures.takes q within here)));
    }
