-- One cell after another.
use Rattle.std.proofs.lemmas.List.{length-map}
use Rattle.std.specs.Prelude.{get_or}
use Rattle.tetra_mesh.specs.Sides.{sided_of}
use Rattle.std.proofs.Common.{◌≤◌, ◌<◌, ◌+◌, ℕ, length, ap, arith, refl, subst, sym, ◌∙◌}
use Rattle.kuhn_cells.specs.Sizes.{IsBounded}
use Rattle.tetra_mesh.specs.declared.sided_cell.SidedCell.{SidedCell}
use Rattle.tetra_mesh.specs.Numbering.{LiesBelow}
use Rattle.tetra_mesh.proofs.ReachLaws.{below_more, in_at, numbered_more, room_at, room_left, stopped}
use Rattle.tetra_mesh.proofs.SideLaws.{behind, no_sides, numbers_cell}
use Rattle.tetra_mesh.proofs.numbering.Numbering.reach.Goals as goal

pub loop-self-init : goal.loop-self-init
loop-self-init c = record { width = refl; numbered = c.requires.numbered; below = c.requires.below }

pub push_cell-requires-clause-bounded : goal.push_cell-requires-clause-bounded
push_cell-requires-clause-bounded c =
    subst IsBounded (sym c.loop-self.invariant.width) c.requires.cells.1.mixed.bounded

pub push_cell-requires-clause-x : goal.push_cell-requires-clause-x
push_cell-requires-clause-x c =
    let cells = c.requires.cells.0 in
    let are = c.requires.cells.1 in
    let b = behind cells c.args.sided.now c.loop-self.self.ahead are.sides c.loop-self-test.true in
    let within = in_at cells c.args.self.now.n c.loop-self.self.n c.loop-self.self.ahead b.cell are.mixed c.loop-self.invariant.width b.within b.here in
    let x = within.x in
    let same = ap (λ (s : SidedCell). s.x) b.sided in
    omega (arith, x, same)

pub push_cell-requires-clause-y : goal.push_cell-requires-clause-y
push_cell-requires-clause-y c =
    let cells = c.requires.cells.0 in
    let are = c.requires.cells.1 in
    let b = behind cells c.args.sided.now c.loop-self.self.ahead are.sides c.loop-self-test.true in
    let within = in_at cells c.args.self.now.n c.loop-self.self.n c.loop-self.self.ahead b.cell are.mixed c.loop-self.invariant.width b.within b.here in
    let y = within.y in
    let same = ap (λ (s : SidedCell). s.y) b.sided in
    omega (arith, y, same)

pub push_cell-requires-clause-room : goal.push_cell-requires-clause-room
push_cell-requires-clause-room c =
    let numbered = c.loop-self.invariant.numbered c.requires.cells.0 c.requires.cells.1 in
    room_at c.args.self.now.n c.loop-self.self.n _ c.loop-self.invariant.width numbered.room

pub push_cell-requires-clause-few : goal.push_cell-requires-clause-few
push_cell-requires-clause-few c =
    let numbered = c.loop-self.invariant.numbered c.requires.cells.0 c.requires.cells.1 in
    room_left c.requires.cells.0 c.args.self.now.n c.loop-self.self c.requires.cells.1.mixed numbered

pub loop-self-preserved : goal.loop-self-preserved
loop-self-preserved c =
    let a = c.loop-self.self.ahead in
    let step = c.push_cell.ensures in
    record {
      width = step.width ∙ c.loop-self.invariant.width;
      numbered = λ cells are.
          let b = behind cells c.args.sided.now a are.sides c.loop-self-test.true in
          let own = numbers_cell b.cell (get_or c.args.sided.now a no_sides) c.loop-self.self c.push_cell.new.self b.sided step in
          numbered_more cells c.args.self.now.n c.loop-self.self c.push_cell.new.self b.cell are.mixed (c.loop-self.invariant.numbered cells are) b.within b.here own;
      below = λ cells are.
          let b = behind cells c.args.sided.now a are.sides c.loop-self-test.true in
          let low : b.cell.z ≤ c.args.z + 1 = let e = ap (λ (s : SidedCell). s.z) b.sided in let low = c.if-sided-self.true in omega (arith, e, low) in
          let P : ℕ → Type 0 = λ i. LiesBelow cells i c.args.z in
          subst P (sym step.ahead) (below_more cells a c.args.z b.cell (c.loop-self.invariant.below cells are) b.within b.here low);
    }

pub returns-else-sided-self-clause-width : goal.returns-else-sided-self-clause-width
returns-else-sided-self-clause-width c = c.loop-self.invariant.width

pub returns-else-sided-self-clause-numbered : goal.returns-else-sided-self-clause-numbered
returns-else-sided-self-clause-numbered c = c.loop-self.invariant.numbered

pub returns-else-sided-self-clause-below : goal.returns-else-sided-self-clause-below
returns-else-sided-self-clause-below c = c.loop-self.invariant.below

pub returns-else-sided-self-clause-reached : goal.returns-else-sided-self-clause-reached
returns-else-sided-self-clause-reached c cells are =
    let b = behind cells c.args.sided.now c.loop-self.self.ahead are.sides c.loop-self-test.true in
    let above : c.args.z + 1 < b.cell.z = let e = ap (λ (s : SidedCell). s.z) b.sided in let high = c.if-sided-self.false in omega (arith, e, high) in
    stopped cells c.args.self.now.n c.loop-self.self.ahead c.args.z b.cell are.mixed b.within b.here above

pub returns-after-loop-self-clause-width : goal.returns-after-loop-self-clause-width
returns-after-loop-self-clause-width c = c.loop-self.invariant.width

pub returns-after-loop-self-clause-numbered : goal.returns-after-loop-self-clause-numbered
returns-after-loop-self-clause-numbered c = c.loop-self.invariant.numbered

pub returns-after-loop-self-clause-below : goal.returns-after-loop-self-clause-below
returns-after-loop-self-clause-below c = c.loop-self.invariant.below

pub returns-after-loop-self-clause-reached : goal.returns-after-loop-self-clause-reached
returns-after-loop-self-clause-reached c cells are k d within low =
    let long = ap length are.sides ∙ length-map cells sided_of in
    let end = c.loop-self-test.false in
    omega (arith, long, end, within)
