-- A solid is read by its form and then by its parts, with room for one form less.
use Rattle.std.proofs.Common.{◌≡◌, ◌-◌, List, Option, Some, subst, sym, arith}
use Rattle.std.specs.Prelude.{IfOk}
use Rattle.solid_lang.specs.Solids.{SolidTree, tree}
use Rattle.solid_lang.proofs.BuildSteps.{form-some, parts-are, parts-some, room-some}
use Rattle.solid_lang.proofs.Passing.{Tokens}
use Rattle.solid_lang.proofs.reader.+build.Goals as goal

pub build-form-form-requires : goal.build-form-form-requires
build-form-form-requires t c = form-some c.args.room c.args.tokens.now c.requires

pub build-overflow_sub-room : goal.build-overflow_sub-room
build-overflow_sub-room t c = room-some c.args.room c.args.tokens.now c.requires

pub build-build_parts-requires : goal.build-build_parts-requires
build-build_parts-requires t c =
    let room = room-some c.args.room c.args.tokens.now c.requires in
    (omega (arith, c.decreases, room), parts-some c.args.room c.args.tokens.now c.form-form.new.tokens c.form-form.result c.requires c.form-form.ensures)

pub build-returns : goal.build-returns
build-returns t c =
    let room = room-some c.args.room c.args.tokens.now c.requires in
    subst (λ (o : Option (SolidTree × Tokens)). IfOk c.build_parts.result (λ solid. o ≡ Some (tree solid, c.build_parts.new.tokens)))
    (sym (parts-are c.args.room c.args.tokens.now c.form-form.new.tokens c.form-form.result room c.form-form.ensures)) c.build_parts.ensures
