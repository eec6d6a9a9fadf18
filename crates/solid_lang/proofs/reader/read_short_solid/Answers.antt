-- A solid of so many clauses can be built, and it is the one that the tokens say.
use Rattle.solid_lang.proofs.Giving.{can-build-short, gives-built-short, refuses-short}
use Rattle.solid_lang.proofs.reader.read_short_solid.Goals as goal

pub build_text-requires-clause-good : goal.build_text-requires-clause-good
build_text-requires-clause-good c = can-build-short c.args.text.now c.in-Ok.field-0 c.in-Ok.ensures

pub returns-in-Ok : goal.returns-in-Ok
returns-in-Ok c =
    gives-built-short c.args.text.now c.in-Ok.field-0 c.build_text.result c.in-Ok.ensures c.build_text.ensures.solid c.build_text.ensures.memory

pub returns-in-Err : goal.returns-in-Err
returns-in-Err c = refuses-short c.args.text.now c.in-Err.fault c.in-Err.ensures
