-- What is told of the tokens says whether a solid can be built of them, and it is the one that they say.
use Rattle.solid_lang.proofs.Giving.{can-build, gives-built, gives-fault}
use Rattle.solid_lang.proofs.reader.read_solid.Goals as goal

pub build_text-requires-clause-good : goal.build_text-requires-clause-good
build_text-requires-clause-good c = can-build c.args.text.now c.in-Ok.field-0 c.in-Ok.ensures

pub returns-in-Ok : goal.returns-in-Ok
returns-in-Ok c =
    gives-built c.args.text.now c.in-Ok.field-0 c.build_text.result c.in-Ok.ensures c.build_text.ensures.solid c.build_text.ensures.memory

pub returns-in-Err : goal.returns-in-Err
returns-in-Err c = gives-fault c.args.text.now c.in-Err.fault c.in-Err.ensures
