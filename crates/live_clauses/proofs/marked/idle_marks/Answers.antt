use Rattle.live_clauses.proofs.NextMarks.{found-few, found-idle, found-there}
use Rattle.live_clauses.proofs.marked.idle_marks.Goals as goal

pub returns-clause-few : goal.returns-clause-few
returns-clause-few c = found-few c.args.marks.now c.args.lane c.args.at c.lowest_set.result c.requires.lane c.requires.within c.lowest_set.ensures

pub returns-clause-idle : goal.returns-clause-idle
returns-clause-idle c = found-idle c.args.marks.now c.args.lane c.args.at c.lowest_set.result c.requires.lane c.requires.within c.lowest_set.ensures

pub returns-clause-there : goal.returns-clause-there
returns-clause-there c = found-there c.args.marks.now c.args.lane c.args.at c.lowest_set.result c.requires.lane c.requires.within c.lowest_set.ensures
