-- The parts of a disc, put last one after the other.
use Rattle.std.proofs.Common.{rules}
use Rattle.model_forge.proofs.PlacedLemmas.{circle_parts}
use Rattle.model_forge.proofs.clauses.push_circle.Goals as goal

pub returns-clause-clauses : goal.returns-clause-clauses
returns-clause-clauses c = search (rules, circle_parts c.args.builder.now c.push_square.new.builder c.push_square-2.new.builder c.push_edge.new.builder c.args.number c.in_ok-across.across c.in_ok-up.up c.args.disc.now.x c.args.disc.now.y c.args.disc.now.radius c.in_ok-across.ensures.clauses c.in_ok-up.ensures.clauses)
