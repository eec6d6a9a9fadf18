use Rattle.contour_lines.proofs.KnownLaws.{place-within}
use Rattle.contour_lines.proofs.known_values.place_of.Goals as goal

pub returns-clause-within : goal.returns-clause-within
returns-clause-within c = place-within c.args.n.x c.args.n.y c.args.x c.args.y c.requires.x c.requires.y
