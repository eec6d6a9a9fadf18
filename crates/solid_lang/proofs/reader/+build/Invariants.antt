-- A solid is read by its parts, and these each with room for one form less.
use Rattle.std.proofs.Common.{◌+◌, ◌*◌}
use Rattle.solid_lang.proofs.reader.+build.Given as goal

abbrev pub decreases-build : goal.decreases-build
decreases-build l = 4 * l.room

abbrev pub decreases-build_boxed : goal.decreases-build_boxed
decreases-build_boxed l = 4 * l.room + 1

abbrev pub decreases-build_pair : goal.decreases-build_pair
decreases-build_pair l = 4 * l.room + 2

abbrev pub decreases-build_parts : goal.decreases-build_parts
decreases-build_parts l = 4 * l.room + 3
