use Rattle.std.proofs.Common.{◌≡◌, ◌++◌, length}
use Rattle.grid_text.specs.Texts.{text_of}
use Rattle.grid_text.proofs.text.grid_text_in.Given as goal

abbrev pub invariant-loop-buffer : goal.invariant-loop-buffer
invariant-loop-buffer l = l.buffer.items ++ l.pieces.rest ≡ text_of l.grid.view l.grid.list

abbrev pub decreases-loop-buffer : goal.decreases-loop-buffer
decreases-loop-buffer l = length l.pieces.rest
