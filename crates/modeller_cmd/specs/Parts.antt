-- The parts of what a run writes, one after the other.
use Rattle.std.specs.Prelude.{ℕ, List, [], ◌∷◌, ◌++◌}
use Rattle.model_frames.specs.Frames.{Part}
use Rattle.model_frames.specs.Work.{Work, both, no_work}

-- the bytes of the parts, one after the other
abbrev pub bytes_of_parts : List Part → List ℕ
bytes_of_parts [] = []
bytes_of_parts (part ∷ parts) = part.bytes ++ bytes_of_parts parts

-- the work of all the parts
abbrev pub work_of_parts : List Part → Work
work_of_parts [] = no_work
work_of_parts (part ∷ parts) = both part.work (work_of_parts parts)
