-- The laws are lemmas.
use Rattle.plane_loops.proofs.ArrivalLaws.{one_segment_each_way, segments_join_vertices}
use Rattle.plane_loops.proofs.DistinctLaws.{segments_are_distinct}
use Rattle.plane_loops.proofs.laws.one_segment_each_way.Goals as goal

pub returns-clause-vertices : goal.returns-clause-vertices
returns-clause-vertices c = segments_join_vertices

pub returns-clause-distinct : goal.returns-clause-distinct
returns-clause-distinct c = segments_are_distinct

pub returns-clause-once : goal.returns-clause-once
returns-clause-once c = one_segment_each_way
