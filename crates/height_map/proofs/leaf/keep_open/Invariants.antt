use Rattle.std.proofs.Common.{◌<◌, get_or, length}
use Rattle.std.specs.Prelude.{◌==◌}
use Rattle.std.specs.List.{All}
use Rattle.std.proofs.lemmas.List.Filters.{FiltersInPlace}
use Rattle.height_map.specs.declared.column.Column.{Column}
use Rattle.height_map.proofs.leaf.keep_open.Given as goal

abbrev pub invariant-loop-n : goal.invariant-loop-n
invariant-loop-n l = record {
  there : All (λ column. column.place < length l.tops) l.columns.items;
  kept : FiltersInPlace (λ (column : Column). get_or l.tops column.place 0 == 0) l.fn.columns.items l.columns.items l.kept l.n;
}
