-- What contracts see of the adapter over a reader.
use Rattle.std.specs.Prelude.{ℕ}
use Rattle.modeller_io.specs.declared.read_source.ReadSource.{ReadSource}

-- the reader itself
abbrev pub reader_of : {R : Type 0} → ReadSource R → R
reader_of source = source.inner

-- how many bytes it gave
abbrev pub bytes_read : {R : Type 0} → ReadSource R → ℕ
bytes_read source = source.taken

-- how often it failed
abbrev pub read_faults : {R : Type 0} → ReadSource R → ℕ
read_faults source = source.faults
