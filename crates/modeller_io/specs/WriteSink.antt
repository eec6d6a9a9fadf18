-- What contracts see of the adapter over a writer.
use Rattle.std.specs.Prelude.{ℕ, ◌≤◌, List, length, take, Option}
use Rattle.std.specs.Io.KnownBytes.{Appends}
use Rattle.modeller_io.specs.declared.write_sink.WriteSink.{WriteSink}

-- the writer itself
abbrev pub writer_of : {W : Type 0} → WriteSink W → W
writer_of sink = sink.inner

-- how often it failed
abbrev pub write_faults : {W : Type 0} → WriteSink W → ℕ
write_faults sink = sink.faults

-- where the writer tells what it holds, that grew by a front of these bytes, once
pub record TookFront {W : Type 0} (contents : W → Option (List ℕ))
    (before after : W) (bytes : List ℕ) : Type 0 where
  pub count : ℕ
  pub within : count ≤ length bytes
  pub appended : Appends (contents before) (contents after) (take count bytes)
