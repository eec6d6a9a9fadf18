-- How a table keeps a name, and how it is asked for one.
use Rattle.std.specs.Prelude.{List, ℕ}
use Rattle.solid_model.specs.declared.key.KeyBytes.{KeyBytes}
use Rattle.solid_model.specs.declared.key.KeyBytes.TheVariants.{Kept, Lent}

-- the bytes of a key
abbrev pub key_bytes : KeyBytes → List ℕ
key_bytes (Kept label) = label
key_bytes (Lent bytes) = bytes.now
