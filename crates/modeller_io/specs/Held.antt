-- What a call does to the bytes that a sink holds, where the sink tells them.
use Rattle.std.specs.Prelude.{◌≡◌, ℕ, ◌<◌, List, ◌++◌, length, take, Option, Some, None, ⊤}

-- What is told after is what was told before and then these bytes. Nothing told after says nothing,
-- and what was not told before is not told after.
abbrev pub Extends : Option (List ℕ) → Option (List ℕ) → List ℕ → Type 0
Extends before None bytes = ⊤
Extends None (Some after) bytes = ⊥
Extends (Some before) (Some after) bytes = after ≡ before ++ bytes

-- where the sink tells what it holds after the call, it told before, and it grew by exactly these bytes
abbrev pub Gains : {K : Type 0} → (K → Option (List ℕ)) → K → K → List ℕ → Type 0
Gains held before after bytes = Extends (held before) (held after) bytes

-- it grew by a proper prefix of these bytes: by fewer of them than there are, from the first one on
pub record GainsProperPrefix {K : Type 0} (held : K → Option (List ℕ))
    (before after : K) (bytes : List ℕ) : Type 0 where
  pub count : ℕ
  pub within : count < length bytes
  pub gained : Gains held before after (take count bytes)

-- it grew by some bytes
pub record Grew {K : Type 0} (held : K → Option (List ℕ)) (before after : K) : Type 0 where
  pub bytes : List ℕ
  pub gained : Gains held before after bytes
