-- The stream of numbers of a seed: a linear congruential one, of which each number is the upper
-- half of a state.
use Rattle.std.specs.Prelude.{ℕ, ◌+◌, ◌*◌, ◌/◌, ◌%◌, ◌^◌}
use Prim.Native.Nat.{zero, suc}

-- the state that follows a state
abbrev pub next_state : ℕ → ℕ
next_state s = (6364136223846793005 * s + 1442695040888963407) % 2 ^ 64

-- the state after so many draws; the seed is the first
abbrev pub state_after : ℕ → ℕ → ℕ
state_after seed zero = seed
state_after seed (suc n) = next_state (state_after seed n)

-- the number of the draw that so many others go before
abbrev pub drawn : ℕ → ℕ → ℕ
drawn seed n = state_after seed (n + 1) / 2 ^ 32
