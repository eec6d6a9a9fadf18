-- What a call leaves in the rooms of its caller.
use Rattle.std.specs.Prelude.{◌≡◌, ℕ, List, ◌++◌, length, drop, if◌then◌else◌, nat_le}

-- a room with these bytes at its front, where it is long enough for them; one that is not stays as it was
abbrev pub room_with : List ℕ → List ℕ → List ℕ
room_with bytes room =
    if nat_le (length bytes) (length room) then bytes ++ drop (length bytes) room else room

-- These bytes were handed over into a room, and counted, whether the room is long enough or not.
pub record IsHandedOver (bytes before after : List ℕ) (count : ℕ) : Type 0 where
  pub counted : count ≡ length bytes
  pub room : after ≡ room_with bytes before
