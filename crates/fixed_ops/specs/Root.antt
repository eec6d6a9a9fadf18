-- Square roots rounded down.
use Rattle.std.specs.Prelude.{◌≡◌, ℕ, ℤ, pos, negsuc, ◌^◌, ◌+◌, ◌*◌, ◌<◌, ◌≤◌, nat_le, if◌then◌else◌}
use Prim.Native.Nat.{zero, suc}

-- r is the greatest number whose square is at most n
abbrev pub IsRoot : ℕ → ℕ → Type 0
IsRoot n r = (r * r ≤ n) × (n < (r + 1) * (r + 1))

-- the greatest number up to k whose square is at most n
unfoldable pub root_up_to : ℕ → ℕ → ℕ
root_up_to n zero = 0
root_up_to n (suc k) = if nat_le (suc k * suc k) n then suc k else root_up_to n k

-- the greatest number whose square is at most n
unfoldable pub floor_root : ℕ → ℕ
floor_root n = root_up_to n n

-- r is the greatest whole number whose square is at most a * 2^32, and 0 for a below 0
abbrev pub IsRawRoot : ℤ → ℤ → Type 0
IsRawRoot (pos n) r = (k : ℕ) × (r ≡ pos k) × IsRoot (n * 2 ^ 32) k
IsRawRoot (negsuc n) r = r ≡ pos 0
