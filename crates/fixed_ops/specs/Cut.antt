-- Where the surface cuts an edge between an inside and an outside point.
use Rattle.std.specs.Prelude.{ℕ, ◌+◌, ◌*◌, ◌/◌, ℤ, min, max, unsigned_abs}

-- The way from the inside end to the cut, in parts of 65536 of the edge, where the values rise
-- evenly from one end to the other and pass 0: a / (a + b) of the edge, where a and b tell how far
-- the values lie below and above 0. It is rounded down, and neither end of the edge.
abbrev pub cut_of : ℤ → ℤ → ℕ
cut_of inside outside =
    let a = unsigned_abs inside in let b = unsigned_abs outside in
    max 1 (min 65535 (65536 * a / (a + b)))
