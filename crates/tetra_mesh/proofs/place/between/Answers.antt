-- The sum of a raw number and a part of the way to another lies between the two.
use Rattle.std.proofs.Common.{◌≡◌, ◌∙◌, ap, arith, w64, ℤ, ◌+ℤ◌, ◌-ℤ◌, to_z, of_z}
use Rattle.std.proofs.lemmas.Int.{ints, clamps}
use Rattle.fixed_ops.specs.Raw.{IsRaw}
use Rattle.tetra_mesh.proofs.WayLaws.{IsPartOf, parts_within}
use Rattle.tetra_mesh.proofs.place.between.Goals as goal

-- ways between raw numbers fit in 64 bits
way : (low high : ℤ) → IsRaw low → IsRaw high → to_z w64 (of_z w64 (to_z w64 (of_z w64 high) -ℤ to_z w64 (of_z w64 low))) ≡ high -ℤ low
way low high l h = omega (arith, ints, l.0, l.1, h.0, h.1)

-- and so does the sum
sum : (low high part : ℤ) → IsRaw low → IsRaw high → IsPartOf (high -ℤ low) part
    → (to_z w64 (of_z w64 (to_z w64 (of_z w64 low) +ℤ to_z w64 (of_z w64 part))) ≡ low +ℤ part) × IsRaw (low +ℤ part)
sum low high part l h p =
    (omega (arith, ints, clamps, l.0, l.1, h.0, h.1, p.least, p.greatest), (omega (arith, ints, clamps, l.0, l.1, h.0, h.1, p.least, p.greatest), omega (arith, ints, clamps, l.0, l.1, h.0, h.1, p.least, p.greatest)))

pub returns-clause-between : goal.returns-clause-between
returns-clause-between c =
    let e = way c.args.low c.args.high c.requires.low c.requires.high in
    let part = rw e at c.parts.ensures in
    let within = rw (← part) at (parts_within (c.args.high -ℤ c.args.low) c.args.t c.requires.part) in
    let s = sum c.args.low c.args.high c.parts.result c.requires.low c.requires.high within in
    s.0 ∙ ap (λ (r : ℤ). c.args.low +ℤ r) part

pub returns-clause-raw : goal.returns-clause-raw
returns-clause-raw c =
    let e = way c.args.low c.args.high c.requires.low c.requires.high in
    let part = rw e at c.parts.ensures in
    let within = rw (← part) at (parts_within (c.args.high -ℤ c.args.low) c.args.t c.requires.part) in
    let s = sum c.args.low c.args.high c.parts.result c.requires.low c.requires.high within in
    rw s.0 s.1
