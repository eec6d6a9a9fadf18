use Rattle.std.proofs.Common.{ℕ, ◌+◌, take, arith}
use Rattle.std.proofs.lemmas.List.{length-take, length-take-le}
use Rattle.modeller_io.proofs.Taking.{LosesAtMost-read}
use Rattle.modeller_io.proofs.reading.read_all.Goals as goal

pub returns-then-count-room-clause-lost : goal.returns-then-count-room-clause-lost
returns-then-count-room-clause-lost g c =
    let given = length-take-le c.in-Ok.count c.read.new.buf c.in-Ok.ensures.within in
    LosesAtMost-read g.S.Source.rest g.S.Source.taken _ _ _ c.loop-count.bytes.items (take c.in-Ok.count c.read.new.buf) _ _ _ c.loop-count.bytes.ok.0 given c.loop-count.invariant.read c.in-Ok.ensures.bytes c.loop-count.invariant.took c.in-Ok.ensures.took (omega (arith, c.in-Ok.ensures.within, length-take {A = ℕ}))

pub returns-then-is_err-clause-no_memory_took : goal.returns-then-is_err-clause-no_memory_took
returns-then-is_err-clause-no_memory_took g c =
    λ _. record { by = c.loop-count.bytes.len + c.in-Ok.count; within = omega arith; rose = omega (arith, c.in-Ok.ensures.took) }

pub returns-then-is_err-clause-lost : goal.returns-then-is_err-clause-lost
returns-then-is_err-clause-lost g c =
    let given = length-take-le c.in-Ok.count c.read.new.buf c.in-Ok.ensures.within in
    LosesAtMost-read g.S.Source.rest g.S.Source.taken _ _ _ c.loop-count.bytes.items (take c.in-Ok.count c.read.new.buf) _ _ _ c.loop-count.bytes.ok.0 given c.loop-count.invariant.read c.in-Ok.ensures.bytes c.loop-count.invariant.took c.in-Ok.ensures.took (omega arith)
