-- How a call refuses what its meaning says.
use Rattle.std.specs.Prelude.{◌≡◌, ◌≢◌, Result, Err, IsOk, IfErr}

-- every fault of the call but want of memory is the fault of its meaning
abbrev pub RefusesAs : {A B E : Type 0} → Result A E → E → Result B E → Type 0
RefusesAs meaning memory result = IfErr result (λ fault. fault ≢ memory → meaning ≡ Err fault)

-- memory is wanted only where the meaning accepts
abbrev pub WantsMemoryFor : {A B E : Type 0} → Result A E → E → Result B E → Type 0
WantsMemoryFor meaning memory result = IfErr result (λ fault. fault ≡ memory → IsOk meaning)
