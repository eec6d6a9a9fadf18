-- One step of reading after the other: the first error ends it.
use Rattle.std.specs.Prelude.{Option, Some, None, Result, Ok, Err}

infixl 10 ◌>>=◌
abbrev pub ◌>>=◌ : {A B E : Type 0} → Result A E → (A → Result B E) → Result B E
(Ok x) >>= f = f x
(Err e) >>= f = Err e

-- the value, or this error where there is none
abbrev pub or_refused : {A E : Type 0} → Option A → E → Result A E
or_refused None e = Err e
or_refused (Some x) e = Ok x
