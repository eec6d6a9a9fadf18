-- Where a solid can be read off tokens, its form can, and then its parts.
use Rattle.std.proofs.Common.{◌≡◌, ℕ, zero, suc, ◌-◌, ◌≤◌, true, false, List, Option, Some, None, refl, ap, subst, sym, ◌∙◌, arith}
use Rattle.std.specs.Prelude.{IsSome, is_some}
use Rattle.solid_lang.specs.declared.form.Form.{Form}
use Rattle.solid_lang.specs.Building.{◌>>=◌, form_read, parts_read, solid_read}
use Rattle.solid_lang.specs.Solids.{SolidTree}
use Rattle.solid_lang.proofs.BuildLemmas.{read-suc, read-zero, step}
use Rattle.solid_lang.proofs.Passing.{Tokens}

-- there is room for a form
pub room-some : (room : ℕ) (ts : Tokens) → IsSome (solid_read room ts) → 1 ≤ room
room-some zero ts h =
    let none : is_some (solid_read zero ts) ≡ false = ap (λ (o : Option (SolidTree × Tokens)). is_some o) (read-zero ts) in
    absurd (cc)
room-some (suc room) ts h = omega arith

some-first : {A B : Type 0} (o : Option A) (f : A → Option B) → IsSome (o >>= f) → IsSome o
some-first None f h = h
some-first (Some x) f h = refl

-- its word stands first
pub form-some : (room : ℕ) (ts : Tokens) → IsSome (solid_read room ts) → IsSome (form_read ts)
form-some zero ts h = absurd (omega (arith, room-some zero ts h))
form-some (suc room) ts h =
    let next : Form × Tokens → Option (SolidTree × Tokens) = λ begun. parts_read (solid_read room) begun.0 begun.1 in
    some-first (form_read ts) next (subst (λ (o : Option (SolidTree × Tokens)). IsSome o) (read-suc room ts) h)

-- and its parts follow
pub parts-are : (room : ℕ) (ts rest : Tokens) (form : Form) → 1 ≤ room → form_read ts ≡ Some (form, rest)
    → solid_read room ts ≡ parts_read (solid_read (room - 1)) form rest
parts-are zero ts rest form low e = absurd (omega arith)
parts-are (suc room) ts rest form low e =
    let next : Form × Tokens → Option (SolidTree × Tokens) = λ begun. parts_read (solid_read room) begun.0 begun.1 in
    let back : suc room - 1 ≡ room = omega arith in
    rw back (read-suc room ts ∙ step (form_read ts) (form, rest) next (parts_read (solid_read room) form rest) e refl)

pub parts-some : (room : ℕ) (ts rest : Tokens) (form : Form) → IsSome (solid_read room ts) → form_read ts ≡ Some (form, rest)
    → IsSome (parts_read (solid_read (room - 1)) form rest)
parts-some room ts rest form h e =
    subst (λ (o : Option (SolidTree × Tokens)). IsSome o) (parts-are room ts rest form (room-some room ts h) e) h
