-- What a clause meets that is put in behind all others.
use Rattle.std.proofs.Common.{◌≡◌, ℕ, ◌<◌, Bool, true, false, cond, nat_le, List, [], ◌∷◌, ◌++◌, length, map, None, Some, refl, ap, subst, ◌∙◌, arith}
use Rattle.std.specs.List.{insert, list_any, position_or_len}
use Rattle.std.proofs.lemmas.Bool.Decides.{nat_tests}
use Rattle.std.proofs.lemmas.Option.{slice_get_within}
use Rattle.fixed_ops.specs.Arity.{arity_of}
use Rattle.solid_model.specs.declared.clause.Clause.{Clause}
use Rattle.solid_model.specs.declared.push_fault.PushFault.TheVariants.{DoubleName}
use Rattle.solid_model.specs.Clauses.{place_of, AreInOrder}
use Rattle.solid_model.specs.Pushing.{push_fault}
use Rattle.solid_model.specs.Surgery.{moved, reads_before, up}
use Rattle.solid_model.specs.Tables.{HasOperandsBefore}
use Rattle.solid_model.proofs.ModelLemmas.{FitsAt-end, Matches-clause_after}
use Rattle.solid_model.proofs.SurgeryLemmas.{read-first, read-second}
use Rattle.solid_model.specs.Adding.{clause_after}
use Rattle.solid_model.specs.Parts.{Parts, IsForm}
use Rattle.solid_model.proofs.NamePlaces.{map-alike, up-less}

pub no_push_fault : (clauses : List Clause) (name : List ℕ) → place_of clauses name ≡ None → length clauses < 65535 → push_fault clauses name ≡ None
no_push_fault clauses name new room = let free : nat_le 65535 (length clauses) ≡ false = grind (arith, nat_tests) in rw (new, free) refl

pub double_name : (clauses : List Clause) (name : List ℕ) (at : ℕ) → place_of clauses name ≡ Some at → push_fault clauses name ≡ Some DoubleName
double_name clauses name at there = rw there refl

-- a test that passes nowhere has the length as its place
pub place-nowhere : {A : Type 0} (p : A → Bool) (xs : List A) → list_any p xs ≡ false → position_or_len p xs ≡ length xs
place-nowhere p [] none = refl
place-nowhere p (x ∷ xs) none = by (p x) refl (λ h. place-nowhere p xs h)
  where
    by : (b : Bool) → p x ≡ b → (list_any p xs ≡ false → position_or_len p xs ≡ length xs) → position_or_len p (x ∷ xs) ≡ length (x ∷ xs)
    by true test rest = let is = rw test at none in (cc)
    by false test rest = let is = rw test at none in rw test (omega (arith, rest is))

-- a clause put in behind all others goes last
insert-last : {A : Type 0} (xs : List A) (y : A) → insert xs (length xs) y ≡ xs ++ y ∷ []
insert-last [] y = refl
insert-last (x ∷ xs) y = ap (λ ys. x ∷ ys) (insert-last xs y)

moved-same : (to : ℕ → ℕ) (c : Clause) → (0 < arity_of c.op → to c.a ≡ c.a) → (1 < arity_of c.op → to c.b ≡ c.b) → moved to c ≡ c
moved-same to c first second =
    ap (λ (n : ℕ). record { name = c.name; op = c.op; a = n; b = (moved to c).b; value = c.value })
    (choose (nat_le 1 (arity_of c.op)) (to c.a) c.a (λ h. first (grind (arith, nat_tests))))
    ∙ ap (λ (n : ℕ). record { name = c.name; op = c.op; a = c.a; b = n; value = c.value })
    (choose (nat_le 2 (arity_of c.op)) (to c.b) c.b (λ h. second (grind (arith, nat_tests))))
  where
    choose : (b : Bool) (m n : ℕ) → (b ≡ true → m ≡ n) → cond b m n ≡ n
    choose true m n h = h refl
    choose false m n h = refl

pub insert-behind : (clauses : List Clause) (clause : Clause) (at : ℕ) → AreInOrder clauses → length clauses ≡ at
    → insert (map (moved (up at)) clauses) at clause ≡ clauses ++ clause ∷ []
insert-behind clauses clause at in_order long =
    ap (λ cs. insert cs at clause)
    (map-alike (moved (up at)) (λ c. c) clauses (λ k c e.
    let stands = in_order k c e in
    let within = slice_get_within clauses k c e in
    moved-same (up at) c
    (λ h. up-less at c.a (omega (arith, stands.fits.first h, within, long)))
    (λ h. up-less at c.b (omega (arith, stands.fits.second h, within, long))))
    ∙ map-itself clauses)
    ∙ subst (λ k. insert clauses k clause ≡ clauses ++ clause ∷ []) long (insert-last clauses clause)
  where
    map-itself : (xs : List Clause) → map (λ c. c) xs ≡ xs
    map-itself [] = refl
    map-itself (x ∷ xs) = ap (λ ys. x ∷ ys) (map-itself xs)

-- the operands of a clause that a form gives
pub operands-after : (clauses : List Clause) (name : List ℕ) (form : Parts) (clause : Clause) → IsForm form → clause_after clauses name form ≡ Some clause
    → HasOperandsBefore (length clauses) clause
operands-after clauses name form clause ok made =
    let fits = FitsAt-end clauses name form clause ok (Matches-clause_after clauses name form clause made) in
    record { first = fits.first; second = fits.second; no_first = fits.no_first; no_second = fits.no_second }

pub operands-before : (clauses : List Clause) (name : List ℕ) (form : Parts) (clause : Clause) (at : ℕ) → IsForm form → clause_after clauses name form ≡ Some clause
    → reads_before at clause ≡ true → HasOperandsBefore at clause
operands-before clauses name form clause at ok made test =
    let fits = FitsAt-end clauses name form clause ok (Matches-clause_after clauses name form clause made) in
    record { first = read-first at clause test; second = read-second at clause test; no_first = fits.no_first; no_second = fits.no_second }
