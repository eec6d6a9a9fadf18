-- The numbers of a solid that is read are raw numbers.
use Rattle.std.proofs.Common.{◌≡◌, ℕ, ℤ, List, [], ◌∷◌, map, Some}
use Rattle.std.specs.List.{AllByRecursion}
use Rattle.fixed_ops.specs.Numerals.{numeral}
use Rattle.fixed_ops.specs.Raw.{IsRaw}
use Rattle.solid_lang.specs.RawSolids.{HasRawNumbers}
use Rattle.solid_lang.specs.Reading.{Says}
use Rattle.solid_lang.specs.Solids.{SolidTree, Ball, Block, Cylinder, Move, Scale, Union, Intersect, Difference}
use Rattle.fixed_ops.proofs.NumeralLaws.{numeral_is_raw}

-- numbers that are spelled by numerals are raw
spelled-raw : (tokens : List (ℕ × List ℕ)) (numbers : List ℤ) → map (λ token. numeral token.1) tokens ≡ map (λ number. Some number) numbers → AllByRecursion IsRaw numbers
spelled-raw [] [] same = tt
spelled-raw [] (n ∷ numbers) same = absurd cc
spelled-raw (t ∷ tokens) [] same = absurd cc
spelled-raw (t ∷ tokens) (n ∷ numbers) same =
    let first : numeral t.1 ≡ Some n = cc in
    let rest : map (λ token. numeral token.1) tokens ≡ map (λ number. Some number) numbers = cc in
    (numeral_is_raw t.1 n first, spelled-raw tokens numbers rest)

pub said-raw : (s : SolidTree) (tokens : List (ℕ × List ℕ)) → Says s tokens → HasRawNumbers s
said-raw (Ball r) tokens h = (spelled-raw h.numerals (r ∷ []) h.spelled).0
said-raw (Block a b c) tokens h = let all = spelled-raw h.numerals (a ∷ b ∷ c ∷ []) h.spelled in (all.0, all.1.0, all.1.1.0)
said-raw (Cylinder r k) tokens h = let all = spelled-raw h.numerals (r ∷ k ∷ []) h.spelled in (all.0, all.1.0)
said-raw (Move x y z s) tokens h =
    let all = spelled-raw h.begins.numerals (x ∷ y ∷ z ∷ []) h.begins.spelled in
    (all.0, all.1.0, all.1.1.0, said-raw s h.rest h.inner)
said-raw (Scale k s) tokens h = ((spelled-raw h.begins.numerals (k ∷ []) h.begins.spelled).0, said-raw s h.rest h.inner)
said-raw (Union a b) tokens h = (said-raw a h.first h.first_is, said-raw b h.second h.second_is)
said-raw (Intersect a b) tokens h = (said-raw a h.first h.first_is, said-raw b h.second h.second_is)
said-raw (Difference a b) tokens h = (said-raw a h.first h.first_is, said-raw b h.second h.second_is)
