-- Digits in threes.
use Rattle.std.specs.Prelude.{◌≡◌, ℕ, ◌+◌, ◌-◌, ◌/◌, ◌%◌, ◌<◌, List, [], ◌∷◌, decimal, get_or, length}
use Rattle.ply_writer.specs.declared.triples.Triples.{Triples}

-- the three digits of a number below a thousand
abbrev pub triple_text : ℕ → List ℕ
triple_text n = (48 + n / 100) ∷ (48 + n / 10 % 10) ∷ (48 + n % 10) ∷ []

-- how many digits the text of such a number lacks of three
abbrev pub zeros_before : ℕ → ℕ
zeros_before n = 3 - length (decimal n)

-- both of each number below a thousand
pub record AreTriples (t : Triples) : Type 0 where
  pub room : length t.texts.items ≡ 1000
  pub each : (number : ℕ) (d : List ℕ) → number < 1000
      → get_or t.texts.items number d ≡ zeros_before number ∷ triple_text number
