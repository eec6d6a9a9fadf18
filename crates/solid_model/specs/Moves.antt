-- Numbers that move in an order, and what is known of their places meanwhile.
use Rattle.std.specs.Prelude.{◌≡◌, ℕ, ◌<◌, ◌≤◌, ◌⊎◌, List, length, slice_get, Some}

-- distinct numbers, each less than how many they are
pub record AreDistinct (numbers : List ℕ) : Type 0 where
  pub within : (place number : ℕ) → slice_get numbers place ≡ Some number → number < length numbers
  pub once : (i j number : ℕ) → slice_get numbers i ≡ Some number → slice_get numbers j ≡ Some number
      → i ≡ j

-- where each number stands is noted
abbrev pub AreNoted : List ℕ → List ℕ → Type 0
AreNoted numbers places = (place number : ℕ) → slice_get numbers place ≡ Some number
    → slice_get places number ≡ Some place

-- where each number stands is noted, but for those from a place up to another
abbrev pub AreNotedBut : ℕ → ℕ → List ℕ → List ℕ → Type 0
AreNotedBut first end numbers places = (place number : ℕ) → slice_get numbers place ≡ Some number
    → (place < first) ⊎ (end ≤ place) → slice_get places number ≡ Some place
