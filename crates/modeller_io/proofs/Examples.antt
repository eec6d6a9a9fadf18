-- Counts, and what sinks and sources tell, worked out by hand.
use Rattle.std.proofs.Common.{◌≡◌, ℕ, zero, suc, List, [], ◌∷◌, ◌++◌, ◌<◌, length, take, None, Some, refl, ap, arith}
use Rattle.std.specs.Prelude.{slice_index_or}
use Rattle.modeller_io.specs.declared.read_source.ReadSource.{ReadSource}
use Rattle.modeller_io.specs.Count.{RoseAtMost, Stands, raised}
use Rattle.modeller_io.specs.Held.{Extends, GainsProperPrefix, Grew}
use Rattle.modeller_io.specs.ReadSource.{bytes_read, read_faults}
use Rattle.modeller_io.specs.SinkView.{held_with}
use Rattle.modeller_io.specs.SourceView.{given}
use Rattle.modeller_io.specs.WriteSink.{TookFront, write_faults}

-- a count rises by all of the work, but not beyond its last value
count_rises : raised 5 2 ≡ 7
count_rises = refl

count_stands_still : raised 18446744073709551613 5 ≡ 18446744073709551615
count_stands_still = refl

-- a count rises by two where up to two are allowed, and not by three
rises_by_two : RoseAtMost (λ (count : ℕ). count) 5 7 2
rises_by_two = record { by = 2; within = omega arith; rose = refl }

rises_by_three : RoseAtMost (λ (count : ℕ). count) 5 8 2 → ⊥
rises_by_three rise = let rose : 8 ≡ raised 5 rise.by = rise.rose in omega (arith, rise.within, rose)

-- of a pair whose second number alone changed, the first stands and the second does not
first_stands : Stands (λ (pair : ℕ × ℕ). pair.0) (1, 2) (1, 3)
first_stands = refl

second_does_not_stand : Stands (λ (pair : ℕ × ℕ). pair.1) (1, 2) (1, 3) → ⊥
second_does_not_stand stands = let same : 3 ≡ 2 = stands in omega (arith, same)

-- an adapter tells what it counted: the bytes that its reader gave, and how often the reader or the writer failed
abbrev source : ReadSource ℕ
source = record { inner = 9; taken = 5; faults = 2 }

five_bytes_read : bytes_read source ≡ 5
five_bytes_read = refl

two_reads_failed : read_faults source ≡ 2
two_reads_failed = refl

three_writes_failed : write_faults {W = ℕ} (record { inner = 9; faults = 3 }) ≡ 3
three_writes_failed = refl

-- the new bytes are held last
bytes_go_last : Extends (Some (1 ∷ 2 ∷ [])) (Some (1 ∷ 2 ∷ 3 ∷ [])) (3 ∷ [])
bytes_go_last = refl

-- a sink that told nothing before the call tells nothing after it
sink_never_begins_to_tell : Extends None (Some []) [] → ⊥
sink_never_begins_to_tell h = h

-- of two bytes the first alone is a proper prefix, and both are none
first_byte_is_a_prefix : GainsProperPrefix (λ (held : List ℕ). Some held) (1 ∷ []) (1 ∷ 2 ∷ []) (2 ∷ 3 ∷ [])
first_byte_is_a_prefix = record { count = 1; within = omega arith; gained = refl }

all_bytes_are_no_proper_prefix : GainsProperPrefix (λ (held : List ℕ). Some held) (1 ∷ []) (1 ∷ 2 ∷ []) (2 ∷ []) → ⊥
all_bytes_are_no_proper_prefix gained = by gained.count gained.within gained.gained
  where
    by : (count : ℕ) → count < 1 → ◌≡◌ {A = List ℕ} (1 ∷ 2 ∷ []) ((1 ∷ []) ++ take count (2 ∷ [])) → ⊥
    by zero few same = let one : 2 ≡ 1 = ap (λ (bytes : List ℕ). length bytes) same in omega (arith, one)
    by (suc count) few same = absurd (omega (arith, few))

-- a sink grows by bytes behind those that it holds, and does not change these
grows_by_one : Grew (λ (held : List ℕ). Some held) (1 ∷ []) (1 ∷ 2 ∷ [])
grows_by_one = record { bytes = 2 ∷ []; gained = refl }

held_byte_changes : Grew (λ (held : List ℕ). Some held) (1 ∷ []) (2 ∷ 3 ∷ []) → ⊥
held_byte_changes grew =
    let byte : 2 ≡ 1 = ap (λ s. slice_index_or s 0 0) grew.gained in omega (arith, byte)

-- a writer takes the first of two bytes, or both, and not the second alone
took_the_first : TookFront (λ (held : List ℕ). Some held) (1 ∷ []) (1 ∷ 2 ∷ []) (2 ∷ 3 ∷ [])
took_the_first = record { count = 1; within = omega arith; appended = refl }

took_both : TookFront (λ (held : List ℕ). Some held) (1 ∷ []) (1 ∷ 2 ∷ 3 ∷ []) (2 ∷ 3 ∷ [])
took_both = record { count = 2; within = omega arith; appended = refl }

took_the_second : TookFront (λ (held : List ℕ). Some held) [] (3 ∷ []) (2 ∷ 3 ∷ []) → ⊥
took_the_second took = by took.count took.appended
  where
    by : (count : ℕ) → ◌≡◌ {A = List ℕ} (3 ∷ []) (take count (2 ∷ 3 ∷ [])) → ⊥
    by zero same = let byte : 3 ≡ 0 = ap (λ s. slice_index_or s 0 0) same in omega (arith, byte)
    by (suc count) same = let byte : 3 ≡ 2 = ap (λ s. slice_index_or s 0 0) same in omega (arith, byte)

-- what fits exactly is told, and what is longer by one byte is not
room_is_filled : held_with 3 (Some (1 ∷ 2 ∷ [])) (3 ∷ []) ≡ Some (1 ∷ 2 ∷ 3 ∷ [])
room_is_filled = refl

room_is_too_small : held_with 2 (Some (1 ∷ 2 ∷ [])) (3 ∷ []) ≡ None
room_is_too_small = refl

-- the buffer, the chunk or what is left is the least
buffer_is_filled : given 1 2 (7 ∷ 8 ∷ 9 ∷ []) ≡ 1
buffer_is_filled = refl

chunk_is_given : given 5 2 (7 ∷ 8 ∷ 9 ∷ []) ≡ 2
chunk_is_given = refl

rest_is_given : given 5 4 (7 ∷ 8 ∷ 9 ∷ []) ≡ 3
rest_is_given = refl
