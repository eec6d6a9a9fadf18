-- The definitions of solid texts, computed on texts that were worked out by hand.
use Rattle.std.proofs.Common.{◌≡◌, ℕ, ◌+◌, ◌*◌, pos, inl, inr, List, [], ◌∷◌, Option, None, Some, Ok, Err, refl, arith}
use Rattle.std.specs.Prelude.{codes, negsuc}
use Rattle.fixed_ops.specs.Numerals.{is_unsigned_numeral, unsigned_raw, nearest_raw, cut_magnitude}
use Rattle.solid_lang.specs.declared.axes.Axes.{Axes}
use Rattle.solid_lang.specs.declared.solid.Solid.TheVariants as held
use Rattle.solid_lang.specs.declared.solid_reason.SolidReason.TheVariants.{BadNumeral, Empty, NoMemory, NotPositive, TooDeep, Trailing, Unended, UnknownForm}
use Rattle.solid_lang.specs.declared.want.Want.TheVariants.{Numeral, Size, Whole}
use Rattle.solid_lang.specs.Building.{solid_read, ◌>>=◌}
use Rattle.solid_lang.specs.Counts.{clause_count, depth}
use Rattle.solid_lang.specs.Gives.{Judges, Withholds}
use Rattle.solid_lang.specs.Judged.{fault_at, judged}
use Rattle.solid_lang.specs.NumberedTokens.{numbered_tokens}
use Rattle.solid_lang.specs.Room.{FitsBefore, HaveRoom}
use Rattle.solid_lang.specs.Placing.{StandBefore}
use Rattle.solid_lang.specs.Solids.{Ball, Block, Cylinder, Difference, Move, tree}
use Rattle.solid_lang.specs.Steps.{after}
use Rattle.solid_lang.specs.Wants.{take_token, wants_after, whole_solid}

-- a comment's tokens are none, and tokens keep their lines
lines_of_tokens : numbered_tokens (codes "ball\n# note\n 1 #2\n") ≡ (1, codes "ball") ∷ (3, codes "1") ∷ (3, codes "#2") ∷ []
lines_of_tokens = refl

-- a text's solid
moved_ball : solid_read 2 (numbered_tokens (codes "move 1 -2 .5\nball 1"))
    ≡ Some (Move (pos 4294967296) (negsuc 8589934591) (pos 2147483648) (Ball (pos 4294967296)), [])
unfolding solid_read is_unsigned_numeral unsigned_raw nearest_raw cut_magnitude
moved_ball = refl

-- what a move within one form wants
move_wants : take_token (Whole 1 ∷ Size ∷ []) (codes "move") ≡ Ok (Numeral ∷ Numeral ∷ Numeral ∷ Whole 2 ∷ Size ∷ [])
move_wants = refl

-- the clauses of a box with a moved ball cut out of it
cut_clauses : clause_count (Difference (Block (pos 1) (pos 1) (pos 1)) (Move (pos 1) (pos 0) (pos 0) (Ball (pos 1)))) ≡ 30
cut_clauses = refl

cut_depth : depth (Difference (Block (pos 1) (pos 1) (pos 1)) (Move (pos 1) (pos 0) (pos 0) (Ball (pos 1)))) ≡ 3
cut_depth = refl

-- a ball has eight clauses, and the place behind those that stand from 5 on is 13
place_behind_a_ball : after 5 (Ball (pos 1)) ≡ 13
place_behind_a_ball = refl

-- each reason
unknown_form : take_token whole_solid (codes "Ball") ≡ Err UnknownForm
unknown_form = refl

too_deep : take_token (Whole 256 ∷ []) (codes "ball") ≡ Err TooDeep
too_deep = refl

no_form_too_deep : take_token (Whole 256 ∷ []) (codes "cone") ≡ Err UnknownForm
no_form_too_deep = refl

bad_numeral : take_token (Size ∷ []) (codes "#5") ≡ Err BadNumeral
unfolding is_unsigned_numeral
bad_numeral = refl

not_positive : take_token (Size ∷ []) (codes "0.0000000001") ≡ Err NotPositive
unfolding is_unsigned_numeral unsigned_raw nearest_raw cut_magnitude
not_positive = refl

least_size : take_token (Size ∷ []) (codes "0.0000000002") ≡ Ok []
unfolding is_unsigned_numeral unsigned_raw nearest_raw cut_magnitude
least_size = refl

trailing : take_token [] (codes "ball") ≡ Err Trailing
trailing = refl

unended : judged 3 None whole_solid (numbered_tokens (codes "union\nball 1\n# x\n")) ≡ Err (fault_at 2 Unended)
unfolding is_unsigned_numeral unsigned_raw nearest_raw cut_magnitude
unended = refl

empty : judged 3 None whole_solid (numbered_tokens (codes "# a\n\n")) ≡ Err (fault_at 0 Empty)
empty = refl

all_taken : wants_after whole_solid (numbered_tokens (codes "scale 2 ball 1")) ≡ Ok []
unfolding is_unsigned_numeral unsigned_raw nearest_raw cut_magnitude
all_taken = refl

-- what is read is handed on from the first step to the last, and nothing of nothing
abbrev plus_four : ℕ → Option ℕ
plus_four n = Some (n + 4)

abbrev doubled : ℕ → Option ℕ
doubled n = Some (n * 2)

handed_on : (Some 3 >>= plus_four >>= doubled) ≡ Some 14
handed_on = refl

nothing_handed_on : (None >>= plus_four) ≡ None
nothing_handed_on = refl

-- a ball has eight clauses beside the three coordinates
judged_ball : Judges (codes "ball 1") (Ok 11)
unfolding is_unsigned_numeral unsigned_raw nearest_raw cut_magnitude
judged_ball = record {
  solid = Ball (pos 4294967296);
  reads = record {
    said = record { line = 1; numerals = (1, codes "1") ∷ []; parts = refl; spelled = refl };
    sizes = omega arith;
    shallow = omega arith;
  };
  count = refl;
  few = omega arith;
}

-- want of memory for a solid is told on no line
memory_on_a_line : (text : List ℕ) → Withholds text 1 NoMemory → ⊥
memory_on_a_line text withholds = let zero : 1 ≡ 0 = withholds.zero in omega (arith, zero)

-- a box behind it is one solid too many, on the second line
judged_two : Judges (codes "ball 1\nbox") (Err (fault_at 2 Trailing))
unfolding is_unsigned_numeral unsigned_raw nearest_raw cut_magnitude
judged_two = inl (inr (inl (record {
  before = (1, codes "ball") ∷ (1, codes "1") ∷ [];
  token = codes "box";
  after = [];
  parts = refl;
  wants = [];
  good = refl;
  bad = refl;
})))

-- a solid that is held is the tree of the same numbers in their order
held_cylinder : tree (held.Cylinder (pos 5) (pos 7)) ≡ Cylinder (pos 5) (pos 7)
held_cylinder = refl

held_block : tree (held.Block (pos 5) (pos 7) (pos 9)) ≡ Block (pos 5) (pos 7) (pos 9)
held_block = refl

-- each coordinate stands before a place
abbrev axes_at : ℕ → ℕ → ℕ → Axes
axes_at x y z = record { x = x; y = y; z = z }

axes_before : StandBefore 3 (axes_at 0 1 2)
axes_before = record { x = omega arith; y = omega arith; z = omega arith }

x_at_the_place : StandBefore 3 (axes_at 3 1 2) → ⊥
x_at_the_place stand = omega (arith, stand.x)

y_at_the_place : StandBefore 3 (axes_at 0 3 2) → ⊥
y_at_the_place stand = omega (arith, stand.y)

z_at_the_place : StandBefore 3 (axes_at 0 1 3) → ⊥
z_at_the_place stand = omega (arith, stand.z)

-- a solid within 256 forms has at most 256 wants behind it, and none stands within more
room_within : FitsBefore (Whole 256) 256
room_within = (omega arith, omega arith)

no_room_within : FitsBefore (Whole 255) 256 → ⊥
no_room_within fits = absurd (omega (arith, fits.0))

too_far_within : FitsBefore (Whole 257) 256 → ⊥
too_far_within fits = absurd (omega (arith, fits.1))

-- a numeral has at most 259 behind it, and so has a size
room_of_a_numeral : FitsBefore Numeral 259
room_of_a_numeral = omega arith

room_of_a_size : FitsBefore Size 259
room_of_a_size = omega arith

no_room_of_a_size : FitsBefore Size 260 → ⊥
no_room_of_a_size fits = absurd (omega (arith, fits))

-- each of some wants has as many behind it as stand there
have_room : HaveRoom (Numeral ∷ Whole 1 ∷ Size ∷ [])
have_room = (omega arith, ((omega arith, omega arith), (omega arith, tt)))

second_has_none : HaveRoom (Numeral ∷ Whole 0 ∷ Size ∷ []) → ⊥
second_has_none have = absurd (omega (arith, have.1.0.0))
