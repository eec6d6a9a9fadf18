-- The work of frames that come after others, computed on two walls that were worked out by hand.
use Rattle.std.proofs.Common.{◌≡◌, ℕ, ℤ, pos, negsuc, [], ◌∷◌, List, refl}
use Rattle.std.specs.Prelude.{Option, Some, None}
use Rattle.fixed_ops.specs.declared.operation.Op.TheVariants.{X, Const, Sub, Abs, Min}
use Rattle.live_clauses.specs.declared.step.Step.{Step}
use Rattle.box_chains.specs.Chains.{chain_within}
use Rattle.box_chains.specs.Counts.{root_visit}
use Rattle.box_chains.specs.Redrawn.{frame_before, points_after, spans_after}
use Rattle.box_chains.proofs.Examples.{raster}

-- the lesser distance of x from p and from q, less a quarter: ten steps
abbrev walls : ℤ → ℤ → List Step
walls p q =
    record { op = X; a = 0; b = 0; value = pos 0 }
    ∷ record { op = Const; a = 0; b = 0; value = p }
    ∷ record { op = Const; a = 0; b = 0; value = q }
    ∷ record { op = Sub; a = 0; b = 1; value = pos 0 }
    ∷ record { op = Abs; a = 3; b = 0; value = pos 0 }
    ∷ record { op = Sub; a = 0; b = 2; value = pos 0 }
    ∷ record { op = Abs; a = 5; b = 0; value = pos 0 }
    ∷ record { op = Min; a = 4; b = 6; value = pos 0 }
    ∷ record { op = Const; a = 0; b = 0; value = pos 1073741824 }
    ∷ record { op = Sub; a = 7; b = 8; value = pos 0 }
    ∷ []

-- walls at -0.5 and 0.5; the second moved to 0.625, and to -0.75
abbrev first : List Step
first = walls (negsuc 2147483647) (pos 2147483648)

abbrev moved : List Step
moved = walls (negsuc 2147483647) (pos 2684354560)

abbrev crossed : List Step
crossed = walls (negsuc 2147483647) (negsuc 3221225471)

abbrev points : ℕ → Option (List Step) → List Step → ℕ
points w before list =
    points_after (raster w 1) (frame_before (raster w 1) before) (root_visit (raster w 1) list)

abbrev spans : ℕ → Option (List Step) → List Step → ℕ
spans w before list =
    spans_after (raster w 1) (frame_before (raster w 1) before) (root_visit (raster w 1) list)

-- The first frame takes everything.
first_points : points 16 None first ≡ 96
unfolding points_after chain_within
first_points = refl

first_spans : spans 16 None first ≡ 30
unfolding spans_after chain_within
first_spans = refl

-- The same list takes nothing once more.
same_points : points 16 (Some first) first ≡ 0
unfolding points_after chain_within
same_points = refl

same_spans : spans 16 (Some first) first ≡ 0
unfolding spans_after chain_within
same_spans = refl

-- Both leaves receive another list: of the left one ten steps are live, of the right one six.
crossed_points : points 16 (Some first) crossed ≡ 80
unfolding points_after chain_within
crossed_points = refl

crossed_spans : spans 16 (Some first) crossed ≡ 30
unfolding spans_after chain_within
crossed_spans = refl

-- With twice as many samples the left half chooses the first wall in both frames, so its halves receive
-- equal lists and are old, though it is traced anew itself.
moved_points : points 32 (Some first) moved ≡ 128
unfolding points_after chain_within
moved_points = refl

moved_spans : spans 32 (Some first) moved ≡ 50
unfolding spans_after chain_within
moved_spans = refl
