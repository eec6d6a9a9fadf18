-- The numbers of the steps of a solid are raw where its own are.
use Rattle.std.proofs.Common.{◌≡◌, ℕ, ◌+◌, ℤ, pos, List, [], ◌∷◌, ◌++◌, refl, arith}
use Rattle.std.proofs.lemmas.Int.{ints}
use Rattle.fixed_ops.specs.Raw.{IsRaw}
use Rattle.solid_lang.specs.declared.axes.Axes.{Axes}
use Rattle.solid_lang.specs.declared.step.Step.{Step}
use Rattle.solid_lang.specs.Compiled.{all_steps, coordinates, first_axes}
use Rattle.solid_lang.specs.Placing.{Each}
use Rattle.solid_lang.specs.RawSolids.{HasRawNumbers}
use Rattle.solid_lang.specs.Solids.{SolidTree, Ball, Block, Cylinder, Move, Scale, Union, Intersect, Difference}
use Rattle.solid_lang.specs.Steps.{after, ball_steps, box_steps, cylinder_steps, difference_steps, intersect_steps, last_of, move_steps, moved_axes, scale_steps, scaled_axes, solid_steps, union_steps}
use Rattle.solid_lang.proofs.EachStep.{each_is, each-append}
use Rattle.solid_lang.proofs.FitLemmas.{length-solid_steps}

abbrev pub IsRawStep : ℕ → Step → Type 0
IsRawStep place step = IsRaw step.value

none : IsRaw (pos 0)
none = (omega (arith, ints), omega (arith, ints))

joined_raw : (a b : SolidTree) (n : ℕ) (at : Axes) (steps : List Step) → Each IsRawStep n (solid_steps a n at) → Each IsRawStep (after n a) (solid_steps b (after n a) at)
    → Each IsRawStep (after (after n a) b) steps → Each IsRawStep n (solid_steps a n at ++ (solid_steps b (after n a) at ++ steps))
joined_raw a b n at steps first second last =
    let one = length-solid_steps a n at in
    let two = length-solid_steps b (after n a) at in
    each-append IsRawStep n (after n a) (solid_steps a n at) (solid_steps b (after n a) at ++ steps) (omega (arith, one)) first
    (each-append IsRawStep (after n a) (after (after n a) b) (solid_steps b (after n a) at) steps (omega (arith, two)) second last)

pub solid_raw : (s : SolidTree) (n : ℕ) (at : Axes) → HasRawNumbers s → Each IsRawStep n (solid_steps s n at)
solid_raw (Ball r) n at h = each_is IsRawStep n (ball_steps n at r) (none, (none, (none, (none, (none, (h, (none, (none, tt))))))))
solid_raw (Block a b c) n at h =
    each_is IsRawStep n (box_steps n at a b c) (none, (h.0, (none, (none, (h.1, (none, (none, (none, (h.2, (none, (none, tt)))))))))))
solid_raw (Cylinder r t) n at h =
    each_is IsRawStep n (cylinder_steps n at r t) (none, (none, (none, (h.0, (none, (none, (none, (h.1, (none, (none, tt))))))))))
solid_raw (Move x y z s) n at h =
    each-append IsRawStep n (n + 6) (move_steps n at x y z) (solid_steps s (n + 6) (moved_axes n)) refl
    (each_is IsRawStep n (move_steps n at x y z) (h.0, (none, (h.1, (none, (h.2, (none, tt)))))))
    (solid_raw s (n + 6) (moved_axes n) h.3)
solid_raw (Scale k s) n at h =
    each-append IsRawStep n (n + 4) (scale_steps n at k) (solid_steps s (n + 4) (scaled_axes n)) refl
    (each_is IsRawStep n (scale_steps n at k) (h.0, (none, (none, (none, tt)))))
    (solid_raw s (n + 4) (scaled_axes n) h.1)
solid_raw (Union a b) n at h =
    joined_raw a b n at (union_steps (last_of n a) (last_of (after n a) b)) (solid_raw a n at h.0) (solid_raw b (after n a) at h.1)
    (each_is IsRawStep (after (after n a) b) (union_steps (last_of n a) (last_of (after n a) b)) (none, tt))
solid_raw (Intersect a b) n at h =
    joined_raw a b n at (intersect_steps (last_of n a) (last_of (after n a) b)) (solid_raw a n at h.0) (solid_raw b (after n a) at h.1)
    (each_is IsRawStep (after (after n a) b) (intersect_steps (last_of n a) (last_of (after n a) b)) (none, tt))
solid_raw (Difference a b) n at h =
    joined_raw a b n at (difference_steps (after (after n a) b) (last_of n a) (last_of (after n a) b)) (solid_raw a n at h.0) (solid_raw b (after n a) at h.1)
    (each_is IsRawStep (after (after n a) b) (difference_steps (after (after n a) b) (last_of n a) (last_of (after n a) b)) (none, (none, tt)))

pub all_raw : (s : SolidTree) → HasRawNumbers s → Each IsRawStep 0 (all_steps s)
all_raw s h =
    each-append IsRawStep 0 3 coordinates (solid_steps s 3 first_axes) refl (each_is IsRawStep 0 coordinates (none, (none, (none, tt))))
    (solid_raw s 3 first_axes h)
