-- Solids, their clauses and their values, worked out by hand.
use Rattle.std.proofs.Common.{◌≡◌, ℕ, ℤ, pos, List, [], ◌∷◌, ◌++◌, drop, length, refl}
use Rattle.std.specs.Prelude.{codes, negsuc}
use Rattle.std.specs.Fmt.{digits}
use Rattle.fixed_ops.specs.NumberTexts.{size_text}
use Rattle.fixed_ops.specs.Points.{Point}
use Rattle.fixed_ops.specs.declared.operation.Op.TheVariants.{Neg, Square, Add, Max}
use Rattle.solid_model.specs.Values.{solid_value}
use Rattle.solid_model.specs.declared.clause.Clause.{Clause}
use Rattle.clause_reader.specs.ModelText.{model_text}
use Rattle.solid_lang.specs.AddUp.{clauses_add_up, lines_add_up, step_lines-append}
use Rattle.solid_lang.specs.Compiled.{clause_at, clauses_at, compiled}
use Rattle.solid_lang.specs.Counts.{clause_count}
use Rattle.solid_lang.specs.Meaning.{value_at}
use Rattle.solid_lang.specs.Solids.{SolidTree, Ball, Block, Cylinder, Move, Scale, Union, Intersect, Difference}
use Rattle.solid_lang.specs.StepLines.{step_lines}
use Rattle.solid_lang.specs.Steps.{constant, on_one, on_two}
use Rattle.solid_lang.specs.declared.step.Step.{Step}

-- the raw numbers of 1, 0.5 and 0.25
abbrev one : ℤ
one = pos 4294967296

abbrev half : ℤ
half = pos 2147483648

abbrev quarter : ℤ
quarter = pos 1073741824

abbrev origin : Point
origin = record { x = pos 0; y = pos 0; z = pos 0 }

abbrev right_of_it : Point
right_of_it = record { x = half; y = pos 0; z = pos 0 }

-- the text of a ball has 141 bytes
ball_text : model_text (compiled (Ball half))
    ≡ codes "_0 var-x\n_1 var-y\n_2 var-z\n_3 square _0\n_4 square _1\n_5 add _3 _4\n_6 square _2\n_7 add _5 _6\n_8 const 0.5000000000\n_9 square _8\n_10 sub _7 _9\n"
unfolding digits size_text
ball_text = refl

ball_bytes : length (model_text (compiled (Ball half))) ≡ 141
unfolding digits size_text
ball_bytes = refl

-- a box of which a moved ball is cut out
abbrev cut_box : SolidTree
cut_box = Difference (Block one one one) (Move half (pos 0) (pos 0) (Ball quarter))

cut_box_clauses : length (compiled cut_box) ≡ 30
cut_box_clauses = refl

cut_box_count : clause_count cut_box ≡ 30
cut_box_count = refl

-- the box ends at the place 13, and the ball at 27
cut_box_end : drop 28 (compiled cut_box) ≡ clause_at 28 (on_one Neg 27) ∷ clause_at 29 (on_two Max 13 28) ∷ []
cut_box_end = refl

-- at the origin the ball is 0.1875 away by squares, and the sides of the box 1: both are inside the cut box
cut_box_inside : value_at cut_box origin ≡ negsuc 805306367
cut_box_inside = refl

-- in the middle of the ball it is cut out
cut_box_outside : value_at cut_box right_of_it ≡ pos 268435456
cut_box_outside = refl

-- and the clauses say so too
cut_box_agrees : solid_value right_of_it (compiled cut_box) ≡ pos 268435456
cut_box_agrees = refl

-- a ball of twice the size is seen from half as far
scaled_ball : value_at (Scale (pos 8589934592) (Ball half)) right_of_it ≡ negsuc 805306367
scaled_ball = refl

-- what is scaled is moved by as many times as much
scaled_move : value_at (Scale half (Move half (pos 0) (pos 0) (Ball half))) right_of_it ≡ pos 0
scaled_move = refl

moved_scale : value_at (Move half (pos 0) (pos 0) (Scale half (Ball half))) right_of_it ≡ negsuc 1073741823
moved_scale = refl

-- the mantle of a cylinder lies at its radius, and its ends at half of its height
cylinder_end : value_at (Cylinder one half) origin ≡ negsuc 2147483647
cylinder_end = refl

-- a union has the lesser value and an intersection the greater
union_value : value_at (Union (Ball half) (Ball one)) origin ≡ negsuc 4294967295
union_value = refl

intersect_value : value_at (Intersect (Ball half) (Ball one)) origin ≡ negsuc 1073741823
intersect_value = refl

-- two steps from the place 3 on, and one behind them
abbrev two_steps : List Step
two_steps = on_one Square 0 ∷ on_two Add 3 1 ∷ []

abbrev next_step : List Step
next_step = constant half ∷ []

two_lines : step_lines 3 two_steps ≡ codes "_3 square _0\n_4 add _3 _1\n"
unfolding digits
two_lines = refl

-- the lines and the clauses of the three are those of the two, and then that of the place 5
lines_of_three : step_lines 3 (two_steps ++ next_step) ≡ step_lines 3 two_steps ++ step_lines 5 next_step
lines_of_three = step_lines-append 3 5 two_steps next_step refl

lines_behind : (text : List ℕ)
    → (text ++ step_lines 3 two_steps) ++ step_lines 5 next_step ≡ text ++ step_lines 3 (two_steps ++ next_step)
lines_behind text = lines_add_up text (text ++ step_lines 3 two_steps) ((text ++ step_lines 3 two_steps) ++ step_lines 5 next_step)
    3 5 two_steps next_step refl refl refl

clauses_behind : (clauses : List Clause)
    → (clauses ++ clauses_at 3 two_steps) ++ clauses_at 5 next_step ≡ clauses ++ clauses_at 3 (two_steps ++ next_step)
clauses_behind clauses = clauses_add_up clauses (clauses ++ clauses_at 3 two_steps)
    ((clauses ++ clauses_at 3 two_steps) ++ clauses_at 5 next_step) 3 5 two_steps next_step refl refl refl
