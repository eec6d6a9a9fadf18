-- Cells of a row, where values of their corners stand, and lists of the grid before, worked out by hand.
use Rattle.std.proofs.Common.{◌≡◌, ◌+◌, ◌<◌, [], ◌∷◌, length, map, inl, inr, refl, arith}
use Rattle.std.specs.Prelude.{Some, None}
use Rattle.kuhn_cells.specs.Triangles.{GridPoint, point}
use Rattle.oct_descent.specs.Corners.{AreTogether, CrossesBricks, IsRow}
use Rattle.oct_descent.specs.GridValues.{list_grid}
use Rattle.oct_descent.specs.OldBoxes.{first_count, first_list, handed_by, received_by}
use Rattle.oct_descent.specs.Rows.{cells_between}
use Rattle.oct_descent.specs.Tables.{PointValues}
use Rattle.oct_descent.specs.declared.old_box.OldBox.{OldBox}
use Rattle.oct_descent.specs.declared.split_box.SplitBox.{SplitBox}
use Rattle.oct_descent.proofs.Examples.{full, window}

-- where all is inside but the outermost points, of three cells in the middle row the first and the last are mixed
mixed_in_the_row : map (λ cell. cell.x) (cells_between (window 3) full 0 3 1 1) ≡ 0 ∷ 2 ∷ []
unfolding list_grid
mixed_in_the_row = refl

none_in_the_middle : cells_between (window 3) full 1 2 1 1 ≡ []
unfolding list_grid
none_in_the_middle = refl

-- eight values of a row stand from one place on, and those of a cell's corners up to 73 places behind the first
row_of_seven : (t : PointValues) (p : GridPoint) → length t.kept.known ≡ 7 → IsRow t p 0 → ⊥
row_of_seven t p few is = let within : 0 + 7 < length t.kept.known = is.within in omega (arith, few, within)

corners_of_73 : (t : PointValues) (p : GridPoint) → length t.kept.known ≡ 73 → AreTogether t p 0 → ⊥
corners_of_73 t p few are = let within : 0 + 73 < length t.kept.known = are.within in omega (arith, few, within)

-- the first of two places, where a box was split, has its list and its count
first_of_places : (split : SplitBox) → first_list (Some split ∷ None ∷ []) ≡ Some split.list
first_of_places split = refl

count_of_first : (split : SplitBox) → first_count (Some split ∷ None ∷ []) ≡ split.below + 1
count_of_first split = refl

-- an old box received the list that it shows, and handed on that of its first place
handed_on : (old : OldBox) (split : SplitBox) → handed_by (Some old) (Some split ∷ None ∷ []) ≡ Some split.list
handed_on old split = refl

received : (old : OldBox) → received_by (Some old) ≡ Some old.list.now
received old = refl

-- the last cells of a brick along each axis reach into the next one, and those before them do not
last_along_x : CrossesBricks (point 7 0 0)
last_along_x = inl refl

last_along_y : CrossesBricks (point 0 15 0)
last_along_y = inr (inl refl)

last_along_z : CrossesBricks (point 0 0 23)
last_along_z = inr (inr refl)

before_the_last : CrossesBricks (point 6 8 14) → ⊥
before_the_last (inl x) = let same : 6 ≡ 7 = x in omega (arith, same)
before_the_last (inr (inl y)) = let same : 0 ≡ 7 = y in omega (arith, same)
before_the_last (inr (inr z)) = let same : 6 ≡ 7 = z in omega (arith, same)
