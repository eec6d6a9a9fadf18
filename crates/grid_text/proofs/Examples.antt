-- The texts of meshes of grids, computed on lists that were worked out by hand.
use Rattle.std.proofs.Common.{◌≡◌, ◌<◌, ◌≤◌, pos, negsuc, List, [], ◌∷◌, ap, refl, arith}
use Rattle.std.specs.Prelude.{codes}
use Rattle.std.specs.Fmt.{digits}
use Rattle.fixed_ops.specs.NumberTexts.{size_text}
use Rattle.fixed_ops.specs.declared.operation.Op.TheVariants.{Const}
use Rattle.kuhn_cells.specs.Cells.{directions_of, mixed_cells}
use Rattle.kuhn_cells.specs.Faces.{all_triangles, faces}
use Rattle.kuhn_cells.specs.Grids.{vertices}
use Rattle.live_clauses.specs.declared.step.Step.{Step}
use Rattle.oct_descent.specs.GridValues.{list_grid}
use Rattle.ply_writer.specs.Blocks.{Piece}
use Rattle.tetra_mesh.specs.Walks.{Walk}
use Rattle.tetra_mesh.specs.declared.sided_cell.SidedCell.{SidedCell}
use Rattle.view_places.specs.Window.{Window}
use Rattle.grid_text.specs.Texts.{IsWriting, lines_left, text_of}

-- one cell along each axis, from -1 to 1
abbrev window : Window
window = record {
  x0 = negsuc 4294967295;
  x1 = pos 4294967296;
  y0 = negsuc 4294967295;
  y1 = pos 4294967296;
  z0 = negsuc 4294967295;
  z1 = pos 4294967296;
  z = pos 0;
  w = 1;
  h = 1;
  d = 1;
  nx = 1;
  ny = 1;
  nz = 1;
}

-- what is inside everywhere but in the outermost layer
abbrev inside : List Step
inside = record { op = Const; a = 0; b = 0; value = negsuc 4294967295 } ∷ []

-- one cell has no point but those of the outermost layer
no_line : text_of window inside
    ≡ codes "ply\nformat ascii 1.0\nelement vertex 0\nproperty double x\nproperty double y\nproperty double z\nelement face 0\nproperty list uchar int vertex_indices\nend_header\n"
unfolding digits list_grid vertices faces all_triangles
no_line = refl

-- of two cells along each axis the middle point alone is inside: each cell is mixed, and the last one, which begins there,
-- has a vertex along each direction, close to the border
abbrev two_cells : Window
two_cells = record window { nx = 2; ny = 2; nz = 2 }

last_vertices : lines_left two_cells inside 7 8
    ≡ codes "0.9999847412 0.0000000000 0.0000000000\n0.0000000000 0.9999847412 0.0000000000\n0.9999847412 0.9999847412 0.0000000000\n0.0000000000 0.0000000000 0.9999847412\n0.9999847412 0.0000000000 0.9999847412\n0.0000000000 0.9999847412 0.9999847412\n0.9999847412 0.9999847412 0.9999847412\n"
unfolding digits size_text list_grid mixed_cells directions_of
last_vertices = refl

nothing_is_left : lines_left two_cells inside 8 8 ≡ []
unfolding list_grid mixed_cells
nothing_is_left = refl

-- ---- what the next piece needs

-- the one cell is not mixed: no cell is listed, and no line is left
abbrev listed : List SidedCell → Walk
listed sided = record { n = record { x = 1; y = 1; z = 1 }; sided = sided; made = 0 }

abbrev piece : Window → Piece
piece view = record { view = view; room = 5; bytes = [] }

nothing_to_write : IsWriting window inside (listed []) 0 (piece window)
unfolding list_grid mixed_cells
nothing_to_write = record {
  over = refl;
  cells = record { sides = refl; each = λ k d h. let none : k < 0 = h in absurd (omega (arith, none)) };
  sides = record {
    mixed = record {
      bounded = record { x = omega arith; y = omega arith; z = omega arith; all = omega arith };
      few = omega arith;
      within = λ k d h. let none : k < 0 = h in absurd (omega (arith, none));
      rise = λ i k d less h. let none : k < 0 = h in absurd (omega (arith, none));
      edges = λ k d h. let none : k < 0 = h in absurd (omega (arith, none));
    };
    sides = refl;
  };
  within = omega arith;
}

-- the block is one over the same view, no line stands behind the last one, and no other cell is listed
other_view : IsWriting window inside (listed []) 0 (piece two_cells) → ⊥
other_view h =
    let over : two_cells ≡ window = h.over in
    let cells : 2 ≡ 1 = ap (λ (view : Window). view.nx) over in
    omega (arith, cells)

line_beyond : IsWriting window inside (listed []) 1 (piece window) → ⊥
line_beyond h = let within : 1 ≤ 0 = h.within in omega (arith, within)

cell_that_is_not_mixed : IsWriting window inside (listed (record { x = 0; y = 0; z = 0; signs = 1 } ∷ [])) 0 (piece window) → ⊥
unfolding list_grid mixed_cells
cell_that_is_not_mixed h =
    let sides : record { x = 0; y = 0; z = 0; signs = 1 } ∷ [] ≡ [] = h.cells.sides in
    (cc)
