-- A text of one triangle, and what it is made of, written out by hand.
use Rattle.std.proofs.Common.{◌≡◌, ℕ, zero, suc, ◌+◌, ◌<◌, ◌≤◌, pos, negsuc, List, [], ◌∷◌, ◌++◌, get_or, length, map, ap, refl, arith}
use Rattle.std.specs.Fmt.{digits}
use Rattle.std.specs.List.{range_with_len}
use Rattle.std.specs.Prelude.{codes, replicate}
use Rattle.std.proofs.lemmas.List.{length-replicate}
use Rattle.std.proofs.lemmas.List.FromFn.{get_or-map-range_with_len, length-map-range_with_len}
use Rattle.fixed_ops.specs.NumberTexts.{number_text, size_text}
use Rattle.tetra_mesh.specs.declared.vertex.Vertex.{Vertex}
use Rattle.view_places.specs.declared.lattice.Axis.TheVariants.{X, Y, Z}
use Rattle.view_places.specs.declared.lattice.Lattice.TheVariants.{Grid}
use Rattle.view_places.specs.Places.{sample_place}
use Rattle.view_places.specs.Window.{Window}
use Rattle.ply_writer.specs.declared.ply_block.TheConstants.{BLOCK}
use Rattle.ply_writer.specs.declared.point_texts.PointText.{PointText}
use Rattle.ply_writer.specs.declared.point_texts.PointTexts.{PointTexts}
use Rattle.ply_writer.specs.declared.triples.Triples.{Triples}
use Rattle.ply_writer.specs.Blocks.{IsBlock}
use Rattle.ply_writer.specs.Ply.{ply_of}
use Rattle.ply_writer.specs.PointTexts.{ArePointTexts, AreTextsAlong, IsTextOf}
use Rattle.ply_writer.specs.Triples.{AreTriples, triple_text, zeros_before}

-- two cells along x from -1 to 3, four along y from 0 to 8 and one along z from 10 to 11
abbrev uneven : Window
uneven = record {
  x0 = negsuc 4294967295;
  x1 = pos 12884901888;
  y0 = pos 0;
  y1 = pos 34359738368;
  z0 = pos 42949672960;
  z1 = pos 47244640256;
  z = pos 0;
  w = 1;
  h = 1;
  d = 1;
  nx = 2;
  ny = 4;
  nz = 1;
}

abbrev at : ℕ → ℕ → ℕ → ℕ → ℕ → Vertex
at x y z dir t = record { key = record { x = x; y = y; z = z; dir = dir }; t = t }

-- The first vertex lies a quarter of a cell along x from the lowest point, the second half a cell along y from the point
-- (1, 0, 1), the third an eighth of a cell along z from the point (0, 1, 0). The face names them from the third on.
one_triangle : ply_of uneven (at 0 0 0 1 16384 ∷ at 1 0 1 2 32768 ∷ at 0 1 0 4 8192 ∷ []) (record { a = 2; b = 0; c = 1 } ∷ [])
    ≡ codes "ply\nformat ascii 1.0\nelement vertex 3\nproperty double x\nproperty double y\nproperty double z\nelement face 1\nproperty list uchar int vertex_indices\nend_header\n-0.5000000000 0.0000000000 10.0000000000\n1.0000000000 1.0000000000 11.0000000000\n-1.0000000000 2.0000000000 10.1250000000\n3 2 0 1\n"
unfolding digits size_text
one_triangle = refl

-- ---- the texts of the places of points

-- one cell along each axis: from -1 to 3 along x, from 0 to 8 along y and from 10 to 11 along z
abbrev one_cell : Window
one_cell = record uneven { nx = 1; ny = 1; nz = 1 }

-- a text at the end of 22 bytes, from one of them on
abbrev text_from : ℕ → List ℕ → PointText
text_from start text = record { start = start; bytes = replicate start 32 ++ text }

abbrev texts_along_x : List PointText
texts_along_x = text_from 9 (codes "-1.0000000000") ∷ text_from 10 (codes "3.0000000000") ∷ []

abbrev texts_along_y : List PointText
texts_along_y = text_from 10 (codes "0.0000000000") ∷ text_from 10 (codes "8.0000000000") ∷ []

abbrev texts_along_z : List PointText
texts_along_z = text_from 9 (codes "10.0000000000") ∷ text_from 9 (codes "11.0000000000") ∷ []

each_along_x : (i : ℕ) (d : PointText) → i ≤ 1
    → IsTextOf (number_text (sample_place one_cell Grid X i)) (get_or texts_along_x i d)
unfolding digits size_text
each_along_x zero d h = record { few = omega arith; bytes = refl }
each_along_x (suc zero) d h = record { few = omega arith; bytes = refl }
each_along_x (suc (suc i)) d h = absurd (omega (arith, h))

each_along_y : (i : ℕ) (d : PointText) → i ≤ 1
    → IsTextOf (number_text (sample_place one_cell Grid Y i)) (get_or texts_along_y i d)
unfolding digits size_text
each_along_y zero d h = record { few = omega arith; bytes = refl }
each_along_y (suc zero) d h = record { few = omega arith; bytes = refl }
each_along_y (suc (suc i)) d h = absurd (omega (arith, h))

each_along_z : (i : ℕ) (d : PointText) → i ≤ 1
    → IsTextOf (number_text (sample_place one_cell Grid Z i)) (get_or texts_along_z i d)
unfolding digits size_text
each_along_z zero d h = record { few = omega arith; bytes = refl }
each_along_z (suc zero) d h = record { few = omega arith; bytes = refl }
each_along_z (suc (suc i)) d h = absurd (omega (arith, h))

texts_of_one_cell : (texts : PointTexts) → texts.x.items ≡ texts_along_x → texts.y.items ≡ texts_along_y
    → texts.z.items ≡ texts_along_z → ArePointTexts one_cell texts
texts_of_one_cell texts x y z = record {
  along_x = rw x (record { room = omega arith; each = each_along_x });
  along_y = rw y (record { room = omega arith; each = each_along_y });
  along_z = rw z (record { room = omega arith; each = each_along_z });
}

-- a text begins at the end of its bytes at the latest
text_at_the_end : IsTextOf [] (text_from 22 [])
text_at_the_end = record { few = omega arith; bytes = refl }

text_behind_the_end : (text bytes : List ℕ) → IsTextOf text (record { start = 23; bytes = bytes }) → ⊥
text_behind_the_end text bytes h = let few : 23 ≤ 22 = h.few in omega (arith, few)

-- the last point has a text too, and its own
abbrev first : PointText
first = text_from 9 (codes "-1.0000000000")

last_text_is_missing : AreTextsAlong one_cell X (first ∷ []) → ⊥
last_text_is_missing h = let room : 1 < 1 = h.room in omega (arith, room)

last_text_is_the_first : AreTextsAlong one_cell X (first ∷ first ∷ []) → ⊥
unfolding digits size_text
last_text_is_the_first h =
    let last = h.each 1 first (omega arith) in
    let bytes : codes "-1.0000000000" ≡ codes "3.0000000000" = last.bytes in
    let sign : 45 ≡ 51 = ap (λ (text : List ℕ). get_or text 0 0) bytes in
    omega (arith, sign)

-- ---- digits in threes

-- a table has those of all thousand numbers
abbrev entry : ℕ → List ℕ
entry number = zeros_before number ∷ triple_text number

thousand_entries : (triples : Triples) → triples.texts.items ≡ map entry (range_with_len 0 1000) → AreTriples triples
thousand_entries triples e = record {
  room = rw e (length-map-range_with_len entry 0 1000);
  each = λ number d few. rw e (get_or-map-range_with_len entry 0 1000 number number d few (omega arith));
}

-- of its numbers 7 has two zeros in front of it, 42 one and 999 none
entry_of_7 : (triples : Triples) → AreTriples triples
    → get_or triples.texts.items 7 [] ≡ 2 ∷ 48 ∷ 48 ∷ 55 ∷ []
unfolding digits
entry_of_7 triples h = h.each 7 [] (omega arith)

entry_of_42 : (triples : Triples) → AreTriples triples
    → get_or triples.texts.items 42 [] ≡ 1 ∷ 48 ∷ 52 ∷ 50 ∷ []
unfolding digits
entry_of_42 triples h = h.each 42 [] (omega arith)

entry_of_999 : (triples : Triples) → AreTriples triples
    → get_or triples.texts.items 999 [] ≡ 0 ∷ 57 ∷ 57 ∷ 57 ∷ []
unfolding digits
entry_of_999 triples h = h.each 999 [] (omega arith)

no_entry_more : (triples : Triples) → length triples.texts.items ≡ 1001 → AreTriples triples → ⊥
no_entry_more triples more h =
    let room : length triples.texts.items ≡ 1000 = h.room in
    omega (arith, more, room)

-- ---- blocks

-- an empty piece stands at the end of a whole block, and none beyond it
empty_piece : (texts : PointTexts) (triples : Triples) → ArePointTexts one_cell texts → AreTriples triples
    → IsBlock one_cell texts triples (replicate BLOCK 0) BLOCK
empty_piece texts triples points written =
    record { full = length-replicate {A = ℕ} BLOCK 0; within = omega arith; points = points; written = written }

piece_beyond : (texts : PointTexts) (triples : Triples) (block : List ℕ)
    → IsBlock one_cell texts triples block (BLOCK + 1) → ⊥
piece_beyond texts triples block h = let within : BLOCK + 1 ≤ BLOCK = h.within in omega (arith, within)

block_that_is_cut : (texts : PointTexts) (triples : Triples) (block : List ℕ) → length block + 1 ≡ BLOCK
    → IsBlock one_cell texts triples block 0 → ⊥
block_that_is_cut texts triples block cut h =
    let full : length block ≡ BLOCK = h.full in
    omega (arith, cut, full)
