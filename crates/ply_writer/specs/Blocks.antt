-- Pieces of texts, made in a block.
use Rattle.std.specs.Prelude.{◌≡◌, ℕ, ◌≤◌, List, length}
use Rattle.view_places.specs.Window.{Window}
use Rattle.ply_writer.specs.declared.triples.Triples.{Triples}
use Rattle.ply_writer.specs.declared.point_texts.PointTexts.{PointTexts}
use Rattle.ply_writer.specs.PointTexts.{ArePointTexts}
use Rattle.ply_writer.specs.Triples.{AreTriples}
use Rattle.ply_writer.specs.declared.ply_block.TheConstants.{BLOCK}

-- the bytes of a piece of the text of a mesh over a view, and how many more have room in front of them
pub record Piece : Type 0 where
  pub view : Window
  pub room : ℕ
  pub bytes : List ℕ

-- a block of its length, in which the piece starts, with the texts of the places of points and of three
-- digits
pub record IsBlock (w : Window) (texts : PointTexts) (triples : Triples) (block : List ℕ)
    (start : ℕ) : Type 0 where
  pub full : length block ≡ BLOCK
  pub within : start ≤ BLOCK
  pub points : ArePointTexts w texts
  pub written : AreTriples triples
