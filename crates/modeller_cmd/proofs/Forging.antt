-- The lines of a solid that is forged: how many clauses it has, and how many pixels of its image are inside.
use Rattle.std.proofs.Common.{◌≡◌, ℕ, ◌==◌, ◌++◌, length, ap, ◌∙◌}
use Rattle.std.specs.Prelude.{codes, count_by, decimal}
use Rattle.fixed_ops.specs.Points.{Point}
use Rattle.live_clauses.specs.Live.{root_of}
use Rattle.live_clauses.specs.Steps.{tape_value}
use Rattle.quad_descent.specs.Pixels.{pixels_of as drawn_pixels}
use Rattle.quad_descent.specs.Raster.{Drawing}
use Rattle.solid_model.specs.Values.{solid_value}
use Rattle.solid_model.specs.declared.clause.Clause.{Clause}
use Rattle.std.specs.Prelude.{List}
use Rattle.view_places.specs.Window.{Window}
use Rattle.modeller_cmd.specs.CountTexts.{count_text}
use Rattle.modeller_cmd.specs.Forging.{forge_text, inside_of}
use Rattle.model_frames.proofs.Frames.{pixels-same}

-- and so are the pixels that are inside
pub inside-same : (view : Window) (clauses : List Clause) (picture : Drawing) (inside : ℕ) → picture ≡ record { view = view; list = root_of clauses }
    → ((p : Point) → tape_value p picture.list ≡ solid_value p clauses)
    → inside ≡ count_by (λ pixel. pixel == 255) (drawn_pixels picture.view picture.list) → inside ≡ inside_of view clauses
inside-same view clauses picture inside is values counted =
    counted ∙ ap (λ v. count_by (λ pixel. pixel == 255) (drawn_pixels v picture.list)) (ap (λ p. p.view) is)
    ∙ ap (λ pixels. count_by (λ pixel. pixel == 255) pixels) (pixels-same view clauses picture.list values)

-- so the lines of these counts are those of the solid
pub forged-lines : (view : Window) (clauses : List Clause) (count inside : ℕ) (told : List ℕ) → count ≡ length clauses → inside ≡ inside_of view clauses
    → told ≡ count_text view clauses
    → codes "clauses " ++ decimal count ++ codes "\ninside " ++ decimal inside ++ codes "\n" ++ told ≡ forge_text view clauses
forged-lines view clauses count inside told one two three =
    ap (λ n. codes "clauses " ++ decimal n ++ codes "\ninside " ++ decimal inside ++ codes "\n" ++ told) one
    ∙ ap (λ n. codes "clauses " ++ decimal (length clauses) ++ codes "\ninside " ++ decimal n ++ codes "\n" ++ told) two
    ∙ ap (λ lines. codes "clauses " ++ decimal (length clauses) ++ codes "\ninside " ++ decimal (inside_of view clauses) ++ codes "\n" ++ lines) three
