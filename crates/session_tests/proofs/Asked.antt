-- Which rows of a session may be asked for.
use Rattle.std.proofs.Common.{◌≡◌, ℕ, ◌+◌, ◌/◌, ◌%◌, ◌≤◌, refl, subst, sym}
use Rattle.std.specs.Prelude.{Option, Some, None}
use Rattle.model_frames.specs.declared.frame.Frame.TheVariants.{Render}
use Rattle.quad_descent.specs.Raster.{Drawing}
use Rattle.quad_descent.specs.Rows.{AreRows, IsOver}
use Rattle.view_places.specs.Window.{Window}
use Rattle.edit_session.specs.Sessions.{State, after_frame}

-- whole rows that lie in the image
pub are_rows : (o : Option Drawing) (view : Window) (row len : ℕ) → IsOver o view → len % view.w ≡ 0 → row + len / view.w ≤ view.h → AreRows o row len
are_rows None view row len is whole within = absurd is
are_rows (Some image) view row len is whole within =
    subst (λ v. (len % v.w ≡ 0) × (row + len / v.w ≤ v.h)) (sym is) (whole, within)

-- after an image that stands
pub over_drawn : (s t : State) (view : Window) → t ≡ after_frame s (Render view) → IsOver t.image view
over_drawn s t view is = subst (λ (u : State). IsOver u.image view) (sym is) refl
