-- What a shader does at boxes.
use Rattle.std.specs.Prelude.{⊤, ◌≡◌, ◌*◌, true, length}
use Rattle.box_chains.specs.Chains.{Descent, Visit}
use Rattle.box_chains.specs.Tallied.{CountsAtMost, CountsExactly}
use Rattle.box_chains.specs.Tested.{has_some}
use Rattle.box_descent.specs.Visitors.{Meaning}
use Rattle.box_descent.specs.declared.plan.Border.TheVariants.{Nowhere}
use Rattle.box_descent.specs.declared.plan.Order.TheVariants.{Ascending}
use Rattle.box_descent.specs.declared.plan.Plan.{Plan}
use Rattle.fixed_ops.specs.Counts.{Counts}
use Rattle.height_map.specs.Bound.{layered}
use Rattle.height_map.specs.Columns.{Changes}
use Rattle.normal_shade.specs.Lit.{lit_where}
use Rattle.normal_shade.specs.Marks.{has_top_at, is_marked, shade_at}
use Rattle.normal_shade.specs.Shading.{spans_below}
use Rattle.normal_shade.specs.declared.shading.Shader.{Shader}

-- its boxes: leaves are traced with the others, and a box that is all inside prunes a list by which its
-- top samples are lit
abbrev pub shade_plan : Plan
shade_plan = record { leaf = 8; traces_leaves = true; prunes_inside = true; border = Nowhere; order = Ascending }

-- it has the tops of the view's columns, and a pixel for each
pub record CanShade (d : Descent) (s : Shader) : Type 0 where
  pub layers : d ≡ layered d.view
  pub tops : length s.tops.now ≡ d.view.h * d.view.w
  pub pixels : length s.pixels.items ≡ length s.tops.now

-- the columns that have their top sample in a box are lit, with exactly the work of these samples
pub record Shades (d : Descent) (old new : Shader) (v : Visit) (before after : Counts) : Type 0 where
  pub tops : new.tops ≡ old.tops
  pub pixels : Changes (has_top_at d.view.w old.tops.now v.box)
      (λ p pixel. shade_at d.view v.list old.tops.now p) old.pixels.items new.pixels.items
  pub counted : CountsExactly (lit_where (is_marked d.view.w old.tops.now) d v)
      (spans_below (is_marked d.view.w old.tops.now) d v) before after

-- or with no more than that
abbrev pub ShadesSome : Descent → Shader → Shader → Visit → Counts → Counts → Type 0
ShadesSome d old new v before after =
    CountsAtMost (lit_where (is_marked d.view.w old.tops.now) d v)
    (spans_below (is_marked d.view.w old.tops.now) d v) before after

abbrev pub shading : Meaning Shader ⊤
shading = record {
  plan = shade_plan;
  ready = CanShade;
  wanted = λ d s b. has_some (is_marked d.view.w s.tops.now) b;
  fits = λ d s list boxes. CanShade d s;
  draws = Shades;
  halts = ShadesSome;
  opens = λ d old new v mark. new ≡ old;
  closes = λ old new mark. new ≡ old;
}
