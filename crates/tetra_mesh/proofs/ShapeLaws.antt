-- The shapes of cells, made one after another.
use Rattle.std.proofs.Common.{◌≡◌, ◌≢◌, ℕ, ◌+◌, ◌<◌, ◌≤◌, [], ◌∷◌, ◌++◌, inl, inr, refl, ap, arith, length, length-append, subst, sym, ◌∙◌}
use Rattle.std.specs.Prelude.{◌⊎◌, get_or, replicate, set}
use Rattle.std.proofs.lemmas.Bool.{cases_lt}
use Rattle.std.proofs.lemmas.List.{get_or-replicate, get_or-set_other, get_or-set_same, get_or_append_left, get_or_past, get_or_push, length-replicate, length-set}
use Rattle.tetra_mesh.specs.Edges.{HasTriangles}
use Rattle.tetra_mesh.specs.Ranks.{AreRanks}
use Rattle.tetra_mesh.specs.Shapes.{AreMade, IsMade, shape_of}
use Rattle.tetra_mesh.specs.declared.shape.Shape.{Shape}
use Rattle.tetra_mesh.specs.declared.shapes.Shapes.{Shapes}

-- at first no signs have a place
pub none_made : (s : Shapes) → s.places.items ≡ replicate 256 0 → AreRanks s.ranks.items → AreMade s
none_made s fresh ranks = record {
  room = ap length fresh ∙ length-replicate {A = ℕ} 256 0;
  each = λ signs some. absurd (by signs some (cases_lt signs 256));
  ranks = ranks;
}
  where
    by : (signs : ℕ) → 0 < get_or s.places.items signs 0 → (signs < 256) ⊎ (256 ≤ signs) → ⊥
    by signs some (inl few) = omega (arith, some, ap (λ l. get_or l signs 0) fresh, get_or-replicate {A = ℕ} 256 signs 0 0 few)
    by signs some (inr past) =
        omega (arith, some, get_or_past {X = ℕ} s.places.items signs 0 (omega (arith, past, ap length fresh, length-replicate {A = ℕ} 256 0)))

-- one more shape is made, for signs that had no place
pub record Adds (signs : ℕ) (shape : Shape) (old new : Shapes) : Type 0 where
  pub few : signs < 256
  pub none : get_or old.places.items signs 0 ≡ 0
  pub shapes : new.shapes.items ≡ old.shapes.items ++ shape ∷ []
  pub places : new.places.items ≡ set old.places.items signs (length old.shapes.items + 1)
  pub ranks : new.ranks.items ≡ old.ranks.items
  pub has : HasTriangles (shape_of signs) shape

long : (signs : ℕ) (shape : Shape) (old new : Shapes) → Adds signs shape old new → length new.shapes.items ≡ length old.shapes.items + 1
long signs shape old new adds = omega (arith, ap length adds.shapes, length-append old.shapes.items (shape ∷ []))

pub made_here : (signs : ℕ) (shape : Shape) (old new : Shapes) → AreMade old → Adds signs shape old new → IsMade new signs
made_here signs shape old new made adds = record {
  place = length old.shapes.items;
  at = ap (λ l. get_or l signs 0) adds.places ∙ get_or-set_same old.places.items signs _ 0 (omega (arith, made.room, adds.few));
  within = omega (arith, long signs shape old new adds);
  shape = λ d. subst (HasTriangles (shape_of signs))
      (sym (ap (λ l. get_or l (length old.shapes.items) d) adds.shapes ∙ get_or_push old.shapes.items shape d (length old.shapes.items) refl))
      adds.has;
}

pub made_still : (signs : ℕ) (shape : Shape) (old new : Shapes) → Adds signs shape old new → (other : ℕ) → IsMade old other → IsMade new other
made_still signs shape old new adds other is =
    let another : other ≢ signs = λ same. absurd (omega (arith, is.at, adds.none, ap (λ s. get_or old.places.items s 0) same)) in
    record {
      place = is.place;
      at = ap (λ l. get_or l other 0) adds.places ∙ get_or-set_other old.places.items signs other _ 0 another ∙ is.at;
      within = omega (arith, is.within, long signs shape old new adds);
      shape = λ d. subst (HasTriangles (shape_of other))
          (sym (ap (λ l. get_or l is.place d) adds.shapes ∙ get_or_append_left old.shapes.items (shape ∷ []) d is.place is.within))
          (is.shape d);
    }

pub made_more : (signs : ℕ) (shape : Shape) (old new : Shapes) → AreMade old → Adds signs shape old new → AreMade new
made_more signs shape old new made adds = record {
  room = ap length adds.places ∙ length-set old.places.items signs _ ∙ made.room;
  each = λ other some. by other some (cases_lt other signs) (cases_lt signs other);
  ranks = subst AreRanks (sym adds.ranks) made.ranks;
}
  where
    at : (other : ℕ) → 0 < get_or new.places.items other 0 → other ≢ signs → IsMade new other
    at other some another =
        made_still signs shape old new adds other
        (made.each other (omega (arith, some, ap (λ l. get_or l other 0) adds.places, get_or-set_other old.places.items signs other (length old.shapes.items + 1) 0 another)))

    by : (other : ℕ) → 0 < get_or new.places.items other 0 → (other < signs) ⊎ (signs ≤ other) → (signs < other) ⊎ (other ≤ signs) → IsMade new other
    by other some (inl less) more = at other some (λ same. absurd (omega (arith, same, less)))
    by other some (inr le) (inl more) = at other some (λ same. absurd (omega (arith, same, more)))
    by other some (inr le) (inr ge) =
        let same : signs ≡ other = omega (arith, le, ge) in
        subst (IsMade new) same (made_here signs shape old new made adds)
