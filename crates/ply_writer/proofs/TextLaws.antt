-- The texts of the places of points, one after another.
use Rattle.std.proofs.Common.{◌≡◌, ℕ, ◌+◌, ◌<◌, ◌≤◌, List, [], ◌∷◌, ◌++◌, length, ap, sym, subst, ◌∙◌, arith, inl, inr}
use Rattle.std.specs.Prelude.{◌⊎◌, get_or}
use Rattle.std.proofs.lemmas.Bool.{cases_lt}
use Rattle.std.proofs.lemmas.List.{get_or_append_left, get_or_push}
use Rattle.ply_writer.specs.declared.point_texts.PointText.{PointText}
use Rattle.ply_writer.specs.PointTexts.{IsTextOf}

pub texts_more : (texts : ℕ → List ℕ) (i : ℕ) (now new : List PointText) (t : PointText) → length now ≡ i → ((k : ℕ) (d : PointText) → k < i → IsTextOf (texts k) (get_or now k d)) → new ≡ now ++ t ∷ [] → IsTextOf (texts i) t
    → (k : ℕ) (d : PointText) → k < i + 1 → IsTextOf (texts k) (get_or new k d)
texts_more texts i now new t room each grown is k d less = by (cases_lt k i)
  where
    by : (k < i) ⊎ (i ≤ k) → IsTextOf (texts k) (get_or new k d)
    by (inl earlier) =
        subst (IsTextOf (texts k)) (sym (ap (λ l. get_or l k d) grown ∙ get_or_append_left now (t ∷ []) d k (omega (arith, earlier, room)))) (each k d earlier)
    by (inr late) =
        let same : k ≡ i = omega (arith, late, less) in
        subst (IsTextOf (texts k)) (sym (ap (λ l. get_or l k d) grown ∙ get_or_push now t d k (room ∙ sym same))) (subst (λ n. IsTextOf (texts n) t) (sym same) is)
