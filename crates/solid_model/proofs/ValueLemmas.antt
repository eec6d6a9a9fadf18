-- Plain values satisfy the equations of their clauses, and nothing else does.
use Rattle.std.proofs.Common.{◌≡◌, ℕ, zero, suc, ◌+◌, ◌-◌, ◌<◌, ◌≤◌, ℤ, pos, List, [], ◌∷◌, ◌++◌, length, get_or, fold, Some, slice_get, below_more, inl, inr, refl, ap, sym, subst, ◌∙◌, arith}
use Rattle.std.proofs.lemmas.List.{length-append, get_or_append_left, ext_get_or}
use Rattle.std.proofs.lemmas.Int.{ints}
use Rattle.std.proofs.Math.Seq.{get_or-append_seam}
use Rattle.std.proofs.lemmas.Option.{slice_get-get_or, slice_get_within, get_or_from_slice_get, slice_get_cases}
use Rattle.solid_model.specs.declared.clause.Clause.{Clause}
use Rattle.fixed_ops.specs.Points.{Point, IsRawPoint}
use Rattle.fixed_ops.specs.Raw.{IsRaw}
use Rattle.solid_model.specs.Clauses.{AreInOrder, FitsAt}
use Rattle.solid_model.specs.Laws.{AreValues, OnlyPlainValuesHold, PlainValuesAreRaw, PlainValuesHold}
use Rattle.solid_model.specs.Values.{clause_value, values}
use Rattle.fixed_ops.proofs.PointLaws.{IsRaw-step_value, step_value-same}

-- a clause has one value over lists that agree before its place
clause_value-same : (p : Point) (xs ys : List ℤ) (place : ℕ) (clause : Clause) → FitsAt place clause.op clause.a clause.b clause.value
    → ((k : ℕ) → k < place → get_or xs k (pos 0) ≡ get_or ys k (pos 0)) → clause_value p xs clause ≡ clause_value p ys clause
clause_value-same p xs ys place clause fits agree =
    step_value-same clause.op p clause.value _ _ _ _ (λ h. agree clause.a (fits.first h)) (λ h. agree clause.b (fits.second h))

-- the values after those of earlier clauses
abbrev values_from : Point → List ℤ → List Clause → List ℤ
values_from p earlier clauses = fold (λ before clause. before ++ clause_value p before clause ∷ []) earlier clauses

length-values_from : (p : Point) (earlier : List ℤ) (clauses : List Clause) → length (values_from p earlier clauses) ≡ length earlier + length clauses
length-values_from p earlier [] = omega arith
length-values_from p earlier (c ∷ cs) =
    omega (arith, length-values_from p (earlier ++ clause_value p earlier c ∷ []) cs, length-append earlier (clause_value p earlier c ∷ []))

-- earlier values stay
get_or-values_from : (p : Point) (earlier : List ℤ) (clauses : List Clause) (k : ℕ) → k < length earlier → get_or (values_from p earlier clauses) k (pos 0) ≡ get_or earlier k (pos 0)
get_or-values_from p earlier [] k h = refl
get_or-values_from p earlier (c ∷ cs) k h =
    let v = clause_value p earlier c in
    get_or-values_from p (earlier ++ v ∷ []) cs k (omega (arith, length-append earlier (v ∷ []))) ∙ get_or_append_left earlier (v ∷ []) (pos 0) k h

-- each later clause's value is what it makes of the whole list
value-values_from : (p : Point) (earlier : List ℤ) (clauses : List Clause) (place : ℕ) (clause : Clause)
    → ((k : ℕ) (c : Clause) → slice_get clauses k ≡ Some c → FitsAt (length earlier + k) c.op c.a c.b c.value) → slice_get clauses place ≡ Some clause
    → get_or (values_from p earlier clauses) (length earlier + place) (pos 0) ≡ clause_value p (values_from p earlier clauses) clause
value-values_from p earlier [] place clause fit at = (cc)
value-values_from p earlier (c ∷ cs) zero clause fit at =
    let v = clause_value p earlier c in
    let all = values_from p (earlier ++ v ∷ []) cs in
    let longer = length-append earlier (v ∷ []) in
    let here : get_or all (length earlier) (pos 0) ≡ v = get_or-values_from p (earlier ++ v ∷ []) cs (length earlier) (omega arith) ∙ get_or-append_seam earlier v [] (pos 0) in
    let fits : FitsAt (length earlier) c.op c.a c.b c.value = subst (λ n. FitsAt n c.op c.a c.b c.value) (omega arith) (fit 0 c refl) in
    let whole : v ≡ clause_value p all c = clause_value-same p earlier all (length earlier) c fits (λ k h. sym (get_or-values_from p earlier (c ∷ cs) k h)) in
    let is : c ≡ clause = (cc) in
    let there : length earlier + 0 ≡ length earlier = omega arith in
    rw there (here ∙ whole ∙ ap (clause_value p all) is)
value-values_from p earlier (c ∷ cs) (suc place) clause fit at =
    let v = clause_value p earlier c in
    let longer = length-append earlier (v ∷ []) in
    let there : length earlier + suc place ≡ length (earlier ++ v ∷ []) + place = omega arith in
    rw there (value-values_from p (earlier ++ v ∷ []) cs place clause
    (λ k d h. subst (λ n. FitsAt n d.op d.a d.b d.value) (omega arith) (fit (suc k) d h)) at)

pub value-values : (p : Point) (clauses : List Clause) → ((k : ℕ) (c : Clause) → slice_get clauses k ≡ Some c → FitsAt k c.op c.a c.b c.value)
    → (place : ℕ) (clause : Clause) → slice_get clauses place ≡ Some clause → get_or (values p clauses) place (pos 0) ≡ clause_value p (values p clauses) clause
value-values p clauses fit place clause at =
    let value = value-values_from p [] clauses place clause (λ k c h. subst (λ n. FitsAt n c.op c.a c.b c.value) (omega arith) (fit k c h)) at in
    let start : 0 + place ≡ place = omega arith in
    rw start at value

pub AreValues-values : PlainValuesHold
AreValues-values p clauses stand = record {
  as_many = omega (arith, length-values_from p [] clauses);
  each = λ place clause at.
      let here = value-values p clauses (λ k c h. (stand k c h).fits) place clause at in
      slice_get-get_or (values p clauses) place (pos 0) (omega (arith, length-values_from p [] clauses, slice_get_within clauses place clause at)) ∙ ap Some here;
}

-- two lists that satisfy the equations agree
module _ (p : Point) (clauses : List Clause) (xs ys : List ℤ) (stand : AreInOrder clauses) (of_xs : AreValues p clauses xs) (of_ys : AreValues p clauses ys) where
  agree_at : (n : ℕ) → n < length clauses → ((k : ℕ) → k < n → get_or xs k (pos 0) ≡ get_or ys k (pos 0)) → get_or xs n (pos 0) ≡ get_or ys n (pos 0)
  agree_at n within before =
      elim (slice_get_cases clauses n).1 [
        | inl there ↦
            let value_x = get_or_from_slice_get xs n _ (pos 0) (of_xs.each n there.0 there.2) in
            let value_y = get_or_from_slice_get ys n _ (pos 0) (of_ys.each n there.0 there.2) in
            value_x ∙ clause_value-same p xs ys n there.0 (stand n there.0 there.2).fits before ∙ sym value_y
        | inr past ↦ absurd (omega (arith, past.0))
      ]

  agree_before : (n : ℕ) → n ≤ length clauses → (k : ℕ) → k < n → get_or xs k (pos 0) ≡ get_or ys k (pos 0)
  agree_before zero fits k less = absurd (omega arith)
  agree_before (suc n) fits k less =
      let before = agree_before n (omega arith) in
      below_more _ n before (agree_at n (omega arith) before) k (omega arith)

  agree : xs ≡ ys
  agree = ext_get_or (pos 0) xs ys (of_xs.as_many ∙ sym of_ys.as_many) (λ k less. agree_before (length clauses) (omega arith) k (omega (arith, of_xs.as_many)))

pub values-only : OnlyPlainValuesHold
values-only p clauses all stand hold =
    agree p clauses all (values p clauses) stand hold (AreValues-values p clauses stand)

-- each number that a list gives is raw, also the 0 that it gives past its end
abbrev AreRaw : List ℤ → Type 0
AreRaw xs = (k : ℕ) → IsRaw (get_or xs k (pos 0))

AreRaw-push : (xs : List ℤ) (v : ℤ) → AreRaw xs → IsRaw v → AreRaw (xs ++ v ∷ [])
AreRaw-push [] v all raw zero = raw
AreRaw-push [] v all raw (suc k) = all k
AreRaw-push (x ∷ xs) v all raw zero = all 0
AreRaw-push (x ∷ xs) v all raw (suc k) = AreRaw-push xs v (λ j. all (suc j)) raw k

AreRaw-values_from : (p : Point) (earlier : List ℤ) (clauses : List Clause) → IsRawPoint p → AreRaw earlier
    → ((k : ℕ) (c : Clause) → slice_get clauses k ≡ Some c → IsRaw c.value) → AreRaw (values_from p earlier clauses)
AreRaw-values_from p earlier [] at all raw = all
AreRaw-values_from p earlier (c ∷ cs) at all raw =
    let one = IsRaw-step_value c.op p c.value _ _ at (raw 0 c refl) (all c.a) (all c.b) in
    AreRaw-values_from p (earlier ++ clause_value p earlier c ∷ []) cs at (AreRaw-push earlier (clause_value p earlier c) all one) (λ k d h. raw (suc k) d h)

pub values-raw : PlainValuesAreRaw
values-raw p clauses at stand =
    let all = AreRaw-values_from p [] clauses at (λ k. (omega (arith, ints), omega (arith, ints))) (λ k c h. (stand k c h).raw) in
    (all, all (length clauses - 1))
