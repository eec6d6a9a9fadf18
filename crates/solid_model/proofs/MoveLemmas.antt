-- Where the numbers of an order stand after one of them was moved.
use Rattle.std.proofs.Common.{◌≡◌, ◌≢◌, ℕ, zero, suc, ◌+◌, ◌-◌, ◌<◌, ◌≤◌, ◌⊎◌, inl, inr, List, [], ◌∷◌, length, set, get_or, Some, slice_get, refl, ap, sym, subst, ◌∙◌, arith}
use Rattle.std.specs.List.{insert, remove}
use Rattle.std.proofs.lemmas.Bool.{cases_lt}
use Rattle.std.proofs.lemmas.List.Edits.{length-insert, length-remove}
use Rattle.std.proofs.lemmas.Option.{same_Some, slice_get-get_or, slice_get_cases, slice_get_within}
use Rattle.indexmap.specs.IndexMap.{move_index}
use Rattle.solid_model.specs.Moves.{AreDistinct, AreNoted, AreNotedBut}
use Rattle.solid_model.specs.Surgery.{down, up}
use Rattle.solid_model.specs.Tables.{ArePlaces, Standing}
use Rattle.solid_model.proofs.NamePlaces.{down-le, down-more, slice_get-insert, slice_get-remove, up-le, up-less}

up-next : (at k : ℕ) → up (suc at) (suc k) ≡ suc (up at k)
up-next at k = elim (cases_lt k at) [
  | inl less ↦ omega (arith, up-less at k less, up-less (suc at) (suc k) (omega (arith, less)))
  | inr le ↦ omega (arith, up-le at k le, up-le (suc at) (suc k) (omega (arith, le)))
]

down-next : (at k : ℕ) → down (suc at) (suc k) ≡ suc (down at k)
down-next at k = elim (cases_lt at k) [
  | inl more ↦ omega (arith, more, down-more at k more, down-more (suc at) (suc k) (omega (arith, more)))
  | inr le ↦ omega (arith, down-le at k le, down-le (suc at) (suc k) (omega (arith, le)))
]

-- what stood at a place stands where the place has moved to
pub get-insert : {A : Type 0} (xs : List A) (at : ℕ) (y : A) (k : ℕ) → at ≤ length xs → slice_get (insert xs at y) (up at k) ≡ slice_get xs k
get-insert xs zero y k h = let e : up 0 k ≡ suc k = omega (arith, up-le 0 k (omega arith)) in rw e refl
get-insert [] (suc at) y k h = absurd (omega (arith, h))
get-insert (x ∷ xs) (suc at) y zero h = let e : up (suc at) 0 ≡ 0 = up-less (suc at) 0 (omega arith) in rw e refl
get-insert (x ∷ xs) (suc at) y (suc k) h = rw (up-next at k) (get-insert xs at y k (omega (arith, h)))

pub get-there : {A : Type 0} (xs : List A) (at : ℕ) (y : A) → at ≤ length xs → slice_get (insert xs at y) at ≡ Some y
get-there xs zero y h = refl
get-there [] (suc at) y h = absurd (omega (arith, h))
get-there (x ∷ xs) (suc at) y h = get-there xs at y (omega (arith, h))

pub get-remove : {A : Type 0} (xs : List A) (at k : ℕ) → at < length xs → k ≢ at → slice_get (remove xs at) (down at k) ≡ slice_get xs k
get-remove [] at k h other = absurd (omega (arith, h))
get-remove (x ∷ xs) zero zero h other = absurd (other refl)
get-remove (x ∷ xs) zero (suc k) h other = let e : down 0 (suc k) ≡ k = omega (arith, down-more 0 (suc k) (omega arith)) in rw e refl
get-remove (x ∷ xs) (suc at) zero h other = let e : down (suc at) 0 ≡ 0 = down-le (suc at) 0 (omega arith) in rw e refl
get-remove (x ∷ xs) (suc at) (suc k) h other = rw (down-next at k) (get-remove xs at k (omega (arith, h)) (λ e. other (ap suc e)))

-- where a place but the one that moves has moved to
abbrev pub shifted : ℕ → ℕ → ℕ → ℕ
shifted from to p = up to (down from p)

pub shifted-front : (from to p : ℕ) → p < from → p < to → shifted from to p ≡ p
shifted-front from to p h k = rw (down-le from p (omega (arith, h))) (up-less to p k)

pub shifted-up : (from to p : ℕ) → p < from → to ≤ p → shifted from to p ≡ p + 1
shifted-up from to p h k = rw (down-le from p (omega (arith, h))) (up-le to p k)

pub shifted-down : (from to p : ℕ) → from < p → p ≤ to → shifted from to p ≡ p - 1
shifted-down from to p h k = rw (down-more from p h) (up-less to (p - 1) (omega (arith, h, k)))

pub shifted-behind : (from to p : ℕ) → from < p → to < p → shifted from to p ≡ p
shifted-behind from to p h k = rw (down-more from p h) (omega (arith, h, up-le to (p - 1) (omega (arith, h, k))))

pub move-is : {A : Type 0} (xs : List A) (from to : ℕ) (x : A) → slice_get xs from ≡ Some x → move_index xs from to ≡ insert (remove xs from) to x
move-is xs from to x e = rw e refl

-- what moves to its own place stays
pub move-nowhere : {A : Type 0} (xs : List A) (at : ℕ) → at < length xs → move_index xs at at ≡ xs
move-nowhere xs at within = elim (slice_get_cases xs at).1 [
  | inl there ↦ move-is xs at at there.0 there.2 ∙ back xs at there.0 there.2
  | inr past ↦ absurd (omega (arith, past.0, within))
]
  where
    back : {A : Type 0} (xs : List A) (at : ℕ) (x : A) → slice_get xs at ≡ Some x → insert (remove xs at) at x ≡ xs
    back [] at x e = (cc)
    back (y ∷ ys) zero x e = let is : y ≡ x = (cc) in ap (λ z. z ∷ ys) (sym is)
    back (y ∷ ys) (suc at) x e = ap (λ zs. y ∷ zs) (back ys at x e)

pub get-moved : {A : Type 0} (xs : List A) (from to : ℕ) (x : A) (p : ℕ) → from < length xs → to < length xs → p ≢ from
    → slice_get (insert (remove xs from) to x) (shifted from to p) ≡ slice_get xs p
get-moved xs from to x p within fits other =
    get-insert (remove xs from) to x (down from p) (omega (arith, fits, length-remove xs from within)) ∙ get-remove xs from p within other

pub moved-there : {A : Type 0} (xs : List A) (from to : ℕ) (x : A) → from < length xs → to < length xs → slice_get (insert (remove xs from) to x) to ≡ Some x
moved-there xs from to x within fits = get-there (remove xs from) to x (omega (arith, fits, length-remove xs from within))

pub length-moved : {A : Type 0} (xs : List A) (from to : ℕ) (x : A) → from < length xs → to < length xs → length (insert (remove xs from) to x) ≡ length xs
length-moved xs from to x within fits =
    let fewer = length-remove xs from within in
    omega (arith, within, fits, fewer, length-insert (remove xs from) to x (omega (arith, fits, fewer)))

-- what stands at a place after a move stood somewhere before it
pub record Came {A : Type 0} (xs : List A) (from to place : ℕ) (x : A) : Type 0 where
  pub old : ℕ
  pub is : slice_get xs old ≡ Some x
  pub how : ((old ≡ from) × (place ≡ to)) ⊎ ((old ≢ from) × (place ≡ shifted from to old))

pub came-from : {A : Type 0} (xs : List A) (from to : ℕ) (y : A) (place : ℕ) (x : A) → from < length xs → to < length xs → slice_get xs from ≡ Some y
    → slice_get (insert (remove xs from) to y) place ≡ Some x → Came xs from to place x
came-from xs from to y place x within fits at e =
    elim (slice_get-insert (remove xs from) to y place x (omega (arith, fits, length-remove xs from within)) e) [
      | inl before ↦ elim (slice_get-remove xs from place x before.1) [
        | inl front ↦ record { old = place; is = front.1; how = inr (λ h. omega (arith, h, front.0), sym (shifted-front from to place front.0 before.0)) }
        | inr behind ↦ record {
          old = suc place;
          is = behind.1;
          how = inr (λ h. omega (arith, h, behind.0), omega (arith, shifted-down from to (suc place) (omega (arith, behind.0)) (omega (arith, before.0))));
        }
      ]
      | inr other ↦ elim other [
        | inl new ↦ record { old = from; is = at ∙ ap Some (sym new.1); how = inl (refl, new.0) }
        | inr later ↦ elim (slice_get-remove xs from later.0 x later.3) [
          | inl front ↦ record {
            old = later.0;
            is = front.1;
            how = inr (λ h. omega (arith, h, front.0), omega (arith, later.1, shifted-up from to later.0 front.0 later.2));
          }
          | inr behind ↦ record {
            old = suc later.0;
            is = behind.1;
            how = inr (λ h. omega (arith, h, behind.0), omega (arith, later.1, shifted-behind from to (suc later.0) (omega (arith, behind.0)) (omega (arith, later.2))));
          }
        ]
      ]
    ]

module _ (order : Standing) (from to x : ℕ) (are : ArePlaces order) (at : slice_get order.numbers from ≡ Some x) (to_fits : to < length order.numbers) where
  numbers : List ℕ
  numbers = order.numbers

  from_fits : from < length order.numbers
  from_fits = slice_get_within order.numbers from x at

  came : (place number : ℕ) → slice_get (insert (remove order.numbers from) to x) place ≡ Some number → Came order.numbers from to place number
  came place number e = came-from order.numbers from to x place number from_fits to_fits at e

  pub AreDistinct-moved : AreDistinct (insert (remove order.numbers from) to x)
  AreDistinct-moved = record {
    within = λ place number e.
        let c = came place number e in
        omega (arith, slice_get_within order.places number c.old (are.there c.old number c.is), are.as_many, length-moved order.numbers from to x from_fits to_fits);
    once = λ i j number e h.
        let c = came i number e in
        let d = came j number h in
        let same : c.old ≡ d.old = same_Some _ _ (sym (are.there c.old number c.is) ∙ are.there d.old number d.is) in
        elim c.how [
          | inl moves ↦ elim d.how [
            | inl too ↦ moves.1 ∙ sym too.1
            | inr stays ↦ absurd (stays.0 (sym same ∙ moves.0))
          ]
          | inr stays ↦ elim d.how [
            | inl moves ↦ absurd (stays.0 (same ∙ moves.0))
            | inr too ↦ stays.1 ∙ ap (shifted from to) same ∙ sym too.1
          ]
        ];
  }

  pub AreNotedBut-down : from < to → AreNotedBut from (to + 1) (insert (remove order.numbers from) to x) order.places
  AreNotedBut-down less place number e outside =
      let c = came place number e in
      let old : c.old ≡ place = elim c.how [
        | inl moves ↦ elim outside [ inl before ↦ absurd (omega (arith, before, moves.1, less)) | inr behind ↦ absurd (omega (arith, behind, moves.1)) ]
        | inr stays ↦ elim (cases_lt c.old from) [
          | inl front ↦ sym (stays.1 ∙ shifted-front from to c.old front (omega (arith, front, less)))
          | inr le ↦ elim (cases_lt to c.old) [
            | inl behind ↦ sym (stays.1 ∙ shifted-behind from to c.old (omega (arith, behind, less)) behind)
            | inr among ↦
                let more : from < c.old = different le stays.0 in
                let is = shifted-down from to c.old more among in
                elim outside [ inl before ↦ absurd (omega (arith, before, stays.1, is, more)) | inr behind ↦ absurd (omega (arith, behind, stays.1, is, among)) ]
          ]
        ]
      ] in
      subst (λ k. slice_get order.places number ≡ Some k) old (are.there c.old number c.is)
    where
      different : {m n : ℕ} → m ≤ n → n ≢ m → m < n
      different le other = elim (cases_lt _ _) [ inl less ↦ less | inr more ↦ absurd (other (omega (arith, le, more))) ]

  pub AreNotedBut-up : to ≤ from → AreNotedBut to (from + 1) (insert (remove order.numbers from) to x) order.places
  AreNotedBut-up le place number e outside =
      let c = came place number e in
      let old : c.old ≡ place = elim c.how [
        | inl moves ↦ elim outside [ inl before ↦ absurd (omega (arith, before, moves.1)) | inr behind ↦ absurd (omega (arith, behind, moves.1, le)) ]
        | inr stays ↦ elim (cases_lt from c.old) [
          | inl behind ↦ sym (stays.1 ∙ shifted-behind from to c.old behind (omega (arith, behind, le)))
          | inr few ↦ elim (cases_lt c.old to) [
            | inl front ↦ sym (stays.1 ∙ shifted-front from to c.old (omega (arith, front, le)) front)
            | inr among ↦
                let less : c.old < from = different few (λ e. stays.0 (sym e)) in
                let is = shifted-up from to c.old less among in
                elim outside [ inl before ↦ absurd (omega (arith, before, stays.1, is, among)) | inr behind ↦ absurd (omega (arith, behind, stays.1, is, less)) ]
          ]
        ]
      ] in
      subst (λ k. slice_get order.places number ≡ Some k) old (are.there c.old number c.is)
    where
      different : {m n : ℕ} → m ≤ n → n ≢ m → m < n
      different le other = elim (cases_lt _ _) [ inl less ↦ less | inr more ↦ absurd (other (omega (arith, le, more))) ]

  -- the new place of a number is where its old place has moved to
  pub place-moved : (places : List ℕ) → AreNoted (insert (remove order.numbers from) to x) places → (number old : ℕ) → slice_get order.places number ≡ Some old → old ≢ from
      → slice_get places number ≡ Some (shifted from to old)
  place-moved places noted number old e other =
      noted (shifted from to old) number (get-moved order.numbers from to x old from_fits to_fits other ∙ are.back number old e)

  pub ArePlaces-moved : (places : List ℕ) → AreNoted (insert (remove order.numbers from) to x) places → length places ≡ length order.numbers
      → ArePlaces (record { numbers = insert (remove order.numbers from) to x; places = places })
  ArePlaces-moved places noted long = record {
    few = omega (arith, are.few, length-moved order.numbers from to x from_fits to_fits);
    as_many = long ∙ sym (length-moved order.numbers from to x from_fits to_fits);
    there = noted;
    back = λ number place e. elim (slice_get_cases order.places number).1 [
      | inl known ↦ known_back number place known.0 e known.2
      | inr past ↦ absurd (omega (arith, past.0, slice_get_within places number place e, long, are.as_many))
    ];
  }
    where
      known_back : (number place old : ℕ) → slice_get places number ≡ Some place → slice_get order.places number ≡ Some old
          → slice_get (insert (remove order.numbers from) to x) place ≡ Some number
      known_back number place old e was = elim (cases_lt old from) [
        | inl less ↦ other (λ h. omega (arith, less, h))
        | inr le ↦ elim (cases_lt from old) [
          | inl more ↦ other (λ h. omega (arith, more, h))
          | inr few ↦
              let is : old ≡ from = omega (arith, le, few) in
              let it : number ≡ x = same_Some _ _ (sym (subst (λ k. slice_get order.numbers k ≡ Some number) is (are.back number old was)) ∙ at) in
              let to_is : to ≡ place = same_Some _ _ (sym (noted to x (moved-there order.numbers from to x from_fits to_fits)) ∙ subst (λ n. slice_get places n ≡ Some place) it e) in
              subst (λ k. slice_get (insert (remove order.numbers from) to x) k ≡ Some number) to_is
              (moved-there order.numbers from to x from_fits to_fits ∙ ap Some (sym it))
        ]
      ]
        where
          other : old ≢ from → slice_get (insert (remove order.numbers from) to x) place ≡ Some number
          other h =
              let is : shifted from to old ≡ place = same_Some _ _ (sym (place-moved places noted number old was h) ∙ e) in
              subst (λ k. slice_get (insert (remove order.numbers from) to x) k ≡ Some number) is
              (get-moved order.numbers from to x old from_fits to_fits h ∙ are.back number old was)

-- the number of a place is noted
pub AreNotedBut-next : (numbers places : List ℕ) (place last number : ℕ) → AreDistinct numbers → length places ≡ length numbers
    → AreNotedBut place (last + 1) numbers places → slice_get numbers place ≡ Some number → AreNotedBut (place + 1) (last + 1) numbers (set places number place)
AreNotedBut-next numbers places place last number distinct long noted at i n e outside = elim (cases_lt n number) [
  | inl less ↦ other (λ h. omega (arith, less, h))
  | inr le ↦ elim (cases_lt number n) [
    | inl more ↦ other (λ h. omega (arith, more, h))
    | inr few ↦
        let is : number ≡ n = omega (arith, le, few) in
        let here : place ≡ i = distinct.once place i n (subst (λ k. slice_get numbers place ≡ Some k) is at) e in
        subst (λ k. slice_get (set places number place) k ≡ Some i) is
        (subst (λ k. slice_get (set places number place) number ≡ Some k) here
        (set-there places number place (omega (arith, long, distinct.within place number at))))
  ]
]
  where
    set-there : (xs : List ℕ) (k y : ℕ) → k < length xs → slice_get (set xs k y) k ≡ Some y
    set-there [] k y h = absurd (omega (arith, h))
    set-there (x ∷ xs) zero y h = refl
    set-there (x ∷ xs) (suc k) y h = set-there xs k y (omega (arith, h))

    set-other : (xs : List ℕ) (k y j : ℕ) → j ≢ k → slice_get (set xs k y) j ≡ slice_get xs j
    set-other [] k y j h = refl
    set-other (x ∷ xs) zero y zero h = absurd (h refl)
    set-other (x ∷ xs) zero y (suc j) h = refl
    set-other (x ∷ xs) (suc k) y zero h = refl
    set-other (x ∷ xs) (suc k) y (suc j) h = set-other xs k y j (λ e. h (ap suc e))

    other : n ≢ number → slice_get (set places number place) n ≡ Some i
    other h = set-other places number place n h ∙ noted i n e (elim outside [
      | inl before ↦ elim (cases_lt i place) [
        | inl front ↦ inl front
        | inr le ↦
            let here : i ≡ place = omega (arith, le, before) in
            absurd (h (same_Some _ _ (sym (subst (λ k. slice_get numbers k ≡ Some n) here e) ∙ at)))
      ]
      | inr behind ↦ inr behind
    ])

-- where none is left all are noted
pub AreNoted-all : (numbers places : List ℕ) (first last : ℕ) → last < first → AreNotedBut first (last + 1) numbers places → AreNoted numbers places
AreNoted-all numbers places first last past noted i n e = noted i n e (elim (cases_lt i first) [
  | inl before ↦ inl before
  | inr le ↦ inr (omega (arith, le, past))
])

-- numbers from which one was taken out and put in elsewhere
module _ (numbers places : List ℕ) (from to x : ℕ) (are : ArePlaces (record { numbers = numbers; places = places })) (within : from < length numbers) (fits : to < length numbers)
    (value : x ≡ get_or numbers from x) (new : List ℕ) (is : new ≡ insert (remove numbers from) to x) where
  number-there : slice_get numbers from ≡ Some x
  number-there = slice_get-get_or numbers from x within ∙ ap Some (sym value)

  pub distinct-new : AreDistinct new
  distinct-new = rw is (AreDistinct-moved (record { numbers = numbers; places = places }) from to x are number-there fits)

  pub noted-down : from < to → AreNotedBut from (to + 1) new places
  noted-down less = rw is (AreNotedBut-down (record { numbers = numbers; places = places }) from to x are number-there fits less)

  pub noted-up : to ≤ from → AreNotedBut to (from + 1) new places
  noted-up le = rw is (AreNotedBut-up (record { numbers = numbers; places = places }) from to x are number-there fits le)

  pub places-new : (after : List ℕ) → AreNoted new after → length after ≡ length new → ArePlaces (record { numbers = new; places = after })
  places-new after noted long =
      rw is
      (ArePlaces-moved (record { numbers = numbers; places = places }) from to x are number-there fits after (subst (λ ns. AreNoted ns after) is noted)
      (long ∙ ap length is ∙ length-moved numbers from to x within fits))

  pub move-new : new ≡ move_index numbers from to
  move-new = is ∙ sym (move-is numbers from to x number-there)
