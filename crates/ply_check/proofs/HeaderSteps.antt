-- How the lines of a header lead from stage to stage.
use Rattle.std.proofs.Common.{◌≡◌, ℕ, zero, suc, ◌+◌, ◌<◌, true, false, List, [], ◌∷◌, ◌++◌, length, replicate, Some, None, refl, ap, sym, ◌∙◌, arith, append_assoc, inl, inr}
use Rattle.std.specs.Prelude.{◌⊎◌}
use Rattle.std.proofs.lemmas.Grind.{replicate_next}
use Rattle.ply_check.specs.declared.header.Header.{Header}
use Rattle.ply_check.specs.declared.header_line.HeaderLine.{HeaderLine}
use Rattle.ply_check.specs.declared.header_line.HeaderLine.TheVariants.{Format, Vertices, Property, Faces, FaceList, Comment, End}
use Rattle.ply_check.specs.declared.stage.Stage.{Stage}
use Rattle.ply_check.specs.declared.stage.Stage.TheVariants.{Opened, Formatted, Counted, Measured, Listed, Described}
use Rattle.ply_check.specs.declared.stage.Step.TheVariants.{On, Out}
use Rattle.ply_check.specs.Answers.{step_after}
use Rattle.ply_check.specs.Headers.{header_of, is_comment}

-- what the lines up to a stage have said
abbrev pub so_far : Stage → List HeaderLine
so_far Opened = []
so_far Formatted = Format ∷ []
so_far (Counted vertices) = Format ∷ Vertices vertices ∷ []
so_far (Measured vertices width) = Format ∷ Vertices vertices ∷ replicate width Property
so_far (Listed h) = Format ∷ Vertices h.vertices ∷ (replicate h.width Property ++ Faces h.faces ∷ [])
so_far (Described h) = Format ∷ Vertices h.vertices ∷ (replicate h.width Property ++ Faces h.faces ∷ FaceList ∷ [])

-- some properties were said, where that is asked for
abbrev pub Wide : Stage → Type 0
Wide (Measured vertices width) = 0 < width
Wide (Listed h) = 0 < h.width
Wide (Described h) = 0 < h.width
Wide stage = Unit {0}

-- a line leads on: it says nothing, or it is the next
pub record Leads (s : Stage) (l : HeaderLine) (next : Stage) : Type 0 where
  pub wide : Wide next
  pub far : ((is_comment l ≡ true) × (so_far next ≡ so_far s)) ⊎ ((is_comment l ≡ false) × (so_far next ≡ so_far s ++ l ∷ []))

pub leads : (s : Stage) (l : HeaderLine) (next : Stage) → Wide s → step_after s l ≡ Some (On next) → Leads s l next
leads s Comment next wide e = let same : s ≡ next = cc in rw (← same) (record { wide = wide; far = inl (refl, refl) })
leads Opened Format next wide e = let is : Formatted ≡ next = cc in rw (← is) (record { wide = tt; far = inr (refl, refl) })
leads Formatted (Vertices n) next wide e = let is : Counted n ≡ next = cc in rw (← is) (record { wide = tt; far = inr (refl, refl) })
leads (Counted n) Property next wide e = let is : Measured n 1 ≡ next = cc in rw (← is) (record { wide = omega arith; far = inr (refl, refl) })
leads (Measured n w) Property next wide e =
    let is : Measured n (w + 1) ≡ next = cc in
    rw (← is) (record { wide = omega arith; far = inr (refl, ap (λ xs. Format ∷ Vertices n ∷ xs) (replicate_next w Property)) })
leads (Measured n w) (Faces f) next wide e =
    let is : Listed (record { vertices = n; width = w; faces = f }) ≡ next = cc in
    rw (← is) (record { wide = wide; far = inr (refl, refl) })
leads (Listed h) FaceList next wide e =
    let is : Described h ≡ next = cc in
    rw (← is) (record { wide = wide; far = inr (refl, ap (λ xs. Format ∷ Vertices h.vertices ∷ xs) (sym (append_assoc (replicate h.width Property) (Faces h.faces ∷ []) (FaceList ∷ [])))) })
leads Opened l next wide e = (cc)
leads s l next wide e = (cc)

-- a line leads out: it is the end, and what was said is a whole header
pub record LeadsOut (s : Stage) (l : HeaderLine) (h : Header) : Type 0 where
  pub wide : 0 < h.width
  pub ends : l ≡ End
  pub stage : s ≡ Described h
  pub whole : so_far s ++ l ∷ [] ≡ header_of h.vertices h.width h.faces

pub described_ends : (h : Header) → so_far (Described h) ++ End ∷ [] ≡ header_of h.vertices h.width h.faces
described_ends h = ap (λ xs. Format ∷ Vertices h.vertices ∷ xs) (append_assoc (replicate h.width Property) (Faces h.faces ∷ FaceList ∷ []) (End ∷ []))

pub leads_out : (s : Stage) (l : HeaderLine) (h : Header) → Wide s → step_after s l ≡ Some (Out h) → LeadsOut s l h
leads_out s Comment h wide e = (cc)
leads_out (Described g) End h wide e =
    let is : g ≡ h = cc in
    rw (← is) (record { wide = wide; ends = refl; stage = refl; whole = described_ends g })
leads_out Opened l h wide e = (cc)
leads_out s l h wide e = (cc)

-- a line that may not stand there says something
pub none_says : (s : Stage) (l : HeaderLine) → step_after s l ≡ None → is_comment l ≡ false
none_says s Comment e = (cc)
none_says s l e = refl

-- so many properties and then something else are so in one way alone
runs : (k w f : ℕ) (x : HeaderLine) (xs ys : List HeaderLine) → replicate k Property ++ x ∷ xs ≡ replicate w Property ++ Faces f ∷ ys
    → (x ≡ Property) ⊎ ((k ≡ w) × (x ∷ xs ≡ Faces f ∷ ys))
runs zero zero f x xs ys e = inr (refl, e)
runs zero (suc w) f x xs ys e = inl (cc)
runs (suc k) zero f x xs ys e = (cc)
runs (suc k) (suc w) f x xs ys e =
    let tails : replicate k Property ++ x ∷ xs ≡ replicate w Property ++ Faces f ∷ ys = cc in
    elim (runs k w f x xs ys tails) [ inl is ↦ inl is | inr (same, rest) ↦ inr (ap suc same, rest) ]

-- the first property of some
first_of_some : (w : ℕ) (ys : List HeaderLine) → 0 < w → (xs : List HeaderLine) × (replicate w Property ++ ys ≡ Property ∷ xs)
first_of_some zero ys some = absurd (omega arith)
first_of_some (suc w) ys some = (replicate w Property ++ ys, refl)

-- where the number of faces was said, what follows it is told
after_faces : (h : Header) (v w f : ℕ) (xs ys : List HeaderLine)
    → Format ∷ Vertices h.vertices ∷ (replicate h.width Property ++ Faces h.faces ∷ xs) ≡ Format ∷ Vertices v ∷ (replicate w Property ++ Faces f ∷ ys)
    → (h ≡ record { vertices = v; width = w; faces = f }) × (xs ≡ ys)
after_faces h v w f xs ys e =
    let tails : replicate h.width Property ++ Faces h.faces ∷ xs ≡ replicate w Property ++ Faces f ∷ ys = cc in
    let vertices : h.vertices ≡ v = cc in
    elim (runs h.width w f (Faces h.faces) xs ys tails) [
      | inl is ↦ (cc)
      | inr (same, rest) ↦
          let faces : h.faces ≡ f = cc in
          let left : xs ≡ ys = cc in
          (rw (vertices, same, faces) refl, left)
    ]

-- no header goes on with a line that leads nowhere
pub leads_nowhere : (s : Stage) (l : HeaderLine) (v w f : ℕ) (xs : List HeaderLine) → 0 < w → step_after s l ≡ None
    → so_far s ++ l ∷ xs ≡ header_of v w f → ⊥
leads_nowhere Opened Format v w f xs some none e = (cc)
leads_nowhere Opened l v w f xs some none e = (cc)
leads_nowhere Formatted (Vertices n) v w f xs some none e = (cc)
leads_nowhere Formatted l v w f xs some none e = (cc)
leads_nowhere (Counted n) l v w f xs some none e =
    let first = first_of_some w (Faces f ∷ FaceList ∷ End ∷ []) some in
    let tails : l ∷ xs ≡ replicate w Property ++ Faces f ∷ FaceList ∷ End ∷ [] = cc in
    let is : l ≡ Property = let both = tails ∙ first.1 in cc in
    let at : step_after (Counted n) Property ≡ None = rw is at none in
    (cc)
leads_nowhere (Measured n k) l v w f xs some none e =
    let tails : replicate k Property ++ l ∷ xs ≡ replicate w Property ++ Faces f ∷ FaceList ∷ End ∷ [] = cc in
    elim (runs k w f l xs (FaceList ∷ End ∷ []) tails) [
      | inl is ↦ (let at : step_after (Measured n k) Property ≡ None = rw is at none in (cc))
      | inr (same, rest) ↦
          (let is : l ≡ Faces f = cc in
          let at : step_after (Measured n k) (Faces f) ≡ None = rw is at none in (cc))
    ]
leads_nowhere (Listed h) l v w f xs some none e =
    let whole = ap (λ ys. Format ∷ Vertices h.vertices ∷ ys) (sym (append_assoc (replicate h.width Property) (Faces h.faces ∷ []) (l ∷ xs))) ∙ e in
    let left = (after_faces h v w f (l ∷ xs) (FaceList ∷ End ∷ []) whole).1 in
    let is : l ≡ FaceList = cc in
    let at : step_after (Listed h) FaceList ≡ None = rw is at none in
    (cc)
leads_nowhere (Described h) l v w f xs some none e =
    let whole = ap (λ ys. Format ∷ Vertices h.vertices ∷ ys) (sym (append_assoc (replicate h.width Property) (Faces h.faces ∷ FaceList ∷ []) (l ∷ xs))) ∙ e in
    let left = (after_faces h v w f (FaceList ∷ l ∷ xs) (FaceList ∷ End ∷ []) whole).1 in
    let is : l ≡ End = cc in
    let at : step_after (Described h) End ≡ None = rw is at none in
    (cc)

-- behind the end nothing is left of a header, and it is the one that was said
pub nothing_left : (h : Header) (v w f : ℕ) (xs : List HeaderLine) → so_far (Described h) ++ End ∷ xs ≡ header_of v w f
    → (h ≡ record { vertices = v; width = w; faces = f }) × (xs ≡ [])
nothing_left h v w f xs e =
    let whole = ap (λ ys. Format ∷ Vertices h.vertices ∷ ys) (sym (append_assoc (replicate h.width Property) (Faces h.faces ∷ FaceList ∷ []) (End ∷ xs))) ∙ e in
    let told = after_faces h v w f (FaceList ∷ End ∷ xs) (FaceList ∷ End ∷ []) whole in
    let left = told.1 in
    let none : xs ≡ [] = cc in
    (told.0, none)

-- some header begins with what was said up to a stage, and has more
pub record GoesOn (s : Stage) : Type 0 where
  pub left : List HeaderLine
  pub more : 0 < length left
  pub vertices : ℕ
  pub width : ℕ
  pub faces : ℕ
  pub some : 0 < width
  pub says : so_far s ++ left ≡ header_of vertices width faces

pub goes_on : (s : Stage) → Wide s → GoesOn s
goes_on Opened wide = record { left = header_of 0 1 0; more = omega arith; vertices = 0; width = 1; faces = 0; some = omega arith; says = refl }
goes_on Formatted wide = record {
  left = Vertices 0 ∷ Property ∷ Faces 0 ∷ FaceList ∷ End ∷ [];
  more = omega arith;
  vertices = 0;
  width = 1;
  faces = 0;
  some = omega arith;
  says = refl;
}
goes_on (Counted n) wide = record {
  left = Property ∷ Faces 0 ∷ FaceList ∷ End ∷ [];
  more = omega arith;
  vertices = n;
  width = 1;
  faces = 0;
  some = omega arith;
  says = refl;
}
goes_on (Measured n w) wide = record {
  left = Faces 0 ∷ FaceList ∷ End ∷ [];
  more = omega arith;
  vertices = n;
  width = w;
  faces = 0;
  some = wide;
  says = refl;
}
goes_on (Listed h) wide = record {
  left = FaceList ∷ End ∷ [];
  more = omega arith;
  vertices = h.vertices;
  width = h.width;
  faces = h.faces;
  some = wide;
  says = ap (λ xs. Format ∷ Vertices h.vertices ∷ xs) (append_assoc (replicate h.width Property) (Faces h.faces ∷ []) (FaceList ∷ End ∷ []));
}
goes_on (Described h) wide = record {
  left = End ∷ [];
  more = omega arith;
  vertices = h.vertices;
  width = h.width;
  faces = h.faces;
  some = wide;
  says = described_ends h;
}
