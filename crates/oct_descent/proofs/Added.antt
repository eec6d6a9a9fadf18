-- Boxes that are kept behind others.
use Rattle.std.proofs.Common.{◌≡◌, ℕ, ◌+◌, ◌-◌, ◌<◌, Bool, true, false, cond, List, [], ◌∷◌, ◌++◌, append-nil, append_assoc, length, get_or, set, take, refl, sym, ap, subst, ◌∙◌, arith}
use Rattle.std.specs.Prelude.{IfSome, IsTrue, Option, Some, None}
use Rattle.std.specs.List.{flat_map}
use Rattle.std.proofs.Math.Seq.{set-append_seam}
use Rattle.std.proofs.lemmas.List.{length-append, take_more}
use Rattle.std.proofs.lemmas.List.Concat.{flat_map-append, flat_map-cons}
use Rattle.std.proofs.lemmas.Option.{none-some}
use Rattle.box_chains.specs.Chains.{visit}
use Rattle.live_clauses.specs.declared.step.Step.{Step}
use Rattle.view_places.specs.Boxes.{Indices, halves_of}
use Rattle.oct_descent.specs.Adding.{Adds}
use Rattle.oct_descent.specs.KeptBoxes.{halves_places, places_of, split_place, split_places}
use Rattle.oct_descent.specs.Ways.{CellDescent}
use Rattle.oct_descent.specs.declared.boxes.Boxes.{Boxes}
use Rattle.oct_descent.specs.declared.split_box.SplitBox.{SplitBox}

pub adds-same : (before after : Boxes) (new other : List (Option SplitBox)) → new ≡ other → Adds before after new → Adds before after other
adds-same before after new other same h = subst (Adds before after) same h

pub adds-none : (boxes : Boxes) → Adds boxes boxes []
adds-none boxes = record { places = λ keeps. sym (append-nil boxes.places.items); keeps = refl }

-- the places of one more half
pub adds-more : (d : CellDescent) (list : List Step) (halves : List Indices) (i : ℕ) (half : Indices) (old mid new : Boxes) → i < length halves → half ≡ get_or halves i half
    → Adds old mid (halves_places d list (take i halves)) → Adds mid new (places_of d (visit half list)) → Adds old new (halves_places d list (take (i + 1) halves))
adds-more d list halves i half old mid new within read first then = record {
  places = λ keeps.
      then.places (subst IsTrue (sym first.keeps) keeps) ∙ ap (λ l. l ++ f half) (first.places keeps) ∙ append_assoc old.places.items (halves_places d list (take i halves)) (f half)
      ∙ ap (λ l. old.places.items ++ l) (sym joined ∙ ap (halves_places d list) (sym more));
  keeps = then.keeps ∙ first.keeps;
}
  where
    f : Indices → List (Option SplitBox)
    f h = places_of d (visit h list)

    joined : flat_map f (take i halves ++ half ∷ []) ≡ flat_map f (take i halves) ++ f half
    joined = flat_map-append f (take i halves) (half ∷ []) ∙ ap (λ l. flat_map f (take i halves) ++ l) (flat_map-cons f half [] ∙ append-nil (f half))

    more : take (i + 1) halves ≡ take i halves ++ half ∷ []
    more = take_more halves i half within ∙ ap (λ h. take i halves ++ h ∷ []) (sym read)

-- a place that is filled once those of the halves stand behind it
filled : (old pushed all below : List (Option SplitBox)) (list : List Step) (at : ℕ) → pushed ≡ old ++ None ∷ [] → all ≡ pushed ++ below → at ≡ length old
    → set all at (Some (record { list = list; below = length all - (at + 1) })) ≡ old ++ split_place list below
filled old pushed all below list at push grown start =
    let whole : all ≡ old ++ None ∷ below = grown ∙ ap (λ l. l ++ below) push ∙ append_assoc old (None ∷ []) below in
    let count : length all - (at + 1) ≡ length below = omega (arith, start, ap length whole, length-append old (None ∷ below)) in
    ap (λ n. set all at (Some (record { list = list; below = n }))) count ∙ ap (λ l. set l at (Some (record { list = list; below = length below }))) whole
    ∙ ap (λ n. set (old ++ None ∷ below) n (Some (record { list = list; below = length below }))) start ∙ set-append_seam old None below (Some (record { list = list; below = length below }))

-- what was begun of a box stands among its places
pub begun-within : (old pushed all : Boxes) (below : List (Option SplitBox)) (at : ℕ) (list : List Step) (kept : Option (List Step)) → kept ≡ cond old.keeps (Some list) None → at ≡ length old.places.items
    → Adds old pushed (None ∷ []) → Adds pushed all below → IfSome kept (λ l. at < length all.places.items)
begun-within old pushed all below at list kept was start first then = by kept old.keeps refl was
  where
    by : (o : Option (List Step)) (k : Bool) → old.keeps ≡ k → o ≡ cond k (Some list) None → IfSome o (λ l. at < length all.places.items)
    by None k e same = tt
    by (Some l) true e same =
        omega (
          arith,
          start,
          ap length (first.places e),
          ap length (then.places (first.keeps ∙ e)),
          length-append old.places.items (None ∷ []),
          length-append pushed.places.items below,
        )
    by (Some l) false e same = absurd (none-some l (sym same))

-- and is what is kept of the box once it is filled
pub adds-split : (d : CellDescent) (b : Indices) (live : List Step) (old pushed all new : Boxes) (at : ℕ) (kept : Option (List Step)) → kept ≡ cond old.keeps (Some live) None → at ≡ length old.places.items
    → Adds old pushed (None ∷ []) → Adds pushed all (halves_places d live (halves_of d.boxes.leaf b)) → new.keeps ≡ all.keeps
    → IfSome kept (λ l. new.places.items ≡ set all.places.items at (Some (record { list = l; below = length all.places.items - (at + 1) })))
    → Adds old new (split_places d b live)
adds-split d b live old pushed all new at kept was start first then same put = record {
  places = λ keeps. subst (λ o. IfSome o (λ l. new.places.items ≡ set all.places.items at (Some (record { list = l; below = length all.places.items - (at + 1) })))) (was ∙ ap (λ k. cond k (Some live) None) keeps) put
      ∙ filled old.places.items pushed.places.items all.places.items (halves_places d live (halves_of d.boxes.leaf b)) live at (first.places keeps) (then.places (first.keeps ∙ keeps)) start;
  keeps = same ∙ then.keeps ∙ first.keeps;
}
