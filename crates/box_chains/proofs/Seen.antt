-- Lists that are put behind others, and outcomes that have them by their numbers.
use Rattle.std.proofs.Common.{◌≡◌, refl, ℕ, ◌<◌, ◌≤◌, List, [], ◌∷◌, ◌++◌, length, get_or, take, ap, sym, subst, ◌∙◌, arith}
use Rattle.std.specs.List.{All}
use Rattle.std.proofs.lemmas.List.{ext_get_or, get_or-map, get_or-take, get_or_at, length-append, length-map, length-take, map_push, take-take, take_all}
use Rattle.std.proofs.lemmas.List.Elements.{All-push}
use Rattle.std.proofs.Math.Seq.{take-append_seam}
use Rattle.live_clauses.specs.Blocks.{list_at}
use Rattle.live_clauses.specs.Live.{IsWhole}
use Rattle.live_clauses.specs.declared.step.Step.{Step}
use Rattle.view_places.specs.Window.{Window}
use Rattle.view_places.specs.declared.lattice.Lattice.{Lattice}
use Rattle.box_chains.specs.Desks.{HasMore, Tracing}
use Rattle.box_chains.specs.Outcomes.{AreFirst, AreSeen, HandsOn, IsHandedOn, all_seen, seen}
use Rattle.box_chains.specs.declared.outcome.Outcome.{Outcome}
use Rattle.box_chains.specs.declared.outcome.Outcome.TheVariants.{Inside, Outside, Open}

-- all lists stand first among themselves, and some before those that are put behind them
pub first-all : (lists : List (List Step)) → AreFirst lists lists
first-all lists = take_all (length lists) lists (omega arith)

pub first-pushed : (old new : List (List Step)) (list : List Step) → new ≡ old ++ list ∷ [] → AreFirst old new
first-pushed old new list is = ap (take (length old)) is ∙ take-append_seam old (list ∷ [])

pub first-fewer : (old new : List (List Step)) → AreFirst old new → length old ≤ length new
first-fewer old new first = omega (arith, ap length first, length-take (length old) new)

pub first-then : (old mid new : List (List Step)) → AreFirst old mid → AreFirst mid new → AreFirst old new
first-then old mid new one two =
    sym (take-take (length old) (length mid) new (first-fewer old mid one)) ∙ ap (take (length old)) two ∙ one

-- a list keeps its number
pub first-list : (old new : List (List Step)) (at : ℕ) → AreFirst old new → at < length old → list_at new at ≡ list_at old at
first-list old new at first among = sym (get_or-take (length old) new at [] among) ∙ ap (λ l. list_at l at) first

-- the last list has the number of those before it
pub last-list : (old new : List (List Step)) (list : List Step) → new ≡ old ++ list ∷ [] → list_at new (length old) ≡ list
last-list old new list is = ap (λ l. list_at l (length old)) is ∙ get_or_at old list [] [] (length old) refl

pub last-among : (old new : List (List Step)) (list : List Step) → new ≡ old ++ list ∷ [] → length old < length new
last-among old new list is = omega (arith, ap length is, length-append old (list ∷ []))

-- what an outcome stands for stays
pub seen-first : (most : ℕ) (old new : List (List Step)) (o : Outcome ℕ) → AreFirst old new → HandsOn most old o → seen new o ≡ seen old o
seen-first most old new Inside first hand = refl
seen-first most old new Outside first hand = refl
seen-first most old new (Open at) first hand = ap Open (first-list old new at first hand.among)

pub hands-first : (most : ℕ) (old new : List (List Step)) (o : Outcome ℕ) → AreFirst old new → HandsOn most old o → HandsOn most new o
hands-first most old new Inside first hand = tt
hands-first most old new Outside first hand = tt
hands-first most old new (Open at) first hand =
    let same = first-list old new at first hand.among in
    record {
      among = omega (arith, hand.among, first-fewer old new first);
      few = omega (arith, ap length same, hand.few);
      whole = subst IsWhole (sym same) hand.whole;
    }

pub seen-all : (most : ℕ) (old new : List (List Step)) (outcomes : List (Outcome ℕ)) → AreFirst old new → All (HandsOn most old) outcomes
    → all_seen new outcomes ≡ all_seen old outcomes
seen-all most old new outcomes first hand =
    ext_get_or Outside (all_seen new outcomes) (all_seen old outcomes) (length-map outcomes (seen new) ∙ sym (length-map outcomes (seen old)))
    (λ k h.
    let within : k < length outcomes = omega (arith, h, length-map outcomes (seen new)) in
    get_or-map (seen new) outcomes k Outside Outside within
    ∙ seen-first most old new (get_or outcomes k Outside) first (hand k Outside within)
    ∙ sym (get_or-map (seen old) outcomes k Outside Outside within))

-- outcomes stay the same ones where lists are put behind
pub are-first : (most : ℕ) (old new : List (List Step)) (outcomes : List (Outcome ℕ)) (told : List (Outcome (List Step))) → AreFirst old new
    → AreSeen most old outcomes told → AreSeen most new outcomes told
are-first most old new outcomes told first h = record {
  are = seen-all most old new outcomes first h.hand ∙ h.are;
  hand = λ k d within. hands-first most old new (get_or outcomes k d) first (h.hand k d within);
}

-- and one more
pub are-pushed : (most : ℕ) (old new : List (List Step)) (before outcomes : List (Outcome ℕ)) (told : List (Outcome (List Step))) (o : Outcome ℕ) (last : Outcome (List Step)) → AreFirst old new
    → AreSeen most old before told → outcomes ≡ before ++ o ∷ [] → seen new o ≡ last → HandsOn most new o
    → AreSeen most new outcomes (told ++ last ∷ [])
are-pushed most old new before outcomes told o last first h pushed is hand =
    let kept = are-first most old new before told first h in
    subst (λ os. AreSeen most new os (told ++ last ∷ [])) (sym pushed)
    (record {
      are = map_push (seen new) before o ∙ ap (λ l. l ++ seen new o ∷ []) kept.are ∙ ap (λ x. told ++ x ∷ []) is;
      hand = All-push (HandsOn most new) before o kept.hand hand;
    })

-- no outcomes
pub are-none : (most : ℕ) (lists : List (List Step)) (outcomes : List (Outcome ℕ)) → outcomes ≡ [] → AreSeen most lists outcomes []
are-none most lists outcomes none =
    subst (λ os. AreSeen most lists os []) (sym none) (record { are = refl; hand = λ k d h. absurd (omega (arith, h)) })

-- desks to which lists are added, and cut back
pub more-none : (desk : Tracing) → HasMore desk desk
more-none desk = record { view = refl; lattice = refl; room = refl; lists = first-all desk.lists }

pub more-then : (old mid new : Tracing) → HasMore old mid → HasMore mid new → HasMore old new
more-then old mid new one two = record {
  view = two.view ∙ one.view;
  lattice = two.lattice ∙ one.lattice;
  room = two.room ∙ one.room;
  lists = first-then old.lists mid.lists new.lists one.lists two.lists;
}

pub cut-back : (old new last : Tracing) (count : ℕ) → HasMore old new → count ≡ length old.lists
    → last ≡ record new { lists = take count new.lists } → last ≡ old
cut-back old new last count more is cut =
    cut ∙ ap (λ n. record new { lists = take n new.lists }) is ∙ ap (λ l. record new { lists = l }) more.lists
    ∙ ap (λ r. record new { room = r; lists = old.lists }) more.room
    ∙ ap (λ l. record new { lattice = l; room = old.room; lists = old.lists }) more.lattice
    ∙ ap (λ v. record { view = v; lattice = old.lattice; room = old.room; lists = old.lists }) more.view

-- a list that was put last may be handed on
pub handed-last : (most : ℕ) (old new : List (List Step)) (live : List Step) → new ≡ old ++ live ∷ [] → length live ≤ most → IsWhole live
    → IsHandedOn most new (length old)
handed-last most old new live is few whole =
    let last = last-list old new live is in
    record {
      among = last-among old new live is;
      few = omega (arith, ap length last, few);
      whole = subst IsWhole (sym last) whole;
    }

-- a desk by its parts
abbrev pub desk-of : Window → Lattice → ℕ → List (List Step) → Tracing
desk-of view lattice room lists = record { view = view; lattice = lattice; room = room; lists = lists }
