-- Parts of a block stay as they are where only what lies behind them is written.
use Rattle.std.proofs.Common.{ℤ, ◌≡◌, ℕ, ◌+◌, ◌-◌, ◌<◌, ◌≤◌, List, [], ◌∷◌, ◌++◌, length, map, take, drop, get_or, inl, inr, refl, ap, sym, subst, ◌∙◌, arith}
use Rattle.std.specs.List.{All}
use Rattle.std.proofs.lemmas.Bool.{cases_lt}
use Rattle.std.proofs.lemmas.List.{length-append, length-take, length-take-le, take-take, take_all, take_at, drop_at, drop-take, get_or_append_left, get_or_at, get_or-take, get_or_default, map_push}
use Rattle.std.proofs.lemmas.List.Elements.{All-head, All-tail, All-push, All-take}
use Rattle.live_clauses.specs.declared.packed_step.PackedStep.{PackedStep}
use Rattle.live_clauses.specs.declared.part.Part.{Part}
use Rattle.live_clauses.specs.declared.step.Step.{Step}
use Rattle.live_clauses.specs.Blocks.{AreParts, IsPart, end_of, part_of, parts_of}
use Rattle.live_clauses.specs.Packed.{unpacked}
use Rattle.live_clauses.specs.Steps.{IsTape}

module _ (constants : List ℤ) where
  -- a part that ends before a place is the same in blocks that are the same before it
  pub part-same : (a b : List PackedStep) (n : ℕ) (part : Part) → take n a ≡ take n b → part.start ≤ part.end → part.end ≤ n → part_of constants a part ≡ part_of constants b part
  part-same a b n part same order below =
      let far : part.start + (part.end - part.start) ≡ part.end = omega arith in
      let cut : (xs : List PackedStep) → take (part.end - part.start) (drop part.start xs) ≡ drop part.start (take part.end (take n xs)) =
      λ xs. sym (drop-take part.start (part.end - part.start) xs) ∙ ap (λ m. drop part.start (take m xs)) far ∙ ap (drop part.start) (sym (take-take part.end n xs below)) in
      ap (map (unpacked constants)) (cut a ∙ ap (λ xs. drop part.start (take part.end xs)) same ∙ sym (cut b))

  -- a part lies before a place
  abbrev LiesBefore : ℕ → Part → Type 0
  LiesBefore n part = (part.start ≤ part.end) × (part.end ≤ n)

  lists-same : (a b : List PackedStep) (n : ℕ) → take n a ≡ take n b → (parts : List Part) → All (LiesBefore n) parts → parts_of constants a parts ≡ parts_of constants b parts
  lists-same a b n same [] lie = refl
  lists-same a b n same (part ∷ parts) lie =
      let first = All-head (LiesBefore n) part parts lie in
      ap (λ l. l ∷ parts_of constants a parts) (part-same a b n part same first.0 first.1) ∙ ap (λ ls. part_of constants b part ∷ ls) (lists-same a b n same parts (All-tail (LiesBefore n) part parts lie))

  module _ (block : List PackedStep) (most : ℕ) (parts : List Part) (are : AreParts constants block most parts) where
    -- no part ends behind the last one
    pub ends_before : All (λ part. part.end ≤ end_of parts) parts
    ends_before k d within =
        let none : Part = record { start = 0; end = 0 } in
        let last = length parts - 1 in
        let at : get_or parts k d ≡ get_or parts k none = get_or_default parts k d none within in
        elim (cases_lt k last) [
          | inl before ↦
              let apart = are.apart k last none before (omega arith) in
              let order = (are.each last none (omega arith)).order in
              omega (arith, apart, order, ap (λ part. part.end) at)
          | inr not_before ↦
              let here : k ≡ last = omega arith in
              omega (arith, ap (λ part. part.end) at, ap (λ n. (get_or parts n none).end) here)
        ]

    pub end_of-le : end_of parts ≤ length block
    end_of-le = elim (cases_lt 0 (length parts)) [
      | inl some ↦ (are.each (length parts - 1) (record { start = 0; end = 0 }) (omega arith)).within
      | inr none ↦ no_parts parts none
    ]
      where
        no_parts : (ps : List Part) → length ps ≤ 0 → end_of ps ≤ length block
        no_parts [] none = omega arith
        no_parts (p ∷ ps) none = absurd (omega arith)

    all_before : (n : ℕ) → end_of parts ≤ n → All (LiesBefore n) parts
    all_before n behind = λ k d within. ((are.each k d within).order, omega (arith, ends_before k d within, behind))

    -- what is written behind the parts leaves them
    pub parts-same : (other : List PackedStep) (n : ℕ) → take n block ≡ take n other → end_of parts ≤ n → parts_of constants block parts ≡ parts_of constants other parts
    parts-same other n same behind = lists-same block other n same parts (all_before n behind)

    pub parts-stay : (other : List PackedStep) (n : ℕ) → take n block ≡ take n other → end_of parts ≤ n → n ≤ length other → AreParts constants other most parts
    parts-stay other n same behind room = record {
      each = λ k d within.
          let is = are.each k d within in
          let before = ends_before k d within in
          record {
            order = is.order;
            within = omega (arith, before, behind, room);
            few = is.few;
            tape = subst IsTape (part-same block other n (get_or parts k d) same is.order (omega (arith, before, behind))) is.tape;
          };
      apart = are.apart;
    }

    -- one more part behind them
    pub parts-pushed : (part : Part) → end_of parts ≤ part.start → IsPart constants block most part → AreParts constants block most (parts ++ part ∷ [])
    parts-pushed part behind is = record {
      each = All-push (IsPart constants block most) parts part are.each is;
      apart = λ i j d before within.
          let first : get_or (parts ++ part ∷ []) i d ≡ get_or parts i d = get_or_append_left parts (part ∷ []) d i (omega (arith, before, within, length-append parts (part ∷ []))) in
          elim (cases_lt j (length parts)) [
            | inl old ↦
                let second : get_or (parts ++ part ∷ []) j d ≡ get_or parts j d = get_or_append_left parts (part ∷ []) d j old in
                omega (arith, ap (λ p. p.end) first, ap (λ p. p.start) second, are.apart i j d before old)
            | inr new ↦
                let last : length parts ≡ j = omega (arith, within, length-append parts (part ∷ [])) in
                let second : get_or (parts ++ part ∷ []) j d ≡ part = get_or_at parts part [] d j last in
                omega (arith, ap (λ p. p.end) first, ap (λ p. p.start) second, ends_before i d (omega (arith, before, last)), behind)
          ];
    }

    -- fewer parts
    pub parts-cut : (n : ℕ) → AreParts constants block most (take n parts)
    parts-cut n = record {
      each = All-take (IsPart constants block most) n parts are.each;
      apart = λ i j d before within.
          let below : j < n = omega (arith, within, length-take n parts) in
          let first : get_or (take n parts) i d ≡ get_or parts i d = get_or-take n parts i d (omega (arith, before, below)) in
          let second : get_or (take n parts) j d ≡ get_or parts j d = get_or-take n parts j d below in
          omega (arith, ap (λ p. p.end) first, ap (λ p. p.start) second, are.apart i j d before (omega (arith, within, length-take n parts)));
    }

    -- parts that may be longer
    pub parts-longer : (more : ℕ) → most ≤ more → AreParts constants block more parts
    parts-longer more less = record {
      each = λ k d within.
          let is = are.each k d within in
          record { order = is.order; within = is.within; few = omega (arith, is.few, less); tape = is.tape };
      apart = are.apart;
    }

  -- steps behind a block are a part of it
  pub part-appended : (block steps : List PackedStep) (start : ℕ) → start ≤ length block → part_of constants (take start block ++ steps) (record { start = start; end = start + length steps }) ≡ map (unpacked constants) steps
  part-appended block steps start within =
      let long : length (take start block) ≡ start = length-take-le start block within in
      let count : start + length steps - start ≡ length steps = omega arith in
      ap (map (unpacked constants)) (ap (λ n. take n (drop start (take start block ++ steps))) count ∙ ap (take (length steps)) (drop_at (take start block) steps start long) ∙ take_all (length steps) steps (omega arith))

  -- so they are one more list
  pub appended : (block : List PackedStep) (most : ℕ) (parts : List Part) (steps : List PackedStep) (part : Part) (new : List PackedStep) → AreParts constants block most parts
      → part ≡ record { start = end_of parts; end = length new } → new ≡ take (end_of parts) block ++ steps → length steps ≤ most → IsTape (map (unpacked constants) steps)
      → AreParts constants new most (parts ++ part ∷ []) × (parts_of constants new (parts ++ part ∷ []) ≡ parts_of constants block parts ++ map (unpacked constants) steps ∷ [])
  appended block most parts steps part new are is made few tape =
      let start = end_of parts in
      let within : start ≤ length block = end_of-le block most parts are in
      let long : length (take start block) ≡ start = length-take-le start block within in
      let all : length new ≡ start + length steps = ap length made ∙ omega (arith, length-append (take start block) steps, long) in
      let same : take start block ≡ take start new = sym (ap (take start) made ∙ take_at (take start block) steps start long) in
      let here : part ≡ record { start = start; end = start + length steps } = is ∙ ap (λ n. let p : Part = record { start = start; end = n } in p) all in
      let list : part_of constants new part ≡ map (unpacked constants) steps = ap (part_of constants new) here ∙ ap (λ b. part_of constants b (record { start = start; end = start + length steps })) made ∙ part-appended block steps start within in
      let starts : part.start ≡ start = ap (λ p. p.start) here in
      let ends : part.end ≡ start + length steps = ap (λ p. p.end) here in
      let stay = parts-stay block most parts are new start same (omega arith) (omega (arith, all)) in (
        parts-pushed new most parts stay part (omega (arith, starts)) (record {
          order = omega (arith, starts, ends);
          within = omega (arith, ends, all);
          few = omega (arith, starts, ends, few);
          tape = subst IsTape (sym list) tape;
        }),
        map_push (part_of constants new) parts part ∙ ap (λ l. parts_of constants new parts ++ l ∷ []) list ∙ ap (λ ls. ls ++ map (unpacked constants) steps ∷ []) (sym (parts-same block most parts are new start same (omega arith))),
      )

  -- what is written behind the parts of a block is one more of them
  pub written : (block new : List PackedStep) (most : ℕ) (parts : List Part) (start : ℕ) (part : Part) (list : List Step) → AreParts constants block most parts → start ≡ end_of parts
      → take start block ≡ take start new → part.start ≡ start → start ≤ part.end → part.end ≤ length new → part.end ≤ start + most → part_of constants new part ≡ list → IsTape list
      → AreParts constants new most (parts ++ part ∷ []) × (parts_of constants new (parts ++ part ∷ []) ≡ parts_of constants block parts ++ list ∷ [])
  written block new most parts start part list are ends same starts order room few listed tape =
      let stay = parts-stay block most parts are new start same (omega (arith, ends)) (omega (arith, order, room)) in (
        parts-pushed new most parts stay part (omega (arith, starts, ends)) (record {
          order = omega (arith, starts, order);
          within = room;
          few = omega (arith, starts, few);
          tape = subst IsTape (sym listed) tape;
        }),
        map_push (part_of constants new) parts part ∙ ap (λ l. parts_of constants new parts ++ l ∷ []) listed ∙ ap (λ ls. ls ++ list ∷ []) (sym (parts-same block most parts are new start same (omega (arith, ends)))),
      )

  -- a block that is made longer
  module _ (block made : List PackedStep) (start : ℕ) (within : start ≤ length block) (same : take (length block) made ≡ block) where
    pub longer-same : take start block ≡ take start made
    longer-same = ap (take start) (sym same) ∙ take-take start (length block) made within

    pub longer-le : length block ≤ length made
    longer-le = omega (arith, length-take (length block) made, ap length same)

    -- its parts are the same
    pub longer-part : (part : Part) → part.start ≤ part.end → part.end ≤ start → part_of constants made part ≡ part_of constants block part
    longer-part part order before = sym (part-same block made start part longer-same order before)

    pub longer-is_part : (most : ℕ) (part : Part) → part.end ≤ start → IsPart constants block most part → IsPart constants made most part
    longer-is_part most part before is = record {
      order = is.order;
      within = omega (arith, is.within, longer-le);
      few = is.few;
      tape = subst IsTape (sym (longer-part part is.order before)) is.tape;
    }
