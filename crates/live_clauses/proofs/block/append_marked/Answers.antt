-- What is written lies behind the parts, and is one more of them.
use Rattle.std.proofs.Common.{ℤ, ◌≡◌, ℕ, ◌≤◌, ◌+◌, ◌-◌, ◌++◌, ◌∷◌, [], List, length, take, ap, sym, subst, rules, ◌∙◌, arith}
use Rattle.interval_ops.specs.declared.choice.Choice.{Choice}
use Rattle.live_clauses.specs.declared.packed_step.PackedStep.{PackedStep}
use Rattle.live_clauses.specs.declared.part.Part.{Part}
use Rattle.live_clauses.specs.Blocks.{AreParts, IsPart, end_of, part_of, parts_of}
use Rattle.live_clauses.specs.Choices.{AreChoices}
use Rattle.live_clauses.specs.Live.{live_of}
use Rattle.live_clauses.specs.Marks.{AreMarks}
use Rattle.live_clauses.proofs.Keeping.{live_of-tape}
use Rattle.live_clauses.proofs.Parts.{end_of-le, longer-is_part, longer-le, longer-part, longer-same, parts-same, parts-stay, written}
use Rattle.live_clauses.proofs.block.append_marked.Goals as goal

-- a block whose parts end at a place, and that is made longer for the live list of one of them
module _ (constants : List ℤ) (block made : List PackedStep) (most : ℕ) (parts : List Part) (start : ℕ) (part : Part) (choices : List Choice) (are : AreParts constants block most parts) (ends : start ≡ end_of parts)
    (same : take (length block) made ≡ block) (before : part.end ≤ end_of parts) (is : IsPart constants block most part) (choose : AreChoices (part_of constants block part) choices) where
  within : start ≤ length block
  within = omega (arith, ends, end_of-le constants block most parts are)

  made-part : part_of constants made part ≡ part_of constants block part
  made-part = longer-part constants block made start within same part is.order (omega (arith, ends, before))

  made-is_part : IsPart constants made most part
  made-is_part = longer-is_part constants block made start within same most part (omega (arith, ends, before)) is

  made-parts : AreParts constants made most parts
  made-parts = parts-stay constants block most parts are made start (longer-same constants block made start within same) (omega (arith, ends)) (omega (arith, within, longer-le constants block made start within same))

  made-lists : parts_of constants made parts ≡ parts_of constants block parts
  made-lists = sym (parts-same constants block most parts are made start (longer-same constants block made start within same) (omega (arith, ends)))

  -- and the live list is one more part once it is written
  put : (new : List PackedStep) (one : Part) (all : List Part) → all ≡ parts ++ one ∷ [] → one.start ≡ start → start ≤ one.end → one.end ≤ start + (part.end - part.start) → start + (part.end - part.start) ≤ length made
      → length new ≡ length made → take start new ≡ take start made → part_of constants new one ≡ live_of (part_of constants made part) choices
      → AreParts constants new most all × (parts_of constants new all ≡ parts_of constants block parts ++ live_of (part_of constants block part) choices ∷ [])
  put new one all pushed starts order few room long kept listed =
      rw pushed
      (written constants block new most parts start one (live_of (part_of constants block part) choices) are ends (longer-same constants block made start within same ∙ sym kept)
      starts order (omega (arith, room, long, few)) (omega (arith, few, is.few)) (listed ∙ ap (λ s. live_of s choices) made-part) (live_of-tape (part_of constants block part) choices is.tape choose))

pub returns-in_err-make_room-clause-parts : goal.returns-in_err-make_room-clause-parts
returns-in_err-make_room-clause-parts g c =
    made-parts c.args.constants.now c.args.block.now.items c.make_room.new.block.items (length c.args.numbers.now) c.args.parts.now.items c.last_end-start.result c.args.part (g.C.Choices.list c.args.choices) c.requires.parts
    (c.last_end-start.ensures ∙ ap end_of c.deref.ensures.value) c.make_room.ensures.same c.requires.before c.requires.part c.requires.choices

pub returns-in_err-make_room-clause-stays : goal.returns-in_err-make_room-clause-stays
returns-in_err-make_room-clause-stays g c =
    let same = made-lists c.args.constants.now c.args.block.now.items c.make_room.new.block.items (length c.args.numbers.now) c.args.parts.now.items c.last_end-start.result c.args.part (g.C.Choices.list c.args.choices) c.requires.parts
    (c.last_end-start.ensures ∙ ap end_of c.deref.ensures.value) c.make_room.ensures.same c.requires.before c.requires.part c.requires.choices in
    search (rules, same)

pub returns-in_err-reserve-clause-parts : goal.returns-in_err-reserve-clause-parts
returns-in_err-reserve-clause-parts g c =
    subst (AreParts c.args.constants.now c.make_room.new.block.items (length c.args.numbers.now)) (sym c.reserve.ensures.items) (made-parts c.args.constants.now c.args.block.now.items c.make_room.new.block.items (length c.args.numbers.now) c.args.parts.now.items c.last_end-start.result c.args.part (g.C.Choices.list c.args.choices) c.requires.parts
    (c.last_end-start.ensures ∙ ap end_of c.deref.ensures.value) c.make_room.ensures.same c.requires.before c.requires.part c.requires.choices)

pub returns-in_err-reserve-clause-stays : goal.returns-in_err-reserve-clause-stays
returns-in_err-reserve-clause-stays g c =
    let same : parts_of c.args.constants.now c.make_room.new.block.items c.reserve.new.self.items ≡ parts_of c.args.constants.now c.args.block.now.items c.args.parts.now.items =
    ap (parts_of c.args.constants.now c.make_room.new.block.items) c.reserve.ensures.items ∙ made-lists c.args.constants.now c.args.block.now.items c.make_room.new.block.items (length c.args.numbers.now) c.args.parts.now.items c.last_end-start.result c.args.part (g.C.Choices.list c.args.choices) c.requires.parts
    (c.last_end-start.ensures ∙ ap end_of c.deref.ensures.value) c.make_room.ensures.same c.requires.before c.requires.part c.requires.choices in
    search (rules, same)

pub copy_part-live-requires-clause-part : goal.copy_part-live-requires-clause-part
copy_part-live-requires-clause-part g c =
    made-is_part c.args.constants.now c.args.block.now.items c.make_room.new.block.items (length c.args.numbers.now) c.args.parts.now.items c.last_end-start.result c.args.part (g.C.Choices.list c.args.choices) c.requires.parts
    (c.last_end-start.ensures ∙ ap end_of c.deref.ensures.value) c.make_room.ensures.same c.requires.before c.requires.part c.requires.choices

pub copy_part-live-requires-clause-choices : goal.copy_part-live-requires-clause-choices
copy_part-live-requires-clause-choices g c =
    subst (λ s. AreChoices s (g.C.Choices.list c.args.choices)) (sym (made-part c.args.constants.now c.args.block.now.items c.make_room.new.block.items (length c.args.numbers.now) c.args.parts.now.items c.last_end-start.result c.args.part (g.C.Choices.list c.args.choices) c.requires.parts
    (c.last_end-start.ensures ∙ ap end_of c.deref.ensures.value) c.make_room.ensures.same c.requires.before c.requires.part c.requires.choices)) c.requires.choices

pub copy_part-live-requires-clause-marks : goal.copy_part-live-requires-clause-marks
copy_part-live-requires-clause-marks g c =
    subst (λ s. AreMarks c.args.lane s (g.C.Choices.list c.args.choices) c.args.marks.now) (sym (made-part c.args.constants.now c.args.block.now.items c.make_room.new.block.items (length c.args.numbers.now) c.args.parts.now.items c.last_end-start.result c.args.part (g.C.Choices.list c.args.choices) c.requires.parts
    (c.last_end-start.ensures ∙ ap end_of c.deref.ensures.value) c.make_room.ensures.same c.requires.before c.requires.part c.requires.choices)) c.requires.marks

pub copy_part-live-requires-clause-enough : goal.copy_part-live-requires-clause-enough
copy_part-live-requires-clause-enough g c = omega (
  arith,
  c.requires.enough,
  ap length (made-part c.args.constants.now c.args.block.now.items c.make_room.new.block.items (length c.args.numbers.now) c.args.parts.now.items c.last_end-start.result c.args.part (g.C.Choices.list c.args.choices) c.requires.parts
      (c.last_end-start.ensures ∙ ap end_of c.deref.ensures.value) c.make_room.ensures.same c.requires.before c.requires.part c.requires.choices),
)

pub copy_part-live-requires-clause-marked : goal.copy_part-live-requires-clause-marked
copy_part-live-requires-clause-marked g c = omega (
  arith,
  c.requires.marked,
  ap length (made-part c.args.constants.now c.args.block.now.items c.make_room.new.block.items (length c.args.numbers.now) c.args.parts.now.items c.last_end-start.result c.args.part (g.C.Choices.list c.args.choices) c.requires.parts
      (c.last_end-start.ensures ∙ ap end_of c.deref.ensures.value) c.make_room.ensures.same c.requires.before c.requires.part c.requires.choices),
)

-- the live list is one more part
pub returns-clause-parts : goal.returns-clause-parts
returns-clause-parts g c =
    (put c.args.constants.now c.args.block.now.items c.make_room.new.block.items (length c.args.numbers.now) c.args.parts.now.items c.last_end-start.result c.args.part (g.C.Choices.list c.args.choices) c.requires.parts
    (c.last_end-start.ensures ∙ ap end_of c.deref.ensures.value) c.make_room.ensures.same c.requires.before c.requires.part c.requires.choices
    c.copy_part-live.new.block.items c.copy_part-live.result c.push_reserved.new.self.items (c.push_reserved.ensures.items ∙ ap (λ l. l ++ c.copy_part-live.result ∷ []) c.reserve.ensures.items)
    c.copy_part-live.ensures.start c.copy_part-live.ensures.order c.copy_part-live.ensures.few c.in_ok-make_room.ensures.room c.copy_part-live.ensures.long c.copy_part-live.ensures.same c.copy_part-live.ensures.live).0

pub returns-clause-pushed : goal.returns-clause-pushed
returns-clause-pushed g c =
    (put c.args.constants.now c.args.block.now.items c.make_room.new.block.items (length c.args.numbers.now) c.args.parts.now.items c.last_end-start.result c.args.part (g.C.Choices.list c.args.choices) c.requires.parts
    (c.last_end-start.ensures ∙ ap end_of c.deref.ensures.value) c.make_room.ensures.same c.requires.before c.requires.part c.requires.choices
    c.copy_part-live.new.block.items c.copy_part-live.result c.push_reserved.new.self.items (c.push_reserved.ensures.items ∙ ap (λ l. l ++ c.copy_part-live.result ∷ []) c.reserve.ensures.items)
    c.copy_part-live.ensures.start c.copy_part-live.ensures.order c.copy_part-live.ensures.few c.in_ok-make_room.ensures.room c.copy_part-live.ensures.long c.copy_part-live.ensures.same c.copy_part-live.ensures.live).1
