-- The copied steps are a list that can be evaluated, and where every step is live they are the list.
use Rattle.std.proofs.Common.{◌≡◌, ℤ, List, map, length, sym, ap, subst, ◌∙◌}
use Rattle.std.specs.Rc.{rc_slice_items}
use Rattle.interval_ops.specs.declared.choice.Choice.{Choice}
use Rattle.live_clauses.specs.declared.packed_step.PackedStep.{PackedStep}
use Rattle.live_clauses.specs.declared.step.Step.{Step}
use Rattle.live_clauses.specs.Live.{kept_below, live_of}
use Rattle.live_clauses.specs.Packed.{unpacked}
use Rattle.live_clauses.specs.Steps.{IsTape, tape_value}
use Rattle.std.proofs.lemmas.List.{length-map}
use Rattle.live_clauses.proofs.Kept.{length-live_below}
use Rattle.live_clauses.proofs.Keeping.{live_of-tape, live_of-value}
use Rattle.live_clauses.proofs.Whole.{live_of-whole}
use Rattle.live_clauses.proofs.shortening.prune.Goals as goal

-- a list is kept once with its table, and its live list with a table that is the same
module _ (tape : List Step) (choices : List Choice) (kept live new : List PackedStep) (table read shared : List ℤ) (is : map (unpacked table) kept ≡ tape) (read_is : read ≡ table)
    (shared_is : shared ≡ table) (new_is : new ≡ live) (copied : map (unpacked read) live ≡ live_of (map (unpacked read) kept) choices) where
  copied-live : map (unpacked shared) new ≡ live_of tape choices
  copied-live =
      ap (λ t. map (unpacked t) new) (shared_is ∙ sym read_is) ∙ ap (map (unpacked read)) new_is ∙ copied ∙ ap (λ t. live_of (map (unpacked t) kept) choices) read_is ∙ ap (λ s. live_of s choices) is

pub returns-then-len-steps-clause-live : goal.returns-then-len-steps-clause-live
returns-then-len-steps-clause-live c =
    let tape = c.args.tape.now in
    let choices = c.args.choices.now in
    let kept = c.packed.result.0.now in
    let list : map (unpacked c.as_slice.result.now) kept ≡ tape = ap (λ t. map (unpacked t) kept) c.as_slice.ensures.value ∙ c.packed.ensures.steps in
    let live : map (unpacked c.as_slice.result.now) c.shorten.new.live.items ≡ live_of tape choices = c.in_ok-shorten.ensures ∙ ap (λ s. live_of s choices) list in
    let all : kept_below tape choices (length tape) ≡ length tape =
    sym (length-live_below tape choices (length tape)) ∙ ap length (sym live) ∙ length-map c.shorten.new.live.items (unpacked c.as_slice.result.now) ∙ sym c.shorten.new.live.ok.0 ∙ sym c.len.ensures ∙ c.if-len-steps.true ∙ c.packed.ensures.len in
    rw (live_of-whole tape choices c.packed.ensures.tape c.requires.choices all) c.share.ensures

pub from_packed-requires : goal.from_packed-requires
from_packed-requires c =
    subst IsTape (sym (copied-live c.args.tape.now c.args.choices.now c.packed.result.0.now c.shorten.new.live.items (rc_slice_items c.in_ok-from_vec.field-0) (rc_slice_items c.packed.result.1.now) c.as_slice.result.now
    (rc_slice_items c.in_ok-clone.field-0) c.packed.ensures.steps c.as_slice.ensures.value c.in_ok-clone.ensures.cases c.in_ok-from_vec.ensures c.in_ok-shorten.ensures))
    (live_of-tape c.args.tape.now c.args.choices.now c.packed.ensures.tape c.requires.choices)

pub returns-clause-value : goal.returns-clause-value
returns-clause-value c = λ p right.
    ap (tape_value p) (c.from_packed.ensures ∙ copied-live c.args.tape.now c.args.choices.now c.packed.result.0.now c.shorten.new.live.items (rc_slice_items c.in_ok-from_vec.field-0) (rc_slice_items c.packed.result.1.now) c.as_slice.result.now
    (rc_slice_items c.in_ok-clone.field-0) c.packed.ensures.steps c.as_slice.ensures.value c.in_ok-clone.ensures.cases c.in_ok-from_vec.ensures c.in_ok-shorten.ensures)
    ∙ live_of-value c.args.tape.now c.args.choices.now c.packed.ensures.tape c.requires.choices p right
