-- What is packed are the steps of the clauses, and what is shortened is their root list.
use Rattle.std.proofs.Common.{◌≡◌, ℕ, ℤ, List, length, map, replicate, ap, sym, subst, ◌∙◌}
use Rattle.std.proofs.lemmas.List.{length-map}
use Rattle.std.proofs.lemmas.Option.{same_Some}
use Rattle.interval_ops.specs.declared.choice.Choice.TheVariants.{Both}
use Rattle.solid_model.specs.declared.clause.Clause.{Clause}
use Rattle.live_clauses.specs.declared.packed_step.PackedStep.{PackedStep}
use Rattle.live_clauses.specs.Live.{live_of, root_of}
use Rattle.live_clauses.specs.Packed.{unpacked}
use Rattle.live_clauses.specs.Steps.{IsTape, step_of, steps_of, tape_value}
use Rattle.live_clauses.proofs.RootLaws.{root-made, root_of-tape, root_of-value, steps_of-tape}
use Rattle.live_clauses.proofs.roots.RootRoom.make.Goals as goal

-- as both are read
read : (table from : List ℤ) (kept live : List PackedStep) → from ≡ table → kept ≡ live → map (unpacked from) kept ≡ map (unpacked table) live
read table from kept live table_is live_is = ap (λ t. map (unpacked t) kept) table_is ∙ ap (map (unpacked table)) live_is

-- the live steps are the root list
made : (clauses : List Clause) (table lent from : List ℤ) (kept steps live list : List PackedStep) (n : ℕ) → map (unpacked table) kept ≡ steps_of clauses → lent ≡ table → steps ≡ kept → n ≡ length steps
    → map (unpacked lent) live ≡ live_of (map (unpacked lent) steps) (replicate n Both) → from ≡ table → list ≡ live → map (unpacked from) list ≡ root_of clauses
made clauses table lent from kept steps live list n are lent_is steps_are long short from_is list_is =
    read table from list live from_is list_is ∙ root-made clauses table kept live are (rw (sym lent_is) (rw (sym steps_are) (rw (sym long) short)))

pub shorten-requires-clause-tape : goal.shorten-requires-clause-tape
shorten-requires-clause-tape c =
    subst IsTape (sym (read _ _ _ _ c.deref-2.ensures.value c.deref.ensures.value ∙ c.in_ok-pack_clauses.ensures.steps))
    (steps_of-tape c.args.model.now c.in_ok-pack_clauses.ensures.model)

pub from_packed-root-requires : goal.from_packed-root-requires
from_packed-root-requires c =
    subst IsTape (sym (made c.args.model.now _ _ _ _ _ _ _ _ c.in_ok-pack_clauses.ensures.steps c.deref-2.ensures.value c.deref.ensures.value (c.len.ensures ∙ sym c.deref.ensures.len)
    c.in_ok-shorten.ensures c.deref-4.ensures.value c.deref-3.ensures.value)) (root_of-tape c.args.model.now c.in_ok-pack_clauses.ensures.model)

pub returns-clause-live : goal.returns-clause-live
returns-clause-live c =
    c.in_ok-tape.ensures ∙ c.from_packed-root.ensures
    ∙ made c.args.model.now _ _ _ _ _ _ _ _ c.in_ok-pack_clauses.ensures.steps c.deref-2.ensures.value c.deref.ensures.value (c.len.ensures ∙ sym c.deref.ensures.len)
    c.in_ok-shorten.ensures c.deref-4.ensures.value c.deref-3.ensures.value

pub returns-clause-value : goal.returns-clause-value
returns-clause-value c = λ p. ap (tape_value p) (returns-clause-live c) ∙ root_of-value p c.args.model.now c.in_ok-pack_clauses.ensures.model

pub invariant_of-self-2 : goal.invariant_of-self-2
invariant_of-self-2 c = λ root is.
    let clauses = c.args.model.now in
    let steps = c.in_ok-pack_clauses.ensures.steps in
    record {
      tape = subst IsTape (sym steps) (steps_of-tape clauses c.in_ok-pack_clauses.ensures.model);
      live = sym (same_Some _ _ is) ∙ c.in_ok-share.ensures ∙ returns-clause-live c
          ∙ ap (λ n. live_of (steps_of clauses) (replicate n Both)) (sym (length-map clauses step_of)) ∙ ap (λ s. live_of s (replicate (length s) Both)) (sym steps);
    }
