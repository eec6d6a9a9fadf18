-- A name that is known has its number; a new one takes that of a clause that was taken out, or a new number.
use Rattle.solid_model.proofs.table.Table.number_for.Goals as goal
use Rattle.std.specs.Str.{bytes_eq}
use Rattle.std.specs.List.{list_any, position_or_len}
use Rattle.std.proofs.lemmas.Grind.{common_steps}
use Rattle.std.proofs.Common.{[], ap, arith, false, length, refl, ◌++◌, ◌<◌, ◌∙◌, ◌∷◌, ◌≡◌}
use Rattle.solid_model.specs.Tables.{clauses_in, clauses_of}
use Rattle.solid_model.proofs.Rewrites.{unpushed}
use Rattle.solid_model.proofs.PushLemmas.{place-nowhere}
use Rattle.solid_model.proofs.Lookups.{has-stored}
use Rattle.solid_model.proofs.KeptLemmas.{kept-grown, named-anew}
use Rattle.solid_model.proofs.Growth.{clauses-grown}

pub returns-then-not-is_new-clause-named : goal.returns-then-not-is_new-clause-named
returns-then-not-is_new-clause-named c =
    let stored = c.in-Ok.ensures.stored in
    has-stored c.insert_full.new.self.keys c.args.name.now c.in-Ok.last c.in_ok-key.key stored.0 c.in_ok-key.ensures stored.1 stored.2

pub invariant_of-self-then-self-len : goal.invariant_of-self-then-self-len
invariant_of-self-then-self-len c =
    let key = c.in_ok-key.key in
    let names = c.self.inside.names.keys in
    let none : list_any (λ k. bytes_eq key k) names ≡ false = grind (arith, common_steps) in
    let keys : c.insert_full.new.self.keys ≡ names ++ key ∷ [] = grind (arith, common_steps) in
    let anew = named-anew _ _ _ _ _ _ c.self.invariant key c.insert_full.new.self.keys c.swap_remove_index.new.self.keys c.index.result.now
    c.swap_remove_index.result none keys (grind (arith, common_steps)) c.index.ensures c.swap_remove_index.ensures.key c.swap_remove_index.ensures.keys in
    anew.kept

pub returns-then-self-len-clause-named : goal.returns-then-self-len-clause-named
returns-then-self-len-clause-named c =
    let key = c.in_ok-key.key in
    let names = c.self.inside.names.keys in
    let none : list_any (λ k. bytes_eq key k) names ≡ false = grind (arith, common_steps) in
    let keys : c.insert_full.new.self.keys ≡ names ++ key ∷ [] = grind (arith, common_steps) in
    let anew = named-anew _ _ _ _ _ _ c.self.invariant key c.insert_full.new.self.keys c.swap_remove_index.new.self.keys c.index.result.now
    c.swap_remove_index.result none keys (grind (arith, common_steps)) c.index.ensures c.swap_remove_index.ensures.key c.swap_remove_index.ensures.keys in
    rw (← c.in_ok-key.ensures) anew.named

pub returns-then-self-len-clause-clauses : goal.returns-then-self-len-clause-clauses
returns-then-self-len-clause-clauses c =
    let key = c.in_ok-key.key in
    let names = c.self.inside.names.keys in
    let none : list_any (λ k. bytes_eq key k) names ≡ false = grind (arith, common_steps) in
    let keys : c.insert_full.new.self.keys ≡ names ++ key ∷ [] = grind (arith, common_steps) in
    let anew = named-anew _ _ _ _ _ _ c.self.invariant key c.insert_full.new.self.keys c.swap_remove_index.new.self.keys c.index.result.now
    c.swap_remove_index.result none keys (grind (arith, common_steps)) c.index.ensures c.swap_remove_index.ensures.key c.swap_remove_index.ensures.keys in
    anew.clauses ∙ ap clauses_in c.self.view_is

pub invariant_of-self-in-Err : goal.invariant_of-self-in-Err
invariant_of-self-in-Err c =
    let key = c.in_ok-key.key in
    let names = c.self.inside.names.keys in
    let none : list_any (λ k. bytes_eq key k) names ≡ false = grind (arith, common_steps) in
    let keys : c.insert_full.new.self.keys ≡ names ++ key ∷ [] = grind (arith, common_steps) in
    let last : c.in-Ok.last ≡ position_or_len (λ k. bytes_eq key k) names = grind (arith, common_steps) in
    let back = unpushed names key c.insert_full.new.self.keys c.swap_remove_index-in-Err.new.self.keys c.in-Ok.last c.swap_remove_index-in-Err.result keys
    (last ∙ place-nowhere (λ k. bytes_eq key k) names none) c.swap_remove_index-in-Err.ensures.key c.swap_remove_index-in-Err.ensures.keys in
    let same = c.in-Err.ensures.err in
    rw (same.0, same.1, same.2, same.3, back) c.self.invariant

pub returns-in-Err-clause-clauses : goal.returns-in-Err-clause-clauses
returns-in-Err-clause-clauses c =
    let key = c.in_ok-key.key in
    let names = c.self.inside.names.keys in
    let none : list_any (λ k. bytes_eq key k) names ≡ false = grind (arith, common_steps) in
    let keys : c.insert_full.new.self.keys ≡ names ++ key ∷ [] = grind (arith, common_steps) in
    let last : c.in-Ok.last ≡ position_or_len (λ k. bytes_eq key k) names = grind (arith, common_steps) in
    let back = unpushed names key c.insert_full.new.self.keys c.swap_remove_index-in-Err.new.self.keys c.in-Ok.last c.swap_remove_index-in-Err.result keys
    (last ∙ place-nowhere (λ k. bytes_eq key k) names none) c.swap_remove_index-in-Err.ensures.key c.swap_remove_index-in-Err.ensures.keys in
    let same = c.in-Err.ensures.err in
    let is : clauses_of (record { numbers = c.grow.new.numbers.items; places = c.grow.new.places.items }) c.self.inside.count c.grow.new.rows.items c.swap_remove_index-in-Err.new.self.keys
    ≡ clauses_in (record { order = record { numbers = c.self.inside.numbers.items; places = c.self.inside.places.items }; count = c.self.inside.count; rows = c.self.inside.rows.items; names = names }) = rw (same.0, same.1, same.2, back) refl in
    is ∙ ap clauses_in c.self.view_is

pub invariant_of-self-in-Ok-grow : goal.invariant_of-self-in-Ok-grow
invariant_of-self-in-Ok-grow c =
    let key = c.in_ok-key.key in
    let names = c.self.inside.names.keys in
    let none : list_any (λ k. bytes_eq key k) names ≡ false = grind (arith, common_steps) in
    let keys : c.insert_full.new.self.keys ≡ names ++ key ∷ [] = grind (arith, common_steps) in
    let room : length c.self.inside.numbers.items < 65535 = grind (arith, common_steps) in
    let more = c.in-Ok-grow.ensures in
    rw (more.numbers, more.places, more.rows, more.uses, keys) (kept-grown _ _ _ _ _ _ c.self.invariant key room none)

pub returns-in-Ok-grow-clause-named : goal.returns-in-Ok-grow-clause-named
returns-in-Ok-grow-clause-named c =
    let stored = c.in-Ok.ensures.stored in
    has-stored c.insert_full.new.self.keys c.args.name.now c.in-Ok.last c.in_ok-key.key stored.0 c.in_ok-key.ensures stored.1 stored.2

pub returns-in-Ok-grow-clause-clauses : goal.returns-in-Ok-grow-clause-clauses
returns-in-Ok-grow-clause-clauses c =
    let key = c.in_ok-key.key in
    let names = c.self.inside.names.keys in
    let none : list_any (λ k. bytes_eq key k) names ≡ false = grind (arith, common_steps) in
    let keys : c.insert_full.new.self.keys ≡ names ++ key ∷ [] = grind (arith, common_steps) in
    let room : length c.self.inside.numbers.items < 65535 = grind (arith, common_steps) in
    let more = c.in-Ok-grow.ensures in
    let is : clauses_of (record { numbers = c.grow.new.numbers.items; places = c.grow.new.places.items }) c.self.inside.count c.grow.new.rows.items c.insert_full.new.self.keys
    ≡ clauses_in (record { order = record { numbers = c.self.inside.numbers.items; places = c.self.inside.places.items }; count = c.self.inside.count; rows = c.self.inside.rows.items; names = names }) = rw (more.numbers, more.places, more.rows, keys) (clauses-grown _ _ _ _ c.self.invariant.table room key none) in
    is ∙ ap clauses_in c.self.view_is
