-- The number is taken out and put in; the places between are noted anew.
use Rattle.std.proofs.Common.{◌≡◌, ℕ, List, ◌++◌, ◌∙◌, length, take, drop, sym, arith}
use Rattle.std.specs.List.{insert, remove}
use Rattle.std.proofs.lemmas.Grind.{common_steps}
use Rattle.solid_model.proofs.MoveLemmas.{distinct-new, move-new, move-nowhere, noted-down, noted-up, places-new}
use Rattle.std.proofs.lemmas.List.{take-append-le, take_all}
use Rattle.solid_model.proofs.numbers.move_number.Goals as goal

written-back : (xs ys : List ℕ) (n : ℕ) → length ys ≡ n → take n (ys ++ drop (length ys) xs) ≡ ys
written-back xs ys n long = take-append-le n ys (drop (length ys) xs) (omega (arith, long)) ∙ take_all n ys (omega (arith, long))

pub note_places-requires-clause-distinct : goal.note_places-requires-clause-distinct
note_places-requires-clause-distinct c =
    let is : c.insert.new.self.items ≡ insert (remove c.args.numbers.now.items c.args.from) c.args.to c.remove-number.result = grind (arith, common_steps) in
    rw c.as_slice-order.ensures.value (distinct-new c.args.numbers.now.items c.args.places.now.items c.args.from c.args.to c.remove-number.result c.requires.are c.requires.from c.requires.to
    c.remove-number.ensures.value c.insert.new.self.items is)

pub note_places-requires-clause-outside : goal.note_places-requires-clause-outside
note_places-requires-clause-outside c =
    let is : c.insert.new.self.items ≡ insert (remove c.args.numbers.now.items c.args.from) c.args.to c.remove-number.result = grind (arith, common_steps) in
    rw (c.as_slice-order.ensures.value, c.as_mut_slice.ensures.value) (noted-down c.args.numbers.now.items c.args.places.now.items c.args.from c.args.to c.remove-number.result c.requires.are c.requires.from c.requires.to
    c.remove-number.ensures.value c.insert.new.self.items is c.if-from-to-2.true)

pub returns-then-from-to-2-clause-are : goal.returns-then-from-to-2-clause-are
returns-then-from-to-2-clause-are c =
    let is : c.insert.new.self.items ≡ insert (remove c.args.numbers.now.items c.args.from) c.args.to c.remove-number.result = grind (arith, common_steps) in
    let long : length c.note_places.new.places ≡ c.args.places.now.len = grind (arith, common_steps) in
    rw (written-back c.args.places.now.items c.note_places.new.places c.args.places.now.len long) (places-new c.args.numbers.now.items c.args.places.now.items c.args.from c.args.to c.remove-number.result c.requires.are c.requires.from c.requires.to
    c.remove-number.ensures.value c.insert.new.self.items is c.note_places.new.places (rw c.as_slice-order.ensures.value at c.note_places.ensures.noted) (rw c.as_slice-order.ensures.value at c.note_places.ensures.length))

pub returns-then-from-to-2-clause-moved : goal.returns-then-from-to-2-clause-moved
returns-then-from-to-2-clause-moved c =
    let is : c.insert.new.self.items ≡ insert (remove c.args.numbers.now.items c.args.from) c.args.to c.remove-number.result = grind (arith, common_steps) in
    move-new c.args.numbers.now.items c.args.places.now.items c.args.from c.args.to c.remove-number.result c.requires.are c.requires.from c.requires.to
    c.remove-number.ensures.value c.insert.new.self.items is

pub note_places-requires-else-from-to-2-clause-distinct : goal.note_places-requires-else-from-to-2-clause-distinct
note_places-requires-else-from-to-2-clause-distinct c =
    let is : c.insert.new.self.items ≡ insert (remove c.args.numbers.now.items c.args.from) c.args.to c.remove-number.result = grind (arith, common_steps) in
    rw c.as_slice-order.ensures.value (distinct-new c.args.numbers.now.items c.args.places.now.items c.args.from c.args.to c.remove-number.result c.requires.are c.requires.from c.requires.to
    c.remove-number.ensures.value c.insert.new.self.items is)

pub note_places-requires-else-from-to-2-clause-outside : goal.note_places-requires-else-from-to-2-clause-outside
note_places-requires-else-from-to-2-clause-outside c =
    let is : c.insert.new.self.items ≡ insert (remove c.args.numbers.now.items c.args.from) c.args.to c.remove-number.result = grind (arith, common_steps) in
    rw (c.as_slice-order.ensures.value, c.as_mut_slice-else-from-to-2.ensures.value) (noted-up c.args.numbers.now.items c.args.places.now.items c.args.from c.args.to c.remove-number.result c.requires.are c.requires.from c.requires.to
    c.remove-number.ensures.value c.insert.new.self.items is c.if-from-to-2.false)

pub returns-else-from-to-2-clause-are : goal.returns-else-from-to-2-clause-are
returns-else-from-to-2-clause-are c =
    let is : c.insert.new.self.items ≡ insert (remove c.args.numbers.now.items c.args.from) c.args.to c.remove-number.result = grind (arith, common_steps) in
    let long : length c.note_places-else-from-to-2.new.places ≡ c.args.places.now.len = grind (arith, common_steps) in
    rw (written-back c.args.places.now.items c.note_places-else-from-to-2.new.places c.args.places.now.len long) (places-new c.args.numbers.now.items c.args.places.now.items c.args.from c.args.to c.remove-number.result c.requires.are c.requires.from c.requires.to
    c.remove-number.ensures.value c.insert.new.self.items is c.note_places-else-from-to-2.new.places (rw c.as_slice-order.ensures.value at c.note_places-else-from-to-2.ensures.noted) (rw c.as_slice-order.ensures.value at c.note_places-else-from-to-2.ensures.length))

pub returns-else-from-to-2-clause-moved : goal.returns-else-from-to-2-clause-moved
returns-else-from-to-2-clause-moved c =
    let is : c.insert.new.self.items ≡ insert (remove c.args.numbers.now.items c.args.from) c.args.to c.remove-number.result = grind (arith, common_steps) in
    move-new c.args.numbers.now.items c.args.places.now.items c.args.from c.args.to c.remove-number.result c.requires.are c.requires.from c.requires.to
    c.remove-number.ensures.value c.insert.new.self.items is

pub returns-then-from-to-clause-moved : goal.returns-then-from-to-clause-moved
returns-then-from-to-clause-moved c =
    rw (← c.if-from-to.true) (sym (move-nowhere c.args.numbers.now.items c.args.from c.requires.from))
