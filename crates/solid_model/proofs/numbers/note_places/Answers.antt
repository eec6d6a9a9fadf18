-- Each place is noted once, in order; the numbers are distinct, so nothing that is noted is overwritten.
use Rattle.std.proofs.Common.{◌≡◌, ◌<◌, Some, slice_get, get_or, length, ◌∙◌, arith}
use Rattle.std.proofs.lemmas.List.{length-set}
use Rattle.std.proofs.lemmas.Option.{slice_get-get_or}
use Rattle.solid_model.proofs.MoveLemmas.{AreNoted-all, AreNotedBut-next}
use Rattle.solid_model.proofs.numbers.note_places.Goals as goal

pub loop-place-init : goal.loop-place-init
loop-place-init c = record { long = c.requires.as_many; noted = c.requires.outside }

pub loop-place-preserved : goal.loop-place-preserved
loop-place-preserved c =
    let numbers = c.args.numbers.now in
    let within : c.loop-place.place < length numbers = omega (arith, c.loop-place-test.true, c.requires.within) in
    let there : slice_get numbers c.loop-place.place ≡ Some (get_or numbers c.loop-place.place 0) = slice_get-get_or numbers c.loop-place.place 0 within in
    record {
      long = length-set c.loop-place.places (get_or numbers c.loop-place.place 0) c.loop-place.place ∙ c.loop-place.invariant.long;
      noted = AreNotedBut-next numbers c.loop-place.places c.loop-place.place c.args.last (get_or numbers c.loop-place.place 0) c.requires.distinct
          c.loop-place.invariant.long c.loop-place.invariant.noted there;
    }

pub returns-clause-noted : goal.returns-clause-noted
returns-clause-noted c =
    AreNoted-all c.args.numbers.now c.loop-place.places c.loop-place.place c.args.last (omega (arith, c.loop-place-test.false)) c.loop-place.invariant.noted
