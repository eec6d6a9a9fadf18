use Rattle.view_places.specs.Samples.{place_on}
use Rattle.box_chains.proofs.Placed.{place-more}
use Rattle.box_chains.proofs.places.along.Goals as goal

pub loop-i-preserved : goal.loop-i-preserved
loop-i-preserved c =
    place-more c.loop-i.places.items c.push.new.self.items (place_on c.samples_along-samples.result) c.loop-i.i c.sample.result
    c.loop-i.invariant c.in_ok-push.ensures.items c.sample.ensures
