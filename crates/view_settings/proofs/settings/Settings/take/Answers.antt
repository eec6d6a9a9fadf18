use Rattle.std.proofs.Common.{arith}
use Rattle.std.proofs.lemmas.List.{length-append}
use Rattle.view_settings.proofs.GivenLaws.{AreSettings-push, settings_few}
use Rattle.view_settings.proofs.settings.Settings.take.Goals as goal

pub push-requires : goal.push-requires
push-requires c =
    let new = rw c.as_slice.ensures.value at c.in_ok-setting.ensures.new in
    let more = AreSettings-push c.self.inside.verb c.self.inside.taken.items c.in_ok-setting.setting c.self.invariant c.in_ok-setting.ensures.setting new in
    let few = settings_few _ more in
    (omega arith, omega (arith, few, length-append c.self.inside.taken.items))

pub invariant_of-self : goal.invariant_of-self
invariant_of-self c =
    let new = rw c.as_slice.ensures.value at c.in_ok-setting.ensures.new in
    rw c.push.ensures.items (AreSettings-push c.self.inside.verb c.self.inside.taken.items c.in_ok-setting.setting c.self.invariant c.in_ok-setting.ensures.setting new)
