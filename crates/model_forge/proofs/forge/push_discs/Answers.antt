-- One disc more.
use Rattle.std.proofs.Common.{◌≡◌, ℕ, ◌+◌, ◌*◌, ◌≤◌, ℤ, ◌++◌, [], cond, ◌==◌, List, length, ap, sym, subst, ◌∙◌, append_assoc, arith}
use Rattle.std.specs.List.{flat_map, range_with_len}
use Rattle.solid_model.specs.declared.clause.Clause.{Clause}
use Rattle.solid_model.specs.Clauses.{AreInOrder}
use Rattle.solid_model.specs.Named.{named_of}
use Rattle.model_forge.specs.declared.disc.Role.{Role}
use Rattle.model_forge.specs.Discs.{centre_of, radius_of, role_of}
use Rattle.model_forge.specs.Forged.{axes, circle, disc_clauses, forged, joining}
use Rattle.model_forge.specs.Placed.{disc_at}
use Rattle.model_forge.specs.Stream.{drawn, state_after}
use Rattle.model_forge.proofs.Counting.{drawn_later, flat_map_range, state_later}
use Rattle.model_forge.proofs.FreshLemmas.{next_disc}
use Rattle.model_forge.proofs.Joining.{EndsWithSolid, HasAxes, disc_axes, disc_few, disc_last, disc_named}
use Rattle.model_forge.proofs.forge.push_discs.Goals as goal

-- what four draws from a state make
from_state : (seed s i : ℕ) (x y radius : ℤ) (role : Role) → s ≡ state_after seed (4 * i)
    → x ≡ centre_of (drawn s 0) → y ≡ centre_of (drawn s 1) → radius ≡ radius_of (drawn s 2) → role ≡ role_of (drawn s 3)
    → circle i x y radius ++ cond (i == 0) [] (joining i role) ≡ disc_clauses seed i
from_state seed s i x y radius role state hx hy hr ho =
    let at : (n : ℕ) → drawn s n ≡ drawn seed (4 * i + n) = λ n. ap (λ t. drawn t n) state ∙ drawn_later seed (4 * i) n in
    let first : drawn s 0 ≡ drawn seed (4 * i) = at 0 ∙ ap (drawn seed) (omega arith) in
    ap (λ v. circle i v y radius ++ cond (i == 0) [] (joining i role)) (hx ∙ ap centre_of first)
    ∙ ap (λ v. circle i (centre_of (drawn seed (4 * i))) v radius ++ cond (i == 0) [] (joining i role)) (hy ∙ ap centre_of (at 1))
    ∙ ap (λ v. circle i (centre_of (drawn seed (4 * i))) (centre_of (drawn seed (4 * i + 1))) v ++ cond (i == 0) [] (joining i role)) (hr ∙ ap radius_of (at 2))
    ∙ ap (λ v. circle i (centre_of (drawn seed (4 * i))) (centre_of (drawn seed (4 * i + 1))) (radius_of (drawn seed (4 * i + 2))) ++ cond (i == 0) [] (joining i v)) (ho ∙ ap role_of (at 3))

-- the model of one disc more
more : (seed i : ℕ) (old new : List Clause) (x y radius : ℤ) (role : Role) → AreInOrder old → HasAxes old → EndsWithSolid old i
    → named_of old ≡ forged seed i → new ≡ old ++ disc_at (length old) i x y radius role
    → circle i x y radius ++ cond (i == 0) [] (joining i role) ≡ disc_clauses seed i
    → named_of new ≡ forged seed (i + 1)
more seed i old new x y radius role ordered two solid so_far is part =
    let before = flat_map (disc_clauses seed) (range_with_len 0 i) in
    ap (λ l. named_of l) is ∙ disc_named old i x y radius role ordered two solid
    ∙ ap (λ l. named_of old ++ l) part ∙ ap (λ l. l ++ disc_clauses seed i) so_far
    ∙ append_assoc axes before (disc_clauses seed i)
    ∙ ap (λ l. axes ++ l) (sym (flat_map_range (disc_clauses seed) i))

pub loop-number-preserved : goal.loop-number-preserved
loop-number-preserved c =
    let old = c.loop-number.builder in
    let i = c.loop-number.number in
    let d = c.drawn-disc.result in
    let so_far = c.loop-number.invariant in
    let e = c.drawn-disc.ensures in
    let is = c.in_ok-push_disc.ensures.clauses in
    let next : 4 * i + 4 ≡ 4 * (i + 1) = omega arith in
    record {
      axes = subst HasAxes (sym is) (disc_axes old (disc_at (length old) i d.x d.y d.radius d.role) so_far.axes);
      named = more c.args.seed i old c.push_disc.new.builder d.x d.y d.radius d.role c.in_ok-push_disc.ensures.in_order so_far.axes so_far.solid so_far.named is
          (from_state c.args.seed c.loop-number.stream.state i d.x d.y d.radius d.role so_far.state e.x e.y e.radius e.role);
      solid = subst (λ l. EndsWithSolid l (i + 1)) (sym is) (disc_last old i d.x d.y d.radius d.role);
      next = next_disc c.push_disc.new.builder 118 i (subst (λ l. length l ≤ 2 + 12 * (i + 1)) (sym is) (disc_few old i d.x d.y d.radius d.role (so_far.next 97 (omega arith)).few))
          (c.in_ok-push_disc.ensures.later 118 (omega arith));
      state = e.state ∙ ap (λ s. state_after s 4) so_far.state ∙ state_later c.args.seed (4 * i) 4 ∙ ap (state_after c.args.seed) next;
    }
