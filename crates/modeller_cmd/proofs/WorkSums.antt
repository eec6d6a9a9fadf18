-- The work of parts, one after the other.
use Rattle.std.proofs.Common.{◌≡◌, ◌+◌, List, [], ◌∷◌, ◌++◌, refl, sym, ap, ◌∙◌, append_assoc, arith}
use Rattle.std.specs.Prelude.{All}
use Rattle.model_frames.specs.Work.{Work, both, no_work}
use Rattle.fixed_ops.specs.Counts.{Counts, no_counts, plus}
use Rattle.model_frames.specs.Frames.{Part}
use Rattle.modeller_cmd.specs.Parts.{bytes_of_parts, work_of_parts}
use Rattle.fixed_ops.proofs.Lists.{all_right}

-- the bytes of some parts and of others
pub bytes-append : (ps qs : List Part) → bytes_of_parts (ps ++ qs) ≡ bytes_of_parts ps ++ bytes_of_parts qs
bytes-append [] qs = refl
bytes-append (p ∷ ps) qs =
    ap (λ bytes. p.bytes ++ bytes) (bytes-append ps qs) ∙ sym (append_assoc p.bytes (bytes_of_parts ps) (bytes_of_parts qs))

-- no counts and some are those, on either side
none-plus : (a : Counts) → plus no_counts a ≡ a
none-plus a =
    let p : 0 + a.points ≡ a.points = omega arith in
    let s : 0 + a.spans ≡ a.spans = omega arith in
    let c : 0 + a.corners ≡ a.corners = omega arith in
    λ k. record { points = p k; spans = s k; corners = c k }

plus-none : (a : Counts) → plus a no_counts ≡ a
plus-none a =
    let p : a.points + 0 ≡ a.points = omega arith in
    let s : a.spans + 0 ≡ a.spans = omega arith in
    let c : a.corners + 0 ≡ a.corners = omega arith in
    λ k. record { points = p k; spans = s k; corners = c k }

plus-plus : (a b c : Counts) → plus (plus a b) c ≡ plus a (plus b c)
plus-plus a b c =
    let p : a.points + b.points + c.points ≡ a.points + (b.points + c.points) = omega arith in
    let s : a.spans + b.spans + c.spans ≡ a.spans + (b.spans + c.spans) = omega arith in
    let n : a.corners + b.corners + c.corners ≡ a.corners + (b.corners + c.corners) = omega arith in
    λ k. record { points = p k; spans = s k; corners = n k }

-- so it is of work
none-both : (work : Work) → both no_work work ≡ work
none-both work =
    let n : 0 + work.plain ≡ work.plain = omega arith in
    λ k. record { least = none-plus work.least k; most = none-plus work.most k; bound = none-plus work.bound k; plain = n k }

pub both-none : (work : Work) → both work no_work ≡ work
both-none work =
    let n : work.plain + 0 ≡ work.plain = omega arith in
    λ k. record { least = plus-none work.least k; most = plus-none work.most k; bound = plus-none work.bound k; plain = n k }

both-both : (a b c : Work) → both (both a b) c ≡ both a (both b c)
both-both a b c =
    let n : a.plain + b.plain + c.plain ≡ a.plain + (b.plain + c.plain) = omega arith in
    λ k. record {
      least = plus-plus a.least b.least c.least k;
      most = plus-plus a.most b.most c.most k;
      bound = plus-plus a.bound b.bound c.bound k;
      plain = n k;
    }

-- the work of some parts and of others
pub work-append : (ps qs : List Part) → work_of_parts (ps ++ qs) ≡ both (work_of_parts ps) (work_of_parts qs)
work-append [] qs = sym (none-both (work_of_parts qs))
work-append (p ∷ ps) qs =
    ap (both p.work) (work-append ps qs) ∙ sym (both-both p.work (work_of_parts ps) (work_of_parts qs))

pub All-between : {X : Type 0} (P : X → Type 0) (xs : List X) (x : X) (ys : List X) → All P (xs ++ x ∷ ys) → P x
All-between P xs x ys all = all_right P xs (x ∷ ys) all 0 x (omega arith)
