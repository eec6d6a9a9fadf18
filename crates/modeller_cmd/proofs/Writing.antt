-- Parts that are written one after the other, up to what halts that.
use Rattle.std.proofs.Common.{◌≡◌, ◌≢◌, ℕ, List, [], ◌∷◌, ◌++◌, Option, Result, Ok, Err, refl, sym, subst, ◌∙◌, append-nil}
use Rattle.std.specs.Prelude.{IfErr, IsErrAnd}
use Rattle.model_frames.specs.Work.{CountsWithin, CountsWork, PointsRiseAtMost, no_work}
use Rattle.fixed_ops.specs.Counts.{Counts}
use Rattle.modeller_io.specs.Count.{Stands}
use Rattle.modeller_io.specs.Held.{Gains}
use Rattle.model_frames.specs.Frames.{Part}
use Rattle.modeller_cmd.specs.Parts.{bytes_of_parts, work_of_parts}
use Rattle.modeller_cmd.specs.Writing.{FailsToSend, Halted, Written}
use Rattle.modeller_cmd.specs.declared.stop.Stop.{Stop}
use Rattle.modeller_cmd.specs.declared.stop.Stop.TheVariants.{WriteFault, NoMemory}
use Rattle.modeller_cmd.proofs.Gaining.{Extends-none, Gains-then, Grew-gains, Grew-prefix}
use Rattle.modeller_cmd.proofs.WorkSums.{both-none, bytes-append, work-append}
use Rattle.model_frames.proofs.WorkLaws.{frames_add_up_is}

-- nothing was written
pub written-none : {K : Type 0} (held : K → Option (List ℕ)) (faults : K → ℕ) (out : K) (counts : Counts) → Written held faults out out counts counts []
written-none held faults out counts = record {
  gained = Extends-none (held out);
  no_fault = refl;
  counted = frames_add_up_is.none counts;
  at_most = frames_add_up_is.within_none counts no_work;
  plain = frames_add_up_is.plain_none counts 0;
}

-- parts after parts
pub written-then : {K : Type 0} (held : K → Option (List ℕ)) (faults : K → ℕ) (a b c : K) (s t u : Counts) (ps qs : List Part)
    → Written held faults a b s t ps → Written held faults b c t u qs → Written held faults a c s u (ps ++ qs)
written-then held faults a b c s t u ps qs first next =
    let work = sym (work-append ps qs) in
    record {
      gained = subst (Gains held a c) (sym (bytes-append ps qs)) (Gains-then held a b c (bytes_of_parts ps) (bytes_of_parts qs) first.gained next.gained);
      no_fault = next.no_fault ∙ first.no_fault;
      counted = subst (CountsWork s u) work (frames_add_up_is.sum s t u (work_of_parts ps) (work_of_parts qs) first.counted next.counted);
      at_most = subst (CountsWithin s u) work
          (frames_add_up_is.within_sum s t u (work_of_parts ps) (work_of_parts qs) first.at_most next.at_most);
      plain = subst (λ w. PointsRiseAtMost s u w.plain) work
          (frames_add_up_is.plain_sum s t u (work_of_parts ps).plain (work_of_parts qs).plain first.plain next.plain);
    }

-- nothing was written, and work within that of the parts was counted
pub halted-before : {K : Type 0} (held : K → Option (List ℕ)) (faults : K → ℕ) (out : K) (s t : Counts) (parts : List Part) (stop : Stop)
    → stop ≢ WriteFault → CountsWithin s t (work_of_parts parts) → PointsRiseAtMost s t (work_of_parts parts).plain
    → Halted held faults out out s t parts stop
halted-before held faults out s t parts stop other few plain = record {
  failed = λ is. absurd (other is);
  no_fault = λ _. refl;
  at_most = few;
  plain = plain;
  grew = Grew-gains held out out [] (Extends-none (held out));
}

-- nothing was done
pub halted-at-once : {K : Type 0} (held : K → Option (List ℕ)) (faults : K → ℕ) (out : K) (counts : Counts) (parts : List Part) (stop : Stop)
    → stop ≢ WriteFault → Halted held faults out out counts counts parts stop
halted-at-once held faults out counts parts stop other =
    halted-before held faults out counts counts parts stop other (frames_add_up_is.within_none counts (work_of_parts parts)) (frames_add_up_is.plain_none counts (work_of_parts parts).plain)

-- a lack of memory is no fault of a sink
pub memory-other : (stop : Stop) → stop ≡ NoMemory → stop ≢ WriteFault
memory-other stop is fault = cc

-- one part, written whole after its work was counted, and what halts that
module _ {K : Type 0} (held : K → Option (List ℕ)) (faults : K → ℕ) (before after : K) (s t : Counts) (part : Part) (bytes : List ℕ) (is : bytes ≡ part.bytes) where
  one-bytes : bytes ≡ part.bytes ++ []
  one-bytes = is ∙ sym (append-nil part.bytes)

  pub part-written : Gains held before after bytes → Stands faults before after → CountsWork s t part.work
      → CountsWithin s t part.work → PointsRiseAtMost s t part.work.plain → Written held faults before after s t (part ∷ [])
  part-written gained stands done few plain = record {
    gained = subst (Gains held before after) one-bytes gained;
    no_fault = stands;
    counted = subst (CountsWork s t) (sym (both-none part.work)) done;
    at_most = subst (CountsWithin s t) (sym (both-none part.work)) few;
    plain = subst (λ w. PointsRiseAtMost s t w.plain) (sym (both-none part.work)) plain;
  }

  pub part-halted : FailsToSend held faults before after bytes
      → CountsWithin s t part.work → PointsRiseAtMost s t part.work.plain → Halted held faults before after s t (part ∷ []) WriteFault
  part-halted failed few plain = record {
    failed = λ _. subst (FailsToSend held faults before after) one-bytes failed;
    no_fault = λ other. absurd (other refl);
    at_most = subst (CountsWithin s t) (sym (both-none part.work)) few;
    plain = subst (λ w. PointsRiseAtMost s t w.plain) (sym (both-none part.work)) plain;
    grew = Grew-prefix held before after bytes failed.gained;
  }

-- the work of one part that is done
pub part-counted : (s t : Counts) (part : Part) → CountsWork s t part.work → CountsWork s t (work_of_parts (part ∷ []))
part-counted s t part done = subst (CountsWork s t) (sym (both-none part.work)) done

-- memory is refused to a part before it is written
pub part-undrawn : {K : Type 0} (held : K → Option (List ℕ)) (faults : K → ℕ) (out : K) (s t : Counts) (part : Part)
    → CountsWithin s t part.work → PointsRiseAtMost s t part.work.plain → Halted held faults out out s t (part ∷ []) NoMemory
part-undrawn held faults out s t part few plain =
    let w = both-none part.work in
    halted-before held faults out s t (part ∷ []) NoMemory (memory-other NoMemory refl)
    (subst (CountsWithin s t) (sym w) few) (subst (λ v. PointsRiseAtMost s t v.plain) (sym w) plain)

-- an ending of which only one stop is known
pub ends-with : {T : Type 0} (r : Result T Stop) (stop : Stop) (P : Stop → Type 0) → IsErrAnd r (λ e. e ≡ stop) → P stop → IfErr r P
ends-with (Ok x) stop P is p = absurd is
ends-with (Err e) stop P is p = subst P (sym is) p
