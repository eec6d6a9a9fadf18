-- What waits while commands are played, and which command a fault of the sink halts.
use Rattle.std.proofs.Common.{◌≡◌, ◌⊎◌, ℕ, ◌+◌, ◌-◌, ◌<◌, ◌≤◌, List, [], ◌∷◌, ◌++◌, length, take, drop, Option, inl, inr, Result, Ok, Err, refl, sym, ap, subst, ◌∙◌, append_assoc, append-nil, length-append, arith}
use Rattle.std.specs.Prelude.{IfErr, OnOk, ⊤}
use Rattle.std.proofs.Math.Seq.{drop-append-add, take-append-add, take-append_seam}
use Rattle.std.proofs.lemmas.Bool.{cases_lt}
use Rattle.std.proofs.lemmas.List.{take-append-le}
use Rattle.edit_script.specs.declared.command.Command.{Command}
use Rattle.edit_session.specs.Sessions.{State}
use Rattle.fixed_ops.specs.Counts.{Counts}
use Rattle.model_frames.specs.Frames.{Part}
use Rattle.model_frames.specs.Work.{CountsWithin, CountsWork, PointsRiseAtMost, both, no_work}
use Rattle.modeller_io.specs.Count.{Stands}
use Rattle.modeller_io.specs.Held.{Gains, GainsProperPrefix}
use Rattle.modeller_cmd.specs.Endings.{IsHalt}
use Rattle.modeller_cmd.specs.Halting.{HaltsAt, HaltsIn, MayRunOut}
use Rattle.modeller_cmd.specs.Parts.{bytes_of_parts, work_of_parts}
use Rattle.modeller_cmd.specs.Pending.{HaltsPlay, IsPlayed, WaitsOrSent}
use Rattle.modeller_cmd.specs.Replays.{parts_at, replayed, standing, state_after}
use Rattle.modeller_cmd.specs.Writing.{FailsToSend, Halted, Worked, Written}
use Rattle.modeller_cmd.specs.declared.stop.Stop.{Stop}
use Rattle.modeller_cmd.specs.declared.stop.Stop.TheVariants as stop
use Rattle.modeller_cmd.proofs.Gaining.{Extends-none, Gains-then, Grew-gains, RoseBy-after}
use Rattle.modeller_cmd.proofs.ReplayLaws.{replayed-append, replayed-between, replayed-more, replayed-none, standing-append, standing-more, standing-none}
use Rattle.modeller_cmd.proofs.WorkSums.{both-none, bytes-append, work-append}
use Rattle.modeller_cmd.proofs.Writing.{written-none, written-then}
use Rattle.model_frames.proofs.WorkLaws.{frames_add_up_is}

-- each of these commands takes no work
abbrev pub Idle : State → List Command → Type 0
Idle state [] = ⊤
Idle state (command ∷ commands) =
    (work_of_parts (parts_at state command) ≡ no_work) × Idle (state_after state command) commands

pub idle-more : (state : State) (xs : List Command) (x : Command) → Idle state xs → work_of_parts (parts_at (standing state xs) x) ≡ no_work
    → Idle state (xs ++ x ∷ [])
unfolding standing
idle-more state [] x idle none = (none, tt)
idle-more state (y ∷ xs) x idle none = (idle.0, idle-more (state_after state y) xs x idle.1 none)

both-idle : (ps qs : List Part) → work_of_parts ps ≡ no_work → work_of_parts qs ≡ no_work → work_of_parts (ps ++ qs) ≡ no_work
both-idle ps qs first next =
    work-append ps qs ∙ ap (λ work. both work (work_of_parts qs)) first ∙ ap (both no_work) next ∙ both-none no_work

pub idle-work : (state : State) (xs : List Command) → Idle state xs → work_of_parts (replayed state xs) ≡ no_work
unfolding replayed
idle-work state [] idle = refl
idle-work state (x ∷ xs) idle =
    both-idle (parts_at state x) (replayed (state_after state x) xs) idle.0 (idle-work (state_after state x) xs idle.1)

-- and behind other work they leave that as it is
idle-behind : (ps qs : List Part) → work_of_parts qs ≡ no_work → work_of_parts (ps ++ qs) ≡ work_of_parts ps
idle-behind ps qs none = work-append ps qs ∙ ap (both (work_of_parts ps)) none ∙ both-none (work_of_parts ps)

-- The command in whose bytes so many of those of idle commands end, of which some are left: neither it nor those
-- before it take work.
pub record Place (state : State) (commands : List Command) (count : ℕ) : Type 0 where
  pub earlier : List Command
  pub command : Command
  pub later : List Command
  pub split : commands ≡ earlier ++ command ∷ later
  pub over : ℕ
  pub within : over < length (bytes_of_parts (parts_at (standing state earlier) command))
  pub front : take count (bytes_of_parts (replayed state commands))
      ≡ bytes_of_parts (replayed state earlier) ++ take over (bytes_of_parts (parts_at (standing state earlier) command))
  pub before : Idle state earlier
  pub none : work_of_parts (parts_at (standing state earlier) command) ≡ no_work

-- the place among the commands behind one, of which all bytes are passed
place-behind : (state : State) (x : Command) (xs : List Command) (count : ℕ) → work_of_parts (parts_at state x) ≡ no_work
    → Place (state_after state x) xs count → Place state (x ∷ xs) (length (bytes_of_parts (parts_at state x)) + count)
unfolding replayed standing
place-behind state x xs count none place =
    let bytes = bytes_of_parts (parts_at state x) in
    record {
      earlier = x ∷ place.earlier;
      command = place.command;
      later = place.later;
      split = ap (λ commands. x ∷ commands) place.split;
      over = place.over;
      within = place.within;
      front = ap (take (length bytes + count)) (bytes-append (parts_at state x) (replayed (state_after state x) xs))
          ∙ take-append-add bytes (bytes_of_parts (replayed (state_after state x) xs)) count
          ∙ ap (λ front. bytes ++ front) place.front
          ∙ sym (append_assoc bytes (bytes_of_parts (replayed (state_after state x) place.earlier)) (take place.over (bytes_of_parts (parts_at (standing (state_after state x) place.earlier) place.command))))
          ∙ ap (λ front. front ++ take place.over (bytes_of_parts (parts_at (standing (state_after state x) place.earlier) place.command))) (sym (bytes-append (parts_at state x) (replayed (state_after state x) place.earlier)));
      before = (none, place.before);
      none = place.none;
    }

-- the place in the first command
place-here : (state : State) (x : Command) (xs : List Command) (count : ℕ) → work_of_parts (parts_at state x) ≡ no_work
    → count < length (bytes_of_parts (parts_at state x)) → Place state (x ∷ xs) count
unfolding replayed standing
place-here state x xs count none within = record {
  earlier = [];
  command = x;
  later = xs;
  split = refl;
  over = count;
  within = within;
  front = ap (take count) (bytes-append (parts_at state x) (replayed (state_after state x) xs))
      ∙ take-append-le count (bytes_of_parts (parts_at state x)) (bytes_of_parts (replayed (state_after state x) xs)) (omega (arith, within));
  before = tt;
  none = none;
}

-- some bytes of idle commands, but not all, end in one of these
pub placed : (state : State) (xs : List Command) (count : ℕ) → Idle state xs → count < length (bytes_of_parts (replayed state xs)) → Place state xs count
unfolding replayed
placed state [] count idle within = absurd (omega (arith, within))
placed state (x ∷ xs) count idle within =
    by (λ n. placed (state_after state x) xs n idle.1) (cases_lt count (length (bytes_of_parts (parts_at state x))))
  where
    both-long : length (bytes_of_parts (parts_at state x ++ replayed (state_after state x) xs)) ≡ length (bytes_of_parts (parts_at state x)) + length (bytes_of_parts (replayed (state_after state x) xs))
    both-long = ap length (bytes-append (parts_at state x) (replayed (state_after state x) xs)) ∙ length-append (bytes_of_parts (parts_at state x)) (bytes_of_parts (replayed (state_after state x) xs))

    by : ((n : ℕ) → n < length (bytes_of_parts (replayed (state_after state x) xs)) → Place (state_after state x) xs n)
        → (count < length (bytes_of_parts (parts_at state x))) ⊎ (length (bytes_of_parts (parts_at state x)) ≤ count) → Place state (x ∷ xs) count
    by next (inl here) = place-here state x xs count idle.0 here
    by next (inr past) =
        let n = count - length (bytes_of_parts (parts_at state x)) in
        let left : length (bytes_of_parts (parts_at state x)) + n ≡ count = omega (arith, past) in
        subst (Place state (x ∷ xs)) left (place-behind state x xs n idle.0 (next n (omega (arith, past, within, both-long))))

-- Of some commands the first were replayed and what they write was written, what those behind them write waits, and
-- the others are left.
pub record Passed {K : Type 0} (held : K → Option (List ℕ)) (faults : K → ℕ) (before after : K) (first last : Counts) (opened state : State) (commands left : List Command) (waits : List ℕ) : Type 0 where
  pub sent : List Command
  pub waiting : List Command
  pub parts : commands ≡ (sent ++ waiting) ++ left
  pub stands : state ≡ standing opened (sent ++ waiting)
  pub written : Written held faults before after first last (replayed opened sent)
  pub idle : Idle (standing opened sent) waiting
  pub bytes : waits ≡ bytes_of_parts (replayed (standing opened sent) waiting)

-- bytes behind those that a sink took before
pub halts-behind : {K : Type 0} (held : K → Option (List ℕ)) (faults : K → ℕ) (a b c : K) (s t : Counts) (xs ys : List ℕ) (state : State) (command : Command) (why : Stop)
    → Gains held a b xs → Stands faults a b → HaltsIn held faults b c s t ys state command why → HaltsIn held faults a c s t (xs ++ ys) state command why
halts-behind held faults a b c s t xs ys state command stop.WriteFault gained stands halts = record {
  gained = record {
    count = halts.gained.count;
    within = halts.gained.within;
    gained = subst (Gains held a c) (sym (append_assoc xs ys (take halts.gained.count (bytes_of_parts (parts_at state command)))))
        (Gains-then held a b c xs (ys ++ take halts.gained.count (bytes_of_parts (parts_at state command))) gained halts.gained.gained);
  };
  fault = RoseBy-after faults a b c 1 stands halts.fault;
  worked = halts.worked;
}
halts-behind held faults a b c s t xs ys state command stop.NoMemory gained stands halts = record {
  may = halts.may;
  gained = Gains-then held a b c xs ys gained halts.gained;
  no_fault = halts.no_fault ∙ stands;
  at_most = halts.at_most;
  plain = halts.plain;
}
halts-behind held faults a b c s t xs ys state command stop.ReadFault gained stands halts = absurd halts
halts-behind held faults a b c s t xs ys state command (stop.Refused why) gained stands halts = absurd halts

-- what halts a command is a fault of the sink, or a lack of memory
halts-is : {K : Type 0} (held : K → Option (List ℕ)) (faults : K → ℕ) (a b : K) (s t : Counts) (bytes : List ℕ) (state : State) (command : Command) (why : Stop)
    → HaltsIn held faults a b s t bytes state command why → IsHalt why
halts-is held faults a b s t bytes state command stop.WriteFault halts = tt
halts-is held faults a b s t bytes state command stop.NoMemory halts = tt
halts-is held faults a b s t bytes state command stop.ReadFault halts = absurd halts
halts-is held faults a b s t bytes state command (stop.Refused why) halts = absurd halts

pub halts-at-is : {K : Type 0} (held : K → Option (List ℕ)) (faults : K → ℕ) (before after : K) (first last : Counts) (state : State) (commands : List Command) (why : Stop)
    → HaltsAt held faults before after first last state commands why → IsHalt why
halts-at-is held faults before after first last state commands why at =
    halts-is held faults before after at.counts last (bytes_of_parts (replayed state (take at.k commands))) (standing state (take at.k commands)) at.command why at.halts

-- the command between some and others is the one of the number of the former
halts-between : {K : Type 0} (held : K → Option (List ℕ)) (faults : K → ℕ) (before after : K) (first counts last : Counts) (state : State) (commands earlier later : List Command) (command : Command) (why : Stop)
    → commands ≡ earlier ++ command ∷ later → Worked first counts (work_of_parts (replayed state earlier))
    → HaltsIn held faults before after counts last (bytes_of_parts (replayed state earlier)) (standing state earlier) command why
    → HaltsAt held faults before after first last state commands why
halts-between held faults before after first counts last state commands earlier later command why is worked halts =
    let k = length earlier in
    let start : earlier ≡ take k commands = sym (ap (take k) is ∙ take-append_seam earlier (command ∷ later)) in
    let rest : later ≡ drop (k + 1) commands = sym (ap (drop (k + 1)) is ∙ drop-append-add earlier (command ∷ later) 1) in
    record {
      k = k;
      command = command;
      kth = is ∙ ap (λ xs. xs ++ command ∷ later) start ∙ ap (λ xs. take k commands ++ command ∷ xs) rest;
      counts = counts;
      worked = subst (λ xs. Worked first counts (work_of_parts (replayed state xs))) start worked;
      halts = subst (λ xs. HaltsIn held faults before after counts last (bytes_of_parts (replayed state xs)) (standing state xs) command why) start halts;
    }

module _ {K : Type 0} (held : K → Option (List ℕ)) (faults : K → ℕ) (before : K) (first : Counts) (opened : State) (commands : List Command) where
  -- before the first command
  pub passed-none : Passed held faults before before first first opened opened commands commands []
  passed-none = record {
    sent = [];
    waiting = [];
    parts = refl;
    stands = sym (standing-none opened);
    written = subst (Written held faults before before first first) (sym (replayed-none opened)) (written-none held faults before first);
    idle = tt;
    bytes = sym (ap bytes_of_parts (replayed-none (standing opened [])));
  }

  module _ (after next : K) (last then : Counts) (state : State) (left : List Command) (waited : List ℕ) (so_far : Passed held faults before after first last opened state commands left waited) where
    abbrev shown : State
    shown = standing opened so_far.sent

    idle-written : (a b : K) → Gains held a b (bytes_of_parts (replayed shown so_far.waiting)) → Stands faults a b → Written held faults a b last last (replayed shown so_far.waiting)
    idle-written a b gained stands = record {
      gained = gained;
      no_fault = stands;
      counted = subst (CountsWork last last) (sym (idle-work shown so_far.waiting so_far.idle)) (frames_add_up_is.none last);
      at_most = frames_add_up_is.within_none last (work_of_parts (replayed shown so_far.waiting));
      plain = frames_add_up_is.plain_none last (work_of_parts (replayed shown so_far.waiting)).plain;
    }

    -- what waited is written, and with it all that the commands so far write
    pub all-written : Gains held after next waited → Stands faults after next → Written held faults before next first last (replayed opened (so_far.sent ++ so_far.waiting))
    all-written gained stands =
        subst (Written held faults before next first last) (sym (replayed-append opened so_far.sent so_far.waiting))
        (written-then held faults before after next first last last (replayed opened so_far.sent) (replayed shown so_far.waiting) so_far.written
        (idle-written after next (subst (Gains held after next) so_far.bytes gained) stands))

    -- and where nothing waits they are written already
    sent-still : waited ≡ [] → Written held faults before after first last (replayed opened (so_far.sent ++ so_far.waiting))
    sent-still none =
        let parts = replayed shown so_far.waiting in
        subst (Written held faults before after first last) (sym (replayed-append opened so_far.sent so_far.waiting))
        (written-then held faults before after after first last last (replayed opened so_far.sent) parts so_far.written
        (idle-written after after (subst (Gains held after after) (sym none ∙ so_far.bytes) (Extends-none (held after))) refl))

    -- the way is free for the next command
    pub passed-sent : (waits : List ℕ) → WaitsOrSent held faults after next waited waits → Passed held faults before next first last opened state commands left waits
    passed-sent waits (inl same) =
        subst (λ k. Passed held faults before k first last opened state commands left waits) (sym same.0)
        (subst (Passed held faults before after first last opened state commands left) (sym same.1) so_far)
    passed-sent waits (inr gone) =
        let all = sym (append-nil (so_far.sent ++ so_far.waiting)) in
        record {
          sent = so_far.sent ++ so_far.waiting;
          waiting = [];
          parts = so_far.parts ∙ ap (λ commands. commands ++ left) all;
          stands = so_far.stands ∙ ap (standing opened) all;
          written = all-written gone.0 gone.1;
          idle = tt;
          bytes = gone.2 ∙ sym (ap bytes_of_parts (replayed-none (standing opened (so_far.sent ++ so_far.waiting))));
        }

    -- all commands were replayed, and nothing waits
    pub passed-all : left ≡ [] → Gains held after next waited → Stands faults after next → Written held faults before next first last (replayed opened commands)
    passed-all none gained stands =
        let all = so_far.parts ∙ ap (λ left. (so_far.sent ++ so_far.waiting) ++ left) none ∙ append-nil (so_far.sent ++ so_far.waiting) in
        subst (λ commands. Written held faults before next first last (replayed opened commands)) (sym all) (all-written gained stands)

    -- something halts a command behind those that were sent and others that take no work
    halts-at : (idle : List Command) (command : Command) (later : List Command) (why : Stop) → commands ≡ (so_far.sent ++ idle) ++ command ∷ later → Idle shown idle
        → HaltsIn held faults after next last then (bytes_of_parts (replayed shown idle)) (standing shown idle) command why
        → HaltsAt held faults before next first then opened commands why
    halts-at idle command later why split none halts =
        let sent = replayed opened so_far.sent in
        let quiet = replayed shown idle in
        let parts : sent ++ quiet ≡ replayed opened (so_far.sent ++ idle) = sym (replayed-append opened so_far.sent idle) in
        let work : work_of_parts sent ≡ work_of_parts (replayed opened (so_far.sent ++ idle)) = sym (idle-behind sent quiet (idle-work shown idle none)) ∙ ap work_of_parts parts in
        let bytes : bytes_of_parts sent ++ bytes_of_parts quiet ≡ bytes_of_parts (replayed opened (so_far.sent ++ idle)) = sym (bytes-append sent quiet) ∙ ap bytes_of_parts parts in
        halts-between held faults before next first last then opened commands (so_far.sent ++ idle) later command why split
        (record {
          counted = subst (CountsWork first last) work so_far.written.counted;
          at_most = subst (CountsWithin first last) work so_far.written.at_most;
          plain = subst (λ w. PointsRiseAtMost first last w.plain) work so_far.written.plain;
        })
        (subst (λ all. HaltsIn held faults before next last then all (standing opened (so_far.sent ++ idle)) command why) bytes
        (subst (λ state. HaltsIn held faults before next last then (bytes_of_parts sent ++ bytes_of_parts quiet) state command why) (sym (standing-append opened so_far.sent idle))
        (halts-behind held faults before after next last then (bytes_of_parts sent) (bytes_of_parts quiet) (standing shown idle) command why so_far.written.gained so_far.written.no_fault halts)))

    -- a fault of the sink when what waited is written halts one of the commands that write it
    pub halts-waiting : FailsToSend held faults after next waited → then ≡ last → HaltsAt held faults before next first then opened commands stop.WriteFault
    halts-waiting fails still =
        let prefix = subst (GainsProperPrefix held after next) so_far.bytes fails.gained in
        let place = placed shown so_far.waiting prefix.count so_far.idle prefix.within in
        let split = so_far.parts
        ∙ ap (λ waiting. (so_far.sent ++ waiting) ++ left) place.split
        ∙ ap (λ commands. commands ++ left) (sym (append_assoc so_far.sent place.earlier (place.command ∷ place.later)))
        ∙ append_assoc (so_far.sent ++ place.earlier) (place.command ∷ place.later) left in
        halts-at place.earlier place.command (place.later ++ left) stop.WriteFault split place.before
        (subst (λ counts. HaltsIn held faults after next last counts (bytes_of_parts (replayed shown place.earlier)) (standing shown place.earlier) place.command stop.WriteFault) (sym still) (record {
          gained = record { count = place.over; within = place.within; gained = subst (Gains held after next) place.front prefix.gained };
          fault = fails.fault;
          worked = record {
            counted = subst (CountsWork last last) (sym place.none) (frames_add_up_is.none last);
            at_most = frames_add_up_is.within_none last (work_of_parts (parts_at (standing shown place.earlier) place.command));
            plain = frames_add_up_is.plain_none last (work_of_parts (parts_at (standing shown place.earlier) place.command)).plain;
          };
        }))

    -- and something may halt the next command
    pub halts-next : (command : Command) (later : List Command) (why : Stop) → left ≡ command ∷ later → HaltsPlay held faults after next last then waited state command why
        → HaltsAt held faults before next first then opened commands why
    halts-next command later why is (inl fails) = subst (HaltsAt held faults before next first then opened commands) (sym fails.0) (halts-waiting fails.2 fails.1)
    halts-next command later why is (inr halts) =
        halts-at so_far.waiting command later why (so_far.parts ∙ ap (λ left. (so_far.sent ++ so_far.waiting) ++ left) is) so_far.idle
        (subst (λ bytes. HaltsIn held faults after next last then bytes (standing shown so_far.waiting) command why) so_far.bytes
        (subst (λ state. HaltsIn held faults after next last then waited state command why) (so_far.stands ∙ standing-append opened so_far.sent so_far.waiting) halts))

    -- the next command is played
    pub passed-played : (new : State) (command : Command) (later : List Command) (waits : List ℕ) → left ≡ command ∷ later → new ≡ state_after state command
        → IsPlayed held faults after next last then waited waits (parts_at state command) → Passed held faults before next first then opened new commands later waits
    passed-played new command later waits is stood (inl joins) =
        let at = so_far.stands ∙ standing-append opened so_far.sent so_far.waiting in
        let all = append_assoc so_far.sent so_far.waiting (command ∷ []) in
        subst (λ k. Passed held faults before k first then opened new commands later waits) (sym joins.sink)
        (subst (λ counts. Passed held faults before after first counts opened new commands later waits) (sym joins.counts) (record {
          sent = so_far.sent;
          waiting = so_far.waiting ++ command ∷ [];
          parts = so_far.parts ∙ ap (λ left. (so_far.sent ++ so_far.waiting) ++ left) is
              ∙ sym (append_assoc (so_far.sent ++ so_far.waiting) (command ∷ []) later) ∙ ap (λ commands. commands ++ later) all;
          stands = stood ∙ ap (λ state. state_after state command) so_far.stands
              ∙ sym (standing-more opened (so_far.sent ++ so_far.waiting) command) ∙ ap (standing opened) all;
          written = so_far.written;
          idle = idle-more shown so_far.waiting command so_far.idle (subst (λ state. work_of_parts (parts_at state command) ≡ no_work) at joins.idle);
          bytes = joins.bytes ∙ ap (λ waited. waited ++ bytes_of_parts (parts_at state command)) so_far.bytes
              ∙ ap (λ state. bytes_of_parts (replayed shown so_far.waiting) ++ bytes_of_parts (parts_at state command)) at
              ∙ sym (bytes-append (replayed shown so_far.waiting) (parts_at (standing shown so_far.waiting) command))
              ∙ ap bytes_of_parts (sym (replayed-more shown so_far.waiting command));
        }))
    passed-played new command later waits is stood (inr goes) =
        let sent = so_far.sent ++ so_far.waiting in
        let all = sym (append-nil (sent ++ command ∷ [])) in
        record {
          sent = sent ++ command ∷ [];
          waiting = [];
          parts = so_far.parts ∙ ap (λ left. sent ++ left) is ∙ sym (append_assoc sent (command ∷ []) later) ∙ ap (λ commands. commands ++ later) all;
          stands = stood ∙ ap (λ state. state_after state command) so_far.stands ∙ sym (standing-more opened sent command) ∙ ap (standing opened) all;
          written = subst (Written held faults before next first then) (sym (replayed-more opened sent command))
              (written-then held faults before after next first last then (replayed opened sent) (parts_at (standing opened sent) command)
              (sent-still goes.unwaited)
              (subst (λ state. Written held faults after next last then (parts_at state command)) so_far.stands goes.written));
          idle = tt;
          bytes = goes.emptied ∙ sym (ap bytes_of_parts (replayed-none (standing opened (sent ++ command ∷ []))));
        }

-- what halts one of some commands halts what they all write
pub halted-at : {K : Type 0} (held : K → Option (List ℕ)) (faults : K → ℕ) (before after : K) (first last : Counts) (state : State) (commands : List Command) (why : Stop)
    → HaltsAt held faults before after first last state commands why → Halted held faults before after first last (replayed state commands) why
halted-at held faults before after first last state commands why at =
    subst (λ parts. Halted held faults before after first last parts why)
    (sym (ap (replayed state) at.kth ∙ replayed-between state earlier at.command later)) (by why at.halts)
  where
    earlier : List Command
    earlier = take at.k commands

    later : List Command
    later = drop (at.k + 1) commands

    ps : List Part
    ps = replayed state earlier

    qs : List Part
    qs = parts_at (standing state earlier) at.command

    rs : List Part
    rs = replayed (state_after (standing state earlier) at.command) later

    three : bytes_of_parts (ps ++ (qs ++ rs)) ≡ bytes_of_parts ps ++ (bytes_of_parts qs ++ bytes_of_parts rs)
    three = bytes-append ps (qs ++ rs) ∙ ap (λ bytes. bytes_of_parts ps ++ bytes) (bytes-append qs rs)

    work : work_of_parts (ps ++ (qs ++ rs)) ≡ both (work_of_parts ps) (both (work_of_parts qs) (work_of_parts rs))
    work = work-append ps (qs ++ rs) ∙ ap (both (work_of_parts ps)) (work-append qs rs)

    few : CountsWithin at.counts last (work_of_parts qs) → CountsWithin first last (work_of_parts (ps ++ (qs ++ rs)))
    few within = subst (CountsWithin first last) (sym work)
        (frames_add_up_is.within_sum first at.counts last (work_of_parts ps) (both (work_of_parts qs) (work_of_parts rs)) at.worked.at_most
        (frames_add_up_is.within_more at.counts last (work_of_parts qs) (work_of_parts rs) within))

    plainly : PointsRiseAtMost at.counts last (work_of_parts qs).plain → PointsRiseAtMost first last (work_of_parts (ps ++ (qs ++ rs))).plain
    plainly within = subst (λ w. PointsRiseAtMost first last w.plain) (sym work)
        (frames_add_up_is.plain_sum first at.counts last (work_of_parts ps).plain (both (work_of_parts qs) (work_of_parts rs)).plain at.worked.plain
        (frames_add_up_is.plain_more at.counts last (work_of_parts qs).plain (work_of_parts rs).plain within))

    by : (halt : Stop) → HaltsIn held faults before after at.counts last (bytes_of_parts ps) (standing state earlier) at.command halt
        → Halted held faults before after first last (ps ++ (qs ++ rs)) halt
    by stop.WriteFault halts = record {
      failed = λ is. record {
        gained = record {
          count = length (bytes_of_parts ps) + halts.gained.count;
          within = omega (arith, halts.gained.within, ap length three ∙ length-append (bytes_of_parts ps) (bytes_of_parts qs ++ bytes_of_parts rs), length-append (bytes_of_parts qs) (bytes_of_parts rs));
          gained = subst (Gains held before after) (sym (ap (take (length (bytes_of_parts ps) + halts.gained.count)) three
              ∙ take-append-add (bytes_of_parts ps) (bytes_of_parts qs ++ bytes_of_parts rs) halts.gained.count
              ∙ ap (λ prefix. bytes_of_parts ps ++ prefix) (take-append-le halts.gained.count (bytes_of_parts qs) (bytes_of_parts rs) (omega (arith, halts.gained.within))))) halts.gained.gained;
        };
        fault = halts.fault;
      };
      no_fault = λ other. absurd (other refl);
      at_most = few halts.worked.at_most;
      plain = plainly halts.worked.plain;
      grew = Grew-gains held before after (bytes_of_parts ps ++ take halts.gained.count (bytes_of_parts qs)) halts.gained.gained;
    }
    by stop.NoMemory halts = record {
      failed = λ is. cc;
      no_fault = λ other. halts.no_fault;
      at_most = few halts.at_most;
      plain = plainly halts.plain;
      grew = Grew-gains held before after (bytes_of_parts ps) halts.gained;
    }
    by stop.ReadFault halts = absurd halts
    by (stop.Refused refusal) halts = absurd halts

-- a command that draws no frame was played, or halted
module _ {K T : Type 0} (held : K → Option (List ℕ)) (faults : K → ℕ) (before after : K) (counts : Counts) (lines : List ℕ) (state : State) (command : Command) (r : Result T Stop)
    (none : work_of_parts (parts_at state command) ≡ no_work) where
  pub quiet-played : (waits : List ℕ) → OnOk r (waits ≡ lines ++ bytes_of_parts (parts_at state command)) → OnOk r (after ≡ before)
      → OnOk r (IsPlayed held faults before after counts counts lines waits (parts_at state command))
  quiet-played waits = by r
    where
      by : (r : Result T Stop) → OnOk r (waits ≡ lines ++ bytes_of_parts (parts_at state command)) → OnOk r (after ≡ before)
          → OnOk r (IsPlayed held faults before after counts counts lines waits (parts_at state command))
      by (Ok x) said unsent = inl (record { sink = unsent; counts = refl; idle = none; bytes = said })
      by (Err why) said unsent = tt

  pub quiet-halts : IfErr r IsHalt → (r ≡ Err stop.WriteFault → FailsToSend held faults before after lines) → (r ≡ Err stop.NoMemory → Gains held before after lines)
      → (r ≡ Err stop.NoMemory → Stands faults before after) → (r ≡ Err stop.NoMemory → MayRunOut state command)
      → IfErr r (HaltsPlay held faults before after counts counts lines state command)
  quiet-halts = by r
    where
      by : (r : Result T Stop) → IfErr r IsHalt → (r ≡ Err stop.WriteFault → FailsToSend held faults before after lines) → (r ≡ Err stop.NoMemory → Gains held before after lines)
          → (r ≡ Err stop.NoMemory → Stands faults before after) → (r ≡ Err stop.NoMemory → MayRunOut state command)
          → IfErr r (HaltsPlay held faults before after counts counts lines state command)
      by (Ok x) halt failed sent stands wants = tt
      by (Err stop.WriteFault) halt failed sent stands wants = inl (refl, refl, failed refl)
      by (Err stop.NoMemory) halt failed sent stands may = inr (record {
        may = may refl;
        gained = sent refl;
        no_fault = stands refl;
        at_most = frames_add_up_is.within_none counts (work_of_parts (parts_at state command));
        plain = frames_add_up_is.plain_none counts (work_of_parts (parts_at state command)).plain;
      })
      by (Err stop.ReadFault) halt failed sent stands wants = absurd halt
      by (Err (stop.Refused refusal)) halt failed sent stands wants = absurd halt

-- and one that draws a frame, before which nothing waits
module _ {K T : Type 0} (held : K → Option (List ℕ)) (faults : K → ℕ) (before after : K) (first last : Counts) (lines : List ℕ) (r : Result T Stop) (none : lines ≡ []) where
  pub frame-played : (parts : List Part) → OnOk r (Written held faults before after first last parts) → OnOk r (IsPlayed held faults before after first last lines lines parts)
  frame-played parts = by r
    where
      by : (r : Result T Stop) → OnOk r (Written held faults before after first last parts) → OnOk r (IsPlayed held faults before after first last lines lines parts)
      by (Ok x) written = inr (record { unwaited = none; emptied = none; written = written })
      by (Err why) written = tt

  pub frame-halts : (state : State) (command : Command) → MayRunOut state command → IfErr r IsHalt
      → IfErr r (Halted held faults before after first last (parts_at state command)) → (r ≡ Err stop.NoMemory → after ≡ before)
      → (r ≡ Err stop.WriteFault → CountsWork first last (work_of_parts (parts_at state command)))
      → IfErr r (HaltsPlay held faults before after first last lines state command)
  frame-halts state command may = by r
    where
      by : (r : Result T Stop) → IfErr r IsHalt → IfErr r (Halted held faults before after first last (parts_at state command)) → (r ≡ Err stop.NoMemory → after ≡ before)
          → (r ≡ Err stop.WriteFault → CountsWork first last (work_of_parts (parts_at state command)))
          → IfErr r (HaltsPlay held faults before after first last lines state command)
      by (Ok x) halt halted unwritten counted = tt
      by (Err stop.WriteFault) halt halted unwritten counted =
          let failed = halted.failed refl in
          inr (record {
            gained = record {
              count = failed.gained.count;
              within = failed.gained.within;
              gained = subst (λ bytes. Gains held before after (bytes ++ take failed.gained.count (bytes_of_parts (parts_at state command)))) (sym none) failed.gained.gained;
            };
            fault = failed.fault;
            worked = record { counted = counted refl; at_most = halted.at_most; plain = halted.plain };
          })
      by (Err stop.NoMemory) halt halted unwritten counted = inr (record {
        may = may;
        gained = subst (Gains held before after) (sym none) (subst (λ k. Gains held before k []) (sym (unwritten refl)) (Extends-none (held before)));
        no_fault = halted.no_fault (λ is. cc);
        at_most = halted.at_most;
        plain = halted.plain;
      })
      by (Err stop.ReadFault) halt halted unwritten counted = absurd halt
      by (Err (stop.Refused refusal)) halt halted unwritten counted = absurd halt

-- what is so of a command is so where it is told
pub at-command : (P : Command → Type 0) (command told : Command) → command ≡ told → P told → P command
at-command P command told is p = subst P (sym is) p
