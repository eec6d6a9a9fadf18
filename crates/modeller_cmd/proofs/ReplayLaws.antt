-- What a list of commands writes, command by command.
use Rattle.std.proofs.Common.{◌≡◌, ◌≢◌, ℕ, List, [], ◌∷◌, ◌++◌, refl, sym, ap, ◌∙◌, append_assoc, append-nil}
use Rattle.std.proofs.lemmas.List.Sums.{fold-append}
use Rattle.clause_reader.specs.declared.text_reason.TextReason.{TextReason}
use Rattle.clause_reader.specs.declared.text_reason.TextReason.TheVariants as text
use Rattle.edit_script.specs.declared.command.Command.{Command}
use Rattle.edit_script.specs.declared.script_reason.ScriptReason.{ScriptReason}
use Rattle.edit_script.specs.declared.script_reason.ScriptReason.TheVariants as script
use Rattle.edit_session.specs.Sessions.{State}
use Rattle.modeller_cmd.specs.Replays.{parts_at, replayed, standing, state_after}
use Rattle.modeller_cmd.specs.Stops.{stop_of_script, stop_of_text}
use Rattle.modeller_cmd.specs.declared.stop.Stop.TheVariants.{WriteFault}

-- before the first command
pub standing-none : (state : State) → standing state [] ≡ state
unfolding standing
standing-none state = refl

pub replayed-none : (state : State) → replayed state [] ≡ []
unfolding replayed
replayed-none state = refl

-- what stands after one more command
pub standing-more : (state : State) (xs : List Command) (x : Command) → standing state (xs ++ x ∷ []) ≡ state_after (standing state xs) x
unfolding standing
standing-more state xs x = fold-append state_after state xs (x ∷ [])

pub standing-append : (state : State) (xs ys : List Command) → standing state (xs ++ ys) ≡ standing (standing state xs) ys
unfolding standing
standing-append state xs ys = fold-append state_after state xs ys

-- what some commands write, and others after them
pub replayed-append : (state : State) (xs ys : List Command) → replayed state (xs ++ ys) ≡ replayed state xs ++ replayed (standing state xs) ys
unfolding replayed standing
replayed-append state [] ys = refl
replayed-append state (x ∷ xs) ys =
    let next = state_after state x in
    ap (λ parts. parts_at state x ++ parts) (replayed-append next xs ys)
    ∙ sym (append_assoc (parts_at state x) (replayed next xs) (replayed (standing next xs) ys))

-- what one command writes between others
pub replayed-between : (state : State) (xs : List Command) (x : Command) (ys : List Command)
    → replayed state (xs ++ x ∷ ys) ≡ replayed state xs ++ (parts_at (standing state xs) x ++ replayed (state_after (standing state xs) x) ys)
unfolding replayed
replayed-between state xs x ys = replayed-append state xs (x ∷ ys)

pub replayed-more : (state : State) (xs : List Command) (x : Command) → replayed state (xs ++ x ∷ []) ≡ replayed state xs ++ parts_at (standing state xs) x
unfolding replayed
replayed-more state xs x =
    replayed-append state xs (x ∷ []) ∙ ap (λ parts. replayed state xs ++ parts) (append-nil (parts_at (standing state xs) x))

-- no text and no script halts a run as a fault of its sink does
pub text-other : (line : ℕ) (reason : TextReason) → stop_of_text (record { line = line; reason = reason }) ≢ WriteFault
text-other line text.NoMemory is = cc
text-other line other is = cc

pub script-other : (line : ℕ) (reason : ScriptReason) → stop_of_script (record { line = line; reason = reason }) ≢ WriteFault
script-other line script.NoMemory is = cc
script-other line other is = cc
