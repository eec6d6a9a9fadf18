-- What an outcome says of the status, the bytes and the work of a run.
use Rattle.std.proofs.Common.{◌≡◌, ℕ, ◌≤◌, ◌<◌, Bool, false, List, [], ◌∷◌, length, nat_lt, Option, Some, None, Result, Ok, Err, IsOk, IfSome, append-nil, refl, sym, ap, subst, ◌∙◌, arith}
use Rattle.std.specs.Prelude.{OnSome, true}
use Rattle.std.specs.Io.KnownBytes.{Consumes}
use Rattle.std.proofs.lemmas.Bool.{le-ltb, lt-ltb, ltb-false}
use Rattle.clause_reader.specs.Reading.{text_read}
use Rattle.clause_reader.specs.declared.text_fault.TextFault.{TextFault}
use Rattle.fixed_ops.specs.Counts.{Counts}
use Rattle.modeller_io.specs.Count.{RoseBy}
use Rattle.modeller_io.specs.Took.{LosesAtMost}
use Rattle.ply_check.specs.Reports.{reported}
use Rattle.ply_check.specs.declared.ply_fault.PlyFault.{PlyFault}
use Rattle.solid_lang.specs.Translated.{translated}
use Rattle.solid_lang.specs.declared.solid_fault.SolidFault.{SolidFault}
use Rattle.solid_model.specs.declared.clause.Clause.{Clause}
use Rattle.view_settings.specs.declared.job.Job.{Job}
use Rattle.view_settings.specs.declared.job.Job.TheVariants.{Forge}
use Rattle.modeller_cmd.specs.Asking.{asked, asks_nothing, reads_nothing}
use Rattle.modeller_cmd.specs.Endings.{CountsForSome}
use Rattle.modeller_cmd.specs.Output.{input_limit, made, of_forms, of_mesh, of_model, of_solid, outcome, output_as, output_of, text_part}
use Rattle.model_frames.specs.Frames.{Part}
use Rattle.modeller_cmd.specs.Parts.{work_of_parts}
use Rattle.modeller_cmd.specs.Statuses.{status_of}
use Rattle.modeller_cmd.specs.Stops.{status_at}
use Rattle.modeller_cmd.specs.declared.bad_text.BadText.TheVariants as bad
use Rattle.modeller_cmd.specs.declared.refusal.Refusal.{Refusal}
use Rattle.modeller_cmd.specs.declared.refusal.Refusal.TheVariants as refusal
use Rattle.modeller_cmd.specs.declared.status.Status.TheVariants as status
use Rattle.modeller_cmd.specs.declared.stop.Stop.{Stop}
use Rattle.modeller_cmd.specs.declared.stop.Stop.TheVariants as stop
use Rattle.modeller_cmd.proofs.WorkSums.{both-none}
use Rattle.model_frames.proofs.WorkLaws.{frames_add_up_is}

-- what is made of the input of a job that the words ask for
pub outcome_of : (words : List (List ℕ)) (input : List ℕ) (job : Job) → asked words ≡ Ok job → outcome words input ≡ made job input
outcome_of words input job is = rw is refl

-- an input of which something is made is no longer than is accepted
pub few_of : (input solid : List ℕ) (makes : List Clause → Result (List Part) Refusal) → (output_as (of_solid input solid makes)).status ≡ status.Done → length input ≤ input_limit
few_of input solid makes done = by (nat_lt input_limit (length input)) refl
  where
    by : (long : Bool) → nat_lt input_limit (length input) ≡ long → length input ≤ input_limit
    by true is = let refused = rw is at done in absurd (grind (arith, refused))
    by false is = ltb-false input_limit (length input) is

-- what follows from a fact about what is told
pub some_follows : {X : Type 0} (told : Option X) (P Q : X → Type 0) → ((x : X) → P x → Q x) → IfSome told P → IfSome told Q
some_follows None P Q step p = p
some_follows (Some x) P Q step p = step x p

-- what is so of anything that is told
pub some_all : {X : Type 0} (told : Option X) (Q : X → Type 0) → ((x : X) → Q x) → IfSome told Q
some_all None Q all = tt
some_all (Some x) Q all = all x

-- an outcome that has parts is done
pub ok_done : (outcome : Result (List Part) Refusal) → IsOk outcome → (output_as outcome).status ≡ status.Done
ok_done (Ok parts) p = refl
ok_done (Err why) p = absurd (grind (arith, p))

-- no stop has the status of work that is done
refusal_not_done : (why : Refusal) → status_of why ≡ status.Done → ⊥
refusal_not_done (refusal.Words fault) e = grind (arith, e)
refusal_not_done refusal.TooLong e = grind (arith, e)
refusal_not_done (refusal.Text fault) e = grind (arith, e)
refusal_not_done (refusal.Script fault) e = grind (arith, e)

pub not_done : (why : Stop) → status_at why ≡ status.Done → ⊥
not_done (stop.Refused why) e = refusal_not_done why e
not_done stop.ReadFault e = grind (arith, e)
not_done stop.WriteFault e = grind (arith, e)
not_done stop.NoMemory e = grind (arith, e)

-- what is made of an input whose solid was read
pub solid_read : (input solid : List ℕ) (makes : List Clause → Result (List Part) Refusal) (clauses : List Clause) → length input ≤ input_limit → text_read solid ≡ Ok clauses
    → of_solid input solid makes ≡ makes clauses
solid_read input solid makes clauses few reads =
    let short : nat_lt input_limit (length input) ≡ false = le-ltb input_limit (length input) few in
    rw (short, reads) refl

-- of one whose solid is refused
pub solid_refused : (input solid : List ℕ) (makes : List Clause → Result (List Part) Refusal) (fault : TextFault) → length input ≤ input_limit → text_read solid ≡ Err fault
    → of_solid input solid makes ≡ Err (refusal.Text (bad.Model fault))
solid_refused input solid makes fault few reads =
    let short : nat_lt input_limit (length input) ≡ false = le-ltb input_limit (length input) few in
    rw (short, reads) refl

-- what is made of the text of a solid that is translated, and of one that is refused
pub forms_translated : (input text : List ℕ) → length input ≤ input_limit → translated input ≡ Ok text → of_forms input ≡ Ok (text_part text ∷ [])
forms_translated input text few means =
    let short : nat_lt input_limit (length input) ≡ false = le-ltb input_limit (length input) few in
    rw (short, means) refl

pub forms_refused : (input : List ℕ) (fault : SolidFault) → length input ≤ input_limit → translated input ≡ Err fault → of_forms input ≡ Err (refusal.Text (bad.Solid fault))
forms_refused input fault few refuses =
    let short : nat_lt input_limit (length input) ≡ false = le-ltb input_limit (length input) few in
    rw (short, refuses) refl

-- what is made of a mesh on which is reported, and of one that is refused
pub mesh_reported : (input line : List ℕ) → length input ≤ input_limit → reported input ≡ Ok line → of_mesh input ≡ Ok (text_part line ∷ [])
mesh_reported input line few says =
    let short : nat_lt input_limit (length input) ≡ false = le-ltb input_limit (length input) few in
    rw (short, says) refl

pub mesh_refused : (input : List ℕ) (fault : PlyFault) → length input ≤ input_limit → reported input ≡ Err fault → of_mesh input ≡ Err (refusal.Text (bad.Mesh fault))
mesh_refused input fault few refuses =
    let short : nat_lt input_limit (length input) ≡ false = le-ltb input_limit (length input) few in
    rw (short, refuses) refl

-- and of one that is too long
pub made_long : (job : Job) (input : List ℕ) → reads_nothing job ≡ false → input_limit < length input → made job input ≡ Err refusal.TooLong
made_long (Forge forge) input asks long = cc
made_long job input asks long =
    let longer : nat_lt input_limit (length input) ≡ true = lt-ltb input_limit (length input) long in
    rw longer refl

-- one part that is made of a solid that was read
pub model_read : (input : List ℕ) (part : List Clause → Part) (clauses : List Clause) → length input ≤ input_limit → text_read input ≡ Ok clauses
    → of_model input part ≡ Ok (part clauses ∷ [])
model_read input part clauses few reads = solid_read input input (λ solid. Ok (part solid ∷ [])) clauses few reads

-- the work of what is made where its parts are one
pub work_of_one : (outcome : Result (List Part) Refusal) (part : Part) → outcome ≡ Ok (part ∷ []) → work_of_parts (output_as outcome).parts ≡ part.work
work_of_one outcome part is = ap (λ o. work_of_parts (output_as o).parts) is ∙ both-none part.work

-- the output of words that ask for nothing of the source is the same for every input
pub forged_alike : (words : List (List ℕ)) (a b : List ℕ) → asks_nothing words ≡ true → output_of words a ≡ output_of words b
forged_alike words a b none = by (asked words) refl
  where
    alike : (job : Job) → reads_nothing job ≡ true → made job a ≡ made job b
    alike (Forge forge) none = refl
    alike other none = cc

    by : (r : Result Job Refusal) → asked words ≡ r → output_of words a ≡ output_of words b
    by (Ok job) is =
        let same = alike job (rw is at none) in
        rw is (ap output_as same)
    by (Err why) is = rw is refl

-- what words that are accepted make of an input
pub asked_made : (words : List (List ℕ)) (job : Job) (input : List ℕ) → Ok job ≡ asked words → outcome words input ≡ made job input
asked_made words job input e = rw (sym e) refl

-- a source that was read to its end lost its bytes
lost_all : (before after : Option (List ℕ)) (bytes : List ℕ) → IfSome before (λ rest. bytes ≡ rest) → OnSome before (after ≡ Some []) → Consumes before after bytes
lost_all None after bytes all empty = tt
lost_all (Some xs) None bytes all empty = (cc)
lost_all (Some xs) (Some ys) bytes all empty =
    let none : ys ≡ [] = (cc) in
    rw none (sym all ∙ sym (append-nil bytes))

pub read_whole : {S : Type 0} (rest : S → Option (List ℕ)) (taken : S → ℕ) (before after : S) (most : ℕ) (bytes : List ℕ) (len : ℕ) → len ≡ length bytes → len ≤ most
    → RoseBy taken before after len → IfSome (rest before) (λ rest. bytes ≡ rest) → OnSome (rest before) (rest after ≡ Some []) → LosesAtMost rest taken before after most
read_whole rest taken before after most bytes len many few rose all empty = record {
  bytes = bytes;
  within = omega (arith, many, few);
  lost = lost_all (rest before) (rest after) bytes all empty;
  counted = subst (RoseBy taken before after) many rose;
}

-- a run that does nothing counts no more than some output's work
pub some-none : (words : List (List ℕ)) (counts : Counts) → CountsForSome words counts counts
some-none words counts = record {
  input = [];
  few = omega arith;
  work = frames_add_up_is.within_none counts (work_of_parts (output_of words []).parts);
  plain = frames_add_up_is.plain_none counts (work_of_parts (output_of words []).parts).plain;
}
