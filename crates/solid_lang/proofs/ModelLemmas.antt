-- Where there is room for them, the clauses of a solid are a model.
use Rattle.std.proofs.Common.{◌≡◌, ◌+◌, ◌≤◌, ap, sym, ◌∙◌, subst, arith}
use Rattle.std.proofs.lemmas.Option.{slice_get_within}
use Rattle.solid_model.specs.declared.clause.Clause.{Clause}
use Rattle.solid_model.specs.Clauses.{AreInOrder, HaveDistinctNames, IsClauseAt}
use Rattle.solid_lang.specs.Compiled.{all_steps, clause_at, compiled, place_name}
use Rattle.solid_lang.specs.CompiledLaws.{CompiledSolidsAreModels, CompiledTextsAreRead}
use Rattle.solid_lang.specs.Counts.{clause_count}
use Rattle.solid_lang.specs.Placing.{Fits}
use Rattle.solid_lang.specs.RawSolids.{HasRawNumbers}
use Rattle.solid_lang.specs.Solids.{SolidTree}
use Rattle.solid_lang.proofs.FitLemmas.{all_fit}
use Rattle.solid_lang.proofs.MeaningLemmas.{length-compiled}
use Rattle.solid_lang.proofs.NameLemmas.{place_is_name, same_place}
use Rattle.solid_lang.proofs.RawLemmas.{all_raw}
use Rattle.solid_lang.proofs.ValueLemmas.{clause_is_of_step}
use Rattle.clause_reader.proofs.ReadBack.{model_text_is_read}

compiled_in_order : (s : SolidTree) → HasRawNumbers s → clause_count s ≤ 65535 → AreInOrder (compiled s)
compiled_in_order s raw few place clause e =
    let of = clause_is_of_step 0 (all_steps s) place clause e in
    let within = slice_get_within (compiled s) place clause e in
    let long = length-compiled s in
    let same : 0 + place ≡ place = omega arith in
    let name = place_is_name place (omega (arith, within, long, few)) in
    let fits : Fits place of.step = subst (λ j. Fits j of.step) same (all_fit s place of.step of.there) in
    let stands : IsClauseAt place (clause_at place of.step) = record { name = name; raw = all_raw s raw place of.step of.there; fits = fits } in
    subst (IsClauseAt place) (sym (of.is ∙ ap (λ j. clause_at j of.step) same)) stands

compiled_distinct : (s : SolidTree) → clause_count s ≤ 65535 → HaveDistinctNames (compiled s)
compiled_distinct s few i j a b at_i at_j same =
    let of_i = clause_is_of_step 0 (all_steps s) i a at_i in
    let of_j = clause_is_of_step 0 (all_steps s) j b at_j in
    let within_i = slice_get_within (compiled s) i a at_i in
    let within_j = slice_get_within (compiled s) j b at_j in
    let long = length-compiled s in
    let place_i : 0 + i ≡ i = omega arith in
    let place_j : 0 + j ≡ j = omega arith in
    let name_i : a.name ≡ place_name i = ap (λ (c : Clause). c.name) of_i.is ∙ ap place_name place_i in
    let name_j : b.name ≡ place_name j = ap (λ (c : Clause). c.name) of_j.is ∙ ap place_name place_j in
    same_place i j (omega (arith, within_i, long, few)) (omega (arith, within_j, long, few)) (sym name_i ∙ same ∙ name_j)

pub compiled_is_model : CompiledSolidsAreModels
compiled_is_model s raw few =
    let long = length-compiled s in
    record {
      some = omega (arith, long);
      clauses_are = record {
        few = omega (arith, long, few);
        each = compiled_in_order s raw few;
        distinct = compiled_distinct s few;
      };
    }

pub compiled_text_is_read : CompiledTextsAreRead
compiled_text_is_read s raw few = model_text_is_read (compiled s) (compiled_is_model s raw few)
