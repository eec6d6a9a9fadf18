-- The settings taken so far, and the job that they make.
use Rattle.std.specs.Prelude.{ℕ, List, [], ◌∷◌, ◌++◌, map, nat_eq, Result, Ok, Err, if◌then◌else◌}
use Rattle.std.specs.List.{AllByRecursion, IsDistinct}
use Rattle.view_settings.specs.declared.job.Job.{Job}
use Rattle.view_settings.specs.declared.setting.Setting.{Setting}
use Rattle.view_settings.specs.declared.verb.Verb.{Verb}
use Rattle.view_settings.specs.declared.word_fault.WordReason.{WordReason}
use Rattle.view_settings.specs.declared.word_fault.WordReason.TheVariants.{EmptySpan}
use Rattle.view_settings.specs.Names.{number_of}
use Rattle.view_settings.specs.Setting.{IsSetting, setting_of}
use Rattle.view_settings.specs.Steps.{◌>>=◌}
use Rattle.view_settings.specs.Verbs.{job_with}
use Rattle.view_settings.specs.Views.{is_empty, window_of}

-- a verb, and the settings that its words gave, in their order
pub record Given : Type 0 where
  pub verb : Verb
  pub settings : List Setting

-- no setting was given yet
abbrev pub begun : Verb → Given
begun verb = record { verb = verb; settings = [] }

-- the settings with the one that a word gives at their end, or the lowest reason against it
abbrev pub after_word : Given → List ℕ → Result Given WordReason
after_word given word =
    setting_of given.verb given.settings word
    >>= λ setting. Ok (record given { settings = given.settings ++ setting ∷ [] })

-- The job that the settings make. First is asked whether the ends of each axis are in order, then
-- whether the cells of a mesh are large enough, and then whether they are too many.
abbrev pub settled : Verb → List Setting → Result Job WordReason
settled verb settings =
    if is_empty (window_of settings) then Err EmptySpan else job_with verb settings

abbrev pub finished : Given → Result Job WordReason
finished given = settled given.verb given.settings

-- what settings always keep: each is one of the verb, and no name is given twice
pub record AreSettings (given : Given) : Type 0 where
  pub each : AllByRecursion (IsSetting given.verb) given.settings
  pub distinct : IsDistinct nat_eq (map (λ setting. number_of setting.name) given.settings)
