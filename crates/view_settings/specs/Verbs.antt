-- What is said of each verb: how it is written, which settings it takes, which job it makes of
-- them, and what that job keeps and reads.
use Rattle.std.specs.Prelude.{ℕ, List, [], ◌∷◌, Option, None, codes, find, Result, Ok, Err, if◌then◌else◌, ⊤}
use Rattle.std.specs.Str.{bytes_eq}
use Rattle.view_settings.specs.declared.job.Job.{Job}
use Rattle.view_settings.specs.declared.job.Job.TheVariants as jobs
use Rattle.view_settings.specs.declared.kind.Kind.{Kind}
use Rattle.view_settings.specs.declared.name.Name.{Name}
use Rattle.view_settings.specs.declared.reads.Reads.{Reads}
use Rattle.view_settings.specs.declared.reads.Reads.TheVariants as reading
use Rattle.view_settings.specs.declared.setting.Setting.{Setting}
use Rattle.view_settings.specs.declared.verb.Verb.{Verb}
use Rattle.view_settings.specs.declared.verb.Verb.TheVariants.{Render, Height, Mesh, Count, Text, Replay, Forge, Shade, Contour, Solid, Check}
use Rattle.view_settings.specs.declared.word_fault.WordReason.{WordReason}
use Rattle.view_settings.specs.declared.word_fault.WordReason.TheVariants.{CellTooSmall, TooManyCells}
use Rattle.view_settings.specs.Kinds.{contour_kind, forge_kind, height_kind, image_kind, mesh_kind}
use Rattle.view_settings.specs.Views.{forge_of, window_of}
use Rattle.view_places.specs.Window.{Window, IsWindow, IsCount, FitsContour, FitsHeight, FitsMesh, cells_are_few, cells_have_room, plane_cells_have_room}

-- the bytes of a verb
abbrev pub verb_text : Verb → List ℕ
verb_text Render = codes "render"
verb_text Height = codes "height"
verb_text Mesh = codes "mesh"
verb_text Count = codes "count"
verb_text Text = codes "text"
verb_text Replay = codes "replay"
verb_text Forge = codes "forge"
verb_text Shade = codes "shade"
verb_text Contour = codes "contour"
verb_text Solid = codes "solid"
verb_text Check = codes "check"

abbrev pub verbs : List Verb
verbs = Render ∷ Height ∷ Mesh ∷ Count ∷ Text ∷ Replay ∷ Forge ∷ Shade ∷ Contour ∷ Solid ∷ Check ∷ []

-- the verb that is written so
abbrev pub verb_named : List ℕ → Option Verb
verb_named word = find (λ verb. bytes_eq word (verb_text verb)) verbs

-- the values that a setting may have under a verb, and None where the verb has no such setting
abbrev pub kind_of : Verb → Name → Option Kind
kind_of Render name = image_kind name
kind_of Height name = height_kind name
kind_of Mesh name = mesh_kind name
kind_of Count name = image_kind name
kind_of Text name = None
kind_of Replay name = None
kind_of Forge name = forge_kind name
kind_of Shade name = height_kind name
kind_of Contour name = contour_kind name
kind_of Solid name = None
kind_of Check name = None

-- a mesh of this window: first is asked whether its cells are large enough, then whether they are too many
abbrev pub mesh_job : Window → Result Job WordReason
mesh_job v =
    if cells_have_room v then (if cells_are_few v then Ok (jobs.Mesh v) else Err TooManyCells)
    else Err CellTooSmall

-- a contour of this window, whose cells are asked for their room along x and y alone
abbrev pub contour_job : Window → Result Job WordReason
contour_job v = if plane_cells_have_room v then Ok (jobs.Contour v) else Err CellTooSmall

-- the job of a verb with these settings, where the ends of its axes are in order
abbrev pub job_with : Verb → List Setting → Result Job WordReason
job_with Render settings = Ok (jobs.Render (window_of settings))
job_with Height settings = Ok (jobs.Height (window_of settings))
job_with Mesh settings = mesh_job (window_of settings)
job_with Count settings = Ok (jobs.Count (window_of settings))
job_with Text settings = Ok jobs.Text
job_with Replay settings = Ok jobs.Replay
job_with Forge settings = Ok (jobs.Forge (forge_of settings))
job_with Shade settings = Ok (jobs.Shade (window_of settings))
job_with Contour settings = contour_job (window_of settings)
job_with Solid settings = Ok jobs.Solid
job_with Check settings = Ok jobs.Check

-- what a job always keeps
abbrev pub IsJob : Job → Type 0
IsJob (jobs.Render v) = IsWindow v
IsJob (jobs.Height v) = IsWindow v × FitsHeight v
IsJob (jobs.Mesh v) = IsWindow v × FitsMesh v
IsJob (jobs.Count v) = IsWindow v
IsJob jobs.Text = ⊤
IsJob jobs.Replay = ⊤
IsJob (jobs.Forge f) = IsWindow f.view × IsCount 5000 f.solids
IsJob (jobs.Shade v) = IsWindow v × FitsHeight v
IsJob (jobs.Contour v) = IsWindow v × FitsContour v
IsJob jobs.Solid = ⊤
IsJob jobs.Check = ⊤

-- what a job reads
abbrev pub reads : Job → Reads
reads (jobs.Render v) = reading.Model
reads (jobs.Height v) = reading.Model
reads (jobs.Mesh v) = reading.Model
reads (jobs.Count v) = reading.Model
reads jobs.Text = reading.Model
reads jobs.Replay = reading.Script
reads (jobs.Forge f) = reading.Nothing
reads (jobs.Shade v) = reading.Model
reads (jobs.Contour v) = reading.Model
reads jobs.Solid = reading.Solid
reads jobs.Check = reading.Mesh
