-- What `inroot draw` writes: the picture of a report on a run of the world that the script says.
use Rattle.std.specs.Prelude.{⊤, ◌≡◌, ◌≢◌, ◌<◌, ℕ, List, length, codes, Option, Some, None, Result, Ok, Err, MatchResult, IsOkAnd}
use Rattle.std.specs.Io.KnownBytes.{Keeps}
use Rattle.drawings.specs.declared.picture.Closes.{Closes}
use Rattle.drawings.specs.declared.picture.PictureFault.{PictureFault}
use Rattle.drawings.specs.declared.picture.PictureFault.TheVariants as picture_fault
use Rattle.drawings.specs.declared.picture.TheConstants.{ACTORS_MAX}
use Rattle.drawings.specs.Calls.{calls_of}
use Rattle.drawings.specs.Picture.{Drawn, drawn_of, IsLong, IsPictureFault}
use Rattle.drawings.specs.Svg.{svg_of}
use Rattle.drawings.specs.Text.{text_of}
use Rattle.drawings.specs.Xml.{IsDocument}
use Rattle.race_core.specs.declared.report.Outcome.{Outcome}
use Rattle.race_core.specs.Opening.{Grants}
use Rattle.tree_model.specs.declared.answer.Event.{Event}
use Rattle.tree_model.specs.State.{State}
use Rattle.run_command.specs.declared.drawing.DrawFault.{DrawFault}
use Rattle.run_command.specs.declared.drawing.DrawFault.TheVariants.{Run, TooManyActors, TooManyLines}
use Rattle.run_command.specs.declared.drawing.Form.{Form}
use Rattle.run_command.specs.declared.drawing.Form.TheVariants.{Text, Svg}
use Rattle.run_command.specs.declared.drawing.Style.{Style}
use Rattle.scripts.specs.declared.fault.RunFault.TheVariants.{WriteFailed, NoMemory}
use Rattle.scripts.specs.declared.fault.ScriptFault.{ScriptFault}
use Rattle.run_command.specs.Replay.{IsRunOf}
use Rattle.scripts.specs.Writing.{IsNoRun, IsWritingFaultOf, Wrote}
use Rattle.scripts.specs.Scenario.{Said}

-- the tree in which all roots are granted, if they are
abbrev pub opened_by : Grants → Option State
opened_by (Ok granted) = Some granted.tree
opened_by (Err refusal) = None

-- a run of what is said, which went from this tree, in which its roots were granted
abbrev pub IsRunFrom : State → Said → State → List Event → List (List Outcome) → Type 0
IsRunFrom opened said tree events replies =
    (run : IsRunOf said tree events replies) × (opened ≡ run.opened.roots.tree)

-- the picture of a run, from the tree in which its roots were granted on
abbrev pub drawn : (closes : Closes) (said : Said) (tree : State) (events : List Event)
    (replies : List (List Outcome)) → IsRunOf said tree events replies → Drawn
drawn closes said tree events replies run = drawn_of closes run.opened.roots.tree (calls_of said.plans) events replies

abbrev pub form_text : Form → Drawn → List ℕ
form_text (Text look) picture = text_of look picture
form_text Svg picture = svg_of picture

-- the rules of a form: as SVG it is one well-formed element of XML
abbrev pub IsWellFormed : Form → List ℕ → Type 0
IsWellFormed (Text look) text = ⊤
IsWellFormed Svg text = IsDocument (codes "svg") text

-- the picture of such a run, in this style
pub record IsDrawingOf (style : Style) (said : Said) (text : List ℕ) : Type 0 where
  pub tree : State
  pub events : List Event
  pub replies : List (List Outcome)
  pub run : IsRunOf said tree events replies
  pub is : text ≡ form_text style.form (drawn style.closes said tree events replies run)
  pub well_formed : IsWellFormed style.form text

-- the picture of some run would be longer than one may be
pub record HasManyLines (closes : Closes) (said : Said) : Type 0 where
  pub tree : State
  pub events : List Event
  pub replies : List (List Outcome)
  pub run : IsRunOf said tree events replies
  pub over : IsLong events (drawn closes said tree events replies run)

-- why a picture of some actors isn't made, and so it is told
abbrev pub told_of : PictureFault → DrawFault
told_of picture_fault.Actors = TooManyActors
told_of picture_fault.Lines = TooManyLines
told_of picture_fault.NoMemory = Run NoMemory

-- it is told so that a run with such a picture isn't drawn
abbrev pub IsUndrawn : List Event → Drawn → DrawFault → Type 0
IsUndrawn events picture told = (fault : PictureFault)
    × ((told ≡ told_of fault) × (fault ≢ picture_fault.NoMemory → IsPictureFault events picture fault))

-- why a script whose checks have passed has no picture
abbrev pub IsNoDrawing : Closes → Said → DrawFault → Type 0
IsNoDrawing closes said (Run fault) = IsNoRun said fault
IsNoDrawing closes said TooManyActors = ACTORS_MAX < length said.plans
IsNoDrawing closes said TooManyLines = HasManyLines closes said

-- a drawing's fault is one of running or writing; or there are too many actors or lines
abbrev pub IsDrawFaultOf : Style → Result Said ScriptFault → DrawFault → Type 0
IsDrawFaultOf style said (Run fault) = IsWritingFaultOf (IsDrawingOf style) said fault
IsDrawFaultOf style said TooManyActors = IsOkAnd said (λ s. ACTORS_MAX < length s.plans)
IsDrawFaultOf style said TooManyLines = IsOkAnd said (HasManyLines style.closes)

-- The picture of a run of what the script says was written, and nothing else; or it failed as it should, and but for
-- a writer that failed nothing was written.
abbrev pub IsDraw : {T : Type 0} → Style → Result Said ScriptFault → Option (List ℕ) → Option (List ℕ)
    → Result T DrawFault → Type 0
IsDraw style said old new result = MatchResult result
    (λ _. Wrote (IsDrawingOf style) said old new)
    (λ fault. IsDrawFaultOf style said fault × (fault ≢ Run WriteFailed → Keeps old new))
