-- What a picture shows of a run: a heading with each actor's root and how its calls ended, and a line for each event
-- and each note.
use Rattle.std.specs.Prelude.{◌<◌, ◌≤◌, ◌+◌, ◌⊎◌, ℕ, suc, List, [], ◌∷◌, ◌++◌, Bool, true, false, not, if◌then◌else◌, length, slice_get, unwrap_or, Option, Some, None, codes, decimal}
use Rattle.race_core.specs.declared.report.Outcome.{Outcome}
use Rattle.race_core.specs.declared.report.Outcome.TheVariants as ended
use Rattle.tree_model.specs.declared.answer.Answer.{Answer}
use Rattle.tree_model.specs.declared.answer.Answer.TheVariants as answer
use Rattle.tree_model.specs.declared.answer.Event.{Event}
use Rattle.tree_model.specs.declared.inode.Inode.{Inode}
use Rattle.tree_model.specs.StepWith.{StepWith}
use Rattle.tree_model.specs.declared.step.StepOf.TheVariants.{Close}
use Rattle.tree_model.specs.History.{after_event}
use Rattle.tree_model.specs.State.{State}
use Rattle.report_text.specs.Report.{numbered, reply_words}
use Rattle.drawings.specs.declared.picture.Closes.{Closes}
use Rattle.drawings.specs.declared.picture.Closes.TheVariants.{Shown, Hidden}
use Rattle.drawings.specs.declared.picture.Head.{Head}
use Rattle.drawings.specs.declared.picture.Line.{Line}
use Rattle.drawings.specs.declared.picture.PictureFault.{PictureFault}
use Rattle.drawings.specs.declared.picture.PictureFault.TheVariants.{Actors, Lines, NoMemory}
use Rattle.drawings.specs.declared.picture.TheConstants.{ACTORS_MAX, LINES_MAX}
use Rattle.drawings.specs.declared.picture.Tone.{Tone}
use Rattle.drawings.specs.declared.picture.Tone.TheVariants.{Plain, Good, Failed, Bad}
use Rattle.drawings.specs.Events.{event_text}
use Rattle.drawings.specs.Notes.{notes_below, root_of, is_outside}
use Rattle.drawings.specs.Places.{way_of, place_words}

-- how many actors there are, the heading, and the lines
pub record Drawn : Type 0 where
  pub actors : ℕ
  pub heads : List Head
  pub lines : List Line

-- ---- the lines

-- what is opened outside of a root is red
abbrev pub tone_below : List Inode → Option ℕ → ℕ → Tone
tone_below nodes None node = Plain
tone_below nodes (Some root) node = if is_outside nodes root node then Bad else Plain

-- the root is the actor's, wherever it stands by then
abbrev pub opened_tone : State → State → ℕ → ℕ → Tone
opened_tone opening s actor node = tone_below s.nodes (root_of opening actor) node

-- a check says yes or no, or something is opened
abbrev pub answer_tone : State → State → ℕ → Answer → Tone
answer_tone opening s actor (answer.Names names) = Good
answer_tone opening s actor answer.NotBelow = Bad
answer_tone opening s actor (answer.Opened handle node kind) = opened_tone opening s actor node
answer_tone opening s actor other = Plain

abbrev pub event_tone : State → State → Event → Tone
event_tone opening s event = answer_tone opening s event.actor event.answer

-- an event at its moment, told in the tree just before it
abbrev pub moment_line : State → State → ℕ → Event → Line
moment_line opening s k event =
    record { moment = Some k; actor = event.actor; tone = event_tone opening s event; text = event_text s event }

-- a handle was closed, which changes nothing that is drawn
abbrev pub is_plain_close : StepWith ℕ → Answer → Bool
is_plain_close (Close handle) answer.Done = true
is_plain_close step given = false

-- whether an event has a line
abbrev pub is_shown : Closes → Event → Bool
is_shown Shown event = true
is_shown Hidden event = not (is_plain_close event.step event.answer)

-- its line, if it has one
abbrev pub line_if : Bool → Line → List Line
line_if shown line = if shown then line ∷ [] else []

-- and then the notes of the other actors
abbrev pub moment_lines : Closes → ℕ → State → State → ℕ → Event → List Line
moment_lines closes actors opening s k event =
    line_if (is_shown closes event) (moment_line opening s k event)
    ++ notes_below opening s (after_event s event) event.actor actors

-- those of all events from a tree on, their moments counted from k
abbrev pub lines_from : Closes → ℕ → State → State → ℕ → List Event → List Line
lines_from closes actors opening s k [] = []
lines_from closes actors opening s k (event ∷ events) =
    moment_lines closes actors opening s k event
    ++ lines_from closes actors opening (after_event s event) (suc k) events

-- ---- the heading

-- an actor's root, which its handle of its own number was granted on
abbrev pub root_head : State → ℕ → Head
root_head opening actor =
    record {
      tone = Plain;
      text = codes "actor " ++ (decimal actor ++ (codes " below " ++ place_words (way_of opening actor actor)));
    }

abbrev pub reply_tone : Option Outcome → Tone
reply_tone None = Plain
reply_tone (Some (ended.Stepped given)) = Plain
reply_tone (Some (ended.Fault error)) = Failed
reply_tone (Some other) = Good

-- how a call ended; a report has a reply for each
abbrev pub reply_text : Option Outcome → List ℕ
reply_text None = []
reply_text (Some outcome) = codes " = " ++ reply_words outcome

abbrev pub call_head : List ℕ → Option Outcome → Head
call_head call reply = record { tone = reply_tone reply; text = codes "  " ++ (call ++ reply_text reply) }

abbrev pub call_heads : List Outcome → List (List ℕ) → List Head
call_heads outcomes calls = numbered (λ j call. call_head call (slice_get outcomes j) ∷ []) 0 calls

-- how an actor's calls ended
abbrev pub outcomes_at : List (List Outcome) → ℕ → List Outcome
outcomes_at replies actor = unwrap_or (slice_get replies actor) []

-- an actor's root, and then each of its calls
abbrev pub actor_heads : State → List (List Outcome) → ℕ → List (List ℕ) → List Head
actor_heads opening replies actor calls = root_head opening actor ∷ call_heads (outcomes_at replies actor) calls

abbrev pub heads_of : State → List (List (List ℕ)) → List (List Outcome) → List Head
heads_of opening calls replies = numbered (actor_heads opening replies) 0 calls

-- ---- the whole

-- the picture of the events that a tree with its roots granted led to; an actor for each list of calls
abbrev pub drawn_of : Closes → State → List (List (List ℕ)) → List Event → List (List Outcome) → Drawn
drawn_of closes opening calls events replies =
    record {
      actors = length calls;
      heads = heads_of opening calls replies;
      lines = lines_from closes (length calls) opening opening 0 events;
    }

-- the lines with those of the heading
abbrev pub line_count : Drawn → ℕ
line_count picture = length picture.heads + length picture.lines

-- one to four actors, and not too many lines
pub record CanBeDrawn (picture : Drawn) : Type 0 where
  pub some : 0 < picture.actors
  pub few : picture.actors ≤ ACTORS_MAX
  pub short : line_count picture ≤ LINES_MAX

-- there are too many events, whether they are shown or not, or too many lines
abbrev pub IsLong : List Event → Drawn → Type 0
IsLong events picture = (LINES_MAX < length events) ⊎ (LINES_MAX < line_count picture)

-- there is no actor or too many; or the picture would be long; or a growth was refused
abbrev pub IsPictureFault : List Event → Drawn → PictureFault → Type 0
IsPictureFault events picture Actors = (0 < picture.actors → ACTORS_MAX < picture.actors)
IsPictureFault events picture Lines = (0 < picture.actors) × (picture.actors ≤ ACTORS_MAX) × IsLong events picture
IsPictureFault events picture NoMemory = (0 < picture.actors) × (picture.actors ≤ ACTORS_MAX)
