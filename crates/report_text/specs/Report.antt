-- The text of a report, from its events, how the calls ended, the tree that the events led to, and the number of
-- actors.
use Rattle.std.specs.Prelude.{ℕ, zero, suc, List, [], ◌∷◌, ◌++◌, codes, decimal}
use Rattle.std.specs.List.{flat_map}
use Rattle.race_core.specs.declared.report.Outcome.{Outcome}
use Rattle.race_core.specs.declared.report.Outcome.TheVariants.{Opened, Text, Done, Count, Stepped, Fault}
use Rattle.tree_model.specs.declared.answer.Event.{Event}
use Rattle.tree_model.specs.declared.inode.Inode.{Inode}
use Rattle.tree_model.specs.declared.row.Row.{Row}
use Rattle.tree_model.specs.declared.step.Kind.{Kind}
use Rattle.tree_model.specs.Entries.{with_some}
use Rattle.tree_model.specs.Rows.{rows_in_order}
use Rattle.tree_model.specs.State.{State, object_at}
use Rattle.tree_model.specs.Steps.{held_count, kind_of}
use Rattle.event_log.specs.Output.{escaped, kind_word, opened_words, fault_words}
pub use Rattle.event_log.specs.Words.{event_words}
use Rattle.event_log.specs.Words.{line_of, answer_words}

-- what each element comes to by its number, counted from k on, one after another
abbrev pub numbered : {A B : Type 0} → (ℕ → A → List B) → ℕ → List A → List B
numbered line k [] = []
numbered line k (x ∷ xs) = line k x ++ numbered line (suc k) xs

-- event K actor I STEP = ANSWER
abbrev pub event_line : ℕ → Event → List ℕ
event_line k event =
    codes "event " ++ (decimal k
    ++ (codes " actor " ++ (decimal event.actor ++ (codes " " ++ (event_words event ++ codes "\n")))))

abbrev pub event_lines : List Event → List ℕ
event_lines events = numbered event_line 0 events

-- how a call ended
abbrev pub reply_words : Outcome → List ℕ
reply_words (Opened node kind names) = opened_words kind node names
reply_words (Text text) = codes "text " ++ escaped text
reply_words Done = codes "done"
reply_words (Count count) = codes "count " ++ decimal count
reply_words (Stepped answer) = codes "stepped " ++ line_of (answer_words answer)
reply_words (Fault error) = fault_words error

-- reply I J REPLY
abbrev pub reply_line : ℕ → ℕ → Outcome → List ℕ
reply_line actor call outcome =
    codes "reply " ++ (decimal actor
    ++ (codes " " ++ (decimal call ++ (codes " " ++ (reply_words outcome ++ codes "\n")))))

-- an actor's calls
abbrev pub actor_lines : ℕ → List Outcome → List ℕ
actor_lines actor outcomes = numbered (reply_line actor) 0 outcomes

-- each actor's calls
abbrev pub reply_lines : List (List Outcome) → List ℕ
reply_lines replies = numbered actor_lines 0 replies

-- row PARENT NAME CHILD
abbrev pub place_words : Row → List ℕ
place_words row = codes "row "
    ++ (decimal row.parent ++ (codes " " ++ (escaped row.name ++ (codes " " ++ decimal row.child))))

-- row PARENT NAME CHILD KIND
abbrev pub entry_line : Row → Kind → List ℕ
entry_line row kind = place_words row ++ (codes " " ++ (kind_word kind ++ codes "\n"))

-- the same for the kind that its node has
abbrev pub row_line : List Inode → Row → List ℕ
row_line nodes row = with_some (object_at nodes row.child) [] (λ object. entry_line row (kind_of object))

-- the entries by the directory's number, then by the name's bytes
abbrev pub row_lines : List Inode → List ℕ
row_lines nodes = flat_map (row_line nodes) (rows_in_order nodes)

-- held I N
abbrev pub held_line : State → ℕ → List ℕ
held_line s actor = codes "held " ++ (decimal actor ++ (codes " " ++ (decimal (held_count s actor) ++ codes "\n")))

-- the actors below that number
abbrev pub held_lines : State → ℕ → List ℕ
held_lines s zero = []
held_lines s (suc actor) = held_lines s actor ++ held_line s actor

-- the whole: events, replies, entries, open handles
abbrev pub report_text : List Event → List (List Outcome) → State → ℕ → List ℕ
report_text events replies s actors =
    event_lines events ++ (reply_lines replies ++ (row_lines s.nodes ++ held_lines s actors))
