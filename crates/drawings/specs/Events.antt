-- What an event did, told in the tree just before it.
use Rattle.std.specs.Prelude.{ℕ, List, [], ◌++◌, codes, decimal}
use Rattle.std.specs.List.{flat_map}
use Rattle.path_text.specs.Errno.{name_of}
use Rattle.path_text.specs.Print.{printed}
use Rattle.tree_model.specs.declared.answer.Answer.{Answer}
use Rattle.tree_model.specs.declared.answer.Answer.TheVariants.{Opened, Text, Names, NotBelow, Listed, Done, Refused}
use Rattle.tree_model.specs.declared.answer.Event.{Event}
use Rattle.tree_model.specs.declared.step.Mode.{Mode}
use Rattle.tree_model.specs.declared.step.Mode.TheVariants.{Plain, NoReplace, Exchange}
use Rattle.tree_model.specs.StepWith.{StepWith}
use Rattle.tree_model.specs.declared.step.StepOf.TheVariants.{Open, Dup, Parent, ReadLink, NameBelow, List as ListNames, Close, MakeDir, MakeFile, MakeLink, RemoveFile, RemoveDir, Rename}
use Rattle.tree_model.specs.State.{State}
use Rattle.event_log.specs.Output.{kind_word, escaped}
use Rattle.drawings.specs.Places.{way_of, place_words, entry_words}

-- where an actor's handle leads, after a word
abbrev pub with_place : State → ℕ → List ℕ → ℕ → List ℕ
with_place s actor word handle = word ++ place_words (way_of s actor handle)

-- an entry of the directory of an actor's handle, after a word
abbrev pub with_entry : State → ℕ → List ℕ → ℕ → List ℕ → List ℕ
with_entry s actor word dir name = word ++ entry_words (way_of s actor dir) name

-- how a rename treats an entry that is there, unless it replaces it
abbrev pub mode_words : Mode → List ℕ
mode_words Plain = []
mode_words NoReplace = codes " noreplace"
mode_words Exchange = codes " exchange"

-- a step of an actor
abbrev pub step_text : State → ℕ → StepWith ℕ → List ℕ
step_text s i (Open dir name) = codes "open " ++ (escaped name ++ with_place s i (codes " in ") dir)
step_text s i (Dup handle) = with_place s i (codes "open ") handle ++ codes " again"
step_text s i (Parent handle) = with_place s i (codes "open .. of ") handle
step_text s i (ReadLink handle) = with_place s i (codes "read_link ") handle
step_text s i (NameBelow root handle) =
    with_place s i (codes "CHECK ") handle ++ with_place s i (codes " below ") root
step_text s i (ListNames handle) = with_place s i (codes "list ") handle
step_text s i (Close handle) = with_place s i (codes "close ") handle
step_text s i (MakeDir dir name) = with_entry s i (codes "make_dir ") dir name
step_text s i (MakeFile dir name) = with_entry s i (codes "make_file ") dir name
step_text s i (MakeLink dir name text) = with_entry s i (codes "make_link ") dir name ++ (codes " to " ++ escaped text)
step_text s i (RemoveFile dir name) = with_entry s i (codes "remove_file ") dir name
step_text s i (RemoveDir dir name) = with_entry s i (codes "remove_dir ") dir name
step_text s i (Rename from old to new mode) =
    with_entry s i (codes "rename ") from old ++ (with_entry s i (codes " to ") to new ++ mode_words mode)

-- a name after a blank
abbrev pub spaced : List ℕ → List ℕ
spaced name = codes " " ++ escaped name

-- what a check said, which stands before all else
abbrev pub verdict_words : Answer → List ℕ
verdict_words (Names names) = codes "yes: "
verdict_words NotBelow = codes "NO: "
verdict_words other = []

-- what a step was answered; names that were asked for come of a check
abbrev pub answer_text : Answer → List ℕ
answer_text (Opened handle node kind) = codes " = " ++ (kind_word kind ++ (codes " " ++ decimal node))
answer_text (Text text) = codes " = " ++ escaped text
answer_text (Names names) = codes " = " ++ escaped (printed names)
answer_text NotBelow = []
answer_text (Listed names) = codes " =" ++ flat_map spaced names
answer_text Done = codes " = done"
answer_text (Refused error) = codes " = " ++ name_of error

abbrev pub event_text : State → Event → List ℕ
event_text s event =
    verdict_words event.answer ++ (step_text s event.actor event.step ++ answer_text event.answer)
