-- Steps and answers as words, and words as a line.
use Rattle.std.specs.Prelude.{ℕ, List, [], ◌∷◌, ◌++◌, length, map, codes, decimal}
use Rattle.std.specs.List.{join_with_byte}
use Rattle.path_text.specs.Errno.{name_of}
use Rattle.path_text.specs.Print.{printed}
use Rattle.tree_model.specs.declared.answer.Answer.{Answer}
use Rattle.tree_model.specs.declared.answer.Answer.TheVariants.{Opened, Text, Names, NotBelow, Listed, Done, Refused}
use Rattle.tree_model.specs.declared.answer.Event.{Event}
use Rattle.tree_model.specs.declared.step.Mode.{Mode}
use Rattle.tree_model.specs.declared.step.Mode.TheVariants.{Plain, NoReplace, Exchange}
use Rattle.tree_model.specs.StepWith.{StepWith}
use Rattle.tree_model.specs.declared.step.StepOf.TheVariants.{Open, Dup, Parent, ReadLink, NameBelow, List as ListNames, Close, MakeDir, MakeFile, MakeLink, RemoveFile, RemoveDir, Rename}
use Rattle.event_log.specs.Output.{kind_word, escaped}

abbrev pub BLANK : ℕ
BLANK = 32

-- the words with a blank between each two
abbrev pub line_of : List (List ℕ) → List ℕ
line_of = join_with_byte BLANK

-- a blank and then the word, for each of the words
abbrev pub after_blanks : List (List ℕ) → List ℕ
after_blanks [] = []
after_blanks (word ∷ words) = BLANK ∷ word ++ after_blanks words

abbrev pub mode_word : Mode → List ℕ
mode_word Plain = codes "plain"
mode_word NoReplace = codes "noreplace"
mode_word Exchange = codes "exchange"

-- what is done, and then the step's handles, names and text in their order
abbrev pub step_words : StepWith ℕ → List (List ℕ)
step_words (Open dir name) = codes "open" ∷ decimal dir ∷ escaped name ∷ []
step_words (Dup handle) = codes "dup" ∷ decimal handle ∷ []
step_words (Parent handle) = codes "parent" ∷ decimal handle ∷ []
step_words (ReadLink handle) = codes "read_link" ∷ decimal handle ∷ []
step_words (NameBelow root handle) = codes "below" ∷ decimal root ∷ decimal handle ∷ []
step_words (ListNames handle) = codes "list" ∷ decimal handle ∷ []
step_words (Close handle) = codes "close" ∷ decimal handle ∷ []
step_words (MakeDir dir name) = codes "make_dir" ∷ decimal dir ∷ escaped name ∷ []
step_words (MakeFile dir name) = codes "make_file" ∷ decimal dir ∷ escaped name ∷ []
step_words (MakeLink dir name text) = codes "make_link" ∷ decimal dir ∷ escaped name ∷ escaped text ∷ []
step_words (RemoveFile dir name) = codes "remove_file" ∷ decimal dir ∷ escaped name ∷ []
step_words (RemoveDir dir name) = codes "remove_dir" ∷ decimal dir ∷ escaped name ∷ []
step_words (Rename from old to new mode) =
    codes "rename" ∷ decimal from ∷ escaped old ∷ decimal to ∷ escaped new ∷ mode_word mode ∷ []

-- what was answered, and then: a handle, its node and what that is; a text; names as one path, or how many they are
-- and each
abbrev pub answer_words : Answer → List (List ℕ)
answer_words (Opened handle node kind) = codes "opened" ∷ decimal handle ∷ decimal node ∷ kind_word kind ∷ []
answer_words (Text text) = codes "text" ∷ escaped text ∷ []
answer_words (Names names) = codes "names" ∷ escaped (printed names) ∷ []
answer_words NotBelow = codes "not_below" ∷ []
answer_words (Listed names) = codes "listed" ∷ decimal (length names) ∷ map escaped names
answer_words Done = codes "done" ∷ []
answer_words (Refused error) = codes "refused" ∷ name_of error ∷ []

-- STEP = ANSWER
abbrev pub event_words : Event → List ℕ
event_words event = line_of (step_words event.step) ++ (codes " = " ++ line_of (answer_words event.answer))
