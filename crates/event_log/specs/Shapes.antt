-- A step or an answer as its shape, with lengths in place of its names and texts, and these one after another.
use Rattle.std.specs.Prelude.{◌≡◌, ℕ, zero, suc, List, [], ◌∷◌, ◌++◌, length, take, drop, None}
use Rattle.path_text.specs.Name.{name_fault}
use Rattle.path_text.specs.Names.{AreNames}
use Rattle.tree_model.specs.declared.answer.Answer.{Answer}
use Rattle.tree_model.specs.declared.answer.Answer.TheVariants.{Opened, Text, Names, NotBelow, Listed, Done, Refused}
use Rattle.tree_model.specs.StepWith.{StepWith}
use Rattle.tree_model.specs.declared.step.StepOf.TheVariants.{Open, Dup, Parent, ReadLink, NameBelow, List as ListNames, Close, MakeDir, MakeFile, MakeLink, RemoveFile, RemoveDir, Rename}
use Rattle.event_log.specs.declared.shape.AnswerShape.{AnswerShape}
use Rattle.event_log.specs.declared.shape.AnswerShape.TheVariants as answer
use Rattle.event_log.specs.declared.shape.StepShape.{StepShape}
use Rattle.event_log.specs.declared.shape.StepShape.TheVariants as step

-- ---- what is kept of a step

abbrev pub step_shape : StepWith ℕ → StepShape
step_shape (Open h n) = step.Open (length n) h
step_shape (Dup h) = step.Dup h
step_shape (Parent h) = step.Parent h
step_shape (ReadLink h) = step.ReadLink h
step_shape (NameBelow r h) = step.NameBelow r h
step_shape (ListNames h) = step.List h
step_shape (Close h) = step.Close h
step_shape (MakeDir h n) = step.MakeDir (length n) h
step_shape (MakeFile h n) = step.MakeFile (length n) h
step_shape (MakeLink h n text) = step.MakeLink (length n) h (length text)
step_shape (RemoveFile h n) = step.RemoveFile (length n) h
step_shape (RemoveDir h n) = step.RemoveDir (length n) h
step_shape (Rename h n k m mode) = step.Rename (length n) (length m) mode h k

-- its names and its text
abbrev pub step_texts : StepWith ℕ → List ℕ
step_texts (Open h n) = n
step_texts (Dup h) = []
step_texts (Parent h) = []
step_texts (ReadLink h) = []
step_texts (NameBelow r h) = []
step_texts (ListNames h) = []
step_texts (Close h) = []
step_texts (MakeDir h n) = n
step_texts (MakeFile h n) = n
step_texts (MakeLink h n text) = n ++ text
step_texts (RemoveFile h n) = n
step_texts (RemoveDir h n) = n
step_texts (Rename h n k m mode) = n ++ m

-- the step of a shape, whose names and text the bytes begin with
abbrev pub step_read : StepShape → List ℕ → StepWith ℕ
step_read (step.Open size h) bytes = Open h (take size bytes)
step_read (step.Dup h) bytes = Dup h
step_read (step.Parent h) bytes = Parent h
step_read (step.ReadLink h) bytes = ReadLink h
step_read (step.NameBelow r h) bytes = NameBelow r h
step_read (step.List h) bytes = ListNames h
step_read (step.Close h) bytes = Close h
step_read (step.MakeDir size h) bytes = MakeDir h (take size bytes)
step_read (step.MakeFile size h) bytes = MakeFile h (take size bytes)
step_read (step.MakeLink size h size_of_text) bytes =
    MakeLink h (take size bytes) (take size_of_text (drop size bytes))
step_read (step.RemoveFile size h) bytes = RemoveFile h (take size bytes)
step_read (step.RemoveDir size h) bytes = RemoveDir h (take size bytes)
step_read (step.Rename size other mode h k) bytes = Rename h (take size bytes) k (take other (drop size bytes)) mode

-- the bytes after them
abbrev pub step_rest : StepShape → List ℕ → List ℕ
step_rest (step.Open size h) bytes = drop size bytes
step_rest (step.Dup h) bytes = bytes
step_rest (step.Parent h) bytes = bytes
step_rest (step.ReadLink h) bytes = bytes
step_rest (step.NameBelow r h) bytes = bytes
step_rest (step.List h) bytes = bytes
step_rest (step.Close h) bytes = bytes
step_rest (step.MakeDir size h) bytes = drop size bytes
step_rest (step.MakeFile size h) bytes = drop size bytes
step_rest (step.MakeLink size h size_of_text) bytes = drop size_of_text (drop size bytes)
step_rest (step.RemoveFile size h) bytes = drop size bytes
step_rest (step.RemoveDir size h) bytes = drop size bytes
step_rest (step.Rename size other mode h k) bytes = drop other (drop size bytes)

-- ---- what is kept of an answer

abbrev pub answer_shape : Answer → AnswerShape
answer_shape (Opened h x kind) = answer.Opened kind h x
answer_shape (Text text) = answer.Text (length text)
answer_shape (Names names) = answer.Names (length names)
answer_shape NotBelow = answer.NotBelow
answer_shape (Listed names) = answer.Listed (length names)
answer_shape Done = answer.Done
answer_shape (Refused error) = answer.Refused error

-- names, each after its length
abbrev pub pieces_of : List (List ℕ) → List ℕ
pieces_of [] = []
pieces_of (n ∷ names) = length n ∷ n ++ pieces_of names

abbrev pub answer_texts : Answer → List ℕ
answer_texts (Opened h x kind) = []
answer_texts (Text text) = text
answer_texts (Names names) = pieces_of names
answer_texts NotBelow = []
answer_texts (Listed names) = pieces_of names
answer_texts Done = []
answer_texts (Refused error) = []

-- the bytes of a piece that follows its length, and what is after them
abbrev pub first_piece : List ℕ → List ℕ
first_piece [] = []
first_piece (size ∷ bytes) = take size bytes

abbrev pub after_piece : List ℕ → List ℕ
after_piece [] = []
after_piece (size ∷ bytes) = drop size bytes

-- that many pieces
abbrev pub pieces_read : ℕ → List ℕ → List (List ℕ)
pieces_read zero bytes = []
pieces_read (suc count) bytes = first_piece bytes ∷ pieces_read count (after_piece bytes)

-- the answer of a shape, whose names or text the bytes begin with
abbrev pub answer_read : AnswerShape → List ℕ → Answer
answer_read (answer.Opened kind h x) bytes = Opened h x kind
answer_read (answer.Text size) bytes = Text (take size bytes)
answer_read (answer.Names count) bytes = Names (pieces_read count bytes)
answer_read answer.NotBelow bytes = NotBelow
answer_read (answer.Listed count) bytes = Listed (pieces_read count bytes)
answer_read answer.Done bytes = Done
answer_read (answer.Refused error) bytes = Refused error

-- ---- names are valid

abbrev pub HasStepNames : StepWith ℕ → Type 0
HasStepNames (Open h n) = name_fault n ≡ None
HasStepNames (Dup h) = Unit {0}
HasStepNames (Parent h) = Unit {0}
HasStepNames (ReadLink h) = Unit {0}
HasStepNames (NameBelow r h) = Unit {0}
HasStepNames (ListNames h) = Unit {0}
HasStepNames (Close h) = Unit {0}
HasStepNames (MakeDir h n) = name_fault n ≡ None
HasStepNames (MakeFile h n) = name_fault n ≡ None
HasStepNames (MakeLink h n text) = name_fault n ≡ None
HasStepNames (RemoveFile h n) = name_fault n ≡ None
HasStepNames (RemoveDir h n) = name_fault n ≡ None
HasStepNames (Rename h n k m mode) = (name_fault n ≡ None) × (name_fault m ≡ None)

abbrev pub HasAnswerNames : Answer → Type 0
HasAnswerNames (Opened h x kind) = Unit {0}
HasAnswerNames (Text text) = Unit {0}
HasAnswerNames (Names names) = AreNames names
HasAnswerNames NotBelow = Unit {0}
HasAnswerNames (Listed names) = AreNames names
HasAnswerNames Done = Unit {0}
HasAnswerNames (Refused error) = Unit {0}
