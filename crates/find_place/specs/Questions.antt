-- What is asked for as an object's place is found out, and what answers that.
use Rattle.std.specs.Borrow.{Bor}
use Rattle.std.specs.Prelude.{ℕ, List, ◌==◌, Bool, false, length, Result, Ok, Err}
use Rattle.dialogue.specs.Dialogue.{DialogueOf, ExchangeOf, Protocol, RanOf, protocol, ran_by_of}
use Rattle.find_place.specs.declared.questions.Answer.{Answer}
use Rattle.find_place.specs.declared.questions.Question.{Question}
use Rattle.find_place.specs.declared.questions.Question.TheVariants.{Look, Copy, RootLink, ObjectLink, LookUp, LinkAgain, Dead, Removed, Close}

-- the questions of the code, where names are their bytes
pub data Asked : Type 0 where
  looks : Asked
  copies : Asked
  root_link : Asked
  object_link : Asked
  looks_up : List ℕ → Asked
  link_again : Asked
  is_dead : Asked
  is_removed : Asked
  closes : Asked

abbrev pub asked_of : Question → Asked
asked_of Look = looks
asked_of Copy = copies
asked_of RootLink = root_link
asked_of ObjectLink = object_link
asked_of (LookUp names) = looks_up names.now
asked_of LinkAgain = link_again
asked_of Dead = is_dead
asked_of Removed = is_removed
asked_of Close = closes

-- each is asked once
abbrev pub never : Asked → Answer → Bool
never q a = false

abbrev pub questions : Protocol
questions = protocol never

abbrev pub Talk : Type 0 → Type 0
Talk E = DialogueOf questions E

abbrev pub Exchange : Type 0
Exchange = ExchangeOf questions

abbrev pub text_of : Exchange → List ℕ
text_of e = e.answer.text.now

-- what code has come to
abbrev pub came_to : {E T : Type 0} → (T → E) → Result T Question → List Answer → RanOf questions E
came_to see r left = ran_by_of questions see asked_of r left

-- the names at which the object stands, a slash before each, or a slash alone; or an error (errno(3))
abbrev pub Told : Type 0
Told = Result (List ℕ) ℕ

abbrev pub told_of : Result (Bor (List ℕ)) ℕ → Told
told_of (Ok names) = Ok names.now
told_of (Err error) = Err error

-- a slash alone: the place of the root itself
abbrev pub is_top : List ℕ → Bool
is_top place = length place == 1
