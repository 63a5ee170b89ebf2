-- What holds of whole conversations about a program's descriptor.
use Rattle.std.specs.Prelude.{◌≡◌, ◌≢◌, ◌⊎◌, ℕ, List, [], ◌∷◌, ◌++◌, ◌==◌, Bool, true, false, ◌||◌, if◌then◌else◌, Ok, Err}
use Rattle.system_calls.specs.Errors.{EAGAIN}
use Rattle.dialogue.specs.Dialogue.{Whole}
use Rattle.dialogue.specs.Holds.{EachHolds, WatchOf}
use Rattle.find_place.specs.Place.{ask_place, facts_of, lost, place}
use Rattle.find_place.specs.Questions.{Asked, Exchange, Told, closes, copies, is_removed, looks, questions}
use Rattle.find_place.specs.declared.questions.Answer.{Answer}

pub record Seen : Type 0 where
  -- it is a directory
  pub directory : Bool
  -- it had no name left as it was looked at (inode(7)), or was removed
  pub gone : Bool
  -- that was asked once more
  pub asked : Bool
  -- the copy is open
  pub is_open : Bool
  -- what was asked about the place, by the copy
  pub exchanges : List Exchange
  -- the error of what came before that, or 0
  pub why : ℕ

abbrev pub at_first : Seen
at_first = record { directory = false; gone = false; asked = false; is_open = false; exchanges = []; why = 0 }

abbrev pub after : Seen → Asked → Answer → Seen
after s looks a = record s { directory = a.yes; gone = a.links == 0; why = a.error }
after s copies a = record s { is_open = a.error == 0; why = a.error }
after s is_removed a = record s { gone = a.yes || s.gone; asked = true }
after s closes a = record s { is_open = false }
after s q a = record s { exchanges = s.exchanges ++ (record { asked = q; answer = a } ∷ []) }

-- the copy is asked about and closed only while it is open
abbrev pub needs_open : Asked → Bool
needs_open looks = false
needs_open copies = false
needs_open q = true

abbrev pub watch : WatchOf questions Seen
watch = record { by = λ s x. after s x.asked x.answer; May = λ s q. s.is_open ≡ needs_open q }

-- The place is told. Or the witnesses didn't agree (EAGAIN): then it comes to whether the object is gone, which a
-- directory was asked. Or it comes to any other error.
abbrev pub IsTold : Seen → Told → Told → Type 0
IsTold s (Ok names) r = r ≡ Ok names
IsTold s (Err error) r =
    (error ≡ EAGAIN → s.directory ≡ true → s.asked ≡ true)
    × (r ≡ (if error == EAGAIN then lost s.gone else Err error))

-- a conversation about the place
pub record IsAsked (s : Seen) (r : Told) : Type 0 where
  pub fine : s.why ≡ 0
  pub came : Told
  pub whole : Whole (place (facts_of s.directory)) s.exchanges came
  pub told : IsTold s came r

-- The copy is closed. It came to an error before the place was asked for, or to what the conversation about it came to.
pub record Ends (s : Seen) (r : Told) : Type 0 where
  pub closed : s.is_open ≡ false
  pub told : ((s.why ≢ 0) × (s.exchanges ≡ []) × (r ≡ Err s.why)) ⊎ IsAsked s r

abbrev pub CallsHold : Type 0
CallsHold = EachHolds watch 8 at_first ask_place Ends
