-- What holds of whole conversations.
use Rattle.std.specs.Prelude.{◌≡◌, ◌≢◌, ◌≤◌, ℕ, List, [], ◌∷◌, length, true, bit_and, Some, Result, Ok, Err}
use Rattle.dialogue.specs.Dialogue.{Exchange, Whole, without_signals}
use Rattle.dialogue.specs.Holds.{AllMay, state_after}
use Rattle.dialogue.specs.declared.calls.Answer.{Answer}
use Rattle.give_entry.specs.Giving.{give, look_error}
use Rattle.give_entry.specs.Seen.{KIND, Seen, Wish, at_first, is_as_made, watch}
use Rattle.give_entry.specs.declared.giving.Made.{Made}
use Rattle.give_entry.specs.declared.giving.Made.TheVariants.{Name, File, Entry}

-- what the exchanges come to, except signals
abbrev pub seen_of : Wish → List Exchange → Seen
seen_of w es = state_after (watch w) (at_first w.made) (without_signals es)

abbrev pub Gives : Wish → List Exchange → Result ℕ ℕ → Type 0
Gives w es r = Whole (give w.opening w.made w.text w.read) es r

-- of a link (S_IFLNK) the text tells that it is the one; of an object with another name, or a file, its descriptor
abbrev pub IsIdentified : Made → Seen → Type 0
IsIdentified (Name other) s = s.same ≡ true
IsIdentified (File other) s = s.same ≡ true
IsIdentified (Entry mode number) s = bit_and mode KIND ≡ 40960 → s.text ≡ true

-- it was opened by the entry's name, and looked at since
pub record IsTheOne (w : Wish) (s : Seen) (fd : ℕ) : Type 0 where
  pub opened : s.entry ≡ Some fd
  pub about : Answer
  pub looked : s.looked ≡ Some about
  pub answered : look_error about ≡ 0
  pub as_made : is_as_made w.made about.mode about.node ≡ true
  pub identified : IsIdentified w.made s

-- what is given is open beside these
abbrev pub left : List ℕ → Result ℕ ℕ → List ℕ
left held (Ok fd) = fd ∷ held
left held (Err error) = held

abbrev pub IsGiven : Result ℕ ℕ → Type 0
IsGiven (Ok fd) = Unit {0}
IsGiven (Err error) = ⊥

-- ---- laws

abbrev pub FewCome : Type 0
FewCome = (w : Wish) (es : List Exchange) (r : Result ℕ ℕ) → Gives w es r → length (without_signals es) ≤ 5

abbrev pub EachIsClosed : Type 0
EachIsClosed = (w : Wish) (es : List Exchange) (r : Result ℕ ℕ) → Gives w es r
    → AllMay (watch w) (at_first w.made) (without_signals es) × ((seen_of w es).held ≡ left [] r)

abbrev pub GivesTheOne : Type 0
GivesTheOne = (w : Wish) (es : List Exchange) (fd : ℕ) → Gives w es (Ok fd) → IsTheOne w (seen_of w es) fd

abbrev pub FailsByTheLast : Type 0
FailsByTheLast = (w : Wish) (es : List Exchange) (error : ℕ) → Gives w es (Err error)
    → (error ≢ 0) × (error ≡ (seen_of w es).why)

abbrev pub GivesWhatFits : Type 0
GivesWhatFits = (w : Wish) (es : List Exchange) (r : Result ℕ ℕ) → Gives w es r → (seen_of w es).why ≡ 0
    → IsGiven r
