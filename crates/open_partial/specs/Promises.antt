-- What holds of whole conversations.
use Rattle.std.specs.Prelude.{◌≡◌, ◌≢◌, ◌⊎◌, ℕ, suc, ◌*◌, [], ◌∷◌, false, Some}
use Rattle.dialogue.specs.Holds.{EachHolds}
use Rattle.open_partial.specs.Search.{is_missing, search}
use Rattle.open_partial.specs.Seen.{Seen, at_first, opening, watch}
use Rattle.open_partial.specs.declared.search.Came.{Came}
use Rattle.open_partial.specs.declared.search.Came.TheVariants.{Found, Failed, Again}

-- What is given was opened by a try of so many pieces, and nothing else is open. These are all, or a try of one piece
-- more found something missing.
pub record IsFound (pieces : ℕ) (s : Seen) (there fd : ℕ) : Type 0 where
  pub held : s.held ≡ fd ∷ []
  pub opened : s.opened ≡ Some (opening there fd)
  pub no_more : (there ≡ pieces) ⊎ (s.missed ≡ Some (suc there))

-- The last try ended by this error, and if that says that something is missing, it was of no piece. Nothing is open.
pub record IsWhy (s : Seen) (error : ℕ) : Type 0 where
  pub held : s.held ≡ []
  pub some : error ≢ 0
  pub gave : s.error ≡ error
  pub why : (is_missing error ≡ false) ⊎ (s.tried ≡ 0)

abbrev pub Ends : ℕ → Seen → Came → Type 0
Ends pieces s (Found there fd) = IsFound pieces s there fd
Ends pieces s (Failed error) = IsWhy s error
Ends pieces s (Again next) = ⊥

abbrev pub TriesHold : Type 0
TriesHold = (pieces : ℕ) → EachHolds (watch pieces) (2 * suc pieces) at_first (search pieces) (Ends pieces)
