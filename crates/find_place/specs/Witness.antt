-- What the kernel has answered wherever a place is told: the argument of docs/HOST-WHY.md, "NameBelow is the crux".
use Rattle.std.specs.Prelude.{◌≡◌, ◌⊎◌, ◌+◌, ◌-◌, ◌≤◌, ℕ, List, [], ◌∷◌, true, false, if◌then◌else◌, length, take, drop, Some, Ok}
use Rattle.path_text.specs.declared.path.TheConstants.{TEXT_MAX}
use Rattle.system_calls.specs.Place.{ends_as_gone, is_named, place_told}
use Rattle.system_calls.specs.Objects.{is_same_object}
use Rattle.dialogue.specs.Dialogue.{Talks, Whole}
use Rattle.find_place.specs.Place.{place}
use Rattle.find_place.specs.Questions.{Asked, Exchange, is_dead, is_top, link_again, looks_up, object_link, root_link, text_of}
use Rattle.find_place.specs.declared.places.Facts.{Facts}

-- the question was asked, and the system call didn't fail
abbrev pub Worked : Asked → Exchange → Type 0
Worked question e = (e.asked ≡ question) × (e.answer.error ≡ 0)

-- The first witness: the root's link told its path, and then the object's the place below it (proc(5)).
abbrev pub LinksTell : List ℕ → Exchange → Exchange → Type 0
LinksTell place root object =
    Worked root_link root × Worked object_link object × (place_told (text_of root) (text_of object) ≡ Some place)

-- The second witness: a look-up of just these names from the root (openat2(2), RESOLVE_BENEATH) found the object
-- itself: device, inode and mount are the same; for the root itself, which may be mounted over itself, device and
-- inode.
abbrev pub FindsObject : List ℕ → Exchange → Type 0
FindsObject place e =
    Worked (looks_up place) e × (is_same_object e.answer.held e.answer.found (is_top place) ≡ true)

-- ---- whether the object was gone

-- the object's own link was read again, and had that name still
abbrev pub NamedAgain : List ℕ → Exchange → Type 0
NamedAgain place e = Worked link_again e × (is_named (text_of e) place ≡ true)

-- the place ends as of what was removed, and the object is a directory that turned out not to be
abbrev pub IsAlive : Facts → List ℕ → Exchange → Type 0
IsAlive facts place e =
    (ends_as_gone place ≡ true) × (facts.directory ≡ true) × (e.asked ≡ is_dead) × (e.answer.yes ≡ false)

-- the same, or the place doesn't end so, and the link, read again, has that name
abbrev pub IsThere : Facts → List ℕ → Exchange → Type 0
IsThere facts place e = ((ends_as_gone place ≡ false) × NamedAgain place e) ⊎ IsAlive facts place e

-- ---- all ways in which a place is told

-- What came behind both texts. The look-up found the object, and if that isn't the root itself, it wasn't gone after
-- that. Or the second witness spoke first, right before the first question: since then the object may have left its
-- mount, and its text is a slash alone, so that is none of the root's own place; and the kernel had looked whether it
-- was removed, and called it not so, or it is a directory that wasn't.
abbrev pub IsConfirmed : Facts → List ℕ → List Exchange → Type 0
IsConfirmed facts place [] =
    (facts.seen ≡ true) × (is_top place ≡ false) × (ends_as_gone place ≡ false)
IsConfirmed facts place (e ∷ []) =
    ((is_top place ≡ true) × FindsObject place e)
    ⊎ ((facts.seen ≡ true) × (is_top place ≡ false) × IsAlive facts place e)
IsConfirmed facts place (look ∷ last ∷ []) =
    (facts.seen ≡ false) × (is_top place ≡ false) × FindsObject place look × IsThere facts place last
IsConfirmed facts place (look ∷ last ∷ more ∷ es) = ⊥

abbrev pub IsWitnessed : Facts → List ℕ → List Exchange → Type 0
IsWitnessed facts place [] = ⊥
IsWitnessed facts place (root ∷ []) = ⊥
IsWitnessed facts place (root ∷ object ∷ es) = LinksTell place root object × IsConfirmed facts place es

-- ---- the laws

-- a whole conversation that ends in this place
abbrev pub Tells : Facts → List Exchange → List ℕ → Type 0
Tells facts es names = Whole (place facts) es (Ok names)

-- Each conversation that ends in a place is witnessed.
abbrev pub PlacesAreWitnessed : Type 0
PlacesAreWitnessed =
    (facts : Facts) (es : List Exchange) (names : List ℕ) → Tells facts es names → IsWitnessed facts names es

-- no text fills its room
abbrev pub AreShort : List Exchange → Type 0
AreShort [] = Unit {0}
AreShort (e ∷ es) = (length (text_of e) ≤ TEXT_MAX) × AreShort es

-- Agreeing answers are a conversation, and tell the place.
abbrev pub AgreeingWitnessesAreTold : Type 0
AgreeingWitnessesAreTold =
    (facts : Facts) (es : List Exchange) (names : List ℕ) → AreShort es → IsWitnessed facts names es
    → Tells facts es names

-- No conversation has more than four questions, and one has four.
abbrev pub QuestionsComeToAnEnd : Type 0
QuestionsComeToAnEnd =
    ((facts : Facts) (es : List Exchange) → Talks (place facts) es (λ rest. Unit {0}) → length es ≤ 4)
    × ((facts : Facts) × (es : List Exchange) × Talks (place facts) es (λ rest. Unit {0}) × (length es ≡ 4))

-- the names are the end of the text, or its first slash
abbrev pub start_of : List ℕ → List ℕ → ℕ
start_of text names = if is_top names then 0 else length text - length names

-- the place is so many bytes of the text, from there on
pub record IsPart (text place : List ℕ) (start size : ℕ) : Type 0 where
  pub within : start + size ≤ length text
  pub bytes : take size (drop start text) ≡ place

-- The names of a place, and so of a look-up, lie in the object's text.
abbrev pub NamesLieInTheText : Type 0
NamesLieInTheText =
    (root text names : List ℕ) → place_told root text ≡ Some names
    → IsPart text names (start_of text names) (length names)
