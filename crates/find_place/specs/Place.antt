-- At which names an object stands: what is asked, one question after another. Witness.antt says what that is worth.
-- Errors are numbers of errno(3).
use Rattle.std.specs.Prelude.{ℕ, List, ◌==◌, Bool, false, not, ◌&&◌, ◌||◌, if◌then◌else◌, nat_lt, length, Option, Some, None, Ok, Err}
use Rattle.path_text.specs.declared.path.TheConstants.{TEXT_MAX}
use Rattle.system_calls.specs.Errors.{ENOENT, EAGAIN, ENAMETOOLONG, ENOSYS}
use Rattle.system_calls.specs.Objects.{is_elsewhere, is_same_object}
use Rattle.system_calls.specs.Place.{ends_as_gone, is_named, place_told}
use Rattle.dialogue.specs.Dialogue.{and_then, asking, ends}
use Rattle.find_place.specs.Questions.{Asked, Talk, Told, closes, copies, is_dead, is_removed, is_top, link_again, looks, looks_up, object_link, questions, root_link}
use Rattle.find_place.specs.declared.questions.Answer.{Answer}
use Rattle.find_place.specs.declared.places.Facts.{Facts}

-- ---- texts

-- Why no text was read. Where /proc has no such link it is no /proc; readlink(2) may have cut off what fills 4,096
-- bytes.
abbrev pub link_error : Answer → ℕ
link_error a =
    if a.error == ENOENT then ENOSYS
    else (if (a.error == 0) && nat_lt TEXT_MAX (length a.text.now) then ENAMETOOLONG else a.error)

abbrev pub link_told : Answer → Told
link_told a = if link_error a == 0 then Ok a.text.now else Err (link_error a)

unfoldable pub link : Asked → Talk Told
link q = and_then (asking questions q) (λ a. ends (link_told a))

abbrev pub with_text : Told → (List ℕ → Talk Told) → Talk Told
with_text (Ok text) f = f text
with_text (Err error) f = ends (Err error)

-- the texts tell a place, or the object is being moved
abbrev pub with_place : Option (List ℕ) → (List ℕ → Talk Told) → Talk Told
with_place None f = ends (Err EAGAIN)
with_place (Some place) f = f place

-- ---- whether it is gone

abbrev pub place_if : Bool → List ℕ → Told
place_if is place = if is then Ok place else Err EAGAIN

-- What isn't called deleted may be so all the same: the link is read again. What is called so may have such a name:
-- that a directory can be asked.
unfoldable pub is_there : Facts → List ℕ → Talk Told
is_there facts place =
    if not (ends_as_gone place)
    then and_then (link link_again) (λ r. with_text r (λ again. ends (place_if (is_named again place) place)))
    else (if not facts.directory then ends (Err EAGAIN)
    else and_then (asking questions is_dead) (λ a. ends (place_if (not a.yes) place)))

-- ---- the look-up

-- Both objects were looked at, and are the same: device, inode and mount are. The root may be mounted over itself.
abbrev pub finds_object : List ℕ → Answer → Bool
finds_object place a = (a.error == 0) && is_same_object a.held a.found (is_top place)

abbrev pub look_up_error : ℕ → ℕ
look_up_error error = if (error == 0) || is_elsewhere error then EAGAIN else error

abbrev pub looked_up : Facts → List ℕ → Answer → Talk Told
looked_up facts place a =
    if not (finds_object place a) then ends (Err (look_up_error a.error))
    else (if is_top place then ends (Ok place) else is_there facts place)

-- What was seen below the root isn't looked up again. A slash alone is the text of the root itself, and of what has
-- left its mount.
unfoldable pub confirmed : Facts → List ℕ → Talk Told
confirmed facts place =
    if facts.seen && not (is_top place)
    then (if ends_as_gone place then is_there facts place else ends (Ok place))
    else and_then (asking questions (looks_up place)) (looked_up facts place)

-- ---- the place

abbrev pub below_root : Facts → List ℕ → Talk Told
below_root facts root =
    and_then (link object_link) (λ r. with_text r (λ text. with_place (place_told root text) (confirmed facts)))

unfoldable pub place : Facts → Talk Told
place facts = and_then (link root_link) (λ r. with_text r (below_root facts))

-- ---- of a program's descriptor

abbrev pub lost : Bool → Told
lost gone = Err (if gone then ENOENT else EAGAIN)

-- the witnesses didn't agree (EAGAIN); it had no name left (inode(7)); only of a directory there is more to ask
unfoldable pub unfound : Answer → ℕ → Talk Told
unfound looked error =
    if not (error == EAGAIN) then ends (Err error)
    else (if not looked.yes then ends (lost (looked.links == 0))
    else and_then (asking questions is_removed) (λ a. ends (lost (a.yes || (looked.links == 0)))))

abbrev pub facts_of : Bool → Facts
facts_of directory = record { directory = directory; seen = false }

abbrev pub or_unfound : Answer → Told → Talk Told
or_unfound looked (Ok place) = ends (Ok place)
or_unfound looked (Err error) = unfound looked error

unfoldable pub found : Answer → Talk Told
found looked = and_then (place (facts_of looked.yes)) (or_unfound looked)

abbrev pub closing : Told → Talk Told
closing r = and_then (asking questions closes) (λ _. ends r)

abbrev pub copied : Answer → Answer → Talk Told
copied looked a = if not (a.error == 0) then ends (Err a.error) else and_then (found looked) closing

abbrev pub looked : Answer → Talk Told
looked a = if not (a.error == 0) then ends (Err a.error) else and_then (asking questions copies) (copied a)

unfoldable pub ask_place : Talk Told
ask_place = and_then (asking questions looks) looked
