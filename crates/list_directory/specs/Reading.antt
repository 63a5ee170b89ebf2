-- A part of a listing: what is asked next, by what the questions before gave.
use Rattle.std.specs.Prelude.{ℕ, zero, suc, List, ◌==◌, Bool, false, not, ◌||◌, if◌then◌else◌, Option, Some, None, Result}
use Rattle.system_calls.specs.Errors.{EINTR, ENOENT}
use Rattle.dialogue.specs.Dialogue.{DialogueOf, Protocol, RanOf, and_then, asking, ends, protocol, ran_by_of}
use Rattle.list_directory.specs.declared.asking.Outcome.{Outcome}
use Rattle.list_directory.specs.declared.asking.Question.{Question}
use Rattle.list_directory.specs.declared.asking.Question.TheVariants.{Open, Read, Close, Sort}
use Rattle.list_directory.specs.declared.reading.Came.{Came}
use Rattle.list_directory.specs.declared.reading.Came.TheVariants.{Listed, Failed, Again}
use Rattle.list_directory.specs.declared.reading.Listing.{Listing}

-- ---- dialogues of listings

-- each is asked once
abbrev pub never : Question → Outcome → Bool
never q a = false

abbrev pub listing_of : Protocol
listing_of = protocol never

abbrev pub Talk : Type 0 → Type 0
Talk E = DialogueOf listing_of E

-- what code has come to
abbrev pub came_to : {E : Type 0} → Result E Question → List Outcome → RanOf listing_of E
came_to r left = ran_by_of listing_of (λ x. x) (λ q. q) r left

-- ---- a part

abbrev pub sorted : ℕ → ℕ → Came
sorted used error = if error == 0 then Listed used else Failed error

-- close(2) ends the reading; names are sorted where there is no error
unfoldable pub finished : ℕ → ℕ → ℕ → Talk Came
finished directory used error =
    and_then (asking listing_of (Close directory))
    (λ _. if not (error == 0) then ends (Failed error)
    else and_then (asking listing_of (Sort used)) (λ a. ends (sorted used a.error)))

abbrev pub at : ℕ → ℕ → Listing
at directory used = record { directory = Some directory; used = used }

-- getdents64(2): a signal came (EINTR, signal(7)); the directory is gone (ENOENT); another error, or no more names
unfoldable pub read_so : ℕ → ℕ → Outcome → Talk Came
read_so directory used a =
    if a.error == EINTR then ends (Again (at directory used))
    else (if a.error == ENOENT then finished directory used 0
    else (if not (a.error == 0) || a.last then finished directory a.used a.error
    else ends (Again (at directory a.used))))

unfoldable pub read : ℕ → ℕ → Talk Came
read directory used = and_then (asking listing_of (Read directory)) (read_so directory used)

-- openat(2): a signal came, before anything was opened
abbrev pub opened : Listing → Outcome → Talk Came
opened l a =
    if a.error == 0 then read a.descriptor l.used
    else (if a.error == EINTR then ends (Again l) else ends (Failed a.error))

abbrev pub part_by : Listing → Option ℕ → Talk Came
part_by l (Some directory) = read directory l.used
part_by l None = and_then (asking listing_of Open) (opened l)

unfoldable pub a_part : Listing → Talk Came
a_part l = part_by l l.directory

-- ---- a listing: one part after another

abbrev pub at_first : Listing
at_first = record { directory = None; used = 0 }

abbrev pub go_on : (Listing → Talk Came) → Came → Talk Came
go_on next (Again l) = next l
go_on next other = ends other

-- the first parts, so many at most
abbrev pub parts : ℕ → Listing → Talk Came
parts zero l = ends (Again l)
parts (suc n) l = and_then (a_part l) (go_on (parts n))
