-- A try of so much of a path: what is asked next, by what the questions before gave.
use Rattle.std.specs.Prelude.{ℕ, zero, suc, ◌+◌, ◌-◌, ◌/◌, List, ◌==◌, Bool, false, not, ◌&&◌, ◌||◌, if◌then◌else◌, nat_lt, Option, Some, None, Result}
use Rattle.system_calls.specs.Errors.{ENOENT, ENOTDIR}
use Rattle.dialogue.specs.Dialogue.{DialogueOf, Protocol, RanOf, and_then, asking, ends, protocol, ran_by_of}
use Rattle.open_partial.specs.declared.asking.Outcome.{Outcome}
use Rattle.open_partial.specs.declared.asking.Question.{Question}
use Rattle.open_partial.specs.declared.asking.Question.TheVariants.{Try, Close}
use Rattle.open_partial.specs.declared.search.Came.{Came}
use Rattle.open_partial.specs.declared.search.Came.TheVariants.{Found, Failed, Again}
use Rattle.open_partial.specs.declared.search.Search.{Search}

-- ---- dialogues of tries

-- each is asked once
abbrev pub never : Question → Outcome → Bool
never q a = false

abbrev pub pieces_of : Protocol
pieces_of = protocol never

abbrev pub Talk : Type 0 → Type 0
Talk E = DialogueOf pieces_of E

-- what code has come to
abbrev pub came_to : {E : Type 0} → Result E Question → List Outcome → RanOf pieces_of E
came_to r left = ran_by_of pieces_of (λ x. x) (λ q. q) r left

-- ---- a try

-- a name isn't there; or what stands before another one is no directory (path_resolution(7))
abbrev pub is_missing : ℕ → Bool
is_missing error = (error == ENOENT) || (error == ENOTDIR)

-- nothing is known to be missing
abbrev pub begun : ℕ → Search
begun pieces = record { pieces = pieces; there = 0; missing = suc pieces; held = None }

abbrev pub is_whole : Search → Bool
is_whole s = nat_lt s.pieces s.missing

-- half of the pieces between what is there and what is missing; where none lie there, it is no piece
abbrev pub middle : Search → ℕ
middle s = s.there + (s.missing - s.there) / 2

abbrev pub tried : Search → ℕ
tried s = if is_whole s then s.pieces else middle s

-- nothing lies between
abbrev pub found : Search → Option ℕ → Came
found s (Some fd) = Found s.there fd
found s None = Again s

abbrev pub seen : Search → Came
seen s = if nat_lt (suc s.there) s.missing then Again s else found s s.held

unfoldable pub closed : Option ℕ → Came → Talk Came
closed (Some fd) came = and_then (asking pieces_of (Close fd)) (λ _. ends came)
closed None came = ends came

-- What was open is closed, since more is there, or by an error. What is there of no piece is all that can be missing.
unfoldable pub tried_so : ℕ → Search → Outcome → Talk Came
tried_so n s a =
    if a.error == 0 then closed s.held (seen (record s { there = n; held = Some a.descriptor }))
    else (if is_missing a.error && not (n == 0) then ends (seen (record s { missing = n }))
    else closed s.held (Failed a.error))

unfoldable pub a_try : Search → Talk Came
a_try s = and_then (asking pieces_of (Try (tried s) (is_whole s))) (tried_so (tried s) s)

-- ---- a search: one try after another

abbrev pub go_on : (Search → Talk Came) → Came → Talk Came
go_on next (Again s) = next s
go_on next other = ends other

-- so many tries at most
abbrev pub searches : ℕ → Search → Talk Came
searches zero s = ends (Again s)
searches (suc n) s = and_then (a_try s) (go_on (searches n))

-- of a path of so many pieces
abbrev pub search : ℕ → Talk Came
search pieces = searches (suc pieces) (begun pieces)
