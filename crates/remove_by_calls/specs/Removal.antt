-- A call of a removal, and what follows it: what is asked next, by what the questions before gave.
use Rattle.std.specs.Prelude.{ℕ, zero, suc, ◌+◌, ◌-◌, ◌%◌, ◌^◌, List, ◌==◌, Bool, true, false, if◌then◌else◌, nat_lt, min, Result}
use Rattle.system_calls.specs.Errors.{EAGAIN}
use Rattle.system_calls.specs.Tries.{next_try}
use Rattle.dialogue.specs.Dialogue.{DialogueOf, Protocol, RanOf, and_then, asking, ends, protocol, ran_by_of}
use Rattle.remove_by_calls.specs.Answers.{met_of}
use Rattle.remove_by_calls.specs.declared.answers.Answer.{Answer}
use Rattle.remove_by_calls.specs.declared.answers.Met.{Met}
use Rattle.remove_by_calls.specs.declared.answers.Met.TheVariants.{Gone, Deeper, Bound, Crowded, Failed}
use Rattle.remove_by_calls.specs.declared.asking.Question.{Question}
use Rattle.remove_by_calls.specs.declared.asking.Question.TheVariants.{AtRoot, InPlace, Keep, Close}
use Rattle.remove_by_calls.specs.declared.removal.Came.{Came}
use Rattle.remove_by_calls.specs.declared.removal.Came.TheVariants.{Removed, Fails, Again}
use Rattle.remove_by_calls.specs.declared.removal.Removal.{Removal}

-- ---- dialogues of calls and places

-- each is asked once
abbrev pub never : Question → Answer → Bool
never q a = false

abbrev pub steps : Protocol
steps = protocol never

abbrev pub Talk : Type 0 → Type 0
Talk E = DialogueOf steps E

-- what code has come to
abbrev pub came_to : {E : Type 0} → Result E Question → List Answer → RanOf steps E
came_to r left = ran_by_of steps (λ x. x) (λ q. q) r left

-- ---- what is kept of a removal

-- a driver's table has so many places
abbrev pub PLACES : ℕ
PLACES = 16

-- a count that a program can be given: 63 bits
abbrev pub COUNT_MAX : ℕ
COUNT_MAX = 2 ^ 63 - 1

abbrev pub begun : Removal
begun = record { removed = 0; idle = 0; outermost = 0; kept = 0 }

-- the number of the place so many further in than the outermost one; 0 follows 15
abbrev pub place_at : Removal → ℕ → ℕ
place_at r further = (r.outermost + further) % PLACES

abbrev pub inner : Removal → ℕ
inner r = place_at r (r.kept - 1)

-- a call at the root is one more try
abbrev pub tried : Removal → Removal
tried r = record r { idle = min (r.idle + 1) (2 ^ 32 - 1) }

-- a call removed so many
abbrev pub called : Removal → ℕ → Removal
called r removed = record r {
  removed = min (r.removed + removed) COUNT_MAX;
  idle = if nat_lt 0 removed then 0 else r.idle;
}

-- ---- places are kept and closed

unfoldable pub kept_one : Removal → Talk Came
kept_one r =
    and_then (asking steps (Keep (place_at r r.kept))) (λ _. ends (Again (record r { kept = min (r.kept + 1) 255 })))

unfoldable pub inner_closed : Removal → Talk Removal
inner_closed r = and_then (asking steps (Close (inner r))) (λ _. ends (record r { kept = r.kept - 1 }))

unfoldable pub outer_closed : Removal → Talk Removal
outer_closed r =
    and_then (asking steps (Close r.outermost))
    (λ _. ends (record r { outermost = (r.outermost + 1) % PLACES; kept = r.kept - 1 }))

-- so many, the innermost first
unfoldable pub all_closed : Removal → ℕ → Talk Removal
all_closed r zero = ends (record r { kept = 0 })
all_closed r (suc left) = and_then (asking steps (Close (place_at r left))) (λ _. all_closed r left)

-- ---- what follows a call

-- an error ends it, unless another try is due
abbrev pub again : Bool → Removal → ℕ → Came
again may_retry r error = if (next_try r.idle may_retry error false).due then Again r else Fails error

-- All places are done with, and what is above them is left. If nothing was removed, others were there before.
abbrev pub done : Bool → Removal → Came
done may_retry r = if r.kept == 0 then (if r.idle == 0 then Again r else again may_retry r EAGAIN) else Again r

abbrev pub crowded : Bool → ℕ → Removal → Came
crowded may_retry error r = if r.kept == 0 then again may_retry r error else Again r

unfoldable pub at_root : Bool → Removal → Met → Talk Came
at_root may_retry r Gone = ends (Removed r.removed)
at_root may_retry r Deeper = kept_one r
at_root may_retry r Bound = ends (Again r)
at_root may_retry r (Crowded error) = ends (again may_retry r error)
at_root may_retry r (Failed error) = ends (again may_retry r error)

-- Where the table is full or no descriptor is left, the outermost place goes: a call at the root comes there again.
unfoldable pub in_place : Bool → Removal → Met → Talk Came
in_place may_retry r Gone = and_then (inner_closed r) (λ left. ends (done may_retry left))
in_place may_retry r Deeper = if r.kept == PLACES then and_then (outer_closed r) kept_one else kept_one r
in_place may_retry r Bound = ends (Again r)
in_place may_retry r (Crowded error) = and_then (outer_closed r) (λ left. ends (crowded may_retry error left))
in_place may_retry r (Failed error) = and_then (all_closed r r.kept) (λ left. ends (again may_retry left error))

-- ---- a call, and what follows it

-- the pause behind so many fruitless times
abbrev pub pause_before : Removal → ℕ
pause_before r = (next_try r.idle true EAGAIN false).pause

unfoldable pub call_at_root : Bool → Removal → Talk Came
call_at_root may_retry r =
    and_then (asking steps (AtRoot (pause_before r))) (λ a. at_root may_retry (called (tried r) a.removed) (met_of a))

unfoldable pub call_in_place : Bool → Removal → Talk Came
call_in_place may_retry r =
    and_then (asking steps (InPlace (inner r))) (λ a. in_place may_retry (called r a.removed) (met_of a))

-- where no place is kept, it is at the root
unfoldable pub a_call : Bool → Removal → Talk Came
a_call may_retry r = if r.kept == 0 then call_at_root may_retry r else call_in_place may_retry r

-- ---- a removal: one call after another

abbrev pub go_on : (Removal → Talk Came) → Came → Talk Came
go_on next (Again r) = next r
go_on next other = ends other

-- so many calls at most
abbrev pub calls : Bool → ℕ → Removal → Talk Came
calls may_retry zero r = ends (Again r)
calls may_retry (suc n) r = and_then (a_call may_retry r) (go_on (calls may_retry n))

abbrev pub removal : Bool → ℕ → Talk Came
removal may_retry n = calls may_retry n begun
