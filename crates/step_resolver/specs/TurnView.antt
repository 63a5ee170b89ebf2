-- What a walk has come to, as the order of steps sees it.
use Rattle.std.specs.Prelude.{◌≡◌, ℕ, ◌+◌, ◌*◌, reverse, Bool, IsTrue, Option, None}
use Rattle.path_text.specs.declared.path.TheConstants.{PARTS_MAX}
use Rattle.path_text.specs.Reading.{Reading}
use Rattle.tree_model.specs.declared.answer.Answer.{Answer}
use Rattle.handles.specs.declared.owner.Owner.{Owner}
use Rattle.handles.specs.Objects.{ReachedObject, StandingObject}
use Rattle.walk_plan.specs.declared.goal.Goal.{Goal}
use Rattle.walk_plan.specs.declared.goal.Goal.TheVariants.{Follow}
use Rattle.step_resolver.specs.Asked.{asked, follows}
use Rattle.step_resolver.specs.Meaning.{LINKS_MAX}
use Rattle.step_resolver.specs.Order.{Way, Handle, root_itself, holds, Walking, opening, reading, rising, judging, duping, ending, closing, Turn, more, found, partial, failed, starts, take, steps_left_at}
use Rattle.walk_plan.specs.Plan.{is_own}
use Rattle.step_resolver.specs.View.{course_way, walking_of, own_to_come, IsHeldBy, IsPending}
use Rattle.step_resolver.specs.declared.course.Course.{Course}
use Rattle.step_resolver.specs.declared.pending.Next.{Next}
use Rattle.step_resolver.specs.declared.pending.Next.TheVariants as next
use Rattle.step_resolver.specs.declared.pending.Pending.{Pending}
use Rattle.step_resolver.specs.declared.pending.End.{End}
use Rattle.step_resolver.specs.declared.pending.End.TheVariants as end
use Rattle.step_resolver.specs.declared.walk.Turn.{Turn as Outcome}
use Rattle.step_resolver.specs.declared.walk.Turn.TheVariants.{More, Found, Partial, Failed}

abbrev pub standing_handle : StandingObject → Handle
standing_handle s = record { number = s.handle; node = s.node; kind = s.kind }

-- a turn as the order of steps has it: names the innermost first, and the rest of the caller's parts as they were
-- asked
abbrev pub turn_view : Goal → Outcome → Turn
turn_view goal (More walk) = more walk.walking
turn_view goal (Found standing) = found (standing_handle standing) (reverse standing.names)
turn_view goal (Partial standing rest) =
    partial (standing_handle standing) (reverse standing.names) (asked (follows goal) rest)
turn_view goal (Failed error) = failed error

-- it is still this owner's, and on this way
abbrev pub Keeps : Owner → Way → Outcome → Type 0
Keeps owner way (More walk) = (walk.owner ≡ owner) × (walk.way ≡ way)
Keeps owner way (Found standing) = standing.owner ≡ owner
Keeps owner way (Partial standing rest) = standing.owner ≡ owner
Keeps owner way (Failed error) = Unit {0}

-- the turn is the first one, with room for the walk or without
abbrev pub StartsTo : Way → Reading → Turn → Type 0
StartsTo way path turn = (room : Bool) × (turn ≡ starts way room path)

-- the turn is what the answer makes of the walk, with room for what it brings or without
abbrev pub TakesTo : Way → Walking → Answer → Turn → Type 0
TakesTo way walking answer turn = (room : Bool) × (turn ≡ take way room walking answer)

-- how many steps are to come at most; the goal is one for all, since it counts for nothing but the rest of a partial
-- end
abbrev pub steps_to_come : Outcome → ℕ
steps_to_come turn = steps_left_at (turn_view Follow turn)

-- four steps for each part passed, of the path and of forty links' texts, and four more
abbrev pub STEPS_MAX : ℕ
STEPS_MAX = 4 * (PARTS_MAX * (LINKS_MAX + 1)) + 4

-- nothing is held yet: the first name is opened from the root itself, or the root is opened again
abbrev pub IsFirstWalk : Walking → Type 0
IsFirstWalk (opening root_itself own follow n rest) = Unit {0}
IsFirstWalk (opening (holds handle names) own follow n rest) = ⊥
IsFirstWalk (reading position link rest) = ⊥
IsFirstWalk (rising handle names rest) = ⊥
IsFirstWalk (judging handle names rest) = ⊥
IsFirstWalk (duping rest) = Unit {0}
IsFirstWalk (ending handle names rest) = ⊥
IsFirstWalk (closing h hs after) = ⊥

-- ---- the same of a course

-- what comes after an answer, as a turn
abbrev pub next_turn : Course → Option ReachedObject → Next → Turn
next_turn course place (next.Due pending) = more (walking_of course.plan place pending)
next_turn course place (next.Failed error) = failed error

-- another step is due
abbrev pub IsDue : Next → Type 0
IsDue (next.Due _) = Unit {0}
IsDue (next.Failed _) = ⊥

abbrev pub IsNext : Course → Option ReachedObject → Next → Type 0
IsNext course place (next.Due pending) = IsPending course.plan place pending
IsNext course place (next.Failed error) = place ≡ None

-- the root, what the walk is after and its restrictions stay the same; what comes next is of this course, and what is
-- held then is the root's owner's
abbrev pub KeepsCourse : Course → Course → Option ReachedObject → Next → Type 0
KeepsCourse old new place next =
    (new.root ≡ old.root) × (new.plan.goal ≡ old.plan.goal) × (new.plan.flags ≡ old.plan.flags) × IsNext new place next
    × IsHeldBy old.root.owner place

-- what comes after the last check, as a turn; the rest of a partial end is in the plan
abbrev pub end_turn : Course → End → Turn
end_turn course (end.Found standing) = found (standing_handle standing) (reverse standing.names)
end_turn course (end.Partial standing) =
    partial (standing_handle standing) (reverse standing.names) (own_to_come course.plan)
end_turn course (end.Due pending) = more (walking_of course.plan None pending)

abbrev pub IsEnd : Course → End → Type 0
IsEnd course (end.Found standing) = standing.owner ≡ course.root.owner
IsEnd course (end.Partial standing) = (standing.owner ≡ course.root.owner) × IsTrue (is_own course.plan)
IsEnd course (end.Due pending) = IsPending course.plan None pending

abbrev pub TakesOn : Course → Option ReachedObject → Pending → Answer → Course → Option ReachedObject → Next → Type 0
TakesOn old held pending answer new place next =
    TakesTo (course_way old) (walking_of old.plan held pending) answer (next_turn new place next)
