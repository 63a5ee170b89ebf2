-- How many parts a trail passes, and how many steps a walk makes for them: the statement of the law.
-- path_resolution(7); openat2(2).
use Rattle.std.specs.Prelude.{◌≡◌, ℕ, suc, ◌+◌, ◌*◌, ◌≤◌, ◌⊎◌, List, [], ◌∷◌, ◌++◌, length, Option}
use Rattle.path_text.specs.declared.errno.Errno.{Errno}
use Rattle.path_text.specs.declared.errno.Errno.TheVariants.{NotFound, BadHandle, Raced, NoMemory, Busy, Exists, CrossRoot, NotDir, IsDir, Invalid, TooMany, BookFull, TooLong, NotEmpty, Loop}
use Rattle.path_text.specs.Text.{parts_of}
use Rattle.tree_model.specs.declared.answer.Answer.{Answer}
use Rattle.tree_model.specs.declared.answer.Answer.TheVariants.{Text}
use Rattle.tree_model.specs.StepWith.{StepWith}
use Rattle.tree_model.specs.declared.step.StepOf.TheVariants.{ReadLink}
use Rattle.step_resolver.specs.Asked.{AskedPart}
use Rattle.step_resolver.specs.Trail.{Timeline, Spot, Trail, all, before, stay, top, climb, down, through, into}
use Rattle.step_resolver.specs.Order.{Turn, more, found, partial, failed, begins, Line, answered, no_room, not_made, LeadsTo}
use Rattle.step_resolver.specs.WalkHistory.{WalkInHistory, IsWalkInHistory, timeline, parts_of_walk, start}
use Rattle.step_resolver.specs.StepCount.{walk_passed}
use Rattle.step_resolver.specs.Failures.{TellsNotFound, TellsNotDir, TellsTooLong, TellsLoop, TellsUpFromRoot, TellsAbsoluteLink, TellsRacedUp, TellsRacedEnd, TellsRacedDeepest}
use Rattle.step_resolver.specs.Headline.{Opens, OpensDeepest}

-- The parts that a trail, or a stop, passes: each `.`, each `..`, each name, and of a link that it goes through the
-- parts of its text too. Where it stops within a link's text, the link's name is passed.
abbrev pub passes_in : {timeline : Timeline} {ps : List AskedPart} {s z : Spot} {next : Option AskedPart}
    → Trail timeline ps s z next → ℕ
passes_in (all m le) = 0
passes_in (stay dir rest) = suc (passes_in rest)
passes_in (top is rest) = suc (passes_in rest)
passes_in (climb t u e names is rest) = suc (passes_in rest)
passes_in (down t c is entered rest) = suc (passes_in rest)
passes_in (through t text b mid is sub rest) = suc (passes_in sub + passes_in rest)
passes_in (before m le) = 0
passes_in (into t text b is sub) = suc (passes_in sub)

-- the parts of the text that an answer to a ReadLink tells
abbrev pub parts_told : Answer → ℕ
parts_told (Text text) = length (parts_of text)
parts_told _ = 0

abbrev pub parts_told_by : StepWith ℕ → Answer → ℕ
parts_told_by (ReadLink h) answer = parts_told answer
parts_told_by _ answer = 0

-- the parts of the texts that a walk read
abbrev pub parts_read : List Line → ℕ
parts_read [] = 0
parts_read (answered step answer ∷ lines) = parts_told_by step answer + parts_read lines
parts_read (no_room step answer ∷ lines) = parts_told_by step answer + parts_read lines
parts_read (not_made error ∷ lines) = parts_read lines

-- what a walk meets where it comes past these of its path's parts: them, and the parts of the texts that it read
abbrev pub parts_met : WalkInHistory → List AskedPart → ℕ
parts_met w front = length front + parts_read w.lines

-- Where so many parts are passed, the walk was told at most four lines for each of them, and four more. Each step
-- that it made is a line. No more parts are passed than it met.
abbrev pub IsFewFor : WalkInHistory → List AskedPart → ℕ → Type 0
IsFewFor w front passes = (length w.lines ≤ 4 * passes + 4) × (passes ≤ parts_met w front)

-- the same where just those are passed that it met; they are just those that it took off its plan
abbrev pub IsFewForAll : WalkInHistory → List AskedPart → ℕ → Type 0
IsFewForAll w front passes = (length w.lines ≤ 4 * passes + 4) × (passes ≡ parts_met w front)
    × (passes ≡ walk_passed w.way w.path w.lines)

-- There is a trail or a stop over the first of the path's parts, and the walk was told few lines for what it passes.
pub record FewOnTheWay (w : WalkInHistory) : Type 0 where
  pub front : List AskedPart
  pub rest : List AskedPart
  pub parts : parts_of_walk w ≡ front ++ rest
  pub to : Spot
  pub next : Option AskedPart
  pub trail : Trail (timeline w) front (start w) to next
  pub few : IsFewFor w front (passes_in trail)

-- A walk that failed was told few lines for what is passed by the stop, or the trail, that its error tells of. EXDEV
-- may come before any line. Want of memory, of room in the book and of handles tells of no stop.
abbrev pub FewUpTo : WalkInHistory → Errno → Type 0
FewUpTo w NotFound = (tells : TellsNotFound w) × IsFewFor w (parts_of_walk w) (passes_in tells.stop)
FewUpTo w NotDir = (tells : TellsNotDir w) × IsFewFor w (parts_of_walk w) (passes_in tells.stop)
FewUpTo w TooLong = (tells : TellsTooLong w) × IsFewFor w (parts_of_walk w) (passes_in tells.stop)
FewUpTo w Loop = (tells : TellsLoop w) × IsFewFor w (parts_of_walk w) (passes_in tells.stop)
FewUpTo w CrossRoot = (w.lines ≡ [])
    ⊎ (((tells : TellsUpFromRoot w) × IsFewFor w (parts_of_walk w) (passes_in tells.stop))
    ⊎ ((tells : TellsAbsoluteLink w) × IsFewFor w (parts_of_walk w) (passes_in tells.stop)))
FewUpTo w Raced = ((tells : TellsRacedUp w) × IsFewFor w (parts_of_walk w) (passes_in tells.stop))
    ⊎ (((tells : TellsRacedEnd w) × IsFewFor w (parts_of_walk w) (passes_in tells.trail))
    ⊎ ((tells : TellsRacedDeepest w) × IsFewFor w tells.front (passes_in tells.trail)))
FewUpTo w TooMany = FewOnTheWay w
FewUpTo w NoMemory = FewOnTheWay w
FewUpTo w BookFull = FewOnTheWay w
FewUpTo w BadHandle = ⊥
FewUpTo w Busy = ⊥
FewUpTo w Exists = ⊥
FewUpTo w IsDir = ⊥
FewUpTo w Invalid = ⊥
FewUpTo w NotEmpty = ⊥

-- A walk that opens an object, or the deepest directory, was told few lines for what its trail passes: all that it met.
-- Each trail and stop is one of those that the headline tells of.
abbrev pub FewLines : WalkInHistory → Turn → Type 0
FewLines w (more walk) = FewOnTheWay w
FewLines w (found handle names) = (opens : Opens w handle names)
    × IsFewForAll w (parts_of_walk w) (passes_in opens.trail)
FewLines w (partial handle names rest) = (opens : OpensDeepest w handle names rest)
    × IsFewForAll w opens.front (passes_in opens.trail)
FewLines w (failed error) = FewUpTo w error

-- It is so of every walk in every legal history, whatever others do in between.
abbrev pub StepsByTrail : Type 0
StepsByTrail = (w : WalkInHistory) (end : Turn) → IsWalkInHistory w
    → LeadsTo w.way (begins w.way w.path) w.lines end → FewLines w end
