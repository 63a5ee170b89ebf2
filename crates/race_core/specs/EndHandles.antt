-- The handles of each actor in a report, and at its end: statements of laws.
use Rattle.std.specs.Prelude.{◌≡◌, ◌==◌, ℕ, List, [], ◌∷◌, ◌++◌, if◌then◌else◌, Option, Some, None}
use Rattle.handles.specs.Objects.{StandingObject}
use Rattle.tree_model.specs.declared.answer.Event.{Event}
use Rattle.tree_model.specs.History.{after_events}
use Rattle.tree_model.specs.Steps.{held}
use Rattle.step_resolver.specs.declared.walk.Root.{Root}
use Rattle.root_ops.specs.declared.op.Op.{Op}
use Rattle.root_ops.specs.declared.op.Op.TheVariants.{Resolve, ResolveNoFollow, ReadLink, CreateFile, CreateDir, CreateLink, RemoveFile, RemoveDir, Rename, MkdirAll, RemoveAll, Single, Release}
use Rattle.root_ops.specs.declared.op.Request.{Request}
use Rattle.root_ops.specs.Order.{Reply, opened, link_text, done, count, stepped, kept, fault}
use Rattle.race_core.specs.declared.plan.ActorPlan.{ActorPlan}
use Rattle.race_core.specs.Turns.{request_of}
use Rattle.race_core.specs.WorldCalls.{WholeRun, opening_of, root_of, CallMade, kept_after, kept_after_all, ReleasesOwn, IsDoneIfKept, ActorsCalls}

-- what a call's reply says of a handle: it is open on that node from now on, or closed
pub record Word : Type 0 where
  pub handle : ℕ
  pub node : Option ℕ

-- a Release that is done has closed its handle
abbrev pub words_of_done : Op → List Word
words_of_done (Resolve path) = []
words_of_done (ResolveNoFollow path) = []
words_of_done (ReadLink path) = []
words_of_done (CreateFile path) = []
words_of_done (CreateDir path) = []
words_of_done (CreateLink path text) = []
words_of_done (RemoveFile path) = []
words_of_done (RemoveDir path) = []
words_of_done (Rename old new mode) = []
words_of_done (MkdirAll path) = []
words_of_done (RemoveAll path) = []
words_of_done (Single step) = []
words_of_done (Release standing) = record { handle = standing.handle; node = None } ∷ []

abbrev pub words_of : Op → Reply → List Word
words_of op (opened handle names) = record { handle = handle.number; node = Some handle.node } ∷ []
words_of op (link_text text) = []
words_of op done = words_of_done op
words_of op (count n) = []
words_of op (stepped answer) = []
words_of op (kept standing) = []
words_of op (fault error) = []

-- a call that asked for nothing says nothing
abbrev pub words_of_call : Option Request → Reply → List Word
words_of_call None reply = []
words_of_call (Some request) reply = words_of request.op reply

abbrev pub all_words : Root → List (Option StandingObject) → List CallMade → List Word
all_words root standings [] = []
all_words root standings (c ∷ calls) =
    words_of_call (request_of root standings c.planned) c.reply
    ++ all_words root (kept_after root.owner standings c) calls

-- what the last of these words on the handle says; without one it is as it was
abbrev pub last_word : Option ℕ → ℕ → List Word → Option ℕ
last_word before h [] = before
last_word before h (word ∷ words) = last_word (if word.handle == h then word.node else before) h words

-- At the end an actor's open handles are those from the opening, its root among them, and those that its calls
-- opened, less those that a Release of its own closed, each on its node; and nothing else. Its plan closes only what
-- its calls opened.
abbrev pub HandlesAtEnd : Type 0
HandlesAtEnd = (r : WholeRun) (i : ℕ) (plan : ActorPlan) (of : ActorsCalls r i plan)
    → ReleasesOwn (root_of r i).owner plan.calls
    → (h : ℕ) → held r.tree i h ≡ last_word (held (opening_of r) i h) h (all_words (root_of r i) [] of.calls)

-- At each moment of a report the root of an actor whose plan closes only what its calls opened is open, its own, and
-- on the same node.
abbrev pub RootsStayOpen : Type 0
RootsStayOpen = (r : WholeRun) (i : ℕ) (plan : ActorPlan) (of : ActorsCalls r i plan) (before after : List Event)
    → ReleasesOwn (root_of r i).owner plan.calls
    → r.events ≡ before ++ after → held (after_events (opening_of r) before) i (root_of r i).handle ≡ Some of.node

-- A Release of what a call of the actor opened and still keeps is done: such a plan's calls keep what they opened
-- open until then.
abbrev pub KeptIsReleased : Type 0
KeptIsReleased = (r : WholeRun) (i : ℕ) (plan : ActorPlan) (of : ActorsCalls r i plan) (earlier : List CallMade)
    (c : CallMade) (later : List CallMade)
    → ReleasesOwn (root_of r i).owner plan.calls → of.calls ≡ earlier ++ c ∷ later
    → IsDoneIfKept (kept_after_all (root_of r i).owner [] earlier) c
