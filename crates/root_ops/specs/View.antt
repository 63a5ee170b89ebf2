-- What a contract sees of a call: the order's call, read off what it holds.
use Rattle.std.specs.Prelude.{◌≡◌, ℕ, List, [], ◌∷◌, Bool, true, false, reverse}
use Rattle.tree_model.specs.declared.step.StepOf.TheVariants as steps
use Rattle.handles.specs.declared.owner.Owner.{Owner}
use Rattle.step_resolver.specs.TurnView.{standing_handle}
use Rattle.step_resolver.specs.View.{WalkView}
use Rattle.root_ops.specs.declared.aim.Aim.{Aim}
use Rattle.root_ops.specs.declared.aim.Aim.TheVariants.{Reads}
use Rattle.root_ops.specs.declared.aim.Wanted.TheVariants as wants
use Rattle.root_ops.specs.declared.below.Below.{Below}
use Rattle.root_ops.specs.declared.doing.After.{After as ToCome}
use Rattle.root_ops.specs.declared.doing.After.TheVariants.{Gives, Acts}
use Rattle.root_ops.specs.declared.doing.Doing.{Doing as Pending}
use Rattle.root_ops.specs.declared.doing.Doing.TheVariants.{Aimed, Acting, Checking, Closing, Making, Removing}
use Rattle.root_ops.specs.declared.doing.Handles.{Handles}
use Rattle.root_ops.specs.declared.doing.Handles.TheVariants.{Empty, One, Two, Three}
use Rattle.root_ops.specs.declared.doing.Next.{Next}
use Rattle.root_ops.specs.declared.doing.Next.TheVariants.{Walks, Due, Over}
use Rattle.root_ops.specs.declared.doing.Stage.{Stage}
use Rattle.root_ops.specs.declared.doing.Stage.TheVariants.{Walking, Boxed, Releasing}
use Rattle.root_ops.specs.declared.reply.Reply.{Reply as Told}
use Rattle.root_ops.specs.declared.reply.Reply.TheVariants.{Opened, Text, Done, Count, Stepped, Kept, Fault}
use Rattle.root_ops.specs.Order.{Reply, opened, link_text, done, count, stepped, kept, fault, After, gives, acts, Doing, walking, acting, checking, closing, making, removing, releasing, CallTurn, more, ends, way_of, make_way}

-- where it walks, and what is due
pub record CallView : Type 0 where
  pub below : Below
  pub doing : Doing

-- ---- what is held

abbrev pub list_of : Handles → List ℕ
list_of Empty = []
list_of (One a) = a ∷ []
list_of (Two a b) = a ∷ b ∷ []
list_of (Three a b c) = a ∷ b ∷ c ∷ []

-- a reply as the order of steps has it: names the innermost first
abbrev pub reply_view : Told → Reply
reply_view (Opened standing) = opened (standing_handle standing) (reverse standing.names)
reply_view (Text text) = link_text text
reply_view Done = done
reply_view (Count n) = count n
reply_view (Stepped answer) = stepped answer
reply_view (Kept standing) = kept standing
reply_view (Fault error) = fault error

abbrev pub after_view : ToCome → After
after_view (Gives reply) = gives (reply_view reply)
after_view (Acts wanted step held) = acts wanted step (list_of held)

-- a walk's aim is in the box
abbrev pub is_aimed : Pending → Bool
is_aimed (Aimed aim) = true
is_aimed (Acting wanted step held) = false
is_aimed (Checking old new renaming) = false
is_aimed (Closing first others after) = false
is_aimed (Making call) = false
is_aimed (Removing call) = false

-- that aim; of what is no aim any will do
abbrev pub aim_of : Pending → Aim
aim_of (Aimed aim) = aim
aim_of (Acting wanted step held) = Reads
aim_of (Checking old new renaming) = Reads
aim_of (Closing first others after) = Reads
aim_of (Making call) = Reads
aim_of (Removing call) = Reads

-- what is due where no walk is under way; of an aim without its walk any will do
abbrev pub doing_view : Pending → Doing
doing_view (Aimed aim) = acting wants.Done (steps.Close 0) []
doing_view (Acting wanted step held) = acting wanted step (list_of held)
doing_view (Checking old new renaming) = checking old new renaming
doing_view (Closing first others after) = closing first (list_of others) (after_view after)
doing_view (Making call) = making call.making
doing_view (Removing call) = removing call

-- what was opened is this owner's
abbrev pub IsOwned : Owner → Told → Type 0
IsOwned owner (Opened standing) = standing.owner ≡ owner
IsOwned owner (Text text) = Unit {0}
IsOwned owner Done = Unit {0}
IsOwned owner (Count n) = Unit {0}
IsOwned owner (Stepped answer) = Unit {0}
IsOwned owner (Kept standing) = Unit {0}
IsOwned owner (Fault error) = Unit {0}

-- so is what a reply to come holds
abbrev pub IsAfter : Below → ToCome → Type 0
IsAfter below (Gives reply) = IsOwned below.root.owner reply
IsAfter below (Acts wanted step held) = Unit {0}

-- a walk under way is the root's owner's, and as the restrictions and the aim say
abbrev pub IsOurWalk : Below → WalkView → Aim → Type 0
IsOurWalk below walk aim = (walk.owner ≡ below.root.owner) × (walk.way ≡ way_of below aim)

-- so is what makes directories; and no aim is without its walk
abbrev pub IsOurs : Below → Pending → Type 0
IsOurs below (Aimed aim) = ⊥
IsOurs below (Acting wanted step held) = Unit {0}
IsOurs below (Checking old new renaming) = Unit {0}
IsOurs below (Closing first others after) = IsAfter below after
IsOurs below (Making call) = (call.owner ≡ below.root.owner) × (call.way ≡ make_way below)
IsOurs below (Removing call) = Unit {0}

-- no bulk call is under way there
abbrev pub HoldsNoCall : Pending → Type 0
HoldsNoCall (Aimed aim) = Unit {0}
HoldsNoCall (Acting wanted step held) = Unit {0}
HoldsNoCall (Checking old new renaming) = Unit {0}
HoldsNoCall (Closing first others after) = Unit {0}
HoldsNoCall (Making call) = ⊥
HoldsNoCall (Removing call) = ⊥

-- ---- what comes next

abbrev pub next_view : Next → CallTurn
next_view (Walks walk aim) = more (walking walk.walking aim)
next_view (Due doing) = more (doing_view doing)
next_view (Over reply) = ends (reply_view reply)

abbrev pub IsNext : Below → Next → Type 0
IsNext below (Walks walk aim) = IsOurWalk below walk aim
IsNext below (Due doing) = IsOurs below doing
IsNext below (Over reply) = IsOwned below.root.owner reply

-- ---- a call

abbrev pub stage_view : Stage → Doing
stage_view (Walking walk box) = walking walk.walking (aim_of box.value)
stage_view (Boxed doing) = doing_view doing.value
stage_view (Releasing handle) = releasing handle

abbrev pub call_view : Below → Stage → CallView
call_view below stage = record { below = below; doing = stage_view stage }

abbrev pub IsStage : Below → Stage → Type 0
IsStage below (Walking walk box) = (is_aimed box.value ≡ true) × IsOurWalk below walk (aim_of box.value)
IsStage below (Boxed doing) = IsOurs below doing.value
IsStage below (Releasing handle) = Unit {0}
