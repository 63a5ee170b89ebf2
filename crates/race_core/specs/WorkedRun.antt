-- One run of a world, computed: an actor renames /secret to /moved, and then another resolves `/moved`, undisturbed.
use Rattle.std.specs.Prelude.{◌≡◌, ℕ, List, [], ◌∷◌, true, false, Some, codes, slice_get}
use Rattle.tree_model.specs.declared.answer.Answer.TheVariants.{Opened, Names, Done}
use Rattle.tree_model.specs.declared.answer.Event.{Event}
use Rattle.tree_model.specs.declared.step.Kind.TheVariants as kind
use Rattle.tree_model.specs.declared.step.Mode.TheVariants.{Plain}
use Rattle.tree_model.specs.declared.step.StepOf.TheVariants.{Open, NameBelow, Rename}
use Rattle.tree_model.specs.BaseTree.{base_nodes, base_tree}
use Rattle.tree_model.specs.State.{State}
use Rattle.walk_plan.specs.declared.goal.Goal.TheVariants.{Follow}
use Rattle.step_resolver.specs.Footprint.{is_want}
use Rattle.step_resolver.specs.WalkHistory.{WalkInHistory, own_events}
use Rattle.root_ops.specs.declared.op.Op.TheVariants.{Resolve}
use Rattle.root_ops.specs.declared.op.Request.{Request}
use Rattle.race_core.specs.declared.plan.ActorPlan.{ActorPlan}
use Rattle.race_core.specs.declared.plan.Planned.{Planned}
use Rattle.race_core.specs.declared.plan.Planned.TheVariants as planned
use Rattle.race_core.specs.declared.plan.Ref.TheVariants as ref
use Rattle.race_core.specs.declared.report.Outcome.{Outcome}
use Rattle.race_core.specs.declared.report.Outcome.TheVariants as outcome
use Rattle.race_core.specs.Book.{opened_book, tree_now}
use Rattle.race_core.specs.Ledgers.{LedgerView}
use Rattle.race_core.specs.Opening.{seats_of}
use Rattle.race_core.specs.OneReport.{full}
use Rattle.race_core.specs.Turns.{opened_ledger, plain}
use Rattle.race_core.specs.Worlds.{WorldView, turn, ledgers_in, replies_in, kept_in}
use Rattle.race_core.specs.WorldCalls.{WholeRun, IsRun, CallMade}
use Rattle.race_core.specs.WorldLaws.{IsWindow, walk_of_resolve, ResolveTells}

abbrev pub moved : List ℕ
moved = codes "moved"

-- ---- the world

abbrev pub renames : List Planned
renames = planned.Single (Rename ref.Root (codes "secret") ref.Root moved Plain) ∷ []

abbrev pub request : Request
request = record { flags = plain; op = Resolve moved }

abbrev pub resolves : List Planned
resolves = planned.Call request ∷ []

abbrev pub plans : List ActorPlan
plans = record { root = []; calls = renames } ∷ record { root = []; calls = resolves } ∷ []

-- both roots are the top
abbrev pub opening : State
opening = record {
  nodes = base_nodes;
  handles = Some (record { actor = 0; node = 0 }) ∷ Some (record { actor = 1; node = 0 }) ∷ [];
}

abbrev pub ledgers : List LedgerView
ledgers =
    opened_ledger (record { owner = record { tag = 0; actor = 0 }; handle = 0 }) renames
    ∷ opened_ledger (record { owner = record { tag = 0; actor = 1 }; handle = 1 }) resolves
    ∷ []

abbrev pub world : WorldView
world = record { book = opened_book opening 8; seats = seats_of ledgers; spent = false }

-- ---- its turns

abbrev pub renamed : WorldView
renamed = turn full world 0

abbrev pub end : WorldView
end = turn full (turn full renamed 1) 1

abbrev pub the_rename : Event
the_rename = record { actor = 0; step = Rename 0 (codes "secret") 0 moved Plain; answer = Done }

-- the other's own events, from its first to its last
abbrev pub window : List Event
window =
    record { actor = 1; step = Open 1 moved; answer = Opened 2 9 kind.Dir }
    ∷ record { actor = 1; step = NameBelow 1 2; answer = Names (moved ∷ []) }
    ∷ []

abbrev pub run : WholeRun
run = record {
  given = base_tree;
  plans = plans;
  lines = 8;
  world = world;
  schedule = [];
  tree = tree_now end.book;
  events = the_rename ∷ window;
  replies = replies_in (ledgers_in end.seats);
  kept = kept_in (ledgers_in end.seats);
}

-- ---- what the laws say of it

-- the walk in that window, whatever its call was told
abbrev pub the_walk : CallMade → WalkInHistory
the_walk c = walk_of_resolve run 1 0 c request Follow moved (the_rename ∷ []) window

-- what openat2 means by `/moved` once it is there, or want
abbrev pub IsOpenat2s : Outcome → Type 0
IsOpenat2s (outcome.Opened x kind names) = x ≡ 9
IsOpenat2s (outcome.Fault error) = is_want error ≡ true
IsOpenat2s other = ⊥

-- Such a world runs so; and any outcome that tells in this window what a resolve tells is openat2's, though the path
-- meant nothing as the history began.
pub record UndisturbedIsMeant : Type 0 where
  pub is_run : IsRun run
  pub told : slice_get run.replies 1 ≡ Some (outcome.Opened 9 kind.Dir (moved ∷ []) ∷ [])
  pub is_window : IsWindow run 1 (own_events 1 run.events) (the_rename ∷ []) window []
  pub meant : (c : CallMade) (o : Outcome) → ResolveTells (the_walk c) c moved o → IsOpenat2s o
