-- What a contract sees of a RemoveAll call: the order's, read off the directories that it holds.
use Rattle.std.specs.Prelude.{◌≡◌, ℕ, suc, ◌-◌, List, [], ◌∷◌, ◌++◌, Bool, drop, map, reverse, slice_get, unwrap_or, Option, Some, None}
use Rattle.tree_model.specs.declared.answer.Answer.{Answer}
use Rattle.handles.specs.Objects.{ReachedObject}
use Rattle.bulk_ops.specs.declared.remove_all.clearing.Stage.TheVariants as stage
use Rattle.bulk_ops.specs.declared.remove_all.clearing.End.TheVariants as end
use Rattle.step_resolver.specs.View.{numbers_of}
use Rattle.bulk_ops.specs.declared.remove_all.phase.Phase.{Phase}
use Rattle.bulk_ops.specs.declared.remove_all.phase.Phase.TheVariants as phase
use Rattle.bulk_ops.specs.declared.remove_all.phase.WalkTo.{WalkTo}
use Rattle.bulk_ops.specs.declared.remove_all.clearing.Clearing.{Clearing}
use Rattle.bulk_ops.specs.declared.remove_all.clearing.Closing.{Closing}
use Rattle.bulk_ops.specs.declared.remove_all.clearing.Stage.{Stage as CodeStage}
use Rattle.bulk_ops.specs.declared.remove_all.clearing.End.{End as CodeEnd}
use Rattle.bulk_ops.specs.declared.remove_all.frame.Frame.{Frame}
use Rattle.bulk_ops.specs.RemoveAllOrder.{Level, Stage, removes_file, opens, lists, shuts, leaves, removes_dir, End, fails, removes, Removing, walking, clearing, closing, Turn, more, ends, dirs, take}

-- ---- directories

-- the name at a place
abbrev pub name_at : List (List ℕ) → ℕ → List ℕ
name_at names at = unwrap_or (slice_get names at) []

abbrev pub level_of : Frame → Level
level_of f = record { dir = f.dir.handle; name = name_at f.names f.at; others = drop (suc f.at) f.names }

-- a directory with these entries to be cleared, if there are any
abbrev pub level_at : ℕ → List (List ℕ) → List Level
level_at d [] = []
level_at d (n ∷ others) = record { dir = d; name = n; others = others } ∷ []

-- the innermost comes last in the stack
abbrev pub levels_of : List Frame → List Level
levels_of frames = map level_of (reverse frames)

abbrev pub dirs_of : List Frame → List ℕ
dirs_of frames = dirs (levels_of frames)

-- ---- steps

abbrev pub stage_of : CodeStage → Stage
stage_of stage.RemoveFile = removes_file
stage_of stage.Open = opens
stage_of (stage.List child) = lists child.handle
stage_of (stage.Shut child) = shuts child.handle
stage_of (stage.Leave child) = leaves child.handle
stage_of stage.RemoveDir = removes_dir

abbrev pub opened_of : CodeStage → Option ReachedObject
opened_of stage.RemoveFile = None
opened_of stage.Open = None
opened_of (stage.List child) = Some child
opened_of (stage.Shut child) = Some child
opened_of (stage.Leave child) = Some child
opened_of stage.RemoveDir = None

abbrev pub end_of : CodeEnd → End
end_of (end.Fails error) = fails error
end_of (end.Removes count) = removes count

-- what is left to be closed after the first
abbrev pub to_close : Closing → List ℕ
to_close c = numbers_of c.second ++ dirs_of c.above.items

abbrev pub clearing_of : Clearing → Removing
clearing_of c =
    clearing (stage_of c.stage) (level_of c.progress.here)
    (levels_of c.progress.above.items) c.progress.removed (c.progress.left - 1)

abbrev pub closing_of : Closing → Removing
closing_of c = closing c.first.handle (to_close c) (end_of c.end)

abbrev pub walking_of : WalkTo → Removing
walking_of to = walking to.walk.way (name_at to.target 0) to.walk.walking

-- a call that is under way; one that is over has no step
abbrev pub removing_of : Phase → Removing
removing_of (phase.Walking to) = walking_of to
removing_of (phase.Clearing c) = clearing_of c
removing_of (phase.Closing c) = closing_of c
removing_of (phase.Over end) = closing 0 [] (end_of end)

abbrev pub IsUnderWay : Phase → Type 0
IsUnderWay (phase.Walking to) = Unit {0}
IsUnderWay (phase.Clearing c) = Unit {0}
IsUnderWay (phase.Closing c) = Unit {0}
IsUnderWay (phase.Over end) = ⊥

abbrev pub IsOver : Phase → Type 0
IsOver (phase.Walking to) = ⊥
IsOver (phase.Clearing c) = ⊥
IsOver (phase.Closing c) = ⊥
IsOver (phase.Over end) = Unit {0}

abbrev pub phase_turn : Phase → Turn
phase_turn (phase.Walking to) = more (walking_of to)
phase_turn (phase.Clearing c) = more (clearing_of c)
phase_turn (phase.Closing c) = more (closing_of c)
phase_turn (phase.Over end) = ends (end_of end)

-- what comes next is what the answer makes of the call, with room for what the answer brings or without
abbrev pub TakesOn : Removing → Answer → Phase → Type 0
TakesOn removing answer phase = (room : Bool) × (phase_turn phase ≡ take room removing answer)
