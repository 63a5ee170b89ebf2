-- Walks with the numbers of their handles and nodes replaced by others; everything else stays.
use Rattle.std.specs.Prelude.{ℕ, List, [], ◌∷◌}
use Rattle.step_resolver.specs.declared.walk.Root.{Root}
use Rattle.step_resolver.specs.Order.{Way, Handle, Position, root_itself, holds, After, gives, onward, judges, Walking, opening, reading, rising, judging, duping, ending, closing, Turn, more, found, partial, failed}

-- other numbers for handles, and for nodes
pub record Numbering : Type 0 where
  pub handle : ℕ → ℕ
  pub node : ℕ → ℕ

-- other numbers for handles alone
abbrev pub for_handles : (ℕ → ℕ) → Numbering
for_handles f = record { handle = f; node = λ x. x }

abbrev pub numbers_by : Numbering → List ℕ → List ℕ
numbers_by f [] = []
numbers_by f (h ∷ hs) = f.handle h ∷ numbers_by f hs

abbrev pub root_by : Numbering → Root → Root
root_by f root = record root { handle = f.handle root.handle }

abbrev pub way_by : Numbering → Way → Way
way_by f way = record way { root = f.handle way.root }

abbrev pub handle_by : Numbering → Handle → Handle
handle_by f handle = record handle { number = f.handle handle.number; node = f.node handle.node }

abbrev pub position_by : Numbering → Position → Position
position_by f root_itself = root_itself
position_by f (holds handle names) = holds (handle_by f handle) names

abbrev pub walk_after_by : Numbering → After → After
walk_after_by f (gives error) = gives error
walk_after_by f (onward position rest) = onward (position_by f position) rest
walk_after_by f (judges handle names rest) = judges (handle_by f handle) names rest

abbrev pub walking_by : Numbering → Walking → Walking
walking_by f (opening position own follow n rest) = opening (position_by f position) own follow n rest
walking_by f (reading position link rest) = reading (position_by f position) (handle_by f link) rest
walking_by f (rising handle names rest) = rising (handle_by f handle) names rest
walking_by f (judging handle names rest) = judging (handle_by f handle) names rest
walking_by f (duping rest) = duping rest
walking_by f (ending handle names rest) = ending (handle_by f handle) names rest
walking_by f (closing h hs after) = closing (f.handle h) (numbers_by f hs) (walk_after_by f after)

abbrev pub walk_turn_by : Numbering → Turn → Turn
walk_turn_by f (more w) = more (walking_by f w)
walk_turn_by f (found handle names) = found (handle_by f handle) names
walk_turn_by f (partial handle names rest) = partial (handle_by f handle) names rest
walk_turn_by f (failed error) = failed error
