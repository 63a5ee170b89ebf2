-- A resolve whose last check says that its object is below the root, and not at which names: as openat2(2) says it.
use Rattle.std.specs.Prelude.{◌≡◌, ℕ, List, [], ◌∷◌, ◌++◌, true}
use Rattle.path_text.specs.Text.{reading_of}
use Rattle.walk_plan.specs.declared.goal.Goal.{Goal}
use Rattle.walk_plan.specs.declared.goal.Goal.TheVariants.{Follow, NoFollow}
use Rattle.step_resolver.specs.Order.{Line, Handle}
use Rattle.root_ops.specs.declared.op.Op.{Op}
use Rattle.root_ops.specs.declared.op.Op.TheVariants.{Resolve, ResolveNoFollow}
use Rattle.root_ops.specs.Acts.{along}
use Rattle.root_ops.specs.CallHistory.{CallInHistory, IsCallInHistory}
use Rattle.root_ops.specs.Order.{opened, starts, ends, LeadsTo}
use Rattle.kernel_walks.specs.Behind.{asks_below}
use Rattle.kernel_walks.specs.SeenBelow.{SeenBelow}

-- a resolve of this path, after this
abbrev pub IsResolve : Op → Goal → List ℕ → Type 0
IsResolve (Resolve text) goal path = (goal ≡ Follow) × (text ≡ path)
IsResolve (ResolveNoFollow text) goal path = (goal ≡ NoFollow) × (text ≡ path)
IsResolve other goal path = ⊥

-- In each legal history in which these lines and the question are the caller's own events in the call's window, with
-- whatever names as the answer there: what was opened was reached by the path's parts, and stood below the root then.
-- So it is of each resolve that is led by these lines and the question to its reply, whatever names it was told.
abbrev pub ResolvesSeenBelow : Type 0
ResolvesSeenBelow = (c : CallInHistory) (goal : Goal) (path : List ℕ) (lines : List Line) (handle : Handle)
    (told names others : List (List ℕ)) → IsResolve c.op goal path
    → LeadsTo c.below (starts c.below true c.op) (lines ++ asks_below c.below handle told ∷ [])
    (ends (opened handle names))
    → c.lines ≡ lines ++ asks_below c.below handle others ∷ [] → IsCallInHistory c
    → SeenBelow (along c goal (reading_of path)) handle names
