-- A call by names alone, one of which is missing as they are looked up at once: as by one openat2(2) with
-- RESOLVE_NO_SYMLINKS. What it replies is known then without its single turns.
use Rattle.std.specs.Prelude.{◌≡◌, ℕ, List, [], ◌∷◌, ◌++◌, ◌&&◌, ◌||◌, Bool, true, false, not, map, is_none, codes, length, nat_lt, Option, Some, None}
use Rattle.path_text.specs.declared.errno.Errno.TheVariants.{NotFound}
use Rattle.path_text.specs.Name.{same_bytes}
use Rattle.path_text.specs.declared.name.TheConstants.{NAME_MAX}
use Rattle.path_text.specs.Print.{names_read}
use Rattle.path_text.specs.Text.{text_fault, begins_with_slash}
use Rattle.tree_model.specs.declared.answer.Answer.TheVariants.{Opened, Done, Refused}
use Rattle.tree_model.specs.declared.step.Kind.TheVariants.{Dir}
use Rattle.tree_model.specs.declared.step.StepOf.TheVariants.{Open, Close}
use Rattle.walk_plan.specs.declared.goal.Goal.{Goal}
use Rattle.step_resolver.specs.Order.{Line, answered}
use Rattle.root_ops.specs.declared.reply.Reply.TheVariants.{Fault}
use Rattle.root_ops.specs.CallHistory.{CallInHistory, IsCallInHistory, RepliesWith}
use Rattle.root_ops.specs.EachCall.{CallTells}
use Rattle.root_ops.specs.Order.{fault}
use Rattle.kernel_walks.specs.Resolves.{IsResolve}

-- ---- which calls these are

-- a name, where it has no slash and no NUL (POSIX.1, Filename)
abbrev pub fits_piece : List ℕ → Bool
fits_piece piece =
    not (same_bytes piece []) && (not (same_bytes piece (codes "."))
    && (not (same_bytes piece (codes "..")) && not (nat_lt NAME_MAX (length piece))))

abbrev pub has_names : Option (List (List ℕ)) → Bool
has_names None = false
has_names (Some []) = false
has_names (Some (n ∷ names)) = true

-- the path is that of the place, with the slash at its beginning or without
abbrev pub spells_place : List ℕ → List ℕ → Bool
spells_place path [] = false
spells_place path (b ∷ names) = same_bytes path (b ∷ names) || same_bytes path names

-- The path is the names of the place, and nothing else. A resolve isn't refused for its slash at the beginning
-- (RESOLVE_BENEATH).
abbrev pub misses_at_once : Bool → List ℕ → List ℕ → Bool
misses_at_once beneath path place =
    not (beneath && begins_with_slash path)
    && (is_none (text_fault path) && (has_names (names_read place) && spells_place path place))

-- ---- the lines of such a call

-- the directory that was opened by a name
pub record Passed : Type 0 where
  pub name : List ℕ
  pub number : ℕ
  pub node : ℕ

abbrev pub opens : ℕ → Passed → Line
opens dir p = answered (Open dir p.name) (Opened p.number p.node Dir)

abbrev pub closes : List ℕ → List Line
closes [] = []
closes (h ∷ hs) = answered (Close h) Done ∷ closes hs

-- Each name is opened in the directory that the one before it opened, which is closed then, but for the root. The next
-- name is missing in the directory that the last one of them opened. What is held is closed.
abbrev pub lines_missing_from : ℕ → List ℕ → List Passed → List ℕ → List Line
lines_missing_from dir held [] name = answered (Open dir name) (Refused NotFound) ∷ closes held
lines_missing_from dir held (p ∷ ps) name =
    opens dir p ∷ (closes held ++ lines_missing_from p.number (p.number ∷ []) ps name)

abbrev pub lines_missing : ℕ → List Passed → List ℕ → List Line
lines_missing root ps name = lines_missing_from root [] ps name

abbrev pub names_to : List Passed → List ℕ → List (List ℕ) → List (List ℕ)
names_to ps name rest = map (λ p. p.name) ps ++ name ∷ rest

-- ---- what it comes to

-- A resolve of such a path, where one of the names is missing in the directory that those before it led to, by whatever
-- handles, and whichever names stand behind it: the lines lead to the reply that it fails for that (ENOENT of
-- openat2(2)). So in each legal history in which they are the caller's own events in the call's window, the call tells
-- what each call tells.
abbrev pub FailsAtOnceTell : Type 0
FailsAtOnceTell = (c : CallInHistory) (goal : Goal) (path place : List ℕ) (ps : List Passed) (name : List ℕ)
    (rest : List (List ℕ))
    → IsResolve c.op goal path → misses_at_once c.below.flags.beneath path place ≡ true
    → names_read place ≡ Some (names_to ps name rest)
    → c.room ≡ true → c.lines ≡ lines_missing c.below.root.handle ps name
    → RepliesWith c (fault NotFound) × (IsCallInHistory c → CallTells c (Fault NotFound))
