-- A root that was granted in a tree without open handles.
use Rattle.std.proofs.Common.{◌≡◌, ℕ, ◌<◌, ◌≤◌, false, List, [], length, refl, sym, ap, ◌∙◌, subst, arith, lit≤}
use Rattle.std.proofs.lemmas.List.Sums.{count_by-le-length}
use Rattle.std.specs.Prelude.{Option, Result, Ok, Err, nat_le, ◌||◌}
use Rattle.path_text.specs.declared.errno.Errno.{Errno}
use Rattle.tree_model.specs.declared.inode.OpenHandle.{OpenHandle}
use Rattle.tree_model.specs.State.{State, TOP}
use Rattle.tree_model.specs.Steps.{directory_at, grants, grants_at, held_count, is_full, is_held_by, IsGrant, with_handle}
use Rattle.tree_model.specs.StepLaws.{GrantsKeepTrees}
use Rattle.tree_model.specs.Trees.{IsState}
use Rattle.tree_model.proofs.StepsKept.{directory_at-is_dir}
use Rattle.scripts.specs.Actors.{rooted, IsAtHand, IsHolding}
use Rattle.scripts.specs.declared.actors.TheConstants.{ACTOR}

-- in a tree without open handles
opened_at : (s t : State) (found : Result ℕ Errno) (h : ℕ) (names : List (List ℕ)) → s.handles ≡ [] → IsState t → found ≡ directory_at s.nodes TOP names
    → IsGrant s t (grants_at (record { nodes = s.nodes; handles = [] }) ACTOR found) (Ok h) → IsAtHand (rooted s.nodes found) t ACTOR h
opened_at s t (Err error) h names none tree is g = cc (g.0)
opened_at s t (Ok x) h names none tree is g =
    let number : h ≡ 0 = g.0 ∙ ap length none in
    let at : IsHolding (record { nodes = s.nodes; root = x }) (with_handle (record { nodes = s.nodes; handles = [] }) ACTOR x) ACTOR 0 = record {
      nodes = refl;
      ready = record { tree = subst IsState g.1 tree; held = refl; directory = directory_at-is_dir s.nodes TOP x names (sym is); few = lit≤ tt; numbers = lit≤ tt };
    } in
    subst (λ (i : ℕ). IsHolding (record { nodes = s.nodes; root = x }) t ACTOR i) (sym number)
    (subst (λ (u : State). IsHolding (record { nodes = s.nodes; root = x }) u ACTOR 0) (sym g.1) at)

no_handles : (s : State) → s.handles ≡ [] → s ≡ record { nodes = s.nodes; handles = [] }
no_handles s none = ap (λ (hs : List (Option OpenHandle)). record { nodes = s.nodes; handles = hs }) none

-- the grant, its tree and its actor as they are called
pub record IsFirstGrant (s t : State) (a : ℕ) (names : List (List ℕ)) (answer : Result ℕ Errno) : Type 0 where
  pub none : s.handles ≡ []
  pub actor : a ≡ ACTOR
  pub gave : IsGrant s t (grants s a names) answer

of_root : (s t : State) (a : ℕ) (names : List (List ℕ)) (gave : Result ℕ Errno) → IsFirstGrant s t a names gave
    → IsGrant s t (grants_at (record { nodes = s.nodes; handles = [] }) ACTOR (directory_at s.nodes TOP names)) gave
of_root s t a names gave g =
    subst (λ (u : State). IsGrant s t (grants_at u ACTOR (directory_at s.nodes TOP names)) gave) (no_handles s g.none)
    (subst (λ (b : ℕ). IsGrant s t (grants_at s b (directory_at s.nodes TOP names)) gave) g.actor g.gave)

-- a grant leads from a tree to a tree
granted_tree : GrantsKeepTrees → (s t : State) (a h : ℕ) (names : List (List ℕ)) → IsState s → IsGrant s t (grants s a names) (Ok h) → IsState t
granted_tree keep s t a h names tree gave = by (grants s a names) refl gave
  where
    by : (granted : Result State Errno) → grants s a names ≡ granted → IsGrant s t granted (Ok h) → IsState t
    by (Err error) e g = cc (g.0)
    by (Ok u) e g = subst IsState (sym g.1) (keep s u a names tree e)

pub opened_root : GrantsKeepTrees → (s t : State) (a h : ℕ) (names : List (List ℕ)) → IsState s → IsFirstGrant s t a names (Ok h)
    → IsAtHand (rooted s.nodes (directory_at s.nodes TOP names)) t ACTOR h
opened_root keep s t a h names tree g =
    opened_at s t (directory_at s.nodes TOP names) h names g.none (granted_tree keep s t a h names tree g.gave) refl (of_root s t a names (Ok h) g)

-- ---- room for further handles

-- so few handles fill no actor's room
pub has_room : (s : State) (i : ℕ) → length s.handles < 64 → is_full s i ≡ false
has_room s i few =
    let fewer : held_count s i ≤ length s.handles = count_by-le-length (is_held_by i) s.handles in
    by (held_count s i) (length s.handles) (omega (arith, fewer, few)) few
  where
    by : (held numbers : ℕ) → held < 64 → numbers < 64 → (nat_le 1024 held || nat_le 281474976710656 numbers) ≡ false
    by held numbers few_held few_numbers = search arith
