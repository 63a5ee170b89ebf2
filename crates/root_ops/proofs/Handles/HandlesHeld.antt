-- The handles that a call holds, and what a step of its own makes of them.
use Rattle.std.specs.Prelude.{◌≡◌, ◌⊎◌, ℕ, ◌==◌, List, ◌∷◌, Bool, true, false, not, length, slice_get, Option, Some, None, refl}
use Rattle.std.proofs.Common.{sym, ap, subst, ◌∙◌, inl, inr}
use Rattle.std.proofs.lemmas.Bool.{eqb-true, eqb-false}
use Rattle.path_text.specs.declared.errno.Errno.{Errno}
use Rattle.path_text.specs.declared.errno.Errno.TheVariants.{NotFound, BadHandle, NotDir, TooMany}
use Rattle.tree_model.specs.declared.answer.Answer.TheVariants.{Opened, Listed}
use Rattle.tree_model.specs.declared.inode.Object.{Object}
use Rattle.tree_model.specs.declared.inode.Object.TheVariants as objects
use Rattle.tree_model.specs.declared.inode.OpenHandle.{OpenHandle}
use Rattle.tree_model.specs.declared.step.Kind.{Kind}
use Rattle.tree_model.specs.StepWith.{StepWith}
use Rattle.tree_model.specs.declared.step.StepOf.TheVariants as steps
use Rattle.tree_model.specs.State.{State, object_at, child, is_dir, names_below, names_in, sorted_names}
use Rattle.tree_model.specs.Steps.{Outcome, outcome, refused, answered, opens, reads, shows, held, node_held, kind_of}
use Rattle.tree_model.specs.Entries.{refuse_if, with_some}
use Rattle.tree_model.proofs.StepLaws.{handles_are_left}
use Rattle.step_resolver.proofs.Underway.StepOutcomes.{IsMore, IsLess, with_handle-is_more, OpenCase, no_dir, no_child, at_child, open_case, Opening, too_many, no_object, is_opened, opening_of}
use Rattle.step_resolver.proofs.Underway.WalkInvariant.{IsNotIn, AllNew, new_or_out}
use Rattle.root_ops.specs.declared.aim.Change.{Change}
use Rattle.root_ops.specs.declared.aim.Change.TheVariants as changes
use Rattle.root_ops.specs.declared.aim.Renaming.{Renaming}
use Rattle.root_ops.specs.Order.{change_step, rename_step, is_single}

module _ (a : ℕ) (old : State) where
  -- these are the call's own, and the actor's others are as they were
  pub record HandlesAre (now : State) (hs : List ℕ) : Type 0 where
    pub others : (k : ℕ) → IsNotIn k hs → held now a k ≡ held old a k
    pub fresh : AllNew (held old a) hs

  pub kept : (now new : State) (hs : List ℕ) → ((h : ℕ) → held new a h ≡ held now a h) → HandlesAre now hs → HandlesAre new hs
  kept now new hs same are = record { others = λ k out. same k ∙ are.others k out; fresh = are.fresh }

  pub one_more : (now new : State) (h x : ℕ) (hs : List ℕ) → HandlesAre now hs → IsMore now a new h x → HandlesAre new (h ∷ hs)
  one_more now new h x hs are is = record {
    others = λ k out. is.others k out.0 ∙ are.others k out.1;
    fresh = (on (new_or_out (held old a) h hs are.fresh), are.fresh);
  }
    where
      on : IsNotIn h hs ⊎ (held old a h ≡ None) → held old a h ≡ None
      on (inl out) = sym (are.others h out) ∙ is.fresh
      on (inr none) = none

  pub one_less : (now new : State) (h : ℕ) (hs : List ℕ) → HandlesAre now (h ∷ hs) → IsLess now a new h → HandlesAre new hs
  one_less now new h hs are is = record { others = λ k out. on k out (k == h) refl; fresh = are.fresh.1 }
    where
      on : (k : ℕ) → IsNotIn k hs → (b : Bool) → (k == h) ≡ b → held new a k ≡ held old a k
      on k out true e = ap (held new a) (eqb-true k h e) ∙ is.closed ∙ sym are.fresh.0 ∙ ap (held old a) (sym (eqb-true k h e))
      on k out false e = is.others k (eqb-false k h e) ∙ are.others k (eqb-false k h e, out)

-- ---- steps that leave the handles

abbrev pub LeavesHandles : StepWith ℕ → Type 0
LeavesHandles step = (s : State) (a h : ℕ) → held (outcome s a step).after a h ≡ held s a h

same_held : (s t : State) (a h : ℕ) → t.handles ≡ s.handles → held t a h ≡ held s a h
same_held s t a h e = ap (λ (hs : List (Option OpenHandle)). node_held a (slice_get hs h)) e

pub change_leaves : (change : Change) (d : ℕ) (n : List ℕ) → LeavesHandles (change_step change d n)
change_leaves changes.MakeFile d n s a h = same_held s (outcome s a (steps.MakeFile d n)).after a h (handles_are_left s a (steps.MakeFile d n) refl)
change_leaves changes.MakeDir d n s a h = same_held s (outcome s a (steps.MakeDir d n)).after a h (handles_are_left s a (steps.MakeDir d n) refl)
change_leaves (changes.MakeLink text) d n s a h = same_held s (outcome s a (steps.MakeLink d n text)).after a h (handles_are_left s a (steps.MakeLink d n text) refl)
change_leaves changes.RemoveFile d n s a h = same_held s (outcome s a (steps.RemoveFile d n)).after a h (handles_are_left s a (steps.RemoveFile d n) refl)
change_leaves changes.RemoveDir d n s a h = same_held s (outcome s a (steps.RemoveDir d n)).after a h (handles_are_left s a (steps.RemoveDir d n) refl)

pub rename_leaves : (renaming : Renaming) (old new : ℕ) → LeavesHandles (rename_step renaming old new)
rename_leaves renaming old new s a h = same_held s (outcome s a (rename_step renaming old new)).after a h (handles_are_left s a (rename_step renaming old new) refl)

-- an outcome that leaves the tree
abbrev Leaves : State → Outcome → Type 0
Leaves s o = o.after ≡ s

on_held : (s : State) (o : Option ℕ) (next : ℕ → Outcome) → ((x : ℕ) → Leaves s (next x)) → Leaves s (with_some o (refused s BadHandle) next)
on_held s None next leaves = refl
on_held s (Some x) next leaves = leaves x

reads_leave : (s : State) (o : Option Object) → Leaves s (reads s o)
reads_leave s None = refl
reads_leave s (Some objects.Dir) = refl
reads_leave s (Some objects.File) = refl
reads_leave s (Some (objects.Link text)) = refl

shows_leave : (s : State) (o : Option (List (List ℕ))) → Leaves s (shows s o)
shows_leave s None = refl
shows_leave s (Some names) = refl

if_leaves : (s : State) (b : Bool) (o p : Outcome) → Leaves s o → Leaves s p → Leaves s (refuse_if b o p)
if_leaves s true o p leaves other = leaves
if_leaves s false o p leaves other = other

read_same : (d : ℕ) (s : State) (a : ℕ) → Leaves s (outcome s a (steps.ReadLink d))
read_same d s a = on_held s (held s a d) (λ x. reads s (object_at s.nodes x)) (λ x. reads_leave s (object_at s.nodes x))

below_same : (r d : ℕ) (s : State) (a : ℕ) → Leaves s (outcome s a (steps.NameBelow r d))
below_same r d s a =
    on_held s (held s a r) (λ top. with_some (held s a d) (refused s BadHandle) (λ x. shows s (names_below s.nodes top x)))
    (λ top. on_held s (held s a d) (λ x. shows s (names_below s.nodes top x)) (λ x. shows_leave s (names_below s.nodes top x)))

abbrev lists : State → ℕ → Outcome
lists s x = refuse_if (not (is_dir s.nodes x)) (refused s NotDir) (answered s (Listed (sorted_names (names_in s.nodes x))))

list_same : (d : ℕ) (s : State) (a : ℕ) → Leaves s (outcome s a (steps.List d))
list_same d s a = on_held s (held s a d) (λ x. lists s x) (λ x. if_leaves s (not (is_dir s.nodes x)) (refused s NotDir) (answered s (Listed (sorted_names (names_in s.nodes x)))) refl refl)

pub read_leaves : (d : ℕ) → LeavesHandles (steps.ReadLink d)
read_leaves d s a h = ap (λ (t : State). held t a h) (read_same d s a)

below_leaves : (r d : ℕ) → LeavesHandles (steps.NameBelow r d)
below_leaves r d s a h = ap (λ (t : State). held t a h) (below_same r d s a)

list_leaves : (d : ℕ) → LeavesHandles (steps.List d)
list_leaves d s a h = ap (λ (t : State). held t a h) (list_same d s a)

pub single_leaves : (step : StepWith ℕ) → is_single step ≡ true → LeavesHandles step
single_leaves (steps.Open h n) e = cc (e)
single_leaves (steps.Dup h) e = cc (e)
single_leaves (steps.Parent h) e = cc (e)
single_leaves (steps.ReadLink h) e = read_leaves h
single_leaves (steps.NameBelow r h) e = below_leaves r h
single_leaves (steps.List h) e = list_leaves h
single_leaves (steps.Close h) e = cc (e)
single_leaves (steps.MakeDir d n) e = change_leaves changes.MakeDir d n
single_leaves (steps.MakeFile d n) e = change_leaves changes.MakeFile d n
single_leaves (steps.MakeLink d n text) e = change_leaves (changes.MakeLink text) d n
single_leaves (steps.RemoveFile d n) e = change_leaves changes.RemoveFile d n
single_leaves (steps.RemoveDir d n) e = change_leaves changes.RemoveDir d n
single_leaves (steps.Rename d n k m mode) e = rename_leaves (record { old = n; new = m; mode = mode; slash = true }) d k

-- ---- Open

-- it is refused and leaves the tree, or opens a handle more
pub data OpenEffect (s : State) (a : ℕ) (o : Outcome) : Type 0 where
  is_refused : (error : Errno) → o ≡ refused s error → OpenEffect s a o
  is_more : (h x : ℕ) (kind : Kind) → o.answer ≡ Opened h x kind → IsMore s a o.after h x → OpenEffect s a o

opening_effect : (s : State) (a x : ℕ) (o : Outcome) → Opening s a x o → OpenEffect s a o
opening_effect s a x o (too_many full e) = is_refused TooMany e
opening_effect s a x o (no_object none e) = is_refused NotFound e
opening_effect s a x o (is_opened what is e) =
    is_more (length s.handles) x (kind_of what) (ap (λ (p : Outcome). p.answer) e)
    (subst (λ (t : State). IsMore s a t (length s.handles) x) (sym (ap (λ (p : Outcome). p.after) e)) (with_handle-is_more s a x))

open_case_effect : (s : State) (a d : ℕ) (n : List ℕ) (o : Outcome) → OpenCase s a d n o → OpenEffect s a o
open_case_effect s a d n o (no_dir is e) = is_refused NotDir e
open_case_effect s a d n o (no_child none e) = is_refused NotFound e
open_case_effect s a d n o (at_child c is e) = subst (OpenEffect s a) (sym e) (opening_effect s a c (opens s a c) (opening_of s a c))

abbrev open_through : State → ℕ → List ℕ → Option ℕ → Outcome
open_through s a n o = with_some o (refused s BadHandle) (λ d. refuse_if (not (is_dir s.nodes d)) (refused s NotDir) (with_some (child s.nodes d n) (refused s NotFound) (λ c. opens s a c)))

pub open_effect : (s : State) (a h : ℕ) (n : List ℕ) → OpenEffect s a (outcome s a (steps.Open h n))
open_effect s a h n = on (held s a h) refl
  where
    on : (o : Option ℕ) → held s a h ≡ o → OpenEffect s a (outcome s a (steps.Open h n))
    on None e = is_refused BadHandle (ap (open_through s a n) e)
    on (Some d) e = open_case_effect s a d n (outcome s a (steps.Open h n)) (open_case s a h n d e)
