-- Every step leads from a tree to a tree.
use Rattle.std.proofs.Common.{◌≡◌, ◌⊎◌, inl, inr, ⊎_elim, ℕ, zero, suc, ◌<◌, Bool, true, false, not, List, [], ◌∷◌, ◌++◌, length, Option, Some, None, slice_get, slice_set, refl, sym, ap, ◌∙◌, subst, arith}
use Rattle.std.specs.Prelude.{Result, Ok, Err}
use Rattle.std.proofs.lemmas.Bool.{false≢true}
use Rattle.std.proofs.lemmas.Option.{none-some, same_Some}
use Rattle.path_text.specs.declared.errno.Errno.{Errno}
use Rattle.path_text.specs.declared.errno.Errno.TheVariants.{NotFound, NotDir, TooMany}
use Rattle.tree_model.specs.declared.inode.Inode.{Inode}
use Rattle.tree_model.specs.declared.inode.Object.{Object}
use Rattle.tree_model.specs.declared.inode.OpenHandle.{OpenHandle}
use Rattle.tree_model.specs.StepWith.{StepWith}
use Rattle.tree_model.specs.Entries.{refuse_if, with_some}
use Rattle.tree_model.specs.State.{State, TOP, object_at, child, is_dir, is_directory}
use Rattle.tree_model.specs.Steps.{Outcome, is_full, with_handle, directory_at, grants_at}
use Rattle.tree_model.specs.StepLaws.{StepsKeepTrees, GrantsKeepTrees}
use Rattle.tree_model.specs.Trees.{IsState}
use Rattle.tree_model.proofs.Places.{object_at-within}
use Rattle.tree_model.proofs.Changed.{Changed-grows, Changed-tree}
use Rattle.tree_model.proofs.Outcomes.{Does, refuses, tells, opens_on, closes, changes_to, does}

-- what is in a list with one element more: as before, or the one
pub slice_get-one_more : {A : Type 0} (xs : List A) (y : A) (i : ℕ) (x : A) → slice_get (xs ++ y ∷ []) i ≡ Some x → (slice_get xs i ≡ Some x) ⊎ (y ≡ x)
slice_get-one_more [] y zero x e = inr (same_Some y x e)
slice_get-one_more [] y (suc i) x e = absurd (none-some x e)
slice_get-one_more (z ∷ xs) y zero x e = inl e
slice_get-one_more (z ∷ xs) y (suc i) x e = slice_get-one_more xs y i x e

-- a handle that is open after another was closed was open before
pub slice_get-closed : (handles : List (Option OpenHandle)) (h i : ℕ) (open_handle : OpenHandle)
    → slice_get (slice_set handles h None) i ≡ Some (Some open_handle) → slice_get handles i ≡ Some (Some open_handle)
slice_get-closed [] h i open_handle e = e
slice_get-closed (first ∷ handles) zero zero open_handle e = absurd (none-some open_handle (same_Some None (Some open_handle) e))
slice_get-closed (first ∷ handles) zero (suc i) open_handle e = e
slice_get-closed (first ∷ handles) (suc h) zero open_handle e = e
slice_get-closed (first ∷ handles) (suc h) (suc i) open_handle e = slice_get-closed handles h i open_handle e

-- one more handle, on a node
more_handles : (s : State) (a x : ℕ) → IsState s → x < length s.nodes → IsState (with_handle s a x)
more_handles s a x t within =
    record {
      tree = t.tree;
      handles = λ h open_handle e.
          ⊎_elim
          (λ old. t.handles h open_handle old)
          (λ new. let same = same_Some _ open_handle new in
          subst (λ k. k < length s.nodes) (ap (λ r. r.node) same) within)
          (slice_get-one_more s.handles (Some (record { actor = a; node = x })) h (Some open_handle) e);
    }

keeps : {s : State} {a : ℕ} {step : StepWith ℕ} {o : Outcome} → IsState s → Does s a step o → IsState o.after
keeps {s} {a} t (refuses error) = t
keeps {s} {a} t (tells answer e) = t
keeps {s} {a} t (opens_on x what e1 e2 e3) = more_handles s a x t (object_at-within s.nodes x what e3)
keeps {s} {a} t (closes h x e1) = record { tree = t.tree; handles = λ i open_handle e. t.handles i open_handle (slice_get-closed s.handles h i open_handle e) }
keeps {s} {a} t (changes_to nodes e1 changed) =
    record {
      tree = Changed-tree t.tree changed;
      handles = λ h open_handle e. let old = t.handles h open_handle e in let more = (Changed-grows changed).longer in omega arith;
    }

pub steps_keep_trees : StepsKeepTrees
steps_keep_trees s a step t = keeps t (does s a step)

-- ---- handles that are granted

pub directory-within : (nodes : List Inode) (x : ℕ) → is_dir nodes x ≡ true → x < length nodes
directory-within nodes x e = by (object_at nodes x) refl
  where
    by : (o : Option Object) → object_at nodes x ≡ o → x < length nodes
    by None q = absurd (false≢true (sym (ap is_directory q) ∙ e))
    by (Some what) q = object_at-within nodes x what q

-- what names lead to is a directory
pub directory_at-is_dir : (nodes : List Inode) (x y : ℕ) (names : List (List ℕ)) → directory_at nodes x names ≡ Ok y → is_dir nodes y ≡ true
directory_at-is_dir nodes x y [] e = by (is_dir nodes x) refl e
  where
    by : (b : Bool) → is_dir nodes x ≡ b → refuse_if (not b) (Err NotDir) (Ok x) ≡ Ok y → is_dir nodes y ≡ true
    by true q f = let same : x ≡ y = cc (f) in subst (λ z. is_dir nodes z ≡ true) same q
    by false q f = cc (f)
directory_at-is_dir nodes x y (n ∷ names) e = by (is_dir nodes x) (child nodes x n) (λ d q. directory_at-is_dir nodes d y names q) e
  where
    by : (b : Bool) (c : Option ℕ) → ((d : ℕ) → directory_at nodes d names ≡ Ok y → is_dir nodes y ≡ true)
        → refuse_if (not b) (Err NotDir) (with_some c (Err NotFound) (λ d. directory_at nodes d names)) ≡ Ok y → is_dir nodes y ≡ true
    by false c further f = cc (f)
    by true None further f = cc (f)
    by true (Some d) further f = further d f

pub grants_keep_trees : GrantsKeepTrees
grants_keep_trees s t a names tree e = by (directory_at s.nodes TOP names) refl e
  where
    on_full : (b : Bool) (x : ℕ) → x < length s.nodes → refuse_if b (Err TooMany) (Ok (with_handle s a x)) ≡ Ok t → IsState t
    on_full true x within f = cc (f)
    on_full false x within f = let same : with_handle s a x ≡ t = cc (f) in subst IsState same (more_handles s a x tree within)

    by : (found : Result ℕ Errno) → directory_at s.nodes TOP names ≡ found → grants_at s a found ≡ Ok t → IsState t
    by (Err error) q f = cc (f)
    by (Ok x) q f = on_full (is_full s a) x (directory-within s.nodes x (directory_at-is_dir s.nodes TOP x names q)) f
