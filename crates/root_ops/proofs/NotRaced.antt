-- What a text, a split or the step table refuses is never told as EAGAIN.
use Rattle.std.specs.Prelude.{◌≡◌, ℕ, Bool, true, false, not, List, Option, Some, None, Err, refl}
use Rattle.path_text.specs.declared.errno.Errno.TheVariants.{NotFound, Raced, NotDir}
use Rattle.path_text.specs.declared.path.Rule.{Rule}
use Rattle.path_text.specs.Reading.{Reading}
use Rattle.path_text.specs.Split.{split_of}
use Rattle.path_text.specs.Text.{text_fault}
use Rattle.tree_model.specs.declared.inode.Inode.{Inode}
use Rattle.tree_model.specs.declared.inode.Object.{Object}
use Rattle.tree_model.specs.declared.inode.Object.TheVariants as object
use Rattle.tree_model.specs.declared.step.Mode.{Mode}
use Rattle.tree_model.specs.State.{child, is_dir}
use Rattle.tree_model.specs.Entries.{refuse_if, with_some, renames}
use Rattle.bulk_ops.proofs.TableErrors.{fault_is, no_fault, no_failure, text_other, split_other, renames_other, raced, raced_is_other}
use Rattle.root_ops.specs.declared.aim.Change.{Change}
use Rattle.root_ops.specs.Acts.{change_of}
use Rattle.root_ops.specs.Meaning.{text_of, no_directory}
use Rattle.root_ops.proofs.ChangeErrors.{change_other}

pub text_is_other : (text : List ℕ) → text_fault text ≡ Some Raced → ⊥
text_is_other text e = no_fault raced (text_fault text) Raced (text_other raced raced_is_other text) refl e

pub split_is_other : (path : Reading) (rule : Rule) → split_of path rule ≡ Err Raced → ⊥
split_is_other path rule e = no_failure raced (split_of path rule) Raced (split_other raced raced_is_other path rule) refl e

pub text_of_is_other : (o : Option Object) → text_of o ≡ Err Raced → ⊥
text_of_is_other None e = cc (e)
text_of_is_other (Some object.Dir) e = cc (e)
text_of_is_other (Some object.File) e = cc (e)
text_of_is_other (Some (object.Link text)) e = cc (e)

module _ (nodes : List Inode) where
  pub change_is_other : (change : Change) (d : ℕ) (n : List ℕ) → change_of change nodes d n ≡ Err Raced → ⊥
  change_is_other change d n e =
      no_failure raced (change_of change nodes d n) Raced (change_other raced raced_is_other nodes
      (λ full. refl) d n change) refl e

  pub rename_is_other : (d : ℕ) (n : List ℕ) (f : ℕ) (m : List ℕ) (mode : Mode) → renames nodes d n f m mode ≡ Err Raced → ⊥
  rename_is_other d n f m mode e =
      no_failure raced (renames nodes d n f m mode) Raced (renames_other raced raced_is_other nodes d n f m mode) refl e

  no_directory_not : (b : Bool) (o : Option ℕ) (dir : ℕ → Bool)
      → fault_is raced (refuse_if b (Some NotDir) (with_some o (Some NotFound)
      (λ c. refuse_if (dir c) (Some NotDir) None))) ≡ false
  no_directory_not true o dir = refl
  no_directory_not false None dir = refl
  no_directory_not false (Some c) dir = on (dir c)
    where
      on : (b : Bool) → fault_is raced (refuse_if b (Some NotDir) None) ≡ false
      on true = refl
      on false = refl

  pub no_directory_is_other : (d : ℕ) (n : List ℕ) → no_directory nodes d n ≡ Some Raced → ⊥
  no_directory_is_other d n e =
      no_fault raced (no_directory nodes d n) Raced
      (no_directory_not (not (is_dir nodes d)) (child nodes d n) (λ c. not (is_dir nodes c))) refl e
