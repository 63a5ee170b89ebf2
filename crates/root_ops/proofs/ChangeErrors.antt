-- Which errors a change of an entry is never refused with: all of a kind that has none of those in the step table.
use Rattle.std.specs.Prelude.{◌≡◌, ℕ, List, Bool, true, false, nat_le, length}
use Rattle.path_text.specs.declared.errno.Errno.{Errno}
use Rattle.path_text.specs.declared.errno.Errno.TheVariants.{TooMany}
use Rattle.tree_model.specs.declared.inode.Inode.{Inode}
use Rattle.tree_model.specs.declared.inode.Object.TheVariants as object
use Rattle.tree_model.specs.declared.tree.TheConstants.{NUMBERS_MAX}
use Rattle.bulk_ops.proofs.TableErrors.{AreOthers, failure_is, makes_other, makes_link_other, removes_file_other, removes_dir_other}
use Rattle.root_ops.specs.declared.aim.Change.{Change}
use Rattle.root_ops.specs.declared.aim.Change.TheVariants as changes
use Rattle.root_ops.specs.Acts.{change_of}

pub change_other : (kind : Errno → Bool) → AreOthers kind → (nodes : List Inode)
    → (nat_le NUMBERS_MAX (length nodes) ≡ true → kind TooMany ≡ false)
    → (d : ℕ) (n : List ℕ) (change : Change) → failure_is kind (change_of change nodes d n) ≡ false
change_other kind others nodes full d n changes.MakeFile = makes_other kind others nodes full d n object.File
change_other kind others nodes full d n changes.MakeDir = makes_other kind others nodes full d n object.Dir
change_other kind others nodes full d n (changes.MakeLink text) = makes_link_other kind others nodes full d n text
change_other kind others nodes full d n changes.RemoveFile = removes_file_other kind others nodes d n
change_other kind others nodes full d n changes.RemoveDir = removes_dir_other kind others nodes d n
