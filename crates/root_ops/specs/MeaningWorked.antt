-- Worked operations on a small tree, below its directory /c: what the definition comes to.
-- mkdir(2), mknod(2), symlink(2), readlink(2), unlink(2), rmdir(2), renameat2(2).
use Rattle.std.specs.Prelude.{◌≡◌, ℕ, List, [], ◌∷◌, ◌++◌, Some, None, codes}
use Rattle.path_text.specs.declared.errno.Errno.TheVariants.{NotFound, Exists, NotDir, IsDir, Invalid, NotEmpty}
use Rattle.tree_model.specs.declared.inode.Inode.{Inode}
use Rattle.tree_model.specs.declared.inode.Object.TheVariants.{Dir, File, Link}
use Rattle.tree_model.specs.declared.step.Mode.TheVariants.{Plain, NoReplace, Exchange}
use Rattle.tree_model.specs.declared.step.StepOf.TheVariants.{Dup}
use Rattle.tree_model.specs.declared.inode.Place.{Place}
use Rattle.tree_model.specs.State.{place_at, put_at}
use Rattle.tree_model.specs.BaseTree.{base_nodes, standing}
use Rattle.step_resolver.specs.WorkedPaths.{ROOT, plain}
use Rattle.root_ops.specs.declared.op.Op.{Op}
use Rattle.root_ops.specs.declared.op.Op.TheVariants.{Resolve, ResolveNoFollow, ReadLink, CreateFile, CreateDir, CreateLink, RemoveFile, RemoveDir, Rename, Single}
use Rattle.root_ops.specs.Meaning.{Caller, Told, is_open, has_text, is_done, fails, Whole, op_means}

-- who calls
abbrev pub CALLER : ℕ
CALLER = 7

-- these nodes, below /c, which is the caller's handle 0
abbrev pub below_c : List Inode → Caller
below_c nodes = record {
  tree = record { nodes = nodes; handles = Some (record { actor = CALLER; node = ROOT }) ∷ [] };
  actor = CALLER;
  root = ROOT;
  below = record { root = record { owner = record { tag = 0; actor = CALLER }; handle = 0 }; flags = plain };
}

abbrev pub done_on : List Inode → Op → Whole
done_on nodes op = op_means (below_c nodes) op

-- on the base tree
abbrev pub reply_of : Op → Told
reply_of op = (done_on base_nodes op).reply

-- the nodes after these operations, the last one first
abbrev pub nodes_after : List Op → List Inode
nodes_after [] = base_nodes
nodes_after (op ∷ earlier) = (done_on (nodes_after earlier) op).nodes

abbrev pub place : ℕ → List ℕ → Place
place d n = record { parent = d; name = n }

-- a directory goes neither into itself nor over what is none, and nothing over a directory with entries
pub record RenamesAreWorked : Type 0 where
  pub into_itself : reply_of (Rename (codes "a") (codes "a/b/x") Plain) ≡ fails Invalid
  pub exchanged_with_inner : reply_of (Rename (codes "a") (codes "a/b") Exchange) ≡ fails Invalid
  pub over_link : reply_of (Rename (codes "a") (codes "abs") Plain) ≡ fails NotDir
  pub over_directory : reply_of (Rename (codes "abs") (codes "a/b") Plain) ≡ fails IsDir
  pub over_full : reply_of (Rename (codes "a/b") (codes "a") Plain) ≡ fails NotEmpty
  pub itself : done_on base_nodes (Rename (codes "a/b/f") (codes "a/b/f") Plain)
      ≡ record { reply = is_done; nodes = base_nodes }
  pub no_replace : reply_of (Rename (codes "a/b/f") (codes "a/b/f") NoReplace) ≡ fails Exists
  pub file_with_slash : reply_of (Rename (codes "a/b/f/") (codes "x") Plain) ≡ fails NotDir
  pub to_slash : reply_of (Rename (codes "a/b/f") (codes "x/") Plain) ≡ fails NotDir
  pub missing_with_slash : reply_of (Rename (codes "none/") (codes "x") Plain) ≡ fails NotFound
  pub old_fault_first : reply_of (Rename (codes "none/x") [] Plain) ≡ fails NotFound

-- both entries stay, each at the other's; a directory is renamed by a path with a slash, and through a link
pub record MovesAreWorked : Type 0 where
  pub exchanged : reply_of (Rename (codes "abs") (codes "a/b/f") Exchange) ≡ is_done
  pub link_there : place_at (nodes_after (Rename (codes "abs") (codes "a/b/f") Exchange ∷ [])) 5
      ≡ Some (place 3 (codes "f"))
  pub file_there : place_at (nodes_after (Rename (codes "abs") (codes "a/b/f") Exchange ∷ [])) 4
      ≡ Some (place 1 (codes "abs"))
  pub moved : done_on base_nodes (Rename (codes "a/b/") (codes "up/../d") Plain)
      ≡ record { reply = is_done; nodes = put_at base_nodes 3 (Some (place 1 (codes "d"))) }

-- what is made, in this order: /c/a/n, /c/d and /c/l
abbrev pub file_made : List Inode
file_made = nodes_after (CreateFile (codes "a/n") ∷ [])

abbrev pub all_made : List Inode
all_made = nodes_after (CreateLink (codes "l") (codes "q") ∷ CreateDir (codes "d/") ∷ CreateFile (codes "a/n") ∷ [])

-- new nodes take the next numbers
pub record MadeAreWorked : Type 0 where
  pub file : done_on base_nodes (CreateFile (codes "a/n"))
      ≡ record { reply = is_done; nodes = base_nodes ++ standing File 2 (codes "n") ∷ [] }
  pub again : (done_on file_made (CreateFile (codes "a/n"))).reply ≡ fails Exists
  pub over_link : reply_of (CreateFile (codes "abs")) ≡ fails Exists
  pub slash : reply_of (CreateFile (codes "x/")) ≡ fails NotDir
  pub below_file : reply_of (CreateFile (codes "a/b/f/x")) ≡ fails NotDir
  pub directory : done_on file_made (CreateDir (codes "d/"))
      ≡ record { reply = is_done; nodes = file_made ++ standing Dir 1 (codes "d") ∷ [] }
  pub empty_text : reply_of (CreateLink (codes "l") []) ≡ fails NotFound
  pub all : all_made
      ≡ base_nodes ++ standing File 2 (codes "n") ∷ standing Dir 1 (codes "d")
      ∷ standing (Link (codes "q")) 1 (codes "l") ∷ []

-- what is opened, and which texts are read: a slash at the end follows the link
pub record ToldAreWorked : Type 0 where
  pub followed : reply_of (Resolve (codes "abs")) ≡ is_open 3
  pub not_followed : reply_of (ResolveNoFollow (codes "abs")) ≡ is_open 5
  pub text : reply_of (ReadLink (codes "abs")) ≡ has_text (codes "/a/b")
  pub no_link : reply_of (ReadLink (codes "a")) ≡ fails Invalid
  pub after_slash : reply_of (ReadLink (codes "abs/")) ≡ fails Invalid
  pub duplicate : reply_of (Single (Dup 0)) ≡ fails Invalid

-- what is removed, and what can't be
pub record RemovedAreWorked : Type 0 where
  pub directory : reply_of (RemoveFile (codes "a")) ≡ fails IsDir
  pub link : reply_of (RemoveDir (codes "abs")) ≡ fails NotDir
  pub full : reply_of (RemoveDir (codes "a")) ≡ fails NotEmpty
  pub itself : reply_of (RemoveDir (codes "a/.")) ≡ fails Invalid
  pub root : reply_of (RemoveDir (codes "/")) ≡ fails Invalid
  pub through_link : done_on base_nodes (RemoveFile (codes "abs/f"))
      ≡ record { reply = is_done; nodes = put_at base_nodes 4 None }
  pub link_itself : done_on base_nodes (RemoveFile (codes "abs"))
      ≡ record { reply = is_done; nodes = put_at base_nodes 5 None }
  pub emptied : nodes_after (RemoveDir (codes "a/b/") ∷ RemoveFile (codes "a/b/f") ∷ [])
      ≡ put_at (put_at base_nodes 4 None) 3 None
