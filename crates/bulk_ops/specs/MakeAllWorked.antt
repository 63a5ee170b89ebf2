-- Worked paths of MkdirAll on a small tree, below its directory /c: what the definition comes to. mkdir(2).
use Rattle.std.specs.Prelude.{◌≡◌, ℕ, List, [], ◌∷◌, ◌++◌, None, codes}
use Rattle.path_text.specs.declared.errno.Errno.TheVariants.{NotFound, NotDir, Raced}
use Rattle.path_text.specs.Text.{reading_of}
use Rattle.tree_model.specs.declared.inode.Inode.{Inode}
use Rattle.tree_model.specs.declared.inode.Object.TheVariants.{Dir}
use Rattle.tree_model.specs.BaseTree.{base_nodes, standing}
use Rattle.tree_model.specs.State.{put_at}
use Rattle.step_resolver.specs.WorkedPaths.{ROOT, plain}
use Rattle.step_resolver.specs.Deepest.{reading_deepest}
use Rattle.bulk_ops.specs.MakeAllQuiet.{MakeMeant, refuses, gives, make_means}

-- what a path text means in these nodes, below the directory r
abbrev pub meant_in : List Inode → ℕ → List ℕ → MakeMeant
meant_in nodes r text =
    make_means nodes (reading_deepest (record { nodes = nodes; root = r; flags = plain }) (reading_of text))

-- below /c in the base tree
abbrev pub meant : List ℕ → MakeMeant
meant text = meant_in base_nodes ROOT text

-- New nodes take the next numbers. The parts before the first missing name are resolved as any path, links included.
pub record MakesAreWorked : Type 0 where
  pub there : meant (codes "a/b") ≡ gives 3 base_nodes
  pub last_missing : meant (codes "a/x") ≡ gives 11 (base_nodes ++ standing Dir 2 (codes "x") ∷ [])
  pub both_missing : meant (codes "a/b/x/y")
      ≡ gives 12 (base_nodes ++ standing Dir 3 (codes "x") ∷ standing Dir 11 (codes "y") ∷ [])
  pub slashes_and_dots : meant (codes "/x/./y/")
      ≡ gives 12 (base_nodes ++ standing Dir 1 (codes "x") ∷ standing Dir 11 (codes "y") ∷ [])
  pub through_link : meant (codes "abs/x") ≡ gives 11 (base_nodes ++ standing Dir 3 (codes "x") ∷ [])
  pub over_file : meant (codes "a/b/f") ≡ refuses NotDir
  pub below_file : meant (codes "a/b/f/x") ≡ refuses NotDir
  pub up_in_rest : meant (codes "x/../y") ≡ refuses NotFound
  pub missing_in_link : meant (codes "dang/y") ≡ refuses NotFound
  pub root_is_gone : meant_in (put_at base_nodes 9 None) 9 (codes "x") ≡ refuses Raced
