-- What became of a tree's entries.
use Rattle.std.specs.Prelude.{ℕ, List, [], ◌++◌, Bool, if◌then◌else◌, codes, decimal}
use Rattle.std.specs.List.{flat_map}
use Rattle.tree_model.specs.declared.inode.Inode.{Inode}
use Rattle.tree_model.specs.declared.inode.Object.{Object}
use Rattle.tree_model.specs.declared.inode.Object.TheVariants.{Dir, File, Link}
use Rattle.tree_model.specs.declared.row.Row.{Row}
use Rattle.tree_model.specs.Entries.{with_some}
use Rattle.tree_model.specs.Rows.{rows_in_order}
use Rattle.tree_model.specs.State.{place_at, object_at, is_at}
use Rattle.event_log.specs.Output.{escaped}

-- the entry is one of that tree
abbrev pub stands : List Inode → Row → Bool
stands nodes row = is_at row.parent row.name (place_at nodes row.child)

-- what a node is: for a link with its text after a blank
abbrev pub object_words : Object → List ℕ
object_words Dir = codes "dir"
object_words File = codes "file"
object_words (Link text) = codes "link " ++ escaped text

-- P NAME C, with a blank behind each
abbrev pub place_words : Row → List ℕ
place_words row = decimal row.parent
    ++ (codes " " ++ (escaped row.name ++ (codes " " ++ (decimal row.child ++ codes " "))))

-- an entry of these nodes, after that word; an entry's node is always there
abbrev pub entry_words : List ℕ → List Inode → Row → List ℕ
entry_words word nodes row = with_some (object_at nodes row.child) []
    (λ object. word ++ (place_words row ++ (object_words object ++ codes "\n")))

-- the same, unless it is one of the other tree too
abbrev pub change_words : List ℕ → List Inode → List Inode → Row → List ℕ
change_words word nodes others row = if stands others row then [] else entry_words word nodes row

-- the entries of these nodes that the other tree doesn't have, in their order
abbrev pub changes_text : List ℕ → List Inode → List Inode → List ℕ
changes_text word nodes others = flat_map (change_words word nodes others) (rows_in_order nodes)
