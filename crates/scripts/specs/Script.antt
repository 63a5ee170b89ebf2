-- What a script says, over the data that its JSON text is (RFC 8259, as serde_json reads it). The checks are made in
-- this order, and the first that fails is told.
use Rattle.std.specs.Prelude.{codes, option_and_then, Result, Err}
use Rattle.serde_json.specs.Data.{Data}
use Rattle.serde_json.specs.Find.{get, as_array}
use Rattle.tree_model.specs.Entries.{with_some}
use Rattle.tree_model.specs.State.{TOP}
use Rattle.tree_model.specs.Steps.{directory_at}
use Rattle.scripts.specs.declared.fault.Cause.TheVariants.{Shape}
use Rattle.scripts.specs.declared.fault.ScriptFault.{ScriptFault}
use Rattle.scripts.specs.declared.fault.ScriptFault.TheVariants.{Tree, Actors, Actor}
use Rattle.scripts.specs.Actors.{RootedTree, first_actor_of, root_of, rooted}
use Rattle.scripts.specs.Checks.{then_with}
use Rattle.scripts.specs.Tree.{tree_of}
use Rattle.scripts.specs.Version.{version_of}

-- what `walk` looks at: the version, the tree, and the first actor's root
abbrev pub rooted_tree_of : Data → Result RootedTree ScriptFault
rooted_tree_of d =
    then_with (version_of d) (λ version.
    with_some (option_and_then as_array (get (codes "tree") d)) (Err Tree) (λ items.
    then_with (tree_of items) (λ nodes.
    with_some (first_actor_of d) (Err Actors) (λ actor.
    with_some (root_of actor) (Err (Actor 0 Shape)) (λ names.
    rooted nodes (directory_at nodes TOP names))))))
