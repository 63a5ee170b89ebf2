use Rattle.std.proofs.Common.{◌≡◌, ◌++◌, map, None}
use Rattle.std.specs.List.{All}
use Rattle.std.specs.BTreeMap.{keys}
use Rattle.path_text.specs.Name.{name_fault}
use Rattle.tree_slab.proofs.entry_map.names_of.Given as goal

-- the names so far, and those of the keys that are left, are all, and what is left are names
abbrev pub invariant-loop-name : goal.invariant-loop-name
invariant-loop-name l =
    (l.names ++ map (λ key. key.items) l.name-iterator ≡ map (λ key. key.items) (keys l.nodes)) × All (λ key. name_fault key.items ≡ None) l.name-iterator
