use Rattle.std.proofs.Common.{◌≡◌, ap, ◌∙◌, sym, map}
use Rattle.std.specs.BTreeMap.{keys}
use Rattle.std.specs.Map.{keys_of}
use Rattle.tree_slab.proofs.EntryMaps.{keys-named}
use Rattle.tree_slab.proofs.entry_map.EntryMap.names.Goals as goal

pub returns-clause-same : goal.returns-clause-same
returns-clause-same c =
    let same : map (λ key. key.items) (keys c.self.inside.nodes) ≡ keys_of c.args.self.now = sym (keys-named (λ key. key.items) c.self.inside.nodes.entries) ∙ ap keys_of c.self.view_is in
    rw (← same) c.names_of.ensures.same
