use Rattle.std.proofs.Common.{rules, ◌≡◌, ◌∙◌, sym}
use Rattle.std.specs.Map.{lookup}
use Rattle.tree_slab.specs.Directories.{is_name}
use Rattle.tree_slab.proofs.EntryMaps.{lookup-named}
use Rattle.tree_slab.proofs.entry_map.EntryMap.get.Goals as goal

pub returns : goal.returns
returns c =
    let found : c.copied.result ≡ lookup (λ key. is_name c.args.name.now key.items) c.self.inside.nodes.entries = search rules in
    rw (← c.self.view_is) (found ∙ sym (lookup-named (λ key. key.items) c.args.name.now c.self.inside.nodes.entries))
