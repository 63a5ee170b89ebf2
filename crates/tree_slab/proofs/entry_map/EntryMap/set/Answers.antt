use Rattle.std.proofs.Common.{Some}
use Rattle.tree_slab.proofs.EntryMaps.{changed_named, lookup-named}
use Rattle.tree_slab.proofs.entry_map.EntryMap.set.Goals as goal

pub set-requires : goal.set-requires
set-requires c =
    rw (c.bytes.ensures.same, ← lookup-named (λ key. key.items) c.args.name.now c.self.inside.nodes.entries, c.self.view_is) c.requires

pub invariant_of-self : goal.invariant_of-self
invariant_of-self c = rw c.set.ensures.keys c.self.invariant

pub returns : goal.returns
returns c =
    rw (← c.bytes.ensures.same, ← c.self.view_is) (changed_named (λ key. key.items) c.bytes.result.now (Some c.args.x) c.self.inside.nodes.entries c.set.new.nodes.entries c.set.ensures.updates.1 c.set.ensures.updates.3)
