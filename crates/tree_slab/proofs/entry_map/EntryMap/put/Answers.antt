use Rattle.std.proofs.Common.{rules, ◌≡◌, Some, None}
use Rattle.std.proofs.lemmas.Map.Views.{All-keys-insert_entry}
use Rattle.std.specs.Cmp.Lexicographic.{slice_cmp}
use Rattle.std.specs.Ordering.{nat_cmp}
use Rattle.path_text.specs.Name.{name_fault}
use Rattle.tree_slab.proofs.EntryMaps.{changed_named}
use Rattle.tree_slab.proofs.entry_map.EntryMap.put.Goals as goal

pub invariant_of-self-2 : goal.invariant_of-self-2
invariant_of-self-2 c =
    let valid : name_fault c.in_ok-key.key.items ≡ None = search rules in
    rw c.in_ok-insert.ensures.entries (All-keys-insert_entry (λ j k. slice_cmp nat_cmp j.items k.items) c.in_ok-key.key c.args.x (λ key. name_fault key.items ≡ None) c.self.inside.nodes.entries c.self.invariant valid)

pub returns-clause-ok : goal.returns-clause-ok
returns-clause-ok c =
    let same : c.in_ok-key.key.items ≡ c.args.name.now = search rules in
    rw (← same, ← c.self.view_is) (changed_named (λ key. key.items) c.in_ok-key.key.items (Some c.args.x) c.self.inside.nodes.entries c.insert.new.self.entries c.in_ok-insert.ensures.updates.1 c.in_ok-insert.ensures.updates.3)
