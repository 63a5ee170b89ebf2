use Rattle.std.proofs.Common.{◌≡◌, None}
use Rattle.std.proofs.lemmas.Map.Views.{All-map-remove_entry}
use Rattle.std.specs.BTreeMap.{is_at}
use Rattle.std.specs.Cmp.Lexicographic.{slice_cmp}
use Rattle.std.specs.Ordering.{nat_cmp}
use Rattle.path_text.specs.Name.{name_fault}
use Rattle.tree_slab.proofs.EntryMaps.{changed_named}
use Rattle.tree_slab.proofs.entry_map.EntryMap.remove.Goals as goal

pub invariant_of-self : goal.invariant_of-self
invariant_of-self c =
    rw c.remove.ensures.entries (All-map-remove_entry (λ key. is_at (slice_cmp nat_cmp c.bytes.result.now) key.items) (λ e. e.0) (λ key. name_fault key.items ≡ None) c.self.inside.nodes.entries c.self.invariant)

pub returns : goal.returns
returns c =
    rw (← c.bytes.ensures.same, ← c.self.view_is) (changed_named (λ key. key.items) c.bytes.result.now None c.self.inside.nodes.entries c.remove.new.self.entries c.remove.ensures.updates.1 c.remove.ensures.updates.3)
