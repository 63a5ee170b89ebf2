use Rattle.std.proofs.Common.{rules, IsSome}
use Rattle.std.specs.Prelude.{slice_get}
use Rattle.tree_model.specs.Steps.{node_held}
use Rattle.tree_slab.specs.Counts.{count_in}
use Rattle.tree_slab.proofs.Counts.{held_counts, held_within, counted_closed}
use Rattle.tree_slab.proofs.handles.HandlesHandleTable.close.Goals as goal

pub lower-requires : goal.lower-requires
lower-requires c =
    let held : IsSome (node_held c.args.actor (slice_get c.self.inside.places.items c.args.handle)) = search rules in
    rw (c.self.invariant c.args.actor) (held_counts c.self.inside.places.items c.args.actor c.args.handle held)

pub index_mut-requires : goal.index_mut-requires
index_mut-requires c =
    let held : IsSome (node_held c.args.actor (slice_get c.self.inside.places.items c.args.handle)) = search rules in
    rw (c.self.inside.places.ok.0, c.number.ensures) (held_within c.self.inside.places.items c.args.actor c.args.handle held)

pub invariant_of-self : goal.invariant_of-self
invariant_of-self c =
    let held : IsSome (node_held c.args.actor (slice_get c.self.inside.places.items c.args.handle)) = search rules in
    rw c.number.ensures (counted_closed c.self.inside.places.items c.args.actor c.args.handle held (count_in c.self.inside.counts.low c.self.inside.counts.high) (count_in c.lower.new.self.low c.lower.new.self.high) c.self.invariant c.lower.ensures)
