use Rattle.std.proofs.Common.{rules, ◌≡◌, ◌++◌, ◌∷◌, [], Some}
use Rattle.tree_slab.specs.Counts.{count_in}
use Rattle.tree_slab.proofs.Counts.{counted_opened}
use Rattle.tree_slab.proofs.handles.HandlesHandleTable.open.Goals as goal

pub invariant_of-self-2 : goal.invariant_of-self-2
invariant_of-self-2 c =
    let is : c.held-held.result ≡ count_in c.self.inside.counts.low c.self.inside.counts.high c.args.actor = search rules in
    let grown : c.push_reserved.new.self.items ≡ c.self.inside.places.items ++ Some (record { actor = c.args.actor; node = c.args.node }) ∷ [] = search rules in
    rw grown (counted_opened c.self.inside.places.items (count_in c.self.inside.counts.low c.self.inside.counts.high) (count_in c.set.new.self.low c.set.new.self.high) c.args.actor c.args.node c.self.invariant (rw (← is) c.in_ok-set.ensures.ok))
