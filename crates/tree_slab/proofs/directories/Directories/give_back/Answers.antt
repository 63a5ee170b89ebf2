use Rattle.std.proofs.Common.{rules, ◌≡◌, Some, map}
use Rattle.tree_slab.specs.Directories.{entries_of, key_at}
use Rattle.tree_slab.proofs.Grown.{lost_each, lost_map}
use Rattle.tree_slab.proofs.directories.Directories.give_back.Goals as goal

pub invariant_of-self : goal.invariant_of-self
invariant_of-self c =
    let there : key_at c.self.inside.keys.items c.args.x ≡ Some c.in-Some.key = search rules in
    rw c.number.ensures (lost_each c.self.inside.keys.items c.self.inside.maps c.remove-map.new.self c.self.invariant c.args.x c.in-Some.key there c.remove-map.ensures.updates)

pub returns-in-Some : goal.returns-in-Some
returns-in-Some c =
    let there : key_at c.self.inside.keys.items c.args.x ≡ Some c.in-Some.key = search rules in
    let view : map (entries_of c.self.inside.maps) c.self.inside.keys.items ≡ c.args.self.now = search rules in
    rw (← view, c.number.ensures) (lost_map c.self.inside.keys.items c.self.inside.maps c.remove-map.new.self c.self.invariant c.args.x c.in-Some.key there c.remove-map.ensures.updates)
