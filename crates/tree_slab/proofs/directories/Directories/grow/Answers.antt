use Rattle.std.proofs.Common.{rules, ◌≡◌, ◌∙◌, ap, ◌++◌, ◌∷◌, [], map}
use Rattle.tree_slab.specs.Directories.{entries_of, new_entries}
use Rattle.tree_slab.proofs.Grown.{grown_each, grown_view}
use Rattle.tree_slab.proofs.directories.Directories.grow.Goals as goal

pub invariant_of-self-2 : goal.invariant_of-self-2
invariant_of-self-2 c =
    grown_each c.self.inside.keys.items c.push_reserved.new.self.items c.self.inside.maps c.reserve-2.new.self c.add_map-key.new.maps c.args.mapped c.add_map-key.result
    c.self.invariant c.reserve-2.ensures.rest_kept c.add_map-key.ensures (c.push_reserved.ensures.items ∙ ap (λ items. items ++ c.add_map-key.result ∷ []) c.reserve.ensures.items)

pub returns-clause-ok : goal.returns-clause-ok
returns-clause-ok c =
    let view : map (entries_of c.self.inside.maps) c.self.inside.keys.items ≡ c.args.self.now = search rules in
    grown_view c.self.inside.keys.items c.push_reserved.new.self.items c.self.inside.maps c.reserve-2.new.self c.add_map-key.new.maps c.args.mapped c.add_map-key.result
    c.self.invariant c.reserve-2.ensures.rest_kept c.add_map-key.ensures (c.push_reserved.ensures.items ∙ ap (λ items. items ++ c.add_map-key.result ∷ []) c.reserve.ensures.items)
    ∙ ap (λ all. all ++ new_entries c.args.mapped ∷ []) view
