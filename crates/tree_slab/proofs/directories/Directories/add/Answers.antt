use Rattle.std.proofs.Common.{rules, ◌≡◌, ◌∙◌, ap, ◌++◌, ◌∷◌, [], Some, map, length}
use Rattle.tree_slab.specs.Directories.{entries_of, key_at}
use Rattle.tree_slab.proofs.Grown.{added_each, added_view}
use Rattle.tree_slab.proofs.directories.Directories.add.Goals as goal

pub invariant_of-self-2 : goal.invariant_of-self-2
invariant_of-self-2 c =
    let there : key_at c.self.inside.keys.items c.args.dir ≡ Some c.in-Some.dir_key = search rules in
    added_each c.self.inside.keys.items c.push_reserved.new.self.items c.self.inside.maps c.reserve-2.new.self c.add_map-key.new.maps c.args.mapped c.add_map-key.result
    c.self.invariant c.reserve-2.ensures.rest_kept c.put_in.new.maps c.args.dir c.in-Some.dir_key c.new-x.result c.args.name.now there c.in_ok-put_in.ensures.ok c.add_map-key.ensures
    (c.push_reserved.ensures.items ∙ ap (λ items. items ++ c.add_map-key.result ∷ []) c.reserve.ensures.items)

pub returns-clause-ok : goal.returns-clause-ok
returns-clause-ok c =
    let there : key_at c.self.inside.keys.items c.args.dir ≡ Some c.in-Some.dir_key = search rules in
    let last : c.new-x.result ≡ length c.self.inside.keys.items = search rules in
    let view : map (entries_of c.self.inside.maps) c.self.inside.keys.items ≡ c.args.self.now = search rules in
    rw (← view) (added_view c.self.inside.keys.items c.push_reserved.new.self.items c.self.inside.maps c.reserve-2.new.self c.add_map-key.new.maps c.args.mapped c.add_map-key.result
    c.self.invariant c.reserve-2.ensures.rest_kept c.put_in.new.maps c.args.dir c.in-Some.dir_key c.new-x.result c.args.name.now there c.in_ok-put_in.ensures.ok c.add_map-key.ensures
    (c.push_reserved.ensures.items ∙ ap (λ items. items ++ c.add_map-key.result ∷ []) c.reserve.ensures.items)
    last)
