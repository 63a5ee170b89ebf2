use Rattle.std.proofs.Common.{rules, ◌≡◌, None, ap, ◌∙◌, sym, subst, ◌++◌, ◌∷◌, [], map, append_assoc}
use Rattle.std.proofs.lemmas.List.Elements.{All-tail}
use Rattle.std.specs.List.{All}
use Rattle.std.specs.BTreeMap.{keys}
use Rattle.path_text.specs.Name.{name_fault}
use Rattle.tree_slab.proofs.EntryMaps.{sorted-named}
use Rattle.tree_slab.proofs.entry_map.names_of.Goals as goal

pub loop-name-preserved : goal.loop-name-preserved
loop-name-preserved c =
    let key = c.in-Some.name.now in
    let left : c.loop-name.name-iterator ≡ key ∷ c.next.new.self = search rules in
    let longer : c.push_bytes.new.self ≡ c.loop-name.names ++ key.items ∷ [] = search rules in (
      rw longer (append_assoc c.loop-name.names (key.items ∷ []) (map (λ key. key.items) c.next.new.self) ∙ ap (λ keys. c.loop-name.names ++ map (λ key. key.items) keys) (sym left) ∙ c.loop-name.invariant.0),
      All-tail (λ key. name_fault key.items ≡ None) key c.next.new.self (subst (All (λ key. name_fault key.items ≡ None)) left c.loop-name.invariant.1),
    )

pub returns-clause-sorted : goal.returns-clause-sorted
returns-clause-sorted c =
    let all : c.loop-name.names ≡ map (λ key. key.items) (keys c.args.nodes.now) = search rules in
    rw all (sorted-named (λ key. key.items) (keys c.args.nodes.now) c.keys-name-items.ensures.ordered)
