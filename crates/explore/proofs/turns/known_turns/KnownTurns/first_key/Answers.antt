use Rattle.std.proofs.Common.{◌≡◌, ◌∙◌, ℕ, List, ap, sym, subst, refl, length, map, arith}
use Rattle.std.specs.Prelude.{Some, slice_get}
use Rattle.std.specs.List.{All}
use Rattle.smallvec.specs.SmallVec.{with_items}
use Rattle.smallvec.proofs.SmallVecLemmas.{items-with_items}
use Rattle.tree_model.specs.State.{State}
use Rattle.tree_model.specs.declared.inode.Inode.{Inode}
use Rattle.race_core.specs.Book.{BookedHistory, tree_now}
use Rattle.local_states.specs.declared.keys.Own.{Own}
use Rattle.explore.specs.Effects.{KnownView, IsSound}
use Rattle.local_states.specs.Keys.{IsPartAt}
use Rattle.explore.proofs.Keyed.Found.{first_is, first_few}
use Rattle.explore.proofs.Keyed.Growing.{part_grows, sound_grows}
use Rattle.explore.proofs.turns.known_turns.KnownTurns.first_key.Goals as goal

pub returns-clause-sound : goal.returns-clause-sound
returns-clause-sound g c =
    let mid : IsSound c.args.world.now c.put_parts.new.self =
    subst (λ (k : KnownView). IsSound c.args.world.now k) (sym c.in_ok-put_parts.ensures.rest) (sound_grows c.in_ok-put_parts.ensures.grows c.requires.sound) in
    sound_grows c.put_nodes.ensures.grows (subst (λ (k : KnownView). IsSound c.args.world.now k) (sym c.self.view_is) mid)

pub returns-clause-key : goal.returns-clause-key
returns-clause-key g c =
    let tree : c.in_ok-tree.tree ≡ tree_now c.args.world.now.book =
    c.in_ok-tree.ensures ∙ (c.tree.ensures ∙ ap (λ (b : BookedHistory). tree_now b) c.book.ensures) in
    let nodes : c.nodes.result.now ≡ (tree_now c.args.world.now.book).nodes = c.nodes.ensures ∙ ap (λ (s : State). s.nodes) tree in
    let items : (with_items c.loop-actor.own c.put_parts.new.own).items ≡ c.put_parts.new.own =
    items-with_items c.loop-actor.own c.put_parts.new.own (c.put_parts.auto.own ∙ ap length c.as_mut_slice.ensures.value) in
    let long : length c.put_parts.new.own ≡ length c.args.world.now.seats = omega (arith, ap length c.as_mut_slice.ensures.value) in
    let many : length (with_items c.loop-actor.own c.put_parts.new.own).items ≡ length c.args.world.now.seats = ap length items ∙ long in
    let none : All (λ n. n ≡ 0) (map (λ (o : Own). o.outside) (with_items c.loop-actor.own c.put_parts.new.own).items) =
    subst (λ (ns : List ℕ). All (λ n. n ≡ 0) ns)
    (sym (ap (map (λ (o : Own). o.outside)) items ∙ (c.in_ok-put_parts.ensures.outside ∙ ap (map (λ (o : Own). o.outside)) c.as_mut_slice.ensures.value)))
    c.loop-actor.invariant.none in
    first_is c.put_nodes.new.self c.args.world.now _ c.requires.sound.numbered c.requires.sound.start.fresh
    (subst (λ (ns : List Inode). slice_get c.put_nodes.new.self.lists c.in_ok-put_nodes.field-0 ≡ Some ns) nodes c.in_ok-put_nodes.ensures.there)
    refl refl refl many none
    (λ i one there. part_grows c.put_nodes.ensures.grows
    (subst (λ (k : KnownView). IsPartAt k.components c.args.world.now i one.part) (sym c.self.view_is) (c.in_ok-put_parts.ensures.parts i one (ap (λ (os : List Own). slice_get os i) (sym items) ∙ there))))

pub returns-clause-few : goal.returns-clause-few
returns-clause-few g c =
    let items : (with_items c.loop-actor.own c.put_parts.new.own).items ≡ c.put_parts.new.own =
    items-with_items c.loop-actor.own c.put_parts.new.own (c.put_parts.auto.own ∙ ap length c.as_mut_slice.ensures.value) in
    let none : All (λ n. n ≡ 0) (map (λ (o : Own). o.outside) (with_items c.loop-actor.own c.put_parts.new.own).items) =
    subst (λ (ns : List ℕ). All (λ n. n ≡ 0) ns)
    (sym (ap (map (λ (o : Own). o.outside)) items ∙ (c.in_ok-put_parts.ensures.outside ∙ ap (map (λ (o : Own). o.outside)) c.as_mut_slice.ensures.value)))
    c.loop-actor.invariant.none in
    first_few _ refl refl refl none
