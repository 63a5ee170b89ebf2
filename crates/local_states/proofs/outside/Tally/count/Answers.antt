use Rattle.std.proofs.Common.{◌≡◌, ◌≤◌, ◌∙◌, List, ap, sym, subst, refl, arith}
use Rattle.std.specs.Prelude.{slice_get, slice_index_or, Some, None}
use Rattle.tree_model.specs.declared.answer.Event.{Event}
use Rattle.race_core.specs.Book.{BookedHistory, tree_now}
use Rattle.local_states.specs.Counting.{TallyView, bumped}
use Rattle.local_states.specs.Outside.{changed_by, any_outside}
use Rattle.local_states.proofs.Counting.{count_room, count_none, count_change}
use Rattle.local_states.proofs.outside.Tally.count.Goals as goal

pub returns-then-not-is_change-clause-counted : goal.returns-then-not-is_change-clause-counted
returns-then-not-is_change-clause-counted g c =
    let h = c.requires.counted in
    let there : slice_get c.args.world.now.book.events c.args.at ≡ Some c.in_ok-event.event =
    ap (λ (b : List Event). slice_get b c.args.at) (sym (c.events.ensures.events ∙ ap (λ (b : BookedHistory). b.events) c.book.ensures)) ∙ c.in_ok-event.ensures in
    count_none h.0 c.args.world.now.book h.1.0 c.args.self.now c.args.at c.in_ok-event.event h.1.1.0 h.1.1.1 there
    (sym c.is_change.ensures ∙ c.if-not-is_change.true)

pub add_if-requires : goal.add_if-requires
add_if-requires g c =
    let h = c.requires.counted in
    let few : slice_index_or c.self.inside.counts.items c.number.result 0 ≤ c.args.at =
    subst (λ counts. slice_index_or counts c.number.result 0 ≤ c.args.at) (sym (ap (λ (t : TallyView). t.counts) c.self.view_is))
    (count_room h.0 c.args.self.now c.args.at c.number.result h.1.1.0 h.1.1.1) in
    omega (arith, few, c.requires.few)

pub returns-clause-counted : goal.returns-clause-counted
returns-clause-counted g c =
    let h = c.requires.counted in
    let event : Event = c.in_ok-event.event in
    let there : slice_get c.args.world.now.book.events c.args.at ≡ Some event =
    ap (λ (b : List Event). slice_get b c.args.at) (sym (c.events.ensures.events ∙ ap (λ (b : BookedHistory). b.events) c.book.ensures)) ∙ c.in_ok-event.ensures in
    let nodes : c.nodes.result.now ≡ c.args.self.now.nodes = c.nodes.ensures ∙ ap (λ (t : TallyView). t.nodes) c.self.view_is in
    let roots : c.deref.result.now ≡ c.args.self.now.roots = c.deref.ensures.value ∙ ap (λ (t : TallyView). t.roots) c.self.view_is in
    let counts : c.self.inside.counts.items ≡ c.args.self.now.counts = ap (λ (t : TallyView). t.counts) c.self.view_is in
    count_change h.0 c.args.world.now.book h.1.0 c.args.self.now _ c.args.at event c.in_ok-after.after c.leaves_root-outside.result c.requires.told h.1.1.0 h.1.1.1 there
    (sym c.is_change.ensures ∙ c.if-not-is_change.false)
    (c.in_ok-after.ensures ∙ (c.tree.ensures ∙ ap tree_now c.book-2.ensures))
    (c.leaves_root-outside.ensures
    ∙ (λ i. any_outside (record { nodes = nodes i; handles = c.handles.ensures i }) (slice_index_or (roots i) event.actor None) event.actor (changed_by event.step)))
    (ap (λ (t : TallyView). t.roots) c.self.view_is)
    (c.add_if.ensures ∙ (λ i. bumped c.leaves_root-outside.result (c.number.ensures i) (counts i)))
    refl
