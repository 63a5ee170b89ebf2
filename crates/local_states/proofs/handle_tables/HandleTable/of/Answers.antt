use Rattle.std.proofs.Common.{ap, ◌∙◌, refl}
use Rattle.std.specs.Prelude.{map, slice_get}
use Rattle.tree_model.specs.State.{State}
use Rattle.tree_model.specs.Steps.{held_count, node_held}
use Rattle.race_core.specs.Book.{BookedHistory, tree_now}
use Rattle.local_states.proofs.Parted.Parts.{has_handle_table}
use Rattle.local_states.proofs.handle_tables.HandleTable.of.Goals as goal

pub returns : goal.returns
returns g c =
    has_handle_table c.args.world.now c.args.actor _ c.args.opened.now c.new-number.result c.new-handles.result.items c.requires.there c.requires.numbered
    c.requires.opened c.new-number.ensures c.new-handles.ensures.items c.in_ok-push_handles.ensures
    (c.in_ok-nodes.ensures ∙ ap (λ hs. map (λ h. node_held c.new-number.result (slice_get c.args.opened.now h)) hs) c.as_slice.ensures.value)
    refl
    (c.held.ensures ∙ ap (λ (s : State). held_count s c.new-number.result) (c.tree.ensures ∙ ap (λ (b : BookedHistory). tree_now b) c.book.ensures))
