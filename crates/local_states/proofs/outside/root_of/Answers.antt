use Rattle.std.proofs.Common.{◌≡◌, ◌∙◌, ◌++◌, ap}
use Rattle.std.specs.Prelude.{slice_get}
use Rattle.tree_model.specs.Steps.{node_held}
use Rattle.race_core.specs.Renamed.{seat_handles}
use Rattle.local_states.proofs.Counting.{first_is, none_first}
use Rattle.local_states.proofs.outside.root_of.Goals as goal

pub returns-in-Some : goal.returns-in-Some
returns-in-Some g c = λ seat there.
    let items : c.push_handles.new.into.items ≡ seat_handles seat =
    c.in_ok-push_handles.ensures seat there ∙ ap (λ xs. xs ++ seat_handles seat) c.new-handles.ensures.items in
    let first = first_is c.deref.result.now c.in-Some.root.now seat (c.deref.ensures.value ∙ items) c.in-Some.ensures.lookup.1 in
    c.held.ensures ∙ (λ i. node_held (c.new.ensures i) (slice_get (c.handles.ensures i) (first i)))

pub returns : goal.returns
returns g c = λ seat there.
    let items : c.push_handles.new.into.items ≡ seat_handles seat =
    c.in_ok-push_handles.ensures seat there ∙ ap (λ xs. xs ++ seat_handles seat) c.new-handles.ensures.items in
    absurd (none_first c.deref.result.now seat (c.deref.ensures.value ∙ items) c.in-None.ensures.lookup.0)
