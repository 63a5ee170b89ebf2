-- Each own event in a walk's window leaves the nodes.
use Rattle.std.specs.Prelude.{◌≡◌, Option, Some, None, slice_get, refl}
use Rattle.std.proofs.Common.{sym, ap, subst, ◌∙◌}
use Rattle.std.proofs.lemmas.Bool.{false≢true}
use Rattle.tree_model.specs.declared.answer.Event.{Event}
use Rattle.step_resolver.specs.Trail.{is_by}
use Rattle.step_resolver.specs.Order.{Turn, begins, LeadsTo}
use Rattle.step_resolver.specs.WalkHistory.{WalkInHistory, IsWalkInHistory, begin_of, state_at, own_events}
use Rattle.step_resolver.specs.Moments.{LeavesEntries}
use Rattle.step_resolver.specs.OwnSteps.{OwnEventsLeaveNodes}
use Rattle.step_resolver.proofs.Ends.EveryWalk.{tree_laws}
use Rattle.step_resolver.proofs.Ends.EntriesLeftAlone.{AllTell, lines_only_tell, own_tells, next_moment}

-- no own event is a step on entries
pub only_tell : (w : WalkInHistory) (end : Turn) → IsWalkInHistory w → LeadsTo w.way (begins w.way w.path) w.lines end
    → AllTell (own_events w.actor w.window)
only_tell w end is leads = subst AllTell (sym is.own) (lines_only_tell w.actor w.way w.lines (begins w.way w.path) end leads)

pub own_events_leave_nodes : OwnEventsLeaveNodes
own_events_leave_nodes w end is leads t own = on (slice_get w.window t) refl
  where
    on : (o : Option Event) → slice_get w.window t ≡ o → LeavesEntries w t
    on None q = absurd (false≢true (sym (ap (is_by w.actor) q) ∙ own))
    on (Some event) q = ap (λ s. s.nodes) (next_moment (begin_of w) w.window t event q)
        ∙ tree_laws.nodes (state_at w t) event.actor event.step
        (own_tells w.actor w.window (only_tell w end is leads) t event q (sym (ap (is_by w.actor) q) ∙ own))
