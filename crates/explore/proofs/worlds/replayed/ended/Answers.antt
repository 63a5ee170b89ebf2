use Rattle.std.proofs.Common.{◌≤◌, ◌∙◌, length, ap, sym, subst}
use Rattle.race_core.specs.declared.opening.TheConstants.{ACTORS_MAX}
use Rattle.explore.specs.Replayed.{ReplayedView}
use Rattle.explore.specs.Search.{IsOver}
use Rattle.local_states.specs.Worlds.{IsEndOf}
use Rattle.local_states.proofs.Counting.{counts_there}
use Rattle.local_states.specs.OutOfMemory.{EndsWell}
use Rattle.explore.proofs.OutOfMemory.Followed.{ends_well}
use Rattle.explore.proofs.Lists.Replayed.{is_end, replies_many}
use Rattle.explore.proofs.worlds.replayed.ended.Goals as goal

pub returns-clause-well : goal.returns-clause-well
returns-clause-well g c =
    subst (λ (r : ReplayedView). EndsWell r.world) c.replayed.view_is
    (ends_well c.replayed.inside.world (g.T.Tree.state c.in_ok-report.report.tree) c.in_ok-report.report.events.events
    c.in_ok-report.report.replies.items c.in_ok-report.report.kept.items c.in_ok-report.ensures.ran c.in_ok-report.ensures.none)

pub invariant_of-result : goal.invariant_of-result
invariant_of-result g c =
    let world = ap (λ (r : ReplayedView). length r.world.seats) c.replayed.view_is in
    let many = replies_many c.replayed.inside.world (g.T.Tree.state c.in_ok-report.report.tree) c.in_ok-report.report.events.events
    c.in_ok-report.report.replies.items c.in_ok-report.report.kept.items c.in_ok-report.ensures.ran c.in_ok-report.ensures.none in
    (c.in_ok-nodes.ensures, subst (λ n. n ≤ ACTORS_MAX) (sym (many ∙ world)) c.requires)

pub returns-clause-report : goal.returns-clause-report
returns-clause-report g c =
    subst (λ (r : ReplayedView). IsOver r.world → IsEndOf r.told r.world (record {
      tree = g.T.Tree.state c.in_ok-report.report.tree;
      replies = c.in_ok-report.report.replies.items;
      outside = c.into_counts.result.items;
    })) c.replayed.view_is
    (is_end c.replayed.inside.world (g.T.Tree.state c.in_ok-report.report.tree) c.in_ok-report.report.events.events
    c.in_ok-report.report.replies.items c.in_ok-report.report.kept.items c.in_ok-report.ensures.ran c.in_ok-report.ensures.none
    c.replayed.inside.tally.told c.into_counts.result.items
    (counts_there c.replayed.inside.world _ c.into_counts.result.items c.replayed.invariant c.into_counts.ensures))
