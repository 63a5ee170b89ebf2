use Rattle.std.proofs.Common.{ℕ, Ok, ap, subst, ◌∙◌}
use Rattle.tree_model.specs.StepWith.{StepWith}
use Rattle.tree_model.specs.Steps.{outcome}
use Rattle.step_resolver.specs.declared.driver.Resolved.{Resolved}
use Rattle.step_resolver.specs.Driver.{LeavesHandles}
use Rattle.example_callers.proofs.Closing.{closed_again}
use Rattle.example_callers.proofs.lookup.look_up.Goals as goal

pub returns-clause-handles : goal.returns-clause-handles
returns-clause-handles g c =
    closed_again c.handles_stay.ensures.others _ _ _ c.args.root.owner.actor c.in-Found.standing
    (subst (λ (r : Resolved). LeavesHandles (g.T.Tree.state c.args.tree.now) c.args.root.owner.actor (g.T.Tree.state c.resolve.new.tree) (Ok r)) c.in-Found.is c.in_ok-standing.ensures.handles)
    (c.in_ok-step-in-Found.ensures.after
    ∙ ap (λ (step : StepWith ℕ). (outcome (g.T.Tree.state c.resolve.new.tree) c.args.root.owner.actor step).after) (c.lend.ensures ∙ c.into_close.ensures))
