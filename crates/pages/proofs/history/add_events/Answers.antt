use Rattle.std.proofs.Common.{◌≡◌, ℕ, sym, ap, ◌∙◌}
use Rattle.tree_model.specs.History.{after_event}
use Rattle.tree_model.specs.State.{State}
use Rattle.tree_model.specs.StepWith.{StepWith}
use Rattle.tree_model.specs.Steps.{outcome}
use Rattle.pages.proofs.Onward.{event_more}
use Rattle.pages.proofs.history.add_events.Goals as goal

pub loop-at-preserved : goal.loop-at-preserved
loop-at-preserved c =
    let event = c.in_ok-event.event in
    let led : c.in_ok-after.after ≡ after_event c.loop-at.before event =
    c.in_ok-after.ensures ∙ c.in_ok-_answer.ensures.after
    ∙ ap (λ (step : StepWith ℕ). (outcome c.loop-at.tree event.actor step).after) c.lend.ensures
    ∙ ap (λ (s : State). after_event s event) (sym c.loop-at.invariant.same) in
    record {
      same = c.in_ok-after.ensures;
      told =
          event_more c.loop-at.before c.in_ok-after.after c.args.events.now.events c.loop-at.at event c.loop-at.out c.add_event.new.out _
          c.in_ok-event.ensures led c.in_ok-add_event.ensures c.loop-at.invariant.told;
    }
