use Rattle.std.proofs.Common.{◌≡◌, ◌∙◌, ap, sym}
use Rattle.tree_model.specs.State.{State}
use Rattle.tree_model.specs.Steps.{held_count}
use Rattle.local_states.specs.Worlds.{EndView}
use Rattle.explore.proofs.outcomes.end.End.holds_as.Goals as goal

pub returns : goal.returns
returns g c =
    let here : g.T.Tree.state c.self.inside.report.tree ≡ c.args.self.now.tree = ap (λ (e : EndView). e.tree) c.self.view_is in
    let there : g.T.Tree.state c.other.inside.report.tree ≡ c.args.other.now.tree = ap (λ (e : EndView). e.tree) c.other.view_is in (
      (λ t a lt. ap (λ (s : State). held_count s a) (sym here) ∙ (c.same_counts.ensures.0 t a lt ∙ ap (λ (s : State). held_count s a) there)),
      (λ h. c.same_counts.ensures.1 (λ a lt. ap (λ (s : State). held_count s a) here ∙ (h a lt ∙ ap (λ (s : State). held_count s a) (sym there)))),
    )
