use Rattle.std.proofs.Common.{◌≡◌, ◌∙◌, ◌++◌, ◌∷◌, [], ℕ, List, length, ap, subst, sym, refl, inl, inr, ⊎_elim, arith}
use Rattle.layered_search.specs.declared.frontier.layer.Configuration.{Configuration}
use Rattle.layered_search.specs.Spreading.{IsConfigurationBy}
use Rattle.layered_search.proofs.Layers.EdgesFound.{pushed_there, pushed_new}
use Rattle.layered_search.proofs.frontier.edges.configuration_at.Goals as goal

pub returns-clause-there : goal.returns-clause-there
returns-clause-there c =
    let last : c.len-at.result ≡ length c.args.next.now.items = omega (arith, c.len-at.ensures, c.args.next.now.ok) in
    let successor : Configuration = record {
      state = c.args.state;
      turns = c.in_ok-turns.turns;
      cost =
          c.args.choice.now.cost;
    } in
    pushed_there c.args.bounds successor c.args.next.now.items c.push.new.self.items c.len-at.result
    c.in_ok-push.ensures.items last

pub returns-clause-new : goal.returns-clause-new
returns-clause-new c = λ t one there.
    let successor : Configuration = record {
      state = c.args.state;
      turns = c.in_ok-turns.turns;
      cost =
          c.args.choice.now.cost;
    } in
    let is : IsConfigurationBy c.args.configuration.now c.args.choice.now c.args.state successor = record {
      on = refl;
      turns = c.in_ok-turns.ensures ∙ ap (λ (xs : List ℕ). xs ++ c.args.choice.now.actor ∷ []) c.as_slice-2.ensures;
      cost = refl;
    } in
    ⊎_elim (λ was. inl was)
    (λ e. inr (subst (λ (x : Configuration). IsConfigurationBy c.args.configuration.now c.args.choice.now
    c.args.state x) (sym e) is))
    (pushed_new successor c.args.next.now.items c.push.new.self.items c.in_ok-push.ensures.items t one there)
