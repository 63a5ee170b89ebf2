use Rattle.std.proofs.Common.{◌++◌, ◌∷◌, [], List, true, ◌∙◌, ap, refl}
use Rattle.layered_search.specs.declared.frontier.layer.Visited.{Visited}
use Rattle.layered_search.specs.declared.frontier.layer.Configuration.{Configuration}
use Rattle.layered_search.proofs.searching.first.Goals as goal

pub returns : goal.returns
returns g c = record {
  visited = record { key = c.args.key; turns = c.new-2.result; is_new = true };
  states =
      c.in_ok-push-2.ensures.items
      ∙ ap (λ (xs : List (Visited g.row.K.Denot)).
      xs ++ (record { key = c.args.key; turns = c.new-2.result; is_new = true }) ∷ [])
      c.new-states.ensures.items;
  key_is = refl;
  turns = c.new-2.ensures.items;
  is_new = refl;
  configuration = record { state = 0; turns = c.new.result; cost = c.no_cost.result };
  configurations =
      c.in_ok-push.ensures.items
      ∙ ap (λ (xs : List Configuration).
      xs ++ (record { state = 0; turns = c.new.result; cost = c.no_cost.result }) ∷ [])
      c.new-configurations.ensures.items;
  on = refl;
  none = c.new.ensures.items;
  cost = c.no_cost.ensures;
}
