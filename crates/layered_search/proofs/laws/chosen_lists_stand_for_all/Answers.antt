use Rattle.layered_search.proofs.Lists.SearchLaws.{chosen_lists_stand}
use Rattle.layered_search.proofs.laws.chosen_lists_stand_for_all.Goals as goal

pub returns : goal.returns
returns g c =
    let v = c.args.system.now in chosen_lists_stand (g.S.TransitionSystem.system v) (g.S.TransitionSystem.is_system v)
