use Rattle.layered_search.proofs.Counts.Merged.{words_are_lists}
use Rattle.layered_search.proofs.laws.words_are_lists.Goals as goal

pub returns : goal.returns
returns g c =
    let v = c.args.system.now in words_are_lists (g.S.TransitionSystem.system v) (g.S.TransitionSystem.is_system v)
