use Rattle.layered_search.proofs.Counts.Concluded.{found_have_leasts, counts_conclude}
use Rattle.layered_search.proofs.laws.counts_conclude.Goals as goal

pub returns : goal.returns
returns g c =
    let v = c.args.system.now in record {
      leasts = found_have_leasts (g.S.TransitionSystem.system v) (g.S.TransitionSystem.is_system v);
      merged = counts_conclude (g.S.TransitionSystem.system v) (g.S.TransitionSystem.is_system v);
    }
