use Rattle.race_core.specs.Worlds.{WorldView}
use Rattle.local_states.proofs.Parted.SameKeys.{same_but_outside_parts, parts_same_but_outside}
use Rattle.explore.proofs.system.WorldsTransitionSystem.counts_states.Goals as goal

pub returns : goal.returns
returns g c = λ n v w key other here there.
    let first : WorldView = g.B.Beginnings.opening c.args.self.now.beginnings.now in
    let known = c.args.memory.now.components in (
      (λ are. same_but_outside_parts known first v w key other here.rows here.is there.is are),
      (λ same. parts_same_but_outside known first v w key other here.rows here.is there.is c.are_interned.ensures same),
    )
