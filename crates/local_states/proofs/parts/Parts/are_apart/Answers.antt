use Rattle.std.proofs.Common.{subst}
use Rattle.local_states.specs.Keys.{PartsView, AreApartParts}
use Rattle.local_states.proofs.Parted.Parts.{parts_apart}
use Rattle.local_states.proofs.parts.Parts.are_apart.Goals as goal

pub returns : goal.returns
returns c =
    subst (λ (row : PartsView). AreApartParts row) c.self.view_is
    (parts_apart c.self.inside.actor c.self.inside.outcomes c.self.inside.parts.items c.are_once.ensures c.self.invariant)
