use Rattle.local_states.proofs.Parted.Parts.{parts_on}
use Rattle.local_states.proofs.parts.Parts.put.Goals as goal

pub invariant_of-self : goal.invariant_of-self
invariant_of-self g c =
    parts_on c.self.inside.actor c.self.inside.outcomes c.put_all.new.self c.self.inside.parts.items c.put_all.ensures.keeps c.self.invariant

pub invariant_of-self-2 : goal.invariant_of-self-2
invariant_of-self-2 g c =
    parts_on c.self.inside.actor c.self.inside.outcomes c.put_all.new.self c.self.inside.parts.items c.put_all.ensures.keeps c.self.invariant
