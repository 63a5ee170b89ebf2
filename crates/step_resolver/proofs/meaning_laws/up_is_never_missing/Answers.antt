use Rattle.step_resolver.proofs.Meaning.Parents.{parts_lead_below, up_is_never_missing}
use Rattle.step_resolver.proofs.meaning_laws.up_is_never_missing.Goals as goal

pub returns : goal.returns
returns c = record { below = parts_lead_below; up = up_is_never_missing }
