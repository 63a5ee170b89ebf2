use Rattle.drawings.proofs.Lists.{on_ok}
use Rattle.drawings.proofs.svg.line.Goals as goal

pub returns-clause-bytes : goal.returns-clause-bytes
returns-clause-bytes c = on_ok c.place.result (record { bytes = c.place.ensures.bytes; moment = c.mark_of.ensures.fits })
