use Rattle.event_log.proofs.Escapes.{escaped_is_printed, escaped_tells_apart}
use Rattle.event_log.proofs.laws.names_are_told_apart.Goals as goal

pub returns-clause-printed : goal.returns-clause-printed
returns-clause-printed c = escaped_is_printed

pub returns-clause-apart : goal.returns-clause-apart
returns-clause-apart c = escaped_tells_apart
