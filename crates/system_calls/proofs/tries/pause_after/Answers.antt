use Rattle.system_calls.proofs.Pauses.{pause_after-doubled, pause_after-grown}
use Rattle.system_calls.proofs.tries.pause_after.Goals as goal

pub returns-then-tries-le-DOUBLED : goal.returns-then-tries-le-DOUBLED
returns-then-tries-le-DOUBLED c = pause_after-doubled c.args.tries c.if-tries-lt-AT_ONCE.false c.if-tries-le-DOUBLED.true

pub returns-else-tries-le-DOUBLED : goal.returns-else-tries-le-DOUBLED
returns-else-tries-le-DOUBLED c = pause_after-grown c.args.tries c.if-tries-lt-AT_ONCE.false c.if-tries-le-DOUBLED.false
