use Rattle.call_course.proofs.TryLemmas.{calls-hold}
use Rattle.call_course.proofs.laws.calls_hold.Goals as goal

pub returns : goal.returns
returns c = calls-hold
