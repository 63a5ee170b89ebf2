use Rattle.sessions.proofs.Courses.{roots_stand, services_tell}
use Rattle.sessions.proofs.laws.services_tell.Goals as goal

pub returns-clause-roots : goal.returns-clause-roots
returns-clause-roots c = roots_stand

pub returns-clause-calls : goal.returns-clause-calls
returns-clause-calls c = services_tell c.each_call_tells.ensures
