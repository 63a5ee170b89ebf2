use Rattle.event_log.proofs.Printed.{path_of_some}
use Rattle.event_log.proofs.print.write_path.Goals as goal

pub returns : goal.returns
returns c = rw (← path_of_some c.args.count c.args.bytes.now c.if-count-eq0.false) c.write_names.ensures
