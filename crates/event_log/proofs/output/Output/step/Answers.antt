use Rattle.std.proofs.Common.{sym}
use Rattle.event_log.proofs.output.Output.step.Goals as goal

pub returns-in-RemoveFile : goal.returns-in-RemoveFile
returns-in-RemoveFile c = rw c.in-RemoveFile.is (rw (sym c.bytes-in-RemoveFile.ensures.same) c.on_entry-in-RemoveFile.ensures)
