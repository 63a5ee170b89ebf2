use Rattle.std.proofs.Common.{sym, subst}
use Rattle.run_command.specs.Jobs.{IsUnserved}
use Rattle.run_command.proofs.Services.{told_unserved}
use Rattle.run_command.proofs.jobs.serve_all.Goals as goal

pub returns-in-Err : goal.returns-in-Err
returns-in-Err g c =
    let refusal = c.in-Err.refusal in
    subst (IsUnserved c.args.service.now c.args.jobs.now c.args.sessions.items) (sym c.told_of_serving.ensures)
    (told_unserved c.args.service.now c.args.jobs.now c.args.sessions.items refusal.cause refusal.replies.items refusal.sessions.items c.in-Err.ensures.refused)
