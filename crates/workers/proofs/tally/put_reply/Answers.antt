use Rattle.workers.proofs.Tallies.{put_at}
use Rattle.workers.proofs.tally.put_reply.Goals as goal

pub returns-then-job-replies : goal.returns-then-job-replies
returns-then-job-replies c = λ job within.
    put_at c.args.replies.now c.args.numbered.job c.args.numbered.reply c.replace-before.new.dest job c.replace-before.ensures.after c.if-job-replies.true
