use Rattle.bulk_ops.proofs.LikeCalls.{like_making_agrees, like_removing_agrees}
use Rattle.bulk_ops.proofs.like_laws.like_bulk_calls_agree.Goals as goal

pub returns : goal.returns
returns c = record { making = like_making_agrees; removing = like_removing_agrees }
