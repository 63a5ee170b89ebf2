use Rattle.root_ops.proofs.LikeCalls.{like_answers_agree, like_requests_agree, like_calls_agree}
use Rattle.root_ops.proofs.like_laws.like_calls_agree.Goals as goal

pub returns : goal.returns
returns c = record { answers = like_answers_agree; requests = like_requests_agree; calls = like_calls_agree }
