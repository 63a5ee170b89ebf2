use Rattle.race_core.proofs.LikeSeats.{like_seats_agree}
use Rattle.race_core.proofs.like_laws.like_seats_agree.Goals as goal

pub returns : goal.returns
returns c = like_seats_agree
