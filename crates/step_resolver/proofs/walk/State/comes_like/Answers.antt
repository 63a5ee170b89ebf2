use Rattle.step_resolver.proofs.LikeWalks.{as_told, like_onward, like_judges}
use Rattle.step_resolver.proofs.walk.State.comes_like.Goals as goal

pub returns-in-Onward-Onward : goal.returns-in-Onward-Onward
returns-in-Onward-Onward c =
    let like = like_onward c.args.self.now.course.plan c.args.other.now.course.plan c.args.self.now.place c.args.other.now.place in
    rw (c.in-Onward-Onward.is-0, c.in-Onward-Onward.is-1) (as_told _ _ _ c.goes_on_like.ensures like)

pub returns-in-Judges-Judges : goal.returns-in-Judges-Judges
returns-in-Judges-Judges c =
    let some = rw c.in-Judges-Judges.is-0 at c.requires.after in
    let others = rw c.in-Judges-Judges.is-1 at c.requires.others in
    let like = like_judges c.args.self.now.course.plan c.args.other.now.course.plan c.args.self.now.place c.args.other.now.place some others in
    rw (c.in-Judges-Judges.is-0, c.in-Judges-Judges.is-1) (as_told _ _ _ c.goes_on_like-in-Judges-Judges.ensures like)
