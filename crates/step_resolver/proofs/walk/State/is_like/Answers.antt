use Rattle.step_resolver.proofs.LikeWalks.{as_told, like_opening, like_reading, like_rising, like_judging, like_duping, like_ending}
use Rattle.step_resolver.proofs.walk.State.is_like.Goals as goal

pub returns-in-Opening-Opening : goal.returns-in-Opening-Opening
returns-in-Opening-Opening c =
    let pending = rw c.in-Opening-Opening.is-0 at c.requires.pending in
    let others = rw c.in-Opening-Opening.is-1 at c.requires.others in
    let like = like_opening c.args.self.now.course.plan c.args.other.now.course.plan c.args.self.now.place c.args.other.now.place pending.1 others.1 in
    rw (c.in-Opening-Opening.is-0, c.in-Opening-Opening.is-1) (as_told _ _ _ c.goes_on_like.ensures like)

pub returns-in-Reading-Reading : goal.returns-in-Reading-Reading
returns-in-Reading-Reading c =
    let pending = rw c.in-Reading-Reading.is-0 at c.requires.pending in
    let others = rw c.in-Reading-Reading.is-1 at c.requires.others in
    let like = like_reading c.args.self.now.course.plan c.args.other.now.course.plan c.args.self.now.place c.args.other.now.place c.in-Reading-Reading.link c.in-Reading-Reading.l pending.1 others.1 in
    rw (c.in-Reading-Reading.is-0, c.in-Reading-Reading.is-1) (as_told _ _ _ c.reads_like.ensures like)

pub returns-in-Duping-Duping : goal.returns-in-Duping-Duping
returns-in-Duping-Duping c =
    let like = like_duping c.args.self.now.course.plan c.args.other.now.course.plan c.args.self.now.place c.args.other.now.place in
    rw (c.in-Duping-Duping.is-0, c.in-Duping-Duping.is-1) (as_told _ _ _ c.same_own.ensures like)

pub returns-in-Ending-Ending : goal.returns-in-Ending-Ending
returns-in-Ending-Ending c =
    let pending = rw c.in-Ending-Ending.is-0 at c.requires.pending in
    let others = rw c.in-Ending-Ending.is-1 at c.requires.others in
    let like = like_ending c.args.self.now.course.plan c.args.other.now.course.plan c.args.self.now.place c.args.other.now.place pending.0 others.0 in
    rw (c.in-Ending-Ending.is-0, c.in-Ending-Ending.is-1) (as_told _ _ _ c.ends_like.ensures like)

pub returns-in-Rising-Rising : goal.returns-in-Rising-Rising
returns-in-Rising-Rising c =
    let pending = rw c.in-Rising-Rising.is-0 at c.requires.pending in
    let others = rw c.in-Rising-Rising.is-1 at c.requires.others in
    let like = like_rising c.args.self.now.course.plan c.args.other.now.course.plan c.args.self.now.place c.args.other.now.place pending others in
    rw (c.in-Rising-Rising.is-0, c.in-Rising-Rising.is-1) (as_told _ _ _ c.goes_on_like-in-Rising-Rising.ensures like)

pub returns-in-Judging-Judging : goal.returns-in-Judging-Judging
returns-in-Judging-Judging c =
    let pending = rw c.in-Judging-Judging.is-0 at c.requires.pending in
    let others = rw c.in-Judging-Judging.is-1 at c.requires.others in
    let like = like_judging c.args.self.now.course.plan c.args.other.now.course.plan c.args.self.now.place c.args.other.now.place pending others in
    rw (c.in-Judging-Judging.is-0, c.in-Judging-Judging.is-1) (as_told _ _ _ c.goes_on_like-in-Judging-Judging.ensures like)
