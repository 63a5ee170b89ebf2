use Rattle.std.proofs.Common.{[], refl, true}
use Rattle.root_ops.specs.declared.below.Below.{Below}
use Rattle.root_ops.specs.declared.aim.Wanted.TheVariants.{Any}
use Rattle.root_ops.specs.Order.{more, ends, fault, acting, releases}
use Rattle.root_ops.specs.TurnView.{below_of}
use Rattle.root_ops.specs.View.{next_view, reply_view}
use Rattle.root_ops.proofs.DrivenCalls.{drives_none, runs_by}
use Rattle.root_ops.proofs.driver.run_call.Goals as goal

pub returns-in-Ok-Walks-clause-ran : goal.returns-in-Ok-Walks-clause-ran
returns-in-Ok-Walks-clause-ran g c =
    let below : Below = below_of c.args.root c.args.request.flags in
    let first = next_view c.walks-next.result in
    runs_by below c.args.request.op _ _ first (reply_view c.go_on.result) ((rw c.in-Ok-Walks.field-0-is at c.in-Ok-Walks.ensures.turn below first) c.walks-next.ensures.turn) c.go_on.ensures.driven

pub returns-in-Ok-Makes-clause-ran : goal.returns-in-Ok-Makes-clause-ran
returns-in-Ok-Makes-clause-ran g c =
    let below : Below = below_of c.args.root c.args.request.flags in
    let first = next_view c.makes-next.result in
    runs_by below c.args.request.op _ _ first (reply_view c.go_on-in-Ok-Makes.result) ((rw c.in-Ok-Makes.field-0-is at c.in-Ok-Makes.ensures.turn below first) c.makes-next.ensures.turn) c.go_on-in-Ok-Makes.ensures.driven

pub returns-in-Ok-Clears-clause-ran : goal.returns-in-Ok-Clears-clause-ran
returns-in-Ok-Clears-clause-ran g c =
    let below : Below = below_of c.args.root c.args.request.flags in
    let first = next_view c.clears-next.result in
    runs_by below c.args.request.op _ _ first (reply_view c.go_on-in-Ok-Clears.result) ((rw c.in-Ok-Clears.field-0-is at c.in-Ok-Clears.ensures.turn below first) c.clears-next.ensures.turn) c.go_on-in-Ok-Clears.ensures.driven

pub returns-in-Ok-Acts-clause-ran : goal.returns-in-Ok-Acts-clause-ran
returns-in-Ok-Acts-clause-ran g c =
    let below : Below = below_of c.args.root c.args.request.flags in
    let first = more (acting Any c.in-Ok-Acts.step []) in
    runs_by below c.args.request.op _ _ first (reply_view c.single.result) ((rw c.in-Ok-Acts.field-0-is at c.in-Ok-Acts.ensures.turn below first) (true, refl)) c.single.ensures.driven

pub returns-in-Ok-Releases-clause-ran : goal.returns-in-Ok-Releases-clause-ran
returns-in-Ok-Releases-clause-ran g c =
    let below : Below = below_of c.args.root c.args.request.flags in
    let first = releases below.root.owner c.in-Ok-Releases.standing in
    runs_by below c.args.request.op _ _ first (reply_view c.release.result) ((rw c.in-Ok-Releases.field-0-is at c.in-Ok-Releases.ensures.turn below first) refl) c.release.ensures.driven

pub returns-in-Err-clause-ran : goal.returns-in-Err-clause-ran
returns-in-Err-clause-ran g c =
    let below : Below = below_of c.args.root c.args.request.flags in
    let end = ends (fault c.in-Err.error) in
    runs_by below c.args.request.op _ _ end (fault c.in-Err.error) (c.in-Err.ensures.turn below end refl) (drives_none below below.root.owner.actor _ end)
