use Rattle.std.proofs.Common.{◌≡◌, rules}
use Rattle.root_ops.specs.declared.op.Op.TheVariants.{Release}
use Rattle.root_ops.specs.declared.op.Request.{Request}
use Rattle.run_command.specs.Jobs.{release_of}
use Rattle.run_command.proofs.Releases.{released}
use Rattle.run_command.proofs.jobs.release.Goals as goal

pub returns : goal.returns
returns g c =
    let standing = c.args.standing in
    let request : Request = record { op = Release standing; flags = c.default-flags.result } in
    let asks : release_of standing ≡ request = search rules in
    let actor : standing.owner.actor ≡ c.number-at.result = search rules in
    released c.args.service.now standing c.args.sessions.now c.number-at.result c.index-sessions-at.result c.call-done.new.self request c.call-done.result
    c.requires.in_place c.requires.ours actor asks (c.call-done.ensures.called, c.call-done.ensures.stranger)
