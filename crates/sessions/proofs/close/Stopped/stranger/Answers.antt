use Rattle.std.proofs.Common.{length, sym, ◌∙◌}
use Rattle.sessions.specs.Close.{is_stranger}
use Rattle.sessions.proofs.Closes.{least_found}
use Rattle.sessions.proofs.close.Stopped.stranger.Goals as goal

pub returns-then-is_stranger : goal.returns-then-is_stranger
returns-then-is_stranger g c =
    sym (least_found (is_stranger c.args.self.now c.args.sessions.now) (length c.args.sessions.now) c.loop-at.at c.loop-at.invariant (sym c.is_stranger.ensures ∙ c.if-is_stranger.true) c.loop-at-test.true)
