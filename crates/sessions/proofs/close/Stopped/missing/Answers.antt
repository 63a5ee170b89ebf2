use Rattle.std.proofs.Common.{◌≡◌, ◌==◌, ◌<◌, subst, sym, ap, not, false, true, ◌∙◌}
use Rattle.std.specs.List.{list_any}
use Rattle.sessions.specs.Close.{StoppedView, is_missing}
use Rattle.sessions.proofs.Closes.{least_found, least_more}
use Rattle.sessions.proofs.close.Stopped.missing.Goals as goal

pub returns-then-not-is_among : goal.returns-then-not-is_among
returns-then-not-is_among g c =
    let none : is_missing c.args.sessions.now c.loop-number.number ≡ true =
    ap (λ a. not (list_any (λ s. s.owner.actor == a) c.args.sessions.now)) (sym c.new.ensures) ∙ ap not (sym c.is_among.ensures ∙ c.if-not-is_among.true) in
    sym (least_found (is_missing c.args.sessions.now) c.args.self.now.count c.loop-number.number c.loop-number.invariant none (subst (λ (z : StoppedView). c.loop-number.number < z.count) c.self.view_is c.loop-number-test.true))

pub loop-number-preserved : goal.loop-number-preserved
loop-number-preserved g c =
    let some : is_missing c.args.sessions.now c.loop-number.number ≡ false =
    ap (λ a. not (list_any (λ s. s.owner.actor == a) c.args.sessions.now)) (sym c.new.ensures) ∙ ap not (sym c.is_among.ensures ∙ c.if-not-is_among.false) in
    least_more (is_missing c.args.sessions.now) c.loop-number.number c.loop-number.invariant some
