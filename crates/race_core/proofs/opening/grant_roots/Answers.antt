use Rattle.std.proofs.Common.{◌≡◌, ◌++◌, ◌∷◌, [], Bool, if◌then◌else◌, not, length, ap, ◌∙◌, arith}
use Rattle.std.proofs.lemmas.List.{length_push}
use Rattle.std.specs.Vec.Iter.{into_iter_items}
use Rattle.race_core.proofs.Granting.{granted_next}
use Rattle.race_core.proofs.opening.grant_roots.Goals as goal

pub loop-plan-preserved : goal.loop-plan-preserved
loop-plan-preserved g c =
    let pushed : c.push.new.self.items ≡ c.loop-plan.ledgers.items ++ c.in-Ok.ledger ∷ [] =
    c.push.ensures.items
    ∙ ap (λ (b : Bool). if b then c.loop-plan.ledgers.items ++ c.in-Ok.ledger ∷ [] else c.loop-plan.ledgers.items) (c.is_err.ensures.negation ∙ ap not c.if-is_err.false) in
    let next : into_iter_items c.loop-plan.plans ≡ c.in-Some.plan ∷ into_iter_items c.next.new.self = c.in-Some.ensures.items in
    record {
      same = granted_next _ _ _ c.len-at.result c.in-Some.plan (into_iter_items c.loop-plan.plans) (into_iter_items c.next.new.self) c.loop-plan.ledgers.items c.push.new.self.items c.in-Ok.ledger
          c.loop-plan.invariant.same (c.len-at.ensures ∙ c.loop-plan.ledgers.ok.0) next c.in-Ok.ensures.0 c.in-Ok.ensures.1 pushed;
      few = omega (arith, c.loop-plan.invariant.few, ap length pushed, ap length next, length_push c.loop-plan.ledgers.items c.in-Ok.ledger);
    }
