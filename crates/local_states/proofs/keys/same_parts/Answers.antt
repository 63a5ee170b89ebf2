use Rattle.std.proofs.Common.{◌∙◌, ℕ, List, ap, sym, get_or}
use Rattle.std.proofs.Math.ListN.{get_or-map}
use Rattle.std.proofs.lemmas.Bool.{false≢true}
use Rattle.local_states.specs.declared.keys.Own.{Own}
use Rattle.local_states.proofs.keys.same_parts.Goals as goal

pub returns-then-own-at : goal.returns-then-own-at
returns-then-own-at c =
    let none : Own = record { part = 0; outside = 0 } in (
      λ t. absurd (false≢true t),
      λ e. absurd
          (c.if-own-at.true
          (sym (get_or-map (λ (o : Own). o.part) c.args.own.now c.loop-at.at none)
          ∙ (ap (λ (ns : List ℕ). get_or ns c.loop-at.at 0) e
          ∙ get_or-map (λ (o : Own). o.part) c.args.others.now c.loop-at.at none))),
    )
