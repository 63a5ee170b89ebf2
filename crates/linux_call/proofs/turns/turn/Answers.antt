use Rattle.std.proofs.Common.{refl, sym, ap, subst, ◌∙◌}
use Rattle.kernel_calls.specs.declared.look.Outcome.{Outcome}
use Rattle.kernel_calls.specs.declared.look.Outcome.TheVariants.{Value}
use Rattle.linux_call.specs.Turns.{IsEnd}
use Rattle.linux_call.proofs.ToldLemmas.{changed_turn, opened_turn}
use Rattle.linux_call.proofs.turns.turn.Goals as goal

pub returns-in-Some-clause-whole : goal.returns-in-Some-clause-whole
returns-in-Some-clause-whole c = λ plain room kept s is stands is_said.
    let e = c.in-Some.ensures in
    let value = c.value.ensures ∙ ap (λ n. Value n) (sym e.4) in (
      refl,
      opened_turn c.args.request.now c.args.first.now s c.args.state.now _ c.args.answers.now e.1 c.end_of.result
          c.end_of.new.room kept stands e.0 e.2 e.3 (subst (λ (o : Outcome). IsEnd o c.end_of.result) value c.end_of.ensures.0)
          c.end_of.ensures.1,
    )

pub returns-then-is_changed-clause-whole : goal.returns-then-is_changed-clause-whole
returns-then-is_changed-clause-whole c = λ plain room kept s is stands is_said.
    let e = c.is_changed.ensures c.if-is_changed.true in (
      refl,
      changed_turn c.args.request.now c.args.first.now s c.args.state.now _ c.args.answers.now e.1
          c.end_and_close.result c.end_and_close.new.room kept stands e.0 e.2 e.3
          (subst (λ (o : Outcome). IsEnd o c.end_and_close.result) c.value-then-is_changed.ensures c.end_and_close.ensures.0)
          c.end_and_close.ensures.1,
    )
