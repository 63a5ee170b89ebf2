use Rattle.std.proofs.Common.{◌++◌, true, false, ap, ◌∙◌, List, [], ◌∷◌, ℕ, length}
use Rattle.path_text.specs.declared.errno.Errno.TheVariants.{NoMemory}
use Rattle.handles.specs.Objects.{ReachedObject}
use Rattle.step_resolver.specs.View.{handle_of}
use Rattle.bulk_ops.specs.MakeAllOrder.{gives_up, goes_down}
use Rattle.bulk_ops.specs.MakeAllView.{passed, to_come, names_in}
use Rattle.bulk_ops.proofs.MakeAllNames.{same_turn, rest_refused, rest_unheld, rest_held}
use Rattle.bulk_ops.proofs.make_all.Call.begins_to_make.Goals as goal

pub returns-in-Some-clause-turn : goal.returns-in-Some-clause-turn
returns-in-Some-clause-turn c = (
  true,
  same_turn c.closes.result
      (ap (λ (o : ReachedObject). gives_up (o.handle ∷ []) c.in-Some.fault) c.onward.ensures ∙ rest_refused c.args.deepest c.args.rest.now c.in-Some.fault c.in-Some.ensures)
      c.closes.ensures.turn,
)

pub returns-in-Ok-clause-turn : goal.returns-in-Ok-clause-turn
returns-in-Ok-clause-turn c = (
  true,
  same_turn c.goes_down.result
      (ap (λ (o : ReachedObject). goes_down (handle_of o) (passed c.in-Ok.chain.value) (to_come c.in-Ok.chain.value)) c.onward-in-Ok.ensures
      ∙ rest_held c.args.deepest c.args.rest.now c.in-Ok.chain.value c.in_default.ensures
      (c.in-Ok.ensures.names ∙ ap (λ (ns : List (List ℕ)). ns ++ names_in c.args.rest.now) c.names.ensures.same)
      (c.in-Ok.ensures.done ∙ ap (λ (ns : List (List ℕ)). length ns) c.names.ensures.same))
      c.goes_down.ensures.turn,
)

pub returns-in-Err-clause-turn : goal.returns-in-Err-clause-turn
returns-in-Err-clause-turn c = (
  false,
  same_turn c.closes-in-Err.result
      (ap (λ (o : ReachedObject). gives_up (o.handle ∷ []) NoMemory) c.onward-in-Err.ensures ∙ rest_unheld c.args.deepest c.args.rest.now c.in_default.ensures)
      c.closes-in-Err.ensures.turn,
)
