use Rattle.std.proofs.Common.{◌≢◌, true, ap, subst, ◌∙◌, List, [], ◌∷◌, ℕ}
use Rattle.tree_model.specs.declared.answer.Answer.TheVariants.{Names}
use Rattle.handles.specs.Objects.{ReachedObject}
use Rattle.bulk_ops.specs.MakeAllOrder.{gives_up}
use Rattle.bulk_ops.specs.MakeAllView.{way_of}
use Rattle.bulk_ops.specs.declared.make_all.Chain.{Chain}
use Rattle.bulk_ops.proofs.MakeAllNames.{same_turn, ended_raced}
use Rattle.bulk_ops.proofs.make_all.Call.ended.Goals as goal

pub returns-clause-turn : goal.returns-clause-turn
returns-clause-turn c =
    let other = subst (λ (names : List (List ℕ)). c.args.answer ≢ Names names) (ap (λ (chain : Chain). chain.names) c.deref.ensures) c.in-Err.ensures.err.0 in (
      true,
      same_turn c.closes.result
          (ap (λ (o : ReachedObject). gives_up (o.handle ∷ []) c.check_refusal-refusal.result) c.in-Err.ensures.err.1
          ∙ ap (λ error. gives_up (c.args.held.handle ∷ []) error) c.check_refusal-refusal.ensures
          ∙ ended_raced (way_of c.args.self.now) c.args.held c.args.chain.value.names c.args.answer other)
          c.closes.ensures.turn,
    )
