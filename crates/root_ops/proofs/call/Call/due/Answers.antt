use Rattle.std.proofs.Common.{subst, sym}
use Rattle.root_ops.specs.declared.doing.Doing.{Doing}
use Rattle.root_ops.specs.declared.doing.Stage.{Stage}
use Rattle.root_ops.specs.View.{IsOurs, IsStage}
use Rattle.root_ops.proofs.call.Call.due.Goals as goal

pub due-requires-in-Boxed : goal.due-requires-in-Boxed
due-requires-in-Boxed c =
    let below = c.self.inside.below in
    let ours = subst (λ (stage : Stage). IsStage below stage) c.in-Boxed.is c.self.invariant in
    (below, subst (λ (doing : Doing). IsOurs below doing) (sym c.deref.ensures) ours)
