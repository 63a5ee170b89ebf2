use Rattle.std.proofs.Common.{◌∙◌, ap, sym, subst, List}
use Rattle.tree_model.specs.declared.step.StepOf.TheVariants.{Close}
use Rattle.tree_model.specs.Steps.{outcome}
use Rattle.sessions.specs.Open.{TakesBack}
use Rattle.sessions.specs.Session.{SessionView}
use Rattle.sessions.proofs.Opens.{none_taken_back, all_taken_back}
use Rattle.sessions.proofs.open.+take_back_all.Goals as goal

pub returns-in_default : goal.returns-in_default
returns-in_default g t c =
    let tree = g.T.Tree.state c.args.tree.now in
    subst (λ (ss : List SessionView). TakesBack ss tree tree) (sym c.in_default.ensures.none) (none_taken_back tree)

pub returns : goal.returns
returns g t c =
    let old = g.T.Tree.state c.args.tree.now in
    let mid = g.T.Tree.state c.take_back_all.new.tree in
    let after = g.T.Tree.state c.take_back.new.tree in
    subst (λ (ss : List SessionView). TakesBack ss old after) (sym c.in-Some.ensures.some)
    (all_taken_back old mid after c.in-Some.first.now c.in-Some.others.now c.take_back_all.ensures
    (c.take_back.ensures ∙ ap (λ (v : SessionView). (outcome mid v.owner.actor (Close v.root)).after) c.first.view_is))
