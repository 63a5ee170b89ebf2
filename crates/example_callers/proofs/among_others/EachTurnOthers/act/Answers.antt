use Rattle.std.proofs.Common.{◌≢◌, refl, sym, ap, not, ◌∙◌, eq-eqb}
use Rattle.std.proofs.lemmas.Bool.{false≢true}
use Rattle.example_callers.proofs.Led.{by_one_step, may_step}
use Rattle.example_callers.proofs.among_others.EachTurnOthers.act.Goals as goal

pub returns-then-ne : goal.returns-then-ne
returns-then-ne g c =
    let other : c.args.self.now.actor ≢ c.args.walker = λ e. false≢true (sym (c.if-ne.ensures ∙ ap not (eq-eqb c.args.self.now.actor c.args.walker e))) in
    record {
      others = by_one_step c.args.walker c.args.self.now.actor _ _ c.lend.result c.step.result other c.step.ensures.answer c.step.ensures.after c.step.ensures.err;
      acted = (refl, rw (sym c.lend.ensures) (may_step c.args.walker c.args.self.now.actor _ _ c.lend.result c.step.result other c.step.ensures.after c.step.ensures.err));
    }
