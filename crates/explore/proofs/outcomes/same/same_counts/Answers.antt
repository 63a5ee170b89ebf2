use Rattle.std.proofs.Common.{◌≡◌, ℕ, ◌∙◌, sym, subst, ⊎_elim}
use Rattle.tree_model.specs.Steps.{held_count}
use Rattle.layered_search.proofs.Places.{at_or_below}
use Rattle.explore.proofs.outcomes.same.same_counts.Goals as goal

pub loop-at-preserved : goal.loop-at-preserved
loop-at-preserved g c =
    let same : held_count (g.T.Tree.state c.args.tree.now) c.new-actor.result ≡ held_count
    (g.T.Tree.state c.args.other.now) c.new-actor.result =
    sym c.held.ensures ∙ (c.if-held.false ∙ c.held-in-loop-at.ensures) in
    λ a lt. ⊎_elim (λ below. c.loop-at.invariant a below)
    (λ e. subst (λ (n : ℕ). held_count (g.T.Tree.state c.args.tree.now) n ≡ held_count
    (g.T.Tree.state c.args.other.now) n) (c.new-actor.ensures ∙ sym e) same)
    (at_or_below a c.loop-at.at lt)
