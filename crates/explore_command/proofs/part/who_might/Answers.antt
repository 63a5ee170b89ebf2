use Rattle.std.specs.Prelude.{◌≡◌, ◌++◌, ℕ, List, [], ◌∷◌, refl}
use Rattle.std.specs.Global.{Vec}
use Rattle.std.proofs.Common.{◌∙◌, inl, inr, sym, ap, subst, arith}
use Rattle.explore.specs.Opened.{opened_world}
use Rattle.schedule_graph.specs.Counted.{IsAmong}
use Rattle.schedule_graph.proofs.Among.{among_left, among_right}
use Rattle.explore_command.specs.Surveyed.{scope_asked}
use Rattle.explore_command.specs.Part.{IsBarred}
use Rattle.explore_command.proofs.WhoMight.{one_more}
use Rattle.explore_command.proofs.part.who_might.Goals as goal
use Rattle.explore_command.proofs.part.who_might.Goals.{then-branch+in_ok-push-2, else-branch}

pub loop-actor-preserved : goal.loop-actor-preserved
loop-actor-preserved c =
    let scene = c.args.scene.now in
    let w = opened_world scene.tree scene.plans.items scene.lines in
    let scope = scope_asked c.args.asked.now in
    let turns = c.args.turns.now in
    let actor = c.loop-actor.actor in
    let before = c.loop-actor.might.items in
    let after = c.if-branch.might.items in
    elim c.if-branch.branch [
      | then-branch+in_ok-push-2 r ↦
          let joined : after ≡ before ++ actor ∷ [] = ap (λ (v : Vec ℕ). v.items) r.might-is ∙ r.in_ok-push-2.ensures.items in
          one_more w scope actor turns before after c.loop-actor.invariant
          (λ other among. subst (λ (xs : List ℕ). IsAmong other xs) (sym joined) (among_left other before (actor ∷ []) among))
          (inl (subst (λ (xs : List ℕ). IsAmong actor xs) (sym joined) (among_right actor before (actor ∷ []) (inl refl))))
      | else-branch r ↦
          let same : after ≡ before = ap (λ (v : Vec ℕ). v.items) r.might-is in
          let added : c.push.new.self.items ≡ c.in_ok-begin.begin.items ++ actor ∷ [] = c.in_ok-push.ensures.items in
          let begin : c.push.new.self.items ≡ turns ++ actor ∷ [] = added ∙ ap (λ (xs : List ℕ). xs ++ actor ∷ []) c.in_ok-begin.ensures in
          one_more w scope actor turns before after c.loop-actor.invariant
          (λ other among. subst (λ (xs : List ℕ). IsAmong other xs) (sym same) among)
          (inr (subst (λ (xs : List ℕ). IsBarred w scope xs) begin (c.in_ok-may_begin.ensures r.if-branch.false)))
    ]

pub returns : goal.returns
returns c = λ actor lt. c.loop-actor.invariant actor (omega (arith, lt, c.args.scene.now.plans.ok))
