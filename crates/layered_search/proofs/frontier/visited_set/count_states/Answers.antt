use Rattle.std.proofs.Common.{◌≡◌, ◌+◌, ℕ, Bool, true, false, drop, cond, ap, ◌∙◌, arith}
use Rattle.layered_search.proofs.Layers.Markings.{count_new, new_read, states_from}
use Rattle.layered_search.proofs.frontier.visited_set.count_states.Goals as goal
use Rattle.layered_search.proofs.frontier.visited_set.count_states.Goals.{then-states-at, else-states-at}

pub loop-at-preserved : goal.loop-at-preserved
loop-at-preserved g c =
    let visited = c.index-states-at.result in
    let more = states_from c.args.states.now c.loop-at.at visited c.loop-at-test.true c.index-states-at.is in
    let rest : ℕ = count_new (drop (c.loop-at.at + 1) c.args.states.now) in
    elim c.if-states-at.branch [
      | then-states-at w ↦
          let own : visited.is_new ≡ true =
          new_read c.args.states.now c.loop-at.at visited true c.index-states-at.is w.if-states-at.true in
          let one = more ∙ ap (λ (b : Bool). cond b (1 + rest) rest) own in
          omega (arith, one, w.count-is, c.loop-at.invariant)
      | else-states-at w ↦
          let own : visited.is_new ≡ false =
          new_read c.args.states.now c.loop-at.at visited false c.index-states-at.is w.if-states-at.false in
          let none = more ∙ ap (λ (b : Bool). cond b (1 + rest) rest) own in
          omega (arith, none, w.count-is, c.loop-at.invariant)
    ]
