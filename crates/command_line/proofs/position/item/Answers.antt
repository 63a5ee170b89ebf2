use Rattle.std.proofs.Common.{ℕ, suc, List, Some, ◌<◌, ◌+◌, ◌-◌, ◌≡◌, option_and_then, ap, sym, ◌∙◌, arith}
use Rattle.command_line.specs.Position.{START, next_of, further}
use Rattle.command_line.proofs.position.item.Goals as goal

-- one element fewer is left behind the next
further_step : (n c : ℕ) (text next : List ℕ) → c < n → next_of START text ≡ Some next → further (n - (c + 1)) next ≡ further (n - c) text
further_step n c text next before is =
    let e : suc (n - (c + 1)) ≡ n - c = omega (arith, before) in
    ap (option_and_then (further (n - (c + 1)))) (sym is) ∙ ap (λ k. further k text) e

pub loop-preserved : goal.loop-preserved
loop-preserved c =
    further_step c.args.at c.loop.counter c.loop.rest.now c.in_ok-rest-2.rest.now c.loop-test.true (sym c.in_ok-rest-2.ensures)
    ∙ c.loop.invariant
