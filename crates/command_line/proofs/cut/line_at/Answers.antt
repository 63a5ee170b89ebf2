use Rattle.std.proofs.Common.{ℕ, suc, List, ◌<◌, ◌+◌, ◌-◌, ◌≡◌, ap, ◌∙◌, arith}
use Rattle.command_line.specs.Cut.{NEWLINE, behind, lines_behind}
use Rattle.command_line.proofs.cut.line_at.Goals as goal

-- one line fewer is left behind a newline
lines_step : (number at : ℕ) (text : List ℕ) → at < number → lines_behind (number - (at + 1)) (behind NEWLINE text) ≡ lines_behind (number - at) text
lines_step number at text before =
    let e : suc (number - (at + 1)) ≡ number - at = omega (arith, before) in
    ap (λ k. lines_behind k text) e

pub loop-preserved : goal.loop-preserved
loop-preserved c =
    ap (lines_behind (c.args.number - (c.loop.counter + 1))) c.cut.ensures.behind
    ∙ lines_step c.args.number c.loop.counter c.loop.rest.now c.loop-test.true ∙ c.loop.invariant
