use Rattle.std.proofs.Common.{◌++◌, subst, List, ℕ}
use Rattle.std.specs.Prelude.{codes}
use Rattle.event_log.specs.Output.{Gains}
use Rattle.command_line.proofs.advice.add_line.Goals as goal

-- the hint is the one that is added
pub returns : goal.returns
returns c =
    subst (λ (hint : List ℕ). Gains c.args.out.now c.add_between.new.out (codes "no report of the script has a line with '" ++ (c.args.line.now ++ (codes "': " ++ hint))) c.add_between.result)
    c.line_hint.ensures c.add_between.ensures
