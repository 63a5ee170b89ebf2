use Rattle.std.specs.Prelude.{codes}
use Rattle.drawings.specs.Svg.{about}
use Rattle.drawings.proofs.Lists.{three_more}
use Rattle.drawings.proofs.svg.about.Goals as goal

pub returns : goal.returns
unfolding about
returns c =
    three_more c.args.out.now c.text.new.self c.text-2.new.self c.text-3.new.self (codes "<title>A run of calls below a root</title>\n")
    (codes "<desc>A column for each actor, and a line for each step at its moment. Red: what is outside of the root is opened or held, or a check says no. Green: a check says yes, or a call did what it was to do. Brown: a call failed. Where a moment is missing, an actor closed a handle.</desc>\n")
    (codes "<style>text{white-space:pre}</style>\n") c.text-3.result c.in_ok-text.ensures c.in_ok-text-2.ensures c.text-3.ensures
