use Rattle.std.specs.Prelude.{codes, decimal}
use Rattle.drawings.specs.Svg.{tag, life_line}
use Rattle.drawings.proofs.Lists.{three_more}
use Rattle.drawings.proofs.svg.life_line.Goals as goal

pub returns : goal.returns
unfolding life_line
returns c =
    three_more c.args.out.now c.tag.new.out c.number.new.self c.text.new.self (tag (codes "<path stroke='#8a93a5' d='M") c.args.x (codes " ") c.args.start (codes "V")) (decimal c.args.end)
    (codes "'/>\n") c.text.result c.in_ok-tag.ensures c.in_ok-number.ensures c.text.ensures
