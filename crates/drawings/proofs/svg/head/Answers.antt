use Rattle.std.specs.Prelude.{[], codes}
use Rattle.drawings.specs.Svg.{tag, svg_head}
use Rattle.drawings.proofs.Lists.{two_more}
use Rattle.drawings.proofs.svg.head.Goals as goal

pub returns : goal.returns
unfolding svg_head
returns c =
    two_more c.args.out.now c.tag.new.out c.tag-2.new.out
    (tag (codes "<svg xmlns='http://www.w3.org/2000/svg' xml:space='preserve' style='background:white' font-family='monospace' font-size='13' viewBox='0 0 ") c.args.width (codes " ") c.args.height (codes "' width='"))
    (tag [] c.args.width (codes "' height='") c.args.height (codes "'>\n")) c.tag-2.result c.in_ok-tag.ensures c.tag-2.ensures
