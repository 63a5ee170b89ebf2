use Rattle.std.specs.Prelude.{codes}
use Rattle.drawings.proofs.Lists.{three_more}
use Rattle.pages.specs.Run.{replies_words, replies_part}
use Rattle.pages.proofs.report.add_replies.Goals as goal

pub returns : goal.returns
unfolding replies_part
returns c =
    three_more c.args.out.now c.text.new.self c.add_actors.new.out c.text-2.new.self (codes ",\"replies\":") (replies_words c.args.actors.now) (codes ",\"events\":") c.text-2.result
    c.in_ok-text.ensures c.in_ok-add_actors.ensures c.text-2.ensures
