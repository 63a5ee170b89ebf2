use Rattle.std.proofs.Common.{List, ◌++◌, ap, ◌∙◌}
use Rattle.std.specs.Prelude.{codes}
use Rattle.drawings.specs.declared.picture.Head.{Head}
use Rattle.drawings.proofs.Lists.{three_more}
use Rattle.pages.specs.Shown.{heads_words, heading_part}
use Rattle.pages.proofs.picture.heading.Goals as goal

pub returns : goal.returns
unfolding heading_part
returns c =
    three_more c.args.out.now c.text.new.self c.list_heads.new.out c.text-2.new.self (codes ",\"heading\":") (heads_words c.args.picture.now.heads) (codes ",\"lines\":") c.text-2.result
    c.in_ok-text.ensures (c.in_ok-list_heads.ensures ∙ ap (λ (hs : List Head). c.text.new.self ++ heads_words hs) c.heads.ensures) c.text-2.ensures
