use Rattle.std.specs.Prelude.{[], codes}
use Rattle.drawings.proofs.Lists.{two_more}
use Rattle.pages.specs.Changes.{changes_words}
use Rattle.pages.specs.Run.{opening_part}
use Rattle.pages.proofs.report.add_opening.Goals as goal

pub returns : goal.returns
unfolding opening_part
returns c = two_more c.args.out.now c.text.new.self c.changes.new.out (codes "{\"version\":1") (changes_words [] [] c.args.opening.now) c.changes.result c.in_ok-text.ensures c.changes.ensures
