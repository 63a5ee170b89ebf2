use Rattle.std.proofs.Common.{arith}
use Rattle.std.proofs.lemmas.Bool.Decides.{nat_tests}
use Rattle.path_text.proofs.TextLemmas.{has_final_slash_counted}
use Rattle.path_text.proofs.texts.has_final_slash.Goals as goal

pub returns-then-count-gt0 : goal.returns-then-count-gt0
returns-then-count-gt0 c = rw (has_final_slash_counted c.args.text.now) (grind (arith, nat_tests))

pub returns-else-count-gt0 : goal.returns-else-count-gt0
returns-else-count-gt0 c = rw (has_final_slash_counted c.args.text.now) (grind (arith, nat_tests))
