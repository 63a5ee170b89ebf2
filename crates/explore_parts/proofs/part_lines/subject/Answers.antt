use Rattle.std.proofs.Common.{ℕ, List, subst}
use Rattle.std.specs.Prelude.{codes}
use Rattle.event_log.specs.Output.{Gains}
use Rattle.report_text.specs.Json.{text_words}
use Rattle.explore_parts.specs.Lists.{numbers_words}
use Rattle.explore_parts.specs.PartText.{subject_words}
use Rattle.explore_parts.proofs.Pieces.{four_added}
use Rattle.explore_parts.proofs.part_lines.subject.Goals as goal

pub returns : goal.returns
unfolding subject_words
returns c =
    four_added (codes "{\"script\":") (text_words c.args.script.now) (codes ",\"actors\":") (numbers_words c.args.asked.now.named.items)
    c.args.out.now c.text.new.self c.text-2.new.out c.text-3.new.self c.numbers.new.out c.numbers.result
    c.in_ok-text.ensures c.in_ok-text-2.ensures c.in_ok-text-3.ensures
    (subst (λ (all : List ℕ). Gains c.text-3.new.self c.numbers.new.out (numbers_words all) c.numbers.result) c.deref.ensures.value c.numbers.ensures)
