use Rattle.std.specs.Prelude.{codes}
use Rattle.explore_parts.specs.PartText.{question_words, turns_words, found_words, part_words}
use Rattle.explore_parts.proofs.Pieces.{four_added}
use Rattle.explore_parts.proofs.part_lines.part_words.Goals as goal

pub returns : goal.returns
unfolding part_words
returns c =
    let part = c.args.part.now in
    four_added (codes "{\"part of\":") (question_words c.args.script.now c.args.asked.now) (turns_words part) (found_words part)
    c.args.out.now c.text.new.self c.question.new.out c.part_turns.new.out c.part_found.new.out c.part_found.result
    c.in_ok-text.ensures c.in_ok-question.ensures c.in_ok-part_turns.ensures c.part_found.ensures
