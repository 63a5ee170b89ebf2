-- Answers whose names and texts lie elsewhere.
use Rattle.std.specs.Prelude.{ℕ, List, ◌++◌, codes, decimal}
use Rattle.tree_model.specs.declared.answer.Answer.TheVariants as answer
use Rattle.event_log.specs.declared.head.AnswerHead.{AnswerHead}
use Rattle.event_log.specs.declared.head.AnswerHead.TheVariants as head
use Rattle.event_log.specs.Words.{line_of, answer_words}

-- what an answer's line begins with: all of it, or what stands before the names
abbrev pub head_line : AnswerHead → List ℕ
head_line (head.Opened handle node kind) = line_of (answer_words (answer.Opened handle node kind))
head_line (head.Text text) = line_of (answer_words (answer.Text text.now))
head_line head.Names = codes "names "
head_line head.NotBelow = line_of (answer_words answer.NotBelow)
head_line (head.Listed count) = codes "listed " ++ decimal count
head_line head.Done = line_of (answer_words answer.Done)
head_line (head.Refused error) = line_of (answer_words (answer.Refused error))
