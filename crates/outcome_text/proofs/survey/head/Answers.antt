use Rattle.std.proofs.Common.{◌++◌, ◌∙◌, ap, List, ℕ}
use Rattle.std.specs.Prelude.{codes, decimal}
use Rattle.outcome_text.specs.Counts.{count_words}
use Rattle.outcome_text.specs.Survey.{block_of, block_words, witness_words}
use Rattle.outcome_text.proofs.Pieces.{three_added}
use Rattle.outcome_text.proofs.survey.head.Goals as goal

pub returns : goal.returns
unfolding block_words
returns c =
    let told = c.args.told.now in
    let first = codes "outcome " ++ decimal c.args.number in
    three_added first (codes " schedules " ++ count_words c.args.lists) (witness_words told) (block_of told)
    c.numbered.new.out c.counted.new.out c.witness.new.out
    (c.in_ok-numbered.ensures ∙ ap (λ (bs : List ℕ). bs ++ first) c.new-out.ensures) c.in_ok-counted.ensures c.in_ok-witness.ensures
