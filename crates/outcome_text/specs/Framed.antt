-- The text of a survey, whose blocks are those of its outcomes.
use Rattle.std.specs.Prelude.{ℕ, List, ◌++◌}
use Rattle.outcome_text.specs.declared.ranked.Survey.{Survey}
use Rattle.outcome_text.specs.declared.survey.Frame.{Frame}
use Rattle.outcome_text.specs.declared.survey.Told.{Told}
use Rattle.outcome_text.specs.Survey.{woven}

-- what comes before the blocks, the blocks of these outcomes, and what comes behind
abbrev pub framed : Frame → List Told → List ℕ
framed frame all = frame.front ++ (woven frame.heads.items all ++ frame.back)

abbrev pub text_of : Survey → List ℕ
text_of survey = framed survey.frame survey.outcomes.items
