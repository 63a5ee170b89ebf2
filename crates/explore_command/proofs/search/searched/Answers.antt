use Rattle.explore.specs.Explored.{classes_in}
use Rattle.explore_command.proofs.search.searched.Goals as goal

-- what is told of the outcomes that were found is the survey's text, and they are its outcomes
pub returns-in_ok-survey_of-in-Ok : goal.returns-in_ok-survey_of-in-Ok
returns-in_ok-survey_of-in-Ok g c =
    let found = c.in-Ok.found in
    let told = c.in_ok-survey_of-in-Ok.ensures in (
      record {
        of_these = c.requires.these;
        classes = classes_in found.classes.items;
        lists = found.lists;
        states = found.states;
        turns = found.turns;
        explored = c.in-Ok.ensures.merged;
        few = c.in-Ok.ensures.states;
        counted = c.in-Ok.ensures.counted;
        telling = told.0;
      },
      told.1,
    )
