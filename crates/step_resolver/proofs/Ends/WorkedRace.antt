-- The race, computed, and what its end tells by the laws.
use Rattle.std.specs.Prelude.{refl}
use Rattle.path_text.specs.declared.errno.Errno.TheVariants.{Raced}
use Rattle.step_resolver.specs.Order.{failed, begins, LeadsTo}
use Rattle.step_resolver.specs.WalkHistory.{IsWalkInHistory}
use Rattle.step_resolver.specs.WorkedRace.{race_opening, race, RaceIsWorked}
use Rattle.tree_model.proofs.TreeTests.{IsState-from_test}
use Rattle.step_resolver.proofs.Ends.EveryWalk.{walks_tell}
use Rattle.step_resolver.proofs.Ends.RacedMeansChange.{raced_tells_of_change}

walked : IsWalkInHistory race
walked = record {
  tree = IsState-from_test race_opening refl;
  legal_before = tt;
  legal = (refl, (refl, (refl, (refl, (refl, (refl, (refl, (refl, tt))))))));
  own = refl;
  root = refl;
  root_is_dir = refl;
}

ends : LeadsTo race.way (begins race.way race.path) race.lines (failed Raced)
ends = (refl, (refl, (refl, (refl, (refl, (refl, (refl, refl)))))))

pub race_is_worked : RaceIsWorked
race_is_worked = record {
  walked = walked;
  ends = ends;
  tells = walks_tell race (failed Raced) walked ends;
  changed = raced_tells_of_change race walked ends;
}
