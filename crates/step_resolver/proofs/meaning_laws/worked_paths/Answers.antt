use Rattle.step_resolver.proofs.Meaning.WorkedPaths.{names_are_worked, links_are_worked, budget_is_worked, slashes_are_worked, lengths_are_worked, beneath_is_worked, no_links_are_worked, trail_is_worked}
use Rattle.step_resolver.proofs.meaning_laws.worked_paths.Goals as goal

pub returns : goal.returns
returns c = record {
  names = names_are_worked;
  links = links_are_worked;
  budget = budget_is_worked;
  slashes = slashes_are_worked;
  lengths = lengths_are_worked;
  beneath = beneath_is_worked;
  no_links = no_links_are_worked;
  trail = trail_is_worked;
}
