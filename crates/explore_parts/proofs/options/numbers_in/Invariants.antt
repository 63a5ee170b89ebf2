use Rattle.std.proofs.Common.{drop}
use Rattle.outcome_text.specs.Asked.{texts_in}
use Rattle.explore_parts.proofs.Numbers.{IsSaidSoFar}
use Rattle.explore_parts.proofs.options.numbers_in.Given as goal

abbrev pub invariant-loop-text : goal.invariant-loop-text
invariant-loop-text l = IsSaidSoFar (texts_in l.texts) (texts_in (drop l.text-index l.texts)) l.numbers.items
