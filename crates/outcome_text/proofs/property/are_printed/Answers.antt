use Rattle.std.proofs.Common.{rules, tests}
use Rattle.std.proofs.lemmas.Iterator.{YieldsList-from_slice}
use Rattle.std.proofs.lemmas.Iterator.Search.{all_from_yields_List}
use Rattle.outcome_text.specs.Property.{is_printed}
use Rattle.outcome_text.proofs.property.are_printed.Goals as goal

pub returns : goal.returns
returns c = all_from_yields_List is_printed _ _ c.all.result c.all.ensures.ran (YieldsList-from_slice c.args.text.now cc) (λ x b q k. search (rules, tests))
