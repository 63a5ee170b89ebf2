use Rattle.std.proofs.Common.{rules, tests}
use Rattle.std.proofs.lemmas.Fn.{filter_same}
use Rattle.outcome_text.specs.Conditions.{counts}
use Rattle.outcome_text.proofs.conditions.counted.Goals as goal

pub returns : goal.returns
returns c =
    filter_same _ (counts c.args.properties.now) _ (λ x b q k. search (rules, tests)) c.args.all.items c.retain.new.self.items
    c.retain.ensures.filtered
