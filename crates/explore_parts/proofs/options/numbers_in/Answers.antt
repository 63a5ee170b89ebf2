use Rattle.explore_parts.proofs.Numbers.{none_there, all_there}
use Rattle.explore_parts.proofs.options.numbers_in.Goals as goal

pub returns-in_default : goal.returns-in_default
returns-in_default c =
    none_there c.args.texts.now c.loop-text.text-index _ c.loop-text.numbers.items c.number_of.result c.loop-text-test.true c.number_of.ensures.cases
    c.in_default.is c.loop-text.invariant

pub returns : goal.returns
returns c = all_there c.args.texts.now c.loop-text.text-index c.loop-text.numbers.items c.loop-text-test.false c.loop-text.invariant
