use Rattle.std.proofs.Common.{ap, sym}
use Rattle.std.specs.Prelude.{nat_lt}
use Rattle.scripts.proofs.Entries.{count_of-items_view}
use Rattle.scripts.proofs.fields.are_over.Goals as goal

pub returns : goal.returns
returns c = ap (nat_lt c.args.most) (sym (count_of-items_view c.args.values.now))
