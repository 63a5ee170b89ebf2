use Rattle.std.proofs.Common.{ap, sym, ◌∙◌}
use Rattle.std.specs.Prelude.{◌==◌}
use Rattle.scripts.proofs.Entries.{count_of-items_view}
use Rattle.scripts.proofs.fields.has_none.Goals as goal

pub returns : goal.returns
returns c = c.is_empty.ensures ∙ ap (λ n. n == 0) (sym (count_of-items_view c.args.values.now))
