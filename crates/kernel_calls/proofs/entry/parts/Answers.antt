use Rattle.std.proofs.Common.{subst}
use Rattle.kernel_walks.specs.Split.{IsParted}
use Rattle.kernel_calls.proofs.NamedLemmas.{stands}
use Rattle.kernel_calls.proofs.entry.parts.Goals as goal

pub returns-then-parted-eq0 : goal.returns-then-parted-eq0
returns-then-parted-eq0 c =
    stands _ c.args.takes_slash c.split-parted.result
    (subst (λ t. IsParted t c.args.takes_slash c.split-parted.result) c.text.ensures c.split-parted.ensures)
    c.if-parted-eq0.true
