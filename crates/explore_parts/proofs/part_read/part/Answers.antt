use Rattle.std.proofs.Common.{◌≡◌, arith, rules}
use Rattle.serde_json.specs.View.{view}
use Rattle.explore_parts.specs.declared.part_read.PartFault.TheVariants.{Shape}
use Rattle.explore_parts.specs.Options.{IsUnsaid}
use Rattle.explore_parts.specs.PartRead.{SaysPart}
use Rattle.explore_parts.proofs.OnePart.{more_mights}
use Rattle.explore_parts.proofs.part_read.part.Goals as goal

pub returns-then-len : goal.returns-then-len
returns-then-len c = λ e. more_mights (view c.args.value.now) c.in_ok-begin.begin c.in_ok-might.might.items
    c.in_ok-begin.ensures c.in_ok-might.ensures (λ few. omega (arith, few, c.len.ensures, c.len-2.ensures, c.if-len.true))

pub returns-in_err-told_under : goal.returns-in_err-told_under
returns-in_err-told_under c =
    let unsaid : c.in_err-told_under.field-0.0 ≡ Shape → IsUnsaid (SaysPart (view c.args.value.now)) =
    λ e part h. c.in_err-told_under.ensures e part.all.items h.all in
    search rules
