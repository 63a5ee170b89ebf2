use Rattle.std.proofs.Common.{Some, None, arith}
use Rattle.system_calls.proofs.ListingLemmas.{told_as}
use Rattle.system_calls.proofs.records.first_record.Goals as goal

pub returns-in-None : goal.returns-in-None
returns-in-None c = told_as c.args.bytes.now c.in_ok-size.size None c.in_ok-size.ensures.0 c.in_ok-size.ensures.1 c.in-None.ensures

pub returns-in-Some : goal.returns-in-Some
returns-in-Some c = (
  c.in_ok-size.ensures.0,
  omega (arith, c.in_ok-size.ensures.2),
  c.in_ok-size.ensures.3,
  told_as c.args.bytes.now c.in_ok-size.size (Some c.in-Some.name.now) c.in_ok-size.ensures.0 c.in_ok-size.ensures.1 c.in-Some.ensures,
)
