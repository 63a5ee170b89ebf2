use Rattle.std.proofs.Common.{refl}
use Rattle.root_ops.specs.View.{reply_view}
use Rattle.root_ops.proofs.BulkReplies.{bulk_tells}
use Rattle.root_ops.proofs.FirstWalks.{walks_first}
use Rattle.root_ops.proofs.Resolves.{resolve_tells}
use Rattle.root_ops.proofs.laws.each_call_tells.Goals as goal

pub returns : goal.returns
returns laws c reply is leads = record {
  handles = laws.calls_tell.ensures c (reply_view reply) is leads;
  quiet = laws.quiet_calls_mean.ensures c (reply_view reply) is leads;
  walked = λ goal path first room. walks_first c (reply_view reply) is leads c.op goal path refl room first;
  acts = laws.calls_act.ensures c (reply_view reply) is leads;
  resolved = resolve_tells c reply is leads c.op refl;
  bulk = bulk_tells laws.bulk_calls_tell.ensures c reply is leads c.op refl;
}
