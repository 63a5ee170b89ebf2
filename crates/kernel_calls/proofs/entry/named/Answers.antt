use Rattle.std.proofs.Common.{◌∙◌}
use Rattle.kernel_calls.proofs.entry.named.Goals as goal

pub returns : goal.returns
returns c =
    let e = c.in_ok-parted.ensures in
    record {
      divided =
          record {
            split = e.0;
            entry = e.1;
            name = c.piece.ensures ∙ e.2.name;
            above = c.above.ensures.above e.0 e.1.0 e.2;
          };
      front = c.above.ensures.front;
    }
