use Rattle.std.proofs.Common.{refl}
use Rattle.kernel_walks.proofs.last_name.before_piece.Goals as goal

pub returns : goal.returns
returns c =
    let is = c.before_piece.ensures in record {
      first = c.before_piece.result.now;
      piece = is.piece;
      cut = is.cut;
      place = refl;
      apart = is.apart;
      some = is.some;
      plain = is.plain;
    }
