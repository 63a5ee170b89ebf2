use Rattle.std.proofs.Common.{length, refl}
use Rattle.std.proofs.lemmas.Option.{slice_get_read}
use Rattle.layered_search.proofs.frontier.edges.is_there.Goals as goal

pub returns-then-is_configuration_as : goal.returns-then-is_configuration_as
returns-then-is_configuration_as c = λ _.
    let alike = c.is_configuration_as.ensures.0 c.if-is_configuration_as.true in
    record {
      other = c.index-configurations-at.result;
      there = slice_get_read c.args.configurations.now (length c.args.configurations.now) c.args.at
          c.index-configurations-at.result refl c.if-at-configurations.true c.index-configurations-at.is;
      on = alike.on;
      last = alike.last;
      cuts = alike.cuts;
    }
