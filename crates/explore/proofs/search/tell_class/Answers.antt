use Rattle.std.proofs.Common.{subst, refl}
use Rattle.race_core.specs.Worlds.{WorldView, Runs}
use Rattle.explore.proofs.Lists.Replayed.{full_over, run_ends}
use Rattle.explore.proofs.search.tell_class.Goals as goal

pub returns : goal.returns
returns g c =
    let w : WorldView = g.B.Beginnings.opening c.args.beginnings.now in
    let turns = c.args.class.now.least.items in
    let replayed = c.in-Ok.replayed in
    let run : Runs w turns replayed.world = subst (λ is. Runs w is replayed.world) c.as_slice.ensures.value c.in-Ok.ensures.ran in
    record {
      told = record {
        end = λ full. run_ends w replayed.world turns replayed.told c.args.outside c.in_ok-class.field-0 run
            c.in_ok-class.ensures.well c.in-Ok.ensures.told c.in_ok-class.ensures.report (full_over w turns full);
        turns = refl;
        cuts = refl;
        changes = refl;
        lists = refl;
      };
    }
