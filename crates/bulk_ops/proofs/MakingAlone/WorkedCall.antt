-- The worked call, computed, and what it comes to by the law.
use Rattle.std.proofs.Common.{⊎_elim, refl}
use Rattle.tree_model.proofs.TreeTests.{IsState-from_test}
use Rattle.step_resolver.specs.FootprintLaws.{IsQuiet}
use Rattle.step_resolver.specs.WalkHistory.{IsWalkInHistory}
use Rattle.step_resolver.proofs.DrivenWalks.{all_own, by_own}
use Rattle.bulk_ops.specs.MakeAllOrder.{begins, LeadsTo}
use Rattle.bulk_ops.specs.MakeAllQuietWorked.{CALLER, make_lines, make_call, make_end, MakeIsWorked}
use Rattle.bulk_ops.proofs.MakingAlone.WalkFirst.{quiet_makes_mean}

called : IsWalkInHistory make_call
called = record {
  tree = IsState-from_test make_call.opening refl;
  legal_before = tt;
  legal = (refl, (refl, (refl, (refl, (refl, (refl, (refl, (refl, (refl, (refl, tt))))))))));
  own = all_own CALLER make_lines;
  root = refl;
  root_is_dir = refl;
}

led : LeadsTo make_call.way (begins make_call.way make_call.path) make_lines make_end
led = (refl, (refl, (refl, (refl, (refl, (refl, (refl, (refl, (refl, (refl, refl))))))))))

quiet : IsQuiet make_call
quiet t event e = by_own CALLER make_lines t event e

pub make_is_worked : MakeIsWorked
make_is_worked = record {
  called = called;
  led = led;
  quiet = quiet;
  means = refl;
  nodes = refl;
  comes = ⊎_elim (λ is. is) (λ short. absurd short) (quiet_makes_mean make_call make_end called refl led tt quiet);
}
