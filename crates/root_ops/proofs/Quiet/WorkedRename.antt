-- The worked rename, computed, and what it comes to by the law.
use Rattle.std.specs.Prelude.{refl}
use Rattle.tree_model.proofs.TreeTests.{IsState-from_test}
use Rattle.step_resolver.proofs.DrivenWalks.{all_own, by_own}
use Rattle.root_ops.specs.CallHistory.{IsCallInHistory, RepliesWith}
use Rattle.root_ops.specs.MeaningWorked.{CALLER}
use Rattle.root_ops.specs.Order.{done}
use Rattle.root_ops.specs.Quiet.{IsQuiet, ClosesWhatIsOpen}
use Rattle.root_ops.specs.QuietWorked.{rename_lines, rename_call, RenameIsWorked}
use Rattle.root_ops.proofs.Quiet.CallsAlone.{quiet_calls_mean}

called : IsCallInHistory rename_call
called = record {
  tree = IsState-from_test rename_call.opening refl;
  legal_before = tt;
  legal = (refl, (refl, (refl, (refl, (refl, (refl, (refl, (refl, (refl, tt)))))))));
  own = all_own CALLER rename_lines;
  root = refl;
  root_is_dir = refl;
}

replies : RepliesWith rename_call done
replies = (refl, (refl, (refl, (refl, (refl, (refl, (refl, (refl, (refl, refl)))))))))

is_quiet : IsQuiet rename_call
is_quiet t event e = by_own CALLER rename_lines t event e

closes : ClosesWhatIsOpen rename_call
closes standing others is lines = cc (is)

pub rename_is_worked : RenameIsWorked
rename_is_worked = record {
  called = called;
  replies = replies;
  is_quiet = is_quiet;
  closes = closes;
  comes = quiet_calls_mean rename_call done called replies is_quiet closes;
  means = refl;
  nodes = refl;
}
