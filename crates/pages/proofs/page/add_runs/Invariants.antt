use Rattle.std.proofs.Common.{◌≡◌, ◌++◌, drop}
use Rattle.std.specs.List.{flat_map}
use Rattle.pages.specs.Page.{run_part}
use Rattle.pages.proofs.page.add_runs.Given as goal

-- what is written and what is left to write make the whole
abbrev pub invariant-loop-run : goal.invariant-loop-run
invariant-loop-run l = l.out ++ flat_map run_part (drop l.run-index l.runs) ≡ l.fn.out ++ flat_map run_part l.runs
