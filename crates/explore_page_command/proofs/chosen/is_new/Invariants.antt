use Rattle.std.proofs.Common.{◌≡◌, drop}
use Rattle.std.specs.List.{list_any}
use Rattle.outcome_text.specs.Survey.{looks_like}
use Rattle.explore_page_command.proofs.chosen.is_new.Given as goal

-- it looks like one of all only if like one of those that are left
abbrev pub invariant-loop-other : goal.invariant-loop-other
invariant-loop-other l = list_any (looks_like l.told) (drop l.other-index l.earlier) ≡ list_any (looks_like l.told) l.earlier
