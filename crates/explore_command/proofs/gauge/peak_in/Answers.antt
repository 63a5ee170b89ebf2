use Rattle.std.proofs.Common.{rules, ◌∙◌, ◌*◌, ◌++◌, ℕ, List, ap, sym, drop}
use Rattle.std.specs.Prelude.{codes}
use Rattle.std.proofs.lemmas.List.{take-append-drop}
use Rattle.explore_command.proofs.gauge.peak_in.Goals as goal

pub returns : goal.returns
returns c =
    let first = c.in_ok-rest.ensures.cases in
    let second = c.in_ok-number.ensures.cases in
    let rest = c.in_ok-rest.rest.now in
    let split = sym (take-append-drop second.0 rest) ∙ (λ i. sym second.3 i ++ second.2.1.split i) in
    record {
      at = first.0;
      number = c.in_ok-number.number.now;
      after = drop second.1 rest;
      line = first.2.1.split ∙ ap (λ (l : List ℕ). codes "\nVmHWM:" ++ l) (sym first.4 ∙ split);
      units = ap (λ (n : ℕ). n * 1024) (search rules);
    }
