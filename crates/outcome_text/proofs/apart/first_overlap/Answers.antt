use Rattle.std.proofs.Common.{List, ap, sym, ◌∙◌}
use Rattle.outcome_text.specs.declared.apart.Placed.{Placed}
use Rattle.outcome_text.specs.Apart.{parts_in, rise}
use Rattle.outcome_text.proofs.Below.{risen_are_apart}
use Rattle.outcome_text.proofs.apart.first_overlap.Goals as goal

pub returns-then-rise : goal.returns-then-rise
returns-then-rise c =
    risen_are_apart c.args.parts.now (parts_in c.in_ok-ordered.ordered.items) c.in_ok-ordered.ensures
    (sym (c.rise.ensures ∙ ap (λ (all : List Placed). rise (parts_in all)) c.deref.ensures.value) ∙ c.if-rise.true)
