use Rattle.std.proofs.Common.{◌∙◌}
use Rattle.std.proofs.lemmas.List.Sorted.{list_any-IsPermutation}
use Rattle.outcome_text.proofs.nearby.in_word_order.Goals as goal

pub returns : goal.returns
returns c = λ test h.
    c.in_ok-some.ensures test
    (list_any-IsPermutation (λ part. test part.now) c.in_ok-some.some.items c.sort_by.new.self.items c.sort_by.ensures.permutation ∙ h)
