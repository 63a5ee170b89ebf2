use Rattle.std.proofs.Common.{List, subst}
use Rattle.std.specs.List.Sorted.{IsPermutation}
use Rattle.std.proofs.lemmas.List.Sorted.{IsPermutation-map}
use Rattle.outcome_text.specs.declared.part.Part.{Part}
use Rattle.outcome_text.specs.Apart.{parts_in}
use Rattle.outcome_text.proofs.apart.in_word_order.Goals as goal

pub returns : goal.returns
returns c =
    let ordered = c.sort_by.new.self.items in
    subst (λ (parts : List Part). IsPermutation parts (parts_in ordered)) c.in_ok-all.ensures
    (IsPermutation-map (λ placed. placed.part.now) c.in_ok-all.all.items ordered c.sort_by.ensures.permutation)
