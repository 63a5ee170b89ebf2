-- Pieces that are added one after another.
use Rattle.std.proofs.Common.{◌≡◌, ℕ, List, ◌++◌, ap, ◌∙◌}
use Rattle.std.specs.Prelude.{Result, Ok, Err}
use Rattle.std.proofs.lemmas.List.{append_assoc}
use Rattle.event_log.specs.Output.{Gains}

pub four_added : {T E : Type 0} (a b c d old first second third new : List ℕ) (result : Result T E)
    → first ≡ old ++ a → second ≡ first ++ b → third ≡ second ++ c → Gains third new d result → Gains old new (a ++ (b ++ (c ++ d))) result
four_added a b c d old first second third new (Err e) is_first is_second is_third gains = tt
four_added a b c d old first second third new (Ok x) is_first is_second is_third gains =
    gains ∙ ap (λ bs. bs ++ d) is_third ∙ append_assoc second c d
    ∙ ap (λ bs. bs ++ (c ++ d)) is_second ∙ append_assoc first b (c ++ d)
    ∙ ap (λ bs. bs ++ (b ++ (c ++ d))) is_first ∙ append_assoc old a (b ++ (c ++ d))
