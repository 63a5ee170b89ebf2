use Rattle.std.proofs.Common.{◌≡◌, List, ℕ, map, ap, ◌∙◌, subst, lit<}
use Rattle.std.specs.Prelude.{MatchOption}
use Rattle.std.proofs.lemmas.Iterator.Consumers.{map_from_collect}
use Rattle.std.proofs.lemmas.Iterator.Splits.{YieldsList-from_str_split}
use Rattle.std.proofs.lemmas.Result.{IfOk-at_ok}
use Rattle.scripts.specs.declared.turns.Turns.{Turns}
use Rattle.scripts.specs.Turns.{STAR, words_of, AreTurns}
use Rattle.scripts.proofs.turns.turns_in.Goals as goal

pub returns : goal.returns
returns c =
    let split : map (λ word. word.now) c.in_ok-words.words.items ≡ words_of c.args.piece.now =
    IfOk-at_ok _ c.in_ok-words.was (map_from_collect _ c.collect.ensures.ran (YieldsList-from_str_split STAR c.args.piece.now (lit< tt) c.split.ensures.text c.split.ensures.has_more c.split.ensures.pattern)) in
    subst (λ (words : List (List ℕ)). MatchOption c.turns_by.result ((turns : Turns) → AreTurns words turns → ⊥) (AreTurns words))
    (ap (map (λ word. word.now)) c.deref.ensures.value ∙ split) c.turns_by.ensures
