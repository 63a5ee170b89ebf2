-- A book whose history is legal stays so, whatever turns are taken, with memory or without.
use Rattle.std.specs.Prelude.{ℕ, List, [], ◌∷◌, slice_get}
use Rattle.std.proofs.Common.{sym, subst}
use Rattle.race_core.specs.JoinedRuns.{TakesTurns}
use Rattle.race_core.specs.Worlds.{WorldView}
use Rattle.race_core.proofs.ReportsThere.{IsLegalBook, legal_turn}

pub legal_turns : (w : WorldView) (made : List ℕ) (v : WorldView) → TakesTurns w made v → IsLegalBook w.book → IsLegalBook v.book
legal_turns w [] v taken legal = subst (λ (u : WorldView). IsLegalBook u.book) (sym taken) legal
legal_turns w (i ∷ made) v taken legal =
    let one = taken.1.1 in
    legal_turns taken.0 made v taken.2 (subst (λ (u : WorldView). IsLegalBook u.book) (sym one.is) (legal_turn one.luck w i (slice_get w.seats i) legal))
