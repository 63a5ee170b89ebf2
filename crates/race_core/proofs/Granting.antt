-- The roots of a world's actors, granted one after another.
use Rattle.std.proofs.Common.{◌≡◌, ℕ, suc, List, [], ◌∷◌, ◌++◌, length, Result, Ok, Err, append_assoc, refl, sym, ap, ◌∙◌, arith}
use Rattle.path_text.specs.declared.errno.Errno.{Errno}
use Rattle.std.proofs.lemmas.List.{length_push}
use Rattle.tree_model.specs.State.{State}
use Rattle.tree_model.specs.Steps.{grants}
use Rattle.race_core.specs.declared.plan.ActorPlan.{ActorPlan}
use Rattle.race_core.specs.Ledgers.{LedgerView}
use Rattle.race_core.specs.Turns.{opened_ledger}
use Rattle.race_core.specs.Opening.{Grants, before, onward_from, granted, after_these, root_in}

after_again : (ledgers : List LedgerView) (ledger : LedgerView) (rest : Grants) → after_these ledgers (before ledger rest) ≡ after_these (ledgers ++ ledger ∷ []) rest
after_again ledgers ledger (Ok granted) =
    ap (λ (ls : List LedgerView). Ok (record { tree = granted.tree; ledgers = ls })) (sym (append_assoc ledgers (ledger ∷ []) granted.ledgers))
after_again ledgers ledger (Err refusal) = refl

-- with one root more
pub granted_more : (whole : Grants) (s t : State) (i : ℕ) (plan : ActorPlan) (rest : List ActorPlan) (ledgers : List LedgerView) (ledger : LedgerView)
    → whole ≡ after_these ledgers (granted s i (plan ∷ rest)) → grants s i plan.root ≡ Ok t → ledger ≡ opened_ledger (root_in s i) plan.calls
    → whole ≡ after_these (ledgers ++ ledger ∷ []) (granted t (suc i) rest)
granted_more whole s t i plan rest ledgers ledger is ok made =
    is
    ∙ ap (λ (r : Result State Errno). after_these ledgers (onward_from i r (λ u. before (opened_ledger (root_in s i) plan.calls) (granted u (suc i) rest)))) ok
    ∙ after_again ledgers (opened_ledger (root_in s i) plan.calls) (granted t (suc i) rest)
    ∙ ap (λ (l : LedgerView). after_these (ledgers ++ l ∷ []) (granted t (suc i) rest)) (sym made)

-- so it is in a loop, where i is the number of ledgers
pub granted_next : (whole : Grants) (s t : State) (i : ℕ) (plan : ActorPlan) (plans rest : List ActorPlan) (ledgers more : List LedgerView) (ledger : LedgerView)
    → whole ≡ after_these ledgers (granted s (length ledgers) plans) → i ≡ length ledgers → plans ≡ plan ∷ rest
    → grants s i plan.root ≡ Ok t → ledger ≡ opened_ledger (root_in s i) plan.calls → more ≡ ledgers ++ ledger ∷ []
    → whole ≡ after_these more (granted t (length more) rest)
granted_next whole s t i plan plans rest ledgers more ledger is number next ok made pushed =
    granted_more whole s t i plan rest ledgers ledger
    (is ∙ ap (λ (n : ℕ). after_these ledgers (granted s n plans)) (sym number) ∙ ap (λ (ps : List ActorPlan). after_these ledgers (granted s i ps)) next) ok made
    ∙ ap (λ (n : ℕ). after_these (ledgers ++ ledger ∷ []) (granted t n rest)) counted
    ∙ ap (λ (ls : List LedgerView). after_these ls (granted t (length ls) rest)) (sym pushed) where
      counted : suc i ≡ length (ledgers ++ ledger ∷ [])
      counted = omega (arith, number, length_push ledgers ledger)
