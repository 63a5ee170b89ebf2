-- In a world that is made of plans each actor's number is its seat's.
use Rattle.std.specs.Prelude.{◌≡◌, ℕ, ◌+◌, zero, suc, List, [], ◌∷◌, None, Some, Result, Ok, Err, slice_get}
use Rattle.std.proofs.Common.{refl, sym, ap, ◌∙◌, arith}
use Rattle.std.proofs.lemmas.Option.{none-some, same_Some}
use Rattle.path_text.specs.declared.errno.Errno.{Errno}
use Rattle.tree_model.specs.State.{State}
use Rattle.tree_model.specs.Steps.{grants}
use Rattle.race_core.specs.declared.plan.ActorPlan.{ActorPlan}
use Rattle.race_core.specs.declared.seat.Seat.{Seat}
use Rattle.race_core.specs.Ledgers.{LedgerView}
use Rattle.race_core.specs.Opening.{Grants, root_in, before, onward_from, granted}
use Rattle.race_core.specs.Turns.{opened_ledger}
use Rattle.local_states.specs.Local.{actor_of, AreNumbered}
use Rattle.explore.specs.Opened.{world_over, opened_world}

-- the actors of the seats have the numbers from i on, where the roots were granted
abbrev NumberedFrom : ℕ → State → ℕ → Grants → Type 0
NumberedFrom i s lines made = (k : ℕ) (x : Seat) → slice_get (world_over s lines made).seats k ≡ Some x → actor_of x ≡ i + k

module _ (s : State) (lines : ℕ) where
  -- the first one's before the others'
  first_numbered : (i : ℕ) (ledger : LedgerView) → ledger.root.owner.actor ≡ i → (others : Grants) → NumberedFrom (suc i) s lines others
      → NumberedFrom i s lines (before ledger others)
  first_numbered i ledger own (Err refusal) are k x e = absurd (none-some x e)
  first_numbered i ledger own (Ok granted) are zero x e =
      let is : record { ledger = ledger; doing = None } ≡ x = same_Some (record { ledger = ledger; doing = None }) x e in
      let up : i ≡ i + 0 = omega arith in
      ap (λ (seat : Seat). actor_of seat) (sym is) ∙ (own ∙ up)
  first_numbered i ledger own (Ok granted) are (suc k) x e =
      let up : suc i + k ≡ i + suc k = omega arith in
      are k x e ∙ up

  numbered_from : (t : State) (i : ℕ) (plans : List ActorPlan) → NumberedFrom i s lines (granted t i plans)
  numbered_from t i [] = λ k x e. absurd (none-some x e)
  numbered_from t i (plan ∷ plans) = by (λ u. numbered_from u (suc i) plans) (grants t i plan.root)
    where
      by : ((u : State) → NumberedFrom (suc i) s lines (granted u (suc i) plans)) → (made : Result State Errno)
          → NumberedFrom i s lines (onward_from i made (λ u. before (opened_ledger (root_in t i) plan.calls) (granted u (suc i) plans)))
      by others (Err error) = λ k x e. absurd (none-some x e)
      by others (Ok u) = first_numbered i (opened_ledger (root_in t i) plan.calls) refl (granted u (suc i) plans) (others u)

pub opened_numbered : (s : State) (plans : List ActorPlan) (lines : ℕ) → AreNumbered (opened_world s plans lines).seats
opened_numbered s plans lines i x e =
    let up : 0 + i ≡ i = omega arith in
    numbered_from s lines s 0 plans i x e ∙ up
