-- What was resolved is closed again.
use Rattle.std.proofs.Common.{◌≡◌, ◌≢◌, ℕ, Ok, sym, ap, subst, ◌∙◌, ⊎_elim}
use Rattle.std.proofs.lemmas.Bool.{cases_eq}
use Rattle.tree_model.specs.declared.step.StepOf.TheVariants.{Close}
use Rattle.tree_model.specs.State.{State}
use Rattle.tree_model.specs.Steps.{outcome, held}
use Rattle.tree_model.specs.StepLaws.{OthersHandlesStay}
use Rattle.handles.specs.Objects.{StandingObject}
use Rattle.step_resolver.specs.declared.driver.Resolved.TheVariants.{Found}
use Rattle.step_resolver.specs.Driver.{LeavesHandles}
use Rattle.step_resolver.proofs.Underway.StepOutcomes.{IsLess, Close-is_less}
use Rattle.example_callers.specs.Lookup.{LeavesAllHandles}

pub closed_again : OthersHandlesStay → (s t u : State) (a : ℕ) (standing : StandingObject) → LeavesHandles s a t (Ok (Found standing))
    → u ≡ (outcome t a (Close standing.handle)).after → LeavesAllHandles s u
closed_again stay s t u a standing leaves after b k = ap (λ (v : State). held v b k) after ∙ ⊎_elim own other (cases_eq b a)
  where
    closed : State
    closed = (outcome t a (Close standing.handle)).after

    less : IsLess t a closed standing.handle
    less = Close-is_less t a standing.handle

    same : k ≡ standing.handle → held closed a k ≡ held s a k
    same e = subst (λ (h : ℕ). held closed a h ≡ held s a h) (sym e) (less.closed ∙ sym leaves.own.1)

    apart : k ≢ standing.handle → held closed a k ≡ held s a k
    apart ne = less.others k ne ∙ leaves.own.2 k ne

    own : b ≡ a → held closed b k ≡ held s b k
    own e = subst (λ (x : ℕ). held closed x k ≡ held s x k) (sym e) (⊎_elim same apart (cases_eq k standing.handle))

    other : b ≢ a → held closed b k ≡ held s b k
    other ne = stay t a (Close standing.handle) b k ne ∙ leaves.others b ne k
