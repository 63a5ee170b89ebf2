-- What is told of two lists that lead to one outcome.
use Rattle.std.specs.Prelude.{◌≡◌, ◌<◌, ℕ, Bool, List, length, refl}
use Rattle.std.proofs.Common.{◌∙◌, sym, ap, subst}
use Rattle.explore.specs.Explored.{Scope, AgreeIn, EndingView, ClassView, IsEnding}
use Rattle.local_states.proofs.Lists.Runs.{actors_stay}
use Rattle.explore_command.specs.Classes.{IsTold}
use Rattle.race_core.specs.declared.report.Outcome.{Outcome}
use Rattle.race_core.specs.Worlds.{WorldView}
use Rattle.outcome_text.specs.declared.survey.Told.{Told}
use Rattle.outcome_text.specs.InPieces.{AreAlike, HoldAsMany}
use Rattle.outcome_text.specs.Telling.{IsToldOf}
use Rattle.outcome_text.proofs.SameReports.{same_reports_are_told_alike}
use Rattle.tree_model.specs.State.{State}
use Rattle.tree_model.specs.Steps.{held_count}
use Rattle.merge_laws.specs.Merged.{RepliesNameNoHandles, AgreeingListsAreToldAlike}

module _ (w : WorldView) (scope : Scope) (nameless : RepliesNameNoHandles w scope) (c d : EndingView) (is : IsEnding w scope c) (are : IsEnding w scope d)
    (agree : AgreeIn w scope c.turns d.turns) where
  same_replies : c.replies ≡ d.replies
  same_replies =
      is.report.are_replies
      ∙ (sym (nameless c.turns is.asked (λ h. 0)) ∙ (agree.replies ∙ (nameless d.turns are.asked (λ h. 0) ∙ sym are.report.are_replies)))

  same_nodes : c.tree.nodes ≡ d.tree.nodes
  same_nodes = ap (λ (s : State). s.nodes) is.report.is_tree ∙ (agree.nodes ∙ sym (ap (λ (s : State). s.nodes) are.report.is_tree))

  same_held : HoldAsMany (length w.seats) c.tree d.tree
  same_held a lt =
      ap (λ (s : State). held_count s a) is.report.is_tree
      ∙ (agree.held a (subst (λ (n : ℕ). a < n) (sym (actors_stay w c.turns)) lt) ∙ sym (ap (λ (s : State). held_count s a) are.report.is_tree))

  same_outside : c.outside ≡ d.outside
  same_outside = is.outside ∙ (agree.outside ∙ sym are.outside)

pub told_alike : (judged : Bool) (w : WorldView) (scope : Scope) (named : List ℕ) (opening : State) (actors : ℕ) → actors ≡ length w.seats → RepliesNameNoHandles w scope
    → (c d : ClassView) (told like : Told) → IsEnding w scope c.least → IsEnding w scope d.least → AgreeIn w scope c.least.turns d.least.turns
    → IsTold judged named opening actors c told → IsTold judged named opening actors d like → AreAlike told like
told_alike judged w scope named opening actors seats nameless c d told like is are agree says tells =
    let replies = same_replies w scope nameless c.least d.least is are agree in
    let outside = same_outside w scope nameless c.least d.least is are agree in
    same_reports_are_told_alike judged named opening c.least.tree d.least.tree actors c.lists d.lists c.least.cuts d.least.cuts c.least.changes d.least.changes
    c.least.turns d.least.turns c.least.replies c.least.outside told like says
    (subst (λ (out : List ℕ). IsToldOf judged named opening actors d.lists d.least.cuts d.least.changes d.least.turns c.least.replies d.least.tree out like) (sym outside)
    (subst (λ (rs : List (List Outcome)). IsToldOf judged named opening actors d.lists d.least.cuts d.least.changes d.least.turns rs d.least.tree d.least.outside like) (sym replies) tells))
    (same_nodes w scope nameless c.least d.least is are agree)
    (λ a lt. same_held w scope nameless c.least d.least is are agree a (subst (λ (n : ℕ). a < n) seats lt))

pub agreeing_lists_are_told_alike : AgreeingListsAreToldAlike
agreeing_lists_are_told_alike judged w scope named opening c d told like nameless is are agree says tells =
    told_alike judged w scope named opening (length w.seats) refl nameless c d told like is are agree says tells
