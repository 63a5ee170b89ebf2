-- What is told of reports with the same replies, nodes and counts.
use Rattle.std.proofs.Common.{◌≡◌, ◌-◌, ℕ, zero, suc, List, [], ◌∷◌, ◌++◌, length, refl, sym, ap, ◌∙◌, subst, arith}
use Rattle.std.specs.Prelude.{codes, decimal, slice_get, if◌then◌else◌}
use Rattle.std.proofs.lemmas.Option.{same_Some, none-some}
use Rattle.node_numbering.specs.Exchanges.{after_all, before_all}
use Rattle.node_numbering.specs.Meeting.{numbers, numbered_on}
use Rattle.node_numbering.specs.Renumbered.{AreNodesOn, AreByNumbers}
use Rattle.node_numbering.proofs.Exchanging.{there_again}
use Rattle.race_core.specs.declared.report.Outcome.{Outcome}
use Rattle.report_text.specs.Report.{reply_lines, row_lines, held_line, held_lines}
use Rattle.tree_model.specs.declared.inode.Inode.{Inode}
use Rattle.tree_model.specs.State.{State}
use Rattle.outcome_text.specs.Changes.{changes_text}
use Rattle.outcome_text.specs.Outcome.{named_lines, named_outside, outside_lines, outcome_lines, report_lines}
use Rattle.outcome_text.specs.Telling.{IsLook}
use Rattle.outcome_text.specs.InPieces.{HoldAsMany, SameReportsAreToldAlike, OneListIsToldAsOne}

-- ---- nodes by their numbers

by_places : {A : Type 0} (xs ys : List A) → ((k : ℕ) → slice_get xs k ≡ slice_get ys k) → xs ≡ ys
by_places [] [] h = refl
by_places [] (y ∷ ys) h = absurd (none-some y (h 0))
by_places (x ∷ xs) [] h = absurd (none-some x (sym (h 0)))
by_places (x ∷ xs) (y ∷ ys) h =
    let rest : xs ≡ ys = by_places xs ys (λ k. h (suc k)) in
    λ i. same_Some x y (h 0) i ∷ rest i

one_numbering : (f back : ℕ → ℕ) → ((x : ℕ) → f (back x) ≡ x) → (nodes some others : List Inode) → AreNodesOn f nodes some → AreNodesOn f nodes others → some ≡ others
one_numbering f back again nodes some others is are = by_places some others (λ k.
    ap (λ (n : ℕ). slice_get some n) (sym (again k)) ∙ (is (back k) ∙ sym (are (back k))) ∙ ap (λ (n : ℕ). slice_get others n) (again k))

-- ---- the lines

held_same : (s t : State) (actors : ℕ) → HoldAsMany actors s t → held_lines s actors ≡ held_lines t actors
held_same s t zero h = refl
held_same s t (suc n) h =
    ap (λ (xs : List ℕ). xs ++ held_line s n) (held_same s t n (λ a lt. h a (omega arith)))
    ∙ ap (λ (k : ℕ). held_lines t n ++ (codes "held " ++ (decimal n ++ (codes " " ++ (decimal k ++ codes "\n"))))) (h n (omega arith))

outcome_same : (named : List ℕ) (opening s t : State) (replies others : List (List Outcome)) (outside : List ℕ) (actors : ℕ)
    → replies ≡ others → s.nodes ≡ t.nodes → held_lines s actors ≡ held_lines t actors
    → outcome_lines named opening replies s outside actors ≡ outcome_lines named opening others t outside actors
outcome_same [] opening s t replies others outside actors r n h =
    λ i. reply_lines (r i) ++ (changes_text (codes "minus ") opening.nodes (n i)
    ++ (changes_text (codes "plus ") (n i) opening.nodes ++ (h i ++ outside_lines outside)))
outcome_same (j ∷ js) opening s t replies others outside actors r n h =
    ap (λ (rs : List (List Outcome)). named_lines (j ∷ js) rs ++ named_outside (j ∷ js) outside) r

module _ (named : List ℕ) (opening tree other : State) (actors : ℕ) (replies : List (List Outcome)) (outside : List ℕ)
    (nodes : tree.nodes ≡ other.nodes) (held : HoldAsMany actors tree other) where
  same_looks : (look like : List ℕ) → IsLook named opening actors replies tree outside look → IsLook named opening actors replies other outside like → look ≡ like
  same_looks look like is are =
      let known = length opening.nodes in
      let exchanges = numbered_on named tree.nodes replies (length tree.nodes - known) known [] in
      let met : AreByNumbers (numbers known named tree.nodes replies) tree.nodes replies are.nodes are.renumbered =
      subst (λ (ns : List Inode). AreByNumbers (numbers known named ns replies) ns replies are.nodes are.renumbered) (sym nodes) are.as_met in
      let ones : is.nodes ≡ are.nodes =
      one_numbering (after_all exchanges) (before_all exchanges) (there_again exchanges) tree.nodes is.nodes are.nodes is.as_met.nodes_on met.nodes_on in
      is.is
      ∙ (outcome_same named opening (record { nodes = is.nodes; handles = tree.handles }) (record { nodes = are.nodes; handles = other.handles })
      is.renumbered are.renumbered outside actors (is.as_met.replies_on ∙ sym met.replies_on) ones
      (held_same (record { nodes = is.nodes; handles = tree.handles }) (record { nodes = are.nodes; handles = other.handles }) actors held)
      ∙ sym are.is)

  same_lines : report_lines replies tree outside actors ≡ report_lines replies other outside actors
  same_lines =
      let h = held_same tree other actors held in
      λ i. reply_lines replies ++ (row_lines (nodes i) ++ (h i ++ outside_lines outside))

pub same_reports_are_told_alike : SameReportsAreToldAlike
same_reports_are_told_alike judged named opening tree other actors lists many cuts less changes fewer turns list replies outside told like is are nodes held = record {
  look = same_looks named opening tree other actors replies outside nodes held told.look like.look is.looks are.looks;
  lines = is.judged_by ∙ (ap (λ (lines : List ℕ). if judged then lines else []) (same_lines named opening tree other actors replies outside nodes held) ∙ sym are.judged_by);
}

pub one_list_is_told_as_one : OneListIsToldAsOne
one_list_is_told_as_one judged named opening tree actors lists many cuts changes turns replies outside told like is are = record {
  cuts = is.cut ∙ sym are.cut;
  schedule = is.scheduled ∙ sym are.scheduled;
  block = is.printed ∙ sym are.printed;
  alike = same_reports_are_told_alike judged named opening tree tree actors lists many cuts cuts changes changes turns turns replies outside told like is are refl (λ a lt. refl);
}
