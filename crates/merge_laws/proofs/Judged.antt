-- Outcomes that no property judges, with their lines put back.
use Rattle.std.proofs.Common.{◌≡◌, ℕ, suc, Bool, true, false, List, [], ◌∷◌, length, arith, refl, sym, ap, ◌∙◌, subst}
use Rattle.std.specs.Prelude.{map, nat_lt, Option}
use Rattle.std.proofs.lemmas.Bool.Decides.{nat_tests}
use Rattle.explore.specs.Explored.{ClassView}
use Rattle.explore_command.specs.Classes.{AreTold}
use Rattle.outcome_text.specs.declared.property.Property.{Property}
use Rattle.outcome_text.specs.declared.survey.Told.{Told}
use Rattle.outcome_text.specs.Conditions.{told_text, told_holds}
use Rattle.outcome_text.specs.Order.{in_order}
use Rattle.outcome_text.specs.Outcome.{report_lines}
use Rattle.outcome_text.proofs.Bare.{bare, order_bare, text_bare}
use Rattle.tree_model.specs.State.{State}

module _ (named : List ℕ) (opening : State) (actors : ℕ) where
  record Filled (classes : List ClassView) (all : List Told) : Type 0 where
    full : List Told
    told : AreTold true named opening actors classes full
    is : map bare full ≡ all

  filled : (classes : List ClassView) (all : List Told) → AreTold false named opening actors classes all → Filled classes all
  filled [] [] are = record { full = []; told = tt; is = refl }
  filled [] (t ∷ all) are = absurd are
  filled (c ∷ classes) [] are = absurd are
  filled (c ∷ classes) (t ∷ all) are =
      let rest : Filled classes all = filled classes all are.1 in
      let h = are.0 in
      let lines = sym h.judged_by in record {
        full = record t { lines = report_lines c.least.replies c.least.tree c.least.outside actors } ∷ rest.full;
        told = (record { counted = h.counted; cut = h.cut; changed = h.changed; least = h.least; scheduled = h.scheduled; printed = h.printed; looks = h.looks; judged_by = refl }, rest.told);
        is = λ i. record t { lines = lines i } ∷ rest.is i;
      }

  -- outcomes with all their lines, which are told the same
  pub record HaveLines (properties : List Property) (classes : List ClassView) (all : List Told) : Type 0 where
    pub full : List Told
    pub told : AreTold true named opening actors classes full
    pub text : (lists : ℕ) (states : Option ℕ) (longest : ℕ) → told_text lists states longest (in_order full) properties ≡ told_text lists states longest (in_order all) properties
    pub holds : told_holds (in_order full) properties ≡ told_holds (in_order all) properties

  pub have_lines : (properties : List Property) (classes : List ClassView) (all : List Told)
      → AreTold (nat_lt 0 (length properties)) named opening actors classes all → HaveLines properties classes all
  have_lines [] classes all are =
      let f : Filled classes all = filled classes all are in record {
        full = f.full;
        told = f.told;
        text = λ lists states longest.
            sym (text_bare lists states longest (in_order f.full))
            ∙ ap (λ (ts : List Told). told_text lists states longest ts []) (sym (order_bare f.full) ∙ ap in_order f.is);
        holds = refl;
      }
  have_lines (p ∷ ps) classes all are = record {
    full = all;
    told = subst (λ (b : Bool). AreTold b named opening actors classes all) (some (length ps)) are;
    text = λ lists states longest. refl;
    holds = refl;
  }
    where
      some : (n : ℕ) → nat_lt 0 (suc n) ≡ true
      some n = grind (arith, nat_tests)
