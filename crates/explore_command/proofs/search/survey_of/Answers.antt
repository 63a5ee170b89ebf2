use Rattle.std.proofs.Common.{◌∙◌, IfOk, ℕ, List, ap, length, subst}
use Rattle.std.specs.Prelude.{nat_lt, Result, Ok, Err, Some}
use Rattle.outcome_text.specs.declared.property.Property.{Property}
use Rattle.outcome_text.specs.Conditions.{counted, told_text, told_holds}
use Rattle.outcome_text.specs.Order.{in_order}
use Rattle.explore.specs.Explored.{classes_in}
use Rattle.explore_command.specs.Classes.{AreTold}
use Rattle.explore_command.proofs.search.survey_of.Goals as goal

-- what is said of a success in three parts, put together
both : {T E : Type 0} {P Q S R : T → Type 0} → ((x : T) → P x → Q x → S x → R x) → (r : Result T E) → IfOk r P → IfOk r Q → IfOk r S → IfOk r R
both f (Ok x) p q s = f x p q s
both f (Err e) p q s = tt

pub returns : goal.returns
returns c =
    let all = c.in_ok-all.all.items in
    let found = c.args.found in
    both (λ survey text holds outcomes. (
      record {
        all = all;
        told = subst (λ (n : ℕ). AreTold (nat_lt 0 n) c.args.asked.now.named.items c.args.scene.now.tree
            (length c.args.scene.now.plans.items) (classes_in found.classes.items) all)
            (c.len-judged.ensures ∙ c.args.asked.now.properties.ok.0) c.in_ok-all.ensures;
        is = text ∙ ap (λ (ps : List Property). told_text found.lists (Some found.states) found.turns (in_order all) ps) c.deref.ensures.value;
        judged = holds ∙ ap (λ (ps : List Property). told_holds (in_order all) ps) c.deref.ensures.value;
      },
      outcomes ∙ ap (λ (ps : List Property). counted ps (in_order all)) c.deref.ensures.value,
    )) c.told_in_order.result c.told_in_order.ensures.text c.told_in_order.ensures.holds c.told_in_order.ensures.outcomes
