use Rattle.std.specs.Prelude.{◌≡◌, ◌++◌, ◌+◌, ℕ, List, [], ◌∷◌, length, take}
use Rattle.std.specs.Global.{Vec}
use Rattle.std.proofs.Common.{◌∙◌, sym, ap, subst}
use Rattle.std.proofs.lemmas.List.{length_push}
use Rattle.explore.specs.Opened.{opened_world}
use Rattle.explore_command.specs.Surveyed.{scope_asked}
use Rattle.explore_command.specs.Part.{AreWhoMight, AreEachWhoMight}
use Rattle.explore_command.proofs.WhoMight.{one_turn_more}
use Rattle.explore_command.proofs.part.all_might.Goals as goal

pub loop-at-preserved : goal.loop-at-preserved
loop-at-preserved c =
    let scene = c.args.scene.now in
    let w = opened_world scene.tree scene.plans.items scene.lines in
    let scope = scope_asked c.args.asked.now in
    let actors = length scene.plans.items in
    let begin = scope.begin in
    let all = c.loop-at.all.items in
    let might = c.in_ok-might.might in
    let pushed : c.push.new.self.items ≡ all ++ might ∷ [] = c.in_ok-push.ensures.items in
    let turns : take c.loop-at.at c.as_slice-begin.result.now ≡ take (length all) begin =
    ap (take c.loop-at.at) c.as_slice-begin.ensures.value ∙ ap (λ (n : ℕ). take n begin) (sym c.loop-at.invariant.many) in
    record {
      each = subst (λ (vs : List (Vec ℕ)). AreEachWhoMight w scope actors begin vs) (sym pushed)
          (one_turn_more w scope actors begin all might c.loop-at.invariant.each
          (subst (λ (js : List ℕ). AreWhoMight w scope actors js might.items) turns c.in_ok-might.ensures));
      many = ap length pushed ∙ (length_push all might ∙ ap (λ (n : ℕ). n + 1) c.loop-at.invariant.many);
    }
