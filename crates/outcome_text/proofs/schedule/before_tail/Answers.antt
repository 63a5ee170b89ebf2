use Rattle.std.proofs.Common.{◌≡◌, ◌-◌, suc, drop, take, length, ap, sym, ◌∙◌, arith}
use Rattle.std.proofs.lemmas.List.{length-drop, take_all}
use Rattle.outcome_text.specs.Schedule.{rises, begins_to_rise}
use Rattle.outcome_text.proofs.Tails.{rises_from, none_left, left_before}
use Rattle.outcome_text.proofs.schedule.before_tail.Goals as goal

pub loop-kept-preserved : goal.loop-kept-preserved
loop-kept-preserved c =
    let list = c.args.list.now in
    let k = c.loop-kept.kept - 1 in
    let whole : take (length list - k) (drop k list) ≡ drop k list = take_all (length list - k) (drop k list) (omega (arith, length-drop k list)) in
    let after : suc k ≡ c.loop-kept.kept = omega arith in
    record {
      within = omega arith;
      tail =
          rises_from list k (sym (ap begins_to_rise whole) ∙ sym c.begins_to_rise.ensures ∙ c.if-begins_to_rise.true)
          (ap (λ n. rises (drop n list)) after ∙ c.loop-kept.invariant.tail);
    }

pub returns-else-begins_to_rise-clause-before : goal.returns-else-begins_to_rise-clause-before
returns-else-begins_to_rise-clause-before c =
    let list = c.args.list.now in
    let k = c.loop-kept.kept - 1 in
    let whole : take (length list - k) (drop k list) ≡ drop k list = take_all (length list - k) (drop k list) (omega (arith, length-drop k list)) in
    let after : suc k ≡ c.loop-kept.kept = omega arith in
    ap (λ n. take n list) (sym after)
    ∙ left_before list k (sym (ap begins_to_rise whole) ∙ sym c.begins_to_rise.ensures ∙ c.if-begins_to_rise.false)
    (ap (λ n. rises (drop n list)) after ∙ c.loop-kept.invariant.tail)

pub returns-after-loop-kept-clause-before : goal.returns-after-loop-kept-clause-before
returns-after-loop-kept-clause-before c =
    let list = c.args.list.now in
    let none : c.loop-kept.kept ≡ 0 = omega arith in
    ap (λ n. take n list) none ∙ none_left list (ap (λ n. rises (drop n list)) (sym none) ∙ c.loop-kept.invariant.tail)
