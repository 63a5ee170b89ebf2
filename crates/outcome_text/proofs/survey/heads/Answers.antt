use Rattle.std.proofs.Common.{◌≡◌, ◌+◌, ◌++◌, ◌∷◌, [], ℕ, List, sym, ap, ◌∙◌, subst, arith, take, drop, length, rules}
use Rattle.std.specs.Prelude.{Some, None}
use Rattle.std.proofs.lemmas.List.{take_more, append-nil}
use Rattle.outcome_text.specs.declared.survey.Told.{Told}
use Rattle.outcome_text.specs.Looks.{AreLeft}
use Rattle.outcome_text.specs.Survey.{block_text, block_words, is_new, lists_to, new_among, woven}
use Rattle.report_text.specs.Report.{numbered}
use Rattle.outcome_text.proofs.NewOnes.{one_more, none_more}
use Rattle.outcome_text.proofs.Pieces.{woven_at}
use Rattle.outcome_text.proofs.Sums.{left_more, taken, one_taken, none_taken}
use Rattle.outcome_text.proofs.survey.heads.Goals as goal
use Rattle.outcome_text.proofs.survey.heads.Goals.{in-Some+in_ok-head+in_ok-push, in_default+in_ok-push-2}

-- those that are left after a place
abbrev onward : List Told → ℕ → List Told
onward all at = new_among (take (at + 1) all) (drop (at + 1) all)

pub loop-told-preserved : goal.loop-told-preserved
loop-told-preserved c =
    let all = c.args.all.now in
    let at = c.loop-told.told-index in
    let told = c.told-item.result in
    let key = c.as_slice.result in
    let old = c.loop-told.heads.items in
    let few = c.loop-told.invariant.few in
    let many = c.loop-told.invariant.many in
    let front : take (at + 1) all ≡ take at all ++ told ∷ [] =
    take_more all at told c.loop-told-test.true ∙ ap (λ (t : Told). take at all ++ t ∷ []) (sym c.told-item.is) in
    let left : AreLeft c.remove.new.self (take (at + 1) all) all =
    subst (λ (ts : List Told). AreLeft c.remove.new.self ts all) (sym front)
    (left_more c.loop-told.sums c.remove.new.self told key c.as_slice.ensures (take at all) all c.loop-told.invariant.left c.remove.ensures.updates) in
    let there = c.remove.ensures.value ∙ taken c.loop-told.sums c.remove.new.self told key c.as_slice.ensures all at c.loop-told-test.true c.told-item.is c.loop-told.invariant.left in
    elim c.match-remove.branch [
      | in-Some+in_ok-head+in_ok-push w ↦
          let one = one_taken (is_new (take at all) told) (lists_to all told) _ c.remove.result there w.in-Some.is in
          let counted = w.number-is in
          let pushed = ap length w.in_ok-push.ensures.items in
          let line = Some w.in_ok-head.field-0 in
          let more = one_more (block_text all) c.loop-told.number all at told (woven old (take at all)) (woven c.match-remove.heads.items (take (at + 1) all)) _
          c.loop-told-test.true c.told-item.is one.0
          (woven_at old c.match-remove.heads.items all at line told c.loop-told-test.true c.told-item.is many (search rules)
          ∙ ap (λ (bs : List ℕ). woven old (take at all) ++ bs) (append-nil _ ∙ w.in_ok-head.ensures ∙ ap (λ (n : ℕ). block_words c.loop-told.number n told) one.1))
          c.loop-told.invariant.whole in
          record {
            few = omega (arith, few, counted);
            many = search rules;
            left = left;
            whole = ap (λ (k : ℕ). woven c.match-remove.heads.items (take (at + 1) all) ++ numbered (block_text all) k (onward all at)) counted ∙ more;
          }
      | in_default+in_ok-push-2 w ↦
          let old_one = none_taken (is_new (take at all) told) (lists_to all told) c.remove.result there w.in_default.is in
          let counted = w.number-is in
          let none = none_more (block_text all) c.loop-told.number all at told (woven old (take at all)) _ c.loop-told-test.true c.told-item.is old_one c.loop-told.invariant.whole in
          record {
            few = omega (arith, few, counted);
            many = search rules;
            left = left;
            whole = ap (λ (k : ℕ). woven c.match-remove.heads.items (take (at + 1) all) ++ numbered (block_text all) k (onward all at)) counted
                ∙ ap (λ (bs : List ℕ). bs ++ numbered (block_text all) c.loop-told.number (onward all at))
                (woven_at old c.match-remove.heads.items all at None told c.loop-told-test.true c.told-item.is many (search rules) ∙ append-nil (woven old (take at all))) ∙ none;
          }
    ]
