use Rattle.std.proofs.Common.{◌≡◌, ◌-◌, ◌≤◌, length, ap, refl, sym, ◌∙◌, arith}
use Rattle.path_text.proofs.PlacesLemmas.{one_more_same, one_differs, lengths_differ, all_same}
use Rattle.path_text.proofs.parts.Parts.same_after.Goals as goal

pub returns-then-left-len : goal.returns-then-left-len
returns-then-left-len c = (
  (λ t. cc),
  (λ q. absurd (c.if-left-len.true (ap (λ n. n - c.args.passed) c.len.ensures ∙ lengths_differ c.args.self.now c.args.other.now c.args.passed c.args.others_passed q ∙ sym (ap (λ n. n - c.args.others_passed) c.len-2.ensures)))),
)

pub loop-at-init : goal.loop-at-init
loop-at-init c = refl

pub returns-then-not-same : goal.returns-then-not-same
returns-then-not-same c = (
  (λ t. cc),
  (λ q. let same = c.same.ensures.1 (one_differs c.args.self.now c.args.other.now c.args.passed c.args.others_passed c.loop-at.at c.get.result c.get-in-loop-at.result c.get.ensures c.get-in-loop-at.ensures q) in cc),
)

pub loop-at-preserved : goal.loop-at-preserved
loop-at-preserved c =
    one_more_same c.args.self.now c.args.other.now c.args.passed c.args.others_passed c.loop-at.at c.get.result c.get-in-loop-at.result c.get.ensures c.get-in-loop-at.ensures
    (c.same.ensures.0 c.if-not-same.false) c.loop-at.invariant

pub returns : goal.returns
returns c =
    let left : length c.args.self.now - c.args.passed ≤ c.loop-at.at = omega (arith, c.loop-at-test.false, c.len.ensures) in
    let both : length c.args.self.now - c.args.passed ≡ length c.args.other.now - c.args.others_passed =
    sym (ap (λ n. n - c.args.passed) c.len.ensures) ∙ c.if-left-len.false ∙ ap (λ n. n - c.args.others_passed) c.len-2.ensures in
    ((λ t. all_same c.args.self.now c.args.other.now c.args.passed c.args.others_passed c.loop-at.at left both c.loop-at.invariant), (λ q. refl))
