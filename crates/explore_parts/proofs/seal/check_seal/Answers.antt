use Rattle.std.proofs.Common.{◌≡◌, ◌+◌, ◌∙◌, length, ap, arith}
use Rattle.path_text.specs.Name.{same_bytes}
use Rattle.explore_parts.proofs.Sealing.{before_is, behind_is}
use Rattle.explore_parts.proofs.seal.check_seal.Goals as goal

pub returns-then-not-are_same : goal.returns-then-not-are_same
returns-then-not-are_same c = λ body sum digits is.
    let rest : c.in-Some.long + 74 ≡ length c.args.line.now = omega arith in
    before_is c.args.line.now body sum c.split_at.result.1.now c.in-Some.long digits is c.split_at.ensures.back rest
    c.split_at-2.result.0.now c.are_same.result c.split_at-2.ensures.front (c.are_same.ensures ∙ ap (same_bytes c.split_at-2.result.0.now) c.as_bytes.ensures.value) c.if-not-are_same.true

pub returns-then-not-are_same-2 : goal.returns-then-not-are_same-2
returns-then-not-are_same-2 c = λ body sum digits is.
    let rest : c.in-Some.long + 74 ≡ length c.args.line.now = omega arith in
    behind_is c.args.line.now body sum c.split_at.result.1.now c.in-Some.long digits is c.split_at.ensures.back rest
    c.split_at-2.result.1.now c.split_at-3.result.1.now c.are_same-2.result c.split_at-2.ensures.back c.split_at-3.ensures.back (c.are_same-2.ensures ∙ ap (same_bytes c.split_at-3.result.1.now) c.as_bytes-2.ensures.value)
    c.if-not-are_same-2.true
