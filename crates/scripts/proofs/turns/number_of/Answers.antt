use Rattle.std.proofs.Common.{◌≡◌, true, decimal, Ok, arith, sym, ap, ◌∙◌}
use Rattle.std.proofs.lemmas.Fmt.{parse-decimal}
use Rattle.std.proofs.lemmas.Slice.Eq.{bytes_eq-Decides}
use Rattle.scripts.proofs.turns.number_of.Goals as goal

pub returns-in_default-clause-cases : goal.returns-in_default-clause-cases
returns-in_default-clause-cases c = λ n small e.
    let parsed : c.parse.result ≡ Ok n = parse-decimal 32 n c.args.text.now c.parse.result small (omega (arith, small)) e c.parse.ensures.value.0 in
    let is = c.in_default.is in
    absurd (cc (parsed, is))

pub returns-in_default-clause-only : goal.returns-in_default-clause-only
returns-in_default-clause-only c = λ n small e. absurd (returns-in_default-clause-cases c n small e)

pub returns-then-eq-clause-only : goal.returns-then-eq-clause-only
returns-then-eq-clause-only c = λ n small e.
    let parsed : c.parse.result ≡ Ok n = parse-decimal 32 n c.args.text.now c.parse.result small (omega (arith, small)) e c.parse.ensures.value.0 in
    let is = c.in-Ok.is in
    cc (parsed, is)

pub returns-else-eq-clause-cases : goal.returns-else-eq-clause-cases
returns-else-eq-clause-cases c = λ n small e.
    let parsed : c.parse.result ≡ Ok n = parse-decimal 32 n c.args.text.now c.parse.result small (omega (arith, small)) e c.parse.ensures.value.0 in
    let is = c.in-Ok.is in
    let same : c.in-Ok.number ≡ n = cc (parsed, is) in
    let shown : c.format.result.now ≡ c.args.text.now = c.format.ensures.text ∙ ap decimal same ∙ sym e in
    let equal : c.eq.result ≡ true = c.eq.ensures ∙ (bytes_eq-Decides c.format.result.now c.args.text.now).1 shown in
    let no = c.if-eq.false in
    absurd (cc (equal, no))

pub returns-else-eq-clause-only : goal.returns-else-eq-clause-only
returns-else-eq-clause-only c = λ n small e. absurd (returns-else-eq-clause-cases c n small e)
