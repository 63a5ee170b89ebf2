use Rattle.std.proofs.Common.{◌≡◌, drop, ap, sym, subst, ◌∙◌, arith}
use Rattle.std.proofs.lemmas.List.{drop-take}
use Rattle.kernel_calls.proofs.NamedLemmas.{IsFront, IsSomeDirectory, front_text}
use Rattle.kernel_calls.proofs.entry.above.Goals as goal

pub returns-else-end-eq0-clause-above : goal.returns-else-end-eq0-clause-above
returns-else-end-eq0-clause-above c = λ split path at.
    let end = c.unslashed-end.result in
    let is = c.unslashed-end.ensures in
    let front = subst (λ t. IsFront t c.args.parted.now.name end) c.text.ensures
    (record { pieces_same = is.pieces; last = is.last; within = is.within }) in
    subst (IsSomeDirectory split) (sym (ap (drop 1) c.front.ensures ∙ drop-take 1 end c.args.path.slashed.now))
    (front_text _ split c.args.parted.now end front (λ (z : end ≡ 0). omega arith) path at)
