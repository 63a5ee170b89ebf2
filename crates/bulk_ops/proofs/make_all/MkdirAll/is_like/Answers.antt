use Rattle.std.proofs.Common.{◌≡◌, ap, sym, ◌∙◌}
use Rattle.std.specs.Prelude.{reverse}
use Rattle.std.proofs.lemmas.Bool.{false≢true}
use Rattle.step_resolver.specs.View.{handle_of}
use Rattle.bulk_ops.specs.MakeAllOrder.{ending}
use Rattle.bulk_ops.specs.MakeAllView.{MakingView, making_of}
use Rattle.bulk_ops.specs.declared.make_all.Chain.{Chain}
use Rattle.bulk_ops.proofs.LikeStages.{kind_at, like_kinds, is_making, is_opening, is_ending, like_endings}
use Rattle.bulk_ops.proofs.make_all.MkdirAll.is_like.Goals as goal

pub returns-then-like_held-4 : goal.returns-then-like_held-4
returns-then-like_held-4 c =
    let arm = c.in-Ending-Ending in
    let due : c.args.self.now.making ≡ ending (handle_of arm.held) (reverse arm.chain.value.names) = sym (ap (λ (v : MakingView). v.making) c.self.view_is) ∙ ap making_of arm.is-0 in
    let other : c.args.other.now.making ≡ ending (handle_of arm.h) (reverse arm.c.value.names) = sym (ap (λ (v : MakingView). v.making) c.other.view_is) ∙ ap making_of arm.is-1 in
    let either = like_endings _ _ _ _ _ _ due other (c.like_held-in-Ending-Ending.ensures.0 c.if-like_held-4.true) in
    let here : c.deref-then-like_held-4.result.now.names ≡ arm.chain.value.names = ap (λ (chain : Chain). chain.names) c.deref-then-like_held-4.ensures in
    let there : c.deref-then-like_held-4-2.result.now.names ≡ arm.c.value.names = ap (λ (chain : Chain). chain.names) c.deref-then-like_held-4-2.ensures in (
      (λ t. either.0 (sym here ∙ (c.same-then-like_held-4.ensures.0 t ∙ there))),
      (λ like. c.same-then-like_held-4.ensures.1 (here ∙ (either.1 like ∙ sym there))),
    )

pub returns-in_default-2 : goal.returns-in_default-2
returns-in_default-2 c = (
  (λ t. absurd (false≢true t)),
  (λ like. absurd (is_making c.other.inside.stage
      (like_kinds c.self.inside.call c.other.inside.call c.self.inside.stage c.other.inside.stage _ _ c.self.invariant c.other.invariant
      (ap (λ (v : MakingView). v.making) c.self.view_is) (ap (λ (v : MakingView). v.making) c.other.view_is) like ∙ ap kind_at c.in_default.is-0) c.in_default.not-Making-1)),
)

pub returns-in_default-3 : goal.returns-in_default-3
returns-in_default-3 c = (
  (λ t. absurd (false≢true t)),
  (λ like. absurd (is_opening c.other.inside.stage
      (like_kinds c.self.inside.call c.other.inside.call c.self.inside.stage c.other.inside.stage _ _ c.self.invariant c.other.invariant
      (ap (λ (v : MakingView). v.making) c.self.view_is) (ap (λ (v : MakingView). v.making) c.other.view_is) like ∙ ap kind_at c.in_default.is-0) c.in_default.not-Opening-1)),
)

pub returns-in_default-5 : goal.returns-in_default-5
returns-in_default-5 c = (
  (λ t. absurd (false≢true t)),
  (λ like. absurd (is_ending c.other.inside.stage
      (like_kinds c.self.inside.call c.other.inside.call c.self.inside.stage c.other.inside.stage _ _ c.self.invariant c.other.invariant
      (ap (λ (v : MakingView). v.making) c.self.view_is) (ap (λ (v : MakingView). v.making) c.other.view_is) like ∙ ap kind_at c.in_default.is-0) c.in_default.not-Ending-1)),
)
