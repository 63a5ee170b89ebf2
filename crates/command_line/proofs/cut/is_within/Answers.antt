use Rattle.std.proofs.Common.{ℕ, List, length, drop, ◌<◌, ◌+◌, ◌||◌, ◌≡◌, true, false, nat_eq, ap, sym, ◌∙◌}
use Rattle.std.specs.List.{starts_with}
use Rattle.std.proofs.lemmas.List.{at_drop_more}
use Rattle.command_line.specs.Cut.{is_within}
use Rattle.command_line.proofs.cut.is_within.Goals as goal

-- a place where the part doesn't stand can be passed over
within_step : (part text : List ℕ) (at : ℕ) → at < length text → starts_with nat_eq (drop at text) part ≡ false → is_within part (drop (at + 1) text) ≡ is_within part (drop at text)
within_step part text at before other =
    ap (λ b. b || is_within part (drop (at + 1) text)) (sym other ∙ at_drop_more (λ xs. starts_with nat_eq xs part) text at 0 before)
    ∙ sym (at_drop_more (λ xs. is_within part xs) text at 0 before)

-- and one where the part stands decides
within_here : (part text : List ℕ) (at : ℕ) → at < length text → starts_with nat_eq (drop at text) part ≡ true → is_within part (drop at text) ≡ true
within_here part text at before here =
    at_drop_more (λ xs. is_within part xs) text at 0 before
    ∙ ap (λ b. b || is_within part (drop (at + 1) text)) (sym (at_drop_more (λ xs. starts_with nat_eq xs part) text at 0 before) ∙ here)

pub loop-at-preserved : goal.loop-at-preserved
loop-at-preserved c =
    within_step c.args.part.now c.args.text.now c.loop-at.at c.loop-at-test.true
    (ap (λ xs. starts_with nat_eq xs c.args.part.now) (sym c.split_at.ensures.back) ∙ sym c.starts_with.ensures.value ∙ c.if-starts_with.false)
    ∙ c.loop-at.invariant

pub returns-then-starts_with : goal.returns-then-starts_with
returns-then-starts_with c =
    sym (sym c.loop-at.invariant ∙ within_here c.args.part.now c.args.text.now c.loop-at.at c.loop-at-test.true
    (ap (λ xs. starts_with nat_eq xs c.args.part.now) (sym c.split_at.ensures.back) ∙ sym c.starts_with.ensures.value ∙ c.if-starts_with.true))
