use Rattle.std.proofs.Common.{◌≡◌, List, ℕ, true, string_bytes, subst, rules}
use Rattle.std.specs.Prelude.{filter, ◌==◌}
use Rattle.std.proofs.lemmas.Iterator.Consumers.{YieldsList-end}
use Rattle.std.proofs.lemmas.Iterator.Splits.{YieldsList-from_slice_split}
use borrow.Author.Tests.{tests}
use Rattle.explore_parts.specs.Merging.{LinesSay, is_line}
use Rattle.explore_parts.proofs.Merged.{one_more}
use Rattle.explore_parts.proofs.merge.parts_in.Goals as goal

pub loop-line-preserved-in-Continue-1 : goal.loop-line-preserved-in-Continue-1
loop-line-preserved-in-Continue-1 c =
    let some : is_line c.in-Some.line.now ≡ true = search rules in
    one_more c.loop-line.parts c.add_line.new.parts c.in-Some.line c.loop-line.yielded some c.in_ok-add_line.ensures c.loop-line.invariant

pub returns : goal.returns
returns c =
    let chain = YieldsList-from_slice_split _ (λ b. b == 10) c.args.text.now (cc) (cc) (cc) (λ x b q k. search (rules, tests)) in
    let end = YieldsList-end chain c.loop-line.yielded _ c.loop-line.yielded_by _ _ c.in-None.is c.next.ensures.steps in
    subst (λ (ls : List (List ℕ)). LinesSay (string_bytes c.loop-line.parts.question) c.loop-line.parts.properties.items (filter is_line ls) c.loop-line.parts.parts.items)
    end.0 c.loop-line.invariant
