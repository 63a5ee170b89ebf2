use Rattle.std.proofs.Common.{refl, sym, ◌∙◌}
use Rattle.system_calls.proofs.EntryLemmas.{told_entry, told_passed}
use Rattle.system_calls.proofs.entries.next_entry.Goals as goal

pub returns-then-is_told_name : goal.returns-then-is_told_name
returns-then-is_told_name c =
    let before = c.loop-rest.invariant in
    let it = c.in-Some.ensures in
    told_entry c.args.records.now c.loop-rest.rest.now c.in-Some.name.now _ c.in-Some.size before.0 before.1 it.0 it.1
    it.2 it.3 (sym c.is_entry.ensures ∙ c.if-is_entry.true) (sym c.is_told_name.ensures ∙ c.if-is_told_name.true) refl

pub loop-rest-preserved : goal.loop-rest-preserved
loop-rest-preserved c =
    let before = c.loop-rest.invariant in
    let it = c.in-Some.ensures in
    told_passed c.args.records.now c.loop-rest.rest.now c.in-Some.name.now _ c.in-Some.size before.0 before.1 it.0 it.1
    it.2 it.3 (sym c.is_entry.ensures ∙ c.if-is_entry.false) refl
