use Rattle.std.proofs.Common.{◌≡◌, ◌∙◌, ◌⊎◌, sym, length, inl, inr, ⊎_elim}
use Rattle.std.specs.Iterator.Adapters.{zip_first, zip_second}
use Rattle.std.specs.Slice.Iter.{iter_rest}
use Rattle.std.specs.Vec.Iter.{into_iter_items}
use Rattle.schedule_graph.specs.Words.{Rank}
use Rattle.layered_search.proofs.Counts.Classes.{next_short, classes_more, classes_all}
use Rattle.layered_search.proofs.searching.classes_of.Goals as goal

-- each count has a least list
pub unreachable-requires : goal.unreachable-requires
unreachable-requires g c =
    let found = c.args.found.items in
    let counts = c.args.counts.now in
    let left = into_iter_items (zip_first c.loop-one.one-iterator) in
    let others = iter_rest (zip_second c.loop-one.one-iterator) in
    let short = next_short found counts left others c.loop-one.classes.items c.loop-one.invariant c.requires.short
    c.in-Some.count.now (iter_rest (zip_second c.next.new.self)) c.in-Some.ensures.steps.1 in
    c.in_default.not-Some short.0 short.1

pub loop-one-preserved-in_ok-push : goal.loop-one-preserved-in_ok-push
loop-one-preserved-in_ok-push g c =
    let found = c.args.found.items in
    let counts = c.args.counts.now in
    let left = into_iter_items (zip_first c.loop-one.one-iterator) in
    let others = iter_rest (zip_second c.loop-one.one-iterator) in
    let inside = c.least.inside in
    let own : Rank = record { cuts = inside.cuts; changes = inside.changes; turns = inside.word.items } in
    classes_more found counts left others c.loop-one.classes.items c.loop-one.invariant c.in-Some.one
    (into_iter_items (zip_first c.next.new.self)) c.in-Some.count.now (iter_rest (zip_second c.next.new.self))
    c.in-Some-least.least own c.in_ok-turns_of.field-0 c.push.new.self.items c.in-Some.ensures.steps.0.0
    c.in-Some.ensures.steps.1 c.in-Some-least.is c.least.view_is (c.in_ok-turns_of.ensures ∙ c.as_slice.ensures)
    c.in_ok-push.ensures.items

pub loop-one-preserved : goal.loop-one-preserved
loop-one-preserved g c =
    let found = c.args.found.items in
    let counts = c.args.counts.now in
    let left = into_iter_items (zip_first c.loop-one.one-iterator) in
    let others = iter_rest (zip_second c.loop-one.one-iterator) in
    let inside = c.least.inside in
    let own : Rank = record { cuts = inside.cuts; changes = inside.changes; turns = inside.word.items } in
    classes_more found counts left others c.loop-one.classes.items c.loop-one.invariant c.in-Some.one
    (into_iter_items (zip_first c.next.new.self)) c.in-Some.count.now (iter_rest (zip_second c.next.new.self))
    c.in-Some-least.least own c.in_ok-turns_of.field-0 c.push.new.self.items c.in-Some.ensures.steps.0.0
    c.in-Some.ensures.steps.1 c.in-Some-least.is c.least.view_is (c.in_ok-turns_of.ensures ∙ c.as_slice.ensures)
    c.in_ok-push.ensures.items

pub returns : goal.returns
returns g c =
    let left = into_iter_items (zip_first c.loop-one.one-iterator) in
    let others = iter_rest (zip_second c.loop-one.one-iterator) in
    let none : (length left ≡ 0) ⊎ (length others ≡ 0) =
    ⊎_elim (λ h. inl (sym (zip_first c.loop-one.one-iterator).rest.ok.0 ∙ h.1.0)) (λ h. inr h.1.0)
    c.in-None.ensures.steps in
    classes_all c.args.found.items c.args.counts.now left others c.loop-one.classes.items c.loop-one.invariant
    c.requires.many none
