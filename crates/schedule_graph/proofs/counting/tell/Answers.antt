use Rattle.std.proofs.Common.{◌≡◌, ◌<◌, ◌∙◌, ap, Some, refl, arith}
use Rattle.std.specs.Prelude.{slice_set}
use Rattle.std.proofs.lemmas.Option.{slice_get_read}
use Rattle.schedule_graph.specs.Adding.{added}
use Rattle.schedule_graph.proofs.Telling.{told_goes, told_unreached, told_class, told_past}
use Rattle.schedule_graph.proofs.counting.tell.Goals as goal

pub returns-in_default-clause-counts : goal.returns-in_default-clause-counts
returns-in_default-clause-counts c =
    told_goes c.args.layers.now c.args.k c.args.s c.args.counts.now c.requires.counts c.in_default.field-0 (c.node_at.ensures ∙ ap (λ x. Some x) c.in_default.is)

pub returns-in_default-least-clause-counts : goal.returns-in_default-least-clause-counts
returns-in_default-least-clause-counts c =
    told_unreached c.args.layers.now c.args.k c.args.s c.args.counts.now c.requires.counts c.args.count.now c.requires.count c.in_default-least.is

pub returns-in_ok-copy-2-clause-counts : goal.returns-in_ok-copy-2-clause-counts
returns-in_ok-copy-2-clause-counts c =
    let own : c.in_ok-copy.field-0 ≡ c.in-Some.least = c.in_ok-copy.ensures in
    let also : c.in_ok-copy-2.field-0 ≡ c.in-Some.least = c.in_ok-copy-2.ensures in
    let within : c.in-Ends.class < c.args.counts.now.classes.len = omega (arith, c.len.ensures, c.if-class-len.true) in
    told_class c.args.layers.now c.args.k c.args.s c.args.counts.now c.requires.counts c.in-Ends.class (c.node_at.ensures ∙ ap (λ x. Some x) c.in-Ends.is)
    c.args.count.now c.in-Some.least c.requires.count c.in-Some.is _ c.index_mut.result.now
    (slice_get_read c.args.counts.now.classes.items c.args.counts.now.classes.len c.in-Ends.class c.index_mut.result.now c.args.counts.now.classes.ok.0 within c.index_mut.ensures.value)
    (ap (slice_set c.args.counts.now.classes.items c.in-Ends.class) (c.add-then-class-len.ensures ∙ ap (added c.index_mut.result.now c.args.count.now.words) also))
    (c.add.ensures ∙ ap (added c.args.counts.now.all c.args.count.now.words) own)

pub returns-else-class-len-clause-counts : goal.returns-else-class-len-clause-counts
returns-else-class-len-clause-counts c =
    let own : c.in_ok-copy.field-0 ≡ c.in-Some.least = c.in_ok-copy.ensures in
    told_past c.args.layers.now c.args.k c.args.s c.args.counts.now c.requires.counts c.in-Ends.class (c.node_at.ensures ∙ ap (λ x. Some x) c.in-Ends.is)
    c.args.count.now c.in-Some.least c.requires.count c.in-Some.is _
    (omega (arith, c.len.ensures, c.if-class-len.false, c.args.counts.now.classes.ok.0)) refl
    (c.add.ensures ∙ ap (added c.args.counts.now.all c.args.count.now.words) own)
