use Rattle.std.proofs.Common.{◌≡◌, ◌+◌, ◌++◌, ◌∙◌, suc, ap, sym, subst, refl, List, length, take, drop, replicate, arith}
use Rattle.std.proofs.lemmas.List.{length-replicate}
use Rattle.std.proofs.lemmas.Option.{slice_get_read}
use Rattle.schedule_graph.specs.declared.count.Count.{Count}
use Rattle.schedule_graph.specs.Led.{width_at, IsNext, AreTold}
use Rattle.schedule_graph.proofs.Passing.{blank, next_first, next_last, told_last, take_whole}
use Rattle.schedule_graph.proofs.counting.passed.Goals as goal

pub loop-s-init : goal.loop-s-init
loop-s-init c =
    let first : c.in_ok-next.next.items ≡ replicate c.width_at.result blank = c.in_ok-next.ensures in
    record {
      width = ap length first ∙ (length-replicate c.width_at.result blank ∙ c.width_at.ensures);
      next = next_first c.args.layers.now c.args.k c.width_at.result c.in_ok-next.next.items first;
      classes = refl;
      counts = c.requires.counts;
    }

pub spread-requires-clause-count : goal.spread-requires-clause-count
spread-requires-clause-count c =
    c.requires.table c.loop-s.s c.index-table-s.result
    (slice_get_read c.args.table.now (length c.args.table.now) c.loop-s.s c.index-table-s.result refl c.loop-s-test.true c.index-table-s.is)

pub spread-requires-clause-next : goal.spread-requires-clause-next
spread-requires-clause-next c =
    subst (λ (xs : List Count). IsNext c.args.layers.now c.args.k c.loop-s.s xs) (sym c.as_mut_slice.ensures.value) c.loop-s.invariant.next

pub tell-requires-clause-count : goal.tell-requires-clause-count
tell-requires-clause-count c =
    c.requires.table c.loop-s.s c.index-table-s.result
    (slice_get_read c.args.table.now (length c.args.table.now) c.loop-s.s c.index-table-s.result refl c.loop-s-test.true c.index-table-s.is)

pub tell-requires-clause-counts : goal.tell-requires-clause-counts
tell-requires-clause-counts c = c.loop-s.invariant.counts

pub loop-s-preserved : goal.loop-s-preserved
loop-s-preserved c =
    let up : suc c.loop-s.s ≡ c.loop-s.s + 1 = omega arith in
    let long : length c.spread.new.next ≡ length c.loop-s.next.items = c.spread.auto.next ∙ ap length c.as_mut_slice.ensures.value in
    let written : take c.loop-s.next.len (c.spread.new.next ++ drop (length c.spread.new.next) c.loop-s.next.items) ≡ c.spread.new.next =
    take_whole c.loop-s.next.len c.spread.new.next c.loop-s.next.items c.loop-s.next.ok.0 long in
    let spread : IsNext c.args.layers.now c.args.k (suc c.loop-s.s) c.spread.new.next = c.in_ok-spread.ensures in
    record {
      width = ap length written ∙ (long ∙ c.loop-s.invariant.width);
      next = subst (λ (xs : List Count). IsNext c.args.layers.now c.args.k (c.loop-s.s + 1) xs) (sym written)
          (subst (λ s. IsNext c.args.layers.now c.args.k s c.spread.new.next) up spread);
      classes = c.in_ok-tell.ensures.classes ∙ c.loop-s.invariant.classes;
      counts = subst (λ s. AreTold c.args.layers.now c.args.k s c.tell.new.counts) up c.in_ok-tell.ensures.counts;
    }

pub returns-clause-width : goal.returns-clause-width
returns-clause-width c = let up : c.args.k + 1 ≡ suc c.args.k = omega arith in c.loop-s.invariant.width ∙ ap (width_at c.args.layers.now) up

pub returns-clause-next : goal.returns-clause-next
returns-clause-next c =
    let all : c.loop-s.s ≡ width_at c.args.layers.now c.args.k = omega (arith, c.loop-s.auto.s-end, c.loop-s-test.false, c.requires.width) in
    next_last c.args.layers.now c.args.k c.loop-s.s c.loop-s.next.items all c.loop-s.invariant.next

pub returns-clause-classes : goal.returns-clause-classes
returns-clause-classes c = c.loop-s.invariant.classes

pub returns-clause-counts : goal.returns-clause-counts
returns-clause-counts c =
    let all : c.loop-s.s ≡ width_at c.args.layers.now c.args.k = omega (arith, c.loop-s.auto.s-end, c.loop-s-test.false, c.requires.width) in
    told_last c.args.layers.now c.args.k c.loop-s.s c.loop-s.counts all c.loop-s.invariant.counts
