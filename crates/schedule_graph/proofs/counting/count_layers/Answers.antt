use Rattle.std.proofs.Common.{◌≡◌, ◌+◌, ◌∙◌, suc, ap, sym, subst, List, length, replicate, arith}
use Rattle.std.proofs.lemmas.List.{length-replicate}
use Rattle.schedule_graph.specs.declared.count.Count.{Count}
use Rattle.schedule_graph.specs.Led.{width_at, IsTable, AreTold}
use Rattle.schedule_graph.proofs.Passing.{blank, told_first, told_all}
use Rattle.schedule_graph.proofs.counting.count_layers.Goals as goal

pub loop-k-init : goal.loop-k-init
loop-k-init c =
    let first : c.in_ok-blank.field-0.items ≡ replicate c.args.classes blank = c.in_ok-blank.ensures in
    record {
      width = c.in_ok-table.ensures.width;
      table = c.in_ok-table.ensures.table;
      classes = ap length first ∙ length-replicate c.args.classes blank;
      counts = told_first c.args.layers.now c.args.classes (record { classes = c.in_ok-blank.field-0; all = c.none.result }) first c.none.ensures;
    }

pub passed-requires-clause-table : goal.passed-requires-clause-table
passed-requires-clause-table c =
    subst (λ (xs : List Count). IsTable c.args.layers.now c.loop-k.k xs) (sym c.as_slice.ensures.value) c.loop-k.invariant.table

pub loop-k-preserved : goal.loop-k-preserved
loop-k-preserved c =
    let up : suc c.loop-k.k ≡ c.loop-k.k + 1 = omega arith in
    record {
      width = c.in_ok-table-2.ensures.width ∙ ap (width_at c.args.layers.now) up;
      table = subst (λ k. IsTable c.args.layers.now k c.in_ok-table-2.table.items) up c.in_ok-table-2.ensures.next;
      classes = c.in_ok-table-2.ensures.classes ∙ c.loop-k.invariant.classes;
      counts = subst (λ k. AreTold c.args.layers.now k 0 c.passed.new.counts) up c.in_ok-table-2.ensures.counts;
    }

pub returns-clause-counts : goal.returns-clause-counts
returns-clause-counts c =
    let all : c.loop-k.k ≡ length c.args.layers.now = omega (arith, c.loop-k.auto.k-end, c.loop-k-test.false) in
    told_all c.args.layers.now c.loop-k.counts (subst (λ k. AreTold c.args.layers.now k 0 c.loop-k.counts) all c.loop-k.invariant.counts)
