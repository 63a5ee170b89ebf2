use Rattle.std.proofs.Common.{◌≡◌, ◌∙◌, ap, arith, replicate}
use Rattle.schedule_graph.proofs.Passing.{blank, table_begun, table_none}
use Rattle.schedule_graph.proofs.counting.first_table.Goals as goal
use Rattle.schedule_graph.proofs.counting.first_table.Goals.{then-width-gt0, else-width-gt0}

pub returns-clause-table : goal.returns-clause-table
returns-clause-table c =
    let first : c.in_ok-table.table.items ≡ replicate c.width_at-width.result blank = c.in_ok-table.ensures in
    elim c.if-width-gt0.branch [
      | then-width-gt0 w ↦
          table_begun c.args.layers.now c.width_at-width.result c.if-width-gt0.table.items c.in_ok-table.table.items w.index_mut.result.now w.add.new.self w.start.result
          (ap (λ v. v.items) w.table-is) first w.add.ensures w.index_mut.ensures.value w.start.ensures w.if-width-gt0.true
      | else-width-gt0 w ↦
          let none : c.width_at-width.result ≡ 0 = omega (arith, w.if-width-gt0.false) in
          table_none c.args.layers.now c.if-width-gt0.table.items (ap (λ v. v.items) w.table-is ∙ (first ∙ ap (λ n. replicate n blank) none))
    ]
