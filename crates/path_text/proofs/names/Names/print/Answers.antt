use Rattle.path_text.proofs.PrintLemmas.{printed_more}
use Rattle.path_text.proofs.names.Names.print.Goals as goal

pub loop-at-preserved : goal.loop-at-preserved
loop-at-preserved c =
    printed_more c.args.self.now c.loop-at.at c.get.result.now c.loop-at.text.items _ _ c.get.ensures.same c.in_ok-push-2.ensures.items c.in_ok-extend_from_slice.ensures.items c.loop-at.invariant
