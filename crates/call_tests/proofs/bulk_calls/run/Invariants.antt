use Rattle.call_tests.proofs.bulk_calls.run.Given as goal

abbrev pub decreases-loop-turn : goal.decreases-loop-turn
decreases-loop-turn g l = g.C.Bulk.to_come l.turn
