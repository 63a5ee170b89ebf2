use Rattle.std.proofs.Common.{true, ap, ◌∙◌, [], ◌∷◌}
use Rattle.bulk_ops.specs.MakeAllOrder.{gives_up}
use Rattle.bulk_ops.specs.MakeAllView.{way_of}
use Rattle.bulk_ops.proofs.MakeAllNames.{same_turn, name_made, name_there, name_refused}
use Rattle.bulk_ops.proofs.make_all.Call.name_made.Goals as goal

pub returns-in-Done-clause-turn : goal.returns-in-Done-clause-turn
returns-in-Done-clause-turn c =
    (true, same_turn c.at.result (name_made (way_of c.args.self.now) c.args.held c.args.chain.value c.requires.more c.args.answer c.in-Done.is) c.at.ensures.turn)

pub returns-in-Exists : goal.returns-in-Exists
returns-in-Exists c = record {
  turn = (
    true,
    same_turn c.at-in-Exists.result
        (name_there (way_of c.args.self.now) c.args.held c.args.chain.value c.requires.more c.args.answer c.refusal_of.result c.in_default.not-Done c.refusal_of.ensures c.in-Exists.is)
        c.at-in-Exists.ensures.turn,
  );
  kept = c.at-in-Exists.ensures.kept;
}

pub returns-in_default-refusal_of : goal.returns-in_default-refusal_of
returns-in_default-refusal_of c = record {
  turn = (
    true,
    same_turn c.closes.result
        (ap (λ error. gives_up (c.args.held.handle ∷ []) error) c.raced_if_missing.ensures
        ∙ name_refused (way_of c.args.self.now) c.args.held c.args.chain.value c.requires.more c.args.answer c.refusal_of.result c.in_default.not-Done c.refusal_of.ensures c.in_default-refusal_of.not-Exists)
        c.closes.ensures.turn,
  );
  kept = c.closes.ensures.kept;
}
