use Rattle.std.proofs.Common.{true, sym, ap, ◌∙◌, [], ◌∷◌}
use Rattle.step_resolver.specs.Order.{is_dir_kind}
use Rattle.bulk_ops.specs.MakeAllOrder.{gives_up, raced_if_missing}
use Rattle.bulk_ops.specs.MakeAllView.{way_of}
use Rattle.bulk_ops.proofs.MakeAllNames.{same_turn, name_unopened, dir_opened, other_opened}
use Rattle.bulk_ops.proofs.make_all.Call.name_opened.Goals as goal

pub returns-in-None-clause-turn : goal.returns-in-None-clause-turn
returns-in-None-clause-turn c = (
  true,
  same_turn c.closes.result
      (ap (λ error. gives_up (c.args.held.handle ∷ []) error) (c.raced_if_missing.ensures ∙ ap raced_if_missing c.refusal_of.ensures)
      ∙ name_unopened (way_of c.args.self.now) c.args.held c.args.chain.value c.requires c.args.self.now.root.owner c.args.answer c.in-None.ensures)
      c.closes.ensures.turn,
)

pub returns-then-is_directory-clause-turn : goal.returns-then-is_directory-clause-turn
returns-then-is_directory-clause-turn c = (
  true,
  same_turn c.enters.result
      (dir_opened (way_of c.args.self.now) c.args.held c.args.chain.value c.requires c.args.self.now.root.owner c.args.answer c.in-Some.new c.in-Some.ensures
      (sym (c.is_directory.ensures ∙ ap is_dir_kind c.kind.ensures) ∙ c.if-is_directory.true))
      c.enters.ensures.turn,
)

pub returns-else-is_directory-clause-turn : goal.returns-else-is_directory-clause-turn
returns-else-is_directory-clause-turn c = (
  true,
  same_turn c.closes-else-is_directory.result
      (other_opened (way_of c.args.self.now) c.args.held c.args.chain.value c.requires c.args.self.now.root.owner c.args.answer c.in-Some.new c.in-Some.ensures
      (sym (c.is_directory.ensures ∙ ap is_dir_kind c.kind.ensures) ∙ c.if-is_directory.false))
      c.closes-else-is_directory.ensures.turn,
)
