use Rattle.std.proofs.Common.{◌≡◌, ◌-◌, ◌+◌, ℕ, List, sym, subst, arith, drop, take, length}
use Rattle.open_or_make.proofs.PathLemmas.{laid_none, laid_way}
use Rattle.open_or_make.proofs.paths.lay_before.Goals.{then-at-path_length, else-at-path_length}
use Rattle.open_or_make.proofs.paths.lay_before.Goals as goal

pub returns-clause-exact : goal.returns-clause-exact
returns-clause-exact c =
    elim c.if-at-path_length.branch [
      | then-at-path_length w ↦
          laid_way c.args.text.now c.args.room.now c.if-at-path_length.room c.lay.new.room c.args.at
          c.args.path_length c.requires.path
          (omega (arith, w.if-at-path_length.true))
          (subst (λ (l : List ℕ). take (1 + (c.args.path_length - c.args.at)) (drop (length c.args.text.now) l) ≡ _)
          (sym w.room-is) w.make_way.ensures.exact)
          c.lay.ensures.exact c.lay.ensures.rest
      | else-at-path_length w ↦
          laid_none c.args.text.now c.args.room.now c.lay.new.room c.args.at c.args.path_length c.requires.path
          (omega (arith, w.if-at-path_length.false)) c.lay.ensures.exact
    ]
