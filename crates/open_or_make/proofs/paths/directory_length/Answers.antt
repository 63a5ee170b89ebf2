use Rattle.std.proofs.Common.{inl, inr, arith, eq-eqb}
use Rattle.path_text.specs.declared.name.TheConstants.{SLASH}
use Rattle.open_or_make.proofs.PathLemmas.{directory_at}
use Rattle.open_or_make.proofs.paths.directory_length.Goals as goal

pub returns-else-path-at-ne-SLASH-clause-exact : goal.returns-else-path-at-ne-SLASH-clause-exact
returns-else-path-at-ne-SLASH-clause-exact c =
    directory_at c.args.path.now c.loop-at.at c.loop-at.invariant.0 c.loop-at.invariant.1
    (inr (eq-eqb _ SLASH c.if-path-at-ne-SLASH.false))

pub returns-after-loop-at-clause-exact : goal.returns-after-loop-at-clause-exact
returns-after-loop-at-clause-exact c =
    directory_at c.args.path.now c.loop-at.at c.loop-at.invariant.0 c.loop-at.invariant.1
    (inl (omega (arith, c.loop-at-test.false)))
