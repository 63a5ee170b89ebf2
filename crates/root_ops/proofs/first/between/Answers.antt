use Rattle.std.proofs.Common.{refl}
use Rattle.std.specs.Prelude.{Result}
use Rattle.path_text.specs.declared.errno.Errno.{Errno}
use Rattle.path_text.specs.declared.path.Rule.TheVariants.{Drop}
use Rattle.path_text.specs.declared.path.Split.{Split}
use Rattle.path_text.specs.Reading.{Reading}
use Rattle.path_text.specs.Split.{split_of}
use Rattle.root_ops.specs.Order.{from_entry}
use Rattle.root_ops.proofs.Texts.{first_read, split_by, unsplit_by}
use Rattle.root_ops.proofs.first.between.Goals as goal

pub returns-in-Ok-clause-turn : goal.returns-in-Ok-clause-turn
returns-in-Ok-clause-turn c = λ below turn by.
    first_read (λ (path : Reading). from_entry below c.args.mode c.args.new.now (split_of path Drop)) c.args.old.now c.as_slice.result.now c.in_ok-path.path turn c.as_slice.ensures c.in_ok-path.ensures
    (split_by (λ (s : Result Split Errno). from_entry below c.args.mode c.args.new.now s) (split_of c.in_ok-path.path Drop) c.in-Ok.old turn c.in-Ok.ensures (c.renamed.ensures.turn below turn by))

pub returns-in-Err-clause-turn : goal.returns-in-Err-clause-turn
returns-in-Err-clause-turn c = λ below turn by.
    first_read (λ (path : Reading). from_entry below c.args.mode c.args.new.now (split_of path Drop)) c.args.old.now c.as_slice.result.now c.in_ok-path.path turn c.as_slice.ensures c.in_ok-path.ensures
    (unsplit_by (λ (s : Result Split Errno). from_entry below c.args.mode c.args.new.now s) (split_of c.in_ok-path.path Drop) c.in-Err.error turn (λ e. refl) c.in-Err.ensures by)
