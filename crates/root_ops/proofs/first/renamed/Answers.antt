use Rattle.std.proofs.Common.{refl, subst, Bool}
use Rattle.std.specs.Prelude.{Result}
use Rattle.path_text.specs.declared.errno.Errno.{Errno}
use Rattle.path_text.specs.declared.errno.Errno.TheVariants.{NoMemory}
use Rattle.path_text.specs.declared.path.Rule.TheVariants.{Drop}
use Rattle.path_text.specs.declared.path.Split.{Split}
use Rattle.path_text.specs.Reading.{Reading}
use Rattle.path_text.specs.Split.{split_of}
use Rattle.root_ops.specs.declared.aim.Aim.TheVariants.{WalksOn}
use Rattle.root_ops.specs.Order.{between, walks, ends, fault}
use Rattle.root_ops.specs.TurnView.{Either}
use Rattle.root_ops.proofs.Texts.{next_read, split_by, unsplit_by}
use Rattle.root_ops.proofs.first.renamed.Goals as goal

pub returns-in-Ok-clause-turn : goal.returns-in-Ok-clause-turn
returns-in-Ok-clause-turn c = λ below turn by.
    let old = c.args.old in
    let new = c.in-Ok.new in
    next_read (λ (path : Reading). between below c.args.mode old (split_of path Drop)) c.args.new.now c.as_slice.result.now c.in_ok-path.path turn c.as_slice.ensures c.in_ok-path.ensures
    (split_by (λ (s : Result Split Errno). between below c.args.mode old s) (split_of c.in_ok-path.path Drop) new turn c.in-Ok.ensures
    (subst (λ (slash : Bool). Either (walks below (WalksOn new.dir (record { old = old.name; new = new.name; mode = c.args.mode; slash = slash })) old.dir) (ends (fault NoMemory)) turn) c.one_has_slash-slash.ensures by))

pub returns-in-Err-clause-turn : goal.returns-in-Err-clause-turn
returns-in-Err-clause-turn c = λ below turn by.
    next_read (λ (path : Reading). between below c.args.mode c.args.old (split_of path Drop)) c.args.new.now c.as_slice.result.now c.in_ok-path.path turn c.as_slice.ensures c.in_ok-path.ensures
    (unsplit_by (λ (s : Result Split Errno). between below c.args.mode c.args.old s) (split_of c.in_ok-path.path Drop) c.in-Err.error turn (λ e. refl) c.in-Err.ensures by)
