use Rattle.std.proofs.Common.{refl}
use Rattle.std.specs.Prelude.{Result}
use Rattle.path_text.specs.declared.errno.Errno.{Errno}
use Rattle.path_text.specs.declared.path.Split.{Split}
use Rattle.path_text.specs.Reading.{Reading}
use Rattle.path_text.specs.Split.{split_of}
use Rattle.root_ops.specs.Order.{in_directory}
use Rattle.root_ops.proofs.Texts.{first_read, split_by, unsplit_by}
use Rattle.root_ops.proofs.first.on_entry.Goals as goal

pub returns-in-Ok-clause-turn : goal.returns-in-Ok-clause-turn
returns-in-Ok-clause-turn c = λ below turn by.
    first_read (λ (path : Reading). in_directory below c.args.change (split_of path c.args.rule)) c.args.text.now c.as_slice.result.now c.in_ok-path.path turn c.as_slice.ensures c.in_ok-path.ensures
    (split_by (λ (s : Result Split Errno). in_directory below c.args.change s) (split_of c.in_ok-path.path c.args.rule) c.in-Ok.split turn c.in-Ok.ensures by)

pub returns-in-Err-clause-turn : goal.returns-in-Err-clause-turn
returns-in-Err-clause-turn c = λ below turn by.
    first_read (λ (path : Reading). in_directory below c.args.change (split_of path c.args.rule)) c.args.text.now c.as_slice.result.now c.in_ok-path.path turn c.as_slice.ensures c.in_ok-path.ensures
    (unsplit_by (λ (s : Result Split Errno). in_directory below c.args.change s) (split_of c.in_ok-path.path c.args.rule) c.in-Err.error turn (λ e. refl) c.in-Err.ensures by)
