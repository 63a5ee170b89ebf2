use Rattle.std.proofs.Common.{◌-◌, ℕ, List, ap, arith, drop, set, take, ◌+◌, ◌∙◌}
use Rattle.path_text.specs.declared.name.TheConstants.{SLASH}
use Rattle.open_or_make.proofs.PathLemmas.{way_made}
use Rattle.open_or_make.proofs.paths.make_way.Goals as goal

pub returns-clause-exact : goal.returns-clause-exact
returns-clause-exact c =
    let n = c.args.path_length - c.args.at in
    ap (λ (l : List ℕ). take (1 + n) (drop c.args.size (set l c.args.size SLASH))) c.copy_within.ensures.after
    ∙ way_made c.args.room.now c.args.at c.args.path_length c.args.size n
    (omega (arith, c.requires.at)) c.requires.path c.requires.room
