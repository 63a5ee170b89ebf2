use Rattle.std.proofs.Common.{◌≡◌, ◌-◌, suc, arith, sym, ap, ◌∙◌}
use Rattle.path_text.specs.Names.{start_at}
use Rattle.path_text.proofs.NameBuffers.{start_at_before}
use Rattle.path_text.proofs.names.start_of.Goals as goal

pub returns : goal.returns
returns c =
    let whole : suc (c.args.at - 1) ≡ c.args.at = omega (arith, c.if-at-eq0.false) in
    sym (start_at_before 0 c.args.ends.now (c.args.at - 1) 0 (omega (arith, c.if-at-eq0.false, c.requires)))
    ∙ ap (start_at 0 c.args.ends.now) whole
