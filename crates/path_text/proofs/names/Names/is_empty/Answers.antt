use Rattle.std.proofs.Common.{◌∙◌, ap, ◌==◌}
use Rattle.path_text.proofs.NameBuffers.{is_empty_decided}
use Rattle.path_text.proofs.names.Names.is_empty.Goals as goal

pub returns : goal.returns
returns c =
    rw (← c.self.view_is)
    (is_empty_decided 0 c.self.inside.ends.items c.self.inside.bytes.items c.is_empty.result (c.is_empty.ensures ∙ ap (λ n. n == 0) c.self.inside.ends.ok.0))
