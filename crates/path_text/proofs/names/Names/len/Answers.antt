use Rattle.std.proofs.Common.{◌∙◌, sym, ap, length}
use Rattle.path_text.proofs.NameBuffers.{length_cut}
use Rattle.path_text.proofs.names.Names.len.Goals as goal

pub returns-clause-count : goal.returns-clause-count
returns-clause-count c =
    c.len.ensures ∙ c.self.inside.ends.ok.0 ∙ sym (length_cut 0 c.self.inside.ends.items c.self.inside.bytes.items) ∙ ap length c.self.view_is
