use Rattle.std.proofs.Common.{◌≡◌, ◌-◌, length, ◌∙◌, sym, ap}
use Rattle.path_text.proofs.NameBuffers.{length_cut, names_cut_first, buffer_first}
use Rattle.path_text.proofs.names.Names.pop.Goals as goal

pub invariant_of-self : goal.invariant_of-self
invariant_of-self c =
    rw (c.truncate-2.ensures.items, c.truncate.ensures.items, c.start_of-start.ensures, c.as_slice.ensures.value)
    (buffer_first c.self.inside.bytes.items c.self.inside.ends.items (c.len-last.result - 1) c.self.invariant)

pub returns : goal.returns
returns c =
    let count : c.len-last.result ≡ length c.args.self.now =
    c.len-last.ensures ∙ c.self.inside.ends.ok.0 ∙ sym (length_cut 0 c.self.inside.ends.items c.self.inside.bytes.items) ∙ ap length c.self.view_is in
    rw (c.truncate-2.ensures.items, c.truncate.ensures.items, c.start_of-start.ensures, c.as_slice.ensures.value, ← count, ← c.self.view_is)
    (names_cut_first c.self.inside.ends.items c.self.inside.bytes.items (c.len-last.result - 1) c.self.invariant)
