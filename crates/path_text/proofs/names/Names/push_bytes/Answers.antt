use Rattle.std.proofs.Common.{◌≡◌, ◌++◌, length, ◌∙◌, ap}
use Rattle.path_text.proofs.NameBuffers.{names_cut_push, buffer_push}
use Rattle.path_text.proofs.names.Names.push_bytes.Goals as goal

pub invariant_of-self-2 : goal.invariant_of-self-2
invariant_of-self-2 c =
    let bytes : c.extend_from_slice.new.self.items ≡ c.self.inside.bytes.items ++ c.args.name.now = c.in_ok-extend_from_slice.ensures.items in
    let end : c.len.result ≡ length (c.self.inside.bytes.items ++ c.args.name.now) =
    c.len.ensures ∙ c.extend_from_slice.new.self.ok.0 ∙ ap length bytes in
    rw (c.push_reserved.ensures.items, end, c.reserve.ensures.items, bytes)
    (buffer_push c.self.inside.bytes.items c.self.inside.ends.items c.args.name.now c.self.invariant c.requires)

pub returns-clause-ok : goal.returns-clause-ok
returns-clause-ok c =
    let bytes : c.extend_from_slice.new.self.items ≡ c.self.inside.bytes.items ++ c.args.name.now = c.in_ok-extend_from_slice.ensures.items in
    let end : c.len.result ≡ length (c.self.inside.bytes.items ++ c.args.name.now) =
    c.len.ensures ∙ c.extend_from_slice.new.self.ok.0 ∙ ap length bytes in
    rw (c.push_reserved.ensures.items, end, c.reserve.ensures.items, bytes, ← c.self.view_is)
    (names_cut_push 0 c.self.inside.ends.items c.self.inside.bytes.items c.args.name.now c.self.invariant.rising)
