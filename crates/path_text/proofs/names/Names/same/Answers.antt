use Rattle.std.proofs.Common.{◌≡◌, ◌∙◌, sym}
use Rattle.std.specs.Cmp.Lexicographic.{bytes_decides}
use Rattle.path_text.proofs.NameBuffers.{same_decided, other_decided}
use Rattle.path_text.proofs.names.Names.same.Goals as goal

pub returns-then-eq : goal.returns-then-eq
returns-then-eq c =
    let bytes : c.self.inside.bytes.items ≡ c.other.inside.bytes.items =
    sym c.as_slice.ensures.value ∙ (bytes_decides c.as_slice.result.now c.as_slice-2.result.now).0 (sym c.if-eq.ensures) ∙ c.as_slice-2.ensures.value in
    rw (← c.self.view_is, ← c.other.view_is)
    (same_decided c.self.inside.bytes.items c.self.inside.ends.items c.other.inside.bytes.items c.other.inside.ends.items c.eq-then-eq.result c.self.invariant c.other.invariant bytes
    (rw (← c.as_slice-then-eq.ensures.value, ← c.as_slice-then-eq-2.ensures.value) c.eq-then-eq.ensures))

pub returns-else-eq : goal.returns-else-eq
returns-else-eq c =
    rw (← c.self.view_is, ← c.other.view_is)
    (other_decided c.self.inside.bytes.items c.self.inside.ends.items c.other.inside.bytes.items c.other.inside.ends.items c.eq.result c.self.invariant c.other.invariant
    (rw (← c.as_slice.ensures.value, ← c.as_slice-2.ensures.value) c.eq.ensures) c.if-eq.false)
