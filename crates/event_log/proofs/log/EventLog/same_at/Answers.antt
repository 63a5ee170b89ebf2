use Rattle.std.proofs.Common.{◌≡◌, ◌∙◌, sym, ap}
use Rattle.std.specs.Prelude.{IfSome, slice_get}
use Rattle.std.specs.Cmp.Lexicographic.{bytes_decides}
use Rattle.event_log.specs.Records.{events_read, event_texts}
use Rattle.event_log.proofs.Placed.{found_in, like_from_same, same_by_texts}
use Rattle.event_log.proofs.log.EventLog.same_at.Goals as goal

pub returns-then-not-is_like : goal.returns-then-not-is_like
returns-then-not-is_like c =
    let mine = found_in c.self.inside.bytes.items c.self.inside.records.items c.args.self.now.events c.args.at c.index.result.now
    c.self.invariant (ap (λ v. v.events) c.self.view_is) c.requires.here c.index.ensures in
    let other = found_in c.other.inside.bytes.items c.other.inside.records.items c.args.other.now.events c.args.there c.index-2.result.now
    c.other.invariant (ap (λ v. v.events) c.other.view_is) c.requires.there c.index-2.ensures in
    rw (← c.self.view_is, ← c.other.view_is) (
      (λ t. absurd (cc)),
      (λ s. sym c.if-not-is_like.true
          ∙ c.is_like.ensures.1 (like_from_same c.self.inside.bytes.items c.other.inside.bytes.items c.self.inside.records.items c.other.inside.records.items c.args.at c.args.there
          c.index.result.now c.index-2.result.now mine other s)),
    )

pub returns : goal.returns
returns c =
    let mine = found_in c.self.inside.bytes.items c.self.inside.records.items c.args.self.now.events c.args.at c.index.result.now
    c.self.invariant (ap (λ v. v.events) c.self.view_is) c.requires.here c.index.ensures in
    let other = found_in c.other.inside.bytes.items c.other.inside.records.items c.args.other.now.events c.args.there c.index-2.result.now
    c.other.invariant (ap (λ v. v.events) c.other.view_is) c.requires.there c.index-2.ensures in
    let texts : IfSome (slice_get (events_read c.self.inside.bytes.items c.self.inside.records.items) c.args.at) (λ event. c.texts_at-texts.result.now ≡ event_texts event) =
    rw (← c.as_slice.ensures.value, ← c.as_slice-2.ensures.value) c.texts_at-texts.ensures in
    let more : IfSome (slice_get (events_read c.other.inside.bytes.items c.other.inside.records.items) c.args.there) (λ event. c.texts_at.result.now ≡ event_texts event) =
    rw (← c.as_slice-3.ensures.value, ← c.as_slice-4.ensures.value) c.texts_at.ensures in
    let same = same_by_texts c.self.inside.bytes.items c.other.inside.bytes.items c.texts_at-texts.result.now c.texts_at.result.now c.self.inside.records.items c.other.inside.records.items
    c.args.at c.args.there c.index.result.now c.index-2.result.now mine other texts more (c.is_like.ensures.0 c.if-not-is_like.false) in
    let decided = bytes_decides c.texts_at-texts.result.now c.texts_at.result.now in
    rw (← c.self.view_is, ← c.other.view_is) (
      (λ t. same.0 (decided.0 (sym c.eq.ensures ∙ t))),
      (λ s. c.eq.ensures ∙ decided.1 (same.1 s)),
    )
