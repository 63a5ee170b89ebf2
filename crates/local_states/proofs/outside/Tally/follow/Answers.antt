use Rattle.std.proofs.Common.{◌≡◌, ◌∙◌, ap, sym, refl, arith}
use Rattle.std.specs.Prelude.{length}
use Rattle.race_core.specs.Book.{BookedHistory}
use Rattle.local_states.proofs.Counting.{follow_same, follow_one, follow_tally}
use Rattle.local_states.proofs.outside.Tally.follow.Goals as goal

pub returns-then-len-events : goal.returns-then-len-events
returns-then-len-events g c =
    let h = c.requires in
    let long : c.len.result ≡ length c.args.world.now.book.events =
    c.len.ensures ∙ (ap length c.events.ensures.events ∙ ap (λ (b : BookedHistory). length b.events) c.book.ensures) in
    record {
      tally = follow_same h.0 c.args.world.now h.1.1.0 h.1.1.1.0 c.args.self.now h.1.0 h.1.1.1.1.0 (sym long ∙ (c.if-len-events.true ∙ h.1.1.1.1.1));
      told = refl;
    }

pub count-requires-clause-few : goal.count-requires-clause-few
count-requires-clause-few g c =
    let h = c.requires in
    let long : c.len.result ≡ length c.args.world.now.book.events =
    c.len.ensures ∙ (ap length c.events.ensures.events ∙ ap (λ (b : BookedHistory). length b.events) c.book.ensures) in
    let one = follow_one h.0 c.args.world.now h.1.1.0 h.1.1.1.0 h.1.1.1.1.0 (λ e. c.if-len-events.false (long ∙ (e ∙ sym h.1.1.1.1.1))) in
    omega (arith, one.1, long, h.1.1.1.1.1, c.len.type_inv)

pub count-requires-clause-counted : goal.count-requires-clause-counted
count-requires-clause-counted g c =
    let h = c.requires in
    let long : c.len.result ≡ length c.args.world.now.book.events =
    c.len.ensures ∙ (ap length c.events.ensures.events ∙ ap (λ (b : BookedHistory). length b.events) c.book.ensures) in
    let one = follow_one h.0 c.args.world.now h.1.1.0 h.1.1.1.0 h.1.1.1.1.0 (λ e. c.if-len-events.false (long ∙ (e ∙ sym h.1.1.1.1.1))) in
    (h.0.book, (one.0, (h.1.0.counted, h.1.1.1.1.1)))

pub returns : goal.returns
returns g c =
    let h = c.requires in
    record {
      tally = follow_tally h.0 c.args.world.now h.1.1.0 h.1.1.1.0 c.args.self.now c.count.new.self h.1.0 h.1.1.1.1.0 c.count.ensures.told c.count.ensures.roots
          c.in_ok-count.ensures.counted;
      told = c.count.ensures.told;
    }
