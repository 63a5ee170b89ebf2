use Rattle.std.proofs.Common.{◌≡◌, ◌<◌, ◌≤◌, ◌+◌, ◌++◌, ◌∷◌, [], ◌∙◌, ap, suc, sym, subst, arith}
use Rattle.std.proofs.lemmas.Bool.{false≢true}
use Rattle.event_log.specs.Shapes.{answer_texts}
use Rattle.race_core.specs.Book.{BookedHistory, free_lines, lines_needed}
use Rattle.race_core.proofs.Booked.{book_made, book_stays, not_bare}
use Rattle.race_core.proofs.book.Book.make.Goals as goal

pub invariant_of-self-in_err-reserve_event : goal.invariant_of-self-in_err-reserve_event
invariant_of-self-in_err-reserve_event g c =
    let more : c.self.inside.open_handles + 2 ≤ c.reserve.new.self.room = c.in_ok-reserve.ensures.ok in
    let kept : c.reserve.new.self.room ≤ c.reserve_texts.new.self.room = c.reserve_texts.ensures.room in
    let some : 0 < c.reserve_texts.new.self.room = omega (arith, more, kept) in
    let has_texts : answer_texts c.in_ok-answer.answer ≡ [] → ⊥ =
    not_bare c.args.step.now c.in_ok-answer.answer _ _ _ some c.in_ok-reserve_texts.ensures.ok false≢true c.in_err-reserve_event.ensures.fits in
    book_stays c.self.inside.opening (g.T.Tree.state c.self.inside.tree) (g.T.Tree.state c.step.new.self) c.self.inside.events.events c.reserve_event.new.self.events
    c.self.inside.lines c.self.inside.open_handles c.self.inside.events.room c.reserve_event.new.self.room c.args.actor c.args.step.now c.in_ok-answer.answer
    c.self.invariant c.in_ok-answer.ensures.answer c.in_ok-answer.ensures.after has_texts
    (c.reserve_event.ensures.events ∙ c.reserve_texts.ensures.events ∙ c.reserve.ensures.events) (omega (arith, more, kept, c.reserve_event.ensures.room))

pub invariant_of-self-2 : goal.invariant_of-self-2
invariant_of-self-2 g c =
    let more : c.self.inside.open_handles + 2 ≤ c.reserve.new.self.room = c.in_ok-reserve.ensures.ok in
    let kept : c.reserve.new.self.room ≤ c.reserve_texts.new.self.room = c.reserve_texts.ensures.room in
    let room : c.reserve_texts.new.self.room ≤ c.reserve_event.new.self.room = c.reserve_event.ensures.room in
    let used : c.reserve_event.new.self.room ≡ suc c.push_reserved.new.self.room = c.push_reserved.ensures.room in
    let free : lines_needed c.args.step.now ≤ free_lines (record { opening = c.self.inside.opening; events = c.self.inside.events.events; lines = c.self.inside.lines }) =
    (let P : BookedHistory → Type 0 = λ b. lines_needed c.args.step.now ≤ free_lines b in subst P (sym c.self.view_is) c.requires.lines) in
    book_made c.self.inside.opening (g.T.Tree.state c.self.inside.tree) (g.T.Tree.state c.step.new.self) c.self.inside.events.events c.push_reserved.new.self.events
    c.self.inside.lines c.self.inside.open_handles c.opened_count.result c.self.inside.events.room c.push_reserved.new.self.room c.args.actor c.args.step.now c.in_ok-answer.answer
    c.self.invariant c.requires.no_close free c.in_ok-answer.ensures.answer c.in_ok-answer.ensures.after
    (c.push_reserved.ensures.events ∙ ap (λ es. es ++ record { actor = c.args.actor; step = c.args.step.now; answer = c.in_ok-answer.answer } ∷ []) (c.reserve_event.ensures.events ∙ c.reserve_texts.ensures.events ∙ c.reserve.ensures.events))
    c.opened_count.ensures (omega (arith, more, kept, room, used))
