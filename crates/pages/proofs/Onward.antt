-- Events that are written one after another.
use Rattle.std.proofs.Common.{◌≡◌, ℕ, suc, ◌+◌, List, ◌++◌, drop, sym, ap, ◌∙◌, add-one}
use Rattle.std.specs.Prelude.{Some, slice_get}
use Rattle.std.proofs.lemmas.List.{append_assoc}
use Rattle.report_text.proofs.AddedLines.{next_left}
use Rattle.tree_model.specs.declared.answer.Event.{Event}
use Rattle.tree_model.specs.History.{after_event}
use Rattle.tree_model.specs.State.{State}
use Rattle.pages.specs.History.{event_words, events_from}

-- one more event is written, which led from one tree to another
pub event_more : (s t : State) (events : List Event) (at : ℕ) (event : Event) (before after whole : List ℕ) → slice_get events at ≡ Some event → t ≡ after_event s event
    → after ≡ before ++ event_words s at event → before ++ events_from s at (drop at events) ≡ whole → after ++ events_from t (at + 1) (drop (at + 1) events) ≡ whole
event_more s t events at event before after whole found led is_after h =
    let rest = events_from (after_event s event) (suc at) (drop (suc at) events) in
    ap (λ n. after ++ events_from t n (drop n events)) (add-one at)
    ∙ ap (λ u. after ++ events_from u (suc at) (drop (suc at) events)) led
    ∙ ap (λ words. words ++ rest) is_after ∙ append_assoc before (event_words s at event) rest
    ∙ ap (λ left. before ++ events_from s at left) (sym (next_left events at event found)) ∙ h
