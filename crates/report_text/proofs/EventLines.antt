-- The line of an event.
use Rattle.std.proofs.Common.{◌≡◌, ℕ, List, ◌++◌, ap, ◌∙◌}
use Rattle.std.specs.Prelude.{Option, Some, None, IfSome, Result, Ok, Err, codes, decimal}
use Rattle.std.proofs.lemmas.List.{append_assoc}
use Rattle.tree_model.specs.declared.answer.Event.{Event}
use Rattle.event_log.specs.Output.{Gains}
use Rattle.event_log.specs.Words.{event_words}
use Rattle.report_text.specs.Report.{event_line}

-- its pieces, one after another, are the line
pub event_line_written : {T E : Type 0} (found : Option Event) (at told actor : ℕ) (old counted acted parted worded new : List ℕ) (result : Result T E) → IfSome found (λ event. actor ≡ event.actor) → told ≡ actor
    → counted ≡ old ++ (codes "event " ++ decimal at) → acted ≡ counted ++ (codes " actor " ++ decimal told) → parted ≡ acted ++ codes " "
    → IfSome found (λ event. worded ≡ parted ++ event_words event) → Gains worded new (codes "\n") result
    → IfSome found (λ event. Gains old new (event_line at event) result)
event_line_written None at told actor old counted acted parted worded new result is_actor is_told is_counted is_acted is_parted is_worded gains = tt
event_line_written (Some event) at told actor old counted acted parted worded new (Err e) is_actor is_told is_counted is_acted is_parted is_worded gains = tt
event_line_written (Some event) at told actor old counted acted parted worded new (Ok x) is_actor is_told is_counted is_acted is_parted is_worded gains =
    let words = event_words event in
    let last = words ++ codes "\n" in
    let who = codes " actor " ++ decimal told in
    gains ∙ ap (λ bs. bs ++ codes "\n") is_worded ∙ append_assoc parted words (codes "\n")
    ∙ ap (λ bs. bs ++ last) is_parted ∙ append_assoc acted (codes " ") last
    ∙ ap (λ bs. bs ++ (codes " " ++ last)) is_acted ∙ append_assoc counted who (codes " " ++ last)
    ∙ ap (λ bs. bs ++ (codes " actor " ++ (decimal told ++ (codes " " ++ last)))) is_counted
    ∙ append_assoc old (codes "event " ++ decimal at) (codes " actor " ++ (decimal told ++ (codes " " ++ last)))
    ∙ ap (λ a. old ++ (codes "event " ++ (decimal at ++ (codes " actor " ++ (decimal a ++ (codes " " ++ last)))))) (is_told ∙ is_actor)
