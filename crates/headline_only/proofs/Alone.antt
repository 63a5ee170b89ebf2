-- A walk that is driven is led on by its lines, and its end tells what the headline says.
use Rattle.std.proofs.Common.{◌≡◌, ℕ, Bool, true, false, List, [], ◌∷◌, ◌++◌, refl, sym, ap, ◌∙◌, subst, inl, inr, append-nil, append_assoc}
use Rattle.path_text.specs.declared.errno.Errno.TheVariants.{NoMemory}
use Rattle.path_text.specs.Reading.{Reading}
use Rattle.tree_model.specs.declared.answer.Answer.{Answer}
use Rattle.tree_model.specs.declared.answer.Event.{Event}
use Rattle.walk_plan.specs.declared.goal.Goal.{Goal}
use Rattle.step_resolver.specs.Order.{Way, Walking, Turn, more, found, partial, failed, begins, for_walk, due, walks, Line, answered, no_room, not_made, events_of, LeadsTo}
use Rattle.step_resolver.specs.Order.{take as takes}
use Rattle.step_resolver.specs.Footprint.{IsEnd}
use Rattle.step_resolver.specs.Headline.{EveryWalk}
use Rattle.step_resolver.specs.View.{WalkView}
use Rattle.step_resolver.specs.TurnView.{turn_view, StartsTo, TakesTo}
use Rattle.step_resolver.specs.declared.walk.Turn.{Turn as Outcome}
use Rattle.step_resolver.specs.declared.walk.Turn.TheVariants.{More, Found, Partial, Failed}
use Rattle.step_resolver.specs.TurnsTell.{first_lines}
use Rattle.step_resolver.proofs.FirstTurns.{first_lines_lead}
use Rattle.step_machine.proofs.Runs.{leads_on}
use Rattle.step_resolver.proofs.TurnsTell.{line_leads}
use Rattle.step_resolver.proofs.DrivenWalks.{joined_events, joined_without_book}
use Rattle.headline_only.specs.Alone.{TellsAlone, IsAnswer, Leads}

pub is_over : (goal : Goal) (outcome : Outcome) → ((walk : WalkView) → outcome ≡ More walk → ⊥) → IsEnd (turn_view goal outcome)
is_over goal (More walk) not_more = not_more walk refl
is_over goal (Found standing) not_more = tt
is_over goal (Partial standing rest) not_more = tt
is_over goal (Failed error) not_more = tt

-- ---- step by step

module _ (way : Way) (a : ℕ) (before after : List Event) (walking : Walking) (answer : Answer) (to : Turn) where
  made : (room : Bool) → to ≡ takes way room walking answer → after ≡ before ++ record { actor = a; step = due way walking; answer = answer } ∷ []
      → Leads way a before (more walking) after to
  made true taken booked = record {
    lines = answered (due way walking) answer ∷ [];
    leads = line_leads way true walking answer to (answered (due way walking) answer) taken (refl, refl, refl);
    booked = booked;
    without_book = tt;
  }
  made false taken booked = record {
    lines = no_room (due way walking) answer ∷ [];
    leads = line_leads way false walking answer to (no_room (due way walking) answer) taken (refl, refl, refl);
    booked = booked;
    without_book = tt;
  }

  pub advanced : IsAnswer way walking a before after answer → TakesTo way walking answer to → Leads way a before (more walking) after to
  advanced (inl is) taken = made taken.0 taken.1 is
  advanced (inr is) taken = record {
    lines = not_made NoMemory ∷ [];
    leads = line_leads way taken.0 walking answer to (not_made NoMemory) taken.1 ((inl refl, is.2), is.0);
    booked = is.1 ∙ sym (append-nil before);
    without_book = (refl, tt);
  }

pub led_nowhere : (way : Way) (a : ℕ) (events : List Event) (turn : Turn) → Leads way a events turn events turn
led_nowhere way a events turn = record { lines = []; leads = refl; booked = sym (append-nil events); without_book = tt }

pub led_on : (way : Way) (a : ℕ) (first second third : List Event) (from mid to : Turn)
    → Leads way a first from second mid → Leads way a second mid third to → Leads way a first from third to
led_on way a first second third from mid to one two = record {
  lines = one.lines ++ two.lines;
  leads = leads_on (walks way) one.lines from mid two.lines to one.leads two.leads;
  booked = two.booked ∙ ap (λ es. es ++ events_of a two.lines) one.booked ∙ append_assoc first (events_of a one.lines) (events_of a two.lines)
      ∙ ap (λ es. first ++ es) (sym (joined_events a one.lines two.lines));
  without_book = joined_without_book one.lines two.lines one.without_book two.without_book;
}

-- ---- the end

told : EveryWalk → (way : Way) (path : Reading) (a : ℕ) (before after : List Event) (end : Turn)
    → Leads way a before (begins way path) after end → TellsAlone way path a before after end
told every way path a before after end led = record {
  lines = led.lines;
  booked = led.booked;
  without_book = led.without_book;
  tells = λ w is same_way same_path same_lines.
      let on_way = subst (λ (v : Way). LeadsTo v (begins v path) led.lines end) (sym same_way) led.leads in
      let on_path = subst (λ (p : Reading). LeadsTo w.way (begins w.way p) led.lines end) (sym same_path) on_way in
      every w end is (subst (λ (lines : List Line). LeadsTo w.way (begins w.way w.path) lines end) (sym same_lines) on_path);
}

-- from the first turn on, with room for the walk or without
begun : (way : Way) (path : Reading) (a : ℕ) (events : List Event) (turn : Turn) → StartsTo way path turn → Leads way a events (begins way path) events turn
begun way path a events turn starts =
    subst (λ z. Leads way a events (begins way path) events z) (sym starts.1) (with_room starts.0 (begins way path) (first_lines_lead way starts.0 path)) where
      with_room : (room : Bool) (first : Turn) → LeadsTo way first (first_lines room first) (for_walk room first) → Leads way a events first events (for_walk room first)
      with_room true first leads = led_nowhere way a events first
      with_room false (more walking) leads = record { lines = not_made NoMemory ∷ []; leads = leads; booked = sym (append-nil events); without_book = (refl, tt) }
      with_room false (found handle names) leads = led_nowhere way a events (found handle names)
      with_room false (partial handle names rest) leads = led_nowhere way a events (partial handle names rest)
      with_room false (failed error) leads = led_nowhere way a events (failed error)

-- where the walk goes on from its beginning
pub told_from : EveryWalk → (way v : Way) (path : Reading) (a : ℕ) (before after : List Event) (walking : Walking) (outcome : Outcome) → v ≡ way
    → StartsTo way path (more walking) → Leads v a before (more walking) after (turn_view v.goal outcome) → TellsAlone way path a before after (turn_view way.goal outcome)
told_from every way v path a before after walking outcome same starts led =
    told every way path a before after (turn_view way.goal outcome)
    (led_on way a before before after (begins way path) (more walking) (turn_view way.goal outcome) (begun way path a before (more walking) starts)
    (subst (λ (u : Way). Leads u a before (more walking) after (turn_view u.goal outcome)) same led))

-- where its beginning is its end
pub told_at_once : EveryWalk → (way : Way) (path : Reading) (a : ℕ) (events : List Event) (end : Turn) → StartsTo way path end
    → TellsAlone way path a events events end
told_at_once every way path a events end starts = told every way path a events events end (begun way path a events end starts)
