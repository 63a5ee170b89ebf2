-- A session's log with more in it.
use Rattle.std.proofs.Common.{◌≡◌, ℕ, suc, ◌+◌, ◌-◌, ◌≤◌, List, [], ◌∷◌, ◌++◌, false, refl, ap, ◌∙◌, arith}
use Rattle.tree_model.specs.declared.answer.Answer.{Answer}
use Rattle.tree_model.specs.declared.answer.Answer.TheVariants.{Done}
use Rattle.tree_model.specs.declared.answer.Event.{Event}
use Rattle.tree_model.specs.StepWith.{StepWith}
use Rattle.tree_model.specs.declared.step.StepOf.TheVariants.{Close}
use Rattle.tree_model.specs.StepLaws.{opened_count, closed_count}
use Rattle.race_core.specs.Book.{is_close}
use Rattle.race_core.proofs.Booked.{opened_few, not_closed}
use Rattle.sessions.specs.Session.{left_open, IsSession}

left_open-append : (n : ℕ) (es fs : List Event) → left_open n (es ++ fs) ≡ left_open (left_open n es) fs
left_open-append n [] fs = refl
left_open-append n (event ∷ es) fs = left_open-append ((n + opened_count event.answer) - closed_count event.answer event.step) es fs

-- a step that is no Close was logged, with room for two lines more than for the Closes before it
pub made : (log more : List Event) (count room reserved left opened a : ℕ) (step : StepWith ℕ) (answer : Answer) → IsSession log count room
    → is_close step ≡ false → more ≡ log ++ record { actor = a; step = step; answer = answer } ∷ []
    → opened ≡ opened_count answer → count + 2 ≤ reserved → reserved ≤ suc left → IsSession more (count + opened) left
made log more count room reserved left opened a step answer is no_close is_more is_opened two used =
    let event : Event = record { actor = a; step = step; answer = answer } in
    let counted : left_open 1 more ≡ (left_open 1 log + opened_count answer) - closed_count answer step = ap (left_open 1) is_more ∙ left_open-append 1 log (event ∷ []) in
    record {
      counted = omega (arith, counted, is.counted, is_opened, not_closed answer step no_close);
      in_room = omega (arith, is_opened, opened_few answer, two, used);
    }

-- a Close was logged
pub closed : (log more : List Event) (count fewer room left a h : ℕ) → count ≡ left_open 1 log → fewer ≡ count - 1 → count ≤ room
    → more ≡ log ++ record { actor = a; step = Close h; answer = Done } ∷ [] → room ≡ suc left → IsSession more fewer left
closed log more count fewer room left a h is_counted is_fewer in_room is_more used =
    let event : Event = record { actor = a; step = Close h; answer = Done } in
    let counted : left_open 1 more ≡ (left_open 1 log + 0) - 1 = ap (left_open 1) is_more ∙ left_open-append 1 log (event ∷ []) in
    record {
      counted = omega (arith, counted, is_counted, is_fewer);
      in_room = omega (arith, is_fewer, in_room, used);
    }
