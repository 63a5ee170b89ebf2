-- A call that is given up goes to its end, and makes nothing but Closes.
use Rattle.std.proofs.Common.{◌≡◌, ℕ, List, [], ◌∷◌, ◌++◌, Bool, false, Option, Some, None, refl, sym, ap, subst, ◌∙◌}
use Rattle.path_text.specs.declared.errno.Errno.{Errno}
use Rattle.tree_model.specs.declared.answer.Answer.{Answer}
use Rattle.tree_model.specs.StepWith.{StepWith}
use Rattle.tree_model.specs.declared.step.StepOf.TheVariants as steps
use Rattle.root_ops.specs.declared.below.Below.{Below}
use Rattle.root_ops.specs.declared.call.CallTurn.{CallTurn as Outcome}
use Rattle.root_ops.specs.declared.call.CallTurn.TheVariants as outcome
use Rattle.root_ops.specs.declared.reply.Reply.{Reply}
use Rattle.root_ops.specs.Order.{CallTurn, more, ends, take, due}
use Rattle.root_ops.specs.TurnView.{turn_view, Keeps, TakesTo}
use Rattle.root_ops.specs.View.{CallView}
use Rattle.race_core.specs.Book.{BookedHistory, refusal, booked}
use Rattle.race_core.specs.GivenUp.{GoesWithout, closed_all, IsGivenUp}
use Rattle.race_core.specs.Turns.{Stepped, unless_refused, stepped_by}

-- ---- nothing but Closes

-- a Close more
pub record OneClosed (a : ℕ) (book after : BookedHistory) : Type 0 where
  pub closed : List ℕ
  pub is : after ≡ closed_all a book closed

closed_unless : (book : BookedHistory) (a h : ℕ) (why : Option Errno) → OneClosed a book (unless_refused book a (steps.Close h) why).book
closed_unless book a h None = record { closed = h ∷ []; is = refl }
closed_unless book a h (Some error) = record { closed = []; is = refl }

-- without memory a step is a Close, or isn't made
pub one_step : (book : BookedHistory) (a : ℕ) (step : StepWith ℕ) → OneClosed a book (stepped_by false book a step).book
one_step book a (steps.Close h) = closed_unless book a h (refusal book a (steps.Close h))
one_step book a (steps.Open h n) = record { closed = []; is = refl }
one_step book a (steps.Dup h) = record { closed = []; is = refl }
one_step book a (steps.Parent h) = record { closed = []; is = refl }
one_step book a (steps.ReadLink h) = record { closed = []; is = refl }
one_step book a (steps.NameBelow r h) = record { closed = []; is = refl }
one_step book a (steps.List h) = record { closed = []; is = refl }
one_step book a (steps.MakeDir h n) = record { closed = []; is = refl }
one_step book a (steps.MakeFile h n) = record { closed = []; is = refl }
one_step book a (steps.MakeLink h n text) = record { closed = []; is = refl }
one_step book a (steps.RemoveFile h n) = record { closed = []; is = refl }
one_step book a (steps.RemoveDir h n) = record { closed = []; is = refl }
one_step book a (steps.Rename h n k m mode) = record { closed = []; is = refl }

pub closed_both : (a : ℕ) (book : BookedHistory) (hs ks : List ℕ) → closed_all a book (hs ++ ks) ≡ closed_all a (closed_all a book hs) ks
closed_both a book [] ks = refl
closed_both a book (h ∷ hs) ks = closed_both a (booked book a (steps.Close h)) hs ks

closes_alone : (a : ℕ) (below : Below) (book : BookedHistory) (turn : CallTurn) (rooms : List Bool) (after : BookedHistory)
    → GoesWithout a below book turn rooms after → OneClosed a book after
closes_alone a below book (ends reply) [] after goes = record { closed = []; is = goes }
closes_alone a below book (more doing) (room ∷ rooms) after goes =
    let step : Stepped = stepped_by false book a (due below doing) in
    let here = one_step book a (due below doing) in
    let rest = closes_alone a below step.book (take below room doing step.answer) rooms after goes in
    record {
      closed = here.closed ++ rest.closed;
      is = rest.is ∙ ap (λ (b : BookedHistory). closed_all a b rest.closed) here.is ∙ sym (closed_both a book here.closed rest.closed);
    }
closes_alone a below book (ends reply) (room ∷ rooms) after goes = absurd goes
closes_alone a below book (more doing) [] after goes = absurd goes

-- ---- on the way

-- what leads on from here to an end leads there from the beginning
abbrev pub LedFrom : ℕ → BookedHistory → CallView → BookedHistory → Outcome → Type 0
LedFrom a old call book turn =
    Keeps call.below turn × ((rooms : List Bool) (after : BookedHistory) → GoesWithout a call.below book (turn_view turn) rooms after
    → (all : List Bool) × GoesWithout a call.below old (more call.doing) all after)

pub led_at_first : (a : ℕ) (old : BookedHistory) (call : CallView) → LedFrom a old call old (outcome.More call)
led_at_first a old call = (refl, λ rooms after goes. (rooms, goes))

pub led_further : (a : ℕ) (old : BookedHistory) (call : CallView) (book new : BookedHistory) (turn next : Outcome) (now : CallView) (answer : Answer)
    → turn ≡ outcome.More now → LedFrom a old call book turn
    → answer ≡ (stepped_by false book a (due now.below now.doing)).answer → new ≡ (stepped_by false book a (due now.below now.doing)).book
    → TakesTo now.below now.doing answer (turn_view next) → Keeps now.below next → LedFrom a old call new next
led_further a old call book new turn next now answer is led told left taken keeps =
    let at : LedFrom a old call book (outcome.More now) = subst (LedFrom a old call book) is led in
    let same : now.below ≡ call.below = at.0 in
    let step : Stepped = stepped_by false book a (due call.below now.doing) in
    let told_so : answer ≡ step.answer = subst (λ (b : Below). answer ≡ (stepped_by false book a (due b now.doing)).answer) same told in
    let left_so : new ≡ step.book = subst (λ (b : Below). new ≡ (stepped_by false book a (due b now.doing)).book) same left in
    let turn_is : turn_view next ≡ take call.below taken.0 now.doing step.answer =
    subst (λ (b : Below). turn_view next ≡ take b taken.0 now.doing answer) same taken.1 ∙ ap (λ (told : Answer). take call.below taken.0 now.doing told) told_so in (
      subst (λ (b : Below). Keeps b next) same keeps,
      λ rooms after goes.
          at.1 (taken.0 ∷ rooms) after
          (subst (λ (t : CallTurn). GoesWithout a call.below step.book t rooms after) turn_is
          (subst (λ (b : BookedHistory). GoesWithout a call.below b (turn_view next) rooms after) left_so goes)),
    )

pub given_up : (a : ℕ) (old : BookedHistory) (call : CallView) (book : BookedHistory) (turn : Outcome) (reply : Reply) → turn ≡ outcome.Done reply
    → LedFrom a old call book turn → IsGivenUp a old call book
given_up a old call book turn reply is led =
    let at : LedFrom a old call book (outcome.Done reply) = subst (LedFrom a old call book) is led in
    let all = at.1 [] book refl in
    let closes = closes_alone a call.below old (more call.doing) all.0 book all.1 in
    record { rooms = all.0; goes = all.1; closed = closes.closed; is = closes.is }
