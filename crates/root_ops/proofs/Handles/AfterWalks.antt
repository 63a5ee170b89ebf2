-- What a call does once its walks are over: it closes what it holds.
use Rattle.std.specs.Prelude.{◌≡◌, ℕ, List, [], ◌∷◌, ◌++◌, Bool, true, false}
use Rattle.std.proofs.Common.{sym, ap, subst, ◌∙◌}
use Rattle.path_text.specs.declared.errno.Errno.{Errno}
use Rattle.tree_model.specs.declared.answer.Answer.{Answer}
use Rattle.tree_model.specs.declared.answer.Answer.TheVariants.{Opened, Text, Names, NotBelow, Listed, Done, Refused}
use Rattle.tree_model.specs.declared.answer.Event.{Event}
use Rattle.tree_model.specs.StepWith.{StepWith}
use Rattle.tree_model.specs.State.{State}
use Rattle.tree_model.specs.Steps.{Outcome, outcome, held}
use Rattle.tree_model.specs.History.{IsLegal, after_events}
use Rattle.tree_model.proofs.StepLaws.{others_handles_stay}
use Rattle.step_resolver.specs.Order.{Line, answered, no_room, not_made, events_of, is_dir_kind}
use Rattle.step_resolver.specs.WalkHistory.{own_events}
use Rattle.step_resolver.proofs.Underway.StepOutcomes.{Close-is_less}
use Rattle.step_resolver.proofs.Underway.LegalHistory.{nothing_more}
use Rattle.root_ops.specs.declared.aim.Renaming.{Renaming}
use Rattle.root_ops.specs.declared.aim.Wanted.{Wanted}
use Rattle.root_ops.specs.declared.aim.Wanted.TheVariants as wants
use Rattle.root_ops.specs.declared.below.Below.{Below}
use Rattle.root_ops.specs.Order.{Reply, opened, link_text, done, count, stepped, kept, fault, After, gives, acts, Doing, walking, acting, checking, closing, making, removing, releasing, CallTurn, more, ends, closes, checked, reply_to, take, due, IsUnmade, LeadsTo}
use Rattle.root_ops.proofs.Handles.HandlesHeld.{HandlesAre, LeavesHandles, rename_leaves, open_effect, OpenEffect, is_refused, is_more, one_more, one_less}
use Rattle.root_ops.proofs.Handles.HandlesHeld as handles
use Rattle.root_ops.proofs.Handles.OwnEvents.{NextOwn, next_own}

reply_of : Reply → CallTurn → Reply
reply_of r (more doing) = r
reply_of r (ends t) = t

pub same_reply : (r t : Reply) → ends r ≡ ends t → r ≡ t
unfolding reply_of
same_reply r t e = ap (reply_of r) e

-- a reply that comes with no handle
abbrev pub IsPlain : Reply → Type 0
IsPlain (opened handle names) = ⊥
IsPlain (link_text text) = Unit {0}
IsPlain done = Unit {0}
IsPlain (count n) = Unit {0}
IsPlain (stepped answer) = Unit {0}
IsPlain (kept standing) = ⊥
IsPlain (fault error) = Unit {0}

pub plain_reply : (wanted : Wanted) (answer : Answer) → IsPlain (reply_to wanted answer)
plain_reply wants.Done (Opened h x kind) = tt
plain_reply wants.Done (Text text) = tt
plain_reply wants.Done (Names names) = tt
plain_reply wants.Done NotBelow = tt
plain_reply wants.Done (Listed names) = tt
plain_reply wants.Done Done = tt
plain_reply wants.Done (Refused error) = tt
plain_reply wants.Text (Opened h x kind) = tt
plain_reply wants.Text (Text text) = tt
plain_reply wants.Text (Names names) = tt
plain_reply wants.Text NotBelow = tt
plain_reply wants.Text (Listed names) = tt
plain_reply wants.Text Done = tt
plain_reply wants.Text (Refused error) = tt
plain_reply wants.Any (Opened h x kind) = tt
plain_reply wants.Any (Text text) = tt
plain_reply wants.Any (Names names) = tt
plain_reply wants.Any NotBelow = tt
plain_reply wants.Any (Listed names) = tt
plain_reply wants.Any Done = tt
plain_reply wants.Any (Refused error) = tt

-- all that is to be closed
abbrev pub all_of : List ℕ → After → List ℕ
all_of hs (gives reply) = hs
all_of hs (acts wanted step held) = hs ++ held

abbrev pub IsFine : After → Type 0
IsFine (gives reply) = IsPlain reply
IsFine (acts wanted step held) = LeavesHandles step

module _ (below : Below) (a : ℕ) (old : State) where
  abbrev pub IsTail : State → Doing → Type 0
  IsTail now (walking walk aim) = ⊥
  IsTail now (acting wanted step hs) = LeavesHandles step × HandlesAre a old now hs
  IsTail now (checking d e renaming) = HandlesAre a old now (e ∷ d ∷ [])
  IsTail now (closing h hs after) = IsFine after × HandlesAre a old now (h ∷ all_of hs after)
  IsTail now (making call) = ⊥
  IsTail now (removing call) = ⊥
  IsTail now (releasing h) = ⊥

  abbrev pub IsTailTurn : State → CallTurn → Type 0
  IsTailTurn now (more doing) = IsTail now doing
  IsTailTurn now (ends reply) = IsPlain reply × HandlesAre a old now []

  pub closes_tail : (now : State) (hs : List ℕ) (after : After) → IsFine after → HandlesAre a old now (all_of hs after) → IsTailTurn now (closes hs after)
  closes_tail now [] (gives reply) fine are = (fine, are)
  closes_tail now [] (acts wanted step hs) fine are = (fine, are)
  closes_tail now (h ∷ hs) (gives reply) fine are = (fine, are)
  closes_tail now (h ∷ hs) (acts wanted step others) fine are = (fine, are)

  tail_kept : (now new : State) (doing : Doing) → ((h : ℕ) → held new a h ≡ held now a h) → IsTail now doing → IsTail new doing
  tail_kept now new (acting wanted step hs) same is = (is.0, handles.kept a old now new hs same is.1)
  tail_kept now new (checking d e renaming) same is = handles.kept a old now new (e ∷ d ∷ []) same is
  tail_kept now new (closing h hs after) same is = (is.0, handles.kept a old now new (h ∷ all_of hs after) same is.1)
  tail_kept now new (walking walk aim) same is = absurd is
  tail_kept now new (making call) same is = absurd is
  tail_kept now new (removing call) same is = absurd is
  tail_kept now new (releasing h) same is = absurd is

  checked_tail : (now : State) (d e : ℕ) (renaming : Renaming) (child : ℕ) (is_dir : Bool) → HandlesAre a old now (child ∷ e ∷ d ∷ []) → IsTailTurn now (checked d e renaming child is_dir)
  checked_tail now d e renaming child true are = (rename_leaves renaming d e, are)
  checked_tail now d e renaming child false are = (tt, are)

  check_tail : (room : Bool) (now : State) (d e : ℕ) (renaming : Renaming) (answer : Answer) (o : Outcome) → HandlesAre a old now (e ∷ d ∷ []) → OpenEffect now a o → answer ≡ o.answer
      → IsTailTurn o.after (take below room (checking d e renaming) answer)
  check_tail room now d e renaming answer o are (is_refused error same) told =
      subst (λ (t : Answer). IsTailTurn o.after (take below room (checking d e renaming) t)) (sym (told ∙ ap (λ (p : Outcome). p.answer) same))
      (tt, subst (λ (s : State). HandlesAre a old s (e ∷ d ∷ [])) (sym (ap (λ (p : Outcome). p.after) same)) are)
  check_tail room now d e renaming answer o are (is_more h x kind same more') told =
      subst (λ (t : Answer). IsTailTurn o.after (take below room (checking d e renaming) t)) (sym (told ∙ same))
      (checked_tail o.after d e renaming h (is_dir_kind kind) (one_more a old now o.after h x (e ∷ d ∷ []) are more'))

  step_tail : (room : Bool) (now : State) (doing : Doing) (answer : Answer) → IsTail now doing → answer ≡ (outcome now a (due below doing)).answer
      → IsTailTurn (outcome now a (due below doing)).after (take below room doing answer)
  step_tail room now (acting wanted step hs) answer is told =
      closes_tail (outcome now a step).after hs (gives (reply_to wanted answer)) (plain_reply wanted answer)
      (handles.kept a old now (outcome now a step).after hs (λ h. is.0 now a h) is.1)
  step_tail room now (checking d e renaming) answer is told = check_tail room now d e renaming answer (outcome now a (due below (checking d e renaming))) is (open_effect now a d renaming.old) told
  step_tail room now (closing h hs after) answer is told =
      closes_tail (outcome now a (due below (closing h hs after))).after hs after is.0 (one_less a old now (outcome now a (due below (closing h hs after))).after h (all_of hs after) is.1 (Close-is_less now a h))
  step_tail room now (walking walk aim) answer is told = absurd is
  step_tail room now (making call) answer is told = absurd is
  step_tail room now (removing call) answer is told = absurd is
  step_tail room now (releasing h) answer is told = absurd is

  unmade_tail : (now : State) (doing : Doing) (error : Errno) → IsTail now doing → IsUnmade below doing error → IsTailTurn now (take below true doing (Refused error))
  unmade_tail now (acting wanted step hs) error is why = closes_tail now hs (gives (reply_to wanted (Refused error))) (plain_reply wanted (Refused error)) is.1
  unmade_tail now (checking d e renaming) error is why = (tt, is)
  unmade_tail now (closing h hs after) error is why = cc (why.1)
  unmade_tail now (walking walk aim) error is why = absurd is
  unmade_tail now (making call) error is why = absurd is
  unmade_tail now (removing call) error is why = absurd is
  unmade_tail now (releasing h) error is why = absurd is

  -- the reply comes with no handle, and the actor's open handles are those from before
  pub record TailEnds (last : State) (reply : Reply) : Type 0 where
    pub plain : IsPlain reply
    pub stay : (h : ℕ) → held last a h ≡ held old a h

  tail_over : (now last : State) (told reply : Reply) → IsPlain told × HandlesAre a old now [] → ends told ≡ ends reply → ((h : ℕ) → held last a h ≡ held now a h) → TailEnds last reply
  tail_over now last told reply is same kept' = record { plain = subst IsPlain (same_reply told reply same) is.0; stay = λ h. kept' h ∙ is.1.others h tt }

  after_step : (room : Bool) (now : State) (doing : Doing) (step : StepWith ℕ) (answer : Answer) (window others : List Event) → (next : NextOwn a now window step answer others)
      → IsTail now doing → step ≡ due below doing → IsTailTurn (outcome next.at a step).after (take below room doing answer)
  after_step room now doing step answer window others next is e =
      subst (λ (made : StepWith ℕ). answer ≡ (outcome next.at a made).answer → IsTailTurn (outcome next.at a made).after (take below room doing answer)) (sym e)
      (λ told. step_tail room next.at doing answer (tail_kept now next.at doing next.kept is) told) next.told

  pub tail_ends : (lines : List Line) (window : List Event) (now : State) (turn : CallTurn) (reply : Reply) → IsTailTurn now turn → LeadsTo below turn lines (ends reply)
      → IsLegal now window → own_events a window ≡ events_of a lines → TailEnds (after_events now window) reply
  tail_ends [] window now (more doing) reply is leads legal own = cc (leads)
  tail_ends [] window now (ends told) reply is leads legal own = tail_over now (after_events now window) told reply is leads (nothing_more others_handles_stay a window now own)
  tail_ends (line ∷ lines) window now (ends told) reply is leads legal own = absurd leads
  tail_ends (answered step answer ∷ lines) window now (more doing) reply is leads legal own =
      let next = next_own a window now step answer (events_of a lines) legal own in
      subst (λ (last : State). TailEnds last reply) (sym next.ends)
      (tail_ends lines next.rest (outcome next.at a step).after (take below true doing answer) reply
      (after_step true now doing step answer window (events_of a lines) next is leads.0) leads.1 next.legal next.own)
  tail_ends (no_room step answer ∷ lines) window now (more doing) reply is leads legal own =
      let next = next_own a window now step answer (events_of a lines) legal own in
      subst (λ (last : State). TailEnds last reply) (sym next.ends)
      (tail_ends lines next.rest (outcome next.at a step).after (take below false doing answer) reply
      (after_step false now doing step answer window (events_of a lines) next is leads.0) leads.1 next.legal next.own)
  tail_ends (not_made error ∷ lines) window now (more doing) reply is leads legal own =
      tail_ends lines window now (take below true doing (Refused error)) reply (unmade_tail now doing error is leads.0) leads.1 legal own
