-- From turn to turn, the lines of a call lead to its reply.
use Rattle.std.proofs.Common.{◌≡◌, Bool, true, false, not, if◌then◌else◌, List, [], ◌∷◌, refl, ap, subst, inl}
use Rattle.path_text.specs.declared.errno.Errno.TheVariants.{NoMemory}
use Rattle.path_text.specs.declared.errno.Errno.TheVariants as errors
use Rattle.tree_model.specs.declared.answer.Answer.{Answer}
use Rattle.tree_model.specs.declared.answer.Answer.TheVariants.{Refused}
use Rattle.step_resolver.specs.Order.{Line, is_close, not_made}
use Rattle.root_ops.specs.declared.below.Below.{Below}
use Rattle.root_ops.specs.declared.call.CallTurn.{CallTurn}
use Rattle.root_ops.specs.declared.call.CallTurn.TheVariants.{More, Done}
use Rattle.root_ops.specs.declared.reply.Reply.{Reply}
use Rattle.root_ops.specs.Order.{Doing, due, take, ends, LeadsTo}
use Rattle.root_ops.specs.Order as call
use Rattle.root_ops.specs.TurnView.{turn_view, Keeps}
use Rattle.root_ops.specs.View.{reply_view}
use Rattle.root_ops.proofs.Refusals.{refusal_needs_no_room, unmade}
use Rattle.calls_by_system_calls.specs.Conversations.{Exchange, Conversation, ConversationsAreCalls, line_of, lines_of, made}

-- ---- one exchange

module _ (below : Below) (doing : Doing) (lines : List Line) (end : call.CallTurn) where
  made_leads : (room : Bool) (answer : Answer) → LeadsTo below (take below room doing answer) lines end
      → LeadsTo below (call.more doing) (made room (due below doing) answer ∷ lines) end
  made_leads true answer led = (refl, led)
  made_leads false answer led = (refl, led)

  line_leads : (room : Bool) (answer : Answer) → LeadsTo below (take below room doing answer) lines end
      → LeadsTo below (call.more doing) (line_of room (due below doing) answer ∷ lines) end
  line_leads room (Refused errors.NoMemory) led = by (is_close (due below doing)) refl
    where
      by : (closes : Bool) → is_close (due below doing) ≡ closes
          → LeadsTo below (call.more doing)
          ((if not closes then not_made NoMemory else made room (due below doing) (Refused NoMemory)) ∷ lines) end
      by true e = made_leads room (Refused NoMemory) led
      by false e = (
        unmade below doing NoMemory (inl refl) e,
        subst (λ turn. LeadsTo below turn lines end) (refusal_needs_no_room below room doing NoMemory) led,
      )
  line_leads room answer led = made_leads room answer led

-- ---- to the reply

led : (below : Below) (turn : CallTurn) (xs : List Exchange) (reply : Reply) → Keeps below turn
    → (is : Conversation turn xs reply) → LeadsTo below (turn_view turn) (lines_of turn xs reply is) (ends (reply_view reply))
led below (Done told) [] reply keeps is = ap (λ (r : Reply). ends (reply_view r)) is
led below (Done told) (x ∷ xs) reply keeps is = absurd is
led below (More now) [] reply keeps is = absurd is
led below (More now) (x ∷ xs) reply keeps is =
    let lines = lines_of x.turn xs reply is.1 in
    let end = ends (reply_view reply) in
    subst (λ (b : Below). LeadsTo b (call.more now.doing) (line_of is.0.0.0 (due now.below now.doing) x.answer ∷ lines) end) keeps
    (line_leads now.below now.doing lines end is.0.0.0 x.answer
    (subst (λ turn. LeadsTo now.below turn lines end) is.0.0.1 (led now.below x.turn xs reply is.0.1 is.1)))

pub conversations : ConversationsAreCalls
conversations below op turn exchanges reply begins is =
    subst (λ first. LeadsTo below first (lines_of turn exchanges reply is) (ends (reply_view reply))) begins.0.1
    (led below turn exchanges reply begins.1 is)
