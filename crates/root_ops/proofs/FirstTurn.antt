-- From a call's first turn: its lines lead on from there, or it ends there.
use Rattle.std.proofs.Common.{◌≡◌, [], Bool, ap, ◌∙◌, subst}
use Rattle.path_text.specs.declared.errno.Errno.{Errno}
use Rattle.root_ops.specs.declared.op.Op.{Op}
use Rattle.root_ops.specs.declared.reply.Reply.{Reply as Told}
use Rattle.root_ops.specs.declared.reply.Reply.TheVariants.{Fault}
use Rattle.root_ops.specs.CallHistory.{CallInHistory, RepliesWith}
use Rattle.root_ops.specs.Order.{Reply, CallTurn, fault, ends, starts, LeadsTo}
use Rattle.root_ops.specs.View.{reply_view}
use Rattle.root_ops.proofs.Replies.{at_its_end, no_lines, is_fault}

pub led_from : (c : CallInHistory) (reply : Reply) (op : Op) (room : Bool) (turn : CallTurn) → RepliesWith c reply → c.op ≡ op → c.room ≡ room → starts c.below room op ≡ turn
    → LeadsTo c.below turn c.lines (ends reply)
led_from c reply op room turn leads same with_room first =
    subst (λ (t : CallTurn). LeadsTo c.below t c.lines (ends reply)) (ap (λ (b : Bool). starts c.below b c.op) with_room ∙ ap (starts c.below room) same ∙ first) leads

pub ends_at_once : (c : CallInHistory) (reply : Told) (op : Op) (room : Bool) (error : Errno) → RepliesWith c (reply_view reply) → c.op ≡ op → c.room ≡ room
    → starts c.below room op ≡ ends (fault error) → (reply ≡ Fault error) × (c.lines ≡ [])
ends_at_once c reply op room error leads same with_room first =
    let led = led_from c (reply_view reply) op room (ends (fault error)) leads same with_room first in
    (is_fault reply error (at_its_end c.below (fault error) (reply_view reply) c.lines led), no_lines c.below (fault error) (reply_view reply) c.lines led)
