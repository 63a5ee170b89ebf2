-- The end of the walk of a resolve is its reply.
use Rattle.std.proofs.Common.{◌≡◌, ℕ, Bool, true, false, List, reverse, Option, Some, None, refl, sym, ap, ◌∙◌, subst, inl, inr}
use Rattle.std.proofs.lemmas.Bool.{false≢true}
use Rattle.path_text.specs.declared.errno.Errno.{Errno}
use Rattle.path_text.specs.declared.errno.Errno.TheVariants.{NoMemory}
use Rattle.path_text.specs.Text.{text_fault, reading_of}
use Rattle.walk_plan.specs.declared.goal.Goal.{Goal}
use Rattle.walk_plan.specs.declared.goal.Goal.TheVariants.{Follow, NoFollow}
use Rattle.handles.specs.Objects.{StandingObject}
use Rattle.step_resolver.specs.Asked.{is_deepest}
use Rattle.step_resolver.specs.Footprint.{IsEnd}
use Rattle.step_resolver.specs.Order.{Handle}
use Rattle.step_resolver.specs.Order as walk
use Rattle.step_resolver.specs.TurnView.{standing_handle}
use Rattle.step_resolver.specs.View.{way_from}
use Rattle.root_ops.specs.declared.aim.Aim.TheVariants.{Opens}
use Rattle.root_ops.specs.declared.op.Op.{Op}
use Rattle.root_ops.specs.declared.op.Op.TheVariants.{Resolve, ResolveNoFollow}
use Rattle.root_ops.specs.declared.reply.Reply.{Reply as Told}
use Rattle.root_ops.specs.CallHistory.{CallInHistory, IsCallInHistory, RepliesWith, IsPath}
use Rattle.root_ops.specs.EachCall.{WalksTo, WalkIsReply, ResolveTells}
use Rattle.root_ops.specs.Order.{opened, fault, ends, starts, walked, walks, on_path, unless_fault, LeadsTo}
use Rattle.root_ops.specs.View.{reply_view}
use Rattle.root_ops.proofs.FirstTurn.{ends_at_once}
use Rattle.root_ops.proofs.FirstWalks.{on_text}
use Rattle.root_ops.proofs.Replies.{at_its_end, is_fault, is_opened}

by_parts : (handle : Handle) (names : List (List ℕ)) (standing : StandingObject) → handle ≡ standing_handle standing → names ≡ reverse standing.names
    → walk.found handle names ≡ walk.found (standing_handle standing) (reverse standing.names)
by_parts handle names standing same_handle same_names = ap (λ (h : Handle). walk.found h names) same_handle ∙ ap (walk.found (standing_handle standing)) same_names

module _ (c : CallInHistory) (reply : Told) (is : IsCallInHistory c) (leads : RepliesWith c (reply_view reply)) (goal : Goal) (text : List ℕ)
    (shallow : is_deepest goal ≡ false) (fine : IsPath text) where
  abbrev Walks : walk.Turn → Type 0
  Walks end = WalksTo c (way_from c.below.root goal c.below.flags) (reading_of text) end

  by_end : (room : Bool) (end : walk.Turn) → IsEnd end → (walks : Walks end) → LeadsTo c.below (walked c.below room (Opens goal) end) walks.rest (ends (reply_view reply))
      → WalkIsReply c goal text reply
  by_end room (walk.more w) over walks onward = absurd over
  by_end room (walk.found handle names) over walks onward =
      let told = is_opened reply handle names (at_its_end c.below (opened handle names) (reply_view reply) walks.rest onward) in
      subst (WalkIsReply c goal text) (sym told.1.0) (fine, subst Walks (by_parts handle names told.0 told.1.1.0 told.1.1.1) walks)
  -- a walk to the deepest directory alone ends so
  by_end room (walk.partial handle names rest) over walks onward = absurd (false≢true (sym shallow ∙ walks.headline.tells.goal))
  by_end room (walk.failed error) over walks onward =
      subst (WalkIsReply c goal text) (sym (is_fault reply error (at_its_end c.below (fault error) (reply_view reply) walks.rest onward))) (inr walks)

module _ (c : CallInHistory) (reply : Told) (is : IsCallInHistory c) (leads : RepliesWith c (reply_view reply)) (goal : Goal) (text : List ℕ)
    (shallow : is_deepest goal ≡ false) where
  module _ (op : Op) (same : c.op ≡ op) (walks_on : starts c.below true op ≡ on_path c.below (Opens goal) text)
      (without : starts c.below false op ≡ unless_fault (text_fault text) (ends (fault NoMemory))) where
    by_text : (why : Option Errno) (room : Bool) → text_fault text ≡ why → c.room ≡ room → WalkIsReply c goal text reply
    by_text (Some error) true e with_room =
        let over = ends_at_once c reply op true error leads same with_room
        (walks_on ∙ ap (λ (w : Option Errno). unless_fault w (walks c.below (Opens goal) (reading_of text))) e) in
        subst (WalkIsReply c goal text) (sym over.0) (inl (record { why = inl e; no_step = over.1 }))
    by_text (Some error) false e with_room =
        let over = ends_at_once c reply op false error leads same with_room (without ∙ ap (λ (w : Option Errno). unless_fault w (ends (fault NoMemory))) e) in
        subst (WalkIsReply c goal text) (sym over.0) (inl (record { why = inl e; no_step = over.1 }))
    by_text None false e with_room =
        let over = ends_at_once c reply op false NoMemory leads same with_room (without ∙ ap (λ (w : Option Errno). unless_fault w (ends (fault NoMemory))) e) in
        subst (WalkIsReply c goal text) (sym over.0) (inl (record { why = inr (with_room, refl); no_step = over.1 }))
    by_text None true e with_room =
        let led = on_text c (reply_view reply) is leads op (Opens goal) text same with_room walks_on e in
        by_end c reply is leads goal text shallow e led.room led.begun.end led.begun.over led.begun.walked led.onward

pub resolve_tells : (c : CallInHistory) (reply : Told) → IsCallInHistory c → RepliesWith c (reply_view reply) → (op : Op) → c.op ≡ op → ResolveTells c op reply
resolve_tells c reply is leads (Resolve text) same =
    by_text c reply is leads Follow text refl (Resolve text) same refl refl (text_fault text) c.room refl refl
resolve_tells c reply is leads (ResolveNoFollow text) same =
    by_text c reply is leads NoFollow text refl (ResolveNoFollow text) same refl refl (text_fault text) c.room refl refl
resolve_tells c reply is leads op same = tt
