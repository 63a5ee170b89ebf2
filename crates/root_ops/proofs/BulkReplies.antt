-- What the reply to a bulk call tells.
use Rattle.std.proofs.Common.{◌≡◌, ℕ, Bool, true, false, List, reverse, Option, Some, None, Result, Ok, Err, refl, sym, ap, ◌∙◌, subst, inl, inr}
use Rattle.path_text.specs.declared.errno.Errno.{Errno}
use Rattle.path_text.specs.declared.errno.Errno.TheVariants.{NoMemory}
use Rattle.path_text.specs.declared.path.Rule.TheVariants.{Drop}
use Rattle.path_text.specs.declared.path.Split.{Split}
use Rattle.path_text.specs.Split.{split_of}
use Rattle.path_text.specs.Text.{text_fault, reading_of}
use Rattle.handles.specs.Objects.{StandingObject}
use Rattle.step_resolver.specs.Order.{Handle}
use Rattle.step_resolver.specs.TurnView.{standing_handle}
use Rattle.bulk_ops.specs.MakeAllOrder as make
use Rattle.bulk_ops.specs.RemoveAllOrder as remove
use Rattle.root_ops.specs.declared.op.Op.{Op}
use Rattle.root_ops.specs.declared.op.Op.TheVariants.{MkdirAll, RemoveAll}
use Rattle.root_ops.specs.declared.reply.Reply.{Reply as Told}
use Rattle.root_ops.specs.BulkTells.{BulkCallsTell}
use Rattle.root_ops.specs.CallHistory.{CallInHistory, IsCallInHistory, RepliesWith, IsPath}
use Rattle.root_ops.specs.EachCall.{Makes, Clears, MakeAllTells, RemoveAllTells, BulkTells}
use Rattle.root_ops.specs.Order.{opened, count, fault, ends, make_way, makes, removing_turn, clear_in, unless_fault}
use Rattle.root_ops.specs.View.{reply_view}
use Rattle.root_ops.proofs.Handles.AfterWalks.{same_reply}
use Rattle.root_ops.proofs.FirstTurn.{ends_at_once}
use Rattle.root_ops.proofs.Replies.{is_fault, is_opened, is_count}

same_made : (handle : Handle) (names : List (List ℕ)) (standing : StandingObject) → handle ≡ standing_handle standing → names ≡ reverse standing.names
    → make.made handle names ≡ make.made (standing_handle standing) (reverse standing.names)
same_made handle names standing same_handle same_names = ap (λ (h : Handle). make.made h names) same_handle ∙ ap (make.made (standing_handle standing)) same_names

module _ (bulk : BulkCallsTell) (c : CallInHistory) (reply : Told) (is : IsCallInHistory c) (leads : RepliesWith c (reply_view reply)) where
  -- ---- MkdirAll

  make_by_end : (text : List ℕ) → IsPath text → (end : make.MakeTurn) → makes end ≡ ends (reply_view reply) → Makes c (reading_of text) end → MakeAllTells c text reply
  make_by_end text fine (make.more call) e tells = cc (e)
  make_by_end text fine (make.made handle names) e tells =
      let told = is_opened reply handle names (same_reply (opened handle names) (reply_view reply) e) in
      subst (MakeAllTells c text) (sym told.1.0)
      (fine, subst (λ (end : make.MakeTurn). Makes c (reading_of text) end) (same_made handle names told.0 told.1.1.0 told.1.1.1) tells)
  make_by_end text fine (make.failed error) e tells = subst (MakeAllTells c text) (sym (is_fault reply error (same_reply (fault error) (reply_view reply) e))) (inr tells)

  make_with : (text : List ℕ) → c.op ≡ MkdirAll text → c.room ≡ true → text_fault text ≡ None → MakeAllTells c text reply
  make_with text same room fine =
      let told = bulk.made c (reply_view reply) text is leads same room fine in
      make_by_end text fine told.end told.is_reply told.tells

  make_by : (text : List ℕ) (why : Option Errno) (room : Bool) → c.op ≡ MkdirAll text → text_fault text ≡ why → c.room ≡ room → MakeAllTells c text reply
  make_by text (Some error) true same e with_room =
      let over = ends_at_once c reply (MkdirAll text) true error leads same with_room
      (ap (λ (w : Option Errno). unless_fault w (makes (make.begins (make_way c.below) (reading_of text)))) e) in
      subst (MakeAllTells c text) (sym over.0) (inl (record { why = inl e; no_step = over.1 }))
  make_by text (Some error) false same e with_room =
      let over = ends_at_once c reply (MkdirAll text) false error leads same with_room (ap (λ (w : Option Errno). unless_fault w (ends (fault NoMemory))) e) in
      subst (MakeAllTells c text) (sym over.0) (inl (record { why = inl e; no_step = over.1 }))
  make_by text None false same e with_room =
      let over = ends_at_once c reply (MkdirAll text) false NoMemory leads same with_room (ap (λ (w : Option Errno). unless_fault w (ends (fault NoMemory))) e) in
      subst (MakeAllTells c text) (sym over.0) (inl (record { why = inr (with_room, refl); no_step = over.1 }))
  make_by text None true same e with_room = make_with text same with_room e

  -- ---- RemoveAll

  clear_by_end : (text : List ℕ) → IsPath text → (end : remove.Turn) → removing_turn end ≡ ends (reply_view reply) → Clears c (reading_of text) end → RemoveAllTells c text reply
  clear_by_end text fine (remove.more call) e tells = cc (e)
  clear_by_end text fine (remove.removed n) e tells = subst (RemoveAllTells c text) (sym (is_count reply n (same_reply (count n) (reply_view reply) e))) (fine, tells)
  clear_by_end text fine (remove.failed error) e tells =
      subst (RemoveAllTells c text) (sym (is_fault reply error (same_reply (fault error) (reply_view reply) e))) (inr (inr tells))

  clear_with : (text : List ℕ) (split : Split) → c.op ≡ RemoveAll text → c.room ≡ true → text_fault text ≡ None → split_of (reading_of text) Drop ≡ Ok split
      → RemoveAllTells c text reply
  clear_with text split same room fine at =
      let told = bulk.cleared c (reply_view reply) text split is leads same room fine at in
      clear_by_end text fine told.end told.is_reply (record { split = split; at = at; tells = told.tells })

  clear_by_split : (text : List ℕ) (at : Result Split Errno) → c.op ≡ RemoveAll text → c.room ≡ true → text_fault text ≡ None → split_of (reading_of text) Drop ≡ at
      → RemoveAllTells c text reply
  clear_by_split text (Ok split) same room fine at = clear_with text split same room fine at
  clear_by_split text (Err error) same room fine at =
      let over = ends_at_once c reply (RemoveAll text) true error leads same room
      (ap (λ (why : Option Errno). unless_fault why (clear_in c.below (split_of (reading_of text) Drop))) fine ∙ ap (λ (s : Result Split Errno). clear_in c.below s) at) in
      subst (RemoveAllTells c text) (sym over.0) (inr (inl (record { why = at; no_step = over.1 })))

  clear_by : (text : List ℕ) (why : Option Errno) (room : Bool) → c.op ≡ RemoveAll text → text_fault text ≡ why → c.room ≡ room → RemoveAllTells c text reply
  clear_by text (Some error) true same e with_room =
      let over = ends_at_once c reply (RemoveAll text) true error leads same with_room
      (ap (λ (w : Option Errno). unless_fault w (clear_in c.below (split_of (reading_of text) Drop))) e) in
      subst (RemoveAllTells c text) (sym over.0) (inl (record { why = inl e; no_step = over.1 }))
  clear_by text (Some error) false same e with_room =
      let over = ends_at_once c reply (RemoveAll text) false error leads same with_room (ap (λ (w : Option Errno). unless_fault w (ends (fault NoMemory))) e) in
      subst (RemoveAllTells c text) (sym over.0) (inl (record { why = inl e; no_step = over.1 }))
  clear_by text None false same e with_room =
      let over = ends_at_once c reply (RemoveAll text) false NoMemory leads same with_room (ap (λ (w : Option Errno). unless_fault w (ends (fault NoMemory))) e) in
      subst (RemoveAllTells c text) (sym over.0) (inl (record { why = inr (with_room, refl); no_step = over.1 }))
  clear_by text None true same e with_room = clear_by_split text (split_of (reading_of text) Drop) same with_room e refl

  pub bulk_tells : (op : Op) → c.op ≡ op → BulkTells c op reply
  bulk_tells (MkdirAll text) same = make_by text (text_fault text) c.room same refl refl
  bulk_tells (RemoveAll text) same = clear_by text (text_fault text) c.room same refl refl
  bulk_tells op same = tt
