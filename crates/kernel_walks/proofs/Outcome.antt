-- What comes of a call: it was told all that the history has, or the kernel saw an object of its walks.
use Rattle.std.specs.Prelude.{◌≡◌, ℕ, List, [], ◌∷◌, ◌++◌, reverse, false, refl}
use Rattle.std.proofs.Common.{sym, ap, subst, ◌∙◌}
use Rattle.tree_model.specs.State.{State}
use Rattle.tree_model.specs.Steps.{held}
use Rattle.step_resolver.specs.Headline.{whole_meaning}
use Rattle.step_resolver.specs.Meaning.{reads_of}
use Rattle.step_resolver.specs.Order.{Handle, Line, ending}
use Rattle.step_resolver.specs.Order as walk
use Rattle.step_resolver.specs.WalkHistory.{WalkInHistory, IsWalkInHistory, begin_of}
use Rattle.step_resolver.proofs.Underway.StepOutcomes.{IsMore}
use Rattle.bulk_ops.specs.WalkFirst.{walk_part}
use Rattle.bulk_ops.proofs.WalkParts.{parts, first_is}
use Rattle.root_ops.specs.declared.op.Op.{Op}
use Rattle.root_ops.specs.declared.op.Op.TheVariants.{Resolve, ResolveNoFollow, ReadLink, CreateFile, CreateDir, CreateLink, RemoveFile, RemoveDir, Rename, MkdirAll, RemoveAll, Single, Release}
use Rattle.root_ops.specs.CallHistory.{CallInHistory, IsCallInHistory, actor_of, end_of, HandlesStay, AfterDone, HandlesAfter}
use Rattle.root_ops.specs.CallHistory as call
use Rattle.root_ops.specs.Copies.{is_release}
use Rattle.root_ops.specs.Order.{Reply, opened, link_text, done, count, stepped, kept, fault}
use Rattle.root_ops.proofs.Handles.AfterWalks.{IsPlain, TailEnds}
use Rattle.root_ops.proofs.Handles.HandlesHeld.{HandlesAre, one_more}
use Rattle.kernel_walks.specs.SeenTo.{SeenTo, after_seen}
use Rattle.kernel_walks.specs.Tells.{Sees}
use Rattle.kernel_walks.proofs.Alone.{AllOwn, own_front, left_alone}
use Rattle.kernel_walks.proofs.SeenBelow.{asks, names_alone}
use Rattle.kernel_walks.proofs.SeenTo.{there}

pub data Outcome (c : CallInHistory) (told : List Line) (reply : Reply) : Type 0 where
  all_told : told ≡ c.lines → Outcome c told reply
  some_seen : Sees c c.op reply → HandlesAfter c reply → (AllOwn (actor_of c) c.window → told ≡ c.lines) → Outcome c told reply

-- ---- lines

-- the same first ones and the same others
pub same_lines : (told was first first_was rest rest_was : List Line) → told ≡ first ++ rest → was ≡ first_was ++ rest_was → first ≡ first_was → rest ≡ rest_was → told ≡ was
same_lines told was first first_was rest rest_was whole whole_was same same_rest =
    whole ∙ ap (λ ls. ls ++ rest) same ∙ ap (λ ls. first_was ++ ls) same_rest ∙ sym whole_was

-- where the actor acts alone, the history has the names that the walk passed as the answer to its last question
pub told_alone : (w : WalkInHistory) (is : IsWalkInHistory w) (was rest : List Line) (whole : w.lines ≡ was ++ rest) (told front : List Line) (handle : Handle) (names others : List (List ℕ))
    → walk.LeadsTo w.way (walk.begins w.way w.path) front (walk.more (ending handle names [])) → told ≡ front ++ asks w.way handle (reverse names) ∷ []
    → was ≡ front ++ asks w.way handle others ∷ [] → AllOwn w.actor w.window → told ≡ was
told_alone w is was rest whole told front handle names others led told_so was_so own =
    let v = walk_part w (parts w is was rest whole).before was in
    let alone = left_alone v (own_front w.actor (parts w is was rest whole).before (parts w is was rest whole).after (subst (AllOwn w.actor) (parts w is was rest whole).whole own))
    (reads_of (whole_meaning v)) in
    told_so ∙ ap (λ ns. front ++ asks w.way handle ns ∷ []) (sym (names_alone v (first_is w is was rest whole) front (asks w.way handle others) handle names others was_so (refl, refl) led alone)) ∙ sym was_so

-- ---- handles

pub after_done : (c : CallInHistory) (op : Op) → is_release op ≡ false → HandlesStay c → AfterDone c op
after_done c (Resolve path) e stay = stay
after_done c (ResolveNoFollow path) e stay = stay
after_done c (ReadLink path) e stay = stay
after_done c (CreateFile path) e stay = stay
after_done c (CreateDir path) e stay = stay
after_done c (CreateLink path text) e stay = stay
after_done c (RemoveFile path) e stay = stay
after_done c (RemoveDir path) e stay = stay
after_done c (Rename d n mode) e stay = stay
after_done c (MkdirAll path) e stay = stay
after_done c (RemoveAll path) e stay = stay
after_done c (Single step) e stay = stay
after_done c (Release standing) e stay = cc (e)

-- the reply comes with no handle, and the actor's open handles are those from before
pub handles_stay : (c : CallInHistory) (reply : Reply) (last : State) → is_release c.op ≡ false → last ≡ end_of c
    → TailEnds c.below (actor_of c) (call.begin_of c) last reply → HandlesAfter c reply
handles_stay c reply last unreleased same over = by reply over.plain
  where
    stay : HandlesStay c
    stay h = ap (λ (s : State). held s (actor_of c) h) (sym same) ∙ over.stay h

    by : (r : Reply) → IsPlain r → HandlesAfter c r
    by (opened handle names) plain = absurd plain
    by (link_text text) plain = stay
    by done plain = after_done c c.op unreleased stay
    by (count n) plain = stay
    by (stepped answer) plain = stay
    by (kept standing) plain = absurd plain
    by (fault error) plain = stay

module _ (w : WalkInHistory) (handle : Handle) (names : List (List ℕ)) (seen : SeenTo w handle names) (is : IsWalkInHistory w) where
  -- the walk opened its handle
  pub opened_one : IsMore (begin_of w) w.actor (begin_of (after_seen seen)) handle.number handle.node
  opened_one = record {
    is_open = there w is handle names seen handle.number ∙ seen.seen.opens.new.is_open;
    fresh = seen.seen.opens.new.fresh;
    others = λ k ne. there w is handle names seen k ∙ seen.seen.opens.new.others k ne;
  }

  -- so it is held beside those that were
  pub held_then : (old : State) (hs : List ℕ) → HandlesAre w.actor old (begin_of w) hs → HandlesAre w.actor old (begin_of (after_seen seen)) (handle.number ∷ hs)
  held_then old hs are = one_more w.actor old (begin_of w) (begin_of (after_seen seen)) handle.number handle.node hs are opened_one
