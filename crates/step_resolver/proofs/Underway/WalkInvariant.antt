-- What is known of a walk under way: which of the caller's parts are taken, that what leads over the rest leads over
-- all from the root, what is held, and which handles are open.
use Rattle.std.specs.Prelude.{◌≡◌, ◌≢◌, ℕ, zero, suc, ◌<◌, ◌≤◌, ◌==◌, ◌⊎◌, List, [], ◌∷◌, ◌++◌, Bool, true, false, length, slice_get, Option, Some, None, refl}
use Rattle.std.proofs.Common.{sym, ap, subst, ◌∙◌, le_refl, append_assoc, inl, inr, eqb-true, not-suc-le-zero, le_of_suc-le-suc}
use Rattle.std.proofs.lemmas.Bool.{eqb-false}
use Rattle.std.proofs.lemmas.Option.{none-some, same_Some}
use Rattle.tree_model.specs.declared.answer.Answer.{Answer}
use Rattle.tree_model.specs.declared.inode.Inode.{Inode}
use Rattle.tree_model.specs.declared.inode.Object.{Object}
use Rattle.tree_model.specs.declared.inode.Object.TheVariants.{Link}
use Rattle.tree_model.specs.declared.inode.OpenHandle.{OpenHandle}
use Rattle.tree_model.specs.StepWith.{StepWith}
use Rattle.tree_model.specs.State.{State, object_at, parent, is_dir, is_directory, Stands, names_below}
use Rattle.tree_model.specs.Steps.{outcome, held, node_held, kind_of}
use Rattle.tree_model.specs.Trees.{IsState}
use Rattle.tree_model.specs.Entries.{refuse_if}
use Rattle.step_resolver.specs.Asked.{AskedPart, Up, Named, is_deepest}
use Rattle.step_resolver.specs.Meaning.{is_too_long}
use Rattle.step_resolver.specs.Trail.{Timeline, Spot, Trail, all, before, IsOwnFrom, IsChildAt}
use Rattle.step_resolver.specs.Order.{Handle, Position, root_itself, holds, Todo, todo, After, gives, onward, judges, Walking, opening, reading, rising, judging, duping, ending, closing, Turn, more, found, partial, failed, names_of, handles_of, Line, answered, no_room, not_made}
use Rattle.step_resolver.specs.Renamed.{walk_after_handles}
use Rattle.step_resolver.specs.WalkHistory.{WalkInHistory, end_of, state_at, timeline, parts_of_walk, start}
use Rattle.step_resolver.specs.Failures.{IsMissingAt, IsWithinLink, TellsError}
use Rattle.step_resolver.specs.Headline.{StoodAt}
use Rattle.step_resolver.proofs.Trail.Joined.{from_earlier, appended, stop_of_more}
use Rattle.step_resolver.proofs.Underway.StepOutcomes.{IsMore, IsLess}

-- ---- the history

-- the actor's handle at a moment
abbrev pub held_at : WalkInHistory → ℕ → ℕ → Option ℕ
held_at w m h = held (state_at w m) w.actor h

-- what holds of the history at all moments
pub record Lived (w : WalkInHistory) : Type 0 where
  pub states : (m : ℕ) → IsState (state_at w m)
  pub objects : (m x : ℕ) (object : Object) → object_at (state_at w m).nodes x ≡ Some object → (timeline w).object_of x ≡ Some object
  pub below : (m x : ℕ) (names : List (List ℕ)) → Stands (state_at w m).nodes w.root x names → names_below (state_at w m).nodes w.root x ≡ Some names
  pub root : held_at w 0 w.way.root ≡ Some w.root
  pub root_is_dir : is_directory ((timeline w).object_of w.root) ≡ true

-- a step of the walk's own at moment t, the actor's handles having stayed since m
pub record StepAt (w : WalkInHistory) (m t : ℕ) (step : StepWith ℕ) (answer : Answer) : Type 0 where
  pub at : IsOwnFrom (timeline w) m t
  pub event : slice_get w.window t ≡ Some (record { actor = w.actor; step = step; answer = answer })
  pub kept : (h : ℕ) → held_at w t h ≡ held_at w m h
  pub told : answer ≡ (outcome (state_at w t) w.actor step).answer
  pub after : state_at w (suc t) ≡ (outcome (state_at w t) w.actor step).after

-- the walk's lines happen from moment m on, and the actor does nothing else
abbrev pub Happens : WalkInHistory → ℕ → List Line → Type 0
Happens w m [] = (h : ℕ) → held (end_of w) w.actor h ≡ held_at w m h
Happens w m (answered step answer ∷ lines) = (t : ℕ) × (StepAt w m t step answer × Happens w (suc t) lines)
Happens w m (no_room step answer ∷ lines) = (t : ℕ) × (StepAt w m t step answer × Happens w (suc t) lines)
Happens w m (not_made error ∷ lines) = Happens w m lines

-- ---- handles

abbrev pub IsNotIn : ℕ → List ℕ → Type 0
IsNotIn k [] = Unit {0}
IsNotIn k (h ∷ hs) = (k ≢ h) × IsNotIn k hs

-- none of these was open
abbrev pub AllNew : (ℕ → Option ℕ) → List ℕ → Type 0
AllNew old [] = Unit {0}
AllNew old (h ∷ hs) = (old h ≡ None) × AllNew old hs

-- a handle is among the new ones, or it isn't in the list
pub new_or_out : (old : ℕ → Option ℕ) (k : ℕ) (hs : List ℕ) → AllNew old hs → IsNotIn k hs ⊎ (old k ≡ None)
new_or_out old k [] new = inl tt
new_or_out old k (h ∷ hs) new = on (k == h) refl (new_or_out old k hs new.1)
  where
    on_rest : k ≢ h → IsNotIn k hs ⊎ (old k ≡ None) → IsNotIn k (h ∷ hs) ⊎ (old k ≡ None)
    on_rest ne (inl out) = inl (ne, out)
    on_rest ne (inr none) = inr none

    on : (b : Bool) → (k == h) ≡ b → IsNotIn k hs ⊎ (old k ≡ None) → IsNotIn k (h ∷ hs) ⊎ (old k ≡ None)
    on true e rest = inr (ap old (eqb-true k h e) ∙ new.0)
    on false e rest = on_rest (eqb-false k h e) rest

-- these are the walk's own, and the others are as the window found them
pub record HandlesAre (w : WalkInHistory) (m : ℕ) (hs : List ℕ) : Type 0 where
  pub others : (k : ℕ) → IsNotIn k hs → held_at w m k ≡ held_at w 0 k
  pub fresh : AllNew (held_at w 0) hs

pub handles_kept : {w : WalkInHistory} {m t : ℕ} {hs : List ℕ} → ((h : ℕ) → held_at w t h ≡ held_at w m h) → HandlesAre w m hs → HandlesAre w t hs
handles_kept kept are = record { others = λ k out. kept k ∙ are.others k out; fresh = are.fresh }

pub handles_more : {w : WalkInHistory} {t h x : ℕ} {hs : List ℕ} → HandlesAre w t hs
    → IsMore (state_at w t) w.actor (state_at w (suc t)) h x → HandlesAre w (suc t) (h ∷ hs)
handles_more {w} {t} {h} {x} {hs} are is = record {
  others = λ k out. is.others k out.0 ∙ are.others k out.1;
  fresh = (on (new_or_out (held_at w 0) h hs are.fresh), are.fresh);
}
  where
    on : IsNotIn h hs ⊎ (held_at w 0 h ≡ None) → held_at w 0 h ≡ None
    on (inl out) = sym (are.others h out) ∙ is.fresh
    on (inr none) = none

pub handles_less : {w : WalkInHistory} {t h : ℕ} {hs : List ℕ} → HandlesAre w t (h ∷ hs)
    → IsLess (state_at w t) w.actor (state_at w (suc t)) h → HandlesAre w (suc t) hs
handles_less {w} {t} {h} {hs} are is = record { others = λ k out. on k out (k == h) refl; fresh = are.fresh.1 }
  where
    on : (k : ℕ) → IsNotIn k hs → (b : Bool) → (k == h) ≡ b → held_at w (suc t) k ≡ held_at w 0 k
    on k out true e = ap (held_at w (suc t)) (eqb-true k h e) ∙ is.closed ∙ sym are.fresh.0 ∙ ap (held_at w 0) (sym (eqb-true k h e))
    on k out false e = is.others k (eqb-false k h e) ∙ are.others k (eqb-false k h e, out)

-- the root's handle isn't one of the walk's own, and stays open
root_is_out : {w : WalkInHistory} → Lived w → (hs : List ℕ) → AllNew (held_at w 0) hs → IsNotIn w.way.root hs
root_is_out lived [] fresh = tt
root_is_out {w} lived (h ∷ hs) fresh = ((λ e. none-some w.root (sym fresh.0 ∙ ap (held_at w 0) (sym e) ∙ lived.root)), root_is_out lived hs fresh.1)

pub root_open : {w : WalkInHistory} {m : ℕ} {hs : List ℕ} → Lived w → HandlesAre w m hs → held_at w m w.way.root ≡ Some w.root
root_open {w} {m} {hs} lived are = are.others w.way.root (root_is_out lived hs are.fresh) ∙ lived.root

-- a handle is open on its node, which is of the kind that was told
pub record IsHeld (w : WalkInHistory) (m : ℕ) (handle : Handle) : Type 0 where
  pub is_open : held_at w m handle.number ≡ Some handle.node
  pub what : Object
  pub is_what : (timeline w).object_of handle.node ≡ Some what
  pub kind : kind_of what ≡ handle.kind

pub held_kept : {w : WalkInHistory} {m t : ℕ} {handle : Handle} → ((h : ℕ) → held_at w t h ≡ held_at w m h) → IsHeld w m handle → IsHeld w t handle
held_kept {handle = handle} kept is = record { is_open = kept handle.number ∙ is.is_open; what = is.what; is_what = is.is_what; kind = is.kind }

-- what is open isn't what is opened next
pub old_is_other : {w : WalkInHistory} {t h x : ℕ} {handle : Handle} → IsHeld w t handle → IsMore (state_at w t) w.actor (state_at w (suc t)) h x → handle.number ≢ h
old_is_other {w} {t} {handle = handle} is new e = none-some handle.node (sym new.fresh ∙ ap (held_at w t) (sym e) ∙ is.is_open)

pub held_more : {w : WalkInHistory} {t h x : ℕ} {handle : Handle} → IsMore (state_at w t) w.actor (state_at w (suc t)) h x → IsHeld w t handle → IsHeld w (suc t) handle
held_more {handle = handle} new is =
    record { is_open = new.others handle.number (old_is_other is new) ∙ is.is_open; what = is.what; is_what = is.is_what; kind = is.kind }

pub held_less : {w : WalkInHistory} {t h : ℕ} {handle : Handle} → IsLess (state_at w t) w.actor (state_at w (suc t)) h → handle.number ≢ h
    → IsHeld w t handle → IsHeld w (suc t) handle
held_less {handle = handle} gone ne is =
    record { is_open = gone.others handle.number ne ∙ is.is_open; what = is.what; is_what = is.is_what; kind = is.kind }

object_within : (nodes : List Inode) (k : ℕ) → k < length nodes → (object : Object) × (object_at nodes k ≡ Some object)
object_within [] k less = absurd (not-suc-le-zero less)
object_within (inode ∷ nodes) zero less = (inode.object, refl)
object_within (inode ∷ nodes) (suc k) less = object_within nodes k (le_of_suc-le-suc less)

-- a node that is held is something
pub held_node : (s : State) (a h x : ℕ) → IsState s → held s a h ≡ Some x → (object : Object) × (object_at s.nodes x ≡ Some object)
held_node s a h x is e = on (slice_get s.handles h) refl
  where
    on_actor : (open_handle : OpenHandle) → slice_get s.handles h ≡ Some (Some open_handle) → (b : Bool) → (open_handle.actor == a) ≡ b
        → refuse_if (open_handle.actor == a) (Some open_handle.node) None ≡ Some x → (object : Object) × (object_at s.nodes x ≡ Some object)
    on_actor open_handle q true t f =
        subst (λ y. (object : Object) × (object_at s.nodes y ≡ Some object))
        (same_Some open_handle.node x (sym (ap (λ b. refuse_if b (Some open_handle.node) None) t) ∙ f))
        (object_within s.nodes open_handle.node (is.handles h open_handle q))
    on_actor open_handle q false t f = absurd (none-some x (sym (ap (λ b. refuse_if b (Some open_handle.node) None) t) ∙ f))

    on : (o : Option (Option OpenHandle)) → slice_get s.handles h ≡ o → (object : Object) × (object_at s.nodes x ≡ Some object)
    on None q = absurd (none-some x (sym (ap (node_held a) q) ∙ e))
    on (Some None) q = absurd (none-some x (sym (ap (node_held a) q) ∙ e))
    on (Some (Some open_handle)) q = on_actor open_handle q (open_handle.actor == a) refl (sym (ap (node_held a) q) ∙ e)

-- a held node is a directory at a moment where it is one
pub dir_at : {w : WalkInHistory} → Lived w → (t h x : ℕ) → held_at w t h ≡ Some x → is_dir (state_at w t).nodes x ≡ is_directory ((timeline w).object_of x)
dir_at {w} lived t h x e =
    let o = held_node (state_at w t) w.actor h x (lived.states t) e in
    ap is_directory (o.1 ∙ sym (lived.objects t x o.0 o.1))

-- ---- places and parts

abbrev pub node_at : WalkInHistory → Position → ℕ
node_at w root_itself = w.root
node_at w (holds handle names) = handle.node

abbrev pub spot_at : WalkInHistory → Position → ℕ → ℕ → Spot
spot_at w position b m = record { node = node_at w position; names = names_of position; links = b; moment = m }

abbrev pub IsPositionHeld : WalkInHistory → ℕ → Position → Type 0
IsPositionHeld w m root_itself = Unit {0}
IsPositionHeld w m (holds handle names) = IsHeld w m handle

-- Some of the caller's parts are taken, and these parts are still to come of the links' texts and of the caller's own.
-- Whatever leads over the links' parts from here on leads over those taken from the root; and a stop before one of the
-- links' parts is within a link's text.
pub record Going (w : WalkInHistory) (m : ℕ) (position : Position) (inner own : List AskedPart) (b : ℕ) : Type 0 where
  pub taken : List AskedPart
  pub parts : parts_of_walk w ≡ taken ++ own
  pub reaches : (z : Spot) (next : Option AskedPart) → Trail (timeline w) inner (spot_at w position b m) z next
      → Trail (timeline w) taken (start w) z next
  pub within : (z : Spot) (p : AskedPart) → Trail (timeline w) inner (spot_at w position b m) z (Some p) → IsWithinLink w z p

-- no parts, no stop
pub no_stop : {timeline : Timeline} {s z : Spot} {p : AskedPart} → Trail timeline [] s z (Some p) → ⊥
no_stop t = elim t [ ]

pub going_later : {w : WalkInHistory} {m k b : ℕ} {position : Position} {inner own : List AskedPart} → m ≤ k → Going w m position inner own b → Going w k position inner own b
going_later {w} le g = record { taken = g.taken; parts = g.parts; reaches = λ z next t. g.reaches z next (from_earlier (timeline w) le t); within = λ z p t. g.within z p (from_earlier (timeline w) le t) }

-- the same with the next part, which is of a link's text, or the caller's own where none of those is left
abbrev pub GoesFor : WalkInHistory → ℕ → Bool → AskedPart → Position → Todo → Type 0
GoesFor w m false p position (todo inner own b) = Going w m position (p ∷ inner) own b
GoesFor w m true p position (todo inner own b) = (inner ≡ []) × Going w m position [] (p ∷ own) b

abbrev pub links_of : Todo → ℕ
links_of (todo inner own b) = b

-- the stop before the next part
pub stop_at : (w : WalkInHistory) {m : ℕ} (own : Bool) (p : AskedPart) (position : Position) (rest : Todo) → GoesFor w m own p position rest
    → Trail (timeline w) (parts_of_walk w) (start w) (spot_at w position (links_of rest) m) (Some p)
stop_at w {m} false p position (todo inner own b) g =
    subst (λ ps. Trail (timeline w) ps (start w) (spot_at w position b m) (Some p)) (sym g.parts)
    (stop_of_more (timeline w) own (g.reaches (spot_at w position b m) (Some p) (before m (le_refl m))))
stop_at w {m} true p position (todo inner own b) g =
    subst (λ ps. Trail (timeline w) ps (start w) (spot_at w position b m) (Some p)) (sym g.1.parts)
    (appended (timeline w) (g.1.reaches (spot_at w position b m) None (all m (le_refl m))) (before m (le_refl m)))

-- the trail to where the walk is, over what is taken
pub trail_at : {w : WalkInHistory} {m b : ℕ} {position : Position} {own : List AskedPart} → (g : Going w m position [] own b)
    → Trail (timeline w) g.taken (start w) (spot_at w position b m) None
trail_at {w} {m} {b} {position} g = g.reaches (spot_at w position b m) None (all m (le_refl m))

-- the next part is passed, and these parts come in its place
pub passes : {w : WalkInHistory} {m : ℕ} (own : Bool) (p : AskedPart) (position : Position) (inner rest : List AskedPart) (b : ℕ)
    → GoesFor w m own p position (todo inner rest b)
    → (qs : List AskedPart) (position' : Position) (b' m' : ℕ)
    → ((ps : List AskedPart) (z : Spot) (next : Option AskedPart) → Trail (timeline w) (qs ++ ps) (spot_at w position' b' m') z next
    → Trail (timeline w) (p ∷ ps) (spot_at w position b m) z next)
    → (Going w m position [] (p ∷ rest) b → (z : Spot) (q : AskedPart) → Trail (timeline w) (qs ++ []) (spot_at w position' b' m') z (Some q) → IsWithinLink w z q)
    → Going w m' position' (qs ++ inner) rest b'
passes false p position inner rest b g qs position' b' m' pass stop_in =
    record { taken = g.taken; parts = g.parts; reaches = λ z next t. g.reaches z next (pass inner z next t); within = λ z q t. g.within z q (pass inner z (Some q) t) }
passes {w} {m} true p position inner rest b g qs position' b' m' pass stop_in =
    subst (λ i. Going w m' position' (qs ++ i) rest b') (sym g.0) (record {
      taken = g.1.taken ++ p ∷ [];
      parts = g.1.parts ∙ sym (append_assoc g.1.taken (p ∷ []) rest);
      reaches = λ z next t. appended (timeline w) (trail_at g.1) (pass [] z next t);
      within = stop_in g.1;
    })

-- where nothing comes in the part's place
pub passed_on : {w : WalkInHistory} {m : ℕ} (own : Bool) (p : AskedPart) (position : Position) (inner rest : List AskedPart) (b : ℕ)
    → GoesFor w m own p position (todo inner rest b) → (position' : Position) (b' m' : ℕ)
    → ((ps : List AskedPart) (z : Spot) (next : Option AskedPart) → Trail (timeline w) ps (spot_at w position' b' m') z next
    → Trail (timeline w) (p ∷ ps) (spot_at w position b m) z next)
    → Going w m' position' inner rest b'
passed_on own p position inner rest b g position' b' m' pass =
    passes own p position inner rest b g [] position' b' m' pass (λ h z q t. absurd (no_stop t))

-- a stop before a part that isn't the caller's own is within a link's text
pub within_link : (w : WalkInHistory) {m : ℕ} (own : Bool) (p : AskedPart) (position : Position) (rest : Todo) → GoesFor w m own p position rest → (own ≡ true → ⊥)
    → IsWithinLink w (spot_at w position (links_of rest) m) p
within_link w {m} false p position (todo inner own b) g not_own = g.within (spot_at w position b m) p (before m (le_refl m))
within_link w true p position (todo inner own b) g not_own = absurd (not_own refl)

-- ---- a walk under way

abbrev pub AllApart : List ℕ → List ℕ → Type 0
AllApart [] hs = Unit {0}
AllApart (k ∷ ks) hs = IsNotIn k hs × AllApart ks hs

pub record GoodOpening (w : WalkInHistory) (now : ℕ) (position : Position) (own follow : Bool) (n : List ℕ) (rest : Todo) : Type 0 where
  pub going : GoesFor w now own (Named follow n) position rest
  pub dir : is_directory ((timeline w).object_of (node_at w position)) ≡ true
  pub short : is_too_long n ≡ false
  pub position_held : IsPositionHeld w now position
  pub handles : HandlesAre w now (handles_of position)

pub record GoodReading (w : WalkInHistory) (now : ℕ) (position : Position) (link : Handle) (inner rest : List AskedPart) (b : ℕ) : Type 0 where
  pub own : Bool
  pub name : List ℕ
  pub m : ℕ
  pub t : ℕ
  pub going : GoesFor w m own (Named true name) position (todo inner rest (suc b))
  pub at : IsChildAt (timeline w) (spot_at w position (suc b) m) name t link.node
  pub past : suc t ≤ now
  pub allowed : w.way.flags.no_links ≡ false
  pub text : List ℕ
  pub is_link : (timeline w).object_of link.node ≡ Some (Link text)
  pub position_held : IsPositionHeld w now position
  pub link_held : IsHeld w now link
  pub apart : IsNotIn link.number (handles_of position)
  pub handles : HandlesAre w now (link.number ∷ handles_of position)

pub record GoodRising (w : WalkInHistory) (now : ℕ) (old : Handle) (names : List (List ℕ)) (rest : Todo) : Type 0 where
  pub own : Bool
  pub name : List ℕ
  pub going : GoesFor w now own Up (holds old (name ∷ names)) rest
  pub dir : is_directory ((timeline w).object_of old.node) ≡ true
  pub old_held : IsHeld w now old
  pub handles : HandlesAre w now (old.number ∷ [])

-- the parent of what was held was this
pub record GoodJudging (w : WalkInHistory) (now : ℕ) (new : Handle) (names : List (List ℕ)) (rest : Todo) : Type 0 where
  pub own : Bool
  pub name : List ℕ
  pub old : Handle
  pub m : ℕ
  pub t : ℕ
  pub going : GoesFor w m own Up (holds old (name ∷ names)) rest
  pub dir : is_directory ((timeline w).object_of old.node) ≡ true
  pub at : IsOwnFrom (timeline w) m t
  pub parent : parent ((timeline w).nodes_at t) old.node ≡ Some new.node
  pub past : suc t ≤ now
  pub new_held : IsHeld w now new

-- all parts are passed, or the first of the rest, which are the caller's own, was missing
pub data EndsAt (w : WalkInHistory) (now : ℕ) (to : Spot) (rest : List AskedPart) : Type 0 where
  at_all : rest ≡ [] → EndsAt w now to rest
  at_missing : is_deepest w.way.goal ≡ true → (follow : Bool) (n : List ℕ) (others : List AskedPart) → rest ≡ Named follow n ∷ others
      → is_too_long n ≡ false → (first : ℕ) → IsMissingAt w to n first → suc first ≤ now → EndsAt w now to rest

pub record GoodEnd (w : WalkInHistory) (now : ℕ) (position : Position) (rest : List AskedPart) : Type 0 where
  pub links : ℕ
  pub m : ℕ
  pub going : Going w m position [] rest links
  pub past : m ≤ now
  pub ends : EndsAt w now (spot_at w position links m) rest
  pub position_held : IsPositionHeld w now position
  pub handles : HandlesAre w now (handles_of position)

abbrev pub GoodAfter : WalkInHistory → ℕ → After → Type 0
GoodAfter w now (gives error) = TellsError w error
GoodAfter w now (onward position (todo inner own b)) = Going w now position inner own b × IsPositionHeld w now position
GoodAfter w now (judges handle names rest) = GoodJudging w now handle names rest

pub record GoodClosing (w : WalkInHistory) (now : ℕ) (h : ℕ) (hs : List ℕ) (after : After) : Type 0 where
  pub comes : GoodAfter w now after
  pub apart : AllApart (h ∷ hs) (walk_after_handles after)
  pub handles : HandlesAre w now (h ∷ hs ++ walk_after_handles after)

abbrev pub GoodWalk : WalkInHistory → ℕ → Walking → Type 0
GoodWalk w now (opening position own follow n rest) = GoodOpening w now position own follow n rest
GoodWalk w now (reading position link (todo inner own b)) = GoodReading w now position link inner own b
GoodWalk w now (rising old names rest) = GoodRising w now old names rest
GoodWalk w now (judging new names rest) = GoodJudging w now new names rest × HandlesAre w now (new.number ∷ [])
GoodWalk w now (duping rest) = GoodEnd w now root_itself rest
GoodWalk w now (ending handle names rest) = GoodEnd w now (holds handle names) rest
GoodWalk w now (closing h hs after) = GoodClosing w now h hs after

-- what was reached stood, and is held
pub record FoundAt (w : WalkInHistory) (now : ℕ) (handle : Handle) (names : List (List ℕ)) (rest : List AskedPart) : Type 0 where
  pub links : ℕ
  pub m : ℕ
  pub going : Going w m (holds handle names) [] rest links
  pub when : ℕ
  pub ends : EndsAt w when (spot_at w (holds handle names) links m) rest
  pub stood : StoodAt w (spot_at w (holds handle names) links m) when
  pub held : IsHeld w now handle
  pub handles : HandlesAre w now (handle.number ∷ [])

abbrev pub Good : WalkInHistory → ℕ → Turn → Type 0
Good w now (more walk) = GoodWalk w now walk
Good w now (found handle names) = FoundAt w now handle names []
Good w now (partial handle names rest) = FoundAt w now handle names rest × (rest ≡ [] → ⊥)
Good w now (failed error) = TellsError w error × HandlesAre w now []
