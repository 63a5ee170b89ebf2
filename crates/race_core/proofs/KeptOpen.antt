-- What an actor's calls keep, and its root: open, each once, apart from what the call under way holds.
use Rattle.std.proofs.Common.{◌≡◌, ◌≢◌, ℕ, zero, suc, List, [], ◌∷◌, ◌++◌, Bool, true, false, if◌then◌else◌, Option, Some, None, is_some, refl, sym, ap, subst, ◌∙◌, eq-eqb, eqb-true, append-nil}
use Rattle.std.specs.Prelude.{slice_set, ◌==◌, ◌&&◌}
use Rattle.std.specs.Option.{option_map}
use Rattle.std.proofs.lemmas.Bool.{ne_eqb, and_parts}
use Rattle.std.proofs.lemmas.Option.{none-some, same_Some}
use Rattle.tree_model.specs.declared.answer.Answer.{Answer}
use Rattle.tree_model.specs.StepWith.{StepWith}
use Rattle.tree_model.specs.declared.step.StepOf.TheVariants as steps
use Rattle.tree_model.specs.State.{State}
use Rattle.tree_model.specs.StepLaws.{is_close_of}
use Rattle.tree_model.specs.Steps.{held}
use Rattle.handles.specs.declared.owner.Owner.{Owner}
use Rattle.handles.specs.Objects.{StandingObject}
use Rattle.step_resolver.specs.declared.walk.Root.{Root}
use Rattle.step_resolver.proofs.Underway.WalkInvariant.{IsNotIn}
use Rattle.root_ops.specs.declared.below.Below.{Below}
use Rattle.root_ops.specs.declared.op.Op.TheVariants.{Single, Release}
use Rattle.root_ops.specs.declared.op.Request.{Request}
use Rattle.root_ops.specs.Order.{Reply, opened, link_text, done, count, stepped, kept, fault, more, ends, releasing, same_owner, starts}
use Rattle.race_core.specs.declared.plan.Planned.{Planned}
use Rattle.race_core.specs.declared.plan.Planned.TheVariants as plan
use Rattle.race_core.specs.Book.{is_close}
use Rattle.race_core.specs.Turns.{standing_under, handle_at, step_at, plain, request_of, left_by, opened_by}
use Rattle.race_core.specs.WorldCalls.{CallMade, kept_after, kept_after_all, ReleasesOwn, IsDoneIfKept, KeptAreReleased}
use Rattle.race_core.proofs.HeldByCalls.{opened_by_reply, Moves, stay, not_held, others, closes_none}
use Rattle.race_core.proofs.HeldOpen.{AllOpen}

abbrev pub IsOpen : State → ℕ → ℕ → Type 0
IsOpen s a h = is_some (held s a h) ≡ true

-- the handles that calls keep, by the calls' numbers
abbrev pub kept_handles : List (Option StandingObject) → List ℕ
kept_handles [] = []
kept_handles (None ∷ standings) = kept_handles standings
kept_handles (Some standing ∷ standings) = standing.handle ∷ kept_handles standings

abbrev pub AreOwned : Owner → List (Option StandingObject) → Type 0
AreOwned owner [] = Unit {0}
AreOwned owner (None ∷ standings) = AreOwned owner standings
AreOwned owner (Some standing ∷ standings) = (standing.owner ≡ owner) × AreOwned owner standings

-- ---- owners

pub owners_are_one : (a b : Owner) → same_owner a b ≡ true → a ≡ b
owners_are_one a b e =
    let two = and_parts (a.tag == b.tag) (a.actor == b.actor) e in
    λ i. record { tag = eqb-true a.tag b.tag two.0 i; actor = eqb-true a.actor b.actor two.1 i }

owner_is_itself : (a : Owner) → same_owner a a ≡ true
owner_is_itself a = ap (λ b. b && (a.actor == a.actor)) (eq-eqb a.tag a.tag refl) ∙ eq-eqb a.actor a.actor refl

pub owned_at : (owner : Owner) (standings : List (Option StandingObject)) (call : ℕ) (standing : StandingObject) → AreOwned owner standings
    → standing_under standings call ≡ Some standing → standing.owner ≡ owner
owned_at owner [] call standing own e = absurd (none-some standing e)
owned_at owner (None ∷ standings) zero standing own e = absurd (none-some standing e)
owned_at owner (None ∷ standings) (suc call) standing own e = owned_at owner standings call standing own e
owned_at owner (Some s ∷ standings) zero standing own e = ap (λ (t : StandingObject). t.owner) (sym (same_Some s standing e)) ∙ own.0
owned_at owner (Some s ∷ standings) (suc call) standing own e = owned_at owner standings call standing own.1 e

owned_less : (owner : Owner) (standings : List (Option StandingObject)) (call : ℕ) → AreOwned owner standings → AreOwned owner (slice_set standings call None)
owned_less owner [] call own = own
owned_less owner (None ∷ standings) zero own = own
owned_less owner (None ∷ standings) (suc call) own = owned_less owner standings call own
owned_less owner (Some s ∷ standings) zero own = own.1
owned_less owner (Some s ∷ standings) (suc call) own = (own.0, owned_less owner standings call own.1)

owned_left : (owner : Owner) (next : Planned) (standings : List (Option StandingObject)) → AreOwned owner standings → AreOwned owner (left_by next standings)
owned_left owner (plan.Call request) standings own = own
owned_left owner (plan.Single step) standings own = own
owned_left owner (plan.Release call) standings own = owned_less owner standings call own

owned_more : (owner : Owner) (standings : List (Option StandingObject)) (o : Option StandingObject) → AreOwned owner standings → AreOwned owner (o ∷ []) → AreOwned owner (standings ++ o ∷ [])
owned_more owner [] o own one = one
owned_more owner (None ∷ standings) o own one = owned_more owner standings o own one
owned_more owner (Some s ∷ standings) o own one = (own.0, owned_more owner standings o own.1 one)

owned_reply : (owner : Owner) (reply : Reply) → AreOwned owner (opened_by owner reply ∷ [])
owned_reply owner (opened handle names) = (refl, tt)
owned_reply owner (link_text text) = tt
owned_reply owner done = tt
owned_reply owner (count n) = tt
owned_reply owner (stepped answer) = tt
owned_reply owner (kept standing) = tt
owned_reply owner (fault error) = tt

-- what calls keep is their owner's
pub all_owned : (owner : Owner) (calls : List CallMade) (standings : List (Option StandingObject)) → AreOwned owner standings → AreOwned owner (kept_after_all owner standings calls)
all_owned owner [] standings own = own
all_owned owner (c ∷ calls) standings own =
    all_owned owner calls (kept_after owner standings c)
    (owned_more owner (left_by c.planned standings) (opened_by owner c.reply) (owned_left owner c.planned standings own) (owned_reply owner c.reply))

-- ---- what is kept is open, each handle once

out_less : (h : ℕ) (standings : List (Option StandingObject)) (call : ℕ) → IsNotIn h (kept_handles standings) → IsNotIn h (kept_handles (slice_set standings call None))
out_less h [] call out = out
out_less h (None ∷ standings) zero out = out
out_less h (None ∷ standings) (suc call) out = out_less h standings call out
out_less h (Some s ∷ standings) zero out = out.1
out_less h (Some s ∷ standings) (suc call) out = (out.0, out_less h standings call out.1)

out_at : (h : ℕ) (standings : List (Option StandingObject)) (call : ℕ) (standing : StandingObject) → IsNotIn h (kept_handles standings)
    → standing_under standings call ≡ Some standing → h ≢ standing.handle
out_at h [] call standing out e = absurd (none-some standing e)
out_at h (None ∷ standings) zero standing out e = absurd (none-some standing e)
out_at h (None ∷ standings) (suc call) standing out e = out_at h standings call standing out e
out_at h (Some s ∷ standings) zero standing out e = λ q. out.0 (q ∙ ap (λ (t : StandingObject). t.handle) (sym (same_Some s standing e)))
out_at h (Some s ∷ standings) (suc call) standing out e = out_at h standings call standing out.1 e

module _ (Open : ℕ → Type 0) where
  open_less : (standings : List (Option StandingObject)) (call : ℕ) → AllOpen Open (kept_handles standings) → AllOpen Open (kept_handles (slice_set standings call None))
  open_less [] call all = all
  open_less (None ∷ standings) zero all = all
  open_less (None ∷ standings) (suc call) all = open_less standings call all
  open_less (Some s ∷ standings) zero all = all.1.1
  open_less (Some s ∷ standings) (suc call) all = (all.0, (out_less s.handle standings call all.1.0, open_less standings call all.1.1))

  pub open_left : (root : ℕ) (next : Planned) (standings : List (Option StandingObject)) → AllOpen Open (root ∷ kept_handles standings) → AllOpen Open (root ∷ kept_handles (left_by next standings))
  open_left root (plan.Call request) standings all = all
  open_left root (plan.Single step) standings all = all
  open_left root (plan.Release call) standings all = (all.0, (out_less root standings call all.1.0, open_less standings call all.1.1))

  -- the one that is released is open, and none of the others
  open_at : (standings : List (Option StandingObject)) (call : ℕ) (standing : StandingObject) → AllOpen Open (kept_handles standings)
      → standing_under standings call ≡ Some standing → Open standing.handle × IsNotIn standing.handle (kept_handles (slice_set standings call None))
  open_at [] call standing all e = absurd (none-some standing e)
  open_at (None ∷ standings) zero standing all e = absurd (none-some standing e)
  open_at (None ∷ standings) (suc call) standing all e = open_at standings call standing all e
  open_at (Some s ∷ standings) zero standing all e =
      subst (λ (t : StandingObject). Open t.handle × IsNotIn t.handle (kept_handles standings)) (same_Some s standing e) (all.0, all.1.0)
  open_at (Some s ∷ standings) (suc call) standing all e =
      let there = open_at standings call standing all.1.1 e in
      (there.0, ((λ q. out_at s.handle standings call standing all.1.0 e (sym q)), there.1))

  pub released_at : (root : ℕ) (standings : List (Option StandingObject)) (call : ℕ) (standing : StandingObject) → AllOpen Open (root ∷ kept_handles standings)
      → standing_under standings call ≡ Some standing → Open standing.handle × IsNotIn standing.handle (root ∷ kept_handles (slice_set standings call None))
  released_at root standings call standing all e =
      let there = open_at standings call standing all.1.1 e in
      (there.0, ((λ q. out_at root standings call standing all.1.0 e (sym q)), there.1))

  out_more : (h : ℕ) (hs : List ℕ) (k : ℕ) → IsNotIn h hs → h ≢ k → IsNotIn h (hs ++ k ∷ [])
  out_more h [] k out ne = (ne, tt)
  out_more h (g ∷ hs) k out ne = (out.0, out_more h hs k out.1 ne)

  open_more : (hs : List ℕ) (k : ℕ) → AllOpen Open hs → Open k → IsNotIn k hs → AllOpen Open (hs ++ k ∷ [])
  open_more [] k all is out = (is, (tt, tt))
  open_more (h ∷ hs) k all is out = (all.0, (out_more h hs k all.1.0 (λ q. out.0 (sym q)), open_more hs k all.1.1 is out.1))

handles_more : (standings : List (Option StandingObject)) (o : Option StandingObject) → kept_handles (standings ++ o ∷ []) ≡ kept_handles standings ++ kept_handles (o ∷ [])
handles_more [] o = refl
handles_more (None ∷ standings) o = handles_more standings o
handles_more (Some s ∷ standings) o = ap (λ hs. s.handle ∷ hs) (handles_more standings o)

-- ---- beside a call

-- `Own` is that the plan closes only what its calls opened.
module _ (Own : Type 0) (s : State) (a : ℕ) (hs : List ℕ) where
  -- open, and none of these
  abbrev pub IsHeld : ℕ → Type 0
  IsHeld h = IsOpen s a h × (Own → IsNotIn h hs)

  abbrev pub IsFreed : ℕ → Type 0
  IsFreed h = Own → IsOpen s a h × IsNotIn h hs

  abbrev pub AreKept : Type 0
  AreKept = Own → AllOpen (IsOpen s a) hs

-- what a step closes is none of these
pub data Spares (hs : List ℕ) (step : StepWith ℕ) : Type 0 where
  no_close : is_close step ≡ false → Spares hs step
  another_close : (k : ℕ) → step ≡ steps.Close k → IsNotIn k hs → Spares hs step

pub spares_first : (h : ℕ) (hs : List ℕ) (step : StepWith ℕ) → Spares (h ∷ hs) step → is_close_of h step ≡ false
spares_first h hs step (no_close e) = closes_none step e h
spares_first h hs step (another_close k is out) = ap (is_close_of h) is ∙ ne_eqb k h out.0

module _ (Own : Type 0) (s t : State) (a : ℕ) (hs : List ℕ) (step : StepWith ℕ) (answer : Answer) (moves : Moves (IsOpen s a) step answer (IsOpen t a)) where
  pub held_moves : AreKept Own s a hs → Moves (IsHeld Own s a hs) step answer (IsHeld Own t a hs)
  held_moves all = record {
    stays = λ k is e. (moves.stays k is.0 e, is.1);
    is_new = λ h x kind e.
        let new = moves.is_new h x kind e in
        ((new.0, λ own. not_held (IsOpen s a) (IsOpen t a) step answer moves h hs new.1 (all own)), λ was. new.1 was.0);
  }

  pub kept_still : Spares hs step → AllOpen (IsOpen s a) hs → AllOpen (IsOpen t a) hs
  kept_still (no_close e) all = stay (IsOpen s a) (IsOpen t a) step answer moves hs (closes_none step e) all
  kept_still (another_close k is out) all = others (IsOpen s a) (IsOpen t a) step answer moves k hs is out all

-- what a reply opened is kept with the rest
module _ (Own : Type 0) (s : State) (a root : ℕ) (owner : Owner) (standings : List (Option StandingObject)) where
  abbrev Hold : Reply → Type 0
  Hold reply = AllOpen (IsOpen s a) (root ∷ kept_handles (standings ++ opened_by owner reply ∷ []))

  none_more : AllOpen (IsOpen s a) (root ∷ kept_handles standings) → AllOpen (IsOpen s a) (root ∷ kept_handles (standings ++ None ∷ []))
  none_more all = subst (λ hs. AllOpen (IsOpen s a) (root ∷ hs)) (sym (handles_more standings None ∙ append-nil (kept_handles standings))) all

  pub kept_then : (reply : Reply) → AllOpen (IsHeld Own s a (root ∷ kept_handles standings)) (opened_by_reply reply) → Own → AllOpen (IsOpen s a) (root ∷ kept_handles standings) → Hold reply
  kept_then (opened handle names) new own all =
      subst (λ hs. AllOpen (IsOpen s a) (root ∷ hs)) (sym (handles_more standings (opened_by owner (opened handle names))))
      (open_more (IsOpen s a) (root ∷ kept_handles standings) handle.number all new.0.0 (new.0.1 own))
  kept_then (link_text text) new own all = none_more all
  kept_then done new own all = none_more all
  kept_then (count n) new own all = none_more all
  kept_then (stepped answer) new own all = none_more all
  kept_then (kept standing) new own all = none_more all
  kept_then (fault error) new own all = none_more all

-- ---- what is released

-- the Release of what is the owner's begins with its Close
pub release_begins : (below : Below) (room : Bool) (standing : StandingObject) → standing.owner ≡ below.root.owner → starts below room (Release standing) ≡ more (releasing standing.handle)
release_begins below room standing mine = on room
  where
    same : same_owner standing.owner below.root.owner ≡ true
    same = ap (λ (o : Owner). same_owner standing.owner o) (sym mine) ∙ owner_is_itself standing.owner

    on : (b : Bool) → starts below b (Release standing) ≡ more (releasing standing.handle)
    on true = ap (λ b. if b then more (releasing standing.handle) else ends (kept standing)) same
    on false = ap (λ b. if b then more (releasing standing.handle) else ends (kept standing)) same

pub done_more : (owner : Owner) (standings : List (Option StandingObject)) (calls : List CallMade) (c : CallMade) → KeptAreReleased owner standings calls
    → IsDoneIfKept (kept_after_all owner standings calls) c → KeptAreReleased owner standings (calls ++ c ∷ [])
done_more owner standings [] c so_far is = (is, tt)
done_more owner standings (b ∷ calls) c so_far is = (so_far.0, done_more owner (kept_after owner standings b) calls c so_far.1 is)

pub done_at : (owner : Owner) (standings : List (Option StandingObject)) (earlier : List CallMade) (c : CallMade) (later : List CallMade)
    → KeptAreReleased owner standings (earlier ++ c ∷ later) → IsDoneIfKept (kept_after_all owner standings earlier) c
done_at owner standings [] c later all = all.0
done_at owner standings (b ∷ earlier) c later all = done_at owner (kept_after owner standings b) earlier c later all.1

-- ---- what is asked

pub own_from : (owner : Owner) (calls : List Planned) (rest : List Planned) → ReleasesOwn owner (calls ++ rest) → ReleasesOwn owner rest
own_from owner [] rest own = own
own_from owner (plan.Call request ∷ calls) rest own = own_from owner calls rest own.1
own_from owner (plan.Single step ∷ calls) rest own = own_from owner calls rest own
own_from owner (plan.Release call ∷ calls) rest own = own_from owner calls rest own

abbrev single_of : StepWith ℕ → Request
single_of step = record { op = Single step; flags = plain }

abbrev pub release_of : StandingObject → Request
release_of standing = record { op = Release standing; flags = plain }

-- A call of such a plan that asks for a Release of what is the owner's is planned as the Release of a call that keeps it.
pub record IsKeptUnder (standings : List (Option StandingObject)) (next : Planned) (standing : StandingObject) : Type 0 where
  pub call : ℕ
  pub planned : next ≡ plan.Release call
  pub there : standing_under standings call ≡ Some standing

pub asks_for_kept : (root : Root) (standings : List (Option StandingObject)) (calls : List Planned) (next : Planned) (rest : List Planned) (request : Request) (standing : StandingObject)
    → ReleasesOwn root.owner (calls ++ next ∷ rest) → request_of root standings next ≡ Some request → request.op ≡ Release standing → standing.owner ≡ root.owner
    → IsKeptUnder standings next standing
asks_for_kept root standings calls (plan.Call asked) rest request standing own e is_op mine =
    let same = same_Some asked request e in
    absurd ((own_from root.owner calls (plan.Call asked ∷ rest) own).0 standing (ap (λ (r : Request). r.op) same ∙ is_op) mine)
asks_for_kept root standings calls (plan.Single step) rest request standing own e is_op mine = on (step_at (handle_at root standings) step) e
  where
    on : (o : Option (StepWith ℕ)) → option_map single_of o ≡ Some request → IsKeptUnder standings (plan.Single step) standing
    on None f = absurd (none-some request f)
    on (Some s) f = let same : Single s ≡ Release standing = ap (λ (r : Request). r.op) (same_Some (single_of s) request f) ∙ is_op in cc (same)
asks_for_kept root standings calls (plan.Release call) rest request standing own e is_op mine = on (standing_under standings call) refl e
  where
    on : (o : Option StandingObject) → standing_under standings call ≡ o → option_map release_of o ≡ Some request
        → IsKeptUnder standings (plan.Release call) standing
    on None q f = absurd (none-some request f)
    on (Some s) q f =
        let same : Release s ≡ Release standing = ap (λ (r : Request). r.op) (same_Some (release_of s) request f) ∙ is_op in
        let is : s ≡ standing = cc (same) in
        record { call = call; planned = refl; there = q ∙ ap (λ t. Some t) is }
