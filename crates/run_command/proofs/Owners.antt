-- Each object that a reply to a job opened is one of the sessions'.
use Rattle.std.proofs.Common.{◌≡◌, ℕ, zero, suc, ◌+◌, ◌==◌, ◌<◌, Bool, true, false, cond, List, [], ◌∷◌, length, replicate, slice_get, Option, Some, None, inl, inr, refl, sym, ap, ◌∙◌, subst, arith}
use Rattle.std.specs.Prelude.{All}
use Rattle.std.specs.List.{cons_option}
use Rattle.std.proofs.lemmas.Bool.{eqb-true}
use Rattle.std.proofs.lemmas.List.{length-replicate}
use Rattle.std.proofs.lemmas.List.Elements.{All-nil, All-cons, All-head, All-tail, All-append}
use Rattle.std.proofs.lemmas.Option.{same_Some, none-some, slice_get_within}
use Rattle.path_text.specs.declared.errno.Errno.TheVariants.{Invalid, NoMemory}
use Rattle.handles.specs.declared.owner.Owner.{Owner}
use Rattle.handles.specs.Objects.{StandingObject}
use Rattle.root_ops.specs.Copies.{is_release}
use Rattle.root_ops.specs.declared.op.Op.{Op}
use Rattle.root_ops.specs.declared.op.Op.TheVariants.{Release}
use Rattle.root_ops.specs.declared.op.Request.{Request}
use Rattle.root_ops.specs.declared.reply.Reply.{Reply}
use Rattle.root_ops.specs.declared.reply.Reply.TheVariants.{Opened, Text, Done, Count, Stepped, Kept, Fault}
use Rattle.root_ops.specs.View.{IsOwned}
use Rattle.sessions.specs.Call.{Called, is_of, turned_away}
use Rattle.sessions.specs.Open.{IsOpened}
use Rattle.sessions.specs.Service.{ServiceView}
use Rattle.sessions.specs.Session.{SessionView, begun}
use Rattle.tree_model.specs.State.{State}
use Rattle.workers.proofs.Tallies.{replies_to-cons}
use Rattle.workers.specs.declared.told.Numbered.{Numbered}
use Rattle.workers.specs.Serve.{joined, replies_to, AllWork, IsServed}
use Rattle.workers.specs.Work.{Answers, Calls, Works}
use Rattle.run_command.specs.Jobs.{opened_by, opened_in, IsOurs, AreInPlace}

-- what the reply opened is one of the service's sessions'
abbrev pub OpensOurs : ServiceView → Reply → Type 0
OpensOurs service reply = (standing : StandingObject) → opened_by reply ≡ Some standing → IsOurs service standing

abbrev IsOwner : ServiceView → Owner → Type 0
IsOwner service owner = (owner.tag ≡ service.tag) × (owner.actor < service.count)

abbrev IsOne : ServiceView → SessionView → Type 0
IsOne service session = IsOwner service session.owner

-- ---- one reply

owned_ours : (service : ServiceView) (owner : Owner) (reply : Reply) → IsOwner service owner → IsOwned owner reply → OpensOurs service reply
owned_ours service owner (Opened standing) ours owned other e =
    let same : standing ≡ other = same_Some standing other e in
    let its : owner ≡ other.owner = sym owned ∙ ap (λ (s : StandingObject). s.owner) same in
    subst (IsOwner service) its ours
owned_ours service owner (Text text) ours owned other e = absurd (none-some other e)
owned_ours service owner Done ours owned other e = absurd (none-some other e)
owned_ours service owner (Count count) ours owned other e = absurd (none-some other e)
owned_ours service owner (Stepped answer) ours owned other e = absurd (none-some other e)
owned_ours service owner (Kept standing) ours owned other e = absurd (none-some other e)
owned_ours service owner (Fault error) ours owned other e = absurd (none-some other e)

turned_owned : (owner : Owner) (op : Op) → IsOwned owner (turned_away op)
turned_owned owner (Release standing) = tt
turned_owned owner other = tt

-- what was opened is the session's own, and it stays the same session
pub record IsOwn (before after : SessionView) (reply : Reply) : Type 0 where
  pub owned : IsOwned before.owner reply
  pub same : after.owner ≡ before.owner

called_own : (before : SessionView) (request : Request) (after : SessionView) (reply : Reply) → Called before request after reply → IsOwn before after reply
called_own before request after reply called =
    let made = called.made in
    record {
      owned = made.owned;
      same = ap (λ (s : SessionView). s.owner) called.marked ∙ ap (λ (s : SessionView). s.owner) made.logged;
    }

fault_own : (before after : SessionView) (reply answered : Reply) → IsOwned before.owner answered → after ≡ before → reply ≡ answered → IsOwn before after reply
fault_own before after reply answered owned stays is =
    record { owned = subst (λ (r : Reply). IsOwned before.owner r) (sym is) owned; same = ap (λ (s : SessionView). s.owner) stays }

pub calls_own : (service : ServiceView) (before : SessionView) (request : Request) (after : SessionView) (reply : Reply) (ours : Bool) → is_of service before ≡ ours
    → Calls service before request after reply → IsOwn before after reply
calls_own service before request after reply true e calls = called_own before request after reply (calls.0 e)
calls_own service before request after reply false e calls =
    let away = calls.1 e in
    fault_own before after reply (turned_away request.op) (turned_owned before.owner request.op) away.0 away.1

answers_own : (service : ServiceView) (before : SessionView) (request : Request) (after : SessionView) (reply : Reply) → Answers service before request after reply
    → IsOwn before after reply
answers_own service before request after reply answers = on (is_release request.op) refl
  where
    on : (release : Bool) → is_release request.op ≡ release → IsOwn before after reply
    on true e = let fault = answers.0 e in fault_own before after reply (Fault Invalid) tt fault.0 fault.1
    on false e =
        elim (answers.1 e) [
          | inl calls ↦ calls_own service before request after reply (is_of service before) refl calls
          | inr fault ↦ fault_own before after reply (Fault NoMemory) tt fault.0 fault.1
        ]

-- ---- all that the workers were told

works_own : (service : ServiceView) (jobs : List Request) (before : SessionView) (told : List Numbered) (after : SessionView) → IsOne service before
    → Works service jobs before told after → All (λ numbered. OpensOurs service numbered.reply) told
works_own service jobs before [] after ours works = All-nil (λ numbered. OpensOurs service numbered.reply)
works_own service jobs before (numbered ∷ told) after ours works =
    let own = answers_own service before works.1.0.request works.0 numbered.reply works.1.0.answers in
    let still : IsOne service works.0 = subst (IsOwner service) (sym own.same) ours in
    All-cons (λ numbered. OpensOurs service numbered.reply) numbered told (owned_ours service before.owner numbered.reply ours own.owned)
    (works_own service jobs works.0 told after still works.1.1)

-- and the session stays whose it is
works_same : (service : ServiceView) (jobs : List Request) (before : SessionView) (told : List Numbered) (after : SessionView) → Works service jobs before told after
    → after.owner ≡ before.owner
works_same service jobs before [] after works = ap (λ (s : SessionView). s.owner) works
works_same service jobs before (numbered ∷ told) after works =
    works_same service jobs works.0 told after works.1.1
    ∙ (answers_own service before works.1.0.request works.0 numbered.reply works.1.0.answers).same

pub all_own : (service : ServiceView) (jobs : List Request) (before : List SessionView) (lists : List (List Numbered)) (after : List SessionView)
    → All (IsOne service) before → AllWork service jobs before lists after → All (λ numbered. OpensOurs service numbered.reply) (joined lists)
all_own service jobs [] [] [] ours work = All-nil (λ numbered. OpensOurs service numbered.reply)
all_own service jobs [] [] (a ∷ after) ours work = absurd work
all_own service jobs [] (told ∷ lists) after ours work = absurd work
all_own service jobs (b ∷ before) [] after ours work = absurd work
all_own service jobs (b ∷ before) (told ∷ lists) [] ours work = absurd work
all_own service jobs (b ∷ before) (told ∷ lists) (a ∷ after) ours work =
    All-append (λ numbered. OpensOurs service numbered.reply) told (joined lists)
    (works_own service jobs b told a (All-head (IsOne service) b before ours) work.0)
    (all_own service jobs before lists after (All-tail (IsOne service) b before ours) work.1)

-- each session that comes back is whose it was in its place
pub all_same : (service : ServiceView) (jobs : List Request) (before : List SessionView) (lists : List (List Numbered)) (after : List SessionView) (P : ℕ → Owner → Type 0)
    → AllWork service jobs before lists after → ((i : ℕ) (s : SessionView) → slice_get before i ≡ Some s → P i s.owner)
    → (i : ℕ) (s : SessionView) → slice_get after i ≡ Some s → P i s.owner
all_same service jobs [] [] [] P work each i s at = absurd (none-some s at)
all_same service jobs [] [] (a ∷ after) P work each i s at = absurd work
all_same service jobs [] (told ∷ lists) after P work each i s at = absurd work
all_same service jobs (b ∷ before) [] after P work each i s at = absurd work
all_same service jobs (b ∷ before) (told ∷ lists) [] P work each i s at = absurd work
all_same service jobs (b ∷ before) (told ∷ lists) (a ∷ after) P work each zero s at =
    subst (P 0) (sym (works_same service jobs b told a work.0) ∙ ap (λ (x : SessionView). x.owner) (same_Some a s at)) (each 0 b refl)
all_same service jobs (b ∷ before) (told ∷ lists) (a ∷ after) P work each (suc i) s at =
    all_same service jobs before lists after (λ k owner. P (suc k) owner) work.1 (λ k x e. each (suc k) x e) i s at

pub as_many : (service : ServiceView) (jobs : List Request) (before : List SessionView) (lists : List (List Numbered)) (after : List SessionView)
    → AllWork service jobs before lists after → length after ≡ length before
as_many service jobs [] [] [] work = refl
as_many service jobs [] [] (a ∷ after) work = absurd work
as_many service jobs [] (told ∷ lists) after work = absurd work
as_many service jobs (b ∷ before) [] after work = absurd work
as_many service jobs (b ∷ before) (told ∷ lists) [] work = absurd work
as_many service jobs (b ∷ before) (told ∷ lists) (a ∷ after) work = ap suc (as_many service jobs before lists after work.1)

-- ---- each job's reply

-- a reply that is counted is there
pub record IsThere (job : ℕ) (told : List Numbered) : Type 0 where
  pub place : ℕ
  pub numbered : Numbered
  pub at : slice_get told place ≡ Some numbered
  pub job_is : numbered.job ≡ job

abbrev one_if : Bool → ℕ
one_if b = cond b 1 0

more : (n m : ℕ) → n ≡ zero → 0 < n + m → 0 < m
more n m none some = omega (arith, some, none)

there : (job : ℕ) (told : List Numbered) → 0 < replies_to job told → IsThere job told
there job [] some = absurd (omega (arith, some))
there job (x ∷ told) some = on (x.job == job) refl (there job told)
  where
    on : (here : Bool) → (x.job == job) ≡ here → (0 < replies_to job told → IsThere job told) → IsThere job (x ∷ told)
    on true e later = record { place = 0; numbered = x; at = refl; job_is = eqb-true x.job job e }
    on false e later =
        let none : one_if (x.job == job) ≡ zero = ap one_if e in
        let found = later (more (one_if (x.job == job)) (replies_to job told) none (subst (λ (n : ℕ). 0 < n) (replies_to-cons job x told) some)) in
        record { place = suc found.place; numbered = found.numbered; at = found.at; job_is = found.job_is }

element : (P : Numbered → Type 0) (told : List Numbered) (i : ℕ) (x : Numbered) → All P told → slice_get told i ≡ Some x → P x
element P [] i x all at = absurd (none-some x at)
element P (y ∷ told) zero x all at = subst P (same_Some y x at) (All-head P y told all)
element P (y ∷ told) (suc i) x all at = element P told i x (All-tail P y told all) at

reply_ours : (service : ServiceView) (jobs : List Request) (before after : List SessionView) (replies : List Reply) → All (IsOne service) before
    → IsServed service jobs before after replies → (job : ℕ) (r : Reply) → slice_get replies job ≡ Some r → OpensOurs service r
reply_ours service jobs before after replies ours served job r at =
    let within : job < length replies = slice_get_within replies job r at in
    let job_within : job < length jobs = omega (arith, within, served.as_many) in
    let once : replies_to job (joined served.lists) ≡ 1 = served.once job job_within in
    let found = there job (joined served.lists) (omega (arith, once)) in
    let placed : slice_get replies job ≡ Some found.numbered.reply =
    subst (λ (k : ℕ). slice_get replies k ≡ Some found.numbered.reply) found.job_is (served.in_place found.place found.numbered found.at) in
    let same : found.numbered.reply ≡ r = same_Some found.numbered.reply r (sym placed ∙ at) in
    subst (OpensOurs service) same
    (element (λ numbered. OpensOurs service numbered.reply) (joined served.lists) found.place found.numbered (all_own service jobs before served.lists after ours served.work) found.at)

all_opened : (service : ServiceView) (replies : List Reply) → ((job : ℕ) (r : Reply) → slice_get replies job ≡ Some r → OpensOurs service r)
    → All (IsOurs service) (opened_in replies)
all_opened service [] each = All-nil (IsOurs service)
all_opened service (r ∷ replies) each = on (opened_by r) refl (all_opened service replies (λ job x at. each (suc job) x at))
  where
    on : (opened : Option StandingObject) → opened_by r ≡ opened → All (IsOurs service) (opened_in replies) → All (IsOurs service) (opened_in (r ∷ replies))
    on None e rest = subst (λ (o : Option StandingObject). All (IsOurs service) (cons_option o (opened_in replies))) (sym e) rest
    on (Some standing) e rest =
        subst (λ (o : Option StandingObject). All (IsOurs service) (cons_option o (opened_in replies))) (sym e)
        (All-cons (IsOurs service) standing (opened_in replies) (each 0 r refl standing e) rest)

-- ---- the sessions of a service

get-replicate : {A : Type 0} (n i : ℕ) (x : A) → i < n → slice_get (replicate n x) i ≡ Some x
get-replicate zero i x within = absurd (omega (arith, within))
get-replicate (suc n) zero x within = refl
get-replicate (suc n) (suc i) x within = get-replicate n i x (omega (arith, within))

by_place : (P : SessionView → Type 0) (sessions : List SessionView) → ((i : ℕ) (s : SessionView) → slice_get sessions i ≡ Some s → P s) → All P sessions
by_place P [] each = All-nil P
by_place P (s ∷ sessions) each = All-cons P s sessions (each 0 s refl) (by_place P sessions (λ i x at. each (suc i) x at))

-- each session's number is its place, and there are as many sessions as roots
opened_in_place : (s : State) (workers : ℕ) (root : List (List ℕ)) (tag lines : ℕ) (service : ServiceView) (sessions : List SessionView)
    → IsOpened s (replicate workers root) tag lines service sessions → AreInPlace service sessions
opened_in_place s workers root tag lines service sessions opened =
    let many : length sessions ≡ workers = opened.one_each ∙ length-replicate workers root in
    record {
      all = opened.one_each ∙ sym opened.count;
      each = λ i x at.
          let within : i < length sessions = slice_get_within sessions i x at in
          let root_there = get-replicate workers i root (omega (arith, within, many)) in
          let has = opened.each i root root_there in
          let same : x ≡ begun (record { tag = tag; actor = i }) has.handle = same_Some x _ (sym at ∙ has.is_new) in
          ap (λ (v : SessionView). v.owner) same ∙ ap (λ (t : ℕ). owner_of t i) (sym opened.same_tag);
    }
  where
    owner_of : ℕ → ℕ → Owner
    owner_of t i = record { tag = t; actor = i }

-- they are all of the service
are_ones : (service : ServiceView) (sessions : List SessionView) → AreInPlace service sessions → All (IsOne service) sessions
are_ones service sessions placed =
    by_place (IsOne service) sessions (λ i x at.
    let within : i < length sessions = slice_get_within sessions i x at in
    let owner = placed.each i x at in
    subst (IsOwner service) (sym owner) (refl, omega (arith, within, placed.all)))

-- ---- the whole

pub served_in_place : (s : State) (workers : ℕ) (root : List (List ℕ)) (tag lines : ℕ) (service : ServiceView) (jobs : List Request) (before after : List SessionView) (replies : List Reply)
    → IsOpened s (replicate workers root) tag lines service before → IsServed service jobs before after replies → AreInPlace service after
served_in_place s workers root tag lines service jobs before after replies opened served =
    let placed = opened_in_place s workers root tag lines service before opened in
    record {
      all = as_many service jobs before served.lists after served.work ∙ placed.all;
      each = all_same service jobs before served.lists after (λ i owner. owner ≡ record { tag = service.tag; actor = i }) served.work placed.each;
    }

-- what the replies opened can be released by the sessions that come back
pub can_be_released : (s : State) (workers : ℕ) (root : List (List ℕ)) (tag lines : ℕ) (service : ServiceView) (jobs : List Request) (before after : List SessionView) (replies : List Reply)
    → IsOpened s (replicate workers root) tag lines service before → IsServed service jobs before after replies
    → All (IsOurs service) (opened_in replies)
can_be_released s workers root tag lines service jobs before after replies opened served =
    all_opened service replies
    (reply_ours service jobs before after replies (are_ones service before (opened_in_place s workers root tag lines service before opened)) served)
