-- What the replies opened is released by calls of the sessions that opened it.
use Rattle.std.proofs.Common.{◌≡◌, ◌==◌, ⊎_elim, inl, inr, ℕ, zero, suc, ◌<◌, true, nat_lt, List, [], ◌∷◌, length, slice_get, slice_set, Some, refl, sym, ap, ◌∙◌, subst, get_or, eq-eqb, length-set, arith}
use Rattle.std.specs.Prelude.{All}
use Rattle.std.proofs.lemmas.Bool.{false≢true, cases_eq, lt-ltb, and_from}
use Rattle.std.proofs.lemmas.List.Elements.{All-head, All-tail}
use Rattle.std.proofs.lemmas.Option.{slice_get-get_or, none-some}
use Rattle.handles.specs.declared.owner.Owner.{Owner}
use Rattle.tree_model.proofs.StepLaws.{slice_get-set_other}
use Rattle.root_ops.specs.declared.reply.Reply.TheVariants.{Done, Kept, Fault}
use Rattle.root_ops.specs.Order.{same_owner}
use Rattle.root_ops.specs.View.{reply_view}
use Rattle.sessions.specs.Call.{ReleaseTells, is_of}
use Rattle.handles.specs.Objects.{StandingObject}
use Rattle.root_ops.specs.declared.op.Request.{Request}
use Rattle.root_ops.specs.declared.reply.Reply.{Reply}
use Rattle.sessions.specs.Service.{ServiceView}
use Rattle.sessions.specs.Session.{SessionView}
use Rattle.workers.specs.Serve.{IsServed}
use Rattle.workers.specs.Work.{Calls}
use Rattle.run_command.specs.declared.jobs.TheConstants.{TAG}
use Rattle.run_command.specs.Jobs.{IsOurs, AreInPlace, IsClosedOnce, IsReleased, AreReleased, IsBegun, AreDone, release_of, opened_in}
use Rattle.scripts.specs.Writing.{tree_of}
use Rattle.scripts.specs.Scenario.{Said, first_root}
use Rattle.run_command.proofs.Owners.{calls_own, served_in_place, can_be_released}

-- a Release of the session's own closes the object, unless by the session's log it is closed
closed_once : (session : SessionView) (standing : StandingObject) (told : Reply) → same_owner standing.owner session.owner ≡ true → ReleaseTells session standing (reply_view told)
    → IsClosedOnce session standing told
closed_once session standing Done ours tells = inl refl
closed_once session standing (Kept other) ours tells = absurd (false≢true (sym tells.0 ∙ ours))
closed_once session standing (Fault error) ours tells = inr tells.1
closed_once session standing other ours tells = absurd tells

-- by its owner the object is the session's, and the session the service's
same_owners : (a b : Owner) → a.tag ≡ b.tag → a.actor ≡ b.actor → same_owner a b ≡ true
same_owners a b tag actor = and_from (a.tag == b.tag) (a.actor == b.actor) (eq-eqb a.tag b.tag tag) (eq-eqb a.actor b.actor actor)

is_ours : (service : ServiceView) (session : SessionView) → session.owner.tag ≡ service.tag → session.owner.actor < service.count → is_of service session ≡ true
is_ours service session tag within =
    and_from (session.owner.tag == service.tag) (nat_lt session.owner.actor service.count) (eq-eqb session.owner.tag service.tag tag) (lt-ltb session.owner.actor service.count within)

pub released : (service : ServiceView) (standing : StandingObject) (sessions : List SessionView) (i : ℕ) (default called : SessionView) (request : Request) (told : Reply)
    → AreInPlace service sessions → IsOurs service standing → standing.owner.actor ≡ i → release_of standing ≡ request
    → Calls service (get_or sessions i default) request called told → IsReleased service standing sessions (slice_set sessions i called)
released service standing sessions i default called request told placed ours actor asks calls =
    let within : standing.owner.actor < length sessions = omega (arith, ours.1, placed.all) in
    let session : SessionView = get_or sessions i default in
    let there : slice_get sessions standing.owner.actor ≡ Some session =
    slice_get-get_or sessions standing.owner.actor default within ∙ ap (λ (k : ℕ). Some (get_or sessions k default)) actor in
    let owner = placed.each standing.owner.actor session there in
    let tag : session.owner.tag ≡ service.tag = ap (λ (o : Owner). o.tag) owner in
    let number : session.owner.actor ≡ standing.owner.actor = ap (λ (o : Owner). o.actor) owner in
    let call : Calls service session (release_of standing) called told = subst (λ (r : Request). Calls service session r called told) (sym asks) calls in
    record {
      session = session;
      there = there;
      called = called;
      told = told;
      call = call;
      closed =
          closed_once session standing told (same_owners standing.owner session.owner (ours.0 ∙ sym tag) (sym number))
          ((call.0 (is_ours service session tag (omega (arith, number, ours.1)))).released standing refl);
      after_it = ap (λ (k : ℕ). slice_set sessions k called) (sym actor);
    }

-- the sessions stay in their places
pub stays_in_place : (service : ServiceView) (standing : StandingObject) (before after : List SessionView) → AreInPlace service before → IsReleased service standing before after
    → AreInPlace service after
stays_in_place service standing before after placed is =
    let at = standing.owner.actor in
    let owner : is.called.owner ≡ record { tag = service.tag; actor = at } =
    (calls_own service is.session (release_of standing) is.called is.told (is_of service is.session) refl is.call).same ∙ placed.each at is.session is.there in
    record {
      all = ap length is.after_it ∙ length-set before at is.called ∙ placed.all;
      each = λ i s there.
          ⊎_elim
          (λ same. ap (λ (x : SessionView). x.owner) (set_here before at is.called i s same (ap (λ ss. slice_get ss i) (sym is.after_it) ∙ there)) ∙ owner ∙ ap (λ k. owner_of service.tag k) (sym same))
          (λ other. placed.each i s (sym (slice_get-set_other before at is.called i other) ∙ ap (λ ss. slice_get ss i) (sym is.after_it) ∙ there))
          (cases_eq i at);
    }
  where
    owner_of : ℕ → ℕ → Owner
    owner_of t k = record { tag = t; actor = k }

    set_here : (ss : List SessionView) (at : ℕ) (x : SessionView) (i : ℕ) (s : SessionView) → i ≡ at → slice_get (slice_set ss at x) i ≡ Some s → s ≡ x
    set_here [] at x i s same e = absurd (none-some s e)
    set_here (y ∷ ss) zero x zero s same e = cc (e)
    set_here (y ∷ ss) zero x (suc i) s same e = absurd (omega (arith, same))
    set_here (y ∷ ss) (suc at) x zero s same e = absurd (omega (arith, same))
    set_here (y ∷ ss) (suc at) x (suc i) s same e = set_here ss at x i s (omega (arith, same)) e

-- ---- all of them

pub released_next : (service : ServiceView) (standing : StandingObject) (others both all : List StandingObject) (first before between : List SessionView) → both ≡ standing ∷ others
    → IsReleased service standing before between → ((after : List SessionView) → AreReleased service both before after → AreReleased service all first after)
    → (after : List SessionView) → AreReleased service others between after → AreReleased service all first after
released_next service standing others both all first before between are is so_far after later =
    so_far after (subst (λ (os : List StandingObject). AreReleased service os before after) (sym are) (between, (is, later)))

pub rest_there : (service : ServiceView) (standing : StandingObject) (others both : List StandingObject) → both ≡ standing ∷ others → All (IsOurs service) both
    → All (IsOurs service) others
rest_there service standing others both are all =
    All-tail (IsOurs service) standing others (subst (All (IsOurs service)) are all)

pub next_there : (service : ServiceView) (standing : StandingObject) (others both : List StandingObject) → both ≡ standing ∷ others → All (IsOurs service) both → IsOurs service standing
next_there service standing others both are all =
    All-head (IsOurs service) standing others (subst (All (IsOurs service)) are all)

-- what was lent to be released by is what came of serving, and it comes back
pub can_release : (workers : ℕ) (said : Said) (service : ServiceView) (at_first : List SessionView) (jobs : List Request) (served lent : List SessionView)
    (replies : List Reply) (opened : List StandingObject) → IsBegun workers said service at_first jobs → IsServed service jobs at_first served replies
    → opened ≡ opened_in replies → lent ≡ served → AreInPlace service lent × All (IsOurs service) opened
can_release workers said service at_first jobs served lent replies opened begun are_served opened_is lent_is = (
  subst (AreInPlace service) (sym lent_is)
      (served_in_place (tree_of said) workers (first_root said.plans) TAG said.lines service jobs at_first served replies begun.opened are_served),
  subst (All (IsOurs service)) (sym opened_is)
      (can_be_released (tree_of said) workers (first_root said.plans) TAG said.lines service jobs at_first served replies begun.opened are_served),
)

pub done : (workers : ℕ) (said : Said) (service : ServiceView) (at_first : List SessionView) (jobs : List Request) (served lent back after : List SessionView)
    (replies : List Reply) (opened : List StandingObject) → IsBegun workers said service at_first jobs → IsServed service jobs at_first served replies
    → opened ≡ opened_in replies → lent ≡ served → AreReleased service opened lent back → after ≡ back → AreDone workers said replies service after
done workers said service at_first jobs served lent back after replies opened begun are_served opened_is lent_is released after_is = record {
  at_first = at_first;
  jobs = jobs;
  begun = begun;
  served = served;
  are_served = are_served;
  released =
      subst (λ ss. AreReleased service (opened_in replies) served ss) (sym after_is)
      (subst (λ ss. AreReleased service (opened_in replies) ss back) lent_is (subst (λ os. AreReleased service os lent back) opened_is released));
}
