-- A service from its opening to its closing.
use Rattle.std.proofs.Common.{◌≡◌, ℕ, suc, List, [], ◌∷◌, ◌++◌, Ok, Err, Result, Some, slice_get, refl, sym, ap, ◌∙◌, subst, append-nil, append_assoc}
use Rattle.path_text.specs.declared.errno.Errno.{Errno}
use Rattle.handles.specs.declared.owner.Owner.{Owner}
use Rattle.tree_model.specs.declared.answer.Event.{Event}
use Rattle.tree_model.specs.State.{State, TOP, is_dir}
use Rattle.tree_model.specs.Steps.{held, grants}
use Rattle.tree_model.specs.Trees.{IsState}
use Rattle.tree_model.proofs.StepsKept.{grants_keep_trees, directory_at-is_dir}
use Rattle.step_resolver.specs.Order.{events_of}
use Rattle.step_resolver.specs.WalkHistory.{own_events}
use Rattle.root_ops.specs.EachCall.{EachCallTells as CallsOfRootsTell}
use Rattle.root_ops.specs.declared.op.Request.{Request}
use Rattle.root_ops.specs.declared.reply.Reply.{Reply as Told}
use Rattle.race_core.specs.OwnHistory.{IsHistory}
use Rattle.sessions.specs.Call.{root_of, Called}
use Rattle.sessions.specs.Course.{OneCall, CallsLead, Course, IsRooted, RootsStand, ServicesTell}
use Rattle.sessions.specs.Open.{granted, after_grant, HasRoot}
use Rattle.sessions.specs.Session.{SessionView, begun}
use Rattle.sessions.proofs.EachCall.{each_call_tells_in_threads}

-- ---- the opening

by_grant : (s t : State) (i : ℕ) (names : List (List ℕ)) (roots : List (List (List ℕ))) (found : Result State Errno) → IsState s
    → ((u : State) → IsState u → granted u (suc i) roots ≡ Ok t → IsState t) → grants s i names ≡ found → after_grant (λ u. granted u (suc i) roots) i found ≡ Ok t → IsState t
by_grant s t i names roots (Err error) tree go g e = cc (e)
by_grant s t i names roots (Ok u) tree go g e = go u (grants_keep_trees s u i names tree g) e

-- a tree with roots granted is a tree
granted_tree : (s t : State) (i : ℕ) (roots : List (List (List ℕ))) → IsState s → granted s i roots ≡ Ok t → IsState t
granted_tree s t i [] tree e =
    let same : s ≡ t = cc (e) in
    subst IsState same tree
granted_tree s t i (names ∷ roots) tree e =
    by_grant s t i names roots (grants s i names) tree (λ u is f. granted_tree u t (suc i) roots is f) refl e

same_session : (a b : SessionView) → Some a ≡ Some b → a ≡ b
same_session a b e = cc (e)

module _ (s opening : State) (roots : List (List (List ℕ))) (events : List Event) (course : Course s roots opening events) where
  is_opening : opening ≡ course.service.opening
  is_opening = course.closed.same_opening ∙ course.same_opening

  same_nodes : opening.nodes ≡ s.nodes
  same_nodes = ap (λ (o : State). o.nodes) is_opening ∙ course.opened.nodes

  module _ (i : ℕ) (names : List (List ℕ)) (first : SessionView) (tree : IsState s) (root : slice_get roots i ≡ Some names) (there : slice_get course.first i ≡ Some first) where
    has : HasRoot s course.service.opening course.tag i names (slice_get course.first i)
    has = course.opened.each i names root

    is_first : first ≡ begun (record { tag = course.tag; actor = i }) has.handle
    is_first = same_session first (begun (record { tag = course.tag; actor = i }) has.handle) (sym there ∙ has.is_new)

    root_stands : IsRooted s opening events names first
    root_stands = record {
      node = has.node;
      directory = has.directory;
      history = record {
        tree = subst IsState (sym is_opening) (granted_tree s course.service.opening 0 roots tree course.opened.is_granted);
        legal = course.closed.legal;
        opened = ap (λ (f : SessionView). held opening f.owner.actor f.root) is_first ∙ ap (λ (o : State). held o i has.handle) is_opening ∙ has.is_open;
        directory = ap (λ nodes. is_dir nodes has.node) same_nodes ∙ directory_at-is_dir s.nodes TOP has.node names has.directory;
      };
    }

-- ---- the calls

-- the session stays whose it was, at its root, and its log goes on
record GoesOn (session last : SessionView) : Type 0 where
  pub owner : last.owner ≡ session.owner
  pub root : last.root ≡ session.root
  pub more : List Event
  pub logged : last.log ≡ session.log ++ more

call_goes_on : (before after : SessionView) (request : Request) (reply : Told) → Called before request after reply → GoesOn before after
call_goes_on before after request reply called = record {
  owner = ap (λ (s : SessionView). s.owner) called.marked ∙ ap (λ (s : SessionView). s.owner) called.made.logged;
  root = ap (λ (s : SessionView). s.root) called.marked ∙ ap (λ (s : SessionView). s.root) called.made.logged;
  more = events_of before.owner.actor called.made.lines;
  logged = ap (λ (s : SessionView). s.log) called.marked ∙ ap (λ (s : SessionView). s.log) called.made.logged;
}

then_on : (first mid last : SessionView) → GoesOn first mid → GoesOn mid last → GoesOn first last
then_on first mid last one two = record {
  owner = two.owner ∙ one.owner;
  root = two.root ∙ one.root;
  more = one.more ++ two.more;
  logged = two.logged ∙ ap (λ es. es ++ two.more) one.logged ∙ append_assoc first.log one.more two.more;
}

calls_go_on : (session : SessionView) (calls : List OneCall) (last : SessionView) → CallsLead session calls last → GoesOn session last
calls_go_on session [] last same = record {
  owner = ap (λ (s : SessionView). s.owner) same;
  root = ap (λ (s : SessionView). s.root) same;
  more = [];
  logged = ap (λ (s : SessionView). s.log) same ∙ sym (append-nil session.log);
}
calls_go_on session (call ∷ calls) last led =
    then_on session call.after last (call_goes_on session call.after call.request call.reply led.0) (calls_go_on call.after calls last led.1)

pub roots_stand : RootsStand
roots_stand s opening roots events course i names first tree root there = root_stands s opening roots events course i names first tree root there

pub services_tell : CallsOfRootsTell → ServicesTell
services_tell tell s opening roots events course i p names first before after last earlier later request reply tree root there is_last led called onward none =
    let rooted = roots_stand s opening roots events course i names first tree root there in
    let so_far = calls_go_on first earlier before led in
    let one = call_goes_on before after request reply called in
    let rest = calls_go_on after later last onward in
    let history : IsHistory opening events (root_of before) rooted.node =
    subst (λ (o : Owner). IsHistory opening events (record { owner = o; handle = before.root }) rooted.node) (sym so_far.owner)
    (subst (λ (h : ℕ). IsHistory opening events (record { owner = first.owner; handle = h }) rooted.node) (sym so_far.root) rooted.history) in
    let same_actor : last.owner.actor ≡ before.owner.actor = ap (λ (o : Owner). o.actor) (rest.owner ∙ one.owner) in
    let own : own_events before.owner.actor events ≡ after.log ++ rest.more =
    ap (λ a. own_events a events) (sym same_actor) ∙ sym (course.closed.own p last is_last) ∙ rest.logged in
    (rooted.node, (rooted.directory, each_call_tells_in_threads tell opening events before after request reply rooted.node rest.more history none called own))
