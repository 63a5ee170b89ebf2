-- The lines of a call that opens what a path means lead the resolve to what was opened, or to a missing name.
use Rattle.std.proofs.Common.{◌≡◌, ℕ, List, [], ◌∷◌, ◌++◌, Bool, true, false, not, if◌then◌else◌, refl, sym, ap, subst, ◌∙◌}
use Rattle.std.proofs.lemmas.List.{append-nil}
use Rattle.dialogue.specs.Dialogue.{Exchange, without_signals}
use Rattle.walk_plan.specs.declared.goal.Goal.{Goal}
use Rattle.walk_plan.specs.declared.goal.Goal.TheVariants.{Follow, NoFollow}
use Rattle.step_resolver.specs.Order.{Line}
use Rattle.root_ops.specs.declared.op.Op.{Op}
use Rattle.root_ops.specs.CallHistory.{CallInHistory, IsCallInHistory}
use Rattle.root_ops.specs.Order.{ends, opened, starts, LeadsTo}
use Rattle.kernel_calls.specs.Path.{place_in, text_in}
use Rattle.kernel_calls.specs.declared.look.Outcome.{Outcome}
use Rattle.kernel_calls.specs.declared.look.Outcome.TheVariants.{Value, Fails, FailsAt, Steps}
use Rattle.kernel_walks.specs.AtOnce.{FailsAtOnceTell}
use Rattle.kernel_walks.specs.Behind.{asks_below}
use Rattle.kernel_walks.specs.Resolves.{IsResolve, ResolvesSeenBelow}
use Rattle.calls_by_system_calls.specs.SystemCalls.{Descriptors, StandFor, WalksTo, ends_looks, resolves}
use Rattle.calls_by_system_calls.specs.WholeCalls.{OpensSeen, PathCall, PathTells, PathsAreOpenedBySystemCalls}
use Rattle.calls_by_system_calls.proofs.Noted.{Behind, Opens, ResolveShape, how_of, no_signals, resolved}
use Rattle.calls_by_system_calls.proofs.Standing.{missed_so, path_bits, walks_by}

is_resolve : (follows : Bool) (op : Op) (path : List ℕ) → op ≡ resolves (not follows) path
    → IsResolve op (if follows then Follow else NoFollow) path
is_resolve true op path is = subst (λ o. IsResolve o Follow path) (sym is) (refl, refl)
is_resolve false op path is = subst (λ o. IsResolve o NoFollow path) (sym is) (refl, refl)

module _ (seen : ResolvesSeenBelow) (tell : FailsAtOnceTell) (c : CallInHistory) (d : Descriptors)
    (call : PathCall c.below d c.op) (stand : StandFor c.below d (without_signals call.exchanges) c.lines)
    (in_history : IsCallInHistory c) where
  abbrev how : ℕ
  how = how_of call.known call.follows call.directory

  abbrev path : List ℕ
  path = text_in call.at.slashed

  abbrev goal : Goal
  goal = if call.follows then Follow else NoFollow

  -- the lines are the look-up's: the question for the kind has none
  first_alone : (asks : Bool) (fd : ℕ) (last : List Exchange) (lines : List Line) → Behind asks fd last
      → StandFor c.below d last lines → lines ≡ []
  first_alone false fd last lines behind st = subst (λ z. StandFor c.below d z lines) behind st
  first_alone true fd last lines behind st =
      let own = subst (λ z. StandFor c.below d z lines) behind.1 st in
      own.4 ∙ ap (λ ls. ls ++ own.1) own.2 ∙ own.3

  opens_it : (value : ℕ) → Opens call.at how call.asks (without_signals call.exchanges) value
      → OpensSeen c d call value
  opens_it value m =
      let a = m.got.0 in
      let st = subst (λ z. StandFor c.below d z c.lines) (m.all ∙ ap (λ z. z ++ m.last) m.got.1) stand in
      let w = subst (λ n. WalksTo c.below d (resolves (not call.follows) path) n st.0) m.got.3
      (walks_by c.below d call.known call.at call.is_below call.is_on how (not call.follows)
      (path_bits call.follows call.directory call.known.machine call.is_on.0).stays call.at.slashed (ends_looks m.last) a
      st.0 m.got.2 st.2) in
      record {
        fd = m.fd;
        is_reply = m.is_reply;
        object = w.object;
        is = w.is;
        names = w.names;
        seen = seen c goal path w.before w.object w.told w.names w.others
            (is_resolve call.follows c.op path call.is_op)
            (subst (λ o. LeadsTo c.below (starts c.below true o) (w.before ++ asks_below c.below w.object w.told ∷ [])
            (ends (opened w.object w.names))) (sym call.is_op) w.leads)
            (st.4 ∙ ap (λ ls. st.0 ++ ls) (first_alone call.asks m.fd m.last st.1 m.behind st.3) ∙ append-nil st.0
            ∙ w.all) in_history;
      }

  by_outcome : (o : Outcome) → ResolveShape call.at how call.asks (without_signals call.exchanges) o
      → PathTells c d call o
  by_outcome (Value value) m = opens_it value m
  by_outcome (FailsAt error step) m = tt
  by_outcome Steps m = tt
  by_outcome (Fails error step) failed = λ room.
      let m = missed_so c.below d call.at call.at.slashed how error (without_signals call.exchanges) c.lines call.is_below
      failed stand (no_signals call.exchanges) in (
        m.is,
        (tell c goal path (place_in call.at.slashed) m.misses.passed m.misses.name m.misses.rest
            (is_resolve call.follows c.op path call.is_op) m.at_once m.misses.names room m.misses.all).1 in_history,
      )

pub paths_are_opened : ResolvesSeenBelow → FailsAtOnceTell → PathsAreOpenedBySystemCalls
paths_are_opened seen tell c d call stand in_history =
    by_outcome seen tell c d call stand in_history call.end.value
    (resolved call.known call.at call.follows call.directory call.asks
    (path_bits call.follows call.directory call.known.machine call.is_on.0).path call.exchanges call.end call.whole)
