-- A session's calls, and the walks in them, in a closed history.
use Rattle.std.proofs.Common.{◌≡◌, ℕ, List, ◌++◌, ap, ◌∙◌, subst}
use Rattle.path_text.specs.Reading.{Reading}
use Rattle.tree_model.specs.declared.answer.Event.{Event}
use Rattle.tree_model.specs.History.{IsLegal, after_events}
use Rattle.tree_model.specs.State.{State}
use Rattle.tree_model.specs.Steps.{held}
use Rattle.tree_model.proofs.HistoryLaws.{IsLegal-front, IsLegal-back}
use Rattle.step_resolver.specs.declared.walk.Root.{Root}
use Rattle.step_resolver.specs.Order.{Way, Line, events_of}
use Rattle.step_resolver.specs.Headline.{EveryWalk}
use Rattle.step_resolver.specs.WalkHistory.{IsWalkInHistory, own_events}
use Rattle.root_ops.specs.CallHistory.{CallInHistory, begin_of, actor_of, IsCallInHistory}
use Rattle.root_ops.specs.TurnView.{below_of}
use Rattle.race_core.specs.OwnHistory.{NoneCloses, IsHistory}
use Rattle.race_core.proofs.OwnHistory.{around, root_at}
use Rattle.sessions.specs.Threads.{CallsStandInOrder, WalksInThreads, walk_in}

pub calls_stand_in_order : CallsStandInOrder
calls_stand_in_order a events earlier own later e = around a events earlier own later e

-- a call whose window is a part of a history is in it
pub call_is_there : (c : CallInHistory) (events rest : List Event) → IsHistory c.opening events c.below.root c.root → events ≡ c.before ++ (c.window ++ rest)
    → NoneCloses c.below.root.handle (own_events (actor_of c) c.before) → own_events (actor_of c) c.window ≡ events_of (actor_of c) c.lines → IsCallInHistory c
call_is_there c events rest is whole none own =
    let has = root_at c.below c.opening events c.before c.root is none in
    let legal : IsLegal c.opening (c.before ++ (c.window ++ rest)) = subst (IsLegal c.opening) whole is.legal in
    record {
      tree = is.tree;
      legal_before = IsLegal-front c.opening c.before (c.window ++ rest) legal;
      legal = IsLegal-front (begin_of c) c.window rest (IsLegal-back c.opening c.before (c.window ++ rest) legal);
      own = own;
      root = has.root;
      root_is_dir = has.root_is_dir;
    }

-- so is a walk
walk_is_there : (opening : State) (events : List Event) (root : Root) (node : ℕ) (way : Way) (path : Reading) (lines : List Line) (before window rest : List Event)
    → IsHistory opening events root node → way.root ≡ root.handle → NoneCloses root.handle (own_events root.owner.actor before)
    → events ≡ before ++ (window ++ rest) → own_events root.owner.actor window ≡ events_of root.owner.actor lines
    → IsWalkInHistory (walk_in opening root node way path lines before window)
walk_is_there opening events root node way path lines before window rest is same_root none whole own =
    let legal : IsLegal opening (before ++ (window ++ rest)) = subst (IsLegal opening) whole is.legal in
    let has = root_at (below_of root way.flags) opening events before node is none in
    record {
      tree = is.tree;
      legal_before = IsLegal-front opening before (window ++ rest) legal;
      legal = IsLegal-front (after_events opening before) window rest (IsLegal-back opening before (window ++ rest) legal);
      own = own;
      root = ap (held (after_events opening before) root.owner.actor) same_root ∙ has.root;
      root_is_dir = has.root_is_dir;
    }

pub walks_in_threads : EveryWalk → WalksInThreads
walks_in_threads every opening events root node way path lines end before window rest is same_root none whole own leads =
    every (walk_in opening root node way path lines before window) end
    (walk_is_there opening events root node way path lines before window rest is same_root none whole own) leads
