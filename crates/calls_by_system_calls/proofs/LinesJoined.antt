-- The lines of a call that are made by system calls are its events in a history.
use Rattle.std.proofs.Common.{◌≡◌, ℕ, ◌+◌, ◌<◌, Bool, true, false, if◌then◌else◌, List, length, Some, None, refl, sym, ap, ◌∙◌, subst, arith}
use Rattle.std.specs.Prelude.{◌==◌}
use Rattle.std.proofs.lemmas.Bool.{eqb-true}
use Rattle.std.proofs.lemmas.Option.{none-some, same_Some}
use Rattle.tree_model.specs.declared.tree.TheConstants.{NUMBERS_MAX}
use Rattle.tree_model.specs.Steps.{held}
use Rattle.step_resolver.specs.Order.{Line, events_of}
use Rattle.step_resolver.specs.WalkHistory.{own_events}
use Rattle.root_ops.specs.declared.below.Below.{Below}
use Rattle.root_ops.specs.declared.op.Op.{Op}
use Rattle.root_ops.specs.Blind.{CallsTellByAnyNumbers}
use Rattle.root_ops.specs.Renumbered.{lines_by}
use Rattle.calls_by_system_calls.specs.Conversations.{lines_of, ConversationsAreCalls}
use Rattle.calls_by_system_calls.specs.Joined.{call_in, descriptors_before, CallsTellBySystemCalls, HasHistory, LinesAreMade, LinesHaveHistories}
use Rattle.calls_by_system_calls.specs.Linux.{Linux, state_at}
use Rattle.calls_by_system_calls.specs.Lines.{Descriptors, IsNoneOf, numbers_opened}
use Rattle.calls_by_system_calls.proofs.AtMoment.{numbering}
use Rattle.calls_by_system_calls.proofs.Joining.{Stands}
use Rattle.calls_by_system_calls.proofs.JoiningLines.{Joined, joins}
use Rattle.calls_by_system_calls.proofs.Woven.{not_woven}

module _ (x : Linux) (below : Below) (nodes : ℕ → ℕ) (root node : ℕ) (lines : List Line) (counts : List ℕ)
    (made : LinesAreMade x below nodes root node lines counts) where
  abbrev table : Descriptors
  table = descriptors_before x below.root.handle node

  is_root : (h d : ℕ) → table.on h ≡ Some d → (h ≡ below.root.handle) × (node ≡ d)
  is_root h d e = by (h == below.root.handle) refl e
    where
      by : (b : Bool) → (h == below.root.handle) ≡ b → (if b then Some node else None) ≡ Some d
          → (h ≡ below.root.handle) × (node ≡ d)
      by true q p = (eqb-true h below.root.handle q, same_Some node d p)
      by false q p = absurd (none-some d p)

  begins_so : Stands x.opening x.opening 0 table (λ h. root)
  begins_so = record {
    handles = x.opening.handles;
    is = refl;
    woven = not_woven 0 x.opening.handles;
    tree = made.linux.tree;
    on = λ h d e. made.held ∙ ap Some (is_root h d e).1;
    apart = λ h j d e p q r. (is_root h d p).0 ∙ sym (is_root j e q).0;
    count = omega arith;
  }

  few : (n : ℕ) → length (state_at x n).handles + (0 + length lines) < NUMBERS_MAX
  few n = let most : NUMBERS_MAX ≡ 281474976710656 = refl in omega (arith, made.few n, most)

  joined : Joined x made.linux nodes 0 x.opening lines counts (λ h. root)
  joined =
      joins x made.linux nodes lines counts 0 x.opening 0 table (λ h. root) few begins_so made.made
      (λ h d e. subst (λ z. IsNoneOf z (numbers_opened lines)) (sym (is_root h d e).0) made.differ.0) made.differ.1

  -- the root keeps its number
  root_is : joined.g below.root.handle ≡ root
  root_is = joined.same below.root.handle made.differ.0

  has_history : (op : Op) (room : Bool) → HasHistory x below op room nodes root node lines counts
  has_history op room = record {
    f = numbering joined.g nodes;
    by_nodes = refl;
    by_root = root_is;
    window = joined.window;
    is_window = joined.is_window;
    is_call = record {
      tree = made.linux.tree;
      legal_before = tt;
      legal = joined.legal;
      own = subst (λ a. own_events a joined.window ≡ events_of a (lines_by (numbering joined.g nodes) lines))
          (sym made.program) joined.own;
      root = subst (λ a. held x.opening a (joined.g below.root.handle) ≡ Some node) (sym made.program)
          (ap (held x.opening 0) root_is ∙ made.held);
      root_is_dir = made.directory;
    };
  }

pub lines_have : LinesHaveHistories
lines_have x below op room nodes root node lines counts made =
    has_history x below nodes root node lines counts made op room

pub calls_tell : ConversationsAreCalls → CallsTellByAnyNumbers → CallsTellBySystemCalls
calls_tell are by_any below op turn exchanges reply begins is x nodes root node counts made =
    let lines = lines_of turn exchanges reply is in
    let history = has_history x below nodes root node lines counts made op begins.0.0 in (
      history,
      by_any history.f (call_in x below op begins.0.0 node lines history.window) reply
          (are below op turn exchanges reply begins is) history.is_call,
    )
