-- The lines of a change of one entry: those of a walk, one step and a Close.
use Rattle.std.specs.Prelude.{◌≡◌, ℕ, List, [], ◌∷◌, ◌++◌, Bool, true, false, Option, Result, refl}
use Rattle.std.proofs.Common.{sym, ap, subst, ◌∙◌}
use Rattle.path_text.specs.declared.errno.Errno.{Errno}
use Rattle.path_text.specs.declared.errno.Errno.TheVariants.{NotFound}
use Rattle.path_text.specs.declared.path.Rule.{Rule}
use Rattle.path_text.specs.declared.path.Rule.TheVariants.{Drop, Refuse}
use Rattle.path_text.specs.declared.path.Split.{Split}
use Rattle.path_text.specs.Split.{split_of}
use Rattle.path_text.specs.Text.{reading_of}
use Rattle.tree_model.specs.declared.step.StepOf.TheVariants.{Close}
use Rattle.tree_model.specs.StepWith.{StepWith}
use Rattle.step_machine.specs.Machine.{taken}
use Rattle.step_resolver.specs.Order.{Handle, Walking, Line, answered, no_room, not_made, answer_of}
use Rattle.step_resolver.specs.Order as walk
use Rattle.root_ops.specs.declared.aim.Aim.{Aim}
use Rattle.root_ops.specs.declared.aim.Aim.TheVariants.{Changes}
use Rattle.root_ops.specs.declared.aim.Change.{Change}
use Rattle.root_ops.specs.declared.aim.Change.TheVariants as changes
use Rattle.root_ops.specs.declared.aim.Wanted.TheVariants as wants
use Rattle.root_ops.specs.declared.below.Below.{Below}
use Rattle.root_ops.specs.declared.op.Op.{Op}
use Rattle.root_ops.specs.declared.op.Op.TheVariants.{CreateFile, CreateDir, CreateLink, RemoveFile, RemoveDir}
use Rattle.root_ops.specs.Acts.{IsEntry}
use Rattle.root_ops.specs.Order.{Reply, fault, gives, acting, closing, walking, CallTurn, more, ends, change_step, reply_to, way_of, walked, walks, on_entry, in_directory, unless_fault, starts, calls, LeadsTo}
use Rattle.root_ops.proofs.Replies.{at_its_end, no_lines}
use Rattle.root_ops.proofs.Handles.WalkParts.{IsEnded, walk_ends}
use Rattle.kernel_walks.specs.Behind.{IsChangeOf, IsLineOf, ActsBehind, Behind, IsBehindWalk, EntriesAreChangedBehindWalks}
use Rattle.kernel_walks.specs.Told.{as_it_was, AreTold}

-- ---- the first turn

by_rule : (below : Below) (rule r : Rule) (change ch : Change) (text path : List ℕ) → (rule ≡ r) × ((change ≡ ch) × (text ≡ path)) → on_entry below r ch path ≡ on_entry below rule change text
by_rule below rule r change ch text path is =
    ap (λ (x : Rule). on_entry below x ch path) (sym is.0) ∙ ap (λ (x : Change). on_entry below rule x path) (sym is.1.0) ∙ ap (λ (x : List ℕ). on_entry below rule change x) (sym is.1.1)

starts_so : (below : Below) (op : Op) (rule : Rule) (change : Change) (text : List ℕ) → IsChangeOf op rule change text → starts below true op ≡ on_entry below rule change text
starts_so below (CreateFile path) rule change text is = by_rule below rule Refuse change changes.MakeFile text path is
starts_so below (CreateDir path) rule change text is = by_rule below rule Drop change changes.MakeDir text path is
starts_so below (CreateLink path target) rule change text is = by_rule below rule Refuse change (changes.MakeLink target) text path is
starts_so below (RemoveFile path) rule change text is = by_rule below rule Refuse change changes.RemoveFile text path is
starts_so below (RemoveDir path) rule change text is = by_rule below rule Drop change changes.RemoveDir text path is
starts_so below op rule change text is = absurd is

module _ (below : Below) (op : Op) (rule : Rule) (change : Change) (text : List ℕ) (split : Split) (is : IsChangeOf op rule change text) (entry : IsEntry text rule split) where
  abbrev finds : Aim
  finds = Changes change split.name

  pub walks_so : starts below true op ≡ walks below finds split.dir
  walks_so =
      starts_so below op rule change text is
      ∙ ap (λ (why : Option Errno). unless_fault why (in_directory below change (split_of (reading_of text) rule))) entry.0
      ∙ ap (λ (s : Result Split Errno). in_directory below change s) entry.1

  -- ---- behind the walk

  module _ (dir : Handle) (reply : Reply) where
    abbrev own : StepWith ℕ
    own = change_step change dir.number split.name

    closed : (step close : Line) (lines : List Line) → IsLineOf own step → IsLineOf (Close dir.number) close
        → LeadsTo below (ends (reply_to wants.Done (answer_of step))) lines (ends reply) → ActsBehind change dir split.name (step ∷ close ∷ lines) reply
    closed step close lines is_step is_close leads = record {
      step = step;
      close = close;
      both = ap (λ ls. step ∷ close ∷ ls) (no_lines below (reply_to wants.Done (answer_of step)) reply lines leads);
      is_step = is_step;
      is_close = is_close;
      is_reply = sym (at_its_end below (reply_to wants.Done (answer_of step)) reply lines leads);
    }

    closes : (step : Line) (lines : List Line) → IsLineOf own step → LeadsTo below (more (closing dir.number [] (gives (reply_to wants.Done (answer_of step))))) lines (ends reply)
        → ActsBehind change dir split.name (step ∷ lines) reply
    closes step [] is_step leads = cc (leads)
    closes step (answered made answer ∷ lines) is_step leads = closed step (answered made answer) lines is_step leads.0 leads.1
    closes step (no_room made answer ∷ lines) is_step leads = closed step (no_room made answer) lines is_step leads.0 leads.1
    closes step (not_made error ∷ lines) is_step leads = closed step (not_made error) lines is_step leads.0 leads.1

    acts : (lines : List Line) → LeadsTo below (more (acting wants.Done own (dir.number ∷ []))) lines (ends reply) → ActsBehind change dir split.name lines reply
    acts [] leads = cc (leads)
    acts (answered made answer ∷ lines) leads = closes (answered made answer) lines leads.0 leads.1
    acts (no_room made answer ∷ lines) leads = closes (no_room made answer) lines leads.0 leads.1
    acts (not_made error ∷ lines) leads = closes (not_made error) lines leads.0 leads.1

    gave_up : (lines : List Line) → LeadsTo below (more (closing dir.number [] (gives (fault NotFound)))) lines (ends reply) → reply ≡ fault NotFound
    gave_up [] leads = cc (leads)
    gave_up (answered made answer ∷ lines) leads = sym (at_its_end below (fault NotFound) reply lines leads.1)
    gave_up (no_room made answer ∷ lines) leads = sym (at_its_end below (fault NotFound) reply lines leads.1)
    gave_up (not_made error ∷ lines) leads = sym (at_its_end below (fault NotFound) reply lines leads.1)

  behind : (reply : Reply) (room : Bool) (end : walk.Turn) → IsEnded end → (rest : List Line) → LeadsTo below (walked below room finds end) rest (ends reply)
      → Behind change split.name end rest reply
  behind reply room (walk.more w) over rest leads = absurd over
  behind reply room (walk.found dir names) over rest leads = acts dir reply rest leads
  behind reply room (walk.partial dir names others) over rest leads = gave_up dir reply rest leads
  behind reply room (walk.failed error) over rest leads = (no_lines below (fault error) reply rest leads, sym (at_its_end below (fault error) reply rest leads))

  pub is_behind : (lines : List Line) (reply : Reply) → LeadsTo below (starts below true op) lines (ends reply) → IsBehindWalk below change split lines reply
  is_behind lines reply leads =
      let parts = walk_ends below finds reply lines true (walk.begins (way_of below finds) split.dir) (subst (λ t. LeadsTo below t lines (ends reply)) walks_so leads) in
      record {
        first = parts.first;
        rest = parts.rest;
        whole = parts.whole;
        end = parts.end;
        walked = parts.leads;
        behind = behind reply parts.room parts.end parts.ended parts.rest parts.onward;
      }

pub entries_behind_walks : EntriesAreChangedBehindWalks
entries_behind_walks below op rule change text split lines reply is entry leads = is_behind below op rule change text split is entry lines reply leads

-- ---- lines in a row

-- what leads a walk on leads the call on
pub walk_leads : (below : Below) (aim : Aim) (room : Bool) (turn : walk.Turn) (lines : List Line) (w : Walking) → walk.LeadsTo (way_of below aim) turn lines (walk.more w)
    → LeadsTo below (walked below room aim turn) lines (more (walking w aim))
walk_leads below aim room turn [] w leads = ap (walked below room aim) leads
walk_leads below aim room (walk.more v) (answered made answer ∷ lines) w leads = (leads.0, walk_leads below aim true (walk.take (way_of below aim) true v answer) lines w leads.1)
walk_leads below aim room (walk.more v) (no_room made answer ∷ lines) w leads = (leads.0, walk_leads below aim false (walk.take (way_of below aim) false v answer) lines w leads.1)
walk_leads below aim room (walk.more v) (not_made error ∷ lines) w leads = (leads.0, walk_leads below aim true (walk.take (way_of below aim) true v (answer_of (not_made error))) lines w leads.1)
walk_leads below aim room (walk.found handle names) (line ∷ lines) w leads = absurd leads
walk_leads below aim room (walk.partial handle names rest) (line ∷ lines) w leads = absurd leads
walk_leads below aim room (walk.failed error) (line ∷ lines) w leads = absurd leads

-- lines that lead on from where others led
pub joined : (below : Below) (turn mid end : CallTurn) (first rest : List Line) → LeadsTo below turn first mid → LeadsTo below mid rest end → LeadsTo below turn (first ++ rest) end
joined below turn mid end [] rest led onward = subst (λ t. LeadsTo below t rest end) (sym led) onward
joined below (more doing) mid end (line ∷ first) rest led onward = (led.0, joined below (taken (calls below) doing line) mid end first rest led.1 onward)
joined below (ends reply) mid end (line ∷ first) rest led onward = absurd led

-- the history has the first of them
pub told_first : (below : Below) (turn mid : CallTurn) (first rest was : List Line) → LeadsTo below turn first mid → AreTold below mid rest was → AreTold below turn (first ++ rest) (first ++ was)
told_first below turn mid [] rest was led are = subst (λ t. AreTold below t rest was) (sym led) are
told_first below (more doing) mid (line ∷ first) rest was led are = (as_it_was refl, told_first below (taken (calls below) doing line) mid first rest was led.1 are)
told_first below (ends reply) mid (line ∷ first) rest was led are = absurd led

-- or all of them
pub told_all : (below : Below) (turn end : CallTurn) (lines : List Line) → LeadsTo below turn lines end → AreTold below turn lines lines
told_all below turn end [] leads = tt
told_all below (more doing) end (line ∷ lines) leads = (as_it_was refl, told_all below (taken (calls below) doing line) end lines leads.1)
told_all below (ends reply) end (line ∷ lines) leads = absurd leads
