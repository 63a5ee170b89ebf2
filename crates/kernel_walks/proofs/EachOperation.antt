-- What each operation tells whose walks the kernel may have made.
use Rattle.std.specs.Prelude.{◌≡◌, ℕ, List, [], Bool, true, false, if◌then◌else◌, Option, Some, None, Result, Ok, Err, refl}
use Rattle.std.proofs.Common.{sym, ap, subst, ◌∙◌, inl, inr}
use Rattle.path_text.specs.declared.errno.Errno.{Errno}
use Rattle.path_text.specs.declared.errno.Errno.TheVariants.{NoMemory, Invalid}
use Rattle.path_text.specs.declared.path.Rule.{Rule}
use Rattle.path_text.specs.declared.path.Rule.TheVariants.{Drop, Refuse}
use Rattle.path_text.specs.declared.path.Split.{Split}
use Rattle.path_text.specs.Split.{split_of}
use Rattle.path_text.specs.Text.{text_fault, reading_of}
use Rattle.tree_model.specs.declared.step.Mode.{Mode}
use Rattle.tree_model.specs.StepWith.{StepWith}
use Rattle.handles.specs.Objects.{StandingObject}
use Rattle.walk_plan.specs.declared.goal.Goal.{Goal}
use Rattle.walk_plan.specs.declared.goal.Goal.TheVariants.{Follow, NoFollow}
use Rattle.step_resolver.specs.Order.{Line}
use Rattle.root_ops.specs.declared.aim.Aim.TheVariants.{Opens, Reads, Changes}
use Rattle.root_ops.specs.declared.aim.Change.{Change}
use Rattle.root_ops.specs.declared.aim.Change.TheVariants as changes
use Rattle.root_ops.specs.declared.aim.Wanted.TheVariants as wants
use Rattle.root_ops.specs.declared.op.Op.{Op}
use Rattle.root_ops.specs.declared.op.Op.TheVariants.{Resolve, ResolveNoFollow, ReadLink, CreateFile, CreateDir, CreateLink, RemoveFile, RemoveDir, Rename, MkdirAll, RemoveAll, Single, Release}
use Rattle.root_ops.specs.CallHistory.{CallInHistory, IsCallInHistory, actor_of, IsPath}
use Rattle.root_ops.specs.Copies.{is_release}
use Rattle.root_ops.specs.EachCall.{CallTells, EachCallTells}
use Rattle.root_ops.specs.Order.{Reply, fault, acting, kept, releasing, CallTurn, more, ends, walks, on_path, on_entry, in_directory, from_entry, between, unless_fault, lacks, same_owner, is_single, starts, LeadsTo}
use Rattle.root_ops.specs.View.{reply_view}
use Rattle.kernel_walks.specs.Tells.{ResolveSees, LinkSees, EntrySees, Sees, TellsAsSeen, KernelWalksTell}
use Rattle.kernel_walks.specs.Told.{AreTold}
use Rattle.kernel_walks.proofs.Alone.{own_events_alone}
use Rattle.kernel_walks.proofs.Bulk.{makes_from, clears_from}
use Rattle.kernel_walks.proofs.Entries.{change_sees, change_stays, link_sees, link_stays, resolve_sees, resolve_opens, one_walk}
use Rattle.kernel_walks.proofs.Outcome.{Outcome, all_told, some_seen}
use Rattle.kernel_walks.proofs.Past.{IsPastTurn, past_is_told}
use Rattle.kernel_walks.proofs.Renames.{renames_so}

module _ (c : CallInHistory) (reply : Reply) (is : IsCallInHistory c) (told : List Line) where
  -- from this turn on
  abbrev From : CallTurn → Type 0
  From turn = LeadsTo c.below turn told (ends reply) → AreTold c.below turn told c.lines → Outcome c told reply

  past_from : (turn : CallTurn) → IsPastTurn turn → From turn
  past_from turn past leads are = all_told (past_is_told c.below turn told c.lines past are)

  unless_from : (why : Option Errno) (turn : CallTurn) → (why ≡ None → From turn) → From (unless_fault why turn)
  unless_from (Some error) turn from = past_from (ends (fault error)) tt
  unless_from None turn from = from refl

  lacks_from : (text : List ℕ) → From (lacks text)
  lacks_from text = unless_from (text_fault text) (ends (fault NoMemory)) (λ fine. past_from (ends (fault NoMemory)) tt)

  module _ (same_op : Op) (same : c.op ≡ same_op) (unreleased : is_release same_op ≡ false) where
    not_released : is_release c.op ≡ false
    not_released = ap is_release same ∙ unreleased

    sees_so : Sees c same_op reply → Sees c c.op reply
    sees_so = subst (λ (op : Op). Sees c op reply) (sym same)

    resolve_from : (goal : Goal) (text : List ℕ) → (ResolveSees c goal text reply → Sees c same_op reply) → From (on_path c.below (Opens goal) text)
    resolve_from goal text into =
        unless_from (text_fault text) (walks c.below (Opens goal) (reading_of text))
        (λ fine. one_walk c reply is (Opens goal) (reading_of text) (λ room handle names. tt)
        (λ handle names seen onward.
        (sees_so (into (resolve_sees c reply is goal text fine handle names seen onward)), resolve_opens c reply is goal text fine handle names seen onward)) told)

    read_from : (text : List ℕ) → (LinkSees c text reply → Sees c same_op reply) → From (on_path c.below Reads text)
    read_from text into =
        unless_from (text_fault text) (walks c.below Reads (reading_of text))
        (λ fine. one_walk c reply is Reads (reading_of text) (λ room handle names. tt)
        (λ handle names seen onward.
        (sees_so (into (link_sees c reply is text fine handle names seen onward)), link_stays c reply is text fine handle names seen onward not_released)) told)

    entry_from : (rule : Rule) (change : Change) (text : List ℕ) → (EntrySees c rule change text reply → Sees c same_op reply) → From (on_entry c.below rule change text)
    entry_from rule change text into =
        unless_from (text_fault text) (in_directory c.below change (split_of (reading_of text) rule)) (λ fine. by_split fine (split_of (reading_of text) rule) refl)
      where
        by_split : IsPath text → (split : Result Split Errno) → split_of (reading_of text) rule ≡ split → From (in_directory c.below change split)
        by_split fine (Err error) cuts = past_from (ends (fault error)) tt
        by_split fine (Ok split) cuts =
            one_walk c reply is (Changes change split.name) split.dir (λ room handle names. tt)
            (λ handle names seen onward. (
              sees_so (into (change_sees c reply is rule change text split (fine, cuts) handle names seen onward)),
              change_stays c reply is rule change text split (fine, cuts) handle names seen onward not_released,
            )) told

  module _ (old new : List ℕ) (mode : Mode) (same : c.op ≡ Rename old new mode) where
    rename_from : From (unless_fault (text_fault old) (from_entry c.below mode new (split_of (reading_of old) Drop)))
    rename_from =
        unless_from (text_fault old) (from_entry c.below mode new (split_of (reading_of old) Drop)) (λ fine. by_old fine (split_of (reading_of old) Drop) refl)
      where
        by_new : IsPath old → (d : Split) → split_of (reading_of old) Drop ≡ Ok d → IsPath new → (split : Result Split Errno) → split_of (reading_of new) Drop ≡ split
            → From (between c.below mode d split)
        by_new fine d cuts fine_too (Err error) cuts_too = past_from (ends (fault error)) tt
        by_new fine d cuts fine_too (Ok e) cuts_too = renames_so c reply is old new mode same d e (fine, cuts) (fine_too, cuts_too) told

        by_old : IsPath old → (split : Result Split Errno) → split_of (reading_of old) Drop ≡ split → From (from_entry c.below mode new split)
        by_old fine (Err error) cuts = past_from (ends (fault error)) tt
        by_old fine (Ok d) cuts =
            unless_from (text_fault new) (between c.below mode d (split_of (reading_of new) Drop))
            (λ fine_too. by_new fine d cuts fine_too (split_of (reading_of new) Drop) refl)

  -- ---- what asks for no walk

  single_from : (room : Bool) (step : StepWith ℕ) → From (starts c.below room (Single step))
  single_from true step = on (is_single step)
    where
      on : (b : Bool) → From (if b then more (acting wants.Any step []) else ends (fault Invalid))
      on true = past_from (more (acting wants.Any step [])) tt
      on false = past_from (ends (fault Invalid)) tt
  single_from false step = on (is_single step)
    where
      on : (b : Bool) → From (if b then ends (fault NoMemory) else ends (fault Invalid))
      on true = past_from (ends (fault NoMemory)) tt
      on false = past_from (ends (fault Invalid)) tt

  owner_from : (standing : StandingObject) (b : Bool) → From (if b then more (releasing standing.handle) else ends (kept standing))
  owner_from standing true = past_from (more (releasing standing.handle)) tt
  owner_from standing false = past_from (ends (kept standing)) tt

  -- ---- each operation

  op_from : (room : Bool) (op : Op) → c.op ≡ op → From (starts c.below room op)
  op_from true (Resolve text) same = resolve_from (Resolve text) same refl Follow text (λ sees. sees)
  op_from true (ResolveNoFollow text) same = resolve_from (ResolveNoFollow text) same refl NoFollow text (λ sees. sees)
  op_from true (ReadLink text) same = read_from (ReadLink text) same refl text (λ sees. sees)
  op_from true (CreateFile text) same = entry_from (CreateFile text) same refl Refuse changes.MakeFile text (λ sees. sees)
  op_from true (CreateDir text) same = entry_from (CreateDir text) same refl Drop changes.MakeDir text (λ sees. sees)
  op_from true (CreateLink text target) same = entry_from (CreateLink text target) same refl Refuse (changes.MakeLink target) text (λ sees. sees)
  op_from true (RemoveFile text) same = entry_from (RemoveFile text) same refl Refuse changes.RemoveFile text (λ sees. sees)
  op_from true (RemoveDir text) same = entry_from (RemoveDir text) same refl Drop changes.RemoveDir text (λ sees. sees)
  op_from true (Rename old new mode) same = rename_from old new mode same
  op_from true (MkdirAll text) same = makes_from c reply is told text same
  op_from true (RemoveAll text) same = clears_from c reply is told text same
  op_from true (Single step) same = single_from true step
  op_from true (Release standing) same = owner_from standing (same_owner standing.owner c.below.root.owner)
  op_from false (Resolve text) same = lacks_from text
  op_from false (ResolveNoFollow text) same = lacks_from text
  op_from false (ReadLink text) same = lacks_from text
  op_from false (CreateFile text) same = lacks_from text
  op_from false (CreateDir text) same = lacks_from text
  op_from false (CreateLink text target) same = lacks_from text
  op_from false (RemoveFile text) same = lacks_from text
  op_from false (RemoveDir text) same = lacks_from text
  op_from false (Rename old new mode) same = lacks_from old
  op_from false (MkdirAll text) same = lacks_from text
  op_from false (RemoveAll text) same = lacks_from text
  op_from false (Single step) same = single_from false step
  op_from false (Release standing) same = owner_from standing (same_owner standing.owner c.below.root.owner)

-- ---- the law

pub kernel_walks_tell : EachCallTells → KernelWalksTell
kernel_walks_tell each c reply is replies = by (op_from c (reply_view reply) is replies.told c.room c.op refl replies.leads replies.are)
  where
    all_tells : replies.told ≡ c.lines → CallTells c reply
    all_tells same = each c reply is (subst (λ ls. LeadsTo c.below (starts c.below c.room c.op) ls (ends (reply_view reply))) same replies.leads)

    by : Outcome c replies.told (reply_view reply) → TellsAsSeen c reply
    by (all_told same) = record { handles = (all_tells same).handles; quiet = λ quiet. all_tells same; how = inl (all_tells same) }
    by (some_seen sees handles alone) = record {
      handles = handles;
      quiet = λ quiet. all_tells (alone (own_events_alone (actor_of c) c.window quiet));
      how = inr sees;
    }
