-- How often calls can be made in vain: the statement of the law. openat2(2), EAGAIN.
use Rattle.std.specs.Prelude.{◌≡◌, ℕ, suc, ◌+◌, ◌≤◌, List, [], ◌∷◌, ◌++◌, false, length}
use Rattle.path_text.specs.declared.errno.Errno.TheVariants.{Raced}
use Rattle.tree_model.specs.declared.answer.Event.{Event}
use Rattle.tree_model.specs.State.{is_gone}
use Rattle.step_resolver.specs.Changes.{changes_by_others}
use Rattle.root_ops.specs.declared.op.Op.{Op}
use Rattle.root_ops.specs.declared.op.Op.TheVariants.{MkdirAll, Single, Release}
use Rattle.root_ops.specs.declared.reply.Reply.TheVariants.{Fault}
use Rattle.root_ops.specs.CallHistory.{CallInHistory, IsCallInHistory, actor_of, begin_of}
use Rattle.root_ops.specs.EachCall.{CallTells}

-- A call that walks. Below a root that is gone a MkdirAll can make nothing, whoever acts: its root stands as it begins.
abbrev pub MayBeTriedAgain : CallInHistory → Op → Type 0
MayBeTriedAgain c (MkdirAll text) = is_gone (begin_of c).nodes c.root ≡ false
MayBeTriedAgain c (Single step) = ⊥
MayBeTriedAgain c (Release standing) = ⊥
MayBeTriedAgain c op = Unit {0}

-- Such a call in a legal history that was answered EAGAIN, and tells what each call tells that is answered so.
pub record IsVainCall (c : CallInHistory) : Type 0 where
  pub is_call : IsCallInHistory c
  pub again : MayBeTriedAgain c c.op
  pub tells : CallTells c (Fault Raced)

-- a later call of the same actor in the same history, whatever it asks for: its window begins after the other's end
pub record IsLaterCall (c d : CallInHistory) : Type 0 where
  pub opening : d.opening ≡ c.opening
  pub actor : actor_of d ≡ actor_of c
  pub between : List Event
  pub before : d.before ≡ c.before ++ (c.window ++ between)

-- one call after another, all in vain
abbrev pub AreVainCalls : CallInHistory → List CallInHistory → Type 0
AreVainCalls c [] = IsVainCall c
AreVainCalls c (d ∷ ds) = IsVainCall c × IsLaterCall c d × AreVainCalls d ds

-- the changes by others in the windows of the calls alone
abbrev pub changes_in_windows : CallInHistory → List CallInHistory → ℕ
changes_in_windows c [] = changes_by_others (actor_of c) c.window
changes_in_windows c (d ∷ ds) = changes_by_others (actor_of c) c.window + changes_in_windows d ds

-- all events from the first call's beginning to the last one's end
abbrev pub in_calls : (c : CallInHistory) (cs : List CallInHistory) → AreVainCalls c cs → List Event
in_calls c [] vain = c.window
in_calls c (d ∷ ds) vain = c.window ++ (vain.1.between ++ in_calls d ds vain.2)

-- So many calls in vain need as many changes by others, within their own windows. With fewer changes meanwhile one of
-- them isn't answered EAGAIN.
pub record CallsNeedChanges (c : CallInHistory) (cs : List CallInHistory) (vain : AreVainCalls c cs) : Type 0 where
  pub in_windows : suc (length cs) ≤ changes_in_windows c cs
  pub among_all : changes_in_windows c cs ≤ changes_by_others (actor_of c) (in_calls c cs vain)

abbrev pub VainCallsNeedChanges : Type 0
VainCallsNeedChanges =
    (c : CallInHistory) (cs : List CallInHistory) (vain : AreVainCalls c cs) → CallsNeedChanges c cs vain
