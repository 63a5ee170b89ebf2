-- What an actor calls for, in the words that a script has for it.
use Rattle.std.specs.Prelude.{ℕ, List, [], ◌++◌, Bool, map, if◌then◌else◌, codes, decimal}
use Rattle.race_core.specs.declared.plan.ActorPlan.{ActorPlan}
use Rattle.race_core.specs.declared.plan.Planned.{Planned}
use Rattle.race_core.specs.declared.plan.Planned.TheVariants.{Call as CallPlan, Single as SinglePlan, Release as ReleasePlan}
use Rattle.race_core.specs.declared.plan.Ref.{Ref}
use Rattle.race_core.specs.declared.plan.Ref.TheVariants.{Root, Call}
use Rattle.root_ops.specs.declared.op.Op.{Op}
use Rattle.root_ops.specs.declared.op.Op.TheVariants as op
use Rattle.tree_model.specs.StepWith.{StepWith}
use Rattle.tree_model.specs.declared.step.StepOf.TheVariants.{Open, Dup, Parent, ReadLink, NameBelow, List as ListNames, Close, MakeDir, MakeFile, MakeLink, RemoveFile, RemoveDir, Rename}
use Rattle.event_log.specs.Output.{escaped}
use Rattle.drawings.specs.Events.{mode_words}

-- the actor's root, or what its call of that number opened
abbrev pub ref_words : Ref → List ℕ
ref_words Root = codes "root"
ref_words (Call number) = codes "call " ++ decimal number

-- what a planned step names, after a word
abbrev pub with_ref : List ℕ → Ref → List ℕ
with_ref word object = word ++ ref_words object

-- an entry of it, after a word
abbrev pub with_name : List ℕ → List ℕ → Ref → List ℕ
with_name word name dir = word ++ (escaped name ++ with_ref (codes " in ") dir)

-- a planned step
abbrev pub single_words : StepWith Ref → List ℕ
single_words (Open dir name) = with_name (codes "open ") name dir
single_words (Dup object) = with_ref (codes "open ") object ++ codes " again"
single_words (Parent object) = with_ref (codes "open .. of ") object
single_words (ReadLink object) = with_ref (codes "read_link ") object
single_words (NameBelow root object) = with_ref (codes "check ") object ++ with_ref (codes " below ") root
single_words (ListNames object) = with_ref (codes "list ") object
single_words (Close object) = with_ref (codes "close ") object
single_words (MakeDir dir name) = with_name (codes "make_dir ") name dir
single_words (MakeFile dir name) = with_name (codes "make_file ") name dir
single_words (MakeLink dir name text) = with_name (codes "make_link ") name dir ++ (codes " to " ++ escaped text)
single_words (RemoveFile dir name) = with_name (codes "remove_file ") name dir
single_words (RemoveDir dir name) = with_name (codes "remove_dir ") name dir
single_words (Rename from old to new mode) =
    with_name (codes "rename ") old from ++ (with_name (codes " to ") new to ++ mode_words mode)

-- a text, after a word
abbrev pub with_text : List ℕ → List ℕ → List ℕ
with_text word text = word ++ escaped text

-- an operation; a world's calls are no Single and no Release, which a plan has as its own
abbrev pub op_words : Op → List ℕ
op_words (op.Resolve path) = with_text (codes "resolve ") path
op_words (op.ResolveNoFollow path) = with_text (codes "resolve_nofollow ") path
op_words (op.ReadLink path) = with_text (codes "read_link ") path
op_words (op.CreateFile path) = with_text (codes "create_file ") path
op_words (op.CreateDir path) = with_text (codes "create_dir ") path
op_words (op.CreateLink path text) = with_text (codes "create_link ") path ++ with_text (codes " to ") text
op_words (op.RemoveFile path) = with_text (codes "remove_file ") path
op_words (op.RemoveDir path) = with_text (codes "remove_dir ") path
op_words (op.Rename old new mode) =
    with_text (codes "rename ") old ++ (with_text (codes " to ") new ++ mode_words mode)
op_words (op.MkdirAll path) = with_text (codes "mkdir_all ") path
op_words (op.RemoveAll path) = with_text (codes "remove_all ") path
op_words (op.Single step) = codes "step"
op_words (op.Release standing) = codes "release"

-- that word where it is so
abbrev pub word_if : Bool → List ℕ → List ℕ
word_if holds word = if holds then word else []

-- a planned call, with the restrictions of an operation
abbrev pub call_words : Planned → List ℕ
call_words (CallPlan request) =
    op_words request.op
    ++ (word_if request.flags.beneath (codes " beneath") ++ word_if request.flags.no_links (codes " no_links"))
call_words (SinglePlan step) = single_words step
call_words (ReleasePlan number) = codes "release call " ++ decimal number

-- each call of each actor
abbrev pub calls_of : List ActorPlan → List (List (List ℕ))
calls_of plans = map (λ plan. map call_words plan.calls) plans
