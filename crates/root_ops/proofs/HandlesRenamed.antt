-- The handles of what has other handles are those other handles: of walks, of bulk calls and of a root's calls.
use Rattle.std.specs.Prelude.{◌≡◌, ℕ, List, [], ◌∷◌, ◌++◌, length, refl}
use Rattle.std.proofs.Common.{sym, ap, ◌∙◌, arith}
use Rattle.tree_model.specs.declared.answer.Answer.{Answer}
use Rattle.tree_model.specs.declared.answer.Answer.TheVariants as answers
use Rattle.tree_model.specs.StepWith.{StepWith}
use Rattle.tree_model.specs.declared.step.StepOf.TheVariants as steps
use Rattle.step_resolver.specs.Order.{Position, root_itself, holds, Walking, handles_of}
use Rattle.step_resolver.specs.Order as walk
use Rattle.bulk_ops.specs.MakeAllOrder as make
use Rattle.bulk_ops.specs.RemoveAllOrder as remove
pub use Rattle.bulk_ops.proofs.LikeFrames.{same_many as same_long}
use Rattle.root_ops.specs.declared.aim.Aim.{Aim}
use Rattle.root_ops.specs.declared.aim.Aim.TheVariants as aims
use Rattle.root_ops.specs.declared.op.Op.{Op}
use Rattle.root_ops.specs.declared.op.Op.TheVariants as ops
use Rattle.root_ops.specs.Order.{Reply, Doing}
use Rattle.root_ops.specs.Order as call
use Rattle.root_ops.specs.Renamed.{numbers_by, position_by, walk_after_by, walking_by, walk_after_handles, walking_handles, making_by, making_handles, levels_by, stage_by, removing_by, stage_handles, levels_handles, removing_handles, step_by, step_handles, answer_by, answer_handles, reply_by, reply_handles, after_by, after_handles, aim_by, aim_handles, doing_by, doing_handles, op_by, op_handles}

-- ---- lists of numbers

-- lists that begin with equally many are the same part by part
pub numbers_apart : (f g : ℕ → ℕ) (xs ys more others : List ℕ) → length xs ≡ length ys
    → numbers_by f (xs ++ more) ≡ numbers_by g (ys ++ others)
    → (numbers_by f xs ≡ numbers_by g ys) × (numbers_by f more ≡ numbers_by g others)
numbers_apart f g [] [] more others long e = (refl, e)
numbers_apart f g [] (y ∷ ys) more others long e = absurd (omega arith)
numbers_apart f g (x ∷ xs) [] more others long e = absurd (omega arith)
numbers_apart f g (x ∷ xs) (y ∷ ys) more others long e =
    let rest : numbers_by f (xs ++ more) ≡ numbers_by g (ys ++ others) = cc in
    let apart = numbers_apart f g xs ys more others (omega arith) rest in
    let first : f x ≡ g y = cc in
    let front : numbers_by f xs ≡ numbers_by g ys = apart.0 in
    (cc, apart.1)

-- ---- their handles

module _ (f : ℕ → ℕ) where
  pub numbers_append : (hs ks : List ℕ) → numbers_by f (hs ++ ks) ≡ numbers_by f hs ++ numbers_by f ks
  numbers_append [] ks = refl
  numbers_append (h ∷ hs) ks = ap (λ xs. f h ∷ xs) (numbers_append hs ks)

  -- both parts of a list
  pub join : (hs ks xs ys : List ℕ) → xs ≡ numbers_by f hs → ys ≡ numbers_by f ks → xs ++ ys ≡ numbers_by f (hs ++ ks)
  join hs ks xs ys p q = ap (λ zs. zs ++ ys) p ∙ (ap (λ zs. numbers_by f hs ++ zs) q ∙ sym (numbers_append hs ks))

  position_numbers : (p : Position) → handles_of (position_by f p) ≡ numbers_by f (handles_of p)
  position_numbers root_itself = refl
  position_numbers (holds handle names) = refl

  walk_after_numbers : (a : walk.After) → walk_after_handles (walk_after_by f a) ≡ numbers_by f (walk_after_handles a)
  walk_after_numbers (walk.gives error) = refl
  walk_after_numbers (walk.onward position rest) = position_numbers position
  walk_after_numbers (walk.judges handle names rest) = refl

  pub walking_numbers : (w : Walking) → walking_handles (walking_by f w) ≡ numbers_by f (walking_handles w)
  walking_numbers (walk.opening position own follow n rest) = position_numbers position
  walking_numbers (walk.reading position link rest) =
      join (handles_of position) (link.number ∷ []) _ _ (position_numbers position) refl
  walking_numbers (walk.rising handle names rest) = refl
  walking_numbers (walk.judging handle names rest) = refl
  walking_numbers (walk.duping rest) = refl
  walking_numbers (walk.ending handle names rest) = refl
  walking_numbers (walk.closing h hs after) =
      ap (λ ks. f h ∷ ks) (join hs (walk_after_handles after) _ _ refl (walk_after_numbers after))

  making_numbers : (m : make.Making) → making_handles (making_by f m) ≡ numbers_by f (making_handles m)
  making_numbers (make.walking w) = walking_numbers w
  making_numbers (make.making held names n left) = refl
  making_numbers (make.opening held names n left) = refl
  making_numbers (make.leaving old new names left) = refl
  making_numbers (make.ending held names) = refl
  making_numbers (make.closing h hs error) = refl

  stage_numbers : (s : remove.Stage) → stage_handles (stage_by f s) ≡ numbers_by f (stage_handles s)
  stage_numbers remove.removes_file = refl
  stage_numbers remove.opens = refl
  stage_numbers (remove.lists h) = refl
  stage_numbers (remove.shuts h) = refl
  stage_numbers (remove.leaves h) = refl
  stage_numbers remove.removes_dir = refl

  levels_numbers : (ls : List remove.Level) → levels_handles (levels_by f ls) ≡ numbers_by f (levels_handles ls)
  levels_numbers [] = refl
  levels_numbers (l ∷ ls) = ap (λ ks. f l.dir ∷ ks) (levels_numbers ls)

  removing_numbers : (r : remove.Removing) → removing_handles (removing_by f r) ≡ numbers_by f (removing_handles r)
  removing_numbers (remove.walking edge target w) = ap (λ ks. f edge.root ∷ ks) (walking_numbers w)
  removing_numbers (remove.clearing stage level above count left) =
      join (stage_handles stage) (level.dir ∷ levels_handles above) _ _ (stage_numbers stage)
      (ap (λ ks. f level.dir ∷ ks) (levels_numbers above))
  removing_numbers (remove.closing h hs end) = refl

  pub step_numbers : (s : StepWith ℕ) → step_handles (step_by f s) ≡ numbers_by f (step_handles s)
  step_numbers (steps.Open h n) = refl
  step_numbers (steps.Dup h) = refl
  step_numbers (steps.Parent h) = refl
  step_numbers (steps.ReadLink h) = refl
  step_numbers (steps.NameBelow r h) = refl
  step_numbers (steps.List h) = refl
  step_numbers (steps.Close h) = refl
  step_numbers (steps.MakeDir h n) = refl
  step_numbers (steps.MakeFile h n) = refl
  step_numbers (steps.MakeLink h n text) = refl
  step_numbers (steps.RemoveFile h n) = refl
  step_numbers (steps.RemoveDir h n) = refl
  step_numbers (steps.Rename h n k m mode) = refl

  pub answer_numbers : (a : Answer) → answer_handles (answer_by f a) ≡ numbers_by f (answer_handles a)
  answer_numbers (answers.Opened h x kind) = refl
  answer_numbers (answers.Text text) = refl
  answer_numbers (answers.Names names) = refl
  answer_numbers answers.NotBelow = refl
  answer_numbers (answers.Listed names) = refl
  answer_numbers answers.Done = refl
  answer_numbers (answers.Refused error) = refl

  reply_numbers : (r : Reply) → reply_handles (reply_by f r) ≡ numbers_by f (reply_handles r)
  reply_numbers (call.opened handle names) = refl
  reply_numbers (call.link_text text) = refl
  reply_numbers call.done = refl
  reply_numbers (call.count n) = refl
  reply_numbers (call.stepped answer) = answer_numbers answer
  reply_numbers (call.kept standing) = refl
  reply_numbers (call.fault error) = refl

  after_numbers : (a : call.After) → after_handles (after_by f a) ≡ numbers_by f (after_handles a)
  after_numbers (call.gives reply) = reply_numbers reply
  after_numbers (call.acts wanted step hs) = join (step_handles step) hs _ _ (step_numbers step) refl

  aim_numbers : (a : Aim) → aim_handles (aim_by f a) ≡ numbers_by f (aim_handles a)
  aim_numbers (aims.Opens goal) = refl
  aim_numbers aims.Reads = refl
  aim_numbers (aims.Changes change n) = refl
  aim_numbers (aims.WalksOn path renaming) = refl
  aim_numbers (aims.Renames old renaming) = refl

  pub doing_numbers : (d : Doing) → doing_handles (doing_by f d) ≡ numbers_by f (doing_handles d)
  doing_numbers (call.walking w aim) =
      join (walking_handles w) (aim_handles aim) _ _ (walking_numbers w) (aim_numbers aim)
  doing_numbers (call.acting wanted step hs) = join (step_handles step) hs _ _ (step_numbers step) refl
  doing_numbers (call.checking old new renaming) = refl
  doing_numbers (call.closing h hs after) =
      ap (λ ks. f h ∷ ks) (join hs (after_handles after) _ _ refl (after_numbers after))
  doing_numbers (call.making bulk) = making_numbers bulk
  doing_numbers (call.removing bulk) = removing_numbers bulk
  doing_numbers (call.releasing h) = refl

  pub op_numbers : (o : Op) → op_handles (op_by f o) ≡ numbers_by f (op_handles o)
  op_numbers (ops.Resolve path) = refl
  op_numbers (ops.ResolveNoFollow path) = refl
  op_numbers (ops.ReadLink path) = refl
  op_numbers (ops.CreateFile path) = refl
  op_numbers (ops.CreateDir path) = refl
  op_numbers (ops.CreateLink path text) = refl
  op_numbers (ops.RemoveFile path) = refl
  op_numbers (ops.RemoveDir path) = refl
  op_numbers (ops.Rename old new mode) = refl
  op_numbers (ops.MkdirAll path) = refl
  op_numbers (ops.RemoveAll path) = refl
  op_numbers (ops.Single step) = step_numbers step
  op_numbers (ops.Release standing) = refl
