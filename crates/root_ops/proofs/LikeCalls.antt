-- Requests and calls that are the same but for their handles, each of which gets one number in both.
use Rattle.std.specs.Prelude.{◌≡◌, ℕ, List, ◌++◌}
use Rattle.std.proofs.Common.{◌∙◌, sym, ap}
use Rattle.tree_model.specs.StepWith.{StepWith}
use Rattle.tree_model.specs.declared.step.StepOf.TheVariants as steps
use Rattle.tree_model.specs.declared.answer.Answer.{Answer}
use Rattle.tree_model.specs.declared.answer.Answer.TheVariants as answers
use Rattle.handles.specs.Objects.{StandingObject}
use Rattle.step_resolver.specs.Order.{Walking}
use Rattle.root_ops.specs.declared.aim.Aim.{Aim}
use Rattle.root_ops.specs.declared.aim.Aim.TheVariants as aims
use Rattle.root_ops.specs.declared.below.Below.{Below}
use Rattle.root_ops.specs.declared.op.Op.{Op}
use Rattle.root_ops.specs.declared.op.Op.TheVariants as ops
use Rattle.root_ops.specs.declared.op.Request.{Request}
use Rattle.root_ops.specs.Order.{Reply, After, Doing, opened, link_text, done, count, stepped, kept, fault, gives, acts, walking, acting, checking, closing, making, removing, releasing}
use Rattle.root_ops.specs.View.{CallView}
use Rattle.root_ops.specs.Renamed.{numbers_by, handle_by, walking_by, making_by, removing_by, step_by, answer_by, standing_by, reply_by, after_by, aim_by, doing_by, below_by, op_by, request_by, call_by, walking_handles, step_handles, answer_handles, reply_handles, after_handles, aim_handles, doing_handles, call_handles, op_handles, LikeAnswersAgree, LikeRequestsAgree, LikeCallsAgree}
use Rattle.step_resolver.proofs.Renumbered.{like_walks_agree}
use Rattle.bulk_ops.proofs.LikeCalls.{handles_agree, like_making_agrees, like_removing_agrees}
use Rattle.root_ops.proofs.HandlesRenamed.{same_long, numbers_apart, walking_numbers, step_numbers}

-- ---- how many handles there are is seen without their numbers

step_counts : (s t : StepWith ℕ) → step_by (λ h. 0) s ≡ step_by (λ h. 0) t → numbers_by (λ h. 0) (step_handles s) ≡ numbers_by (λ h. 0) (step_handles t)
step_counts s t e = sym (step_numbers (λ h. 0) s) ∙ (ap step_handles e ∙ step_numbers (λ h. 0) t)

walk_counts : (w v : Walking) → walking_by (λ h. 0) w ≡ walking_by (λ h. 0) v → numbers_by (λ h. 0) (walking_handles w) ≡ numbers_by (λ h. 0) (walking_handles v)
walk_counts w v e = sym (walking_numbers (λ h. 0) w) ∙ (ap walking_handles e ∙ walking_numbers (λ h. 0) v)

abbrev call_of : Below → Doing → CallView
call_of below doing = record { below = below; doing = doing }

module _ (f g : ℕ → ℕ) where
  -- ---- two lists after one another

  both_agree : (hs ks ms ns : List ℕ) → numbers_by (λ h. 0) hs ≡ numbers_by (λ h. 0) ks
      → numbers_by f (hs ++ ms) ≡ numbers_by g (ks ++ ns)
      → (numbers_by f hs ≡ numbers_by g ks) × (numbers_by f ms ≡ numbers_by g ns)
  both_agree hs ks ms ns e p = numbers_apart f g hs ks ms ns (same_long hs ks e) p

  -- ---- steps and answers

  pub steps_agree : (s t : StepWith ℕ) → step_by (λ h. 0) s ≡ step_by (λ h. 0) t → numbers_by f (step_handles s) ≡ numbers_by g (step_handles t) → step_by f s ≡ step_by g t
  steps_agree (steps.Open h n) (steps.Open k m) e p = cc
  steps_agree (steps.Dup h) (steps.Dup k) e p = cc
  steps_agree (steps.Parent h) (steps.Parent k) e p = cc
  steps_agree (steps.ReadLink h) (steps.ReadLink k) e p = cc
  steps_agree (steps.NameBelow r h) (steps.NameBelow q k) e p = cc
  steps_agree (steps.List h) (steps.List k) e p = cc
  steps_agree (steps.Close h) (steps.Close k) e p = cc
  steps_agree (steps.MakeDir h n) (steps.MakeDir k m) e p = cc
  steps_agree (steps.MakeFile h n) (steps.MakeFile k m) e p = cc
  steps_agree (steps.MakeLink h n x) (steps.MakeLink k m y) e p = cc
  steps_agree (steps.RemoveFile h n) (steps.RemoveFile k m) e p = cc
  steps_agree (steps.RemoveDir h n) (steps.RemoveDir k m) e p = cc
  steps_agree (steps.Rename h n k m mode) (steps.Rename i o l q other) e p = cc
  steps_agree s t e p = cc

  pub answers_agree : (a b : Answer) → answer_by (λ h. 0) a ≡ answer_by (λ h. 0) b → numbers_by f (answer_handles a) ≡ numbers_by g (answer_handles b) → answer_by f a ≡ answer_by g b
  answers_agree (answers.Opened h x kind) (answers.Opened k y other) e p = cc
  answers_agree (answers.Text text) (answers.Text other) e p = cc
  answers_agree (answers.Names names) (answers.Names others) e p = cc
  answers_agree answers.NotBelow answers.NotBelow e p = cc
  answers_agree (answers.Listed names) (answers.Listed others) e p = cc
  answers_agree answers.Done answers.Done e p = cc
  answers_agree (answers.Refused error) (answers.Refused other) e p = cc
  answers_agree a b e p = cc

  standings_agree : (s t : StandingObject) → standing_by (λ h. 0) s ≡ standing_by (λ h. 0) t → f s.handle ≡ g t.handle → standing_by f s ≡ standing_by g t
  standings_agree s t e p = ap (λ (x : StandingObject). record x { handle = f s.handle }) e ∙ ap (λ (n : ℕ). record t { handle = n }) p

  -- ---- requests

  ops_agree : (o q : Op) → op_by (λ h. 0) o ≡ op_by (λ h. 0) q → numbers_by f (op_handles o) ≡ numbers_by g (op_handles q) → op_by f o ≡ op_by g q
  ops_agree (ops.Resolve path) (ops.Resolve other) e p = cc
  ops_agree (ops.ResolveNoFollow path) (ops.ResolveNoFollow other) e p = cc
  ops_agree (ops.ReadLink path) (ops.ReadLink other) e p = cc
  ops_agree (ops.CreateFile path) (ops.CreateFile other) e p = cc
  ops_agree (ops.CreateDir path) (ops.CreateDir other) e p = cc
  ops_agree (ops.CreateLink path text) (ops.CreateLink other words) e p = cc
  ops_agree (ops.RemoveFile path) (ops.RemoveFile other) e p = cc
  ops_agree (ops.RemoveDir path) (ops.RemoveDir other) e p = cc
  ops_agree (ops.Rename old new mode) (ops.Rename path other how) e p = cc
  ops_agree (ops.MkdirAll path) (ops.MkdirAll other) e p = cc
  ops_agree (ops.RemoveAll path) (ops.RemoveAll other) e p = cc
  ops_agree (ops.Single s) (ops.Single t) e p = ap ops.Single (steps_agree s t (let q : step_by (λ h. 0) s ≡ step_by (λ h. 0) t = cc in q) p)
  ops_agree (ops.Release s) (ops.Release t) e p =
      ap ops.Release (standings_agree s t (let q : standing_by (λ h. 0) s ≡ standing_by (λ h. 0) t = cc in q) (let q : f s.handle ≡ g t.handle = cc in q))
  ops_agree o q e p = cc

  requests_agree : (r s : Request) → request_by (λ h. 0) r ≡ request_by (λ h. 0) s → numbers_by f (op_handles r.op) ≡ numbers_by g (op_handles s.op) → request_by f r ≡ request_by g s
  requests_agree r s e p =
      ap (λ (x : Request). record x { op = op_by f r.op }) e ∙ ap (λ (o : Op). record s { op = o }) (ops_agree r.op s.op (ap (λ (x : Request). x.op) e) p)

  -- ---- replies to come

  replies_agree : (r s : Reply) → reply_by (λ h. 0) r ≡ reply_by (λ h. 0) s → numbers_by f (reply_handles r) ≡ numbers_by g (reply_handles s) → reply_by f r ≡ reply_by g s
  replies_agree (opened handle names) (opened other others) e p =
      let held : handle_by (λ h. 0) handle ≡ handle_by (λ h. 0) other = cc in
      let same : names ≡ others = cc in
      let number : f handle.number ≡ g other.number = cc in
      let handles : handle_by f handle ≡ handle_by g other = handles_agree f g handle other held number in
      cc
  replies_agree (link_text text) (link_text other) e p = cc
  replies_agree done done e p = cc
  replies_agree (count n) (count m) e p = cc
  replies_agree (stepped a) (stepped b) e p = ap stepped (answers_agree a b (let q : answer_by (λ h. 0) a ≡ answer_by (λ h. 0) b = cc in q) p)
  replies_agree (kept s) (kept t) e p =
      ap kept (standings_agree s t (let q : standing_by (λ h. 0) s ≡ standing_by (λ h. 0) t = cc in q) (let q : f s.handle ≡ g t.handle = cc in q))
  replies_agree (fault error) (fault other) e p = cc
  replies_agree r s e p = cc

  acts_agree : (s t : StepWith ℕ) (hs ks : List ℕ) → step_by (λ h. 0) s ≡ step_by (λ h. 0) t → numbers_by (λ h. 0) hs ≡ numbers_by (λ h. 0) ks
      → numbers_by f (step_handles s ++ hs) ≡ numbers_by g (step_handles t ++ ks) → (step_by f s ≡ step_by g t) × (numbers_by f hs ≡ numbers_by g ks)
  acts_agree s t hs ks e d p =
      let both = both_agree (step_handles s) (step_handles t) hs ks (step_counts s t e) p in
      (steps_agree s t e both.0, both.1)

  afters_agree : (a b : After) → after_by (λ h. 0) a ≡ after_by (λ h. 0) b → numbers_by f (after_handles a) ≡ numbers_by g (after_handles b) → after_by f a ≡ after_by g b
  afters_agree (gives r) (gives s) e p = ap gives (replies_agree r s (let q : reply_by (λ h. 0) r ≡ reply_by (λ h. 0) s = cc in q) p)
  afters_agree (acts wanted s hs) (acts other t ks) e p =
      let both : (step_by f s ≡ step_by g t) × (numbers_by f hs ≡ numbers_by g ks) =
      acts_agree s t hs ks (let q : step_by (λ h. 0) s ≡ step_by (λ h. 0) t = cc in q) (let q : numbers_by (λ h. 0) hs ≡ numbers_by (λ h. 0) ks = cc in q) p in
      cc
  afters_agree a b e p = cc

  -- ---- calls

  aims_agree : (a b : Aim) → aim_by (λ h. 0) a ≡ aim_by (λ h. 0) b → numbers_by f (aim_handles a) ≡ numbers_by g (aim_handles b) → aim_by f a ≡ aim_by g b
  aims_agree (aims.Opens goal) (aims.Opens other) e p = cc
  aims_agree aims.Reads aims.Reads e p = cc
  aims_agree (aims.Changes change n) (aims.Changes other m) e p = cc
  aims_agree (aims.WalksOn path renaming) (aims.WalksOn other next) e p = cc
  aims_agree (aims.Renames old renaming) (aims.Renames other next) e p = cc
  aims_agree a b e p = cc

  doings_agree : (c d : Doing) → doing_by (λ h. 0) c ≡ doing_by (λ h. 0) d → numbers_by f (doing_handles c) ≡ numbers_by g (doing_handles d) → doing_by f c ≡ doing_by g d
  doings_agree (walking w a) (walking v b) e p =
      let walks : walking_by (λ h. 0) w ≡ walking_by (λ h. 0) v = cc in
      let aims : aim_by (λ h. 0) a ≡ aim_by (λ h. 0) b = cc in
      let counts : numbers_by (λ h. 0) (walking_handles w) ≡ numbers_by (λ h. 0) (walking_handles v) = walk_counts w v walks in
      let both = both_agree (walking_handles w) (walking_handles v) (aim_handles a) (aim_handles b) counts p in
      let walked : walking_by f w ≡ walking_by g v = like_walks_agree f g w v walks both.0 in
      let aimed : aim_by f a ≡ aim_by g b = aims_agree a b aims both.1 in
      cc
  doings_agree (acting wanted s hs) (acting other t ks) e p =
      let both : (step_by f s ≡ step_by g t) × (numbers_by f hs ≡ numbers_by g ks) =
      acts_agree s t hs ks (let q : step_by (λ h. 0) s ≡ step_by (λ h. 0) t = cc in q) (let q : numbers_by (λ h. 0) hs ≡ numbers_by (λ h. 0) ks = cc in q) p in
      cc
  doings_agree (checking old new renaming) (checking older newer other) e p = cc
  doings_agree (closing h hs a) (closing k ks b) e p =
      let lists : numbers_by (λ h. 0) hs ≡ numbers_by (λ h. 0) ks = cc in
      let afters : after_by (λ h. 0) a ≡ after_by (λ h. 0) b = cc in
      let first : f h ≡ g k = cc in
      let left : numbers_by f (hs ++ after_handles a) ≡ numbers_by g (ks ++ after_handles b) = cc in
      let both = both_agree hs ks (after_handles a) (after_handles b) lists left in
      let others : numbers_by f hs ≡ numbers_by g ks = both.0 in
      let next : after_by f a ≡ after_by g b = afters_agree a b afters both.1 in
      cc
  doings_agree (making m) (making n) e p = ap making (like_making_agrees f g m n (let q : making_by (λ h. 0) m ≡ making_by (λ h. 0) n = cc in q) p)
  doings_agree (removing r) (removing s) e p = ap removing (like_removing_agrees f g r s (let q : removing_by (λ h. 0) r ≡ removing_by (λ h. 0) s = cc in q) p)
  doings_agree (releasing h) (releasing k) e p = cc
  doings_agree c d e p = cc

  belows_agree : (b c : Below) → below_by (λ h. 0) b ≡ below_by (λ h. 0) c → f b.root.handle ≡ g c.root.handle → below_by f b ≡ below_by g c
  belows_agree b c e p =
      ap (λ (x : Below). record x { root = record x.root { handle = f b.root.handle } }) e ∙ ap (λ (n : ℕ). record c { root = record c.root { handle = n } }) p

  same_calls : (b c : Below) (x y : Doing) → b ≡ c → x ≡ y → call_of b x ≡ call_of c y
  same_calls b c x y e p = ap (λ (d : Below). call_of d x) e ∙ ap (λ (z : Doing). call_of c z) p

  calls_agree : (c d : CallView) → call_by (λ h. 0) c ≡ call_by (λ h. 0) d → numbers_by f (call_handles c) ≡ numbers_by g (call_handles d) → call_by f c ≡ call_by g d
  calls_agree c d e p =
      let root : f c.below.root.handle ≡ g d.below.root.handle = cc in
      let others : numbers_by f (doing_handles c.doing) ≡ numbers_by g (doing_handles d.doing) = cc in
      same_calls (below_by f c.below) (below_by g d.below) (doing_by f c.doing) (doing_by g d.doing)
      (belows_agree c.below d.below (ap (λ (x : CallView). x.below) e) root)
      (doings_agree c.doing d.doing (ap (λ (x : CallView). x.doing) e) others)

pub like_answers_agree : LikeAnswersAgree
like_answers_agree f g a b e p = answers_agree f g a b e p

pub like_requests_agree : LikeRequestsAgree
like_requests_agree f g r s e p = requests_agree f g r s e p

pub like_calls_agree : LikeCallsAgree
like_calls_agree f g c d e p = calls_agree f g c d e p
