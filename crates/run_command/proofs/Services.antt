-- The service for a script's jobs: it is opened but for its book's lines and memory.
use Rattle.std.proofs.Common.{◌≡◌, ℕ, zero, suc, ◌+◌, ◌<◌, ◌≤◌, Bool, true, false, List, [], ◌∷◌, length, replicate, cond, Option, Some, None, ◌⊎◌, inl, inr, refl, sym, ap, ◌∙◌, subst, arith}
use Rattle.std.specs.Prelude.{Result, Ok, Err, All, IsOk, nat_lt, if◌then◌else◌, is_some}
use Rattle.std.proofs.lemmas.Bool.{ltb-true, le-ltb}
use Rattle.std.proofs.lemmas.List.{length_push, length-replicate}
use Rattle.std.proofs.lemmas.List.Elements.{All-head}
use Rattle.std.proofs.lemmas.List.Sums.{sum_by_push}
use Rattle.path_text.specs.declared.errno.Errno.{Errno}
use Rattle.path_text.specs.declared.errno.Errno.TheVariants.{TooMany}
use Rattle.race_core.specs.declared.book.TheConstants.{LINES_MAX}
use Rattle.race_core.specs.declared.plan.ActorPlan.{ActorPlan}
use Rattle.root_ops.specs.declared.op.Request.{Request}
use Rattle.root_ops.specs.declared.reply.Reply.{Reply}
use Rattle.sessions.specs.declared.close.CloseCause.{CloseCause}
use Rattle.sessions.specs.declared.close.CloseCause.TheVariants as close
use Rattle.sessions.specs.declared.open.OpenCause.{OpenCause}
use Rattle.sessions.specs.declared.open.OpenCause.TheVariants as opening
use Rattle.sessions.specs.declared.open.TheConstants.{SESSIONS_MAX}
use Rattle.sessions.specs.Open.{granted, after_grant, cause_after, opening_cause}
use Rattle.sessions.specs.Service.{ServiceView}
use Rattle.sessions.specs.Session.{SessionView}
use Rattle.tree_model.specs.declared.inode.Inode.{Inode}
use Rattle.tree_model.specs.declared.inode.OpenHandle.{OpenHandle}
use Rattle.tree_model.specs.Entries.{refuse_if}
use Rattle.tree_model.specs.State.{State, TOP}
use Rattle.tree_model.specs.StepLaws.{open_count}
use Rattle.tree_model.specs.Steps.{directory_at, grants, grants_at, with_handle}
use Rattle.workers.specs.declared.serving.ServeCause.{ServeCause}
use Rattle.workers.specs.declared.serving.ServeCause.TheVariants as serve
use Rattle.workers.specs.declared.serving.TheConstants.{WORKERS_MAX}
use Rattle.workers.specs.declared.told.Numbered.{Numbered}
use Rattle.workers.specs.Serve.{IsRefused}
use Rattle.scripts.specs.declared.fault.RunFault.TheVariants.{NoMemory, BookFull}
use Rattle.run_command.specs.declared.jobs.JobsFault.TheVariants.{Run}
use Rattle.run_command.specs.Jobs.{worker_roots, CanRefuse, HasFewLines, AreDone, IsUnserved, RefusesToClose, IsServiceFault, IsNoService, told_of_opening, told_of_serving, told_of_closing}
use Rattle.scripts.specs.Writing.{tree_of}
use Rattle.scripts.specs.Scenario.{Said, IsPlayable, said_on, first_root}
use Rattle.scripts.proofs.Roots.{has_room}

-- the roots are granted, one open handle for each
record AreGranted (s : State) (i : ℕ) (roots : List (List (List ℕ))) : Type 0 where
  tree : State
  are : granted s i roots ≡ Ok tree
  counted : open_count tree ≡ open_count s + length roots

one_root : (n : ℕ) (s : State) (i : ℕ) (names : List (List ℕ)) → IsOk (directory_at s.nodes TOP names)
    → length s.handles + n ≤ 64 → AreGranted s i (replicate n names)
one_root zero s i names is few = record { tree = s; are = refl; counted = omega arith }
one_root (suc n) s i names is few =
    by (directory_at s.nodes TOP names) refl is (λ x.
    let longer : length (with_handle s i x).handles ≡ length s.handles + 1 =
    length_push s.handles (Some (record { actor = i; node = x })) in
    one_root n (with_handle s i x) (suc i) names is (omega (arith, longer, few)))
  where
    by : (found : Result ℕ Errno) → directory_at s.nodes TOP names ≡ found → IsOk found
        → ((x : ℕ) → AreGranted (with_handle s i x) (suc i) (replicate n names))
        → AreGranted s i (names ∷ replicate n names)
    by (Err error) at ok others = cc (ok)
    by (Ok x) at ok others =
        let rest = others x in
        let one_more : open_count (with_handle s i x) ≡ open_count s + 1 =
        sum_by_push (λ (o : Option OpenHandle). cond (is_some o) 1 0) s.handles
        (Some (record { actor = i; node = x })) in
        let gives : grants s i names ≡ Ok (with_handle s i x) =
        ap (grants_at s i) at
        ∙ ap (λ (b : Bool). refuse_if b (Err TooMany) (Ok (with_handle s i x))) (has_room s i (omega (arith, few))) in
        record {
          tree = rest.tree;
          are = ap (λ (r : Result State Errno). after_grant (λ t. granted t (suc i) (replicate n names)) i r) gives
              ∙ rest.are;
          counted = let counted = rest.counted in omega (arith, counted, one_more);
        }

root_is : (nodes : List Inode) (plans : List ActorPlan) → 0 < length plans
    → All (λ plan. IsOk (directory_at nodes TOP plan.root)) plans
    → IsOk (directory_at nodes TOP (first_root plans))
root_is nodes [] some are = absurd (omega (arith, some))
root_is nodes (plan ∷ plans) some are = All-head (λ p. IsOk (directory_at nodes TOP p.root)) plan plans are

-- the cause that isn't want of memory: too few lines, where there are too few
open_cause : (workers : ℕ) (said : Said) → IsPlayable said → workers ≤ WORKERS_MAX
    → opening_cause (tree_of said) (worker_roots workers said) said.lines
    ≡ (if nat_lt said.lines workers then Some opening.BookFull else None)
open_cause workers said playable few =
    let root = first_root said.plans in
    let are = one_root workers (tree_of said) 0 root (root_is said.nodes said.plans playable.some playable.roots)
    (omega (arith, few)) in
    let many : length (replicate workers root) ≡ workers = length-replicate workers root in
    let counted : open_count are.tree ≡ workers = let all = are.counted in omega (arith, all, many) in
    let not_many : nat_lt SESSIONS_MAX (length (replicate workers root)) ≡ false =
    le-ltb SESSIONS_MAX (length (replicate workers root)) (omega (arith, few, many)) in
    let bounded : nat_lt LINES_MAX said.lines ≡ false =
    le-ltb LINES_MAX said.lines (let few_lines = playable.bounded in omega (arith, few_lines)) in
    ap (λ (b : Bool). if b then Some opening.TooManySessions else cause_after
    (granted (tree_of said) 0 (replicate workers root)) said.lines) not_many
    ∙ ap (λ (r : Result State OpenCause). cause_after r said.lines) are.are
    ∙ ap (λ (b : Bool). if b then Some opening.Invalid else
    (if nat_lt said.lines (open_count are.tree) then Some opening.BookFull else None)) bounded
    ∙ ap (λ (n : ℕ). if nat_lt said.lines n then Some opening.BookFull else None) counted

-- nobody has a handle yet, and the roots are the first actor's
module _ (workers : ℕ) (tree : State) (plans : List ActorPlan) (schedule : List ℕ) (lines : ℕ)
    (roots : List (List (List ℕ)))
    (none : tree.handles ≡ []) (same : roots ≡ replicate workers (first_root plans)) where
  pub cause_is : (cause : OpenCause) → (opening_cause tree roots lines ≡ Some cause) ⊎ (cause ≡ opening.NoMemory)
      → (opening_cause (tree_of (said_on tree plans schedule lines))
      (worker_roots workers (said_on tree plans schedule lines)) lines ≡ Some cause) ⊎ (cause ≡ opening.NoMemory)
  cause_is cause (inr memory) = inr memory
  cause_is cause (inl is) =
      let P : List (Option OpenHandle) → List (List (List ℕ))
      → Type 0 = λ hs rs. opening_cause (record { nodes = tree.nodes; handles = hs }) rs lines ≡ Some cause in
      inl (subst (λ rs. P [] rs) same (subst (λ hs. P hs roots) none is))

-- why it isn't opened
pub why_refused : (workers : ℕ) (said : Said) (cause : OpenCause) → IsPlayable said → workers ≤ WORKERS_MAX
    → (opening_cause (tree_of said) (worker_roots workers said) said.lines ≡ Some cause) ⊎ (cause ≡ opening.NoMemory)
    → (cause ≡ opening.NoMemory) ⊎ ((cause ≡ opening.BookFull) × HasFewLines workers said)
why_refused workers said cause playable few (inr memory) = inl memory
why_refused workers said cause playable few (inl is) =
    by (nat_lt said.lines workers) refl (sym (open_cause workers said playable few) ∙ is)
  where
    by : (test : Bool) → nat_lt said.lines workers ≡ test → (if test then Some opening.BookFull else None) ≡ Some cause
        → (cause ≡ opening.NoMemory) ⊎ ((cause ≡ opening.BookFull) × HasFewLines workers said)
    by true e is = let same : opening.BookFull ≡ cause = cc (is) in inr (sym same, ltb-true said.lines workers e)
    by false e is = cc (is)

pub can_refuse : (workers : ℕ) (said : Said) (cause : OpenCause)
    → (cause ≡ opening.NoMemory) ⊎ ((cause ≡ opening.BookFull) × HasFewLines workers said) → CanRefuse cause
can_refuse workers said cause (inl memory) = subst CanRefuse (sym memory) tt
can_refuse workers said cause (inr full) = subst CanRefuse (sym full.0) tt

pub told_refused : (workers : ℕ) (said : Said) (cause : OpenCause)
    → (cause ≡ opening.NoMemory) ⊎ ((cause ≡ opening.BookFull) × HasFewLines workers said)
    → IsNoService workers said (Run (told_of_opening cause))
told_refused workers said cause (inl memory) =
    subst (λ (c : OpenCause). IsNoService workers said (Run (told_of_opening c))) (sym memory) tt
told_refused workers said cause (inr full) =
    subst (λ (c : OpenCause). IsNoService workers said (Run (told_of_opening c))) (sym full.0) full.1

-- ---- serving

pub told_unserved : (service : ServiceView) (jobs : List Request) (before : List SessionView) (cause : ServeCause)
    (lists : List (List Numbered)) (after : List SessionView)
    → IsRefused service jobs before cause lists after → IsUnserved service jobs before (told_of_serving cause)
told_unserved service jobs before serve.NoWorkers lists after why = tt
told_unserved service jobs before serve.TooManyWorkers lists after why = tt
told_unserved service jobs before serve.NoMemory lists after why = tt
told_unserved service jobs before (serve.Doubled job) lists after why =
    record { lists = lists; after = after; refused = why }
told_unserved service jobs before (serve.Lost job) lists after why =
    record { lists = lists; after = after; refused = why }

-- ---- closing

pub unclosed : (workers : ℕ) (said : Said) (replies : List Reply) (service : ServiceView) (sessions : List SessionView)
    (cause : CloseCause)
    → AreDone workers said replies service sessions → RefusesToClose service sessions cause
    → IsServiceFault workers said (told_of_closing cause)
unclosed workers said replies service sessions (close.Stranger place) done refuses =
    record { replies = replies; service = service; sessions = sessions; done = done; refuses = refuses }
unclosed workers said replies service sessions (close.Missing number) done refuses =
    record { replies = replies; service = service; sessions = sessions; done = done; refuses = refuses }
unclosed workers said replies service sessions close.Opening done refuses =
    record { replies = replies; service = service; sessions = sessions; done = done; refuses = refuses }
unclosed workers said replies service sessions (close.Mismatch number) done refuses =
    record { replies = replies; service = service; sessions = sessions; done = done; refuses = refuses }
