-- The world of a script that can be played: it is made but for its book's lines and memory, and its schedule is taken.
use Rattle.std.proofs.Common.{◌≡◌, ℕ, suc, ◌+◌, ◌<◌, ◌≤◌, Bool, List, [], ◌∷◌, length, cond, refl, sym, ap, ◌∙◌, subst, arith}
use Rattle.std.proofs.lemmas.Bool.{lt-ltb}
use Rattle.std.proofs.lemmas.List.{length_push}
use Rattle.std.proofs.lemmas.List.Elements.{All-head, All-tail}
use Rattle.std.proofs.lemmas.List.Sums.{sum_by_push}
use Rattle.std.specs.Prelude.{Option, Some, None, Result, Ok, Err, All, IsOk, is_some, if◌then◌else◌}
use Rattle.path_text.specs.declared.errno.Errno.{Errno}
use Rattle.path_text.specs.declared.errno.Errno.TheVariants.{TooMany}
use Rattle.race_core.specs.declared.plan.ActorPlan.{ActorPlan}
use Rattle.race_core.specs.declared.report.WorldFault.{WorldFault}
use Rattle.race_core.specs.declared.report.WorldFault.TheVariants as refusal
use Rattle.race_core.specs.Ledgers.{LedgerView}
use Rattle.race_core.specs.Turns.{opened_ledger}
use Rattle.race_core.specs.Opening.{Granted, before, onward_from, granted, root_in, seats_of, Opens}
use Rattle.race_core.specs.Worlds.{WorldView, first_beyond, RefusesRun}
use Rattle.tree_model.specs.declared.inode.OpenHandle.{OpenHandle}
use Rattle.tree_model.specs.Entries.{refuse_if}
use Rattle.tree_model.specs.State.{State, TOP}
use Rattle.tree_model.specs.StepLaws.{open_count}
use Rattle.tree_model.specs.Steps.{directory_at, grants, grants_at, with_handle}
use Rattle.scripts.specs.declared.fault.RunFault.{RunFault}
use Rattle.run_command.specs.Replay.{CanCome, told_of}
use Rattle.scripts.specs.Writing.{HasFewLines, IsNoRun, tree_of}
use Rattle.scripts.specs.Scenario.{Said, IsPlayable}
use Rattle.scripts.proofs.Roots.{has_room}

-- ---- the roots

-- these actors' roots are granted, each with one open handle more
pub record AllGranted (s : State) (i : ℕ) (plans : List ActorPlan) : Type 0 where
  pub roots : Granted
  pub are : granted s i plans ≡ Ok roots
  pub counted : open_count roots.tree ≡ open_count s + length plans
  pub seated : length roots.ledgers ≡ length plans

roots_of : (s : State) (i : ℕ) (plans : List ActorPlan) → All (λ plan. IsOk (directory_at s.nodes TOP plan.root)) plans
    → length s.handles + length plans ≤ 64 → AllGranted s i plans
roots_of s i [] are few = record { roots = record { tree = s; ledgers = [] }; are = refl; counted = omega arith; seated = refl }
roots_of s i (plan ∷ plans) are few =
    by (directory_at s.nodes TOP plan.root) refl (All-head (λ p. IsOk (directory_at s.nodes TOP p.root)) plan plans are) (λ x.
    let t : State = with_handle s i x in
    let longer : length t.handles ≡ length s.handles + 1 = length_push s.handles (Some (record { actor = i; node = x })) in
    roots_of t (suc i) plans (All-tail (λ p. IsOk (directory_at s.nodes TOP p.root)) plan plans are) (omega (arith, longer, few)))
  where
    by : (found : Result ℕ Errno) → directory_at s.nodes TOP plan.root ≡ found → IsOk found → ((x : ℕ) → AllGranted (with_handle s i x) (suc i) plans)
        → AllGranted s i (plan ∷ plans)
    by (Err error) is ok others = cc (ok)
    by (Ok x) is ok others =
        let rest = others x in
        let one_more : open_count (with_handle s i x) ≡ open_count s + 1 =
        sum_by_push (λ (o : Option OpenHandle). cond (is_some o) 1 0) s.handles (Some (record { actor = i; node = x })) in
        let gives : grants s i plan.root ≡ Ok (with_handle s i x) =
        ap (grants_at s i) is ∙ ap (λ (b : Bool). refuse_if b (Err TooMany) (Ok (with_handle s i x))) (has_room s i (omega (arith, few))) in
        let ledger : LedgerView = opened_ledger (root_in s i) plan.calls in
        record {
          roots = record { tree = rest.roots.tree; ledgers = ledger ∷ rest.roots.ledgers };
          are =
              ap (λ (r : Result State Errno). onward_from i r (λ u. before ledger (granted u (suc i) plans))) gives
              ∙ ap (before ledger) rest.are;
          counted = omega (arith, rest.counted, one_more);
          seated = ap suc rest.seated;
        }

-- ---- the world

-- nobody has a handle yet
pub in_said : (tree : State) (plans : List ActorPlan) (lines : ℕ) (made : Result WorldView WorldFault) → tree.handles ≡ []
    → Opens tree plans lines made → Opens (record { nodes = tree.nodes; handles = [] }) plans lines made
in_said tree plans lines made none = subst (λ (hs : List (Option OpenHandle)). Opens (record { nodes = tree.nodes; handles = hs }) plans lines made) none

-- of what can be played all roots are granted, one open handle for each
pub said_roots : (said : Said) → IsPlayable said → AllGranted (tree_of said) 0 said.plans
said_roots said playable = let few = playable.few in roots_of (tree_of said) 0 said.plans playable.roots (omega (arith, few))

same_roots : (said : Said) (all : AllGranted (tree_of said) 0 said.plans) (roots : Granted) → granted (tree_of said) 0 said.plans ≡ Ok roots → all.roots ≡ roots
same_roots said all roots e = let are = all.are in cc (are, e)

-- its world is refused for its lines, or for want of memory
pub can_come : (said : Said) (cause : WorldFault) → IsPlayable said → Opens (tree_of said) said.plans said.lines (Err cause) → CanCome cause
can_come said refusal.TooManyActors playable opens = let few = playable.few in omega (arith, few, opens)
can_come said (refusal.RootNotFound i) playable opens = let are = (said_roots said playable).are in let refused = opens.refused in cc (are, refused)
can_come said (refusal.RootNotDir i) playable opens = let are = (said_roots said playable).are in let refused = opens.refused in cc (are, refused)
can_come said (refusal.TooMany i) playable opens = let are = (said_roots said playable).are in let refused = opens.refused in cc (are, refused)
can_come said (refusal.NoSuchActor i) playable opens = absurd opens
can_come said refusal.Invalid playable opens = let bounded = playable.bounded in let why = opens.why in omega (arith, bounded, why)
can_come said refusal.BookFull playable opens = tt
can_come said refusal.NoMemory playable opens = tt

-- a book that is full has fewer lines than there are actors
pub few_lines : (said : Said) → IsPlayable said → Opens (tree_of said) said.plans said.lines (Err refusal.BookFull) → HasFewLines said
few_lines said playable opens =
    let all = said_roots said playable in
    let same : all.roots ≡ opens.roots = same_roots said all opens.roots opens.are_granted in
    let full : said.lines < open_count opens.roots.tree = opens.why.1 in
    let counted = all.counted in
    omega (arith, full, counted, ap (λ (g : Granted). open_count g.tree) same)

-- and it is told so
pub told : (said : Said) (cause : WorldFault) (fault : RunFault) → IsPlayable said
    → Opens (tree_of said) said.plans said.lines (Err cause) → fault ≡ told_of cause → IsNoRun said fault
told said cause fault playable opens is = subst (IsNoRun said) (sym is) (by cause opens)
  where
    by : (cause : WorldFault) → Opens (tree_of said) said.plans said.lines (Err cause) → IsNoRun said (told_of cause)
    by refusal.TooManyActors opens = tt
    by (refusal.RootNotFound i) opens = tt
    by (refusal.RootNotDir i) opens = tt
    by (refusal.TooMany i) opens = tt
    by (refusal.NoSuchActor i) opens = tt
    by refusal.Invalid opens = tt
    by refusal.BookFull opens = few_lines said playable opens
    by refusal.NoMemory opens = tt

-- ---- its schedule

pub length-seats_of : (ledgers : List LedgerView) → length (seats_of ledgers) ≡ length ledgers
length-seats_of [] = refl
length-seats_of (ledger ∷ ledgers) = ap suc (length-seats_of ledgers)

none_beyond : (actors : ℕ) (schedule : List ℕ) → All (λ actor. actor < actors) schedule → first_beyond actors schedule ≡ None
none_beyond actors [] are = refl
none_beyond actors (i ∷ is) are =
    ap (λ (b : Bool). if b then first_beyond actors is else Some i) (lt-ltb i actors (All-head (λ actor. actor < actors) i is are))
    ∙ none_beyond actors is (All-tail (λ actor. actor < actors) i is are)

-- there is a seat for each actor, so that the schedule has no other
pub turns_are_taken : (said : Said) (world : WorldView) → IsPlayable said → Opens (tree_of said) said.plans said.lines (Ok world)
    → first_beyond (length world.seats) said.schedule ≡ None
turns_are_taken said world playable opens =
    let all = said_roots said playable in
    let same : all.roots ≡ opens.roots = same_roots said all opens.roots opens.are_granted in
    let seats : length world.seats ≡ length said.plans =
    ap (λ (w : WorldView). length w.seats) opens.is ∙ length-seats_of opens.roots.ledgers
    ∙ ap (λ (g : Granted). length g.ledgers) (sym same) ∙ all.seated in
    ap (λ (n : ℕ). first_beyond n said.schedule) seats ∙ none_beyond (length said.plans) said.schedule playable.turns

-- so its run is refused for want of memory alone
pub stops_for_memory : (said : Said) (world : WorldView) (cause : WorldFault) → IsPlayable said → Opens (tree_of said) said.plans said.lines (Ok world)
    → RefusesRun world said.schedule cause → cause ≡ refusal.NoMemory
stops_for_memory said world (refusal.NoSuchActor actor) playable opens refused = let taken = turns_are_taken said world playable opens in cc (taken, refused)
stops_for_memory said world refusal.TooManyActors playable opens refused = absurd refused
stops_for_memory said world (refusal.RootNotFound at) playable opens refused = absurd refused
stops_for_memory said world (refusal.RootNotDir at) playable opens refused = absurd refused
stops_for_memory said world (refusal.TooMany at) playable opens refused = absurd refused
stops_for_memory said world refusal.Invalid playable opens refused = absurd refused
stops_for_memory said world refusal.BookFull playable opens refused = absurd refused
stops_for_memory said world refusal.NoMemory playable opens refused = refl
