-- What workers did, put together.
use Rattle.std.proofs.Common.{◌≡◌, ℕ, suc, ◌<◌, List, [], ◌∷◌, ◌++◌, map, length, get_or, slice_get, Some, refl, sym, ap, ◌∙◌, subst, append_assoc, append-nil, arith}
use Rattle.std.proofs.lemmas.List.{length-map}
use Rattle.root_ops.specs.declared.op.Request.{Request}
use Rattle.sessions.specs.Service.{ServiceView}
use Rattle.sessions.specs.Session.{SessionView}
use Rattle.workers.specs.declared.told.Numbered.{Numbered}
use Rattle.workers.specs.Work.{WorkerView, Answers, Works, WorksOn, idle, sessions_of, lists_of}
use Rattle.workers.specs.Serve.{AllWork}

-- one list of replies after another
works-append : (service : ServiceView) (jobs : List Request) (before : SessionView) (xs ys : List Numbered) (between after : SessionView)
    → Works service jobs before xs between → Works service jobs between ys after → Works service jobs before (xs ++ ys) after
works-append service jobs before [] ys between after same on = subst (λ s. Works service jobs s ys after) same on
works-append service jobs before (x ∷ xs) ys between after works on =
    (works.0, (works.1.0, works-append service jobs works.0 xs ys between after works.1.1 on))

-- nothing was told
pub works_nothing : (service : ServiceView) (jobs : List Request) (old new : WorkerView) → new.told ≡ old.told → new.session ≡ old.session → WorksOn service jobs old new
works_nothing service jobs old new told session = record { more = []; told = told ∙ sym (append-nil old.told); works = session }

-- one reply was told
pub works_once : (service : ServiceView) (jobs : List Request) (old new : WorkerView) (numbered : Numbered) (request : Request)
    → new.told ≡ old.told ++ numbered ∷ [] → slice_get jobs numbered.job ≡ Some request
    → Answers service old.session request new.session numbered.reply → WorksOn service jobs old new
works_once service jobs old new numbered request told job answers =
    record {
      more = numbered ∷ [];
      told = told;
      works = (new.session, (record { request = request; job_is = job; answers = answers }, refl));
    }

-- more, and then still more
pub works_on : (service : ServiceView) (jobs : List Request) (old between new : WorkerView) → WorksOn service jobs old between → WorksOn service jobs between new → WorksOn service jobs old new
works_on service jobs old between new first second =
    record {
      more = first.more ++ second.more;
      told = second.told ∙ (ap (λ t. t ++ second.more) first.told ∙ append_assoc old.told first.more second.more);
      works = works-append service jobs old.session first.more second.more between.session new.session first.works second.works;
    }

-- each worker began idle
pub all_work : (service : ServiceView) (jobs : List Request) (before : List SessionView) (workers : List WorkerView) → length workers ≡ length before
    → ((i : ℕ) (d : WorkerView) → i < length before → WorksOn service jobs (get_or (map idle before) i d) (get_or workers i d))
    → AllWork service jobs before (lists_of workers) (sessions_of workers)
all_work service jobs [] [] same each = tt
all_work service jobs [] (worker ∷ workers) same each = absurd (omega arith)
all_work service jobs (session ∷ before) [] same each = absurd (omega arith)
all_work service jobs (session ∷ before) (worker ∷ workers) same each =
    let first : WorksOn service jobs (idle session) worker = each 0 worker (omega arith) in (
      subst (λ told. Works service jobs session told worker.session) (sym first.told) first.works,
      all_work service jobs before workers (omega arith) (λ i d within. each (suc i) d (omega arith)),
    )

-- the workers were hired idle, worked, and were dismissed
pub employed : (service : ServiceView) (jobs : List Request) (before after : List SessionView) (lists : List (List Numbered)) (hired workers : List WorkerView)
    → hired ≡ map idle before → length workers ≡ length hired
    → ((i : ℕ) (d : WorkerView) → i < length hired → WorksOn service jobs (get_or hired i d) (get_or workers i d))
    → after ≡ sessions_of workers → lists ≡ lists_of workers → AllWork service jobs before lists after
employed service jobs before after lists hired workers idle_first same each after_is lists_are =
    let Each : List WorkerView → Type 0 = λ hs. (i : ℕ) (d : WorkerView) → i < length hs → WorksOn service jobs (get_or hs i d) (get_or workers i d) in
    let as_many : length workers ≡ length (map idle before) = same ∙ ap length idle_first in
    let one_each : length workers ≡ length before = as_many ∙ length-map before idle in
    let works : Each (map idle before) = subst Each idle_first each in
    let work : AllWork service jobs before (lists_of workers) (sessions_of workers) = all_work service jobs before workers one_each (λ i d within. works i d (omega (arith, within, length-map before idle))) in
    subst (λ ls. AllWork service jobs before ls after) (sym lists_are) (subst (λ ss. AllWork service jobs before (lists_of workers) ss) (sym after_is) work)
