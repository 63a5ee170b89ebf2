-- Replies counted by job, and put in the places of their jobs.
use Rattle.std.proofs.Common.{◌≡◌, ◌≢◌, ℕ, zero, suc, ◌+◌, ◌==◌, ◌<◌, min, Bool, true, false, cond, if◌then◌else◌, List, [], ◌∷◌, ◌++◌, length, get_or, take, drop, slice_get, slice_set, Option, Some, refl, sym, ap, ◌∙◌, subst, append-nil, arith}
use Rattle.std.proofs.lemmas.Bool.{eqb-true, eqb-false, eq-eqb}
use Rattle.std.proofs.lemmas.List.{take_more, take_all, drop_all}
use Rattle.std.proofs.lemmas.List.Sums.{sum_by-cons, sum_by-append}
use Rattle.std.proofs.lemmas.List.Concat.{flat_map-append}
use Rattle.std.proofs.lemmas.Option.{same_Some, none-some, slice_get_within}
use Rattle.root_ops.specs.declared.op.Request.{Request}
use Rattle.root_ops.specs.declared.reply.Reply.{Reply}
use Rattle.sessions.specs.Service.{ServiceView}
use Rattle.sessions.specs.Session.{SessionView}
use Rattle.workers.specs.declared.told.Numbered.{Numbered}
use Rattle.workers.specs.Work.{Works}
use Rattle.workers.specs.Serve.{joined, replies_to, last_to, HasWorkers, AllWork, IsServed, AllOnce, IsDoubled, IsLost, IsFirst, NoneBelow}

-- ---- counts

abbrev one_if : Bool → ℕ
one_if b = cond b 1 0

pub replies_to-cons : (job : ℕ) (numbered : Numbered) (told : List Numbered) → replies_to job (numbered ∷ told) ≡ cond (numbered.job == job) 1 0 + replies_to job told
replies_to-cons job numbered told = sum_by-cons (λ (n : Numbered). cond (n.job == job) 1 0) numbered told

pub replies_to-append : (job : ℕ) (xs ys : List Numbered) → replies_to job (xs ++ ys) ≡ replies_to job xs + replies_to job ys
replies_to-append job xs ys = sum_by-append (λ (n : Numbered). cond (n.job == job) 1 0) xs ys

-- a job with a reply is counted
counted : (job i : ℕ) (told : List Numbered) (numbered : Numbered) → slice_get told i ≡ Some numbered → numbered.job ≡ job → 0 < replies_to job told
counted job i [] numbered at is = absurd (none-some numbered at)
counted job zero (x ∷ told) numbered at is =
    let here : (x.job == job) ≡ true = eq-eqb x.job job (ap (λ (n : Numbered). n.job) (same_Some x numbered at) ∙ is) in
    let one : one_if (x.job == job) ≡ 1 = ap one_if here in
    omega (arith, replies_to-cons job x told, one)
counted job (suc i) (x ∷ told) numbered at is =
    let later = counted job i told numbered at is in
    omega (arith, replies_to-cons job x told, later)

-- ---- the last reply

pub last_to-append : (job : ℕ) (before : Option Reply) (xs ys : List Numbered) → last_to job before (xs ++ ys) ≡ last_to job (last_to job before xs) ys
last_to-append job before [] ys = refl
last_to-append job before (x ∷ xs) ys = last_to-append job (if x.job == job then Some x.reply else before) xs ys

-- a job without a reply has what was there before
last_of_none : (job : ℕ) (before : Option Reply) (told : List Numbered) → replies_to job told ≡ 0 → last_to job before told ≡ before
last_of_none job before [] none = refl
last_of_none job before (x ∷ told) none = on (x.job == job) refl (λ later. last_of_none job before told later)
  where
    on : (b : Bool) → (x.job == job) ≡ b → (replies_to job told ≡ 0 → last_to job before told ≡ before) → last_to job before (x ∷ told) ≡ before
    on true is later =
        let one : one_if (x.job == job) ≡ 1 = ap one_if is in
        absurd (omega (arith, none, one, replies_to-cons job x told))
    on false is later = ap (λ b. last_to job (if b then Some x.reply else before) told) is ∙ later (omega (arith, none, replies_to-cons job x told))

-- a job's one reply is its last
pub last_of_one : (job i : ℕ) (before : Option Reply) (told : List Numbered) (numbered : Numbered) → replies_to job told ≡ 1 → slice_get told i ≡ Some numbered → numbered.job ≡ job
    → last_to job before told ≡ Some numbered.reply
last_of_one job i before [] numbered one at is = absurd (none-some numbered at)
last_of_one job zero before (x ∷ told) numbered one at is =
    let same : x ≡ numbered = same_Some x numbered at in
    let here : (x.job == job) ≡ true = eq-eqb x.job job (ap (λ (n : Numbered). n.job) same ∙ is) in
    let is_one : one_if (x.job == job) ≡ 1 = ap one_if here in
    ap (λ b. last_to job (if b then Some x.reply else before) told) here
    ∙ (last_of_none job (Some x.reply) told (omega (arith, one, is_one, replies_to-cons job x told)) ∙ ap (λ (n : Numbered). Some n.reply) same)
last_of_one job (suc i) before (x ∷ told) numbered one at is = on (x.job == job) refl (λ later. last_of_one job i before told numbered later at is)
  where
    on : (b : Bool) → (x.job == job) ≡ b → (replies_to job told ≡ 1 → last_to job before told ≡ Some numbered.reply) → last_to job before (x ∷ told) ≡ Some numbered.reply
    on true here further =
        let is_one : one_if (x.job == job) ≡ 1 = ap one_if here in
        let later = counted job i told numbered at is in
        absurd (omega (arith, one, is_one, later, replies_to-cons job x told))
    on false here further =
        let is_none : one_if (x.job == job) ≡ 0 = ap one_if here in
        ap (λ b. last_to job (if b then Some x.reply else before) told) here
        ∙ further (omega (arith, one, is_none, replies_to-cons job x told))

-- one worker's replies, and then the others'
pub last_of_more : (job : ℕ) (before now : Option Reply) (told : List Numbered) (lists rest : List (List Numbered)) → lists ≡ told ∷ rest
    → now ≡ last_to job before told → last_to job now (joined rest) ≡ last_to job before (joined lists)
last_of_more job before now told lists rest is put =
    ap (λ o. last_to job o (joined rest)) put ∙ (sym (last_to-append job before told (joined rest)) ∙ ap (λ ls. last_to job before (joined ls)) (sym is))

-- one reply, and then the others
pub last_of_next : (job : ℕ) (before now : Option Reply) (numbered : Numbered) (told rest : List Numbered) → told ≡ numbered ∷ rest
    → now ≡ last_to job before (numbered ∷ []) → last_to job now rest ≡ last_to job before told
last_of_next job before now numbered told rest is put =
    ap (λ o. last_to job o rest) put ∙ ap (λ ns. last_to job before ns) (sym is)

-- a worker's replies are counted after those of the workers before it
pub count_on : (job i old new : ℕ) (lists : List (List Numbered)) (told : List Numbered) → i < length lists → told ≡ get_or lists i told
    → old ≡ min 2 (replies_to job (joined (take i lists))) → new ≡ min 2 (old + replies_to job told) → new ≡ min 2 (replies_to job (joined (take (i + 1) lists)))
count_on job i old new lists told within item before after =
    let more : take (i + 1) lists ≡ take i lists ++ told ∷ [] = take_more lists i told within ∙ ap (λ t. take i lists ++ t ∷ []) (sym item) in
    let joined_more : joined (take (i + 1) lists) ≡ joined (take i lists) ++ (told ++ []) = ap joined more ∙ flat_map-append (λ (t : List Numbered). t) (take i lists) (told ∷ []) in
    let both : replies_to job (joined (take (i + 1) lists)) ≡ replies_to job (joined (take i lists)) + replies_to job told =
    ap (replies_to job) joined_more ∙ (replies_to-append job (joined (take i lists)) (told ++ []) ∙ ap (λ t. replies_to job (joined (take i lists)) + replies_to job t) (append-nil told)) in
    omega (arith, before, after, both)

-- ---- one place is written

get_set_same : (xs : List Reply) (i : ℕ) (y : Reply) → i < length xs → slice_get (slice_set xs i y) i ≡ Some y
get_set_same [] i y within = absurd (omega arith)
get_set_same (x ∷ xs) zero y within = refl
get_set_same (x ∷ xs) (suc i) y within = get_set_same xs i y (omega arith)

get_set_other : (xs : List Reply) (i : ℕ) (y : Reply) (k : ℕ) → k ≢ i → slice_get (slice_set xs i y) k ≡ slice_get xs k
get_set_other [] i y k ne = refl
get_set_other (x ∷ xs) zero y zero ne = absurd (ne refl)
get_set_other (x ∷ xs) zero y (suc k) ne = refl
get_set_other (x ∷ xs) (suc i) y zero ne = refl
get_set_other (x ∷ xs) (suc i) y (suc k) ne = get_set_other xs i y k (λ e. ne (ap suc e))

pub put_at : (replies : List Reply) (at : ℕ) (reply now : Reply) (job : ℕ) → now ≡ reply → at < length replies
    → slice_get (slice_set replies at now) job ≡ (if at == job then Some reply else slice_get replies job)
put_at replies at reply now job same within = on (at == job) refl
  where
    on : (b : Bool) → (at == job) ≡ b → slice_get (slice_set replies at now) job ≡ (if at == job then Some reply else slice_get replies job)
    on true q =
        subst (λ k. slice_get (slice_set replies at now) k ≡ Some reply) (eqb-true at job q) (get_set_same replies at now within ∙ ap (λ (r : Reply). Some r) same)
        ∙ sym (ap (λ b. if b then Some reply else slice_get replies job) q)
    on false q =
        get_set_other replies at now job (λ e. eqb-false at job q (sym e)) ∙ sym (ap (λ b. if b then Some reply else slice_get replies job) q)

-- ---- each reply has a job

abbrev InRange : ℕ → List Numbered → Type 0
InRange jobs told = (i : ℕ) (numbered : Numbered) → slice_get told i ≡ Some numbered → numbered.job < jobs

in_range-append : (jobs : ℕ) (xs ys : List Numbered) → InRange jobs xs → InRange jobs ys → InRange jobs (xs ++ ys)
in_range-append jobs [] ys left right i numbered at = right i numbered at
in_range-append jobs (x ∷ xs) ys left right zero numbered at = left zero numbered at
in_range-append jobs (x ∷ xs) ys left right (suc i) numbered at = in_range-append jobs xs ys (λ j n here. left (suc j) n here) right i numbered at

works_in_range : (service : ServiceView) (jobs : List Request) (before : SessionView) (told : List Numbered) (after : SessionView) → Works service jobs before told after → InRange (length jobs) told
works_in_range service jobs before [] after works i numbered at = absurd (none-some numbered at)
works_in_range service jobs before (x ∷ told) after works zero numbered at =
    let job : slice_get jobs numbered.job ≡ Some works.1.0.request = subst (λ (n : Numbered). slice_get jobs n.job ≡ Some works.1.0.request) (same_Some x numbered at) works.1.0.job_is in
    slice_get_within jobs numbered.job works.1.0.request job
works_in_range service jobs before (x ∷ told) after works (suc i) numbered at = works_in_range service jobs works.0 told after works.1.1 i numbered at

pub all_in_range : (service : ServiceView) (jobs : List Request) (before : List SessionView) (lists : List (List Numbered)) (after : List SessionView) → AllWork service jobs before lists after → InRange (length jobs) (joined lists)
all_in_range service jobs [] [] [] work i numbered at = absurd (none-some numbered at)
all_in_range service jobs [] [] (a ∷ after) work i numbered at = absurd work
all_in_range service jobs [] (told ∷ lists) after work i numbered at = absurd work
all_in_range service jobs (b ∷ before) [] after work i numbered at = absurd work
all_in_range service jobs (b ∷ before) (told ∷ lists) [] work i numbered at = absurd work
all_in_range service jobs (b ∷ before) (told ∷ lists) (a ∷ after) work i numbered at =
    in_range-append (length jobs) told (joined lists) (works_in_range service jobs b told a work.0) (all_in_range service jobs before lists after work.1) i numbered at

-- ---- what the counts tell

one_left : (n : ℕ) → (1 < n → ⊥) → (n ≡ 0 → ⊥) → n ≡ 1
one_left zero few some = absurd (some refl)
one_left (suc zero) few some = refl
one_left (suc (suc n)) few some = absurd (few (omega arith))

-- each job's replies are counted, up to two
abbrev pub AreCounts : List ℕ → List (List Numbered) → ℕ → Type 0
AreCounts counts lists jobs = (job : ℕ) → job < jobs → get_or counts job 0 ≡ min 2 (replies_to job (joined lists))

doubled_from : (n r : ℕ) → n ≡ min 2 r → 1 < n → 1 < r
doubled_from n r is many = omega arith

doubled_to : (n r : ℕ) → n ≡ min 2 r → 1 < r → 1 < n
doubled_to n r is many = omega arith

lost_from : (n r : ℕ) → n ≡ min 2 r → n ≡ 0 → r ≡ 0
lost_from n r is none = omega arith

lost_to : (n r : ℕ) → n ≡ min 2 r → r ≡ 0 → n ≡ 0
lost_to n r is none = omega arith

pub first_is_doubled : (counts : List ℕ) (lists : List (List Numbered)) (jobs m job : ℕ) → m ≡ jobs → AreCounts counts lists jobs
    → IsFirst (λ k. 1 < get_or counts k 0) m job → IsFirst (IsDoubled lists) jobs job
first_is_doubled counts lists jobs m job same are first =
    let within : job < jobs = omega (arith, same, first.0) in (
      within,
      (
        doubled_from _ _ (are job within) first.1.0,
        λ j before many. first.1.1 j before (doubled_to _ _ (are j (omega (arith, within, before))) many),
      ),
    )

pub none_is_doubled : (counts : List ℕ) (lists : List (List Numbered)) (jobs m : ℕ) → m ≡ jobs → AreCounts counts lists jobs
    → NoneBelow (λ k. 1 < get_or counts k 0) m → NoneBelow (IsDoubled lists) jobs
none_is_doubled counts lists jobs m same are none job within many = none job (omega (arith, same, within)) (doubled_to _ _ (are job within) many)

pub first_is_lost : (counts : List ℕ) (lists : List (List Numbered)) (jobs m job : ℕ) → m ≡ jobs → AreCounts counts lists jobs
    → IsFirst (λ k. get_or counts k 0 ≡ 0) m job → IsFirst (IsLost lists) jobs job
first_is_lost counts lists jobs m job same are first =
    let within : job < jobs = omega (arith, same, first.0) in (
      within,
      (
        lost_from _ _ (are job within) first.1.0,
        λ j before none. first.1.1 j before (lost_to _ _ (are j (omega (arith, within, before))) none),
      ),
    )

pub none_is_lost : (counts : List ℕ) (lists : List (List Numbered)) (jobs m : ℕ) → m ≡ jobs → AreCounts counts lists jobs
    → NoneBelow (λ k. get_or counts k 0 ≡ 0) m → NoneBelow (IsLost lists) jobs
none_is_lost counts lists jobs m same are none job within lost = none job (omega (arith, same, within)) (lost_to _ _ (are job within) lost)

pub all_once : (lists : List (List Numbered)) (jobs : ℕ) → NoneBelow (IsDoubled lists) jobs → NoneBelow (IsLost lists) jobs → AllOnce lists jobs
all_once lists jobs none_doubled none_lost job within = one_left (replies_to job (joined lists)) (none_doubled job within) (none_lost job within)

-- what is written over all of a list's elements
pub all_written : {A : Type 0} (new old : List A) (len : ℕ) → length new ≡ length old → len ≡ length old → take len (new ++ drop (length new) old) ≡ new
all_written new old len same is =
    let rest : drop (length new) old ≡ [] = drop_all (length new) old (omega (arith, same)) in
    ap (λ r. take len (new ++ r)) rest ∙ (ap (take len) (append-nil new) ∙ take_all len new (omega (arith, same, is)))

-- each job has one reply, and the last to it stands in its place
pub is_served : (service : ServiceView) (jobs : List Request) (before after : List SessionView) (lists : List (List Numbered)) (empty replies : List Reply)
    → HasWorkers before → AllWork service jobs before lists after → AllOnce lists (length jobs) → length empty ≡ length jobs → length replies ≡ length empty
    → ((job : ℕ) → job < length empty → slice_get replies job ≡ last_to job (slice_get empty job) (joined lists)) → IsServed service jobs before after replies
is_served service jobs before after lists empty replies workers work once places same put =
    record {
      workers = workers;
      lists = lists;
      work = work;
      once = once;
      in_place = λ i numbered at.
          let within : numbered.job < length jobs = all_in_range service jobs before lists after work i numbered at in
          put numbered.job (omega (arith, within, places)) ∙ last_of_one numbered.job i (slice_get empty numbered.job) (joined lists) numbered (once numbered.job within) at refl;
      as_many = same ∙ places;
    }
