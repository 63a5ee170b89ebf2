-- What a script says can be played, since the checks have passed.
use Rattle.std.proofs.Common.{◌≡◌, ℕ, ◌+◌, ◌<◌, ◌≤◌, Bool, true, false, List, [], ◌∷◌, suc, length, refl, subst, arith}
use Rattle.std.proofs.lemmas.Bool.{leb-true, leb-false, ltb-true, ltb-false}
use Rattle.std.proofs.lemmas.List.Elements.{All-nil, All-cons}
use Rattle.std.specs.Prelude.{not, Option, Some, None, Result, Ok, Err, All, IsOk, nat_lt, nat_le, ◌&&◌, if◌then◌else◌, option_and_then, codes}
use Rattle.serde_json.specs.Data.{Data, Items, no_items, item}
use Rattle.serde_json.specs.Find.{get, as_number, as_u64, as_array}
use Rattle.path_text.specs.declared.errno.Errno.{Errno}
use Rattle.race_core.specs.declared.plan.ActorPlan.{ActorPlan}
use Rattle.race_core.specs.declared.plan.Planned.{Planned}
use Rattle.tree_model.specs.declared.inode.Inode.{Inode}
use Rattle.tree_model.specs.Entries.{with_some, refuse_if}
use Rattle.tree_model.specs.State.{TOP}
use Rattle.tree_model.specs.Steps.{directory_at}
use Rattle.scripts.specs.declared.calls.TheConstants.{CALLS_MAX}
use Rattle.scripts.specs.declared.calls.Purpose.{Purpose}
use Rattle.scripts.specs.declared.calls.Purpose.TheVariants.{Turns, Jobs}
use Rattle.scripts.specs.declared.calls.Version.{Version}
use Rattle.scripts.specs.declared.fault.Cause.TheVariants.{Shape}
use Rattle.scripts.specs.declared.fault.ScriptFault.{ScriptFault}
use Rattle.scripts.specs.declared.fault.ScriptFault.TheVariants as fault
use Rattle.scripts.specs.declared.scenario.Header.{Header}
use Rattle.scripts.specs.declared.scenario.TheConstants.{LINES_MAX}
use Rattle.scripts.specs.declared.schedule.TheConstants.{TURNS_MAX}
use Rattle.scripts.specs.Actors.{root_of}
use Rattle.scripts.specs.CallFaults.{fault_in_call}
use Rattle.scripts.specs.Calls.{call_of, call_at, calls_of, is_fit}
use Rattle.scripts.specs.Checks.{are_over, then_with, each}
use Rattle.scripts.specs.Fields.{list_in, perhaps}
use Rattle.scripts.specs.Labels.{labels_from}
use Rattle.scripts.specs.declared.labels.Label.{Label}
use Rattle.scripts.specs.Plans.{root_at, actor_at, actors_in, actors_of}
use Rattle.scripts.specs.Scenario.{Said, IsPlayable, IsFitFor, first_calls, lines_in, header_of, nodes_in, schedule_for, scenario_of}
use Rattle.scripts.specs.Schedule.{turn_at, schedule_by}
use Rattle.scripts.specs.Version.{version_of}
use Rattle.scripts.specs.declared.turns.TurnOrder.{TurnOrder}
use Rattle.scripts.specs.declared.turns.TurnOrder.TheVariants.{OfScript, Asked}
use Rattle.scripts.specs.Turns.{own_turns, first_foreign, few_turns}
use Rattle.scripts.proofs.Scenarios.{few_actors, some_actors}

-- ---- checks that have passed

pub record HasPassed {A B : Type 0} (said : Result A ScriptFault) (onward : A → Result B ScriptFault) (y : B) : Type 0 where
  pub x : A
  pub was : said ≡ Ok x
  pub went : onward x ≡ Ok y

pub passed_then : {A B : Type 0} (said : Result A ScriptFault) (onward : A → Result B ScriptFault) (y : B) → then_with said onward ≡ Ok y → HasPassed said onward y
passed_then (Ok x) onward y e = record { x = x; was = refl; went = e }
passed_then (Err f) onward y e = cc (e)

pub record WasThere {A B : Type 0} (said : Option A) (onward : A → Result B ScriptFault) (y : B) : Type 0 where
  pub x : A
  pub was : said ≡ Some x
  pub went : onward x ≡ Ok y

was_there : {A B : Type 0} (said : Option A) (f : ScriptFault) (onward : A → Result B ScriptFault) (y : B) → with_some said (Err f) onward ≡ Ok y → WasThere said onward y
was_there (Some x) f onward y e = record { x = x; was = refl; went = e }
was_there None f onward y e = cc (e)

not_refused : {B : Type 0} (test : Bool) (f : ScriptFault) (onward : Result B ScriptFault) (y : B) → refuse_if test (Err f) onward ≡ Ok y → onward ≡ Ok y
not_refused true f onward y e = cc (e)
not_refused false f onward y e = e

all_of_each : {A : Type 0} (P : A → Type 0) (says : ℕ → Data → Result A ScriptFault) → ((k : ℕ) (d : Data) (x : A) → says k d ≡ Ok x → P x)
    → (k : ℕ) (items : Items) (xs : List A) → each says k items ≡ Ok xs → All P xs
all_of_each {A = A} P says holds k no_items xs e = let same : ◌≡◌ {A = List A} [] xs = cc (e) in subst (λ (ys : List A). All P ys) same (All-nil P)
all_of_each {A = A} P says holds k (item d ds) xs e =
    by (passed_then (says k d) (λ y. then_with (each says (k + 1) ds) (λ ys. Ok (y ∷ ys))) xs e) (all_of_each P says holds (k + 1) ds)
  where
    by : HasPassed (says k d) (λ y. then_with (each says (k + 1) ds) (λ ys. Ok (y ∷ ys))) xs → ((ys : List A) → each says (k + 1) ds ≡ Ok ys → All P ys) → All P xs
    by first rest_holds =
        let rest = passed_then (each says (k + 1) ds) (λ ys. Ok (first.x ∷ ys)) xs first.went in
        let went = rest.went in
        let same : first.x ∷ rest.x ≡ xs = cc (went) in
        subst (λ (ys : List A). All P ys) same (All-cons P first.x rest.x (holds k d first.x first.was) (rest_holds rest.x rest.was))

-- ---- roots

root_is_there : (k : ℕ) (found : Result ℕ Errno) (r : ℕ) → root_at k found ≡ Ok r → IsOk found
root_is_there k (Ok x) r e = refl
root_is_there k (Err f) r e = cc (e)

has_root : (purpose : Purpose) (nodes : List Inode) (version : Version) (k : ℕ) (d : Data) (plan : ActorPlan) → actor_at purpose nodes version k d ≡ Ok plan → IsOk (directory_at nodes TOP plan.root)
has_root purpose nodes version k d plan e =
    let named = was_there (root_of d) (fault.Actor k Shape) _ plan e in
    let listed = was_there (list_in (codes "calls") d) (fault.Actor k Shape) _ plan named.went in
    let rooted = passed_then (root_at k (directory_at nodes TOP named.x)) _ plan listed.went in
    let few = not_refused (are_over CALLS_MAX listed.x) (fault.TooManyCalls k) _ plan rooted.went in
    let called = passed_then (calls_of purpose version k listed.x) _ plan few in
    let went = called.went in
    let same : ◌≡◌ {A = ActorPlan} (record { root = named.x; calls = called.x }) plan = cc (went) in
    subst (λ (p : ActorPlan). IsOk (directory_at nodes TOP p.root)) same (root_is_there k (directory_at nodes TOP named.x) rooted.x rooted.was)

roots_are : (purpose : Purpose) (nodes : List Inode) (version : Version) (d : Data) (plans : List ActorPlan) → actors_of purpose nodes version d ≡ Ok plans
    → All (λ plan. IsOk (directory_at nodes TOP plan.root)) plans
roots_are purpose nodes version d plans e =
    let listed = passed_then (actors_in d) (each (actor_at purpose nodes version) 0) plans e in
    all_of_each (λ plan. IsOk (directory_at nodes TOP plan.root)) (actor_at purpose nodes version) (has_root purpose nodes version) 0 listed.x plans listed.went

-- ---- turns

below : (actors k n actor : ℕ) (test : Bool) → nat_lt n actors ≡ test → (if test then Ok n else Err (fault.Turn k)) ≡ Ok actor → actor < actors
below actors k n actor true is e = let same : n ≡ actor = cc (e) in subst (λ (i : ℕ). i < actors) same (ltb-true n actors is)
below actors k n actor false is e = cc (e)

is_turn : (actors k : ℕ) (d : Data) (actor : ℕ) → turn_at actors k d ≡ Ok actor → actor < actors
is_turn actors k d actor e =
    let there = was_there (option_and_then as_u64 (as_number d)) (fault.Turn k) _ actor e in
    below actors k there.x actor (nat_lt there.x actors) refl there.went

turns_by : (actors : ℕ) (said : Option Data) (schedule : List ℕ) → schedule_by actors said ≡ Ok schedule → All (λ actor. actor < actors) schedule
turns_by actors None schedule e = let same : ◌≡◌ {A = List ℕ} [] schedule = cc (e) in subst (λ (is : List ℕ). All (λ actor. actor < actors) is) same (All-nil (λ actor. actor < actors))
turns_by actors (Some d) schedule e =
    let listed = was_there (as_array d) fault.Schedule _ schedule e in
    let few = not_refused (are_over TURNS_MAX listed.x) fault.TooManyTurns _ schedule listed.went in
    all_of_each (λ actor. actor < actors) (turn_at actors) (is_turn actors) 0 listed.x schedule few

-- turns without a foreign one are the actors'
none_foreign : (actors : ℕ) (turns : List ℕ) → length turns ≤ first_foreign actors turns → All (λ actor. actor < actors) turns
none_foreign actors [] all = All-nil (λ actor. actor < actors)
none_foreign actors (i ∷ is) all = by (nat_le actors i) refl (none_foreign actors is) all
  where
    by : (foreign : Bool) → nat_le actors i ≡ foreign → (length is ≤ first_foreign actors is → All (λ actor. actor < actors) is)
        → suc (length is) ≤ (if not foreign then 1 + first_foreign actors is else 0) → All (λ actor. actor < actors) (i ∷ is)
    by true test others all = let none : suc (length is) ≤ 0 = all in let no : ⊥ = omega (arith, none) in absurd no
    by false test others all =
        let more : suc (length is) ≤ 1 + first_foreign actors is = all in
        All-cons (λ actor. actor < actors) i is (leb-false actors i test) (others (omega (arith, more)))

own : (actors : ℕ) (turns schedule : List ℕ) → own_turns actors turns ≡ Ok schedule → All (λ actor. actor < actors) schedule
own actors turns schedule e = by (nat_lt (first_foreign actors turns) (length turns)) refl e
  where
    by : (foreign : Bool) → nat_lt (first_foreign actors turns) (length turns) ≡ foreign
        → refuse_if foreign (Err (fault.Turn (first_foreign actors turns))) (Ok turns) ≡ Ok schedule → All (λ actor. actor < actors) schedule
    by true test e = cc (e)
    by false test e =
        let same : turns ≡ schedule = cc (e) in
        subst (λ (is : List ℕ). All (λ actor. actor < actors) is) same (none_foreign actors turns (ltb-false (first_foreign actors turns) (length turns) test))

turns_for : (order : TurnOrder) (actors : ℕ) (d : Data) (schedule : List ℕ) → schedule_for order actors d ≡ Ok schedule → All (λ actor. actor < actors) schedule
turns_for OfScript actors d schedule e = turns_by actors (get (codes "schedule") d) schedule e
turns_for (Asked asked) actors d schedule e =
    let listed = passed_then (few_turns asked.items) (own_turns actors) schedule e in
    own actors listed.x schedule listed.went

-- ---- lines

within : (n lines : ℕ) (test : Bool) → nat_le n LINES_MAX ≡ test → (first : Bool) → (if first && test then Some n else None) ≡ Some lines → lines ≤ LINES_MAX
within n lines true is true e = let same : n ≡ lines = cc (e) in subst (λ (i : ℕ). i ≤ LINES_MAX) same (leb-true n LINES_MAX is)
within n lines false is true e = cc (e)
within n lines test is false e = cc (e)

some_lines : (o : Option ℕ) (lines : ℕ) → with_some o None (λ n. if nat_le 1 n && nat_le n LINES_MAX then Some n else None) ≡ Some lines → lines ≤ LINES_MAX
some_lines None lines e = cc (e)
some_lines (Some n) lines e = within n lines (nat_le n LINES_MAX) refl (nat_le 1 n) e

bounded_lines : (o : Option Data) (lines : ℕ)
    → perhaps o LINES_MAX (λ d. with_some (option_and_then as_u64 (as_number d)) None (λ n. if nat_le 1 n && nat_le n LINES_MAX then Some n else None)) ≡ Some lines
    → lines ≤ LINES_MAX
bounded_lines None lines e = let same : LINES_MAX ≡ lines = cc (e) in omega (arith, same)
bounded_lines (Some d) lines e = some_lines (option_and_then as_u64 (as_number d)) lines e

bounded : (d : Data) (header : Header) → header_of d ≡ Ok header → header.lines ≤ LINES_MAX
bounded d header e =
    let version = passed_then (version_of d) _ header e in
    let lines = was_there (lines_in d) fault.Lines _ header version.went in
    let went = lines.went in
    let same : ◌≡◌ {A = Header} (record { version = version.x; lines = lines.x }) header = cc (went) in
    subst (λ (h : Header). h.lines ≤ LINES_MAX) same (bounded_lines (get (codes "lines") d) lines.x lines.was)

-- ---- which calls may stand there

kept : (fit : Bool) (f : ScriptFault) (x call : Planned) → refuse_if (not fit) (Err f) (Ok x) ≡ Ok call → (x ≡ call) × (fit ≡ true)
kept true f x call e = (cc (e), refl)
kept false f x call e = cc (e)

fits : (purpose : Purpose) (version : Version) (actor : ℕ) (labels : List Label) (k : ℕ) (d : Data) (call : Planned)
    → call_at purpose version actor labels k d ≡ Ok call → is_fit purpose actor call ≡ true
fits purpose version actor labels k d call e =
    let there = was_there (call_of version labels k d) (fault.Call actor k (fault_in_call version labels k d)) _ call e in
    let same = kept (is_fit purpose actor there.x) (fault.NoJob k) there.x call there.went in
    subst (λ (c : Planned). is_fit purpose actor c ≡ true) same.0 same.1

plan_fits : (purpose : Purpose) (nodes : List Inode) (version : Version) (k : ℕ) (d : Data) (plan : ActorPlan) → actor_at purpose nodes version k d ≡ Ok plan
    → All (λ call. is_fit purpose k call ≡ true) plan.calls
plan_fits purpose nodes version k d plan e =
    let named = was_there (root_of d) (fault.Actor k Shape) _ plan e in
    let listed = was_there (list_in (codes "calls") d) (fault.Actor k Shape) _ plan named.went in
    let rooted = passed_then (root_at k (directory_at nodes TOP named.x)) _ plan listed.went in
    let few = not_refused (are_over CALLS_MAX listed.x) (fault.TooManyCalls k) _ plan rooted.went in
    let called = passed_then (calls_of purpose version k listed.x) _ plan few in
    let went = called.went in
    let same : ◌≡◌ {A = ActorPlan} (record { root = named.x; calls = called.x }) plan = cc (went) in
    let labels = labels_from 0 listed.x in
    let are : All (λ call. is_fit purpose k call ≡ true) called.x =
    all_of_each (λ call. is_fit purpose k call ≡ true) (call_at purpose version k labels) (fits purpose version k labels) 0 listed.x called.x called.was in
    subst (λ (p : ActorPlan). All (λ call. is_fit purpose k call ≡ true) p.calls) same are

first_fits : (purpose : Purpose) (nodes : List Inode) (version : Version) (items : Items) (plans : List ActorPlan) → each (actor_at purpose nodes version) 0 items ≡ Ok plans
    → All (λ call. is_fit purpose 0 call ≡ true) (first_calls plans)
first_fits purpose nodes version no_items plans e =
    let same : ◌≡◌ {A = List ActorPlan} [] plans = cc (e) in
    subst (λ (ps : List ActorPlan). All (λ call. is_fit purpose 0 call ≡ true) (first_calls ps)) same (All-nil (λ call. is_fit purpose 0 call ≡ true))
first_fits purpose nodes version (item d ds) plans e =
    let first = passed_then (actor_at purpose nodes version 0 d) (λ y. then_with (each (actor_at purpose nodes version) 1 ds) (λ ys. Ok (y ∷ ys))) plans e in
    let rest = passed_then (each (actor_at purpose nodes version) 1 ds) (λ ys. Ok (first.x ∷ ys)) plans first.went in
    let went = rest.went in
    let same : first.x ∷ rest.x ≡ plans = cc (went) in
    subst (λ (ps : List ActorPlan). All (λ call. is_fit purpose 0 call ≡ true) (first_calls ps)) same (plan_fits purpose nodes version 0 d first.x first.was)

-- ---- the whole

pub playable : (purpose : Purpose) (order : TurnOrder) (d : Data) (said : Said) → scenario_of purpose order d ≡ Ok said → IsPlayable said
playable purpose order d said e =
    let header = passed_then (header_of d) _ said e in
    let nodes = passed_then (nodes_in d) _ said header.went in
    let plans = passed_then (actors_of purpose nodes.x header.x.version d) _ said nodes.went in
    let schedule = passed_then (schedule_for order (length plans.x) d) _ said plans.went in
    let went = schedule.went in
    let same : ◌≡◌ {A = Said} (record { nodes = nodes.x; plans = plans.x; schedule = schedule.x; lines = header.x.lines }) said = cc (went) in
    subst IsPlayable same (record {
      some = some_actors purpose nodes.x header.x.version d plans.x plans.was;
      few = few_actors purpose nodes.x header.x.version d plans.x plans.was;
      roots = roots_are purpose nodes.x header.x.version d plans.x plans.was;
      turns = turns_for order (length plans.x) d schedule.x schedule.was;
      bounded = bounded d header.x header.was;
    })

-- and it is fit for what it is read for
pub fit_for : (purpose : Purpose) (order : TurnOrder) (d : Data) (said : Said) → scenario_of purpose order d ≡ Ok said → IsFitFor purpose said
fit_for Turns order d said e = tt
fit_for Jobs order d said e =
    let header = passed_then (header_of d) _ said e in
    let nodes = passed_then (nodes_in d) _ said header.went in
    let plans = passed_then (actors_of Jobs nodes.x header.x.version d) _ said nodes.went in
    let schedule = passed_then (schedule_for order (length plans.x) d) _ said plans.went in
    let went = schedule.went in
    let same : ◌≡◌ {A = Said} (record { nodes = nodes.x; plans = plans.x; schedule = schedule.x; lines = header.x.lines }) said = cc (went) in
    let listed = passed_then (actors_in d) (each (actor_at Jobs nodes.x header.x.version) 0) plans.x plans.was in
    subst (IsFitFor Jobs) same (first_fits Jobs nodes.x header.x.version listed.x plans.x listed.went)
