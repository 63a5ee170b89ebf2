-- What a whole script says, from what was read of its parts.
use Rattle.std.proofs.Common.{◌≡◌, ℕ, ◌+◌, ◌<◌, ◌≤◌, Bool, true, false, List, [], ◌∷◌, length, refl, sym, ap, ◌∙◌, subst, arith, rules}
use Rattle.std.specs.Prelude.{Option, Some, None, Result, Ok, Err, codes}
use Rattle.serde_json.specs.Data.{Data, Items, no_items, item}
use Rattle.race_core.specs.declared.plan.ActorPlan.{ActorPlan}
use Rattle.tree_model.specs.declared.inode.Inode.{Inode}
use Rattle.tree_model.specs.Entries.{with_some, refuse_if}
use Rattle.scripts.specs.declared.actors.TheConstants.{ACTORS_MAX}
use Rattle.scripts.specs.declared.calls.Purpose.{Purpose}
use Rattle.scripts.specs.declared.calls.Version.{Version}
use Rattle.scripts.specs.declared.fault.RunFault.{RunFault}
use Rattle.scripts.specs.declared.fault.RunFault.TheVariants.{Script, ReadFailed, WriteFailed, NoMemory, BookFull}
use Rattle.scripts.specs.declared.fault.ScriptFault.{ScriptFault}
use Rattle.scripts.specs.declared.fault.ScriptFault.TheVariants.{Actors, TooManyActors}
use Rattle.scripts.specs.declared.scenario.Header.{Header}
use Rattle.scripts.specs.Checks.{count_of, has_none, are_over, then_with, each}
use Rattle.scripts.specs.Fault.{IsFaultOf}
use Rattle.scripts.specs.Fields.{list_in}
use Rattle.scripts.specs.Plans.{actor_at, actors_in, actors_of}
use Rattle.scripts.specs.Scenario.{Said, header_of, nodes_in, schedule_for, scenario_of}
use Rattle.scripts.specs.declared.turns.TurnOrder.{TurnOrder}

-- ---- one check after another

pub passes : {A B : Type 0} (said : Result A ScriptFault) (onward : A → Result B ScriptFault) (x : A) (fault : RunFault)
    → said ≡ Ok x → IsFaultOf (onward x) fault → IsFaultOf (then_with said onward) fault
passes {A = A} said onward x fault is refused = subst (λ (r : Result A ScriptFault). IsFaultOf (then_with r onward) fault) (sym is) refused

pub fails : {A B : Type 0} (said : Result A ScriptFault) (onward : A → Result B ScriptFault) (fault : RunFault)
    → IsFaultOf said fault → IsFaultOf (then_with said onward) fault
fails {A = A} said onward (Script f) is = ap (λ (r : Result A ScriptFault). then_with r onward) is
fails said onward ReadFailed is = absurd is
fails said onward WriteFailed is = absurd is
fails said onward NoMemory is = tt
fails said onward BookFull is = absurd is

-- ---- the parts of a script

abbrev with_plans : TurnOrder → Data → Header → List Inode → List ActorPlan → Result Said ScriptFault
with_plans order d header nodes plans =
    then_with (schedule_for order (length plans) d) (λ schedule. Ok (record { nodes = nodes; plans = plans; schedule = schedule; lines = header.lines }))

abbrev with_nodes : Purpose → TurnOrder → Data → Header → List Inode → Result Said ScriptFault
with_nodes purpose order d header nodes = then_with (actors_of purpose nodes header.version d) (with_plans order d header nodes)

abbrev with_header : Purpose → TurnOrder → Data → Header → Result Said ScriptFault
with_header purpose order d header = then_with (nodes_in d) (with_nodes purpose order d header)

-- these parts were read
pub record AreRead (d : Data) (header : Header) (nodes : List Inode) : Type 0 where
  pub head : header_of d ≡ Ok header
  pub tree : nodes_in d ≡ Ok nodes

pub plans_refused : (purpose : Purpose) (order : TurnOrder) (d : Data) (header : Header) (nodes : List Inode) (fault : RunFault) → AreRead d header nodes
    → IsFaultOf (actors_of purpose nodes header.version d) fault → IsFaultOf (scenario_of purpose order d) fault
plans_refused purpose order d header nodes fault are refused =
    passes (header_of d) (with_header purpose order d) header fault are.head
    (passes (nodes_in d) (with_nodes purpose order d header) nodes fault are.tree
    (fails (actors_of purpose nodes header.version d) (with_plans order d header nodes) fault refused))

pub schedule_refused : (purpose : Purpose) (order : TurnOrder) (d : Data) (header : Header) (nodes : List Inode) (plans : List ActorPlan) (fault : RunFault) → AreRead d header nodes
    → actors_of purpose nodes header.version d ≡ Ok plans → IsFaultOf (schedule_for order (length plans) d) fault → IsFaultOf (scenario_of purpose order d) fault
schedule_refused purpose order d header nodes plans fault are planned refused =
    passes (header_of d) (with_header purpose order d) header fault are.head
    (passes (nodes_in d) (with_nodes purpose order d header) nodes fault are.tree
    (passes (actors_of purpose nodes header.version d) (with_plans order d header nodes) plans fault planned
    (fails (schedule_for order (length plans) d) (λ schedule. Ok (record { nodes = nodes; plans = plans; schedule = schedule; lines = header.lines })) fault refused)))

pub all_said : (purpose : Purpose) (order : TurnOrder) (d : Data) (header : Header) (nodes : List Inode) (plans : List ActorPlan) (schedule : List ℕ) → AreRead d header nodes
    → actors_of purpose nodes header.version d ≡ Ok plans → schedule_for order (length plans) d ≡ Ok schedule
    → scenario_of purpose order d ≡ Ok (record { nodes = nodes; plans = plans; schedule = schedule; lines = header.lines })
all_said purpose order d header nodes plans schedule are planned scheduled =
    ap (λ (r : Result Header ScriptFault). then_with r (with_header purpose order d)) are.head
    ∙ ap (λ (r : Result (List Inode) ScriptFault). then_with r (with_nodes purpose order d header)) are.tree
    ∙ ap (λ (r : Result (List ActorPlan) ScriptFault). then_with r (with_plans order d header nodes)) planned
    ∙ ap (λ (r : Result (List ℕ) ScriptFault). then_with r (λ turns. Ok (record { nodes = nodes; plans = plans; schedule = turns; lines = header.lines }))) scheduled

-- ---- how many actors there are

counted : {A : Type 0} (says : ℕ → Data → Result A ScriptFault) (k : ℕ) (items : Items) (xs : List A) → each says k items ≡ Ok xs → length xs ≡ count_of items
counted says k no_items xs all = by all
  where
    by : {A : Type 0} {ys : List A} → ◌≡◌ {A = Result (List A) ScriptFault} (Ok []) (Ok ys) → length ys ≡ 0
    by {A = A} {ys = ys} e = let same : ◌≡◌ {A = List A} [] ys = cc e in ap length (sym same)
counted {A = A} says k (item d ds) xs all = by (says k d) (each says (k + 1) ds) (counted says (k + 1) ds) all
  where
    by : (r : Result A ScriptFault) (rest : Result (List A) ScriptFault) → ((ys : List A) → rest ≡ Ok ys → length ys ≡ count_of ds)
        → then_with r (λ y. then_with rest (λ ys. Ok (y ∷ ys))) ≡ Ok xs → length xs ≡ 1 + count_of ds
    by (Err fault) rest below e = cc (e)
    by (Ok y) (Err fault) below e = cc (e)
    by (Ok y) (Ok ys) below e =
        let same : y ∷ ys ≡ xs = cc e in
        let fewer : length ys ≡ count_of ds = below ys refl in
        ap length (sym same) ∙ (omega (arith, fewer))

few_items : (o : Option Items) (items : Items)
    → with_some o (Err Actors) (λ is. refuse_if (has_none is) (Err Actors) (refuse_if (are_over ACTORS_MAX is) (Err TooManyActors) (Ok is))) ≡ Ok items
    → count_of items ≤ ACTORS_MAX
few_items None items e = cc (e)
few_items (Some is) items e = by (has_none is) (are_over ACTORS_MAX is) refl e
  where
    by : (none over : Bool) → are_over ACTORS_MAX is ≡ over → refuse_if none (Err Actors) (refuse_if over (Err TooManyActors) (Ok is)) ≡ Ok items → count_of items ≤ ACTORS_MAX
    by true over test e = cc (e)
    by false true test e = cc (e)
    by false false test e =
        let same : is ≡ items = cc e in
        subst (λ (js : Items). count_of js ≤ ACTORS_MAX) same (search (rules))

pub few_actors : (purpose : Purpose) (nodes : List Inode) (version : Version) (d : Data) (plans : List ActorPlan) → actors_of purpose nodes version d ≡ Ok plans → length plans ≤ ACTORS_MAX
few_actors purpose nodes version d plans e = by (actors_in d) refl e
  where
    by : (r : Result Items ScriptFault) → actors_in d ≡ r → then_with r (each (actor_at purpose nodes version) 0) ≡ Ok plans → length plans ≤ ACTORS_MAX
    by (Err fault) is f = cc (f)
    by (Ok items) is f =
        let few : count_of items ≤ ACTORS_MAX = few_items (list_in (codes "actors") d) items is in
        let same : length plans ≡ count_of items = counted (actor_at purpose nodes version) 0 items plans f in
        omega (arith, few, same)

some_items : (o : Option Items) (items : Items)
    → with_some o (Err Actors) (λ is. refuse_if (has_none is) (Err Actors) (refuse_if (are_over ACTORS_MAX is) (Err TooManyActors) (Ok is))) ≡ Ok items
    → 0 < count_of items
some_items None items e = cc (e)
some_items (Some is) items e = by (has_none is) (are_over ACTORS_MAX is) refl e
  where
    by : (none over : Bool) → has_none is ≡ none → refuse_if none (Err Actors) (refuse_if over (Err TooManyActors) (Ok is)) ≡ Ok items → 0 < count_of items
    by true over test e = cc (e)
    by false true test e = cc (e)
    by false false test e =
        let same : is ≡ items = cc e in
        subst (λ (js : Items). 0 < count_of js) same (search (rules))

pub some_actors : (purpose : Purpose) (nodes : List Inode) (version : Version) (d : Data) (plans : List ActorPlan) → actors_of purpose nodes version d ≡ Ok plans → 0 < length plans
some_actors purpose nodes version d plans e = by (actors_in d) refl e
  where
    by : (r : Result Items ScriptFault) → actors_in d ≡ r → then_with r (each (actor_at purpose nodes version) 0) ≡ Ok plans → 0 < length plans
    by (Err fault) is f = cc (f)
    by (Ok items) is f =
        let some : 0 < count_of items = some_items (list_in (codes "actors") d) items is in
        let same : length plans ≡ count_of items = counted (actor_at purpose nodes version) 0 items plans f in
        omega (arith, some, same)
