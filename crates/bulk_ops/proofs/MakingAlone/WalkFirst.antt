-- The call's walk, where nobody else acts: the lines are those of the walk and the rest, and the walk ends with what its path
-- means; and so the whole call.
use Rattle.std.proofs.Common.{◌≡◌, ◌≢◌, inl, inr, ℕ, Bool, true, false, if◌then◌else◌, List, [], ◌∷◌, ◌++◌, Option, Some, None, length, append-nil, refl, sym, ap, ◌∙◌, subst}
use Rattle.std.proofs.lemmas.Option.{none-some}
use Rattle.path_text.specs.declared.errno.Errno.{Errno}
use Rattle.path_text.specs.declared.errno.Errno.TheVariants.{Raced, CrossRoot, NotDir}
use Rattle.path_text.specs.Reading.{Reading}
use Rattle.tree_model.specs.declared.answer.Event.{Event}
use Rattle.tree_model.specs.declared.inode.Inode.{Inode}
use Rattle.tree_model.specs.declared.inode.Object.{Object}
use Rattle.tree_model.specs.declared.inode.Object.TheVariants.{Dir, File, Link}
use Rattle.tree_model.specs.declared.inode.Place.{Place}
use Rattle.tree_model.specs.State.{State, Stands, child, is_dir, is_directory, is_gone}
use Rattle.tree_model.specs.Steps.{held as holding}
use Rattle.tree_model.specs.Steps.{kind_of}
use Rattle.tree_model.specs.Trees.{IsState}
use Rattle.tree_model.specs.History.{IsLegal, after_event, after_events}
use Rattle.tree_model.proofs.StepLaws.{nodes_are_left}
use Rattle.step_resolver.proofs.Ends.EntriesLeftAlone.{AllTell, lines_only_tell}
use Rattle.tree_model.proofs.HistoryLaws.{legal_histories_join, histories_keep_trees}
use Rattle.step_machine.proofs.Split.{runs_split}
use Rattle.step_resolver.proofs.TurnsTell.{is_machine}
use Rattle.bulk_ops.proofs.Within.{walk_of_making}
use Rattle.walk_plan.specs.declared.goal.Goal.TheVariants.{Deepest}
use Rattle.walk_plan.specs.Plan.{leads_out}
use Rattle.step_resolver.specs.Asked.{AskedPart, Named, asked, is_deepest}
use Rattle.step_resolver.specs.Meaning.{LINKS_MAX, Ground}
use Rattle.step_resolver.specs.MeaningLaws.{IsFrontAndRest}
use Rattle.step_resolver.specs.Order.{Way, Handle, Line, is_dir_kind, events_of}
use Rattle.step_resolver.specs.Order as walk
use Rattle.step_resolver.specs.Footprint.{is_want, IsEnd, is_for_want, ground}
use Rattle.step_resolver.specs.FootprintLaws.{IsQuietEnd}
use Rattle.step_resolver.specs.Deepest.{Deep, whole, up_to, none, is_missing, reading_deepest, path_deepest, IsMeantDeep}
use Rattle.step_resolver.specs.Headline.{Tells, IsNewHandle}
use Rattle.step_resolver.specs.WalkHistory.{WalkInHistory, IsWalkInHistory, begin_of}
use Rattle.step_resolver.proofs.DrivenWalks.{joined_events, all_own, by_own}
use Rattle.bulk_ops.proofs.OwnEvents.{all_own as own_all}
use Rattle.step_resolver.proofs.Meaning.Deepest.{Missing, missing_parts, deepest_is_front_and_rest}
use Rattle.step_resolver.proofs.Ends.EveryWalk.{walks_tell}
use Rattle.step_resolver.proofs.Ends.WalksMean.{quiet_walks_mean}
use Rattle.bulk_ops.specs.MakeAllOrder.{MakeTurn, made, begins, rest_fault, rest_names, gives_up, goes_down, begins_to_make, after_walk, walking, calls, LeadsTo}
use Rattle.bulk_ops.specs.MakeAllQuiet.{MakeMeant, refuses, gives, chain_of, last_of, rest_means, make_means, IsPartOf, MakingComesTo, IsOver, QuietMakesMean}
use Rattle.bulk_ops.proofs.MakingAlone.OneAfterAnother.{Ready, Fails, GoodTurn, makes_on}

-- ---- what the path means

kind_is_of : (what : Object) → is_dir_kind (kind_of what) ≡ is_directory (Some what)
kind_is_of Dir = refl
kind_is_of File = refl
kind_is_of (Link text) = refl

-- a first name that is missing, in front of the rest
pub record IsFirst (g : Ground) (d : ℕ) (rest : List AskedPart) : Type 0 where
  pub follow : Bool
  pub name : List ℕ
  pub others : List AskedPart
  pub begins_with : rest ≡ Named follow name ∷ others
  pub missing : is_missing g d (Named follow name) ≡ true

pub first_of : (g : Ground) (path : Reading) (x b : ℕ) (rest : List AskedPart) (reads : List Place) → reading_deepest g path ≡ up_to x b rest reads → IsFirst g x rest
first_of g path x b rest reads e = on (leads_out path.absolute g.flags) refl
  where
    chosen : Bool → Deep
    chosen t = if t then none CrossRoot [] else path_deepest g (asked true path.parts)

    nowhere : none CrossRoot [] ≡ up_to x b rest reads → IsFirst g x rest
    nowhere q = cc (q)

    front : path_deepest g (asked true path.parts) ≡ up_to x b rest reads → IsFirst g x rest
    front q =
        let is : IsFrontAndRest LINKS_MAX g g.root (asked true path.parts) LINKS_MAX x b rest reads =
        (deepest_is_front_and_rest LINKS_MAX g g.root (asked true path.parts) LINKS_MAX (up_to x b rest reads)).0 q in
        record { follow = is.follow; name = is.name; others = is.others; begins_with = is.begins_with; missing = is.missing }

    on : (t : Bool) → leads_out path.absolute g.flags ≡ t → IsFirst g x rest
    on true q = nowhere (sym (ap chosen q) ∙ e)
    on false q = front (sym (ap chosen q) ∙ e)

-- the meaning of an end of the walk
found_means : (nodes : List Inode) (deep : Deep) (handle : Handle) (names : List (List ℕ)) → IsMeantDeep deep (walk.found handle names)
    → make_means nodes deep ≡ (if is_dir nodes handle.node then gives handle.node nodes else refuses NotDir)
found_means nodes (whole x b reads) handle names is = ap (λ y. if is_dir nodes y then gives y nodes else refuses NotDir) (sym is)
found_means nodes (up_to x b rest reads) handle names is = absurd is
found_means nodes (none error reads) handle names is = absurd is

failed_means : (nodes : List Inode) (deep : Deep) (error : Errno) → IsMeantDeep deep (walk.failed error) → make_means nodes deep ≡ refuses error
failed_means nodes (whole x b reads) error is = absurd is
failed_means nodes (up_to x b rest reads) error is = absurd is
failed_means nodes (none cause reads) error is = ap refuses (sym is)

-- a rest, whose first name the directory lacks
record PartialMeans (g : Ground) (handle : Handle) (rest : List AskedPart) (meant : MakeMeant) : Type 0 where
  pub goal : meant ≡ rest_means g.nodes handle.node (rest_fault rest) (rest_names rest)
  pub first : IsFirst g handle.node rest

partial_means : (g : Ground) (path : Reading) (deep : Deep) → reading_deepest g path ≡ deep → (handle : Handle) (names : List (List ℕ)) (rest : List AskedPart)
    → IsMeantDeep deep (walk.partial handle names rest) → PartialMeans g handle rest (make_means g.nodes deep)
partial_means g path (whole x b reads) e handle names rest is = absurd is
partial_means g path (up_to x b others reads) e handle names rest is = record {
  goal = ap (λ y. rest_means g.nodes y (rest_fault others) (rest_names others)) (sym is.0)
      ∙ ap (λ ps. rest_means g.nodes handle.node (rest_fault ps) (rest_names ps)) (sym is.1);
  first = subst (λ ps. IsFirst g handle.node ps) (sym is.1) (subst (λ y. IsFirst g y others) (sym is.0) (first_of g path x b others reads e));
}
partial_means g path (none error reads) e handle names rest is = absurd is

-- nothing of it was made yet
pub nothing_made : (nodes : List Inode) (deep : Deep) → IsPartOf nodes nodes (make_means nodes deep)
nothing_made nodes (whole x b reads) = on (is_dir nodes x)
  where
    on : (t : Bool) → IsPartOf nodes nodes (if t then gives x nodes else refuses NotDir)
    on true = record { new = []; left_out = []; is_after = sym (append-nil nodes); is_whole = sym (append-nil nodes) }
    on false = refl
nothing_made nodes (up_to x b rest reads) = on (rest_fault rest)
  where
    gone_or : Bool → MakeMeant
    gone_or t = if t then refuses Raced else gives (last_of (length nodes) x (rest_names rest)) (nodes ++ chain_of (length nodes) x (rest_names rest))

    by_gone : (t : Bool) → IsPartOf nodes nodes (gone_or t)
    by_gone true = refl
    by_gone false = record { new = []; left_out = chain_of (length nodes) x (rest_names rest); is_after = sym (append-nil nodes); is_whole = refl }

    on : (f : Option Errno) → IsPartOf nodes nodes (rest_means nodes x f (rest_names rest))
    on (Some fault) = refl
    on None = by_gone (is_gone nodes x)
nothing_made nodes (none error reads) = refl

pub telling_leaves : (s : State) (events : List Event) → AllTell events → (after_events s events).nodes ≡ s.nodes
telling_leaves s [] tells = refl
telling_leaves s (event ∷ events) tells =
    telling_leaves (after_event s event) events tells.1 ∙ nodes_are_left s event.actor event.step tells.0

-- ---- the end of the walk, and on from there

module _ (s : State) (a r : ℕ) (way : Way) (path : Reading) (tree : IsState s) (root : holding s a way.root ≡ Some r)
    (root_dir : is_dir s.nodes r ≡ true) (deep : way.goal ≡ Deepest) where
  abbrev ground_here : Ground
  ground_here = record { nodes = s.nodes; root = r; flags = way.flags }

  abbrev meant : MakeMeant
  meant = make_means s.nodes (reading_deepest ground_here path)

  module _ (lines : List Line) (legal : IsLegal s (events_of a lines)) where
    abbrev walk_here : WalkInHistory
    walk_here = record {
      opening = s;
      before = [];
      window = events_of a lines;
      actor = a;
      way = way;
      root = r;
      path = path;
      lines = lines;
    }

    abbrev t : State
    t = after_events s (events_of a lines)

    is_walk : IsWalkInHistory walk_here
    is_walk = record {
      tree = tree;
      legal_before = tt;
      legal = legal;
      own = all_own a lines;
      root = root;
      root_is_dir = root_dir;
    }

    tells : (end : walk.Turn) → walk.LeadsTo way (walk.begins way path) lines end → Tells walk_here end
    tells end led = walks_tell walk_here end is_walk led

    quiet : (end : walk.Turn) → IsEnd end → walk.LeadsTo way (walk.begins way path) lines end → is_for_want end ≡ false → IsQuietEnd walk_here end
    quiet end over led other = quiet_walks_mean walk_here end is_walk led over (λ j event e. by_own a lines j event e) other

    deep_here : is_deepest way.goal ≡ true
    deep_here = ap is_deepest deep

    -- the root's handle is another one, and stays open
    root_apart : (handle : Handle) → IsNewHandle walk_here handle → handle.number ≢ way.root
    root_apart handle new e = none-some r (sym new.fresh ∙ ap (λ h. holding s a h) e ∙ root)

    ready_then : (handle : Handle) (names : List (List ℕ)) → IsNewHandle walk_here handle → t.nodes ≡ s.nodes → is_dir s.nodes handle.node ≡ true
        → Stands s.nodes r handle.node names → Ready t a way r s.nodes handle names
    ready_then handle names new same dir stands = record {
      tree = (histories_keep_trees s (events_of a lines) tree).0;
      root = new.others way.root (λ e. root_apart handle new (sym e)) ∙ root;
      root_dir = ap (λ ns. is_dir ns r) same ∙ root_dir;
      is_open = new.is_open;
      dir = ap (λ ns. is_dir ns handle.node) same ∙ dir;
      stands = subst (λ ns. Stands ns r handle.node names) (sym same) stands;
      apart = root_apart handle new;
      new = [];
      grown = same ∙ sym (append-nil s.nodes);
    }

    not_begun : t.nodes ≡ s.nodes → IsPartOf s.nodes t.nodes meant
    not_begun same = subst (λ ns. IsPartOf s.nodes ns meant) (sym same) (nothing_made s.nodes (reading_deepest ground_here path))

    -- an object at the end
    found_good : (room : Bool) (handle : Handle) (names : List (List ℕ)) → walk.LeadsTo way (walk.begins way path) lines (walk.found handle names)
        → GoodTurn a way r s.nodes meant t (after_walk room (walk.found handle names))
    found_good room handle names led = on (is_dir_kind handle.kind) refl
      where
        q : IsQuietEnd walk_here (walk.found handle names)
        q = quiet (walk.found handle names) tt led refl

        new : IsNewHandle walk_here handle
        new = (tells (walk.found handle names) led).new

        same_kind : is_dir s.nodes handle.node ≡ is_dir_kind handle.kind
        same_kind = ap (λ ns. is_dir ns handle.node) (sym q.nodes) ∙ ap is_directory new.is_what ∙ sym (kind_is_of new.what) ∙ ap is_dir_kind new.kind

        goal : (b : Bool) → is_dir_kind handle.kind ≡ b → meant ≡ (if b then gives handle.node s.nodes else refuses NotDir)
        goal b e = found_means s.nodes (reading_deepest ground_here path) handle names (q.deepest deep_here)
            ∙ ap (λ c. if c then gives handle.node s.nodes else refuses NotDir) (same_kind ∙ e)

        after : Bool → MakeTurn
        after b = if b then made handle names else gives_up (handle.number ∷ []) NotDir

        on : (b : Bool) → is_dir_kind handle.kind ≡ b → GoodTurn a way r s.nodes meant t (after_walk room (walk.found handle names))
        on true e = subst (GoodTurn a way r s.nodes meant t) (sym (ap after e))
            (goal true e ∙ ap (gives handle.node) (sym q.nodes), subst (λ ns. Stands ns r handle.node names) (sym q.nodes) q.names)
        on false e = subst (GoodTurn a way r s.nodes meant t) (sym (ap after e)) (inr (goal false e, q.nodes))

    -- a directory that lacks the first name of the rest
    partial_good : (room : Bool) (handle : Handle) (names : List (List ℕ)) (rest : List AskedPart)
        → walk.LeadsTo way (walk.begins way path) lines (walk.partial handle names rest)
        → GoodTurn a way r s.nodes meant t (after_walk room (walk.partial handle names rest))
    partial_good room handle names rest led = on room (rest_fault rest) refl
      where
        q : IsQuietEnd walk_here (walk.partial handle names rest)
        q = quiet (walk.partial handle names rest) tt led refl

        new : IsNewHandle walk_here handle
        new = (tells (walk.partial handle names rest) led).new

        is : PartialMeans ground_here handle rest meant
        is = partial_means ground_here path (reading_deepest ground_here path) refl handle names rest (q.deepest deep_here)

        lacks : Missing ground_here handle.node is.first.name
        lacks = missing_parts ground_here handle.node is.first.follow is.first.name is.first.missing

        ready : Ready t a way r s.nodes handle names
        ready = ready_then handle names new q.nodes lacks.dir q.names

        goal : (f : Option Errno) → rest_fault rest ≡ f → meant ≡ rest_means t.nodes handle.node f (rest_names rest)
        goal f e = is.goal ∙ ap (λ g. rest_means s.nodes handle.node g (rest_names rest)) e ∙ ap (λ ns. rest_means ns handle.node f (rest_names rest)) (sym q.nodes)

        goes : rest_fault rest ≡ None → GoodTurn a way r s.nodes meant t (goes_down handle names (rest_names rest))
        goes e = subst (λ ns. GoodTurn a way r s.nodes meant t (goes_down handle names ns)) (sym (ap rest_names is.first.begins_with)) (
          ready,
          record {
            missing = ap (λ ns. child ns handle.node is.first.name) q.nodes ∙ lacks.child;
            goal = goal None e ∙ ap (λ ns. rest_means t.nodes handle.node None ns) (ap rest_names is.first.begins_with);
            none_made = λ g. q.nodes;
          },
        )

        on : (room : Bool) (f : Option Errno) → rest_fault rest ≡ f → GoodTurn a way r s.nodes meant t (begins_to_make room handle names rest f)
        on room (Some fault) e = inr (goal (Some fault) e, q.nodes)
        on true None e = goes e
        on false None e = inl (refl, not_begun q.nodes)

    failed_good : (room : Bool) (error : Errno) → walk.LeadsTo way (walk.begins way path) lines (walk.failed error)
        → GoodTurn a way r s.nodes meant t (after_walk room (walk.failed error))
    failed_good room error led = on (is_want error) refl
      where
        on : (b : Bool) → is_want error ≡ b → Fails t.nodes s.nodes meant error
        on true e = inl (e, not_begun (telling_leaves s (events_of a lines) (lines_only_tell a way lines (walk.begins way path) (walk.failed error) led)))
        on false e =
            let q : IsQuietEnd walk_here (walk.failed error) = quiet (walk.failed error) tt led e in
            inr (failed_means s.nodes (reading_deepest ground_here path) error (q.deepest deep_here), q.nodes)

    walked_good : (room : Bool) (walked : walk.Turn) → IsEnd walked → walk.LeadsTo way (walk.begins way path) lines walked
        → GoodTurn a way r s.nodes meant t (after_walk room walked)
    walked_good room (walk.more walker) over led = absurd over
    walked_good room (walk.found handle names) over led = found_good room handle names led
    walked_good room (walk.partial handle names rest) over led = partial_good room handle names rest led
    walked_good room (walk.failed error) over led = failed_good room error led

  -- the whole call, alone
  alone : (lines : List Line) (end : MakeTurn) → IsOver end → LeadsTo way (begins way path) lines end → IsLegal s (events_of a lines)
      → MakingComesTo s.nodes (after_events s (events_of a lines)).nodes r meant end
  alone lines end over leads legal =
      let split = runs_split (walk.walks way) (calls way) after_walk walking (is_machine way) (walk_of_making way) true (walk.begins way path) lines end over leads in
      let same = ap (events_of a) split.joined ∙ joined_events a split.first split.rest in
      let both = legal_histories_join s (events_of a split.first) (events_of a split.rest) in
      let cut = both.0.0 (subst (IsLegal s) same legal) in
      subst (λ (u : State). MakingComesTo s.nodes u.nodes r meant end) (sym (ap (after_events s) same ∙ both.1))
      (makes_on a way r s.nodes meant split.rest (after_events s (events_of a split.first)) (after_walk split.room_there split.at) end
      (walked_good split.first cut.0 split.room_there split.at split.over split.led) split.onward cut.1 over)

-- ---- in any window in which no other acts

pub quiet_makes_mean : QuietMakesMean
quiet_makes_mean w end is goal leads over quiet =
    let same = sym (own_all w.actor w.window quiet) ∙ is.own in
    subst (λ events. MakingComesTo (begin_of w).nodes (after_events (begin_of w) events).nodes w.root (make_means (begin_of w).nodes (reading_deepest (ground w) w.path)) end) (sym same)
    (alone (begin_of w) w.actor w.root w.way w.path (histories_keep_trees w.opening w.before is.tree).0 is.root is.root_is_dir goal w.lines end over leads
    (subst (IsLegal (begin_of w)) same is.legal))
