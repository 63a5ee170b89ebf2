-- A root that is granted in a tree that was just built, and what a path text means below it.
use Rattle.std.specs.List.{count_by}
use Rattle.step_resolver.specs.TurnView.{STEPS_MAX}
use Rattle.std.proofs.Common.{suc, ◌+◌, ◌<◌, ◌++◌, ◌∷◌, false, slice_get, unwrap_or, ◌≡◌, ℕ, true, List, [], length, Some, None, Option, Result, Ok, Err, MatchOption, refl, sym, ap, ◌∙◌, subst, lit≤}
use Rattle.path_text.specs.declared.errno.Errno.{Errno}
use Rattle.path_text.specs.declared.errno.Errno.TheVariants.{TooMany}
use Rattle.path_text.specs.declared.flags.Flags.{Flags}
use Rattle.path_text.specs.Reading.{Reading}
use Rattle.path_text.specs.Text.{text_fault, reading_of}
use Rattle.tree_model.specs.declared.inode.Inode.{Inode}
use Rattle.tree_model.specs.declared.inode.OpenHandle.{OpenHandle}
use Rattle.tree_model.specs.State.{State, TOP}
use Rattle.tree_model.specs.declared.tree.TheConstants.{HANDLES_MAX, NUMBERS_MAX}
use Rattle.tree_model.specs.Entries.{refuse_if}
use Rattle.tree_model.specs.Steps.{directory_at, node_held, is_held_by, is_full, grants, grants_at, IsGrant, with_handle}
use Rattle.tree_model.specs.StepLaws.{GrantsKeepTrees}
use Rattle.tree_model.specs.Trees.{IsState}
use Rattle.tree_model.proofs.StepsKept.{directory_at-is_dir}
use Rattle.tree_list.specs.Build.{built}
use Rattle.tree_list.specs.declared.build.BuildFault.{BuildFault}
use Rattle.tree_list.specs.declared.build.Entry.{Entry}
use Rattle.step_resolver.specs.Driver.{node_of, IsReady}
use Rattle.step_resolver.specs.Meaning.{Ground, resolution, resolves, resolved, reading_means}
use Rattle.example_callers.specs.Lookup.{Gives, meaning_below, meaning_on, meaning_in}

-- the directory at these names is held by this handle, with room for a walk
pub record HasRoot (s t : State) (h : ℕ) (names : List (List ℕ)) : Type 0 where
  pub nodes : t.nodes ≡ s.nodes
  pub root : ℕ
  pub found : directory_at s.nodes TOP names ≡ Ok root
  pub is_root : node_of t 0 h ≡ root
  pub ready : IsReady t 0 h (node_of t 0 h)

-- there is room for a walk's root beside these handles, and for all that the walk opens
pub record HasRoom (handles : List (Option OpenHandle)) : Type 0 where
  pub free : (nodes : List Inode) → is_full (record { nodes = nodes; handles = handles }) 0 ≡ false
  pub is_held : (x : ℕ) → node_held 0 (slice_get (handles ++ Some (record { actor = 0; node = x }) ∷ []) (length handles)) ≡ Some x
  pub few : (x : ℕ) → suc (count_by (is_held_by 0) (handles ++ Some (record { actor = 0; node = x }) ∷ [])) < HANDLES_MAX
  pub numbers : (x : ℕ) → length (handles ++ Some (record { actor = 0; node = x }) ∷ []) + STEPS_MAX < NUMBERS_MAX

pub beside_none : HasRoom []
beside_none = record { free = λ nodes. refl; is_held = λ x. refl; few = λ x. lit≤ tt; numbers = λ x. lit≤ tt }

-- the handle of actor 0
pub has_root : GrantsKeepTrees → (s t : State) (h : ℕ) (names : List (List ℕ)) → HasRoom s.handles → IsState s → IsGrant s t (grants s 0 names) (Ok h)
    → HasRoot s t h names
has_root keep s t h names room tree gave = by (directory_at s.nodes TOP names) refl gave
  where
    by : (found : Result ℕ Errno) → directory_at s.nodes TOP names ≡ found → IsGrant s t (grants_at s 0 found) (Ok h) → HasRoot s t h names
    by (Err error) e g = cc (g.0)
    by (Ok x) e g =
        let u : State = with_handle s 0 x in
        let full = ap (λ b. refuse_if b (Err TooMany) (Ok u)) (room.free s.nodes) in
        let at : (h ≡ length s.handles) × (t ≡ u) = subst (λ (r : Result State Errno). IsGrant s t r (Ok h)) full g in
        let is_tree : IsState u = keep s u 0 names tree (ap (grants_at s 0) e ∙ full) in
        let is_root : node_of u 0 (length s.handles) ≡ x = ap (λ o. unwrap_or o TOP) (room.is_held x) in
        let ready : IsReady u 0 (length s.handles) x = record {
          tree = is_tree;
          held = room.is_held x;
          directory = directory_at-is_dir s.nodes TOP x names e;
          few = room.few x;
          numbers = room.numbers x;
        } in
        let here : HasRoot s u (length s.handles) names = record {
          nodes = refl;
          root = x;
          found = e;
          is_root = is_root;
          ready = subst (λ (r : ℕ). IsReady u 0 (length s.handles) r) (sym is_root) ready;
        } in
        subst (λ (k : ℕ). HasRoot s t k names) (sym at.0) (subst (λ (v : State). HasRoot s v (length s.handles) names) (sym at.1) here)

-- the first handle of all
pub first_root : GrantsKeepTrees → (s t : State) (a h : ℕ) (names : List (List ℕ)) → s.handles ≡ [] → a ≡ 0 → IsState s → IsGrant s t (grants s a names) (Ok h)
    → HasRoot s t h names
first_root keep s t a h names none first tree gave =
    has_root keep s t h names (subst HasRoom (sym none) beside_none) tree (subst (λ (b : ℕ). IsGrant s t (grants s b names) (Ok h)) first gave)

-- the handle of actor 1 is the first, and then comes that of actor 0
beside_one : (y : ℕ) → HasRoom (Some (record { actor = 1; node = y }) ∷ [])
beside_one y = record { free = λ nodes. refl; is_held = λ x. refl; few = λ x. lit≤ tt; numbers = λ x. lit≤ tt }

-- a tree with that handle alone
record HasOther (t : State) : Type 0 where
  tree : IsState t
  room : HasRoom t.handles

other_first : GrantsKeepTrees → (nodes : List Inode) (t : State) (h : ℕ) (names : List (List ℕ)) → IsState (record { nodes = nodes; handles = [] })
    → IsGrant (record { nodes = nodes; handles = [] }) t (grants (record { nodes = nodes; handles = [] }) 1 names) (Ok h) → HasOther t
other_first keep nodes t h names tree gave = by (directory_at nodes TOP names) refl gave
  where
    s : State
    s = record { nodes = nodes; handles = [] }

    by : (found : Result ℕ Errno) → directory_at nodes TOP names ≡ found → IsGrant s t (grants_at s 1 found) (Ok h) → HasOther t
    by (Err error) e g = cc (g.0)
    by (Ok y) e g = subst HasOther (sym g.1) (record { tree = keep s (with_handle s 1 y) 1 names tree (ap (grants_at s 1) e); room = beside_one y })

pub second_root : GrantsKeepTrees → (s t u : State) (b a k h : ℕ) (others names : List (List ℕ)) → s.handles ≡ [] → b ≡ 1 → a ≡ 0 → IsState s
    → IsGrant s t (grants s b others) (Ok k) → IsGrant t u (grants t a names) (Ok h) → IsReady u a h (node_of u a h)
second_root keep s t u b a k h others names none is_one is_zero tree first second =
    let other : HasOther t = other_first keep s.nodes t k others (subst IsState bare tree)
    (subst (λ (v : State). IsGrant v t (grants v 1 others) (Ok k)) bare (subst (λ (i : ℕ). IsGrant s t (grants s i others) (Ok k)) is_one first)) in
    let root : HasRoot t u h names = has_root keep t u h names other.room other.tree (subst (λ (i : ℕ). IsGrant t u (grants t i names) (Ok h)) is_zero second) in
    subst (λ (i : ℕ). IsReady u i h (node_of u i h)) (sym is_zero) root.ready
  where
    bare : s ≡ record { nodes = s.nodes; handles = [] }
    bare = ap (λ (hs : List (Option OpenHandle)). record { nodes = s.nodes; handles = hs }) none

-- ---- what the caller gets

-- below the root it is what the text means there
pub below_root : (entries : List Entry) (s t : State) (h : ℕ) (names : List (List ℕ)) (text : List ℕ) (flags : Flags) (result : Result ℕ Errno)
    → built entries ≡ Ok s.nodes → HasRoot s t h names → Gives (resolution (resolved t.nodes (node_of t 0 h) text true flags)) result
    → Gives (meaning_in entries names text flags) result
below_root entries s t h names text flags result is root given =
    subst (λ (b : Result (List Inode) BuildFault). Gives (meaning_on b names text flags) result) (sym is)
    (subst (λ (found : Result ℕ Errno). Gives (meaning_below s.nodes found text flags) result) (sym root.found)
    (subst (λ (r : ℕ). Gives (resolution (resolved s.nodes r text true flags)) result) root.is_root
    (subst (λ (ns : List Inode). Gives (resolution (resolved ns (node_of t 0 h) text true flags)) result) root.nodes given)))

-- what the path means is what its text means
pub read_as : (nodes : List Inode) (r : ℕ) (text : List ℕ) (flags : Flags) (path : Reading) (result : Result ℕ Errno)
    → MatchOption (text_fault text) (path ≡ reading_of text) (λ fault. ◌≡◌ {A = Result Reading Errno} (Ok path) (Err fault))
    → Gives (resolution (reading_means (record { nodes = nodes; root = r; flags = flags }) path true)) result
    → Gives (resolution (resolved nodes r text true flags)) result
read_as nodes r text flags path result read given = by (text_fault text) read
  where
    g : Ground
    g = record { nodes = nodes; root = r; flags = flags }

    by : (fault : Option Errno) → MatchOption fault (path ≡ reading_of text) (λ f. ◌≡◌ {A = Result Reading Errno} (Ok path) (Err f))
        → Gives (resolution (resolves g text true fault)) result
    by None e = subst (λ p. Gives (resolution (reading_means g p true)) result) e given
    by (Some f) e = cc (e)
