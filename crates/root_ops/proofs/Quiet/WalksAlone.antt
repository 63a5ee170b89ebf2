-- A call's walk, where nobody else acts: the call's lines are those of the walk and the rest, and the walk ends with what its
-- path means.
use Rattle.std.proofs.Common.{◌≡◌, ◌≢◌, ◌⊎◌, inl, inr, ℕ, List, [], ◌∷◌, ◌++◌, Bool, true, false, Result, Ok, Err, Some, None, refl, sym, ap, ◌∙◌, subst}
use Rattle.std.specs.Option.{option_map}
use Rattle.std.proofs.lemmas.Bool.{false≢true}
use Rattle.path_text.specs.declared.errno.Errno.{Errno}
use Rattle.path_text.specs.declared.errno.Errno.TheVariants.{NoMemory, BookFull, TooMany}
use Rattle.path_text.specs.Reading.{Reading}
use Rattle.tree_model.specs.StepWith.{StepWith}
use Rattle.tree_model.specs.State.{State, Stands, object_at, is_dir}
use Rattle.tree_model.specs.Steps.{held, kind_of}
use Rattle.tree_model.specs.Trees.{IsState}
use Rattle.tree_model.specs.History.{IsLegal, after_events}
use Rattle.tree_model.proofs.HistoryLaws.{legal_histories_join, histories_keep_trees}
use Rattle.step_resolver.specs.Asked.{AskedPart, follows, is_deepest}
use Rattle.step_resolver.specs.Meaning.{Meant, object, fails, resolution, reading_means}
use Rattle.step_resolver.specs.Order.{Way, Handle, Turn, more, found, partial, failed, Line, answered, no_room, not_made, events_of}
use Rattle.step_resolver.specs.Order as walk
use Rattle.step_resolver.specs.Footprint.{is_want, is_for_want, IsMeant, IsEnd}
use Rattle.step_resolver.specs.Failures.{TellsWant, MetRefusal, TellsError}
use Rattle.step_resolver.specs.Headline.{IsNewHandle, Tells}
use Rattle.step_resolver.specs.FootprintLaws.{IsQuietEnd}
use Rattle.step_resolver.specs.WalkHistory.{WalkInHistory, IsWalkInHistory}
use Rattle.step_resolver.proofs.DrivenWalks.{joined_events, all_own, by_own}
use Rattle.step_resolver.proofs.Ends.EntriesLeftAlone.{lines_only_tell}
use Rattle.step_resolver.proofs.Ends.EveryWalk.{walks_tell}
use Rattle.step_resolver.proofs.Ends.WalksMean.{quiet_walks_mean}
use Rattle.bulk_ops.proofs.MakingAlone.WalkFirst.{telling_leaves}
use Rattle.root_ops.specs.Meaning as meaning
use Rattle.root_ops.specs.Quiet.{MetWant}

-- the events of the lines, one part after the other
pub record Parted (s : State) (a : ℕ) (first rest lines : List Line) : Type 0 where
  pub legal : IsLegal s (events_of a first)
  pub legal_rest : IsLegal (after_events s (events_of a first)) (events_of a rest)
  pub after : after_events (after_events s (events_of a first)) (events_of a rest) ≡ after_events s (events_of a lines)

pub parted : (s : State) (a : ℕ) (first rest lines : List Line) → lines ≡ first ++ rest → IsLegal s (events_of a lines) → Parted s a first rest lines
parted s a first rest lines joined legal =
    let same = ap (events_of a) joined ∙ joined_events a first rest in
    let both = legal_histories_join s (events_of a first) (events_of a rest) in
    let cut = both.0.0 (subst (IsLegal s) same legal) in
    record { legal = cut.0; legal_rest = cut.1; after = sym (ap (after_events s) same ∙ both.1) }

-- ---- the end of a walk

-- what has the root open
pub record HasRoot (s : State) (a h r : ℕ) : Type 0 where
  pub tree : IsState s
  pub root : held s a h ≡ Some r
  pub is_dir : is_dir s.nodes r ≡ true

-- one handle more, on what was found
pub record FindsIt (s t : State) (a r : ℕ) (handle : Handle) (names : List (List ℕ)) : Type 0 where
  pub is_open : held t a handle.number ≡ Some handle.node
  pub fresh : held s a handle.number ≡ None
  pub others : (h : ℕ) → h ≢ handle.number → held t a h ≡ held s a h
  pub kind : option_map kind_of (object_at s.nodes handle.node) ≡ Some handle.kind
  pub stands : Stands s.nodes r handle.node names

abbrev pub EndsWith : State → State → ℕ → ℕ → List Line → Result ℕ Errno → Turn → Type 0
EndsWith s t a r lines meant (more walking) = ⊥
EndsWith s t a r lines meant (found handle names) = FindsIt s t a r handle names × (meant ≡ Ok handle.node)
EndsWith s t a r lines meant (partial handle names rest) = ⊥
EndsWith s t a r lines meant (failed error) = ((is_want error ≡ true) × MetWant lines error) ⊎ (meant ≡ Err error)

-- the object or the error that a path means
abbrev pub found_by : State → ℕ → Way → Reading → Result ℕ Errno
found_by s r way path = meaning.found (resolution (reading_means (record { nodes = s.nodes; root = r; flags = way.flags }) path (follows way.goal)))

pub record Walked (s t : State) (a r : ℕ) (way : Way) (path : Reading) (lines : List Line) (end : Turn) : Type 0 where
  pub tree : IsState t
  pub nodes : t.nodes ≡ s.nodes
  pub comes : EndsWith s t a r lines (found_by s r way path) end

object_meant : (m : Meant) (handle : Handle) (names : List (List ℕ)) → IsMeant m (found handle names) → meaning.found (resolution m) ≡ Ok handle.node
object_meant (object x b reads) handle names is = ap Ok (sym is)
object_meant (fails error reads) handle names is = absurd is

error_meant : (m : Meant) (error : Errno) → IsMeant m (failed error) → meaning.found (resolution m) ≡ Err error
error_meant (object x b reads) error is = absurd is
error_meant (fails cause reads) error is = ap Err (sym is)

no_partial : (m : Meant) (handle : Handle) (names : List (List ℕ)) (rest : List AskedPart) → IsMeant m (partial handle names rest) → ⊥
no_partial (object x b reads) handle names rest is = is
no_partial (fails cause reads) handle names rest is = is

-- a want that an end tells of was met
pub want_met : (lines : List Line) (error : Errno) → TellsWant error lines → MetWant lines error
want_met [] error tells = tells
want_met (answered step answer ∷ lines) error (inl tells) = absurd tells
want_met (no_room step answer ∷ lines) error (inl tells) = inl (inl tells)
want_met (not_made cause ∷ lines) error (inl tells) = inl tells
want_met (line ∷ lines) error (inr tells) = inr (want_met lines error tells)

refusal_met : (lines : List Line) (step : StepWith ℕ) → MetRefusal step lines → MetWant lines TooMany
refusal_met [] step met = met
refusal_met (answered made answer ∷ lines) step (inl met) = inl (refl, met.1)
refusal_met (no_room made answer ∷ lines) step (inl met) = inl (inr (refl, met.1))
refusal_met (not_made cause ∷ lines) step (inl met) = absurd met
refusal_met (line ∷ lines) step (inr met) = inr (refusal_met lines step met)

pub met_by : (lines : List Line) (w : WalkInHistory) → w.lines ≡ lines → (error : Errno) → is_want error ≡ true → TellsError w error → MetWant lines error
met_by lines w same NoMemory want tells = subst (λ ls. MetWant ls NoMemory) same (want_met w.lines NoMemory tells)
met_by lines w same BookFull want tells = subst (λ ls. MetWant ls BookFull) same (want_met w.lines BookFull tells)
met_by lines w same TooMany want tells = subst (λ ls. MetWant ls TooMany) same (refusal_met w.lines tells.step tells.line)
met_by lines w same _ want tells = absurd (false≢true want)

module _ (s : State) (a r : ℕ) (way : Way) (path : Reading) (has : HasRoot s a way.root r) (plain : is_deepest way.goal ≡ false) where
  module _ (lines : List Line) (end : Turn) (over : IsEnd end) (led : walk.LeadsTo way (walk.begins way path) lines end) (legal : IsLegal s (events_of a lines)) where
    abbrev walk_here : WalkInHistory
    walk_here = record {
      opening = s;
      before = [];
      window = events_of a lines;
      actor = a;
      way = way;
      root = r;
      path = path;
      lines = lines;
    }

    abbrev after_walk : State
    after_walk = after_events s (events_of a lines)

    is_walk : IsWalkInHistory walk_here
    is_walk = record {
      tree = has.tree;
      legal_before = tt;
      legal = legal;
      own = all_own a lines;
      root = has.root;
      root_is_dir = has.is_dir;
    }

    tells : Tells walk_here end
    tells = walks_tell walk_here end is_walk led

    quiet : is_for_want end ≡ false → IsQuietEnd walk_here end
    quiet other = quiet_walks_mean walk_here end is_walk led over (λ t event e. by_own a lines t event e) other

    nodes_stay : after_walk.nodes ≡ s.nodes
    nodes_stay = telling_leaves s (events_of a lines) (lines_only_tell a way lines (walk.begins way path) end led)

  comes_to : (lines : List Line) (end : Turn) → IsEnd end → walk.LeadsTo way (walk.begins way path) lines end → IsLegal s (events_of a lines)
      → EndsWith s (after_events s (events_of a lines)) a r lines (found_by s r way path) end
  comes_to lines (more walking) over led legal = absurd over
  comes_to lines (found handle names) over led legal =
      let end : Turn = found handle names in
      let new : IsNewHandle (walk_here lines end over led legal) handle = (tells lines end over led legal).new in
      let q = quiet lines end over led legal refl in (
        record {
          is_open = new.is_open;
          fresh = new.fresh;
          others = new.others;
          kind = ap (λ ns. option_map kind_of (object_at ns handle.node)) (sym (nodes_stay lines end over led legal))
              ∙ ap (option_map kind_of) new.is_what ∙ ap Some new.kind;
          stands = q.names;
        },
        object_meant _ handle names (q.means plain),
      )
  comes_to lines (partial handle names rest) over led legal =
      no_partial _ handle names rest ((quiet lines (partial handle names rest) over led legal refl).means plain)
  comes_to lines (failed error) over led legal = on (is_want error) refl
    where
      on : (b : Bool) → is_want error ≡ b → ((is_want error ≡ true) × MetWant lines error) ⊎ (found_by s r way path ≡ Err error)
      on true e = inl (e, met_by lines (walk_here lines (failed error) over led legal) refl error e (tells lines (failed error) over led legal).true_once)
      on false e = inr (error_meant _ error ((quiet lines (failed error) over led legal e).means plain))

  pub walked_alone : (lines : List Line) (end : Turn) → IsEnd end → walk.LeadsTo way (walk.begins way path) lines end → IsLegal s (events_of a lines)
      → Walked s (after_events s (events_of a lines)) a r way path lines end
  walked_alone lines end over led legal = record {
    tree = (histories_keep_trees s (events_of a lines) has.tree).0;
    nodes = nodes_stay lines end over led legal;
    comes = comes_to lines end over led legal;
  }
