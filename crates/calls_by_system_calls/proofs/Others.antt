-- Others' events, with one actor's handles among theirs: the same events on the same nodes, by other numbers.
use Rattle.std.proofs.Common.{◌≡◌, ◌≢◌, ℕ, ◌+◌, ◌<◌, ◌≤◌, Bool, true, false, not, cond, ◌||◌, nat_le, List, [], ◌∷◌, ◌++◌, length, Option, Some, None, Result, Ok, Err, refl, sym, ap, ◌∙◌, subst, ne_eqb, arith}
use Rattle.std.specs.List.{AllByRecursion}
use Rattle.std.proofs.lemmas.Bool.{lt-leb}
use Rattle.path_text.specs.declared.errno.Errno.{Errno}
use Rattle.path_text.specs.declared.errno.Errno.TheVariants.{NotFound, BadHandle, NotDir, Invalid, TooMany}
use Rattle.tree_model.specs.declared.answer.Answer.{Answer}
use Rattle.tree_model.specs.declared.answer.Answer.TheVariants.{Opened, Text, Listed}
use Rattle.tree_model.specs.declared.answer.Event.{Event}
use Rattle.tree_model.specs.declared.inode.Inode.{Inode}
use Rattle.tree_model.specs.declared.inode.Object.{Object}
use Rattle.tree_model.specs.declared.inode.Object.TheVariants as object
use Rattle.tree_model.specs.declared.inode.OpenHandle.{OpenHandle}
use Rattle.tree_model.specs.StepWith.{StepWith}
use Rattle.tree_model.specs.declared.step.StepOf.TheVariants.{Open, Dup, Parent, ReadLink, NameBelow, List as ListNames, Close, MakeDir, MakeFile, MakeLink, RemoveFile, RemoveDir, Rename}
use Rattle.tree_model.specs.declared.tree.TheConstants.{HANDLES_MAX, NUMBERS_MAX}
use Rattle.tree_model.specs.Entries.{refuse_if, with_some, makes, makes_link, removes_file, removes_dir, renames}
use Rattle.tree_model.specs.History.{IsLegal, after_event, after_events}
use Rattle.tree_model.specs.State.{State, object_at, child, parent, is_dir, names_below, names_in, sorted_names}
use Rattle.tree_model.specs.Steps.{Outcome, refused, answered, held, held_count, is_full, kind_of, with_handle, opens, reads, shows, changes, on_handle, outcome}
use Rattle.tree_model.proofs.Counts.{others_counts_stay}
use Rattle.tree_model.proofs.StepLaws.{numbers_grow, others_handles_stay}
use Rattle.step_resolver.specs.WalkHistory.{own_events}
use Rattle.root_ops.specs.Renumbered.{Numbering, step_by, answer_by}
use Rattle.calls_by_system_calls.specs.Linux.{AreSame, numberless, without_numbers}
use Rattle.calls_by_system_calls.proofs.Woven.{Woven, index, woven_length, woven_get, woven_count, woven_closed, woven_opened}

-- the same nodes, with these handles
abbrev pub among : State → List (Option OpenHandle) → State
among s ys = record { nodes = s.nodes; handles = ys }

-- ---- one event

record Alike (a k : ℕ) (o p : Outcome) : Type 0 where
  handles : List (Option OpenHandle)
  woven : Woven a k o.after.handles handles
  after : p.after ≡ among o.after handles
  answer : answer_by numberless p.answer ≡ answer_by numberless o.answer

module _ (a k : ℕ) where
  alike_some : {A : Type 0} (o : Option A) (q q' : Outcome) (f f' : A → Outcome) → Alike a k q q'
      → ((x : A) → Alike a k (f x) (f' x)) → Alike a k (with_some o q f) (with_some o q' f')
  alike_some None q q' f f' at_none at_some = at_none
  alike_some (Some x) q q' f f' at_none at_some = at_some x

  alike_if : (test : Bool) (q q' o o' : Outcome) → Alike a k q q' → Alike a k o o'
      → Alike a k (refuse_if test q o) (refuse_if test q' o')
  alike_if true q q' o o' at_true at_false = at_true
  alike_if false q q' o o' at_true at_false = at_false

abbrev numbers_of : {a k : ℕ} {xs ys : List (Option OpenHandle)} → Woven a k xs ys → Numbering
numbers_of w = record { handle = index w; node = λ x. x }

abbrev opened_as : State → ℕ → ℕ → Object → Outcome
opened_as s b x what = record { answer = Opened (length s.handles) x (kind_of what); after = with_handle s b x }

abbrev opened_or_missing : State → ℕ → ℕ → Outcome
opened_or_missing s b x = with_some (object_at s.nodes x) (refused s NotFound) (opened_as s b x)

module _ (a k b : ℕ) (other : b ≢ a) (s : State) (ys : List (Option OpenHandle)) (w : Woven a k s.handles ys)
    (few : length s.handles + k < NUMBERS_MAX) where
  refused_alike : (error : Errno) → Alike a k (refused s error) (refused (among s ys) error)
  refused_alike error = record { handles = ys; woven = w; after = refl; answer = refl }

  answered_alike : (answer : Answer) → Alike a k (answered s answer) (answered (among s ys) answer)
  answered_alike answer = record { handles = ys; woven = w; after = refl; answer = refl }

  on_alike : (h : ℕ) (f f' : ℕ → Outcome) → ((x : ℕ) → Alike a k (f x) (f' x))
      → Alike a k (on_handle s b h f) (on_handle (among s ys) b (index w h) f')
  on_alike h f f' each =
      subst (λ o. Alike a k (on_handle s b h f) (with_some o (refused (among s ys) BadHandle) f'))
      (sym (woven_get w b h other))
      (alike_some a k (held s b h) (refused s BadHandle) (refused (among s ys) BadHandle) f f' (refused_alike BadHandle) each)

  full_alike : is_full (among s ys) b ≡ is_full s b
  full_alike =
      let long = woven_length w in
      let mine = lt-leb NUMBERS_MAX (length s.handles) (omega (arith, few)) in
      let all = lt-leb NUMBERS_MAX (length ys) (omega (arith, few, long)) in
      ap (λ n. nat_le HANDLES_MAX n || nat_le NUMBERS_MAX (length ys)) (woven_count w b other)
      ∙ ap (λ t. nat_le HANDLES_MAX (held_count s b) || t) (all ∙ sym mine)

  opens_alike : (x : ℕ) → Alike a k (opens s b x) (opens (among s ys) b x)
  opens_alike x =
      subst (λ t. Alike a k (opens s b x) (refuse_if t (refused (among s ys) TooMany) (opened_or_missing (among s ys) b x)))
      (sym full_alike)
      (alike_if a k (is_full s b) (refused s TooMany) (refused (among s ys) TooMany) (opened_or_missing s b x)
      (opened_or_missing (among s ys) b x) (refused_alike TooMany)
      (alike_some a k (object_at s.nodes x) (refused s NotFound) (refused (among s ys) NotFound) (opened_as s b x)
      (opened_as (among s ys) b x) (refused_alike NotFound)
      (λ what. record {
        handles = ys ++ Some (record { actor = b; node = x }) ∷ [];
        woven = woven_opened w (Some (record { actor = b; node = x }));
        after = refl;
        answer = refl;
      })))

  in_directory : (d : ℕ) (o o' : Outcome) → Alike a k o o'
      → Alike a k (refuse_if (not (is_dir s.nodes d)) (refused s NotDir) o) (refuse_if (not (is_dir s.nodes d)) (refused (among s ys) NotDir) o')
  in_directory d o o' is = alike_if a k (not (is_dir s.nodes d)) (refused s NotDir) (refused (among s ys) NotDir) o o' (refused_alike NotDir) is

  reads_alike : (o : Option Object) → Alike a k (reads s o) (reads (among s ys) o)
  reads_alike None = refused_alike Invalid
  reads_alike (Some object.Dir) = refused_alike Invalid
  reads_alike (Some object.File) = refused_alike Invalid
  reads_alike (Some (object.Link text)) = answered_alike (Text text)

  shows_alike : (o : Option (List (List ℕ))) → Alike a k (shows s o) (shows (among s ys) o)
  shows_alike None = answered_alike _
  shows_alike (Some names) = answered_alike _

  changes_alike : (r : Result (List Inode) Errno) → Alike a k (changes s r) (changes (among s ys) r)
  changes_alike (Err error) = refused_alike error
  changes_alike (Ok nodes) = record { handles = ys; woven = w; after = refl; answer = refl }

  alike : (step : StepWith ℕ) → Alike a k (outcome s b step) (outcome (among s ys) b (step_by (numbers_of w) step))
  alike (Open h n) =
      on_alike h _ _ (λ d. in_directory d _ _
      (alike_some a k (child s.nodes d n) (refused s NotFound) (refused (among s ys) NotFound) _ _ (refused_alike NotFound)
      (λ c. opens_alike c)))
  alike (Dup h) = on_alike h _ _ (λ x. opens_alike x)
  alike (Parent h) =
      on_alike h _ _ (λ x. in_directory x _ _
      (alike_some a k (parent s.nodes x) (refused s NotFound) (refused (among s ys) NotFound) _ _ (refused_alike NotFound)
      (λ d. opens_alike d)))
  alike (ReadLink h) = on_alike h _ _ (λ x. reads_alike (object_at s.nodes x))
  alike (NameBelow r h) = on_alike r _ _ (λ top. on_alike h _ _ (λ x. shows_alike (names_below s.nodes top x)))
  alike (ListNames h) =
      on_alike h _ _ (λ d. in_directory d _ _ (answered_alike (Listed (sorted_names (names_in s.nodes d)))))
  alike (Close h) =
      on_alike h _ _ (λ x. record { handles = _; woven = woven_closed w h; after = refl; answer = refl })
  alike (MakeDir h n) = on_alike h _ _ (λ d. changes_alike (makes s.nodes d n object.Dir))
  alike (MakeFile h n) = on_alike h _ _ (λ d. changes_alike (makes s.nodes d n object.File))
  alike (MakeLink h n text) = on_alike h _ _ (λ d. changes_alike (makes_link s.nodes d n text))
  alike (RemoveFile h n) = on_alike h _ _ (λ d. changes_alike (removes_file s.nodes d n))
  alike (RemoveDir h n) = on_alike h _ _ (λ d. changes_alike (removes_dir s.nodes d n))
  alike (Rename h n j m mode) =
      on_alike h _ _ (λ d. on_alike j _ _ (λ f. changes_alike (renames s.nodes d n f m mode)))

step_without : (f : ℕ → ℕ) (step : StepWith ℕ)
    → step_by numberless (step_by (record { handle = f; node = λ x. x }) step) ≡ step_by numberless step
step_without f (Open h n) = refl
step_without f (Dup h) = refl
step_without f (Parent h) = refl
step_without f (ReadLink h) = refl
step_without f (NameBelow r h) = refl
step_without f (ListNames h) = refl
step_without f (Close h) = refl
step_without f (MakeDir h n) = refl
step_without f (MakeFile h n) = refl
step_without f (MakeLink h n text) = refl
step_without f (RemoveFile h n) = refl
step_without f (RemoveDir h n) = refl
step_without f (Rename h n k m mode) = refl

-- ---- one after another

-- These events of others, among handles of a's: legal there, the same, and a's handles stay.
without_by : (e g : Event) → g.actor ≡ e.actor → step_by numberless g.step ≡ step_by numberless e.step
    → answer_by numberless g.answer ≡ answer_by numberless e.answer → without_numbers g ≡ without_numbers e
without_by e g p q r = λ i. record { actor = p i; step = q i; answer = r i }

pub record Among (a k : ℕ) (s t : State) (events : List Event) : Type 0 where
  pub others : List Event
  pub handles : List (Option OpenHandle)
  pub woven : Woven a k (after_events s events).handles handles
  pub after : after_events t others ≡ among (after_events s events) handles
  pub legal : IsLegal t others
  pub same : AreSame s events t others
  pub not_own : own_events a others ≡ []
  pub stay : (h : ℕ) → held (after_events t others) a h ≡ held t a h
  pub count : held_count (after_events t others) a ≡ held_count t a

pub handles_grow : (s : State) (events : List Event) → length s.handles ≤ length (after_events s events).handles
handles_grow s [] = omega arith
handles_grow s (event ∷ events) =
    omega (arith, (numbers_grow s event.actor event.step).1, handles_grow (after_event s event) events)

pub among_others : (a k : ℕ) (s t : State) (ys : List (Option OpenHandle)) → t ≡ among s ys → Woven a k s.handles ys
    → (events : List Event) → AllByRecursion (λ event. event.actor ≢ a) events → IsLegal s events
    → length (after_events s events).handles + k < NUMBERS_MAX → Among a k s t events
among_others a k s t ys is w [] all legal few = record {
  others = [];
  handles = ys;
  woven = w;
  after = is;
  legal = tt;
  same = ap (λ x. x.nodes) is;
  not_own = refl;
  stay = λ h. refl;
  count = refl;
}
among_others a k s t ys is w (event ∷ events) all legal few =
    let grown = handles_grow s (event ∷ events) in
    let one = alike a k event.actor all.0 s ys w (omega (arith, few, grown)) event.step in
    let step = step_by (numbers_of w) event.step in
    let g : Event = record { actor = event.actor; step = step; answer = (outcome t event.actor step).answer } in
    let there : after_event t g ≡ among (after_event s event) one.handles
    = ap (λ x. (outcome x event.actor step).after) is ∙ one.after in
    let rest = among_others a k (after_event s event) (after_event t g) one.handles there one.woven events all.1 legal.1 few in
    record {
      others = g ∷ rest.others;
      handles = rest.handles;
      woven = rest.woven;
      after = rest.after;
      legal = (refl, rest.legal);
      same = (
        ap (λ x. x.nodes) is,
        (
          without_by event g refl (step_without (index w) event.step)
              (ap (λ x. answer_by numberless (outcome x event.actor step).answer) is ∙ one.answer
              ∙ ap (answer_by numberless) (sym legal.0)),
          rest.same,
        ),
      );
      not_own = ap (λ b. cond b (g ∷ own_events a rest.others) (own_events a rest.others)) (ne_eqb event.actor a all.0) ∙ rest.not_own;
      stay = λ h. rest.stay h ∙ others_handles_stay t event.actor step a h (λ q. all.0 (sym q));
      count = rest.count ∙ others_counts_stay t event.actor step a (λ q. all.0 (sym q));
    }
