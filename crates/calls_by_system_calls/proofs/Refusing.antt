-- The step table refuses a step by no other errors than those that are passed on.
use Rattle.std.specs.Prelude.{◌≡◌, ◌⊎◌, ℕ, ◌==◌, ◌&&◌, nat_lt, length, List, Bool, true, false, not, if◌then◌else◌, Option, Some, None, is_some, Result, Ok, Err, refl}
use Rattle.std.specs.List.{list_any}
use Rattle.std.proofs.Common.{sym, ◌∙◌, ap, subst, inl, inr}
use Rattle.path_text.specs.declared.errno.Errno.{Errno}
use Rattle.path_text.specs.declared.errno.Errno.TheVariants.{NotFound, BadHandle, Exists, NotDir, IsDir, Invalid, TooMany, TooLong, NotEmpty}
use Rattle.path_text.specs.Name.{NUL}
use Rattle.path_text.specs.Text.{is_empty, text_fault}
use Rattle.tree_model.specs.declared.answer.Answer.TheVariants.{Refused}
use Rattle.tree_model.specs.declared.inode.Inode.{Inode}
use Rattle.tree_model.specs.declared.inode.Object.{Object}
use Rattle.tree_model.specs.declared.inode.Object.TheVariants as object
use Rattle.tree_model.specs.declared.step.Mode.{Mode}
use Rattle.tree_model.specs.declared.step.Mode.TheVariants.{Plain, NoReplace, Exchange}
use Rattle.tree_model.specs.declared.step.StepOf.TheVariants as steps
use Rattle.tree_model.specs.Entries.{refuse_if, with_some, refuse_by, makes, moves, replace_fault, replaces, exchanges, renames_child}
use Rattle.tree_model.specs.State.{State, object_at, child, parent, is_dir, is_gone, is_within, has_entries, names_below}
use Rattle.tree_model.specs.Steps.{Outcome, held, is_full, opens, reads, shows, changes, outcome}
use Rattle.tree_model.specs.StepWith.{StepWith}
use Rattle.tree_model.specs.Trees.{IsState}
use Rattle.tree_model.proofs.PlaceLaws.{not_found_is_missing}
use Rattle.system_calls.specs.Errors.{EINVAL}
use Rattle.dialogue.specs.declared.calls.Answer.{Answer}
use Rattle.linux_steps.specs.Steps.{link_text, not_read}
use Rattle.linux_steps.specs.declared.ended.Ended.TheVariants as ended
use Rattle.root_ops.specs.Renamed.{step_handles}
use Rattle.calls_by_system_calls.specs.Refusals.{IsRefusedBy, IsOneOf, IsLeftAside, not_open, no_room, no_directory, text_has_nul, into_itself, StepsAreRefusedSo}
use Rattle.std.proofs.lemmas.Bool.{not-true}

-- ---- one test after another

abbrev failed : Errno → Result (List Inode) Errno
failed error = Err error

same_err : (a b : Errno) → failed a ≡ failed b → a ≡ b
same_err a b e = cc (e)

module _ (P : Type 0) (error : Errno) where
  -- a handle, if it is open
  on_held : {A : Type 0} (m : Option A) (p : Outcome) (k : A → Outcome) → (with_some m p k).answer ≡ Refused error
      → (p.answer ≡ Refused error → P) → ((x : A) → m ≡ Some x → (k x).answer ≡ Refused error → P) → P
  on_held None p k is without onward = without is
  on_held (Some x) p k is without onward = onward x refl is

  -- a refusal, if the test holds
  if_so : (b : Bool) (p q : Outcome) → (refuse_if b p q).answer ≡ Refused error
      → (b ≡ true → p.answer ≡ Refused error → P) → (q.answer ≡ Refused error → P) → P
  if_so true p q is refuses onward = refuses refl is
  if_so false p q is refuses onward = onward is

  -- the same of what changes the nodes
  err_if : (b : Bool) (p q : Result (List Inode) Errno) → refuse_if b p q ≡ Err error
      → (b ≡ true → p ≡ Err error → P) → (q ≡ Err error → P) → P
  err_if true p q is refuses onward = refuses refl is
  err_if false p q is refuses onward = onward is

  err_some : {A : Type 0} (m : Option A) (p : Result (List Inode) Errno) (k : A → Result (List Inode) Errno) → with_some m p k ≡ Err error
      → (p ≡ Err error → P) → ((x : A) → k x ≡ Err error → P) → P
  err_some None p k is without onward = without is
  err_some (Some x) p k is without onward = onward x is

  err_by : (m : Option Errno) (q : Result (List Inode) Errno) → refuse_by m q ≡ Err error → ((fault : Errno) → m ≡ Some fault → fault ≡ error → P) → (q ≡ Err error → P) → P
  err_by None q is faulty onward = onward is
  err_by (Some fault) q is faulty onward = faulty fault refl (same_err fault error is)

-- readlinkat(2) gives EINVAL
no_text : (a : Answer) → a.error ≡ EINVAL → link_text false a ≡ ended.Refused Invalid
no_text a e =
    ap (λ n. if n == 0 then ended.Text a.value
    else (if not_read n == EINVAL then ended.Refused Invalid else ended.Unmade (not_read n))) e

same_error : (a b : Errno) → Refused a ≡ Refused b → a ≡ b
same_error a b e = cc (e)

ok_err : (nodes : List Inode) (b : Errno) {P : Type 0} → Ok nodes ≡ Err b → P
ok_err nodes b e = cc (e)

changed : (s : State) (r : Result (List Inode) Errno) (error : Errno) → (changes s r).answer ≡ Refused error → r ≡ Err error
changed s (Err fault) error is = ap Err (same_error fault error is)
changed s (Ok nodes) error is = cc (is)

-- ---- a step

module _ (s : State) (a : ℕ) (step : StepWith ℕ) (error : Errno) where
  abbrev Said : Type 0
  Said = IsLeftAside s a step error ⊎ IsRefusedBy step error

  -- it is refused by this error
  by : (fault : Errno) → fault ≡ error → IsRefusedBy step fault → Said
  by fault same is = inr (subst (IsRefusedBy step) same is)

  closed : BadHandle ≡ error → Said
  closed e = inl (not_open (sym e))

  full : TooMany ≡ error → Said
  full e = inl (no_room (sym e))

  -- a handle of the step, on what is no directory
  flat : (h x : ℕ) → IsOneOf h (step_handles step) → held s a h ≡ Some x → not (is_dir s.nodes x) ≡ true → NotDir ≡ error → Said
  flat h x of_step is_held none e = inl (no_directory (sym e) (record {
    handle = h;
    node = x;
    of_step = of_step;
    is_held = is_held;
    is_none = not-true (is_dir s.nodes x) none;
  }))

  -- what is opened by a step that may be refused by ENOENT; or of which all that is opened is there
  opened : (x : ℕ) → (opens s a x).answer ≡ Refused error → (NotFound ≡ error → Said) → Said
  opened x is missing = if_so Said error (is_full s a) _ _ is (λ _ e. full (same_error TooMany error e))
      (λ e. on_held Said error (object_at s.nodes x) _ _ e (λ f. missing (same_error NotFound error f)) (λ what _ f. cc (f)))

  -- what is made, in the directory of a handle
  made : (h d : ℕ) (n : List ℕ) (o : Object) → IsOneOf h (step_handles step) → held s a h ≡ Some d
      → (NotFound ≡ error → Said) → (Exists ≡ error → Said) → makes s.nodes d n o ≡ Err error → Said
  made h d n o of_step is_held missing there is =
      err_if Said error (not (is_dir s.nodes d)) _ _ is (λ none e. flat h d of_step is_held none (same_err NotDir error e))
      (λ e. err_if Said error (is_gone s.nodes d) _ _ e (λ _ f. missing (same_err NotFound error f))
      (λ f. err_if Said error (is_some (child s.nodes d n)) _ _ f (λ _ g. there (same_err Exists error g))
      (λ g. err_if Said error _ _ _ g (λ _ i. full (same_err TooMany error i)) (λ i. ok_err _ error i))))

-- ---- the steps that open, read or list

module _ (s : State) (a : ℕ) (t : IsState s) (error : Errno) where
  open_so : (h : ℕ) (n : List ℕ) → (outcome s a (steps.Open h n)).answer ≡ Refused error → Said s a (steps.Open h n) error
  open_so h n is =
      let step = steps.Open h n in
      on_held (Said s a step error) error (held s a h) _ _ is (λ e. closed s a step error (same_error BadHandle error e))
      (λ d at e. if_so (Said s a step error) error (not (is_dir s.nodes d)) _ _ e (λ none f. flat s a step error h d (inl refl) at none (same_error NotDir error f))
      (λ f. on_held (Said s a step error) error (child s.nodes d n) _ _ f (λ g. by s a step error NotFound (same_error NotFound error g) refl)
      (λ c _ g. opened s a step error c g (λ m. by s a step error NotFound m refl))))

  dup_so : (h : ℕ) → (outcome s a (steps.Dup h)).answer ≡ Refused error → Said s a (steps.Dup h) error
  dup_so h is =
      let step = steps.Dup h in
      on_held (Said s a step error) error (held s a h) _ _ is (λ e. closed s a step error (same_error BadHandle error e))
      (λ x at e. opened s a step error x e (λ m. absurd ((not_found_is_missing s t a h x at).0 (is ∙ ap Refused (sym m)))))

  parent_so : (h : ℕ) → (outcome s a (steps.Parent h)).answer ≡ Refused error → Said s a (steps.Parent h) error
  parent_so h is =
      let step = steps.Parent h in
      on_held (Said s a step error) error (held s a h) _ _ is (λ e. closed s a step error (same_error BadHandle error e))
      (λ x at e. if_so (Said s a step error) error (not (is_dir s.nodes x)) _ _ e (λ none f. flat s a step error h x (inl refl) at none (same_error NotDir error f))
      (λ f. on_held (Said s a step error) error (parent s.nodes x) _ _ f (λ g. by s a step error NotFound (same_error NotFound error g) refl)
      (λ d _ g. opened s a step error d g (λ m. by s a step error NotFound m refl))))

  read_so : (h : ℕ) → (outcome s a (steps.ReadLink h)).answer ≡ Refused error → Said s a (steps.ReadLink h) error
  read_so h is =
      let step = steps.ReadLink h in
      on_held (Said s a step error) error (held s a h) _ _ is (λ e. closed s a step error (same_error BadHandle error e))
      (λ x _ e. by s a step error Invalid (of_object (object_at s.nodes x) e) no_text)
    where
      of_object : (o : Option Object) → (reads s o).answer ≡ Refused error → Invalid ≡ error
      of_object None e = same_error Invalid error e
      of_object (Some object.Dir) e = same_error Invalid error e
      of_object (Some object.File) e = same_error Invalid error e
      of_object (Some (object.Link text)) e = cc (e)

  place_so : (r h : ℕ) → (outcome s a (steps.NameBelow r h)).answer ≡ Refused error → Said s a (steps.NameBelow r h) error
  place_so r h is =
      let step = steps.NameBelow r h in
      on_held (Said s a step error) error (held s a r) _ _ is (λ e. closed s a step error (same_error BadHandle error e))
      (λ top _ e. on_held (Said s a step error) error (held s a h) _ _ e (λ f. closed s a step error (same_error BadHandle error f))
      (λ x _ f. absurd (shown (names_below s.nodes top x) f)))
    where
      shown : (names : Option (List (List ℕ))) → (shows s names).answer ≡ Refused error → ⊥
      shown None e = cc (e)
      shown (Some names) e = cc (e)

  list_so : (h : ℕ) → (outcome s a (steps.List h)).answer ≡ Refused error → Said s a (steps.List h) error
  list_so h is =
      let step = steps.List h in
      on_held (Said s a step error) error (held s a h) _ _ is (λ e. closed s a step error (same_error BadHandle error e))
      (λ d at e. if_so (Said s a step error) error (not (is_dir s.nodes d)) _ _ e (λ none f. flat s a step error h d (inl refl) at none (same_error NotDir error f))
      (λ f. cc (f)))

  close_so : (h : ℕ) → (outcome s a (steps.Close h)).answer ≡ Refused error → Said s a (steps.Close h) error
  close_so h is =
      let step = steps.Close h in
      on_held (Said s a step error) error (held s a h) _ _ is (λ e. closed s a step error (same_error BadHandle error e)) (λ x _ e. cc (e))

-- ---- the steps that change an entry

-- why a text is no path
data Faulty (text : List ℕ) (fault : Errno) : Type 0 where
  empty : NotFound ≡ fault → Faulty text fault
  has_nul : Invalid ≡ fault → Faulty text fault
  long : TooLong ≡ fault → nat_lt 4095 (length text) ≡ true → Faulty text fault

some_fault : (e f : Errno) → Some e ≡ Some f → e ≡ f
some_fault e f is = cc (is)

no_fault : (f : Errno) {P : Type 0} → None ≡ Some f → P
no_fault f is = cc (is)

faulty : (text : List ℕ) (fault : Errno) → text_fault text ≡ Some fault → Faulty text fault
faulty text fault is = from_empty (is_empty text) is
  where
    from_long : (b : Bool) → nat_lt 4095 (length text) ≡ b → (if b then Some TooLong else None) ≡ Some fault → Faulty text fault
    from_long true l e = long (some_fault TooLong fault e) l
    from_long false l e = no_fault fault e

    from_nul : (b : Bool) → (if b then Some Invalid else (if nat_lt 4095 (length text) then Some TooLong else None)) ≡ Some fault → Faulty text fault
    from_nul true e = has_nul (some_fault Invalid fault e)
    from_nul false e = from_long (nat_lt 4095 (length text)) refl e

    from_empty : (b : Bool)
        → (if b then Some NotFound else (if list_any (λ b. b == NUL) text then Some Invalid else (if nat_lt 4095 (length text) then Some TooLong else None))) ≡ Some fault
        → Faulty text fault
    from_empty true e = empty (some_fault NotFound fault e)
    from_empty false e = from_nul (list_any (λ b. b == NUL) text) e

module _ (s : State) (a : ℕ) (error : Errno) where
  make_dir_so : (h : ℕ) (n : List ℕ) → (outcome s a (steps.MakeDir h n)).answer ≡ Refused error → Said s a (steps.MakeDir h n) error
  make_dir_so h n is =
      let step = steps.MakeDir h n in
      on_held (Said s a step error) error (held s a h) _ _ is (λ e. closed s a step error (same_error BadHandle error e))
      (λ d at e. made s a step error h d n object.Dir (inl refl) at (λ m. by s a step error NotFound m refl) (λ m. by s a step error Exists m refl) (changed s _ error e))

  make_file_so : (h : ℕ) (n : List ℕ) → (outcome s a (steps.MakeFile h n)).answer ≡ Refused error → Said s a (steps.MakeFile h n) error
  make_file_so h n is =
      let step = steps.MakeFile h n in
      on_held (Said s a step error) error (held s a h) _ _ is (λ e. closed s a step error (same_error BadHandle error e))
      (λ d at e. made s a step error h d n object.File (inl refl) at (λ m. by s a step error NotFound m refl) (λ m. by s a step error Exists m refl) (changed s _ error e))

  make_link_so : (h : ℕ) (n text : List ℕ) → (outcome s a (steps.MakeLink h n text)).answer ≡ Refused error → Said s a (steps.MakeLink h n text) error
  make_link_so h n text is =
      let step = steps.MakeLink h n text in
      on_held (Said s a step error) error (held s a h) _ _ is (λ e. closed s a step error (same_error BadHandle error e))
      (λ d at e. err_by (Said s a step error) error (text_fault text) _ (changed s _ error e) (λ fault is_fault same. of_text fault same (faulty text fault is_fault))
      (λ f. made s a step error h d n (object.Link text) (inl refl) at (λ m. by s a step error NotFound m refl) (λ m. by s a step error Exists m refl) f))
    where
      of_text : (fault : Errno) → fault ≡ error → Faulty text fault → Said s a (steps.MakeLink h n text) error
      of_text fault same (empty e) = by s a (steps.MakeLink h n text) error NotFound (e ∙ same) refl
      of_text fault same (has_nul e) = inl (text_has_nul h n text refl (sym (e ∙ same)))
      of_text fault same (long e l) =
          by s a (steps.MakeLink h n text) error TooLong (e ∙ same)
          (ap (λ b. if b then ended.Refused TooLong else ended.Unmade 36) l)

  remove_file_so : (h : ℕ) (n : List ℕ) → (outcome s a (steps.RemoveFile h n)).answer ≡ Refused error → Said s a (steps.RemoveFile h n) error
  remove_file_so h n is =
      let step = steps.RemoveFile h n in
      on_held (Said s a step error) error (held s a h) _ _ is (λ e. closed s a step error (same_error BadHandle error e))
      (λ d at e. err_if (Said s a step error) error (not (is_dir s.nodes d)) _ _ (changed s _ error e) (λ none f. flat s a step error h d (inl refl) at none (same_err NotDir error f))
      (λ f. err_some (Said s a step error) error (child s.nodes d n) _ _ f (λ g. by s a step error NotFound (same_err NotFound error g) refl)
      (λ c g. err_if (Said s a step error) error (is_dir s.nodes c) _ _ g (λ _ i. by s a step error IsDir (same_err IsDir error i) refl) (λ i. ok_err _ error i))))

  remove_dir_so : (h : ℕ) (n : List ℕ) → (outcome s a (steps.RemoveDir h n)).answer ≡ Refused error → Said s a (steps.RemoveDir h n) error
  remove_dir_so h n is =
      let step = steps.RemoveDir h n in
      on_held (Said s a step error) error (held s a h) _ _ is (λ e. closed s a step error (same_error BadHandle error e))
      (λ d at e. err_if (Said s a step error) error (not (is_dir s.nodes d)) _ _ (changed s _ error e) (λ none f. flat s a step error h d (inl refl) at none (same_err NotDir error f))
      (λ f. err_some (Said s a step error) error (child s.nodes d n) _ _ f (λ g. by s a step error NotFound (same_err NotFound error g) refl)
      (λ c g. err_if (Said s a step error) error (not (is_dir s.nodes c)) _ _ g (λ _ i. by s a step error NotDir (same_err NotDir error i) refl)
      (λ i. err_if (Said s a step error) error (has_entries s.nodes c) _ _ i (λ _ j. by s a step error NotEmpty (same_err NotEmpty error j) refl) (λ j. ok_err _ error j)))))

-- ---- a rename

module _ (s : State) (a : ℕ) (error : Errno) (h : ℕ) (n : List ℕ) (k : ℕ) (m : List ℕ) where
  abbrev Renamed : Mode → Type 0
  Renamed mode = Said s a (steps.Rename h n k m mode) error

  itself : (mode : Mode) → failed Invalid ≡ Err error → Renamed mode
  itself mode e = inl (into_itself h n k m mode refl (sym (same_err Invalid error e)))

  moved : (mode : Mode) (c d : ℕ) → moves s.nodes c d m ≡ Err error → Renamed mode
  moved mode c d is = err_if (Renamed mode) error (is_within s.nodes c d) _ _ is (λ _ e. itself mode e) (λ e. ok_err _ error e)

  -- why one entry can't take another's place
  faults : (c e : ℕ) (fault : Errno) → replace_fault s.nodes c e ≡ Some fault → fault ≡ error → Renamed Plain
  faults c e fault is same = from_first (is_dir s.nodes c && not (is_dir s.nodes e)) is
    where
      from_third : (b : Bool) → (if b then Some NotEmpty else None) ≡ Some fault → Renamed Plain
      from_third true i = by s a (steps.Rename h n k m Plain) error NotEmpty (some_fault NotEmpty fault i ∙ same) refl
      from_third false i = no_fault fault i

      from_second : (b : Bool) → (if b then Some IsDir else (if is_dir s.nodes e && has_entries s.nodes e then Some NotEmpty else None)) ≡ Some fault → Renamed Plain
      from_second true i = by s a (steps.Rename h n k m Plain) error IsDir (some_fault IsDir fault i ∙ same) refl
      from_second false i = from_third (is_dir s.nodes e && has_entries s.nodes e) i

      from_first : (b : Bool)
          → (if b then Some NotDir else (if not (is_dir s.nodes c) && is_dir s.nodes e then Some IsDir else (if is_dir s.nodes e && has_entries s.nodes e then Some NotEmpty else None)))
          ≡ Some fault
          → Renamed Plain
      from_first true i = by s a (steps.Rename h n k m Plain) error NotDir (some_fault NotDir fault i ∙ same) refl
      from_first false i = from_second (not (is_dir s.nodes c) && is_dir s.nodes e) i

  replaced : (c d e : ℕ) → replaces s.nodes c d m e ≡ Err error → Renamed Plain
  replaced c d e is = err_if (Renamed Plain) error (is_within s.nodes c d) _ _ is (λ _ f. itself Plain f)
      (λ f. err_by (Renamed Plain) error (replace_fault s.nodes c e) _ f (faults c e) (λ g. ok_err _ error g))

  exchanged : (c d e f : ℕ) → exchanges s.nodes c d n e f m ≡ Err error → Renamed Exchange
  exchanged c d e f is = err_if (Renamed Exchange) error (is_within s.nodes c f) _ _ is (λ _ g. itself Exchange g)
      (λ g. err_if (Renamed Exchange) error (is_within s.nodes e d) _ _ g (λ _ i. itself Exchange i) (λ i. ok_err _ error i))

  child_so : (mode : Mode) (c d f : ℕ) (there : Option ℕ) → renames_child s.nodes c d n f m mode there ≡ Err error → Renamed mode
  child_so Plain c d f None is = moved Plain c f is
  child_so Plain c d f (Some e) is = onto (c == e) is
    where
      onto : (b : Bool) → (if b then Ok s.nodes else replaces s.nodes c f m e) ≡ Err error → Renamed Plain
      onto true i = ok_err s.nodes error i
      onto false i = replaced c f e i
  child_so NoReplace c d f None is = moved NoReplace c f is
  child_so NoReplace c d f (Some e) is = by s a (steps.Rename h n k m NoReplace) error Exists (same_err Exists error is) refl
  child_so Exchange c d f None is = by s a (steps.Rename h n k m Exchange) error NotFound (same_err NotFound error is) refl
  child_so Exchange c d f (Some e) is = onto (c == e) is
    where
      onto : (b : Bool) → (if b then Ok s.nodes else exchanges s.nodes c d n e f m) ≡ Err error → Renamed Exchange
      onto true i = ok_err s.nodes error i
      onto false i = exchanged c d e f i

  missing : (mode : Mode) → NotFound ≡ error → Renamed mode
  missing Plain e = by s a (steps.Rename h n k m Plain) error NotFound e refl
  missing NoReplace e = by s a (steps.Rename h n k m NoReplace) error NotFound e refl
  missing Exchange e = by s a (steps.Rename h n k m Exchange) error NotFound e refl

  rename_so : (mode : Mode) → (outcome s a (steps.Rename h n k m mode)).answer ≡ Refused error → Renamed mode
  rename_so mode is =
      let step = steps.Rename h n k m mode in
      on_held (Renamed mode) error (held s a h) _ _ is (λ e. closed s a step error (same_error BadHandle error e))
      (λ d at e. on_held (Renamed mode) error (held s a k) _ _ e (λ f. closed s a step error (same_error BadHandle error f))
      (λ f at_new i. err_if (Renamed mode) error (not (is_dir s.nodes d)) _ _ (changed s _ error i) (λ none j. flat s a step error h d (inl refl) at none (same_err NotDir error j))
      (λ j. err_if (Renamed mode) error (not (is_dir s.nodes f)) _ _ j (λ none l. flat s a step error k f (inr (inl refl)) at_new none (same_err NotDir error l))
      (λ l. err_some (Renamed mode) error (child s.nodes d n) _ _ l (λ o. missing mode (same_err NotFound error o))
      (λ c o. err_if (Renamed mode) error (is_gone s.nodes f) _ _ o (λ _ p. missing mode (same_err NotFound error p))
      (λ p. child_so mode c d f (child s.nodes f m) p))))))

-- ---- each step

pub refused_so : StepsAreRefusedSo
refused_so s a t (steps.Open h n) error is = open_so s a t error h n is
refused_so s a t (steps.Dup h) error is = dup_so s a t error h is
refused_so s a t (steps.Parent h) error is = parent_so s a t error h is
refused_so s a t (steps.ReadLink h) error is = read_so s a t error h is
refused_so s a t (steps.NameBelow r h) error is = place_so s a t error r h is
refused_so s a t (steps.List h) error is = list_so s a t error h is
refused_so s a t (steps.Close h) error is = close_so s a t error h is
refused_so s a t (steps.MakeDir h n) error is = make_dir_so s a error h n is
refused_so s a t (steps.MakeFile h n) error is = make_file_so s a error h n is
refused_so s a t (steps.MakeLink h n text) error is = make_link_so s a error h n text is
refused_so s a t (steps.RemoveFile h n) error is = remove_file_so s a error h n is
refused_so s a t (steps.RemoveDir h n) error is = remove_dir_so s a error h n is
refused_so s a t (steps.Rename h n k m mode) error is = rename_so s a error h n k m mode is
