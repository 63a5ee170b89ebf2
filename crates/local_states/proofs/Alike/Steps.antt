-- On alike trees, by paired handles, a step comes to the same.
use Rattle.std.proofs.Common.{◌≡◌, ◌⊎◌, inl, inr, ℕ, zero, suc, ◌<◌, Bool, true, false, ◌==◌, ◌||◌, ◌&&◌, List, [], ◌∷◌, length, reverse, Option, Some, None, Result, Ok, Err, slice_get, slice_set, refl, sym, ap, ◌∙◌, subst, eqb-true, eq-eqb, arith}
use Rattle.std.proofs.lemmas.Bool.{false≢true, true≢false}
use Rattle.path_text.specs.declared.errno.Errno.{Errno}
use Rattle.path_text.specs.declared.errno.Errno.TheVariants.{NotFound, BadHandle, Invalid, TooMany}
use Rattle.tree_model.specs.declared.answer.Answer.{Answer}
use Rattle.tree_model.specs.declared.answer.Answer.TheVariants.{Opened, Text, Names, NotBelow, Listed, Done, Refused}
use Rattle.tree_model.specs.declared.inode.Inode.{Inode}
use Rattle.tree_model.specs.declared.inode.Object.{Object}
use Rattle.tree_model.specs.declared.inode.Object.TheVariants as object
use Rattle.tree_model.specs.declared.inode.OpenHandle.{OpenHandle}
use Rattle.tree_model.specs.declared.step.Mode.{Mode}
use Rattle.tree_model.specs.StepWith.{StepWith}
use Rattle.tree_model.specs.declared.step.StepOf.TheVariants as steps
use Rattle.tree_model.specs.State.{State, object_at}
use Rattle.tree_model.specs.Entries.{refuse_if, with_some}
use Rattle.tree_model.specs.StepLaws.{only_tells, opened_count, closed_count}
use Rattle.tree_model.specs.Steps.{Outcome, refused, answered, kind_of, is_full, with_handle, opens, reads, shows, changes}
use Rattle.race_core.specs.Book.{is_close}
use Rattle.race_core.specs.Renamed.{step_by, answer_by}
use Rattle.local_states.specs.Alike.{Pairs, Agree, SameSteps}

-- ---- lists

pub set_at : {A : Type 0} (xs : List A) (i : ℕ) (y : A) → i < length xs → slice_get (slice_set xs i y) i ≡ Some y
set_at [] i y lt = absurd (omega arith)
set_at (x ∷ xs) zero y lt = refl
set_at (x ∷ xs) (suc i) y lt = set_at xs i y (omega arith)

-- ---- numbers of handles that are the same but for pairs

-- whatever replacements agree on the pairs give both one number
abbrev pub SameNumbers : Pairs → ℕ → ℕ → Type 0
SameNumbers pairs h k = (f g : ℕ → ℕ) → Agree pairs f g → f h ≡ g k

abbrev pub code : Option ℕ → ℕ
code None = 0
code (Some x) = suc x

pub decode : (o p : Option ℕ) → code o ≡ code p → o ≡ p
decode None None e = refl
decode None (Some x) e = absurd (omega arith)
decode (Some x) None e = absurd (omega arith)
decode (Some x) (Some y) e = let same : x ≡ y = omega arith in ap Some same

abbrev pub bit : Bool → ℕ
bit true = 1
bit false = 0

pub unbit : (b c : Bool) → bit b ≡ bit c → b ≡ c
unbit true true e = refl
unbit false false e = refl
unbit true false e = absurd (omega arith)
unbit false true e = absurd (omega arith)

-- ---- steps by paired handles

pub data Paired (pairs : Pairs) : StepWith ℕ → StepWith ℕ → Type 0 where
  open' : (h k : ℕ) (n : List ℕ) → SameNumbers pairs h k → Paired pairs (steps.Open h n) (steps.Open k n)
  dup' : (h k : ℕ) → SameNumbers pairs h k → Paired pairs (steps.Dup h) (steps.Dup k)
  parent' : (h k : ℕ) → SameNumbers pairs h k → Paired pairs (steps.Parent h) (steps.Parent k)
  read' : (h k : ℕ) → SameNumbers pairs h k → Paired pairs (steps.ReadLink h) (steps.ReadLink k)
  below' : (r q h k : ℕ) → SameNumbers pairs r q → SameNumbers pairs h k
      → Paired pairs (steps.NameBelow r h) (steps.NameBelow q k)
  list' : (h k : ℕ) → SameNumbers pairs h k → Paired pairs (steps.List h) (steps.List k)
  close' : (h k : ℕ) → SameNumbers pairs h k → Paired pairs (steps.Close h) (steps.Close k)
  make_dir' : (h k : ℕ) (n : List ℕ) → SameNumbers pairs h k → Paired pairs (steps.MakeDir h n) (steps.MakeDir k n)
  make_file' : (h k : ℕ) (n : List ℕ) → SameNumbers pairs h k → Paired pairs (steps.MakeFile h n) (steps.MakeFile k n)
  make_link' : (h k : ℕ) (n text : List ℕ) → SameNumbers pairs h k
      → Paired pairs (steps.MakeLink h n text) (steps.MakeLink k n text)
  remove_file' : (h k : ℕ) (n : List ℕ) → SameNumbers pairs h k
      → Paired pairs (steps.RemoveFile h n) (steps.RemoveFile k n)
  remove_dir' : (h k : ℕ) (n : List ℕ) → SameNumbers pairs h k
      → Paired pairs (steps.RemoveDir h n) (steps.RemoveDir k n)
  rename' : (h k : ℕ) (n : List ℕ) (d e : ℕ) (m : List ℕ) (mode : Mode) → SameNumbers pairs h k → SameNumbers pairs d e
      → Paired pairs (steps.Rename h n d m mode) (steps.Rename k n e m mode)

module _ (pairs : Pairs) where
  pub zero_agrees : Agree pairs (λ h. 0) (λ h. 0)
  zero_agrees h k p = refl

  pub paired_of : (x y : StepWith ℕ) → SameSteps pairs x y → Paired pairs x y
  paired_of (steps.Open h n) (steps.Open k m) same =
      let first : ◌≡◌ {A = StepWith ℕ} (steps.Open 0 n) (steps.Open 0 m) = same (λ h. 0) (λ h. 0) zero_agrees in
      let names : n ≡ m = cc (first) in
      subst (λ m. Paired pairs (steps.Open h n) (steps.Open k m)) names
      (open' h k n (λ f g agree. let e : ◌≡◌ {A = StepWith ℕ} (steps.Open (f h) n) (steps.Open (g k) m) =
      same f g agree in cc (e)))
  paired_of (steps.Dup h) (steps.Dup k) same =
      dup' h k (λ f g agree. let e : ◌≡◌ {A = StepWith ℕ} (steps.Dup (f h)) (steps.Dup (g k)) = same f g agree in
      cc (e))
  paired_of (steps.Parent h) (steps.Parent k) same =
      parent' h k (λ f g agree. let e : ◌≡◌ {A = StepWith ℕ} (steps.Parent (f h)) (steps.Parent (g k)) =
      same f g agree in cc (e))
  paired_of (steps.ReadLink h) (steps.ReadLink k) same =
      read' h k (λ f g agree. let e : ◌≡◌ {A = StepWith ℕ} (steps.ReadLink (f h)) (steps.ReadLink (g k)) =
      same f g agree in cc (e))
  paired_of (steps.NameBelow r h) (steps.NameBelow q k) same =
      below' r q h k (λ f g agree. let e : ◌≡◌ {A = StepWith ℕ} (steps.NameBelow (f r) (f h))
      (steps.NameBelow (g q) (g k)) = same f g agree in cc (e))
      (λ f g agree. let e : ◌≡◌ {A = StepWith ℕ} (steps.NameBelow (f r) (f h)) (steps.NameBelow (g q) (g k)) =
      same f g agree in cc (e))
  paired_of (steps.List h) (steps.List k) same =
      list' h k (λ f g agree. let e : ◌≡◌ {A = StepWith ℕ} (steps.List (f h)) (steps.List (g k)) = same f g agree in
      cc (e))
  paired_of (steps.Close h) (steps.Close k) same =
      close' h k (λ f g agree. let e : ◌≡◌ {A = StepWith ℕ} (steps.Close (f h)) (steps.Close (g k)) = same f g agree in
      cc (e))
  paired_of (steps.MakeDir h n) (steps.MakeDir k m) same =
      let first : ◌≡◌ {A = StepWith ℕ} (steps.MakeDir 0 n) (steps.MakeDir 0 m) = same (λ h. 0) (λ h. 0) zero_agrees in
      let names : n ≡ m = cc (first) in
      subst (λ m. Paired pairs (steps.MakeDir h n) (steps.MakeDir k m)) names
      (make_dir' h k n (λ f g agree. let e : ◌≡◌ {A = StepWith ℕ} (steps.MakeDir (f h) n) (steps.MakeDir (g k) m) =
      same f g agree in cc (e)))
  paired_of (steps.MakeFile h n) (steps.MakeFile k m) same =
      let first : ◌≡◌ {A = StepWith ℕ} (steps.MakeFile 0 n) (steps.MakeFile 0 m) = same (λ h. 0) (λ h. 0) zero_agrees in
      let names : n ≡ m = cc (first) in
      subst (λ m. Paired pairs (steps.MakeFile h n) (steps.MakeFile k m)) names
      (make_file' h k n (λ f g agree. let e : ◌≡◌ {A = StepWith ℕ} (steps.MakeFile (f h) n)
      (steps.MakeFile (g k) m) = same f g agree in cc (e)))
  paired_of (steps.MakeLink h n text) (steps.MakeLink k m text') same =
      let first : ◌≡◌ {A = StepWith ℕ} (steps.MakeLink 0 n text) (steps.MakeLink 0 m text') =
      same (λ h. 0) (λ h. 0) zero_agrees in
      let names : n ≡ m = cc (first) in
      let texts : text ≡ text' = cc (first) in
      subst (λ m. Paired pairs (steps.MakeLink h n text) (steps.MakeLink k m text')) names
      (subst (λ text'. Paired pairs (steps.MakeLink h n text) (steps.MakeLink k n text')) texts
      (make_link' h k n text
      (λ f g agree. let e : ◌≡◌ {A = StepWith ℕ} (steps.MakeLink (f h) n text) (steps.MakeLink (g k) m text') =
      same f g agree in cc (e))))
  paired_of (steps.RemoveFile h n) (steps.RemoveFile k m) same =
      let first : ◌≡◌ {A = StepWith ℕ} (steps.RemoveFile 0 n) (steps.RemoveFile 0 m) =
      same (λ h. 0) (λ h. 0) zero_agrees in
      let names : n ≡ m = cc (first) in
      subst (λ m. Paired pairs (steps.RemoveFile h n) (steps.RemoveFile k m)) names
      (remove_file' h k n (λ f g agree. let e : ◌≡◌ {A = StepWith ℕ} (steps.RemoveFile (f h) n)
      (steps.RemoveFile (g k) m) = same f g agree in cc (e)))
  paired_of (steps.RemoveDir h n) (steps.RemoveDir k m) same =
      let first : ◌≡◌ {A = StepWith ℕ} (steps.RemoveDir 0 n) (steps.RemoveDir 0 m) =
      same (λ h. 0) (λ h. 0) zero_agrees in
      let names : n ≡ m = cc (first) in
      subst (λ m. Paired pairs (steps.RemoveDir h n) (steps.RemoveDir k m)) names
      (remove_dir' h k n (λ f g agree. let e : ◌≡◌ {A = StepWith ℕ} (steps.RemoveDir (f h) n)
      (steps.RemoveDir (g k) m) = same f g agree in cc (e)))
  paired_of (steps.Rename h n d m mode) (steps.Rename k n' e m' mode') same =
      let first : ◌≡◌ {A = StepWith ℕ} (steps.Rename 0 n 0 m mode) (steps.Rename 0 n' 0 m' mode') =
      same (λ h. 0) (λ h. 0) zero_agrees in
      let old : n ≡ n' = cc (first) in
      let new : m ≡ m' = cc (first) in
      let modes : mode ≡ mode' = cc (first) in
      subst (λ n'. Paired pairs (steps.Rename h n d m mode) (steps.Rename k n' e m' mode')) old
      (subst (λ m'. Paired pairs (steps.Rename h n d m mode) (steps.Rename k n e m' mode')) new
      (subst (λ mode'. Paired pairs (steps.Rename h n d m mode) (steps.Rename k n e m mode')) modes
      (rename' h k n d e m mode
      (λ f g agree. let q : ◌≡◌ {A = StepWith ℕ} (steps.Rename (f h) n (f d) m mode)
      (steps.Rename (g k) n' (g e) m' mode') = same f g agree in cc (q))
      (λ f g agree. let q : ◌≡◌ {A = StepWith ℕ} (steps.Rename (f h) n (f d) m mode)
      (steps.Rename (g k) n' (g e) m' mode') = same f g agree in cc (q)))))
  paired_of x y same = absurd (differ (same (λ h. 0) (λ h. 0) zero_agrees))
    where
      differ : step_by (λ h. 0) x ≡ step_by (λ h. 0) y → ⊥
      differ e = cc (e)

-- ---- what a step comes to in both trees

pub data AlikeEnds (s t : State) (a : ℕ) (pairs : Pairs) : Outcome → Outcome → Type 0 where
  tells : (answer : Answer) → only_tells answer ≡ true → AlikeEnds s t a pairs (answered s answer) (answered t answer)
  opens_on : (x : ℕ) (what : Object)
      → AlikeEnds s t a pairs
      (record { answer = Opened (length s.handles) x (kind_of what); after = with_handle s a x })
      (record { answer = Opened (length t.handles) x (kind_of what); after = with_handle t a x })
  closes : (h k : ℕ) → ((j l : ℕ) → pairs j l ≡ true → (h ≡ j → k ≡ l) × (k ≡ l → h ≡ j))
      → AlikeEnds s t a pairs
      (record { answer = Done; after = record { nodes = s.nodes; handles = slice_set s.handles h None } })
      (record { answer = Done; after = record { nodes = t.nodes; handles = slice_set t.handles k None } })
  changes_to : (nodes : List Inode)
      → AlikeEnds s t a pairs (record { answer = Done; after = record { nodes = nodes; handles = s.handles } })
      (record { answer = Done; after = record { nodes = nodes; handles = t.handles } })

-- of the second tree the handles alone are its own
abbrev pub other : State → List (Option OpenHandle) → State
other s handles = record { nodes = s.nodes; handles = handles }

module _ (pairs : Pairs) (s : State) (handles : List (Option OpenHandle)) (a : ℕ) where
  abbrev pub Ends : Outcome → Outcome → Type 0
  Ends o u = AlikeEnds s (other s handles) a pairs o u

  pub on_both : (o p : Option ℕ) → o ≡ p → (F G : ℕ → Outcome) → ((x : ℕ) → Ends (F x) (G x))
      → Ends (with_some o (refused s BadHandle) F) (with_some p (refused (other s handles) BadHandle) G)
  on_both o p e F G r =
      subst (λ p. Ends (with_some o (refused s BadHandle) F) (with_some p (refused (other s handles) BadHandle) G)) e
      (by o)
    where
      by : (o : Option ℕ) → Ends (with_some o (refused s BadHandle) F)
          (with_some o (refused (other s handles) BadHandle) G)
      by None = tells (Refused BadHandle) refl
      by (Some x) = r x

  pub some_both : {A : Type 0} (o : Option A) (error : Errno) (F G : A → Outcome) → ((x : A) → Ends (F x) (G x))
      → Ends (with_some o (refused s error) F) (with_some o (refused (other s handles) error) G)
  some_both None error F G r = tells (Refused error) refl
  some_both (Some x) error F G r = r x

  pub if_both : (b c : Bool) → b ≡ c → (error : Errno) (o u : Outcome) → Ends o u
      → Ends (refuse_if b (refused s error) o) (refuse_if c (refused (other s handles) error) u)
  if_both true true e error o u r = tells (Refused error) refl
  if_both false false e error o u r = r
  if_both true false e error o u r = absurd (true≢false e)
  if_both false true e error o u r = absurd (false≢true e)

  pub opens_both : is_full s a ≡ is_full (other s handles) a → (x : ℕ)
      → Ends (opens s a x) (opens (other s handles) a x)
  opens_both same x =
      if_both (is_full s a) (is_full (other s handles) a) same TooMany _ _
      (some_both (object_at s.nodes x) NotFound _ _ (λ what. opens_on x what))

  pub reads_both : (o : Option Object) → Ends (reads s o) (reads (other s handles) o)
  reads_both None = tells (Refused Invalid) refl
  reads_both (Some object.Dir) = tells (Refused Invalid) refl
  reads_both (Some object.File) = tells (Refused Invalid) refl
  reads_both (Some (object.Link text)) = tells (Text text) refl

  pub shows_both : (names : Option (List (List ℕ))) → Ends (shows s names) (shows (other s handles) names)
  shows_both None = tells NotBelow refl
  shows_both (Some names) = tells (Names (reverse names)) refl

  pub changes_both : (changed : Result (List Inode) Errno)
      → Ends (changes s changed) (changes (other s handles) changed)
  changes_both (Err error) = tells (Refused error) refl
  changes_both (Ok nodes) = changes_to nodes

-- ---- the trees after it

-- one pair more
abbrev pub grown : Pairs → ℕ → ℕ → Pairs
grown pairs h k j l = pairs j l || ((j == h) && (l == k))

pub grown_old : (pairs : Pairs) (h k j l : ℕ) → pairs j l ≡ true → grown pairs h k j l ≡ true
grown_old pairs h k j l p = ap (λ b. b || ((j == h) && (l == k))) p

pub grown_cases : (pairs : Pairs) (h k j l : ℕ) → grown pairs h k j l ≡ true → (pairs j l ≡ true) ⊎ ((j ≡ h) × (l ≡ k))
grown_cases pairs h k j l p = by (pairs j l) (j == h) (l == k) refl refl refl p
  where
    by : (b c d : Bool) → pairs j l ≡ b → (j == h) ≡ c → (l == k) ≡ d → (b || (c && d)) ≡ true
        → (pairs j l ≡ true) ⊎ ((j ≡ h) × (l ≡ k))
    by true c d e e' e'' q = inl e
    by false true true e e' e'' q = inr (eqb-true j h e', eqb-true l k e'')
    by false true false e e' e'' q = absurd (false≢true q)
    by false false d e e' e'' q = absurd (false≢true q)

pub grown_new : (pairs : Pairs) (h k : ℕ) → grown pairs h k h k ≡ true
grown_new pairs h k = by (pairs h k) (h == h) (k == k) (eq-eqb h h refl) (eq-eqb k k refl)
  where
    by : (b c d : Bool) → c ≡ true → d ≡ true → (b || (c && d)) ≡ true
    by true c d e e' = refl
    by false c d e e' = λ i. e i && e' i

pub blind_answer : (answer : Answer) → only_tells answer ≡ true → (f : ℕ → ℕ) → answer_by f answer ≡ answer
blind_answer (Opened h x kind) e f = absurd (false≢true e)
blind_answer (Text text) e f = refl
blind_answer (Names names) e f = refl
blind_answer NotBelow e f = refl
blind_answer (Listed names) e f = refl
blind_answer Done e f = refl
blind_answer (Refused error) e f = refl

-- ---- the counts after it

blind_close : (f : ℕ → ℕ) (step : StepWith ℕ) → is_close (step_by f step) ≡ is_close step
blind_close f (steps.Open h n) = refl
blind_close f (steps.Dup h) = refl
blind_close f (steps.Parent h) = refl
blind_close f (steps.ReadLink h) = refl
blind_close f (steps.NameBelow r h) = refl
blind_close f (steps.List h) = refl
blind_close f (steps.Close h) = refl
blind_close f (steps.MakeDir h n) = refl
blind_close f (steps.MakeFile h n) = refl
blind_close f (steps.MakeLink h n text) = refl
blind_close f (steps.RemoveFile h n) = refl
blind_close f (steps.RemoveDir h n) = refl
blind_close f (steps.Rename h n k m mode) = refl

pub same_close : (pairs : Pairs) (x y : StepWith ℕ) → SameSteps pairs x y → is_close x ≡ is_close y
same_close pairs x y same =
    sym (blind_close (λ h. 0) x) ∙ ap is_close (same (λ h. 0) (λ h. 0) (zero_agrees pairs)) ∙ blind_close (λ h. 0) y

abbrev closed_by : Answer → Bool → ℕ
closed_by Done true = 1
closed_by answer is_one = 0

closed_is : (answer : Answer) (step : StepWith ℕ) → closed_count answer step ≡ closed_by answer (is_close step)
closed_is Done (steps.Close h) = refl
closed_is Done (steps.Open h n) = refl
closed_is Done (steps.Dup h) = refl
closed_is Done (steps.Parent h) = refl
closed_is Done (steps.ReadLink h) = refl
closed_is Done (steps.NameBelow r h) = refl
closed_is Done (steps.List h) = refl
closed_is Done (steps.MakeDir h n) = refl
closed_is Done (steps.MakeFile h n) = refl
closed_is Done (steps.MakeLink h n text) = refl
closed_is Done (steps.RemoveFile h n) = refl
closed_is Done (steps.RemoveDir h n) = refl
closed_is Done (steps.Rename h n k m mode) = refl
closed_is (Opened h x kind) step = refl
closed_is (Text text) step = refl
closed_is (Names names) step = refl
closed_is NotBelow step = refl
closed_is (Listed names) step = refl
closed_is (Refused error) step = refl

closed_same : (answer : Answer) (x y : StepWith ℕ) → is_close x ≡ is_close y
    → closed_count answer x ≡ closed_count answer y
closed_same answer x y e = closed_is answer x ∙ ap (closed_by answer) e ∙ sym (closed_is answer y)

pub counts_alike : {pairs : Pairs} {s t : State} {a : ℕ} {o u : Outcome} (x y : StepWith ℕ) → is_close x ≡ is_close y
    → AlikeEnds s t a pairs o u
    → (opened_count o.answer ≡ opened_count u.answer) × (closed_count o.answer x ≡ closed_count u.answer y)
counts_alike x y e (tells answer e') = (refl, closed_same answer x y e)
counts_alike x y e (opens_on z what) = (refl, refl)
counts_alike x y e (closes h k both) = (refl, closed_same Done x y e)
counts_alike x y e (changes_to nodes) = (refl, closed_same Done x y e)
