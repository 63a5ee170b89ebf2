-- From what a call of a walk's plan or of a handle said to what the order of steps makes of the answer.
use Rattle.std.specs.Prelude.{◌≡◌, ◌≢◌, ℕ, ◌-◌, List, [], ◌∷◌, ◌++◌, Bool, true, false, ◌&&◌, ◌==◌, reverse, Option, Some, None, unwrap_or, if◌then◌else◌, refl}
use Rattle.std.proofs.Common.{ap, subst, ◌∙◌, arith}
use Rattle.std.proofs.lemmas.List.{reverse-reverse, reverse-append, map-append}
use Rattle.std.proofs.lemmas.Bool.Decides.{nat_tests}
use Rattle.path_text.specs.declared.errno.Errno.{Errno}
use Rattle.path_text.specs.declared.errno.Errno.TheVariants.{NotFound, NoMemory, CrossRoot}
use Rattle.path_text.specs.Text.{text_fault, parts_of, begins_with_slash}
use Rattle.path_text.specs.Names.{same_names}
use Rattle.tree_model.specs.declared.answer.Answer.{Answer}
use Rattle.tree_model.specs.declared.answer.Answer.TheVariants.{Opened, Text, Names, NotBelow, Listed, Done, Refused}
use Rattle.handles.specs.Objects.{ReachedObject}
use Rattle.handles.proofs.SameNames.{same_where_equal, other_where_not}
use Rattle.walk_plan.specs.declared.goal.Goal.{Goal}
use Rattle.walk_plan.specs.declared.goal.Goal.TheVariants.{Follow, NoFollow, Deepest}
use Rattle.walk_plan.specs.Plan.{PlanState, after_first, stayed, through, through_fault, first_fault, leads_out}
use Rattle.step_resolver.specs.Asked.{AskedPart, ask, followed, is_deepest}
use Rattle.step_resolver.specs.Order.{Way, Position, root_itself, holds, Todo, todo, gives, onward, Walking, reading, judging, ending, more, closing, goes_on, handles_of, gives_up, refusal_of, refused_open, from_link, take}
use Rattle.step_resolver.specs.declared.walk.Root.{Root}
use Rattle.step_resolver.specs.View.{way_of, handle_of, place_of, numbers_of, todo_of, check_refusal, MayFollow}
use Rattle.step_resolver.proofs.WalkParts.{handles_at}

-- ---- a name that wasn't opened

not_its_end : (goal : Goal) (own : Bool) → (goal ≡ Deepest → own ≡ false) → (is_deepest goal && own) ≡ false
not_its_end Follow own otherwise = refl
not_its_end NoFollow own otherwise = refl
not_its_end Deepest own otherwise = otherwise refl

-- only a missing name of the caller's own is where the deepest directory ends
pub refused_otherwise : (way : Way) (position : Position) (own follow : Bool) (n : List ℕ) (rest : Todo) (error : Errno)
    → (error ≡ NotFound → way.goal ≡ Deepest → own ≡ false) → refused_open way position own follow n rest error ≡ gives_up (handles_of position) error
refused_otherwise way position own follow n (todo inner rest b) NotFound otherwise = rw (not_its_end way.goal own (otherwise refl)) refl
refused_otherwise way position own follow n (todo inner rest b) _ otherwise = refl

-- ---- a check that failed

other_names : (told names : List (List ℕ)) → Names told ≢ Names names → same_names told (reverse (reverse names)) ≡ false
other_names told names other = rw (reverse-reverse names) (other_where_not told names (λ e. other (ap (λ (ns : List (List ℕ)). Names ns) e)))

pub judging_fails : (way : Way) (o : ReachedObject) (names : List (List ℕ)) (rest : Todo) (answer : Answer) → answer ≢ Names names
    → take way true (judging (handle_of o) (reverse names) rest) answer ≡ more (closing o.handle [] (gives (check_refusal answer)))
judging_fails way o names rest (Names told) other = rw (other_names told names other) refl
judging_fails way o names rest NotBelow other = refl
judging_fails way o names rest (Opened h x kind) other = refl
judging_fails way o names rest (Text text) other = refl
judging_fails way o names rest (Listed told) other = refl
judging_fails way o names rest Done other = refl
judging_fails way o names rest (Refused error) other = refl

pub ending_fails : (way : Way) (o : ReachedObject) (names : List (List ℕ)) (rest : List AskedPart) (answer : Answer) → answer ≢ Names names
    → take way true (ending (handle_of o) (reverse names) rest) answer ≡ more (closing o.handle [] (gives (check_refusal answer)))
ending_fails way o names rest (Names told) other = rw (other_names told names other) refl
ending_fails way o names rest NotBelow other = refl
ending_fails way o names rest (Opened h x kind) other = refl
ending_fails way o names rest (Text text) other = refl
ending_fails way o names rest (Listed told) other = refl
ending_fails way o names rest Done other = refl
ending_fails way o names rest (Refused error) other = refl

-- ---- a check that was passed

own_names : (names : List (List ℕ)) → same_names names (reverse (reverse names)) ≡ true
own_names names = rw (reverse-reverse names) (same_where_equal names names refl)

pub judging_stands : (way : Way) (o : ReachedObject) (names : List (List ℕ)) (rest : Todo)
    → take way true (judging (handle_of o) (reverse names) rest) (Names names) ≡ goes_on way (holds (handle_of o) (reverse names)) rest
judging_stands way o names rest = rw (own_names names) refl

-- ---- a link's text

-- the walk at a link at the plan's next part
abbrev pub reading_at : Option ReachedObject → ReachedObject → PlanState → Walking
reading_at place link p = reading (place_of place p.names) (handle_of link) (todo_of (record (stayed p) { links_left = p.links_left - 1 }))

-- what keeps a link that may be followed from being followed
fault_of : (p : PlanState) (text : List ℕ) → MayFollow p
    → through_fault p text ≡ first_fault (text_fault text) (if leads_out (begins_with_slash text) p.flags then Some CrossRoot else None)
fault_of p text may =
    let left : (p.links_left == 0) ≡ false = grind (arith, nat_tests) in
    rw (may.allowed, left) refl

module _ (root : Root) (place : Option ReachedObject) (link : ReachedObject) (p : PlanState) (text : List ℕ) where
  -- by the text's fault, and whether it leads out
  refuses : (fault : Option Errno) (out : Bool) → text_fault text ≡ fault → leads_out (begins_with_slash text) p.flags ≡ out
      → take (way_of root p) false (reading_at place link p) (Text text)
      ≡ more (closing link.handle (handles_of (place_of place p.names)) (gives (unwrap_or (first_fault fault (if out then Some CrossRoot else None)) NoMemory)))
  refuses (Some fault) out e f = rw e refl
  refuses None true e f = rw (e, f) refl
  refuses None false e f = rw (e, f) (without_room (begins_with_slash text)) where
    without_room : (absolute : Bool)
        → from_link (way_of root p) false (place_of place p.names) (handle_of link) absolute (followed (parts_of text)) (todo_of (record (stayed p) { links_left = p.links_left - 1 }))
        ≡ gives_up (link.handle ∷ handles_of (place_of place p.names)) NoMemory
    without_room true = refl
    without_room false = refl

  pub read_refused : MayFollow p
      → take (way_of root p) false (reading_at place link p) (Text text)
      ≡ more (closing link.handle (numbers_of place) (gives (unwrap_or (through_fault p text) NoMemory)))
  read_refused may =
      rw (fault_of p text may, ← handles_at place p.names) (refuses (text_fault text) (leads_out (begins_with_slash text) p.flags) refl refl)

  -- a text without fault that doesn't lead out
  pub read_followed : MayFollow p → through_fault p text ≡ None
      → take (way_of root p) true (reading_at place link p) (Text text)
      ≡ from_link (way_of root p) true (place_of place p.names) (handle_of link) (begins_with_slash text) (followed (parts_of text)) (todo_of (record (stayed p) { links_left = p.links_left - 1 }))
  read_followed may none = by_fault (text_fault text) (leads_out (begins_with_slash text) p.flags) refl refl (subst Faultless (fault_of p text may) none) where
    Faultless : Option Errno → Type 0
    Faultless fault = fault ≡ None

    by_fault : (fault : Option Errno) (out : Bool) → text_fault text ≡ fault → leads_out (begins_with_slash text) p.flags ≡ out → first_fault fault (if out then Some CrossRoot else None) ≡ None
        → take (way_of root p) true (reading_at place link p) (Text text)
        ≡ from_link (way_of root p) true (place_of place p.names) (handle_of link) (begins_with_slash text) (followed (parts_of text)) (todo_of (record (stayed p) { links_left = p.links_left - 1 }))
    by_fault (Some fault) out e f h = cc (h)
    by_fault None true e f h = cc (h)
    by_fault None false e f h = rw (e, f) refl

  pub read_from_root : MayFollow p → through_fault p text ≡ None → begins_with_slash text ≡ true
      → take (way_of root p) true (reading_at place link p) (Text text)
      ≡ more (closing link.handle (numbers_of place) (onward root_itself (todo_of (through p text))))
  read_from_root may none absolute =
      read_followed may none ∙ rw (absolute, ← handles_at place p.names, map-append (ask true) (parts_of text) (after_first p.inner)) refl

  pub read_from_here : MayFollow p → through_fault p text ≡ None → begins_with_slash text ≡ false
      → take (way_of root p) true (reading_at place link p) (Text text)
      ≡ more (closing link.handle [] (onward (place_of place (through p text).names) (todo_of (through p text))))
  read_from_here may none relative =
      read_followed may none ∙ rw (relative, map-append (ask true) (parts_of text) (after_first p.inner)) refl

pub unread : (root : Root) (place : Option ReachedObject) (link : ReachedObject) (p : PlanState) (answer : Answer) → ((text : List ℕ) → answer ≢ Text text)
    → take (way_of root p) true (reading_at place link p) answer ≡ more (closing link.handle (numbers_of place) (gives (refusal_of answer)))
unread root place link p answer other = rw (← handles_at place p.names) (by_answer answer other) where
  by_answer : (answer : Answer) → ((text : List ℕ) → answer ≢ Text text)
      → take (way_of root p) true (reading_at place link p) answer ≡ more (closing link.handle (handles_of (place_of place p.names)) (gives (refusal_of answer)))
  by_answer (Text text) other = absurd (other text refl)
  by_answer NotBelow other = refl
  by_answer (Names told) other = refl
  by_answer (Opened h x kind) other = refl
  by_answer (Listed told) other = refl
  by_answer Done other = refl
  by_answer (Refused error) other = refl

-- ---- a name that was passed

pub name_passed : (names : List (List ℕ)) (n : List ℕ) → reverse (names ++ n ∷ []) ≡ n ∷ reverse names
name_passed names n = reverse-append names (n ∷ [])

-- a link's text, read or not
pub ruleset texts_read = (read_refused, read_from_root, read_from_here, unread)
