-- The names of a path's rest, those that are expected at the end, and what the answers make of the next one.
use Rattle.std.specs.Prelude.{◌≡◌, ◌≢◌, ℕ, zero, suc, ◌<◌, List, [], ◌∷◌, ◌++◌, Bool, true, false, length, take, drop, reverse, slice_get, Option, Some, None, if◌then◌else◌, refl}
use Rattle.std.proofs.Common.{◌+◌, sym, ap, subst, ◌∙◌, not-suc-le-zero, le_of_suc-le-suc}
use Rattle.std.proofs.lemmas.List.{drop_more, reverse-append, reverse-reverse}
use Rattle.std.proofs.lemmas.Option.{same_Some, slice_get_within, get_or_from_slice_get}
use Rattle.path_text.specs.declared.errno.Errno.{Errno}
use Rattle.path_text.specs.declared.errno.Errno.TheVariants.{Exists, NotDir, Raced, NoMemory}
use Rattle.path_text.specs.declared.part.Part.{Part}
use Rattle.path_text.specs.Name.{is_component, component_fault, name_fault}
use Rattle.path_text.specs.Names.{same_names}
use Rattle.tree_model.specs.declared.answer.Answer.{Answer}
use Rattle.tree_model.specs.declared.answer.Answer.TheVariants.{Opened, Text, Names, NotBelow, Listed, Done, Refused}
use Rattle.handles.specs.declared.owner.Owner.{Owner}
use Rattle.handles.specs.Objects.{ReachedObject, StandingObject, reached_by}
use Rattle.handles.proofs.SameNames.{other_where_not}
use Rattle.step_resolver.specs.Asked.{asked}
use Rattle.step_resolver.specs.Meaning.{is_too_long}
use Rattle.step_resolver.specs.Order.{Way, Handle, refusal_of, is_dir_kind}
use Rattle.step_resolver.specs.View.{handle_of, check_refusal}
use Rattle.step_resolver.specs.TurnView.{standing_handle}
use Rattle.step_resolver.proofs.Meaning.PlainResolution.{asked_true}
use Rattle.bulk_ops.specs.MakeAllOrder.{Making, making, opening, leaving, ending, MakeTurn, more, made, rest_fault, rest_names, gives_up, goes_down, begins_to_make, raced_if_missing, refused_make, enters}
use Rattle.bulk_ops.specs.MakeAllOrder.{take as takes}
use Rattle.bulk_ops.specs.MakeAllView.{MakingView, IsTurn, at_next, gone_into, passed, to_come, fault_in, names_in}
use Rattle.bulk_ops.specs.declared.make_all.Chain.{Chain}
use Rattle.bulk_ops.specs.declared.turn.BulkTurn.{BulkTurn}

-- ---- the rest

-- the rest of the caller's parts, as they were asked
pub fault_asked : (rest : List Part) → rest_fault (asked true rest) ≡ fault_in rest
fault_asked rest = ap rest_fault (asked_true rest)

pub names_asked : (rest : List Part) → rest_names (asked true rest) ≡ names_in rest
names_asked rest = ap rest_names (asked_true rest)

-- a part that isn't too long is a name
pub named : (n : List ℕ) → component_fault n ≡ None → is_too_long n ≡ false → name_fault n ≡ None
named n whole short = on (is_component n) refl
  where
    on : (b : Bool) → is_component n ≡ b → name_fault n ≡ None
    on true e = rw (e, short) refl
    on false e = cc (rw e at whole)

-- what is left of the rest begins with the part at that place
pub part_at : (rest : List Part) (at : ℕ) (p : Part) → slice_get rest at ≡ Some p → drop at rest ≡ p ∷ drop (at + 1) rest
part_at rest at p e = drop_more rest at p (slice_get_within rest at p e) ∙ ap (λ (q : Part). q ∷ drop (at + 1) rest) (get_or_from_slice_get rest at p p e)

-- one more name, which is the next
pub name_added : (names : List (List ℕ)) (n : List ℕ) (left : List (List ℕ)) → (names ++ n ∷ []) ++ left ≡ names ++ n ∷ left
name_added [] n left = refl
name_added (first ∷ names) n left = ap (λ (ns : List (List ℕ)). first ∷ ns) (name_added names n left)

-- ---- the next name

taken : (xs ys : List (List ℕ)) → take (length xs) (xs ++ ys) ≡ xs
taken [] ys = refl
taken (x ∷ xs) ys = ap (λ (zs : List (List ℕ)). x ∷ zs) (taken xs ys)

dropped : (xs ys : List (List ℕ)) → drop (length xs) (xs ++ ys) ≡ ys
dropped [] ys = refl
dropped (x ∷ xs) ys = dropped xs ys

pub record IsNext (k : ℕ) (xs : List (List ℕ)) : Type 0 where
  pub name : List ℕ
  pub is : slice_get xs k ≡ Some name
  pub left : drop k xs ≡ name ∷ drop (suc k) xs
  pub passes : reverse (take (suc k) xs) ≡ name ∷ reverse (take k xs)

next_taken : (k : ℕ) (xs : List (List ℕ)) → k < length xs
    → (name : List ℕ) × (slice_get xs k ≡ Some name) × (drop k xs ≡ name ∷ drop (suc k) xs) × (take (suc k) xs ≡ take k xs ++ name ∷ [])
next_taken k [] less = absurd (not-suc-le-zero less)
next_taken zero (x ∷ xs) less = (x, refl, refl, refl)
next_taken (suc k) (x ∷ xs) less =
    let next = next_taken k xs (le_of_suc-le-suc less) in
    (next.0, next.1, next.2, ap (λ (ys : List (List ℕ)). x ∷ ys) next.3)

pub next_of : (k : ℕ) (xs : List (List ℕ)) → k < length xs → IsNext k xs
next_of k xs less =
    let next = next_taken k xs less in
    record { name = next.0; is = next.1; left = next.2; passes = ap reverse next.3 ∙ reverse-append (take k xs) (next.0 ∷ []) }

pub comes_next : (k : ℕ) (xs : List (List ℕ)) (name : List ℕ) → k < length xs → slice_get xs k ≡ Some name → drop k xs ≡ name ∷ drop (suc k) xs
comes_next k xs name less e =
    let next = next_of k xs less in
    next.left ∙ ap (λ (n : List ℕ). n ∷ drop (suc k) xs) (same_Some next.name name (sym next.is ∙ e))

-- ---- what is due

-- ---- turns

pub same_turn : (result : BulkTurn MakingView) {t u : MakeTurn} → t ≡ u → IsTurn result t → IsTurn result u
same_turn result e is = subst (IsTurn result) e is

refusal_made : (held : Handle) (names : List (List ℕ)) (n : List ℕ) (left : List (List ℕ)) (error : Errno) → error ≢ Exists
    → refused_make held names n left error ≡ gives_up (held.number ∷ []) (raced_if_missing error)
refusal_made held names n left Exists ne = absurd (ne refl)
refusal_made held names n left error ne = refl

made_otherwise : (way : Way) (held : Handle) (names : List (List ℕ)) (n : List ℕ) (left : List (List ℕ)) (answer : Answer) → answer ≢ Done
    → takes way true (making held names n left) answer ≡ refused_make held names n left (refusal_of answer)
made_otherwise way held names n left Done ne = absurd (ne refl)
made_otherwise way held names n left answer ne = refl

reached_is : (owner : Owner) (answer : Answer) (new : ReachedObject) → Some new ≡ reached_by owner answer → answer ≡ Opened new.handle new.node new.kind
reached_is owner (Opened h x k) new e = ap (λ (o : ReachedObject). Opened o.handle o.node o.kind) (same_Some _ _ (sym e))
reached_is owner (Text text) new e = cc (e)
reached_is owner (Names names) new e = cc (e)
reached_is owner NotBelow new e = cc (e)
reached_is owner (Listed names) new e = cc (e)
reached_is owner Done new e = cc (e)
reached_is owner (Refused error) new e = cc (e)

unreached : (way : Way) (held : Handle) (names : List (List ℕ)) (n : List ℕ) (left : List (List ℕ)) (owner : Owner) (answer : Answer) → None ≡ reached_by owner answer
    → takes way true (opening held names n left) answer ≡ gives_up (held.number ∷ []) (raced_if_missing (refusal_of answer))
unreached way held names n left owner (Opened h x k) e = cc (e)
unreached way held names n left owner answer e = refl

module _ (way : Way) (held : ReachedObject) (chain : Chain) (less : chain.done < length chain.names) where
  abbrev handle : Handle
  handle = handle_of held

  abbrev names : List (List ℕ)
  names = passed chain

  abbrev at_making : Making
  at_making = at_next (making handle names) handle names (to_come chain)

  abbrev at_opening : Making
  at_opening = at_next (opening handle names) handle names (to_come chain)

  next : IsNext chain.done chain.names
  next = next_of chain.done chain.names less

  is_making : at_making ≡ making handle names next.name (drop (suc chain.done) chain.names)
  is_making = ap (λ (ns : List (List ℕ)). at_next (making handle names) handle names ns) next.left

  is_opening : at_opening ≡ opening handle names next.name (drop (suc chain.done) chain.names)
  is_opening = ap (λ (ns : List (List ℕ)). at_next (opening handle names) handle names ns) next.left

  pub name_made : (answer : Answer) → answer ≡ Done → more at_opening ≡ takes way true at_making answer
  name_made answer e =
      ap (λ (m : Making). more m) is_opening ∙ ap (λ (a : Answer). takes way true (making handle names next.name (drop (suc chain.done) chain.names)) a) (sym e)
      ∙ ap (λ (m : Making). takes way true m answer) (sym is_making)

  pub name_there : (answer : Answer) (error : Errno) → answer ≢ Done → error ≡ refusal_of answer → error ≡ Exists → more at_opening ≡ takes way true at_making answer
  name_there answer error ne e exists =
      ap (λ (m : Making). more m) is_opening ∙ ap (λ (x : Errno). refused_make handle names next.name (drop (suc chain.done) chain.names) x) (sym exists ∙ e)
      ∙ sym (made_otherwise way handle names next.name (drop (suc chain.done) chain.names) answer ne)
      ∙ ap (λ (m : Making). takes way true m answer) (sym is_making)

  pub name_refused : (answer : Answer) (error : Errno) → answer ≢ Done → error ≡ refusal_of answer → error ≢ Exists
      → gives_up (held.handle ∷ []) (raced_if_missing error) ≡ takes way true at_making answer
  name_refused answer error ne e other =
      sym (refusal_made handle names next.name (drop (suc chain.done) chain.names) error other)
      ∙ ap (λ (x : Errno). refused_make handle names next.name (drop (suc chain.done) chain.names) x) e
      ∙ sym (made_otherwise way handle names next.name (drop (suc chain.done) chain.names) answer ne)
      ∙ ap (λ (m : Making). takes way true m answer) (sym is_making)

  pub name_unopened : (owner : Owner) (answer : Answer) → None ≡ reached_by owner answer → gives_up (held.handle ∷ []) (raced_if_missing (refusal_of answer)) ≡ takes way true at_opening answer
  name_unopened owner answer e =
      sym (unreached way handle names next.name (drop (suc chain.done) chain.names) owner answer e) ∙ ap (λ (m : Making). takes way true m answer) (sym is_opening)

  opened_takes : (owner : Owner) (answer : Answer) (new : ReachedObject) → Some new ≡ reached_by owner answer
      → takes way true at_opening answer ≡ enters handle names next.name (drop (suc chain.done) chain.names) (handle_of new)
  opened_takes owner answer new e =
      ap (λ (a : Answer). takes way true at_opening a) (reached_is owner answer new e)
      ∙ ap (λ (m : Making). takes way true m (Opened new.handle new.node new.kind)) is_opening

  pub dir_opened : (owner : Owner) (answer : Answer) (new : ReachedObject) → Some new ≡ reached_by owner answer → is_dir_kind new.kind ≡ true
      → more (gone_into held new chain) ≡ takes way true at_opening answer
  dir_opened owner answer new e dir =
      ap (λ (ns : List (List ℕ)). more (leaving held.handle (handle_of new) ns (drop (suc chain.done) chain.names))) next.passes
      ∙ sym (ap (λ b. if b then more (leaving held.handle (handle_of new) (next.name ∷ names) (drop (suc chain.done) chain.names)) else gives_up (new.handle ∷ held.handle ∷ []) NotDir) dir)
      ∙ sym (opened_takes owner answer new e)

  pub other_opened : (owner : Owner) (answer : Answer) (new : ReachedObject) → Some new ≡ reached_by owner answer → is_dir_kind new.kind ≡ false
      → gives_up (new.handle ∷ held.handle ∷ []) NotDir ≡ takes way true at_opening answer
  other_opened owner answer new e ne =
      sym (ap (λ b. if b then more (leaving held.handle (handle_of new) (next.name ∷ names) (drop (suc chain.done) chain.names)) else gives_up (new.handle ∷ held.handle ∷ []) NotDir) ne)
      ∙ sym (opened_takes owner answer new e)

-- ---- the last directory

pub ended_raced : (way : Way) (held : ReachedObject) (all : List (List ℕ)) (answer : Answer) → answer ≢ Names all
    → gives_up (held.handle ∷ []) (check_refusal answer) ≡ takes way true (ending (handle_of held) (reverse all)) answer
ended_raced way held all (Names told) other =
    sym (ap (λ b. if b then made (handle_of held) (reverse all) else gives_up (held.handle ∷ []) Raced)
    (ap (same_names told) (reverse-reverse all) ∙ other_where_not told all (λ e. other (ap (λ (ns : List (List ℕ)). Names ns) e))))
ended_raced way held all NotBelow other = refl
ended_raced way held all (Opened h x k) other = refl
ended_raced way held all (Text text) other = refl
ended_raced way held all (Listed told) other = refl
ended_raced way held all Done other = refl
ended_raced way held all (Refused error) other = refl

-- ---- the rest of the path

module _ (deepest : StandingObject) (rest : List Part) where
  abbrev begun : Bool → MakeTurn
  begun room = begins_to_make room (standing_handle deepest) (reverse deepest.names) (asked true rest) (rest_fault (asked true rest))

  pub rest_refused : (fault : Errno) → Some fault ≡ fault_in rest → gives_up (deepest.handle ∷ []) fault ≡ begun true
  rest_refused fault e =
      sym (ap (λ (f : Option Errno). begins_to_make true (standing_handle deepest) (reverse deepest.names) (asked true rest) f) (fault_asked rest ∙ sym e))

  pub rest_unheld : None ≡ fault_in rest → gives_up (deepest.handle ∷ []) NoMemory ≡ begun false
  rest_unheld e =
      sym (ap (λ (f : Option Errno). begins_to_make false (standing_handle deepest) (reverse deepest.names) (asked true rest) f) (fault_asked rest ∙ sym e))

  pub rest_held : (chain : Chain) → None ≡ fault_in rest → chain.names ≡ deepest.names ++ names_in rest → chain.done ≡ length deepest.names
      → goes_down (standing_handle deepest) (passed chain) (to_come chain) ≡ begun true
  rest_held chain e names done =
      let passed_is : passed chain ≡ reverse deepest.names =
      ap (λ (k : ℕ). reverse (take k chain.names)) done ∙ ap (λ (ns : List (List ℕ)). reverse (take (length deepest.names) ns)) names
      ∙ ap reverse (taken deepest.names (names_in rest)) in
      let left_is : to_come chain ≡ names_in rest =
      ap (λ (k : ℕ). drop k chain.names) done ∙ ap (λ (ns : List (List ℕ)). drop (length deepest.names) ns) names ∙ dropped deepest.names (names_in rest) in
      ap (λ (ns : List (List ℕ)). goes_down (standing_handle deepest) ns (to_come chain)) passed_is
      ∙ ap (λ (ns : List (List ℕ)). goes_down (standing_handle deepest) (reverse deepest.names) ns) (left_is ∙ sym (names_asked rest))
      ∙ sym (ap (λ (f : Option Errno). begins_to_make true (standing_handle deepest) (reverse deepest.names) (asked true rest) f) (fault_asked rest ∙ sym e))
