-- Classes whose least lists are gone through once more are what all lists come to.
use Rattle.std.specs.Prelude.{◌≡◌, ◌<◌, ◌≤◌, ◌+◌, ℕ, Bool, List, true, length, Option, Some, slice_get, slice_set, map}
use Rattle.std.specs.Global.{Vec}
use Rattle.std.specs.Option.{option_map}
use Rattle.std.proofs.Common.{sym, ap, ◌∙◌, subst, ⊎_elim, arith}
use Rattle.std.proofs.lemmas.List.{length-map}
use Rattle.std.proofs.lemmas.Option.{same_Some, slice_get-map, slice_get_within}
use Rattle.layered_search.specs.declared.found.Class.{Class}
use Rattle.layered_search.specs.Found.{view_of, views_of, TellsOutcome, TellOutcomes}
use Rattle.layered_search.specs.Promise as search
use Rattle.layered_search.proofs.Places.{within_some}
use Rattle.path_text.proofs.Lists.{length-slice_set}
use Rattle.schedule_graph.proofs.Spreading.{get_set}
use Rattle.race_core.specs.Worlds.{WorldView}
use Rattle.local_states.specs.Worlds.{EndView, worlds, world_outcomes, after_turns, IsEndOf}
use Rattle.explore.specs.Explored.{Scope, IsAsked, AgreeIn, ClassView, class_of, classes_in, HasClass, cuts, changes, rank, is_at_most}
use Rattle.explore.specs.Promise.{IsMerged, IsMergedClass}
use Rattle.explore.specs.Told.{IsToldBy, AreToldBy}
use Rattle.schedule_graph.specs.Counted.{AreSoMany}

-- a list's place has the same in what is made of each
mapped_at : {A B : Type 0} (f : A → B) (xs : List A) (k : ℕ) (x : A) → slice_get xs k ≡ Some x
    → slice_get (map f xs) k ≡ Some (f x)
mapped_at {A} f xs k x there = slice_get-map f xs k ∙ ap (λ (o : Option A). option_map f o) there

module _ (w : WorldView) (scope : Scope) (counted classes : List (Class EndView)) (lists turns : ℕ)
    (merged : search.IsMerged (worlds scope.outside w) (record { cuts = scope.cuts; begin = scope.begin }) (views_of counted) lists turns)
    (tell : TellOutcomes (worlds scope.outside w) (world_outcomes scope.outside) counted)
    (told : AreToldBy w scope.outside counted classes) where
  -- what is known of a class: what was counted of it, and what it is told as
  record At (k : ℕ) (class : ClassView) : Type 0 where
    one : Class EndView
    new : Class EndView
    is : class_of new ≡ class
    view : slice_get (views_of counted) k ≡ Some (view_of one)
    told_is : IsToldBy w scope.outside one new
    tells : TellsOutcome (worlds scope.outside w) (world_outcomes scope.outside) one

  -- the class that is told has the list that was counted
  turns_at : (k : ℕ) (class : ClassView) (known : At k class) → class.least.turns ≡ known.one.least.items
  turns_at k class known =
      ap (λ (c : ClassView). c.least.turns) (sym known.is) ∙ ap (λ (v : Vec ℕ). v.items) known.told_is.turns

  at : (k : ℕ) (class : ClassView) → slice_get (classes_in classes) k ≡ Some class → At k class
  at k class there =
      let short : k < length classes =
      subst (λ n. k < n) (length-map classes (λ (c : Class EndView). class_of c))
      (slice_get_within (classes_in classes) k class there) in
      let new = within_some classes k short in
      let one = within_some counted k (subst (λ n. k < n) told.many short) in
      record {
        one = one.0;
        new = new.0;
        is = same_Some (class_of new.0) class
            (sym (mapped_at (λ (c : Class EndView). class_of c) classes k new.0 new.1) ∙ there);
        view = mapped_at (λ (c : Class EndView). view_of c) counted k one.0 one.1;
        told_is = told.each k one.0 new.0 one.1 new.1;
        tells = tell k one.0 one.1;
      }

  merged_class : (k : ℕ) (class : ClassView) → At k class → IsMergedClass w scope class
  merged_class k class known =
      let is = merged.each k (view_of known.one) known.view in
      let new = known.new in
      let same : known.one.least.items ≡ new.least.items = ap (λ (v : Vec ℕ). v.items) (sym known.told_is.turns) in
      let end : IsEndOf scope.outside (after_turns w new.least.items) new.outcome =
      subst (λ is. IsEndOf scope.outside (after_turns w is) new.outcome) same (known.told_is.end is.asked.whole) in
      subst (λ c. IsMergedClass w scope c) known.is (record {
        ending = record {
          asked = subst (λ is. IsAsked w scope is) same is.asked;
          ranked = λ i. record {
            cuts = (known.told_is.cuts ∙ (known.tells.cuts ∙ ap (λ is. cuts w is) same)) i;
            changes = (known.told_is.changes ∙ (known.tells.changes ∙ ap (λ is. changes is) same)) i;
            turns = new.least.items;
          };
          report = end.report;
          outside = end.outside;
        };
        least = subst (λ js. (is : List ℕ) → IsAsked w scope is → AgreeIn w scope is js
            → is_at_most (rank w js) (rank w is) ≡ true) same is.least;
        lists = subst (λ n. AreSoMany (λ is. IsAsked w scope is × AgreeIn w scope is new.least.items) n)
            (sym known.told_is.lists)
            (subst (λ js. AreSoMany (λ is. IsAsked w scope is × AgreeIn w scope is js) known.one.lists) same is.lists);
      })

  has_class : (is : List ℕ) → IsAsked w scope is → HasClass w scope (classes_in classes) is
  has_class is asked =
      let has = merged.told is asked in
      let within : has.at < length counted =
      subst (λ n. has.at < n) (length-map counted (λ (class : Class EndView). view_of class))
      (slice_get_within (views_of counted) has.at has.class has.there) in
      let new = within_some classes has.at (subst (λ n. has.at < n) (sym told.many) within) in
      let there = mapped_at (λ (c : Class EndView). class_of c) classes has.at new.0 new.1 in
      let known = at has.at (class_of new.0) there in
      let same : has.class ≡ view_of known.one = same_Some has.class (view_of known.one) (sym has.there ∙ known.view) in
      record {
        at = has.at;
        class = class_of new.0;
        there = there;
        agrees = subst (λ js. AgreeIn w scope is js)
            (ap (λ (c : search.ClassView). c.least) same ∙ sym (turns_at has.at (class_of new.0) known)) has.agrees;
      }

  pub all_merged : IsMerged w scope (classes_in classes) lists turns
  all_merged = record {
    counted = merged.counted;
    longest = merged.longest;
    told = has_class;
    apart = λ k l c d here there agree.
        let one = at k c here in
        let other = at l d there in
        merged.apart k l (view_of one.one) (view_of other.one) one.view other.view
        (subst (λ is. AgreeIn w scope is other.one.least.items) (turns_at k c one)
        (subst (λ js. AgreeIn w scope c.least.turns js) (turns_at l d other) agree));
    each = λ k class there. merged_class k class (at k class there);
  }

-- ---- one class after another

-- the first so many are told, and the others are as they were
pub record AreToldTo (w : WorldView) (outside : Bool) (at : ℕ) (begun now : List (Class EndView)) : Type 0 where
  pub many : length now ≡ length begun
  pub told : (k : ℕ) (one class : Class EndView) → k < at → slice_get begun k ≡ Some one
      → slice_get now k ≡ Some class → IsToldBy w outside one class
  pub rest : (k : ℕ) (one : Class EndView) → at ≤ k → slice_get now k ≡ Some one → slice_get begun k ≡ Some one

-- so it is at the next place, once that class is told
pub told_next : (w : WorldView) (outside : Bool) (at : ℕ) (begun now : List (Class EndView)) (one class : Class EndView)
    → AreToldTo w outside at begun now → slice_get now at ≡ Some one → IsToldBy w outside one class
    → AreToldTo w outside (at + 1) begun (slice_set now at class)
told_next w outside at begun now one class before there is = record {
  many = length-slice_set now at class ∙ before.many;
  told = λ k old new lt here put.
      ⊎_elim
      (λ same.
      let of : one ≡ old =
      same_Some one old (sym (subst (λ n. slice_get begun n ≡ Some one) (sym same.0) (before.rest at one (omega arith) there)) ∙ here) in
      subst (λ c. IsToldBy w outside old c) (sym same.1) (subst (λ c. IsToldBy w outside c class) of is))
      (λ other. let ne = other.0 in before.told k old new (omega (arith, lt, ne)) here other.1)
      (get_set now at k class new put);
  rest = λ k old le put.
      ⊎_elim (λ same. absurd (omega (arith, same.0, le))) (λ other. before.rest k old (omega (arith, le)) other.1)
      (get_set now at k class old put);
}
