-- How many lists come to what looks the same, one outcome after another, and a table of it.
use Rattle.std.proofs.Common.{◌≡◌, ℕ, ◌+◌, ◌<◌, ◌≤◌, Bor, Bool, true, false, cond, List, [], ◌∷◌, ◌++◌, length, take, drop, get_or, refl, sym, ap, ◌∙◌, arith}
use Rattle.std.specs.HashMap.{HashMap, Updates, UpdatesBy}
use Rattle.std.specs.List.{list_any}
use Rattle.std.specs.Prelude.{◌||◌, min, not, sum_by, if◌then◌else◌, is_some, unwrap_or, Option, Some, None}
use Rattle.std.proofs.lemmas.List.Folds.{list_any-append, list_any_at}
use Rattle.std.proofs.lemmas.List.Sums.{sum_by-append}
use Rattle.std.proofs.lemmas.Option.{same_Some}
use Rattle.std.proofs.lemmas.Slice.Eq.{bytes_eq-Decides}
use Rattle.path_text.specs.Name.{same_bytes}
use Rattle.outcome_text.specs.declared.counts.TheConstants.{COUNT_MAX}
use Rattle.outcome_text.specs.declared.survey.Told.{Told}
use Rattle.outcome_text.specs.Looks.{has_look, lists_of, entry_of, AreSums, AreLeft}
use Rattle.outcome_text.specs.Survey.{lists_where, lists_to, is_new, new_among}
use Rattle.outcome_text.proofs.NewOnes.{new_at}

-- where none passes there are no lists
none_there : (p : Told → Bool) (all : List Told) → list_any p all ≡ false → sum_by (λ t. if p t then t.lists else 0) all ≡ 0
none_there p [] e = refl
none_there p (t ∷ all) e = grind (arith, none_there p all)

abbrev lists_if : (Told → Bool) → List Told → Option ℕ
lists_if p all = if list_any p all then Some (lists_where p all) else None

-- one more that passes adds its lists, and any other changes nothing
more_lists : (p : Told → Bool) (all : List Told) (told : Told)
    → lists_if p (all ++ told ∷ []) ≡ (if p told then Some (min (unwrap_or (lists_if p all) 0 + told.lists) COUNT_MAX) else lists_if p all)
more_lists p all told =
    ap (λ (b : Bool). if b then Some (min (sum_by weight (all ++ told ∷ [])) COUNT_MAX) else None) (list_any-append p all (told ∷ []))
    ∙ ap (λ (n : ℕ). if (list_any p all || (p told || false)) then Some (min n COUNT_MAX) else None) (sum_by-append weight all (told ∷ []))
    ∙ by (p told) (list_any p all) refl
  where
    weight : Told → ℕ
    weight t = if p t then t.lists else 0

    by : (b a : Bool) → list_any p all ≡ a
        → (if (a || (b || false)) then Some (min (sum_by weight all + (0 + (if b then told.lists else 0))) COUNT_MAX) else None)
        ≡ (if b then Some (min (unwrap_or (if a then Some (min (sum_by weight all) COUNT_MAX) else None) 0 + told.lists) COUNT_MAX) else (if a then Some (min (sum_by weight all) COUNT_MAX) else None))
    by true true e = ap (λ (n : ℕ). Some n) (omega arith)
    by true false e = let none : sum_by weight all ≡ 0 = none_there p all e in ap (λ (n : ℕ). Some n) (omega (arith, none))
    by false true e = ap (λ (n : ℕ). Some n) (omega arith)
    by false false e = refl

-- they are never more than the bound
pub few_lists : (all : List Told) (look : List ℕ) → unwrap_or (lists_of all look) 0 ≤ COUNT_MAX
few_lists all look = by (list_any (has_look look) all)
  where
    by : (b : Bool) → unwrap_or (if b then Some (lists_where (has_look look) all) else None) 0 ≤ COUNT_MAX
    by true = omega arith
    by false = omega arith

module _ {S : Type 0} (old new : HashMap (Bor (List ℕ)) ℕ S) (told : Told) (key : Bor (List ℕ)) (is : key.now ≡ told.look) where
  -- the table has one more outcome's lists
  pub sums_more : (all : List Told) (lists : ℕ) → AreSums old all → lists ≡ min (unwrap_or (entry_of old key) 0 + told.lists) COUNT_MAX
      → Updates (λ x y. same_bytes x.now y.now) old new key (Some lists) → AreSums new (all ++ told ∷ [])
  sums_more all lists sums counted updates q =
      updates.0 q ∙ ap (λ (look : List ℕ). cond (same_bytes look q.now) (Some lists) (entry_of old q)) is
      ∙ by (same_bytes told.look q.now) refl ∙ sym (more_lists (has_look q.now) all told)
    where
      by : (b : Bool) → same_bytes told.look q.now ≡ b
          → cond b (Some lists) (entry_of old q) ≡ (if b then Some (min (unwrap_or (lists_of all q.now) 0 + told.lists) COUNT_MAX) else lists_of all q.now)
      by true e =
          ap (λ (n : ℕ). Some n) (counted ∙ ap (λ (o : Option ℕ). min (unwrap_or o 0 + told.lists) COUNT_MAX)
          (sums key ∙ ap (lists_of all) (is ∙ (bytes_eq-Decides told.look q.now).0 e)))
      by false e = sums q

  -- the table has a look less
  pub left_more : (earlier all : List Told) → AreLeft old earlier all
      → UpdatesBy (λ x y. same_bytes x.now y.now) (λ y. same_bytes key.now y.now) old new None → AreLeft new (earlier ++ told ∷ []) all
  left_more earlier all left updates q =
      updates.0 q ∙ ap (λ (look : List ℕ). cond (same_bytes look q.now) None (entry_of old q)) is
      ∙ by (same_bytes told.look q.now) (list_any (has_look q.now) earlier) (left q)
      ∙ ap (λ (b : Bool). if b then None else lists_of all q.now) (sym (list_any-append (has_look q.now) earlier (told ∷ [])))
    where
      by : (b a : Bool) → entry_of old q ≡ (if a then None else lists_of all q.now)
          → cond b None (entry_of old q) ≡ (if (a || (b || false)) then None else lists_of all q.now)
      by true true e = refl
      by true false e = refl
      by false true e = e
      by false false e = e

  -- what the table has for the look of an outcome, whose turn it is
  pub taken : (all : List Told) (at : ℕ) → at < length all → told ≡ get_or all at told → AreLeft old (take at all) all
      → entry_of old key ≡ (if is_new (take at all) told then Some (lists_to all told) else None)
  taken all at within there left =
      left key ∙ ap (λ (look : List ℕ). if list_any (has_look look) (take at all) then None else lists_of all look) is
      ∙ by (list_any (has_look told.look) (take at all)) ∙ here
    where
      any : list_any (has_look told.look) all ≡ true
      any = list_any_at (has_look told.look) all at told within
          (ap (λ (t : Told). same_bytes t.look told.look) (sym there) ∙ (bytes_eq-Decides told.look told.look).1 refl)

      by : (a : Bool) → (if a then None else lists_of all told.look) ≡ (if not a then lists_of all told.look else None)
      by true = refl
      by false = refl

      here : (if is_new (take at all) told then lists_of all told.look else None) ≡ (if is_new (take at all) told then Some (lists_to all told) else None)
      here = ap (λ (b : Bool). if is_new (take at all) told then (if b then Some (lists_to all told) else None) else None) any

counts_on : (a : Bool) (told : Told) (rest : List Told) (lists n m whole : ℕ) → m ≡ n + (if is_some (if a then Some lists else None) then 0 else 1)
    → n + length ((if not a then told ∷ [] else []) ++ rest) ≡ whole → m + length rest ≡ whole
counts_on true told rest lists n m whole more h = omega (arith, more, h)
counts_on false told rest lists n m whole more h = omega (arith, more, h)

-- as many looks are in the table as are new
pub looks_more : (all : List Told) (at : ℕ) (told : Told) (n m whole : ℕ) → at < length all → told ≡ get_or all at told
    → m ≡ n + (if is_some (lists_of (take at all) told.look) then 0 else 1)
    → n + length (new_among (take at all) (drop at all)) ≡ whole → m + length (new_among (take (at + 1) all) (drop (at + 1) all)) ≡ whole
looks_more all at told n m whole within there more h =
    let rest = new_among (take (at + 1) all) (drop (at + 1) all) in
    counts_on (list_any (has_look told.look) (take at all)) told rest (lists_where (has_look told.look) (take at all)) n m whole more
    (ap (λ (xs : List Told). n + length xs) (sym (new_at all at told within there)) ∙ h)

-- what was taken out of the table tells whether the outcome is new
pub one_taken : (b : Bool) (n lists : ℕ) (there : Option ℕ) → there ≡ (if b then Some n else None) → there ≡ Some lists → (b ≡ true) × (lists ≡ n)
one_taken true n lists there is one = (refl, same_Some lists n (sym one ∙ is))
one_taken false n lists there is one = absurd (cc (is, one))

pub none_taken : (b : Bool) (n : ℕ) (there : Option ℕ) → there ≡ (if b then Some n else None) → there ≡ None → b ≡ false
none_taken true n there is none = absurd (cc (is, none))
none_taken false n there is none = refl
