-- Parts without a gap among them have each list whose turns can be taken, just once.
use Rattle.std.specs.Prelude.{◌≡◌, ◌<◌, ◌⊎◌, ◌||◌, ◌&&◌, not, ℕ, zero, suc, Bool, true, false, List, [], ◌∷◌, ◌++◌, take, length, nat_eq, slice_get, Some, refl}
use Rattle.std.specs.Global.{Vec}
use Rattle.std.specs.List.{list_any, starts_with}
use Rattle.std.proofs.Common.{◌∙◌, ◌+◌, inl, inr, sym, ap, subst, ⊎_elim, arith, drop}
use Rattle.std.proofs.Math.Bool.{or-true}
use Rattle.std.proofs.Math.Seq.{take-append_seam}
use Rattle.std.proofs.lemmas.Bool.{true≢false, false≢true, and_parts, or_cases, or_parts, not-false, not-true}
use Rattle.std.proofs.lemmas.Bool.Decides.{Decides-eqb}
use Rattle.std.proofs.lemmas.List.{append-nil, append_assoc}
use Rattle.std.proofs.lemmas.Option.{same_Some, none-some}
use Rattle.std.proofs.lemmas.Slice.Eq.{starts_is}
use Rattle.further_world_laws.specs.Parts.{Begins, BeginsWithOne}
use Rattle.merge_laws.specs.Merged.{begins_in}
use Rattle.outcome_text.specs.declared.part.Part.{Part}
use Rattle.outcome_text.specs.Merge.{go_along, goes_along, are_apart, has_lists, is_there, lacks_turn, lacks, has_gap, AreAll}
use Rattle.outcome_text.specs.Tellable.{any_numbered}
use Rattle.schedule_graph.specs.Counted.{IsAmong, EachOnce}

-- the part tells that this actor might have had its turn at that place
abbrev pub MightHave : Part → ℕ → ℕ → Type 0
MightHave part at actor = (might : Vec ℕ) × ((slice_get part.might.items at ≡ Some might) × IsAmong actor might.items)

-- ---- tests

-- a test that passes somewhere
pub found : {A : Type 0} (test : A → Bool) (xs : List A) → list_any test xs ≡ true → (x : A) × (IsAmong x xs × (test x ≡ true))
found test [] e = absurd (false≢true e)
found test (x ∷ xs) e =
    ⊎_elim (λ here. (x, (inl refl, here))) (λ rest. let at = found test xs rest in (at.0, (inr at.1.0, at.1.1)))
    (or_cases (test x) (list_any test xs) e)

-- one that passes nowhere
fails : {A : Type 0} (test : A → Bool) (xs : List A) → list_any test xs ≡ false → (x : A) → IsAmong x xs → test x ≡ false
fails test [] e x h = absurd h
fails test (y ∷ ys) e x h =
    let both = or_parts (test y) (list_any test ys) e in
    ⊎_elim (λ same. ap test same ∙ both.0) (λ rest. fails test ys both.1 x rest) h

-- counted from k on
fails_numbered : {A : Type 0} (test : ℕ → A → Bool) (k : ℕ) (xs : List A) → any_numbered test k xs ≡ false
    → (at n : ℕ) (x : A) → n ≡ at + k → slice_get xs at ≡ Some x → test n x ≡ false
fails_numbered test k [] e at n x same there = absurd (none-some x there)
fails_numbered test k (y ∷ ys) e zero n x same there =
    let first : n ≡ k = omega (arith, same) in
    ap (λ m. test m x) first ∙ (ap (test k) (sym (same_Some y x there)) ∙ (or_parts (test k y) (any_numbered test (suc k) ys) e).0)
fails_numbered test k (y ∷ ys) e (suc at) n x same there =
    fails_numbered test (suc k) ys (or_parts (test k y) (any_numbered test (suc k) ys) e).1 at n x (omega (arith, same)) there

-- ---- lists of which one begins with the other

begins_so : (turns others : List ℕ) → starts_with nat_eq turns others ≡ true → Begins others turns
begins_so turns others e = (drop (length others) turns, (starts_is Decides-eqb turns others (starts_with nat_eq turns others) refl).0 e)

starts_so : (turns others : List ℕ) → Begins others turns → starts_with nat_eq turns others ≡ true
starts_so turns others begins = (starts_is Decides-eqb turns others (starts_with nat_eq turns others) refl).1 begins.0 begins.1

abbrev Along : List ℕ → List ℕ → Type 0
Along begin is = Begins begin is ⊎ Begins is begin

along_so : (begin is : List ℕ) → go_along begin is ≡ true → Along begin is
along_so begin is e =
    ⊎_elim (λ a. inr (begins_so begin is a)) (λ b. inl (begins_so is begin b))
    (or_cases (starts_with nat_eq begin is) (starts_with nat_eq is begin) e)

goes_so : (begin is : List ℕ) → Along begin is → go_along begin is ≡ true
goes_so begin is (inl begins) =
    ap (λ b. starts_with nat_eq begin is || b) (starts_so is begin begins) ∙ or-true (starts_with nat_eq begin is)
goes_so begin is (inr begins) = ap (λ b. b || starts_with nat_eq is begin) (starts_so begin is begins)

-- two beginnings of one list
both_begin : (a b rest more : List ℕ) → a ++ rest ≡ b ++ more → Along a b
both_begin [] b rest more e = inl (b, refl)
both_begin (x ∷ a) [] rest more e = inr (x ∷ a, refl)
both_begin (x ∷ a) (y ∷ b) rest more e =
    let same : x ≡ y = cc in
    ⊎_elim (λ (s : Begins a b). inl (s.0, (λ i. sym same i ∷ s.1 i))) (λ (s : Begins b a). inr (s.0, (λ i. same i ∷ s.1 i)))
    (both_begin a b rest more (cc e))

-- ---- parts

module _ (parts : List Part) where
  -- a part with lists goes along with this list
  pub record IsOnWay (is : List ℕ) : Type 0 where
    part : Part
    among : IsAmong part parts
    lists : has_lists part ≡ true
    along : Along part.begin.items is

  there_so : (is : List ℕ) → is_there parts is ≡ true → IsOnWay is
  there_so is e =
      let at = found (λ part. has_lists part && go_along part.begin.items is) parts e in
      let both = and_parts (has_lists at.0) (go_along at.0.begin.items is) at.1.1 in
      record { part = at.0; among = at.1.0; lists = both.0; along = along_so at.0.begin.items is both.1 }

  -- where some actor might have a turn, there is a part in which he has it
  no_gap : list_any (has_gap parts) parts ≡ false → (part : Part) → IsAmong part parts → (at actor : ℕ) → MightHave part at actor
      → IsOnWay (take at part.begin.items ++ actor ∷ [])
  no_gap gaps part among at actor might =
      let none = fails (has_gap parts) parts gaps part among in
      let here : lacks parts part at might.0 ≡ false =
      fails_numbered (lacks parts part) 0 part.might.items none at at might.0 (omega arith) might.1.0 in
      there_so (take at part.begin.items ++ actor ∷ [])
      (not-false (is_there parts (take at part.begin.items ++ actor ∷ []))
      (fails (lacks_turn parts (take at part.begin.items)) might.0.items here actor might.1.1))

  module _ (Can : List ℕ → ℕ → Type 0) (gaps : list_any (has_gap parts) parts ≡ false)
      (tells : (part : Part) → IsAmong part parts → has_lists part ≡ true → (at actor : ℕ) → at < length part.begin.items
      → Can (take at part.begin.items) actor → MightHave part at actor) where
    longer : (before rest : List ℕ) (a : ℕ) → length before < length (before ++ a ∷ rest)
    longer [] rest a = omega arith
    longer (b ∷ before) rest a = let shorter = longer before rest a in omega (arith, shorter)

    one_turn : (before : List ℕ) (actor : ℕ) → Can before actor → IsOnWay before → IsOnWay (before ++ actor ∷ [])
    one_turn before actor can on = go on.along
      where
        stays : (rest : List ℕ) → before ≡ on.part.begin.items ++ rest → IsOnWay (before ++ actor ∷ [])
        stays rest e = record {
          part = on.part;
          among = on.among;
          lists = on.lists;
          along = inl (rest ++ actor ∷ [], ap (λ is. is ++ actor ∷ []) e ∙ append_assoc on.part.begin.items rest (actor ∷ []));
        }

        go : Along on.part.begin.items before → IsOnWay (before ++ actor ∷ [])
        go (inl begins) = stays begins.0 begins.1
        go (inr ([], e)) = stays [] (sym (append-nil before) ∙ (sym e ∙ sym (append-nil on.part.begin.items)))
        go (inr (b ∷ more, e)) =
            let first : take (length before) on.part.begin.items ≡ before =
            ap (take (length before)) e ∙ take-append_seam before (b ∷ more) in
            let short : length before < length on.part.begin.items =
            subst (λ (is : List ℕ). length before < length is) (sym e) (longer before more b) in
            subst (λ (is : List ℕ). IsOnWay (is ++ actor ∷ [])) first
            (no_gap gaps on.part on.among (length before) actor
            (tells on.part on.among on.lists (length before) actor short (subst (λ (is : List ℕ). Can is actor) (sym first) can)))

    walk : (before rest : List ℕ) → ((first after : List ℕ) (actor : ℕ) → before ++ rest ≡ first ++ actor ∷ after → Can first actor)
        → IsOnWay before → IsOnWay (before ++ rest)
    walk before [] can on = subst IsOnWay (sym (append-nil before)) on
    walk before (actor ∷ rest) can on =
        let same : (before ++ actor ∷ []) ++ rest ≡ before ++ actor ∷ rest = append_assoc before (actor ∷ []) rest in
        subst IsOnWay same
        (walk (before ++ actor ∷ []) rest (λ first after a e. can first after a (sym same ∙ e)) (one_turn before actor (can before rest actor refl) on))

-- ---- each just once

begin_among : (begin : List ℕ) (parts : List Part) → IsAmong begin (begins_in parts) → (part : Part) × (IsAmong part parts × (begin ≡ part.begin.items))
begin_among begin [] h = absurd h
begin_among begin (part ∷ parts) h =
    ⊎_elim (λ e. (part, (inl refl, e))) (λ q. let at = begin_among begin parts q in (at.0, (inr at.1.0, at.1.1))) h

among_begin : (part : Part) (parts : List Part) → IsAmong part parts → IsAmong part.begin.items (begins_in parts)
among_begin part [] h = absurd h
among_begin part (p ∷ parts) h = ⊎_elim (λ e. inl (ap (λ (q : Part). q.begin.items) e)) (λ q. inr (among_begin part parts q)) h

-- no later part goes along with the first
first_apart : (part : Part) (parts : List Part) → are_apart (part ∷ parts) ≡ true → (other : Part) → IsAmong other parts
    → Along part.begin.items other.begin.items → ⊥
first_apart part parts apart other h along =
    let both = and_parts (not (list_any (goes_along part) parts)) (are_apart parts) apart in
    true≢false
    (sym (goes_so part.begin.items other.begin.items along)
    ∙ fails (goes_along part) parts (not-true (list_any (goes_along part) parts) both.0) other h)

turned : (a b : List ℕ) → Along a b → Along b a
turned a b (inl begins) = inr begins
turned a b (inr begins) = inl begins

only_one : (parts : List Part) → are_apart parts ≡ true → (part other : Part) → IsAmong part parts → IsAmong other parts
    → Along part.begin.items other.begin.items → part.begin.items ≡ other.begin.items
only_one [] apart part other h k along = absurd h
only_one (p ∷ parts) apart part other (inl e) (inl f) along = ap (λ (q : Part). q.begin.items) (e ∙ sym f)
only_one (p ∷ parts) apart part other (inl e) (inr k) along =
    absurd (first_apart p parts apart other k (subst (λ (q : Part). Along q.begin.items other.begin.items) e along))
only_one (p ∷ parts) apart part other (inr h) (inl f) along =
    absurd (first_apart p parts apart part h
    (subst (λ (q : Part). Along q.begin.items part.begin.items) f (turned part.begin.items other.begin.items along)))
only_one (p ∷ parts) apart part other (inr h) (inr k) along =
    only_one parts (and_parts (not (list_any (goes_along p) parts)) (are_apart parts) apart).1 part other h k along

pub each_once : (parts : List Part) → are_apart parts ≡ true → EachOnce (begins_in parts)
each_once [] apart = tt
each_once (part ∷ parts) apart = (
  (λ h.
      let at = begin_among part.begin.items parts h in
      first_apart part parts apart at.0 at.1.0
      (inl ([], sym at.1.1 ∙ sym (append-nil part.begin.items)))),
  each_once parts (and_parts (not (list_any (goes_along part) parts)) (are_apart parts) apart).1,
)

module _ (parts : List Part) (Can : List ℕ → ℕ → Type 0) (apart : are_apart parts ≡ true) (all : AreAll parts)
    (tells : (part : Part) → IsAmong part parts → has_lists part ≡ true → (at actor : ℕ) → at < length part.begin.items
    → Can (take at part.begin.items) actor → MightHave part at actor) where
  -- a list of which each turn can be taken, and which no part goes beyond
  pub begins_with_one : (is : List ℕ) → ((before rest : List ℕ) (actor : ℕ) → is ≡ before ++ actor ∷ rest → Can before actor)
      → ((part : Part) → IsAmong part parts → has_lists part ≡ true → Begins is part.begin.items → part.begin.items ≡ is)
      → BeginsWithOne (λ begin. IsAmong begin (begins_in parts)) is
  begins_with_one is can full =
      let some = found has_lists parts all.some in
      let start : IsOnWay parts [] = record { part = some.0; among = some.1.0; lists = some.1.1; along = inr (some.0.begin.items, refl) } in
      let end = walk parts Can all.gaps tells [] is can start in
      let begins : Begins end.part.begin.items is =
      ⊎_elim (λ (b : Begins end.part.begin.items is). b)
      (λ (b : Begins is end.part.begin.items). ([], sym (full end.part end.among end.lists b) ∙ sym (append-nil end.part.begin.items))) end.along in
      record {
        begin = end.part.begin.items;
        chosen = among_begin end.part parts end.among;
        begins = begins;
        only = λ other chosen other_begins.
            let at = begin_among other parts chosen in
            at.1.1
            ∙ only_one parts apart at.0 end.part at.1.0 end.among
            (both_begin at.0.begin.items end.part.begin.items other_begins.0 begins.0
            (ap (λ (b : List ℕ). b ++ other_begins.0) (sym at.1.1) ∙ (sym other_begins.1 ∙ begins.1)));
      }
