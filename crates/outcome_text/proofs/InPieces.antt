-- Outcomes that are told in pieces are told as the whole is.
use Rattle.std.proofs.Common.{◌≡◌, ℕ, suc, ◌+◌, Bool, true, false, cond, List, [], ◌∷◌, ◌++◌, ◌⊎◌, length, refl, sym, ap, ◌∙◌, inl, inr, subst, ⊎_elim, arith}
use Rattle.std.specs.List.{list_any}
use Rattle.std.specs.Prelude.{⊤, ◌||◌, ◌&&◌, not, min, sum_by, filter, find, is_none, nat_lt, if◌then◌else◌, codes, decimal, Option, Some, None}
use Rattle.std.proofs.lemmas.Bool.{false≢true, true≢false, or_right}
use Rattle.std.proofs.lemmas.Bool.Decides.{nat_tests}
use Rattle.std.proofs.lemmas.List.{append-nil}
use Rattle.std.proofs.lemmas.List.Elements.{filter-append}
use Rattle.std.proofs.lemmas.List.Folds.{list_any-append}
use Rattle.std.proofs.lemmas.List.Sums.{sum_by-cons}
use Rattle.std.proofs.lemmas.Slice.Eq.{bytes_eq-Decides}
use Rattle.path_text.specs.Name.{same_bytes}
use Rattle.report_text.specs.Report.{numbered}
use Rattle.schedule_graph.specs.Counted.{IsAmong}
use Rattle.outcome_text.specs.declared.counts.TheConstants.{COUNT_MAX}
use Rattle.outcome_text.specs.declared.property.Property.{Property}
use Rattle.outcome_text.specs.declared.survey.Told.{Told}
use Rattle.outcome_text.specs.Counts.{count_words}
use Rattle.outcome_text.specs.Property.{fails, is_condition, rule_word}
use Rattle.outcome_text.specs.Survey.{block_of, looks_like, is_new, new_among, new_ones, lists_where, lists_to, witness_words, block_words, block_text, blocks_text, breaks, lists_breaking, status_words, property_text, properties_text, holds, all_hold, numbers_text}
use Rattle.outcome_text.specs.Conditions.{is_met, counts, counted, lists_counted, condition_text, conditions_text}
use Rattle.outcome_text.specs.InPieces.{AreAlike, AreOneBut, IsByOutcome, IsAgain, AreFirst, ArePieces, PiecesTellTheWhole}
use Rattle.std.proofs.Math.Bool.{or-false}

-- ---- tests by outcome

by_look : (told : Told) → IsByOutcome (looks_like told)
by_look told t u h = ap (λ (look : List ℕ). same_bytes look told.look) h.look

by_lines : (property : Property) → IsByOutcome (breaks property)
by_lines property t u h = ap (fails property) h.lines

by_no_lines : (property : Property) → IsByOutcome (λ t. not (breaks property t))
by_no_lines property t u h = ap not (by_lines property t u h)

by_met : (property : Property) (t u : Told) → AreAlike t u → is_met t property ≡ is_met u property
by_met property t u h = ap (λ (b : Bool). not (is_condition property && b)) (by_lines property t u h)

by_counts : (properties : List Property) → IsByOutcome (counts properties)
by_counts [] t u h = refl
by_counts (p ∷ ps) t u h =
    ap (λ (b : Bool). b && counts ps t) (by_met p t u h) ∙ ap (λ (b : Bool). is_met u p && b) (by_counts ps t u h)

by_both : (f g : Told → Bool) → IsByOutcome f → IsByOutcome g → IsByOutcome (λ t. f t && g t)
by_both f g by also t u h = ap (λ (b : Bool). b && g t) (by t u h) ∙ ap (λ (b : Bool). f u && b) (also t u h)

-- ---- what is among the earlier ones

found_among : (test : Told → Bool) (x : Told) (xs : List Told) → IsAmong x xs → test x ≡ true → list_any test xs ≡ true
found_among test x [] h e = absurd h
found_among test x (y ∷ ys) h e =
    ⊎_elim (λ q. ap (λ (b : Bool). b || list_any test ys) (sym (ap test q) ∙ e)) (λ q. or_right (test y) (list_any test ys) (found_among test x ys q e)) h

again_found : (test : Told → Bool) (earlier : List Told) (told : Told) → IsByOutcome test → IsAgain earlier told → test told ≡ true → list_any test earlier ≡ true
again_found test earlier told by h e = found_among test h.0 earlier h.1.0 (by h.0 told h.1.1 ∙ e)

more_any : (test : Told → Bool) (xs : List Told) (x : Told) → list_any test (xs ++ x ∷ []) ≡ (list_any test xs || test x)
more_any test xs x = list_any-append test xs (x ∷ []) ∙ ap (λ (b : Bool). list_any test xs || b) (or-false (test x))

-- the earlier pieces and the earlier ones of the whole pass each test alike
abbrev AreAsFound : List Told → List Told → Type 0
AreAsFound earlier before = (test : Told → Bool) → IsByOutcome test → list_any test earlier ≡ list_any test before

found_first : (earlier before : List Told) (told other : Told) → AreOneBut told other → AreAsFound earlier before → AreAsFound (earlier ++ told ∷ []) (before ++ other ∷ [])
found_first earlier before told other one same test by =
    more_any test earlier told
    ∙ (ap (λ (b : Bool). b || test told) (same test by) ∙ ap (λ (b : Bool). list_any test before || b) (by told other one.alike))
    ∙ sym (more_any test before other)

kept : (b c : Bool) → (c ≡ true → b ≡ true) → (b || c) ≡ b
kept true c on = refl
kept false true on = sym (on refl)
kept false false on = refl

found_again : (earlier before : List Told) (told : Told) → IsAgain earlier told → AreAsFound earlier before → AreAsFound (earlier ++ told ∷ []) before
found_again earlier before told h same test by =
    more_any test earlier told ∙ (kept (list_any test earlier) (test told) (again_found test earlier told by h) ∙ same test by)

-- ---- one for one

-- the same but for the numbers of lists
abbrev AreOnes : List Told → List Told → Type 0
AreOnes [] [] = ⊤
AreOnes [] (other ∷ others) = ⊥
AreOnes (told ∷ all) [] = ⊥
AreOnes (told ∷ all) (other ∷ others) = AreOneBut told other × AreOnes all others

ones_length : (xs ys : List Told) → AreOnes xs ys → length xs ≡ length ys
ones_length [] [] h = refl
ones_length [] (y ∷ ys) h = absurd h
ones_length (x ∷ xs) [] h = absurd h
ones_length (x ∷ xs) (y ∷ ys) h = ap suc (ones_length xs ys h.1)

ones_text : (line other : ℕ → Told → List ℕ) → ((k : ℕ) (x y : Told) → AreOneBut x y → line k x ≡ other k y)
    → (k : ℕ) (xs ys : List Told) → AreOnes xs ys → numbered line k xs ≡ numbered other k ys
ones_text line other each k [] [] h = refl
ones_text line other each k [] (y ∷ ys) h = absurd h
ones_text line other each k (x ∷ xs) [] h = absurd h
ones_text line other each k (x ∷ xs) (y ∷ ys) h =
    ap (λ (bs : List ℕ). bs ++ numbered line (suc k) xs) (each k x y h.0)
    ∙ ap (λ (bs : List ℕ). other k y ++ bs) (ones_text line other each (suc k) xs ys h.1)

-- ---- what is new

new_same : (earlier before : List Told) (told other : Told) → AreOneBut told other → AreAsFound earlier before → is_new earlier told ≡ is_new before other
new_same earlier before told other one same =
    ap not (same (looks_like told) (by_look told) ∙ ap (λ (look : List ℕ). list_any (λ t. same_bytes t.look look) before) one.alike.look)

old_again : (earlier : List Told) (told : Told) → IsAgain earlier told → is_new earlier told ≡ false
old_again earlier told h = ap not (again_found (looks_like told) earlier told (by_look told) h ((bytes_eq-Decides told.look told.look).1 refl))

ones_again : (earlier : List Told) (told : Told) (pieces news : List Told) → IsAgain earlier told
    → AreOnes (new_among (earlier ++ told ∷ []) pieces) news → AreOnes (new_among earlier (told ∷ pieces)) news
ones_again earlier told pieces news again ones =
    subst (λ (b : Bool). AreOnes ((if b then told ∷ [] else []) ++ new_among (earlier ++ told ∷ []) pieces) news) (sym (old_again earlier told again)) ones

ones_first : (earlier before : List Told) (told other : Told) (pieces whole : List Told) → AreOneBut told other → AreAsFound earlier before
    → AreOnes (new_among (earlier ++ told ∷ []) pieces) (new_among (before ++ other ∷ []) whole)
    → AreOnes (new_among earlier (told ∷ pieces)) (new_among before (other ∷ whole))
ones_first earlier before told other pieces whole one same ones = by (is_new earlier told) (is_new before other) (new_same earlier before told other one same)
  where
    by : (b c : Bool) → b ≡ c
        → AreOnes ((if b then told ∷ [] else []) ++ new_among (earlier ++ told ∷ []) pieces) ((if c then other ∷ [] else []) ++ new_among (before ++ other ∷ []) whole)
    by true true e = (one, ones)
    by false false e = ones
    by true false e = absurd (true≢false e)
    by false true e = absurd (false≢true e)

new_pieces : (earlier before pieces whole : List Told) → AreFirst earlier pieces whole → AreAsFound earlier before → AreOnes (new_among earlier pieces) (new_among before whole)
new_pieces earlier before [] [] h same = tt
new_pieces earlier before [] (t ∷ ts) h same = absurd h
new_pieces earlier before (e ∷ es) [] h same =
    ones_again earlier e es (new_among before []) h.0 (new_pieces (earlier ++ e ∷ []) before es [] h.1 (found_again earlier before e h.0 same))
new_pieces earlier before (e ∷ es) (t ∷ ts) h same =
    ⊎_elim
    (λ f. ones_first earlier before e t es ts f.0 same (new_pieces (earlier ++ e ∷ []) (before ++ t ∷ []) es ts f.1 (found_first earlier before e t f.0 same)))
    (λ g. ones_again earlier e es (new_among before (t ∷ ts)) g.0 (new_pieces (earlier ++ e ∷ []) before es (t ∷ ts) g.1 (found_again earlier before e g.0 same)))
    h

-- ---- what is printed of one

witness_same : (told other : Told) → AreOneBut told other → witness_words told ≡ witness_words other
unfolding witness_words
witness_same told other h =
    ap (λ (n : ℕ). (codes " cuts " ++ decimal n) ++ (codes " schedule " ++ (told.schedule ++ codes "\n"))) h.cuts
    ∙ ap (λ (s : List ℕ). (codes " cuts " ++ decimal other.cuts) ++ (codes " schedule " ++ (s ++ codes "\n"))) h.schedule

block_same : (k lists many : ℕ) (told other : Told) → AreOneBut told other → lists ≡ many → block_words k lists told ≡ block_words k many other
unfolding block_words
block_same k lists many told other h e =
    ap (λ (n : ℕ). (codes "outcome " ++ decimal k) ++ ((codes " schedules " ++ count_words n) ++ (witness_words told ++ block_of told))) e
    ∙ (ap (λ (w : List ℕ). (codes "outcome " ++ decimal k) ++ ((codes " schedules " ++ count_words many) ++ (w ++ block_of told))) (witness_same told other h)
    ∙ ap (λ (b : List ℕ). (codes "outcome " ++ decimal k) ++ ((codes " schedules " ++ count_words many) ++ (witness_words other ++ b))) h.block)

-- ---- the first that passes

abbrev SameFound : Option Told → Option Told → Type 0
SameFound None None = ⊤
SameFound None (Some other) = ⊥
SameFound (Some told) None = ⊥
SameFound (Some told) (Some other) = AreOneBut told other

not_again : (test : Told → Bool) (earlier : List Told) (told : Told) → IsByOutcome test → IsAgain earlier told → list_any test earlier ≡ false → test told ≡ false
not_again test earlier told by again none = go (test told) refl
  where
    go : (b : Bool) → test told ≡ b → b ≡ false
    go false e = refl
    go true e = absurd (true≢false (sym (again_found test earlier told by again e) ∙ none))

none_more : (test : Told → Bool) (earlier : List Told) (told : Told) → list_any test earlier ≡ false → test told ≡ false → list_any test (earlier ++ told ∷ []) ≡ false
none_more test earlier told none e = more_any test earlier told ∙ (ap (λ (b : Bool). b || test told) none ∙ e)

found_past : (test : Told → Bool) (told : Told) (pieces : List Told) (found : Option Told) → test told ≡ false → SameFound (find test pieces) found → SameFound (find test (told ∷ pieces)) found
found_past test told pieces found e same = subst (λ (b : Bool). SameFound (cond b (Some told) (find test pieces)) found) (sym e) same

found_one : (test : Told → Bool) (told other : Told) (pieces whole : List Told) → IsByOutcome test → AreOneBut told other
    → (test told ≡ false → SameFound (find test pieces) (find test whole)) → SameFound (find test (told ∷ pieces)) (find test (other ∷ whole))
found_one test told other pieces whole by one rest =
    subst (λ (c : Bool). SameFound (cond (test told) (Some told) (find test pieces)) (cond c (Some other) (find test whole))) (by told other one.alike) (go (test told) refl)
  where
    go : (b : Bool) → test told ≡ b → SameFound (cond b (Some told) (find test pieces)) (cond b (Some other) (find test whole))
    go true e = one
    go false e = rest e

found_same : (test : Told → Bool) → IsByOutcome test → (earlier pieces whole : List Told) → AreFirst earlier pieces whole → list_any test earlier ≡ false
    → SameFound (find test pieces) (find test whole)
found_same test by earlier [] [] h none = tt
found_same test by earlier [] (t ∷ ts) h none = absurd h
found_same test by earlier (e ∷ es) [] h none =
    let past : test e ≡ false = not_again test earlier e by h.0 none in
    found_past test e es None past (found_same test by (earlier ++ e ∷ []) es [] h.1 (none_more test earlier e none past))
found_same test by earlier (e ∷ es) (t ∷ ts) h none =
    ⊎_elim
    (λ f. found_one test e t es ts by f.0 (λ past. found_same test by (earlier ++ e ∷ []) es ts f.1 (none_more test earlier e none past)))
    (λ g.
    let past : test e ≡ false = not_again test earlier e by g.0 none in
    found_past test e es (find test (t ∷ ts)) past (found_same test by (earlier ++ e ∷ []) es (t ∷ ts) g.1 (none_more test earlier e none past)))
    h

none_same : (found other : Option Told) → SameFound found other → is_none found ≡ is_none other
none_same None None h = refl
none_same None (Some other) h = absurd h
none_same (Some told) None h = absurd h
none_same (Some told) (Some other) h = refl

-- ---- those that are kept

module _ (f : Told → Bool) (by : IsByOutcome f) where
  kept_among : (x : Told) (xs : List Told) → IsAmong x xs → f x ≡ true → IsAmong x (filter f xs)
  kept_among x [] h e = absurd h
  kept_among x (y ∷ ys) h e = go (f y) refl (⊎_elim (λ q. inl q) (λ q. inr (kept_among x ys q e)) h)
    where
      go : (b : Bool) → f y ≡ b → (x ≡ y) ⊎ IsAmong x (filter f ys) → IsAmong x (cond b (y ∷ filter f ys) (filter f ys))
      go true k at = at
      go false k at = ⊎_elim (λ q. absurd (true≢false (sym e ∙ (ap f q ∙ k)))) (λ q. q) at

  again_kept : (earlier : List Told) (told : Told) → IsAgain earlier told → f told ≡ true → IsAgain (filter f earlier) told
  again_kept earlier told h e = (h.0, (kept_among h.0 earlier h.1.0 (by h.0 told h.1.1 ∙ e), h.1.1))

  earlier_kept : (earlier : List Told) (told : Told) (b : Bool) → f told ≡ b → filter f (earlier ++ told ∷ []) ≡ cond b (filter f earlier ++ told ∷ []) (filter f earlier)
  earlier_kept earlier told b e =
      filter-append f earlier (told ∷ []) ∙ (ap (λ (c : Bool). filter f earlier ++ cond c (told ∷ []) []) e ∙ ends b)
    where
      ends : (c : Bool) → filter f earlier ++ cond c (told ∷ []) [] ≡ cond c (filter f earlier ++ told ∷ []) (filter f earlier)
      ends true = refl
      ends false = append-nil (filter f earlier)

  again_more : (earlier : List Told) (told : Told) (pieces whole : List Told) → IsAgain earlier told → AreFirst (earlier ++ told ∷ []) pieces whole → AreFirst earlier (told ∷ pieces) whole
  again_more earlier told pieces [] again rest = (again, rest)
  again_more earlier told pieces (other ∷ whole) again rest = inr (again, rest)

  kept_again : (earlier : List Told) (told : Told) (pieces whole : List Told) → IsAgain earlier told
      → AreFirst (filter f (earlier ++ told ∷ [])) pieces whole → AreFirst (filter f earlier) (cond (f told) (told ∷ pieces) pieces) whole
  kept_again earlier told pieces whole again rest = go (f told) refl
    where
      go : (b : Bool) → f told ≡ b → AreFirst (filter f earlier) (cond b (told ∷ pieces) pieces) whole
      go true e = again_more (filter f earlier) told pieces whole (again_kept earlier told again e) (subst (λ (xs : List Told). AreFirst xs pieces whole) (earlier_kept earlier told true e) rest)
      go false e = subst (λ (xs : List Told). AreFirst xs pieces whole) (earlier_kept earlier told false e) rest

  kept_one : (earlier : List Told) (told other : Told) (pieces whole : List Told) → AreOneBut told other
      → AreFirst (filter f (earlier ++ told ∷ [])) pieces whole
      → AreFirst (filter f earlier) (cond (f told) (told ∷ pieces) pieces) (cond (f other) (other ∷ whole) whole)
  kept_one earlier told other pieces whole one rest =
      subst (λ (c : Bool). AreFirst (filter f earlier) (cond (f told) (told ∷ pieces) pieces) (cond c (other ∷ whole) whole)) (by told other one.alike) (go (f told) refl)
    where
      go : (b : Bool) → f told ≡ b → AreFirst (filter f earlier) (cond b (told ∷ pieces) pieces) (cond b (other ∷ whole) whole)
      go true e = inl (one, subst (λ (xs : List Told). AreFirst xs pieces whole) (earlier_kept earlier told true e) rest)
      go false e = subst (λ (xs : List Told). AreFirst xs pieces whole) (earlier_kept earlier told false e) rest

  kept_first : (earlier pieces whole : List Told) → AreFirst earlier pieces whole → AreFirst (filter f earlier) (filter f pieces) (filter f whole)
  kept_first earlier [] [] h = tt
  kept_first earlier [] (t ∷ ts) h = absurd h
  kept_first earlier (e ∷ es) [] h = kept_again earlier e (filter f es) [] h.0 (kept_first (earlier ++ e ∷ []) es [] h.1)
  kept_first earlier (e ∷ es) (t ∷ ts) h =
      ⊎_elim
      (λ one. kept_one earlier e t (filter f es) (filter f ts) one.0 (kept_first (earlier ++ e ∷ []) es ts one.1))
      (λ again. kept_again earlier e (filter f es) (filter f (t ∷ ts)) again.0 (kept_first (earlier ++ e ∷ []) es (t ∷ ts) again.1))
      h

  abbrev weight : (Told → Bool) → Told → ℕ
  weight test t = if test t then t.lists else 0

  kept_sum : (g : Told → Bool) (all : List Told) → sum_by (weight g) (filter f all) ≡ sum_by (weight (λ t. f t && g t)) all
  kept_sum g [] = refl
  kept_sum g (t ∷ all) = go (f t) (kept_sum g all) ∙ sym (sum_by-cons (weight (λ u. f u && g u)) t all)
    where
      go : (b : Bool) → sum_by (weight g) (filter f all) ≡ sum_by (weight (λ u. f u && g u)) all
          → sum_by (weight g) (cond b (t ∷ filter f all) (filter f all)) ≡ (if (b && g t) then t.lists else 0) + sum_by (weight (λ u. f u && g u)) all
      go true rest = sum_by-cons (weight g) t (filter f all) ∙ ap (λ (n : ℕ). weight g t + n) rest
      go false rest = omega (arith, rest)

  kept_pieces : (pieces whole : List Told) → ArePieces pieces whole → ArePieces (filter f pieces) (filter f whole)
  kept_pieces pieces whole h = record {
    first = kept_first [] pieces whole h.first;
    lists = λ test also.
        ap (λ (n : ℕ). min n COUNT_MAX) (kept_sum test pieces)
        ∙ (h.lists (λ t. f t && test t) (by_both f test by also)
        ∙ sym (ap (λ (n : ℕ). min n COUNT_MAX) (kept_sum test whole)));
  }

-- ---- the text

module _ (pieces whole : List Told) (are : ArePieces pieces whole) where
  new_ones_same : AreOnes (new_ones pieces) (new_ones whole)
  new_ones_same = new_pieces [] [] pieces whole are.first (λ test by. refl)

  block_of_same : (k : ℕ) (told other : Told) → AreOneBut told other → block_text pieces k told ≡ block_text whole k other
  block_of_same k told other one =
      block_same k (lists_to pieces told) (lists_to whole other) told other one
      (are.lists (looks_like told) (by_look told) ∙ ap (λ (look : List ℕ). lists_where (λ t. same_bytes t.look look) whole) one.alike.look)

  blocks_same : blocks_text pieces ≡ blocks_text whole
  blocks_same = ones_text (block_text pieces) (block_text whole) block_of_same 0 (new_ones pieces) (new_ones whole) new_ones_same

  breaking_same : (p : Property) → SameFound (find (breaks p) pieces) (find (breaks p) whole)
  breaking_same p = found_same (breaks p) (by_lines p) [] pieces whole are.first refl

  status_same : (p : Property) (found other : Option Told) → SameFound found other → status_words pieces p found ≡ status_words whole p other
  status_same p None None h = refl
  status_same p None (Some other) h = absurd h
  status_same p (Some told) None h = absurd h
  status_same p (Some told) (Some other) h =
      ap (λ (n : ℕ). (codes "fails " ++ count_words n) ++ witness_words told) (are.lists (breaks p) (by_lines p))
      ∙ ap (λ (w : List ℕ). (codes "fails " ++ count_words (lists_breaking whole p)) ++ w) (witness_same told other h)

  property_same : (p : Property) → property_text pieces p ≡ property_text whole p
  property_same p =
      ap (λ (s : List ℕ). if is_condition p then [] else (rule_word p.rule ++ (p.text ++ (codes " = " ++ s))))
      (status_same p (find (breaks p) pieces) (find (breaks p) whole) (breaking_same p))

  properties_same : (properties : List Property) → properties_text pieces properties ≡ properties_text whole properties
  properties_same [] = refl
  properties_same (p ∷ ps) =
      ap (λ (s : List ℕ). s ++ properties_text pieces ps) (property_same p) ∙ ap (λ (s : List ℕ). property_text whole p ++ s) (properties_same ps)

  condition_same : (lists : ℕ) (p : Property) → condition_text lists pieces p ≡ condition_text lists whole p
  unfolding condition_text
  condition_same lists p =
      ap (λ (n : ℕ). if is_condition p then (rule_word p.rule ++ (p.text ++ (codes " = " ++ (count_words n ++ (codes " of " ++ (count_words lists ++ codes "\n")))))) else [])
      (are.lists (λ t. not (breaks p t)) (by_no_lines p))

  conditions_same : (lists : ℕ) (properties : List Property) → conditions_text lists pieces properties ≡ conditions_text lists whole properties
  conditions_same lists [] = refl
  conditions_same lists (p ∷ ps) =
      ap (λ (s : List ℕ). s ++ conditions_text lists pieces ps) (condition_same lists p)
      ∙ ap (λ (s : List ℕ). condition_text lists whole p ++ s) (conditions_same lists ps)

  counted_same : (lists : ℕ) (properties : List Property) → lists_counted lists properties pieces ≡ lists_counted lists properties whole
  counted_same lists properties =
      ap (λ (n : ℕ). if list_any is_condition properties then n else lists) (are.lists (counts properties) (by_counts properties))

  lt_some : (n : ℕ) → nat_lt 0 (suc n) ≡ true
  lt_some n = grind (arith, nat_tests)

  some_same : (some others : List Told) → AreFirst [] some others → nat_lt 0 (length some) ≡ nat_lt 0 (length others)
  some_same [] [] h = refl
  some_same [] (t ∷ ts) h = absurd h
  some_same (e ∷ es) [] h = absurd h.0.1.0
  some_same (e ∷ es) (t ∷ ts) h = lt_some (length es) ∙ sym (lt_some (length ts))

  holds_same : (p : Property) → holds pieces p ≡ holds whole p
  holds_same p =
      ap (λ (b : Bool). if is_condition p then b else is_none (find (breaks p) pieces)) (some_same pieces whole are.first)
      ∙ ap (λ (b : Bool). if is_condition p then nat_lt 0 (length whole) else b) (none_same (find (breaks p) pieces) (find (breaks p) whole) (breaking_same p))

  all_hold_same : (properties : List Property) → all_hold pieces properties ≡ all_hold whole properties
  all_hold_same [] = refl
  all_hold_same (p ∷ ps) =
      ap (λ (b : Bool). b && all_hold pieces ps) (holds_same p) ∙ ap (λ (b : Bool). holds whole p && b) (all_hold_same ps)

pub pieces_tell_the_whole : PiecesTellTheWhole
pieces_tell_the_whole lists states longest properties pieces whole are =
    let few : ArePieces (counted properties pieces) (counted properties whole) = kept_pieces (counts properties) (by_counts properties) pieces whole are in
    let some = counted properties pieces in
    let others = counted properties whole in
    let schedules = counted_same pieces whole are lists properties in
    let outcomes : length (new_ones some) ≡ length (new_ones others) = ones_length (new_ones some) (new_ones others) (new_ones_same some others few) in
    let blocks = blocks_same some others few in
    let conditions = conditions_same pieces whole are lists properties in
    let each = properties_same some others few properties in (
      (λ i. numbers_text (schedules i) states longest (outcomes i) ++ (blocks i ++ (conditions i ++ each i))),
      all_hold_same some others few properties,
    )
