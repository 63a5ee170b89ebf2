-- The first outcomes that look like none before them, one after another.
use Rattle.std.proofs.Common.{◌≡◌, ℕ, ◌<◌, ◌≤◌, Bool, true, false, List, [], ◌∷◌, ◌++◌, length, take, refl, sym, ap, ◌∙◌, arith}
use Rattle.std.specs.Prelude.{◌&&◌, if◌then◌else◌, nat_lt}
use Rattle.std.proofs.lemmas.Bool.{le-ltb, ltb-true, ltb-false}
use Rattle.std.proofs.lemmas.List.{append-nil, append_assoc, length-append, length-take-le, take_all, take-append-le}
use Rattle.explore_page_command.specs.declared.chosen.TheConstants.{PLAYED_MAX}
use Rattle.explore_page_command.specs.Played.{chosen, with_chosen}
use Rattle.outcome_text.specs.declared.survey.Told.{Told}
use Rattle.outcome_text.specs.Survey.{is_new, new_among, new_ones}

-- ---- the first so many of a list, and one more

room : {X : Type 0} (n : ℕ) (xs : List X) (x : X) → length xs < n → take n (xs ++ x ∷ []) ≡ take n xs ++ x ∷ []
room n xs x less =
    take_all n (xs ++ x ∷ []) (omega (arith, less, length-append xs (x ∷ [])))
    ∙ ap (λ ys. ys ++ x ∷ []) (sym (take_all n xs (omega (arith, less))))

more : {X : Type 0} (n : ℕ) (xs : List X) (x : X) (new : Bool)
    → take n (xs ++ (if new then x ∷ [] else [])) ≡ (if nat_lt (length (take n xs)) n && new then take n xs ++ x ∷ [] else take n xs)
more n xs x false = ap (take n) (append-nil xs) ∙ by (nat_lt (length (take n xs)) n)
  where
    by : (b : Bool) → take n xs ≡ (if b && false then take n xs ++ x ∷ [] else take n xs)
    by true = refl
    by false = refl
more n xs x true = by (nat_lt (length xs) n) refl
  where
    Goal : Bool → Type 0
    Goal b = take n (xs ++ x ∷ []) ≡ (if b && true then take n xs ++ x ∷ [] else take n xs)

    by : (b : Bool) → nat_lt (length xs) n ≡ b → Goal (nat_lt (length (take n xs)) n)
    by true e =
        let less : length xs < n = ltb-true (length xs) n e in
        let same : length (take n xs) ≡ length xs = ap length (take_all n xs (omega (arith, less))) in
        room n xs x less
        ∙ ap (λ (b : Bool). if b && true then take n xs ++ x ∷ [] else take n xs) (sym (ap (λ (k : ℕ). nat_lt k n) same ∙ e))
    by false e =
        let late : n ≤ length xs = ltb-false (length xs) n e in
        let same : length (take n xs) ≡ n = length-take-le n xs late in
        take-append-le n xs (x ∷ []) late
        ∙ ap (λ (b : Bool). if b && true then take n xs ++ x ∷ [] else take n xs)
        (sym (ap (λ (k : ℕ). nat_lt k n) same ∙ le-ltb n n (omega arith)))

-- ---- those that look like none before them, and one more

abbrev if_new : List Told → Told → List Told
if_new earlier told = if is_new earlier told then told ∷ [] else []

new_more : (earlier xs : List Told) (x : Told) → new_among earlier (xs ++ x ∷ []) ≡ new_among earlier xs ++ if_new (earlier ++ xs) x
new_more earlier [] x = append-nil (if_new earlier x) ∙ ap (λ (es : List Told). if_new es x) (sym (append-nil earlier))
new_more earlier (y ∷ ys) x =
    ap (λ (rest : List Told). if_new earlier y ++ rest) (new_more (earlier ++ y ∷ []) ys x)
    ∙ sym (append_assoc (if_new earlier y) (new_among (earlier ++ y ∷ []) ys) (if_new ((earlier ++ y ∷ []) ++ ys) x))
    ∙ ap (λ (es : List Told). (if_new earlier y ++ new_among (earlier ++ y ∷ []) ys) ++ if_new es x) (append_assoc earlier (y ∷ []) ys)

pub chosen_more : (some : List Told) (xs : List Told) (x : Told) → some ≡ chosen xs → with_chosen some xs x ≡ chosen (xs ++ x ∷ [])
chosen_more some xs x are =
    ap (λ (ts : List Told). with_chosen ts xs x) are
    ∙ sym (ap (take PLAYED_MAX) (new_more [] xs x) ∙ more PLAYED_MAX (new_ones xs) x (is_new xs x))
