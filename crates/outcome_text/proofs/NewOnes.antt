-- The outcomes that look like none before them, one after another.
use Rattle.std.proofs.Common.{◌≡◌, ℕ, suc, ◌+◌, ◌<◌, Bool, true, false, List, [], ◌∷◌, ◌++◌, length, take, drop, get_or, sym, ap, ◌∙◌, add-one}
use Rattle.std.specs.Prelude.{if◌then◌else◌}
use Rattle.std.proofs.Math.Seq.{drop-cons}
use Rattle.std.proofs.lemmas.List.{append_assoc, take_more}
use Rattle.report_text.specs.Report.{numbered}
use Rattle.outcome_text.specs.declared.survey.Told.{Told}
use Rattle.outcome_text.specs.Survey.{is_new, new_among}

-- the one at a place comes first among those that are left
pub new_at : (all : List Told) (at : ℕ) (x : Told) → at < length all → x ≡ get_or all at x
    → new_among (take at all) (drop at all) ≡ (if is_new (take at all) x then x ∷ [] else []) ++ new_among (take (at + 1) all) (drop (at + 1) all)
new_at all at x within is =
    let front = take at all in
    ap (new_among front) (drop-cons all at x within ∙ ap (λ (y : Told). y ∷ drop (suc at) all) (sym is))
    ∙ ap (λ (n : ℕ). (if is_new front x then x ∷ [] else []) ++ new_among (front ++ x ∷ []) (drop n all)) (sym (add-one at))
    ∙ ap (λ (xs : List Told). (if is_new front x then x ∷ [] else []) ++ new_among xs (drop (at + 1) all))
    (ap (λ (y : Told). front ++ y ∷ []) is ∙ sym (take_more all at x within))

-- it is written where it is new
pub one_more : (line : ℕ → Told → List ℕ) (k : ℕ) (all : List Told) (at : ℕ) (x : Told) (before after whole : List ℕ)
    → at < length all → x ≡ get_or all at x → is_new (take at all) x ≡ true → after ≡ before ++ line k x
    → before ++ numbered line k (new_among (take at all) (drop at all)) ≡ whole
    → after ++ numbered line (k + 1) (new_among (take (at + 1) all) (drop (at + 1) all)) ≡ whole
one_more line k all at x before after whole within is new written h =
    let rest = new_among (take (at + 1) all) (drop (at + 1) all) in
    ap (λ (n : ℕ). after ++ numbered line n rest) (add-one k)
    ∙ ap (λ (bs : List ℕ). bs ++ numbered line (suc k) rest) written ∙ append_assoc before (line k x) (numbered line (suc k) rest)
    ∙ ap (λ (b : Bool). before ++ numbered line k ((if b then x ∷ [] else []) ++ rest)) (sym new)
    ∙ ap (λ (xs : List Told). before ++ numbered line k xs) (sym (new_at all at x within is)) ∙ h

-- and passed over where it isn't
pub none_more : (line : ℕ → Told → List ℕ) (k : ℕ) (all : List Told) (at : ℕ) (x : Told) (before whole : List ℕ)
    → at < length all → x ≡ get_or all at x → is_new (take at all) x ≡ false
    → before ++ numbered line k (new_among (take at all) (drop at all)) ≡ whole
    → before ++ numbered line k (new_among (take (at + 1) all) (drop (at + 1) all)) ≡ whole
none_more line k all at x before whole within is old h =
    let rest = new_among (take (at + 1) all) (drop (at + 1) all) in
    ap (λ (b : Bool). before ++ numbered line k ((if b then x ∷ [] else []) ++ rest)) (sym old)
    ∙ ap (λ (xs : List Told). before ++ numbered line k xs) (sym (new_at all at x within is)) ∙ h
