-- A conversation that tells a place, question by question: what it was, and that it may come.
use Rattle.std.proofs.Common.{◌≡◌, ◌==◌, ◌&&◌, ◌≤◌, ◌⊎◌, inl, inr, if◌then◌else◌, ℕ, Bool, true, false, List, [], ◌∷◌, length, nat_lt, Option, Some, None, Ok, Err, refl, sym, subst, arith}
use Rattle.std.proofs.lemmas.Bool.{cond_both, cond-false, eq-eqb, eqb-true, le-ltb}
use Rattle.path_text.specs.declared.path.TheConstants.{TEXT_MAX}
use Rattle.system_calls.specs.Errors.{ENOENT, EAGAIN, ENAMETOOLONG, ENOSYS}
use Rattle.dialogue.specs.Dialogue.{Talks, Whole, and_then, asking, ends}
use Rattle.find_place.specs.Place.{link, link_error, link_told, place_if, with_place, with_text}
use Rattle.find_place.specs.Questions.{Asked, Exchange, Talk, Told, questions, text_of}
use Rattle.find_place.specs.Witness.{Worked}
use Rattle.find_place.specs.declared.questions.Answer.{Answer}

-- these exchanges end in the place
abbrev pub Comes : List ℕ → Talk Told → List Exchange → Type 0
Comes names m es = Whole m es (Ok names)

pub no_end : (names : List ℕ) (error : ℕ) (es : List Exchange) → Comes names (ends (Err error)) es → ⊥
unfolding Talks
no_end names error [] h = absurd cc
no_end names error (x ∷ xs) h = h

pub stood : (names p : List ℕ) (es : List Exchange) → Comes names (ends (Ok p)) es → (p ≡ names) × (es ≡ [])
unfolding Talks
stood names p [] h = (cc, refl)
stood names p (x ∷ xs) h = absurd h

pub stands : (names : List ℕ) → Comes names (ends (Ok names)) []
unfolding Talks
stands names = refl

-- ---- a choice

pub either : (names : List ℕ) (b : Bool) (x y : Talk Told) (es : List Exchange) → Comes names (if b then x else y) es
    → ((b ≡ true) × Comes names x es) ⊎ ((b ≡ false) × Comes names y es)
either names true x y es h = inl (refl, h)
either names false x y es h = inr (refl, h)

pub if_so : (names : List ℕ) (b : Bool) (x y : Talk Told) (es : List Exchange) → b ≡ true → Comes names x es
    → Comes names (if b then x else y) es
if_so names b x y es is h = subst (λ c. Comes names (if c then x else y) es) (sym is) h

pub if_not : (names : List ℕ) (b : Bool) (x y : Talk Told) (es : List Exchange) → b ≡ false → Comes names y es
    → Comes names (if b then x else y) es
if_not names b x y es is h = subst (λ c. Comes names (if c then x else y) es) (sym is) h

pub ended : (names p : List ℕ) (b : Bool) (es : List Exchange) → Comes names (ends (place_if b p)) es
    → (b ≡ true) × (p ≡ names) × (es ≡ [])
ended names p true es h = let s = stood names p es h in (refl, s.0, s.1)
ended names p false es h = absurd (no_end names EAGAIN es h)

pub ends_so : (names : List ℕ) (b : Bool) → b ≡ true → Comes names (ends (place_if b names)) []
ends_so names b is = subst (λ c. Comes names (ends (place_if c names)) []) (sym is) (stands names)

pub placed : (names : List ℕ) (o : Option (List ℕ)) (f : List ℕ → Talk Told) (es : List Exchange)
    → Comes names (with_place o f) es → (p : List ℕ) × (o ≡ Some p) × Comes names (f p) es
placed names None f es h = absurd (no_end names EAGAIN es h)
placed names (Some p) f es h = (p, refl, h)

-- ---- a question

pub asked : (names : List ℕ) (q : Asked) (f : Answer → Talk Told) (P : List Exchange → Type 0) (es : List Exchange)
    → Comes names (and_then (asking questions q) f) es
    → ((e : Exchange) (later : List Exchange) → e.asked ≡ q → Comes names (f e.answer) later → P (e ∷ later)) → P es
unfolding Talks and_then asking
asked names q f P [] h k = absurd cc
asked names q f P (e ∷ later) h k = k e later h.0 h.1

pub asks_so : (names : List ℕ) (q : Asked) (f : Answer → Talk Told) (e : Exchange) (later : List Exchange)
    → e.asked ≡ q → Comes names (f e.answer) later → Comes names (and_then (asking questions q) f) (e ∷ later)
unfolding Talks and_then asking
asks_so names q f e later is h = (is, h)

-- ---- a text

link_worked : (a : Answer) → link_error a ≡ 0 → a.error ≡ 0
link_worked a =
    cond_both (a.error == ENOENT) ENOSYS
    (if (a.error == 0) && nat_lt TEXT_MAX (length a.text.now) then ENAMETOOLONG else a.error)
    (λ n. n ≡ 0 → a.error ≡ 0) (λ _ e. absurd (omega (arith, e)))
    (λ _. cond_both ((a.error == 0) && nat_lt TEXT_MAX (length a.text.now)) ENAMETOOLONG a.error
    (λ n. n ≡ 0 → a.error ≡ 0) (λ _ e. absurd (omega (arith, e))) (λ _ e. e))

link_fine : (error : ℕ) (text : List ℕ) → error ≡ 0 → length text ≤ TEXT_MAX
    → (if error == ENOENT then ENOSYS
    else (if (error == 0) && nat_lt TEXT_MAX (length text) then ENAMETOOLONG else error)) ≡ 0
link_fine error text none size =
    subst (λ n. (if n == ENOENT then ENOSYS
    else (if (n == 0) && nat_lt TEXT_MAX (length text) then ENAMETOOLONG else n)) ≡ 0) (sym none)
    (cond-false (nat_lt TEXT_MAX (length text)) ENAMETOOLONG 0 (le-ltb TEXT_MAX (length text) size))

text_told : (names : List ℕ) (a : Answer) (f : List ℕ → Talk Told) (es : List Exchange)
    → Comes names (with_text (link_told a) f) es → (a.error ≡ 0) × Comes names (f a.text.now) es
text_told names a f es = by_case (link_error a == 0) refl
  where
    by_case : (b : Bool) → (link_error a == 0) ≡ b
        → Comes names (with_text (if b then Ok a.text.now else Err (link_error a)) f) es
        → (a.error ≡ 0) × Comes names (f a.text.now) es
    by_case true is h = (link_worked a (eqb-true (link_error a) 0 is), h)
    by_case false is h = absurd (no_end names (link_error a) es h)

pub read : (names : List ℕ) (q : Asked) (f : List ℕ → Talk Told) (P : List Exchange → Type 0) (es : List Exchange)
    → Comes names (and_then (link q) (λ r. with_text r f)) es
    → ((e : Exchange) (later : List Exchange) → Worked q e → Comes names (f (text_of e)) later → P (e ∷ later)) → P es
unfolding Talks and_then asking link
read names q f P [] h k = absurd cc
read names q f P (e ∷ later) h k = let t = text_told names e.answer f later h.1 in k e later (h.0, t.0) t.1

pub reads_so : (names : List ℕ) (q : Asked) (f : List ℕ → Talk Told) (e : Exchange) (later : List Exchange)
    → Worked q e → length (text_of e) ≤ TEXT_MAX → Comes names (f (text_of e)) later
    → Comes names (and_then (link q) (λ r. with_text r f)) (e ∷ later)
unfolding Talks and_then asking link
reads_so names q f e later worked size h = (
  worked.0,
  subst (λ b. Comes names (with_text (if b then Ok (text_of e) else Err (link_error e.answer)) f) later)
      (sym (eq-eqb (link_error e.answer) 0 (link_fine e.answer.error (text_of e) worked.1 size))) h,
)
