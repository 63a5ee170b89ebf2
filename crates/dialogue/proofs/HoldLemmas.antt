-- What holds behind each part of a dialogue, whatever its answers are.
use Rattle.std.proofs.Common.{◌≡◌, ◌≤◌, ℕ, ◌+◌, List, [], ◌∷◌, ◌++◌, Bool, true, false, if◌then◌else◌, refl, sym, ap, subst, ◌∙◌, arith}
use Rattle.std.proofs.lemmas.List.{length-append}
use Rattle.dialogue.specs.Dialogue.{DialogueOf, ExchangeOf, Protocol, Talks, and_then, asking, asks, ends, without_signals}
use Rattle.dialogue.specs.Holds.{AllMay, EachHolds, Holds, WatchOf, state_after}
use Rattle.dialogue.proofs.PartLemmas.{parts, same_end}

-- from this state on, and behind it
pub record Goes {P : Protocol} {S E : Type 0} (w : WatchOf P S) (most : ℕ) (s : S) (m : DialogueOf P E)
    (Post : S → E → Type 0) : Type 0 where
  pub each : EachHolds w most s m Post

-- ---- exchanges, one part after another

signals_apart : {P : Protocol} (xs ys : List (ExchangeOf P)) → without_signals
    (xs ++ ys) ≡ without_signals xs ++ without_signals ys
signals_apart [] ys = refl
signals_apart {P} (x ∷ xs) ys = by_case (P.again x.asked x.answer) (signals_apart xs ys)
  where
    by_case : (b : Bool) → without_signals (xs ++ ys) ≡ without_signals xs ++ without_signals ys
        → (if b then without_signals (xs ++ ys) else x ∷ without_signals (xs ++ ys))
        ≡ (if b then without_signals xs else x ∷ without_signals xs) ++ without_signals ys
    by_case true more = more
    by_case false more = ap (λ zs. x ∷ zs) more

state_both : {P : Protocol} {S : Type 0} (w : WatchOf P S) (s : S) (xs ys : List (ExchangeOf P))
    → state_after w s (xs ++ ys) ≡ state_after w (state_after w s xs) ys
state_both w s [] ys = refl
state_both w s (x ∷ xs) ys = state_both w (w.by s x) xs ys

fair_both : {P : Protocol} {S : Type 0} (w : WatchOf P S) (s : S) (xs ys : List (ExchangeOf P)) → AllMay w s xs
    → AllMay w (state_after w s xs) ys → AllMay w s (xs ++ ys)
fair_both w s [] ys h g = g
fair_both w s (x ∷ xs) ys h g = (h.0, fair_both w (w.by s x) xs ys h.1 g)

joins : {P : Protocol} {S : Type 0} (w : WatchOf P S) (n k : ℕ) (s : S) (xs ys : List (ExchangeOf P))
    (First Then : S → Type 0)
    → Holds w n s xs First → Holds w k (state_after w s xs) ys Then → Holds w (n + k) s (xs ++ ys) Then
joins w n k s xs ys First Then h g =
    let c = length-append xs ys in
    record {
      few = omega (arith, c, h.few, g.few);
      fair = fair_both w s xs ys h.fair g.fair;
      ends = subst Then (sym (state_both w s xs ys)) g.ends;
    }

-- ---- rules

pub over : {P : Protocol} {S E : Type 0} {w : WatchOf P S} {n : ℕ} {s : S} {e : E} {Post : S → E → Type 0} → Post s e
    → Goes w n s (ends e) Post
unfolding Talks
over {P} {S} {E} {w} {n} {s} {e} {Post} post = record { each = each }
  where
    each : EachHolds w n s (ends e) Post
    each [] r h = record { few = omega arith; fair = tt; ends = subst (Post s) (same_end e r h) post }
    each (x ∷ xs) r h = absurd h

-- one part after another
pub both : {P : Protocol} {S E F : Type 0} {w : WatchOf P S} {s : S} {m : DialogueOf P E} {f : E → DialogueOf P F}
    {Mid : S → E → Type 0}
    {Post : S → F → Type 0} (n k : ℕ) → Goes w n s m Mid → ((t : S) (e : E) → Mid t e → Goes w k t (f e) Post)
    → Goes w (n + k) s (and_then m f) Post
both {P} {S} {E} {F} {w} {s} {m} {f} {Mid} {Post} n k h g = record { each = each }
  where
    each : EachHolds w (n + k) s (and_then m f) Post
    each es r whole =
        let p = parts m f es r whole in
        let first = h.each p.first p.value p.came in
        let second = (g (state_after w s (without_signals p.first)) p.value first.ends).each p.second r p.goes in
        subst (λ xs. Holds w (n + k) s xs (λ t. Post t r))
        (sym (ap without_signals p.all ∙ signals_apart p.first p.second))
        (joins w n k s (without_signals p.first) (without_signals p.second) (λ t. Mid t p.value) (λ t. Post t r) first
        second)

-- the first part leaves just this behind it, by what it has come to
pub goes_on : {P : Protocol} {S E F : Type 0} {w : WatchOf P S} {s : S} {m : DialogueOf P E} {f : E → DialogueOf P F}
    {Fact : E → Type 0}
    {Post : S → F → Type 0} (n k : ℕ) (g : E → S) → Goes w n s m (λ t e. (t ≡ g e) × Fact e)
    → ((e : E) → Fact e → Goes w k (g e) (f e) Post) → Goes w (n + k) s (and_then m f) Post
goes_on {P} {S} {E} {F} {w} {s} {m} {f} {Fact} {Post} n k g h more =
    both n k h (λ t e is. subst (λ u. Goes w k u (f e) Post) (sym is.0) (more e is.1))

pub choose : {P : Protocol} {S E : Type 0} {w : WatchOf P S} {n : ℕ} {s : S} {x y : DialogueOf P E}
    {Post : S → E → Type 0} (b : Bool)
    → (b ≡ true → Goes w n s x Post) → (b ≡ false → Goes w n s y Post) → Goes w n s (if b then x else y) Post
choose true h k = h refl
choose false h k = k refl

pub weak : {P : Protocol} {S E : Type 0} {w : WatchOf P S} {k : ℕ} {s : S} {m : DialogueOf P E}
    {Mid Post : S → E → Type 0} (n : ℕ) → n ≤ k
    → Goes w n s m Mid → ((t : S) (e : E) → Mid t e → Post t e) → Goes w k s m Post
weak {P} {S} {E} {w} {k} {s} {m} {Mid} {Post} n le h to = record {
  each = λ es e whole.
      let r = h.each es e whole in
      record
      { few = omega (arith, le, r.few); fair = r.fair; ends = to (state_after w s (without_signals es)) e r.ends };
}

-- ---- one question

abbrev Calls : {P : Protocol} → P.Asked → DialogueOf P P.Gave
Calls q = asks q (λ a. ends a)

abbrev pub exchange : {P : Protocol} → P.Asked → P.Gave → ExchangeOf P
exchange q a = record { asked = q; answer = a }

last : {P : Protocol} (q : P.Asked) (x : ExchangeOf P) (es : List (ExchangeOf P)) (a : P.Gave) → x.asked ≡ q
    → Talks (ends x.answer) es (λ rest. rest ≡ ends a) → x ∷ without_signals es ≡ exchange q a ∷ []
unfolding Talks
last q x [] a same w =
    let is = same_end x.answer a w in
    ap (λ p. exchange p x.answer ∷ []) same ∙ ap (λ b. exchange q b ∷ []) is
last q x (y ∷ ys) a same w = absurd w

by_signal : {P : Protocol} (q : P.Asked) (x : ExchangeOf P) (es : List (ExchangeOf P)) (a : P.Gave) (b : Bool)
    → x.asked ≡ q
    → Talks (if b then Calls q else ends x.answer) es (λ rest. rest ≡ ends a)
    → (Talks (Calls q) es (λ rest. rest ≡ ends a) → without_signals es ≡ exchange q a ∷ [])
    → (if b then without_signals es else x ∷ without_signals es) ≡ exchange q a ∷ []
by_signal q x es a true same w more = more w
by_signal q x es a false same w more = last q x es a same w

one_answer : {P : Protocol} (q : P.Asked) (es : List (ExchangeOf P)) (a : P.Gave) → Talks (Calls q) es
    (λ rest. rest ≡ ends a)
    → without_signals es ≡ exchange q a ∷ []
unfolding Talks
one_answer q [] a w = absurd cc
one_answer {P} q (x ∷ es) a w =
    by_signal q x es a (P.again x.asked x.answer) w.0
    (subst (λ p. Talks (if P.again p x.answer then Calls q else ends x.answer) es (λ rest. rest ≡ ends a)) (sym w.0)
    w.1)
    (one_answer q es a)

one : {P : Protocol} {S : Type 0} (w : WatchOf P S) (s : S) (q : P.Asked) → w.May s q
    → Goes w 1 s (asking P q) (λ t a. (t ≡ w.by s (exchange q a)) × Unit {0})
unfolding asking
one {P} w s q may = record { each = each }
  where
    each : EachHolds w 1 s (asking P q) (λ t a. (t ≡ w.by s (exchange q a)) × Unit {0})
    each es a whole =
        subst (λ xs. Holds w 1 s xs (λ t. (t ≡ w.by s (exchange q a)) × Unit {0})) (sym (one_answer q es a whole))
        (record { few = omega arith; fair = (may, tt); ends = (refl, tt) })

-- a question, and what comes behind its answer
pub asks_then : {P : Protocol} {S F : Type 0} {w : WatchOf P S} {s : S} {f : P.Gave → DialogueOf P F}
    {Post : S → F → Type 0} (k : ℕ)
    (q : P.Asked) → w.May s q → ((a : P.Gave) → Goes w k (w.by s (exchange q a)) (f a) Post)
    → Goes w (1 + k) s (and_then (asking P q) f) Post
asks_then {P} {S} {F} {w} {s} {f} {Post} k q may more =
    goes_on 1 k (λ a. w.by s (exchange q a)) (one w s q may) (λ a _. more a)
