-- Conversations, one system call after another.
use Rattle.std.proofs.Common.{◌≡◌, ◌++◌, Bool, true, false, if◌then◌else◌, List, [], ◌∷◌, refl, sym, ap, subst, ◌∙◌}
use Rattle.dialogue.specs.Dialogue.{DialogueOf, ExchangeOf, IsDriven, Protocol, RanOf, Talks, Whole, and_then, answers_of, asks, behind, came, due, ends, going, ran, without_signals}

-- ---- dialogues of parts

-- an answer to the first part
pub behind_then : {P : Protocol} {E F : Type 0} (q : P.Asked) (after : P.Gave → DialogueOf P E)
    (f : E → DialogueOf P F) (a : P.Gave)
    → behind q (λ x. and_then (after x) f) a ≡ and_then (behind q after a) f
unfolding and_then
behind_then {P} {E} {F} q after f a = by_case (P.again q a)
  where
    by_case : (b : Bool) → (if b then asks q (λ x. and_then (after x) f) else and_then (after a) f)
        ≡ and_then (if b then asks q after else after a) f
    by_case true = refl
    by_case false = refl

pub ran_ends : {P : Protocol} {E : Type 0} → (e : E) (answers : List P.Gave) → ran {P = P}
    (ends e) answers ≡ came e answers
unfolding ran
ran_ends e answers = refl

pub ran_then : {P : Protocol} {E F : Type 0} → (s : DialogueOf P E) (f : E → DialogueOf P F) (answers : List P.Gave)
    → ran (and_then s f) answers ≡ going (ran s answers) f
unfolding ran and_then
ran_then (ends e) f answers = refl
ran_then (asks q after) f [] = refl
ran_then (asks q after) f (a ∷ answers) =
    ap (λ s. ran s answers) (behind_then q after f a) ∙ ran_then (behind q after a) f answers

-- ---- who drives a dialogue

-- one answer more before these
shifted : {P : Protocol} {E : Type 0} → (q : P.Asked) (after : P.Gave → DialogueOf P E) (a : P.Gave)
    (before : List P.Gave)
    → (es : List (ExchangeOf P)) → IsDriven (asks q after) (a ∷ before) es → IsDriven (behind q after a) before es
unfolding ran
shifted q after a before [] h = tt
shifted q after a before (e ∷ es) h = (h.0, shifted q after a (before ++ (e.answer ∷ [])) es h.1)

due_is : {P : Protocol} {E : Type 0} → (p q : P.Asked) → ◌≡◌ {A = RanOf P E} (due p) (due q) → p ≡ q
due_is p q r = cc

pub driven : {P : Protocol} {E : Type 0} → (s : DialogueOf P E) (es : List (ExchangeOf P)) → IsDriven s [] es
    → Talks s es (λ rest. ran rest [] ≡ ran s (answers_of es))
unfolding ran Talks
driven (ends e) [] h = refl
driven (ends e) (x ∷ xs) h = absurd cc
driven (asks q after) [] h = refl
driven (asks q after) (x ∷ xs) h =
    (cc, driven (behind q after x.answer) xs (shifted q after x.answer [] xs h.1))

pub driven_whole : {P : Protocol} {E : Type 0} → (s : DialogueOf P E) (es : List (ExchangeOf P)) (e : E)
    (left : List P.Gave)
    → IsDriven s [] es → ran s (answers_of es) ≡ came e left → Whole s es e
unfolding ran Talks
driven_whole (ends v) [] e left h r = cc
driven_whole (ends v) (x ∷ xs) e left h r = absurd cc
driven_whole (asks q after) [] e left h r = absurd cc
driven_whole (asks q after) (x ∷ xs) e left h r =
    (cc, driven_whole (behind q after x.answer) xs e left (shifted q after x.answer [] xs h.1) r)

-- ---- checkpoints

-- behind the first part comes the second
pub passed : {P : Protocol} {E F : Type 0} → (s : DialogueOf P E) (f : E → DialogueOf P F) (es : List (ExchangeOf P))
    (v : E)
    → Whole s es v → Talks (and_then s f) es (λ rest. rest ≡ f v)
unfolding Talks and_then
passed (ends e) f [] v h = cc
passed (ends e) f (x ∷ xs) v h = absurd h
passed (asks q after) f [] v h = absurd cc
passed (asks q after) f (x ∷ xs) v h = (
  h.0,
  subst (λ s. Talks s xs (λ rest. rest ≡ f v)) (sym (behind_then q after f x.answer))
      (passed (behind q after x.answer) f xs v h.1),
)

-- one conversation goes on with another
pub joined : {P : Protocol} {E : Type 0} → (s t : DialogueOf P E) (es fs : List (ExchangeOf P))
    (End : DialogueOf P E → Type 0)
    → Talks s es (λ rest. rest ≡ t) → Talks t fs End → Talks s (es ++ fs) End
unfolding Talks
joined s t [] fs End h g = subst (λ x. Talks x fs End) (sym h) g
joined (ends e) t (x ∷ xs) fs End h g = absurd h
joined (asks q after) t (x ∷ xs) fs End h g = (h.0, joined (behind q after x.answer) t xs fs End h.1 g)

pub kept : {P : Protocol} {E F : Type 0} → (whole : DialogueOf P F) (before : List (ExchangeOf P))
    (part : DialogueOf P E) (after : E → DialogueOf P F)
    (es : List (ExchangeOf P)) (value : E) → Talks whole before (λ rest. rest ≡ and_then part after)
    → IsDriven part [] es → ran part (answers_of es) ≡ came value []
    → Talks whole (before ++ es) (λ rest. rest ≡ after value)
kept whole before part after es value h d r =
    joined whole (and_then part after) before es (λ rest. rest ≡ after value) h
    (passed part after es value (driven_whole part es value [] d r))

-- ---- signals

behind_signal : {P : Protocol} {E : Type 0} (q : P.Asked) (after : P.Gave → DialogueOf P E) (a : P.Gave)
    → P.again q a ≡ true
    → behind q after a ≡ asks q after
behind_signal q after a is = rw is refl

by_signal : {P : Protocol} {E : Type 0} (q : P.Asked) (after : P.Gave → DialogueOf P E) (x : ExchangeOf P)
    (xs : List (ExchangeOf P)) (b : Bool)
    → P.again x.asked x.answer ≡ b → q ≡ x.asked
    → ran (behind q after x.answer) (answers_of (without_signals xs)) ≡ ran (behind q after x.answer) (answers_of xs)
    → ran (asks q after) (answers_of (if b then without_signals xs else x ∷ without_signals xs))
    ≡ ran (behind q after x.answer) (answers_of xs)
unfolding ran
by_signal {P} q after x xs true is same more =
    ap (λ s. ran s (answers_of (without_signals xs)))
    (sym (behind_signal q after x.answer (ap (λ p. P.again p x.answer) same ∙ is))) ∙ more
by_signal {P} q after x xs false is same more = more

pub left_out : {P : Protocol} {E : Type 0} → (s : DialogueOf P E) (es : List (ExchangeOf P)) → IsDriven s [] es
    → ran s (answers_of (without_signals es)) ≡ ran s (answers_of es)
unfolding ran
left_out s [] h = refl
left_out (ends e) (x ∷ xs) h = absurd cc
left_out {P} (asks q after) (x ∷ xs) h =
    by_signal q after x xs (P.again x.asked x.answer) refl (due_is q x.asked h.0)
    (left_out (behind q after x.answer) xs (shifted q after x.answer [] xs h.1))
