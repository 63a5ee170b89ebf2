-- A whole conversation of parts is one of the first, and then one of the second.
use Rattle.std.proofs.Common.{◌≡◌, ◌++◌, List, [], ◌∷◌, refl, ap, subst}
use Rattle.dialogue.specs.Dialogue.{DialogueOf, ExchangeOf, Protocol, Talks, Whole, and_then, asks, behind, ends}
use Rattle.dialogue.proofs.TalkLemmas.{behind_then}

pub record Parts {P : Protocol} (E F : Type 0) (s : DialogueOf P E) (f : E → DialogueOf P F)
    (es : List (ExchangeOf P)) (r : F) : Type 0 where
  pub value : E
  pub first : List (ExchangeOf P)
  pub second : List (ExchangeOf P)
  pub all : es ≡ first ++ second
  pub came : Whole s first value
  pub goes : Whole (f value) second r

pub parts : {P : Protocol} {E F : Type 0} → (s : DialogueOf P E) (f : E → DialogueOf P F) (es : List (ExchangeOf P))
    (r : F)
    → Whole (and_then s f) es r → Parts E F s f es r
unfolding and_then Talks
parts (ends e) f es r h = record { value = e; first = []; second = es; all = refl; came = refl; goes = h }
parts (asks q after) f [] r h = absurd cc
parts (asks q after) f (x ∷ xs) r h =
    let p = parts (behind q after x.answer) f xs r
    (subst (λ s. Talks s xs (λ rest. rest ≡ ends r)) (behind_then q after f x.answer) h.1) in
    record {
      value = p.value;
      first = x ∷ p.first;
      second = p.second;
      all = ap (λ ys. x ∷ ys) p.all;
      came = (h.0, p.came);
      goes = p.goes;
    }

pub same_end : {P : Protocol} {E : Type 0} → (e r : E) → ◌≡◌ {A = DialogueOf P E} (ends e) (ends r) → e ≡ r
same_end e r h = cc
