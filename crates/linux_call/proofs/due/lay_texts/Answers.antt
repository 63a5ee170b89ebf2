use Rattle.std.proofs.Common.{◌≡◌, ◌≤◌, ◌<◌, ◌+◌, ℕ, List, take, length, ◌⊎◌, inl, inr, sym, ap, subst, ◌∙◌, arith}
use Rattle.std.specs.Borrow.{Bor}
use Rattle.std.proofs.lemmas.List.{take-take}
use Rattle.dialogue.specs.Dialogue.{asked_of}
use Rattle.dialogue.specs.declared.calls.Question.{Question}
use Rattle.dialogue.specs.declared.calls.Question.TheVariants.{MakeLink, Rename}
use Rattle.linux_call.specs.Due.{HasBoth, HasTexts, IsLaid, SECOND}
use Rattle.linux_call.proofs.due.lay_texts.Goals as goal
use Rattle.linux_call.proofs.due.lay_texts.Goals.{in-MakeLink, in-MakeLink-2}

-- what is written behind the first text leaves it
stays : (old new : List ℕ) (n k : ℕ) → n ≤ k → take k new ≡ take k old → take n new ≡ take n old
stays old new n k le h = sym (take-take n k new le) ∙ ap (take n) h ∙ take-take n k old le

both : (before first room name text : List ℕ) → length first ≡ length before → length room ≡ length first
    → (0 + length name < length before → IsLaid first 0 name)
    → (SECOND + length text < length first → IsLaid room SECOND text) → take SECOND room ≡ take SECOND first
    → HasBoth name text room
both before first room name text l m laid second front = λ short fits.
    let le : length name + 1 ≤ SECOND = omega (arith, short) in
    let one = laid (omega (arith, short, fits, l, m)) in
    (stays first room (length name + 1) SECOND le front ∙ one, second (omega (arith, fits, m)))

-- a text in memory
abbrev Name : Type 0
Name = Bor (List ℕ)

abbrev IsOfTwo : Question → Name → Name → Type 0
IsOfTwo q name text =
    ((d : ℕ) × (q ≡ MakeLink d name text)) ⊎ ((d : ℕ) × (e : ℕ) × (f : ℕ) × (q ≡ Rename d name e text f))

texts_of_two : (q : Question) (n m name text : Name) (room : List ℕ) → IsOfTwo q name text → n ≡ name → m ≡ text
    → HasBoth n.now m.now room → HasTexts (asked_of q) room
texts_of_two q n m name text room (inl h) a b laid =
    subst (λ p. HasTexts (asked_of p) room) (sym h.1)
    (subst (λ x. HasBoth x.now text.now room) a (subst (λ x. HasBoth n.now x.now room) b laid))
texts_of_two q n m name text room (inr h) a b laid =
    subst (λ p. HasTexts (asked_of p) room) (sym h.3)
    (subst (λ x. HasBoth x.now text.now room) a (subst (λ x. HasBoth n.now x.now room) b laid))

-- src/due.rt:344:1
pub returns-in-MakeLink : goal.returns-in-MakeLink
returns-in-MakeLink c = λ _.
    let one = c.lay-in-MakeLink in
    let two = c.lay-in-MakeLink-2 in
    let room = two.new.room in
    let laid = both c.args.room.now one.new.room room c.in-MakeLink-1.name.now c.in-MakeLink-1.text.now
    one.auto.room two.auto.room one.ensures.laid two.ensures.laid two.ensures.front in
    elim c.in-MakeLink-1.branch [
      | in-MakeLink w ↦
          texts_of_two _ _ _ w.in-MakeLink.name w.in-MakeLink.text room w.in-MakeLink.is w.name-is w.text-is laid
      | in-MakeLink-2 w ↦
          texts_of_two _ _ _ w.in-MakeLink.name w.in-MakeLink.text room w.in-MakeLink.is w.name-is w.text-is laid
    ]
