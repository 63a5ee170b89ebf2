-- Texts that are a line, or its beginning by words.
use Rattle.std.proofs.Common.{◌≡◌, ℕ, zero, suc, Bool, true, false, List, [], ◌∷◌, ◌++◌, length, take, drop, refl, sym, ap, ◌∙◌, inl, inr}
use Rattle.std.specs.Prelude.{◌==◌, ◌||◌, ◌&&◌, ◌⊎◌, codes, decimal, nat_eq, slice_get, Some}
use Rattle.std.proofs.Math.Bool.{or-true}
use Rattle.std.proofs.Math.Seq.{take-append_seam}
use Rattle.std.specs.List.{list_any, starts_with}
use Rattle.std.proofs.lemmas.Bool.{and_from, and_parts}
use Rattle.std.proofs.lemmas.List.{append-nil, append_assoc, take-append-drop}
use Rattle.std.proofs.lemmas.Slice.Eq.{bytes_eq-Decides}
use Rattle.path_text.specs.Name.{same_bytes}
use Rattle.report_text.specs.Report.{reply_words}
use Rattle.event_log.specs.Words.{BLANK}
use Rattle.outcome_text.specs.Property.{is_blank, tells}
use Rattle.outcome_text.specs.Tellable.{meets, reply_heads, reply_start, meets_reply, RepliesPass}
use Rattle.outcome_text.proofs.Heads.{replies_have_heads}

-- what is left of a line after a word
abbrev at_word : List ℕ → Bool
at_word [] = true
at_word (b ∷ bs) = b == BLANK

-- a line that goes on from a text
record GoesOn (text line : List ℕ) : Type 0 where
  left : List ℕ
  is : line ≡ text ++ left
  word : at_word left ≡ true

blank_at : (line : List ℕ) (n : ℕ) → is_blank (slice_get line n) ≡ true → at_word (drop n line) ≡ true
blank_at [] zero e = refl
blank_at [] (suc n) e = refl
blank_at (b ∷ line) zero e = e
blank_at (b ∷ line) (suc n) e = blank_at line n e

goes_on : (text line : List ℕ) → tells text line ≡ true → GoesOn text line
goes_on text line e = by (same_bytes line text) refl e
  where
    by : (b : Bool) → same_bytes line text ≡ b → (b || (starts_with nat_eq line text && is_blank (slice_get line (length text)))) ≡ true → GoesOn text line
    by true same e = record { left = []; is = (bytes_eq-Decides line text).0 same ∙ sym (append-nil text); word = refl }
    by false other e =
        let both = and_parts (starts_with nat_eq line text) (is_blank (slice_get line (length text))) e in
        record {
          left = drop (length text) line;
          is = sym (take-append-drop (length text) line) ∙ ap (λ (front : List ℕ). front ++ drop (length text) line) (sym ((bytes_eq-Decides text (take (length text) line)).0 both.0));
          word = blank_at line (length text) both.1;
        }

seam : (text : List ℕ) (b : ℕ) (bs : List ℕ) → slice_get (text ++ b ∷ bs) (length text) ≡ Some b
seam [] b bs = refl
seam (a ∷ text) b bs = seam text b bs

-- and the text tells such a line
tells_left : (text left : List ℕ) → at_word left ≡ true → tells text (text ++ left) ≡ true
tells_left text [] word =
    ap (λ (b : Bool). b || (starts_with nat_eq (text ++ []) text && is_blank (slice_get (text ++ []) (length text))))
    ((bytes_eq-Decides (text ++ []) text).1 (append-nil text))
tells_left text (b ∷ bs) word =
    let line = text ++ b ∷ bs in
    ap (λ (c : Bool). same_bytes line text || c)
    (and_from (starts_with nat_eq line text) (is_blank (slice_get line (length text)))
    ((bytes_eq-Decides text (take (length text) line)).1 (sym (take-append_seam text (b ∷ bs)))) (ap is_blank (seam text b bs) ∙ word))
    ∙ or-true (same_bytes line text)

told : (text line : List ℕ) → GoesOn text line → tells text line ≡ true
told text line on = ap (tells text) on.is ∙ tells_left text on.left on.word

-- of two texts that a line goes on from one goes on from the other
two : (text start r s : List ℕ) → text ++ r ≡ start ++ s → at_word r ≡ true → at_word s ≡ true → GoesOn text start ⊎ GoesOn start text
two [] start r s e at_r at_s = inl (record { left = start; is = refl; word = by start e })
  where
    by : (start : List ℕ) → r ≡ start ++ s → at_word start ≡ true
    by [] e = refl
    by (b ∷ bs) e = sym (ap at_word e) ∙ at_r
two (a ∷ text) [] r s e at_r at_s = inr (record { left = a ∷ text; is = refl; word = ap at_word e ∙ at_s })
two (a ∷ text) (b ∷ start) r s e at_r at_s = by (two text start r s (cc e) at_r at_s)
  where
    same : a ≡ b
    same = cc e

    by : GoesOn text start ⊎ GoesOn start text → GoesOn (a ∷ text) (b ∷ start) ⊎ GoesOn (b ∷ start) (a ∷ text)
    by (inl on) = inl (record { left = on.left; is = ap (λ (c : ℕ). c ∷ start) (sym same) ∙ ap (λ (xs : List ℕ). a ∷ xs) on.is; word = on.word })
    by (inr on) = inr (record { left = on.left; is = ap (λ (c : ℕ). c ∷ text) same ∙ ap (λ (xs : List ℕ). b ∷ xs) on.is; word = on.word })

-- ---- replies

any_passes : (p q : List ℕ → Bool) (heads : List (List ℕ)) → ((head : List ℕ) → p head ≡ true → q head ≡ true) → list_any p heads ≡ true → list_any q heads ≡ true
any_passes p q [] on e = e
any_passes p q (head ∷ heads) on e = by (p head) refl e (any_passes p q heads on)
  where
    by : (b : Bool) → p head ≡ b → (b || list_any p heads) ≡ true → (list_any p heads ≡ true → list_any q heads ≡ true) → (q head || list_any q heads) ≡ true
    by true is e others = ap (λ (b : Bool). b || list_any q heads) (on head is)
    by false is e others = ap (λ (b : Bool). q head || b) (others e) ∙ or-true (q head)

start_on : (actor call : ℕ) (head left : List ℕ) → reply_start actor call (head ++ left) ≡ reply_start actor call head ++ left
unfolding reply_start
start_on actor call head left =
    let first = codes "reply " ++ decimal actor in
    let second = codes " " ++ decimal call in
    sym (append_assoc first (second ++ (codes " " ++ head)) left
    ∙ ap (λ (xs : List ℕ). first ++ xs) (append_assoc second (codes " " ++ head) left
    ∙ ap (λ (xs : List ℕ). second ++ xs) (append_assoc (codes " ") head left)))

pub replies_pass : RepliesPass
unfolding meets_reply
replies_pass text actor call outcome e =
    any_passes (λ head. tells head (reply_words outcome)) (λ head. meets text (reply_start actor call head)) reply_heads on (replies_have_heads outcome)
  where
    on : (head : List ℕ) → tells head (reply_words outcome) ≡ true → meets text (reply_start actor call head) ≡ true
    on head is =
        let start = reply_start actor call head in
        let of_head = goes_on head (reply_words outcome) is in
        let of_text = goes_on text (reply_start actor call (reply_words outcome)) e in
        by (two text start of_text.left of_head.left
        (sym of_text.is ∙ ap (reply_start actor call) of_head.is ∙ start_on actor call head of_head.left) of_text.word of_head.word)
      where
        by : GoesOn text (reply_start actor call head) ⊎ GoesOn (reply_start actor call head) text → meets text (reply_start actor call head) ≡ true
        by (inl on) = ap (λ (b : Bool). b || tells (reply_start actor call head) text) (told text (reply_start actor call head) on)
        by (inr on) = ap (λ (b : Bool). tells text (reply_start actor call head) || b) (told (reply_start actor call head) text on) ∙ or-true (tells text (reply_start actor call head))
