-- Names cut out of a buffer: at each place, one more, one less, and what two equal lists of them say.
use Rattle.std.proofs.Common.{◌≡◌, ℕ, Bool, false, ◌==◌, zero, suc, nat_eq, ◌+◌, ◌-◌, ◌≤◌, ◌<◌, List, [], ◌∷◌, ◌++◌, length, get_or, take, drop, refl, sym, ap, ◌∙◌, arith}
use Rattle.std.specs.Prelude.{All, None, Some, slice_get, IsTrue, ◌↔◌}
use Rattle.std.specs.Cmp.Lexicographic.{pointwise, bytes_decides}
use Rattle.std.proofs.lemmas.Bool.Decides.{nat_tests}
use Rattle.std.specs.List.{concat}
use Rattle.std.proofs.lemmas.List.{length-append, length-take-le, length-drop, take-take, take_all, take-append-le, take-append-drop, drop_all, drop_at, drop-append-le, drop-drop, drop-take}
use Rattle.std.proofs.lemmas.List.Elements.{All-push, All-take, All-get_or}
use Rattle.std.proofs.lemmas.Option.{slice_get_within, get_or_from_slice_get}
use Rattle.path_text.specs.Name.{name_fault}
use Rattle.path_text.specs.Names.{names_cut, start_at, RiseTo, IsNameBuffer}

pub length_cut : (s : ℕ) (ends bytes : List ℕ) → length (names_cut s ends bytes) ≡ length ends
length_cut s [] bytes = refl
length_cut s (e ∷ ends) bytes = ap (λ n. suc n) (length_cut e ends bytes)

rise_le : (s : ℕ) (ends : List ℕ) (size : ℕ) → RiseTo s ends size → s ≤ size
rise_le s [] size h = omega (arith, h)
rise_le s (e ∷ ends) size h = omega (arith, h.0, rise_le e ends size h.1)

pub is_empty_decided : (s : ℕ) (ends bytes : List ℕ) (tested : Bool) → tested ≡ (length ends == 0) → IsTrue tested ↔ (names_cut s ends bytes ≡ [])
is_empty_decided s [] bytes tested h = ((λ t. refl), (λ q. h))
is_empty_decided s (e ∷ ends) bytes tested h = ((λ t. grind (arith, nat_tests)), (λ q. cc))

-- ---- one of them

pub start_at_before : (s : ℕ) (ends : List ℕ) (at d : ℕ) → at < length ends → start_at s ends (suc at) ≡ get_or ends at d
start_at_before s [] at d h = absurd (omega (arith, h))
start_at_before s (e ∷ ends) zero d h = refl
start_at_before s (e ∷ ends) (suc at) d h = start_at_before e ends at d (omega (arith, h))

pub start_le : (s : ℕ) (ends : List ℕ) (size at d : ℕ) → RiseTo s ends size → at < length ends → (start_at s ends at ≤ get_or ends at d) × (get_or ends at d ≤ size)
start_le s [] size at d h k = absurd (omega (arith, k))
start_le s (e ∷ ends) size zero d h k = (h.0, rise_le e ends size h.1)
start_le s (e ∷ ends) size (suc at) d h k = start_le e ends size at d h.1 (omega (arith, k))

pub name_at : (s : ℕ) (ends bytes : List ℕ) (at d : ℕ) → at < length ends → slice_get (names_cut s ends bytes) at ≡ Some (take (get_or ends at d - start_at s ends at) (drop (start_at s ends at) bytes))
name_at s [] bytes at d h = absurd (omega (arith, h))
name_at s (e ∷ ends) bytes zero d h = refl
name_at s (e ∷ ends) bytes (suc at) d h = name_at e ends bytes at d (omega (arith, h))

-- each element of a list that is had by its place
pub all_at : {X : Type 0} (P : X → Type 0) (xs : List X) (at : ℕ) (x : X) → All P xs → slice_get xs at ≡ Some x → P x
all_at P xs at x h e = rw (sym (get_or_from_slice_get xs at x x e)) (All-get_or P xs at x (slice_get_within xs at x e) h)

-- ---- one more

pub cut_of_more : (s e : ℕ) (bytes more : List ℕ) → e ≤ length bytes → s ≤ e → take (e - s) (drop s (bytes ++ more)) ≡ take (e - s) (drop s bytes)
cut_of_more s e bytes more h k =
    ap (take (e - s)) (drop-append-le s bytes more (omega (arith, h, k)))
    ∙ take-append-le (e - s) (drop s bytes) more (omega (arith, h, k, length-drop s bytes))

cut_last : (s : ℕ) (bytes name : List ℕ) → s ≡ length bytes → take (length (bytes ++ name) - s) (drop s (bytes ++ name)) ≡ name
cut_last s bytes name h =
    ap (take (length (bytes ++ name) - s)) (drop_at bytes name s (sym h))
    ∙ take_all (length (bytes ++ name) - s) name (omega (arith, h, length-append bytes name))

pub names_cut_push : (s : ℕ) (ends bytes name : List ℕ) → RiseTo s ends (length bytes) → names_cut s (ends ++ length (bytes ++ name) ∷ []) (bytes ++ name) ≡ names_cut s ends bytes ++ name ∷ []
names_cut_push s [] bytes name h = ap (λ n. n ∷ []) (cut_last s bytes name h)
names_cut_push s (e ∷ ends) bytes name h =
    ap (λ n. n ∷ names_cut e (ends ++ length (bytes ++ name) ∷ []) (bytes ++ name)) (cut_of_more s e bytes name (rise_le e ends (length bytes) h.1) h.0)
    ∙ ap (λ ns. take (e - s) (drop s bytes) ∷ ns) (names_cut_push e ends bytes name h.1)

rise_push : (s : ℕ) (ends : List ℕ) (size more : ℕ) → RiseTo s ends size → size ≤ more → RiseTo s (ends ++ more ∷ []) more
rise_push s [] size more h k = (omega (arith, h, k), refl)
rise_push s (e ∷ ends) size more h k = (h.0, rise_push e ends size more h.1 k)

pub buffer_push : (bytes ends name : List ℕ) → IsNameBuffer bytes ends → name_fault name ≡ None → IsNameBuffer (bytes ++ name) (ends ++ length (bytes ++ name) ∷ [])
buffer_push bytes ends name h valid = record {
  rising = rise_push 0 ends (length bytes) (length (bytes ++ name)) h.rising (omega (arith, length-append bytes name));
  valid = rw (names_cut_push 0 ends bytes name h.rising) (All-push (λ n. name_fault n ≡ None) (names_cut 0 ends bytes) name h.valid valid);
}

-- ---- fewer

cut_of_fewer : (s e m : ℕ) (bytes : List ℕ) → s ≤ e → e ≤ m → take (e - s) (drop s (take m bytes)) ≡ take (e - s) (drop s bytes)
cut_of_fewer s e m bytes h k =
    let whole : s + (m - s) ≡ m = omega (arith, h, k) in
    ap (λ n. take (e - s) (drop s (take n bytes))) (sym whole)
    ∙ ap (take (e - s)) (drop-take s (m - s) bytes)
    ∙ take-take (e - s) (m - s) (drop s bytes) (omega (arith, h, k))

names_cut_take : (s : ℕ) (ends bytes : List ℕ) (m : ℕ) → RiseTo s ends m → names_cut s ends (take m bytes) ≡ names_cut s ends bytes
names_cut_take s [] bytes m h = refl
names_cut_take s (e ∷ ends) bytes m h =
    ap (λ n. n ∷ names_cut e ends (take m bytes)) (cut_of_fewer s e m bytes h.0 (rise_le e ends m h.1))
    ∙ ap (λ ns. take (e - s) (drop s bytes) ∷ ns) (names_cut_take e ends bytes m h.1)

take-names_cut : (s k : ℕ) (ends bytes : List ℕ) → names_cut s (take k ends) bytes ≡ take k (names_cut s ends bytes)
take-names_cut s zero ends bytes = refl
take-names_cut s (suc k) [] bytes = refl
take-names_cut s (suc k) (e ∷ ends) bytes = ap (λ ns. take (e - s) (drop s bytes) ∷ ns) (take-names_cut e k ends bytes)

rise_take : (s k : ℕ) (ends : List ℕ) (size : ℕ) → RiseTo s ends size → RiseTo s (take k ends) (start_at s ends k)
rise_take s zero ends size h = refl
rise_take s (suc k) [] size h = refl
rise_take s (suc k) (e ∷ ends) size h = (h.0, rise_take e k ends size h.1)

start_at_le : (s k : ℕ) (ends : List ℕ) (size : ℕ) → RiseTo s ends size → start_at s ends k ≤ size
start_at_le s zero ends size h = rise_le s ends size h
start_at_le s (suc k) [] size h = rise_le s [] size h
start_at_le s (suc k) (e ∷ ends) size h = start_at_le e k ends size h.1

-- the first names, and the bytes up to where the last of them ends
pub names_cut_first : (ends bytes : List ℕ) (k : ℕ) → IsNameBuffer bytes ends → names_cut 0 (take k ends) (take (start_at 0 ends k) bytes) ≡ take k (names_cut 0 ends bytes)
names_cut_first ends bytes k h =
    names_cut_take 0 (take k ends) bytes (start_at 0 ends k) (rise_take 0 k ends (length bytes) h.rising)
    ∙ take-names_cut 0 k ends bytes

pub buffer_first : (bytes ends : List ℕ) (k : ℕ) → IsNameBuffer bytes ends → IsNameBuffer (take (start_at 0 ends k) bytes) (take k ends)
buffer_first bytes ends k h = record {
  rising = rw (length-take-le (start_at 0 ends k) bytes (start_at_le 0 k ends (length bytes) h.rising)) (rise_take 0 k ends (length bytes) h.rising);
  valid = rw (names_cut_first ends bytes k h) (All-take (λ n. name_fault n ≡ None) k (names_cut 0 ends bytes) h.valid);
}

-- ---- the names tell the buffer

-- where each name ends
abbrev ends_of : ℕ → List (List ℕ) → List ℕ
ends_of s [] = []
ends_of s (n ∷ ns) = (s + length n) ∷ ends_of (s + length n) ns

end_of : (s e : ℕ) (bytes : List ℕ) → s ≤ e → e ≤ length bytes → s + length (take (e - s) (drop s bytes)) ≡ e
end_of s e bytes h k = omega (arith, h, k, length-take-le (e - s) (drop s bytes) (omega (arith, h, k, length-drop s bytes)))

ends_of-names_cut : (s : ℕ) (ends bytes : List ℕ) → RiseTo s ends (length bytes) → ends_of s (names_cut s ends bytes) ≡ ends
ends_of-names_cut s [] bytes h = refl
ends_of-names_cut s (e ∷ ends) bytes h =
    ap (λ n. n ∷ ends_of n (names_cut e ends bytes)) (end_of s e bytes h.0 (rise_le e ends (length bytes) h.1))
    ∙ ap (λ ns. e ∷ ns) (ends_of-names_cut e ends bytes h.1)

concat-names_cut : (s : ℕ) (ends bytes : List ℕ) → RiseTo s ends (length bytes) → concat (names_cut s ends bytes) ≡ drop s bytes
concat-names_cut s [] bytes h = sym (drop_all s bytes (omega (arith, h)))
concat-names_cut s (e ∷ ends) bytes h =
    let rest : drop (e - s) (drop s bytes) ≡ drop e bytes = drop-drop (e - s) s bytes ∙ ap (λ n. drop n bytes) (omega (arith, h.0)) in
    ap (λ bs. take (e - s) (drop s bytes) ++ bs) (concat-names_cut e ends bytes h.1 ∙ sym rest)
    ∙ take-append-drop (e - s) (drop s bytes)

same_ends : (bytes ends more others : List ℕ) → IsNameBuffer bytes ends → IsNameBuffer more others → names_cut 0 ends bytes ≡ names_cut 0 others more → ends ≡ others
same_ends bytes ends more others h k e =
    sym (ends_of-names_cut 0 ends bytes h.rising) ∙ ap (ends_of 0) e ∙ ends_of-names_cut 0 others more k.rising

same_buffer : (bytes ends more others : List ℕ) → IsNameBuffer bytes ends → IsNameBuffer more others → names_cut 0 ends bytes ≡ names_cut 0 others more → bytes ≡ more
same_buffer bytes ends more others h k e =
    sym (concat-names_cut 0 ends bytes h.rising) ∙ ap concat e ∙ concat-names_cut 0 others more k.rising

pub same_decided : (bytes ends more others : List ℕ) (tested : Bool) → IsNameBuffer bytes ends → IsNameBuffer more others → bytes ≡ more → tested ≡ pointwise nat_eq ends others → IsTrue tested ↔ (names_cut 0 ends bytes ≡ names_cut 0 others more)
same_decided bytes ends more others tested h k b e =
    let d = bytes_decides ends others in (
      (λ t. ap (λ bs. names_cut 0 ends bs) b ∙ ap (λ es. names_cut 0 es more) (d.0 (sym e ∙ t))),
      (λ q. e ∙ d.1 (same_ends bytes ends more others h k q)),
    )

pub other_decided : (bytes ends more others : List ℕ) (tested : Bool) → IsNameBuffer bytes ends → IsNameBuffer more others → tested ≡ pointwise nat_eq bytes more → tested ≡ false → IsTrue tested ↔ (names_cut 0 ends bytes ≡ names_cut 0 others more)
other_decided bytes ends more others tested h k e f =
    let d = bytes_decides bytes more in
    ((λ t. cc), (λ q. e ∙ d.1 (same_buffer bytes ends more others h k q)))
