-- Where a text goes on behind a name, and a text that is laid before it.
use Rattle.std.proofs.Common.{◌≡◌, ℕ, ◌≤◌, ◌<◌, ◌+◌, ◌-◌, suc, Bool, true, false, cond, if◌then◌else◌, List, [], ◌∷◌, ◌++◌, length, take, drop, set, ap, sym, refl, subst, ◌∙◌, arith, take-take, take-append-drop, length-drop, length-append, length-take, length-take-le, take_at, drop_at, eq-eqb, get_or, ◌⊎◌}
use Rattle.std.specs.Prelude.{not, ◌==◌, ◌&&◌}
use Rattle.std.specs.List.{list_all, list_any}
use Rattle.std.proofs.Math.Seq.{paste}
use Rattle.std.proofs.lemmas.Bool.{cond-false, cond-true, ne_eqb}
use Rattle.std.proofs.lemmas.List.{drop_all, drop-drop, drop-set, drop-take, take_all, take-append-le}
use Rattle.std.proofs.lemmas.List.Edits.{length-paste, take-paste}
use Rattle.path_text.specs.declared.name.TheConstants.{SLASH}
use Rattle.system_calls.proofs.PlaceLemmas.{last_drop}
use Rattle.open_or_make.specs.Paths.{before_rest, directory_length, kept_length, slashes_size, way}
use Rattle.open_or_make.specs.Promises.{LinksLead}

-- ---- a text before what comes behind

take_one_more : (n x : ℕ) (xs : List ℕ) → take (1 + n) (x ∷ xs) ≡ x ∷ take n xs
take_one_more n x xs = let e : 1 + n ≡ suc n = omega arith in ap (λ k. take k (x ∷ xs)) e

pub take_both : (a b : ℕ) (xs : List ℕ) → take (a + b) xs ≡ take a xs ++ take b (drop a xs)
take_both a b xs =
    let first : take a (take (a + b) xs) ≡ take a xs = take-take a (a + b) xs (omega arith) in
    sym (take-append-drop a (take (a + b) xs))
    ∙ (ap (λ (l : List ℕ). l ++ drop a (take (a + b) xs)) first
    ∙ ap (λ (l : List ℕ). take a xs ++ l) (drop-take a b xs))

pub way_made : (room : List ℕ) (at end size n : ℕ) → at + n ≡ end → end ≤ length room → size + 1 + n ≤ length room
    → take (1 + n) (drop size (set (paste room (size + 1) (drop at room) n) size SLASH)) ≡ SLASH ∷ drop at
    (take end room)
way_made room at end size n is within fits =
    let moved = paste room (size + 1) (drop at room) n in
    let left : n ≤ length (drop at room) = omega (arith, length-drop at room, is, within) in
    let long : length moved ≡ length room = length-paste room (size + 1) (drop at room) n (omega (arith, fits)) left in
    let set_is : drop size (set moved size SLASH) ≡ SLASH ∷ drop (size + 1) moved = drop-set moved size SLASH
    (omega (arith, long, fits)) in
    let both : take (size + 1 + n) moved ≡ take (size + 1) room ++ take n (drop at room) = take-paste room (size + 1)
    (drop at room) n (omega (arith, fits)) left in
    let behind : take n (drop (size + 1) moved) ≡ take n (drop at room) =
    sym (drop-take (size + 1) n moved) ∙ (ap (drop (size + 1)) both
    ∙ drop_at (take (size + 1) room) (take n (drop at room)) (size + 1)
    (length-take-le (size + 1) room (omega (arith, fits)))) in
    let tail : take n (drop at room) ≡ drop at (take end room) = sym (drop-take at n room)
    ∙ ap (λ k. drop at (take k room)) is in
    ap (take (1 + n)) set_is
    ∙ (take_one_more n SLASH (drop (size + 1) moved) ∙ ap (λ (l : List ℕ). SLASH ∷ l) (behind ∙ tail))

-- how long a text is before so many bytes
pub joined_before : (text tail : List ℕ) (n : ℕ) → length tail ≡ n
    → length (before_rest text tail) ≡ (if n == 0 then length text else length text + 1 + n)
joined_before text [] n is = sym (cond-true (n == 0) (length text) (length text + 1 + n) (eq-eqb n 0 (sym is)))
joined_before text (b ∷ bs) n is =
    let long : length (text ++ SLASH ∷ b ∷ bs) ≡ length text + 1 + n = omega
    (arith, length-append text (SLASH ∷ b ∷ bs), is) in
    long ∙ sym (cond-false (n == 0) (length text) (length text + 1 + n) (ne_eqb n 0 (λ none. omega (arith, none, is))))

-- where something comes behind
pub laid_some : (text tail before after : List ℕ) (n : ℕ) → length tail ≡ n → 0 < n
    → take (1 + n) (drop (length text) before) ≡ SLASH ∷ tail
    → take (length text) after ≡ text → drop (length text) after ≡ drop (length text) before
    → take (length text + 1 + n) after ≡ before_rest text tail
laid_some text [] before after n is some way first rest = absurd (omega (arith, is, some))
laid_some text (b ∷ bs) before after n is some way first rest =
    let sum : length text + 1 + n ≡ length text + (1 + n) = omega arith in
    ap (λ k. take k after) sum ∙ (take_both (length text) (1 + n) after
    ∙ (ap (λ (l : List ℕ). l ++ take (1 + n) (drop (length text) after)) first
    ∙ ap (λ (l : List ℕ). text ++ l) (ap (take (1 + n)) rest ∙ way)))

tail_size : (room : List ℕ) (at end : ℕ) → end ≤ length room → length (drop at (take end room)) ≡ end - at
tail_size room at end within = omega (arith, length-drop at (take end room), length-take-le end room within)

pub laid_way : (text room before after : List ℕ) (at end : ℕ) → end ≤ length room → at < end
    → take (1 + (end - at)) (drop (length text) before) ≡ SLASH ∷ drop at (take end room)
    → take (length text) after ≡ text → drop (length text) after ≡ drop (length text) before
    → take (if (end - at) == 0 then length text else length text + 1 + (end - at)) after ≡ before_rest text
    (drop at (take end room))
laid_way text room before after at end within some way first rest =
    ap (λ k. take k after) (cond-false ((end - at) == 0) (length text) (length text + 1 + (end - at))
    (ne_eqb (end - at) 0 (λ none. omega (arith, none, some))))
    ∙ laid_some text (drop at (take end room)) before after (end - at) (tail_size room at end within)
    (omega (arith, some)) way first rest

pub laid_none : (text room after : List ℕ) (at end : ℕ) → end ≤ length room → end ≤ at → take (length text) after ≡ text
    → take (if (end - at) == 0 then length text else length text + 1 + (end - at)) after ≡ before_rest text
    (drop at (take end room))
laid_none text room after at end within none first =
    let zero : end - at ≡ 0 = omega (arith, none) in
    ap (λ k. take k after) (cond-true ((end - at) == 0) (length text) (length text + 1 + (end - at))
    (eq-eqb (end - at) 0 zero))
    ∙ (first ∙ ap (before_rest text)
    (sym (drop_all at (take end room) (omega (arith, none, length-take-le end room within)))))

-- ---- a text in the middle of a path

laid_behind : (front size : ℕ) (room part post text : List ℕ) → front ≤ length room → take size part ≡ text
    → size ≡ length text → take (front + size) (take front room ++ (part ++ post)) ≡ take front room ++ text
laid_behind front size room part post text within is long =
    let first : length (take front room) ≡ front = length-take-le front room within in
    let fits : size ≤ length part = omega (arith, long, ap length is, length-take size part) in
    take_both front size (take front room ++ (part ++ post))
    ∙ (ap (λ (l : List ℕ). l ++ take size (drop front (take front room ++ (part ++ post))))
    (take_at (take front room) (part ++ post) front first)
    ∙ ap (λ (l : List ℕ). take front room ++ l)
    (ap (take size) (drop_at (take front room) (part ++ post) front first)
    ∙ (take-append-le size part post fits ∙ is)))

rest_at_place : (room : List ℕ) (front at end : ℕ) → front ≤ at → at ≤ end → end ≤ length room
    → drop (at - front) (take (end - front) (take (length room - front) (drop front room))) ≡ drop at (take end room)
rest_at_place room front at end before within fits =
    let sum : front + (end - front) ≡ end = omega (arith, before, within) in
    let place : front + (at - front) ≡ at = omega (arith, before) in
    ap (λ (l : List ℕ). drop (at - front) (take (end - front) l))
    (take_all (length room - front) (drop front room) (omega (arith, length-drop front room)))
    ∙ (ap (drop (at - front)) (sym (drop-take front (end - front) room) ∙ ap (λ n. drop front (take n room)) sum)
    ∙ (drop-drop (at - front) front (take end room) ∙ ap (λ n. drop n (take end room)) place))

abbrev size_before : ℕ → List ℕ → ℕ
size_before rest text = if rest == 0 then length text else length text + 1 + rest

way_size : (room text : List ℕ) (front at end : ℕ) → front ≤ at → at ≤ end → end ≤ length room
    → length (way (take end room) text front at) ≡ front + size_before (end - at) text
way_size room text front at end before within fits =
    let tail = drop at (take end room) in
    let size = joined_before text tail (end - at) (tail_size room at end fits) in
    length-append (take front (take end room)) (before_rest text tail)
    ∙ (ap (λ k. k + length (before_rest text tail))
    (length-take-le front (take end room) (omega (arith, length-take-le end room fits, before, within)))
    ∙ ap (λ k. front + k) size)

pub way_fits : (room text : List ℕ) (front at end : ℕ) → front ≤ at → at ≤ end → end ≤ length room
    → length (way (take end room) text front at) ≤ length room
    → size_before (end - front - (at - front)) text ≤ length (take (length room - front) (drop front room))
way_fits room text front at end before within fits less =
    let left : end - front - (at - front) ≡ end - at = omega (arith, before, within) in
    let size = way_size room text front at end before within fits in
    let some : size_before (end - at) text ≤ length room - front = omega (arith, size, less) in
    let long : length (take (length room - front) (drop front room)) ≡ length room - front =
    length-take-le (length room - front) (drop front room) (omega (arith, length-drop front room)) in
    subst (λ k. size_before (end - front - (at - front)) text ≤ k) (sym long)
    (subst (λ k. size_before k text ≤ length room - front) (sym left) some)

-- the first bytes stay, and what was laid comes behind
pub lay_way : (room part post text : List ℕ) (front at end : ℕ) → front ≤ at → at ≤ end → end ≤ length room
    → take (size_before (end - front - (at - front)) text) part
    ≡ before_rest text (drop (at - front) (take (end - front) (take (length room - front) (drop front room))))
    → take (length (way (take end room) text front at)) (take front room ++ (part ++ post))
    ≡ way (take end room) text front at
lay_way room part post text front at end before within fits laid =
    let tail = drop at (take end room) in
    let left : end - front - (at - front) ≡ end - at = omega (arith, before, within) in
    let part_is : take (size_before (end - at) text) part ≡ before_rest text tail =
    ap (λ k. take (size_before k text) part) (sym left)
    ∙ (laid ∙ ap (before_rest text) (rest_at_place room front at end before within fits)) in
    let size = joined_before text tail (end - at) (tail_size room at end fits) in
    let inside : front ≤ length room = omega (arith, before, within, fits) in
    ap (λ k. take k (take front room ++ (part ++ post))) (way_size room text front at end before within fits)
    ∙ (laid_behind front (size_before (end - at) text) room part post (before_rest text tail) inside part_is (sym size)
    ∙ ap (λ (l : List ℕ). l ++ before_rest text tail) (sym (take-take front end room (omega (arith, before, within)))))

-- ---- slashes behind a name

-- the slashes that a text begins with are slashes
only_in : (b : Bool) (x : ℕ) (xs : List ℕ) → b ≡ (x == SLASH)
    → list_all (λ y. y == SLASH) (take (slashes_size xs) xs) ≡ true
    → list_all (λ y. y == SLASH) (take (cond (not (not b)) (1 + slashes_size xs) 0) (x ∷ xs)) ≡ true
only_in true x xs is rest =
    ap (list_all (λ y. y == SLASH)) (take_one_more (slashes_size xs) x xs)
    ∙ (ap (λ c. c && list_all (λ y. y == SLASH) (take (slashes_size xs) xs)) (sym is) ∙ rest)
only_in false x xs is rest = refl

pub only_slashes : (xs : List ℕ) → list_all (λ y. y == SLASH) (take (slashes_size xs) xs) ≡ true
only_slashes [] = refl
only_slashes (x ∷ xs) = only_in (x == SLASH) x xs refl (only_slashes xs)

-- ---- a link at the path's end

pub directory_at : (path : List ℕ) (at : ℕ) → at ≤ length path → list_any (λ b. b == SLASH) (drop at path) ≡ false
    → (at ≡ 0) ⊎ ((get_or path (at - 1) 0 == SLASH) ≡ true) → at ≡ directory_length path
directory_at path at within none first =
    omega (arith, within, ap length (last_drop path at within none first), length-drop at path)

pub links-lead : LinksLead
links-lead path text =
    ap (λ (rest : List ℕ). take (kept_length path text) path ++ before_rest text rest)
    (drop_all (length path) path (omega arith))
