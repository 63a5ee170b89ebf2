-- Where a link leads: its text stands in the place of its name.
use Rattle.std.proofs.Common.{◌≡◌, ◌≤◌, ℕ, ◌+◌, List, [], ◌∷◌, ◌++◌, Bool, true, false, cond, ◌||◌, if◌then◌else◌, refl, sym, ap, subst, ◌∙◌, arith, nat_lt, length, take, drop, take-take, take-append-drop, length-take, length-drop, append_assoc, append-nil}
use Rattle.std.specs.Prelude.{◌==◌, not, suc}
use Rattle.std.specs.List.{position_or_len}
use Rattle.path_text.specs.declared.name.TheConstants.{SLASH}
use Rattle.std.proofs.lemmas.Bool.{false≢true, ltb-true, ltb-false}
use Rattle.std.proofs.lemmas.List.{drop-append-le, drop-drop, drop_all, take_min}
use Rattle.path_text.specs.Text.{begins_with_slash, is_empty, name_size}
use Rattle.system_calls.specs.Errors.{EAGAIN, EINVAL, ENOENT}
use Rattle.system_calls.specs.Tries.{is_due, pause_after}
use Rattle.open_or_make.specs.Pass.{STEP_MAKE_FILE, STEP_READ_LINK}
use Rattle.make_through_links.specs.Asking.{reads_end, reads_link}
use Rattle.make_through_links.specs.Ends.{again, followed, followed_at_end, front_for, led, led_by, link_error, unparted, STEP_MAKE_DIR}
use Rattle.make_through_links.specs.Pass.{end_read, link_read}
use Rattle.open_or_make.specs.Paths.{before_rest, rest_at, slashes_size, way}
use Rattle.make_through_links.specs.Promises.{IsLed, Leads, LinksLead}
use Rattle.make_through_links.specs.Seen.{May, Seen, Wish, missing, text_for}
use Rattle.open_or_make.specs.declared.asking.Outcome.{Outcome}
use Rattle.make_through_links.specs.declared.making.Came.TheVariants.{Failed, Fails, Again, Led}
use Rattle.make_through_links.specs.declared.making.Making.{Making}
use Rattle.open_or_make.proofs.PathLemmas.{only_slashes, take_both}

again_stays : (w : Wish) (s : Seen) (dir link : List ℕ) (m : Making) → Leads w s dir link (again m)
again_stays w s dir link m = by_case (is_due m.tries m.may_retry EAGAIN false)
  where
    by_case : (b : Bool) → Leads w s dir link
        (if b then Again (record m { pause = pause_after m.tries; tries = m.tries + 1 })
        else Fails EAGAIN STEP_MAKE_DIR)
    by_case true = tt
    by_case false = tt

led_leads : (w : Wish) (s : Seen) (dir link : List ℕ) (m : Making) (n rest : ℕ) → m.links ≡ s.making.links
    → IsLed dir s.path (way s.path (text_for w s.making) (front_for s.path (text_for w s.making) n) rest)
    (text_for w s.making) link
    → Leads w s dir link (led m s.path n rest (text_for w s.making))
led_leads w s dir link m n rest links h =
    by_case (link_error m.links (length (way s.path (text_for w s.making) front rest)) == 0)
  where
    front : ℕ
    front = front_for s.path (text_for w s.making) n

    by_case : (none : Bool) → Leads w s dir link
        (if none then Led (led_by m s.path front rest (text_for w s.making)) front rest
        else Fails (link_error m.links (length (way s.path (text_for w s.making) front rest))) STEP_READ_LINK)
    by_case true = (h, ap (λ k. k + 1) links)
    by_case false = tt

-- the text comes behind the path of its directory, or at the beginning
leads_so : (path dir text tail : List ℕ) (n : ℕ) → take n path ≡ dir
    → take (front_for path text n) path ++ tail ≡ (if begins_with_slash text then [] else dir) ++ tail
leads_so path dir text tail n is = ap (λ l. l ++ tail) (by_case (begins_with_slash text))
  where
    by_case : (b : Bool) → take (length (take (if b then 0 else n) path)) path ≡ (if b then [] else dir)
    by_case true = refl
    by_case false = ap (λ k. take k path) (length-take n path) ∙ (take_min n path ∙ is)

named : (n : ℕ) (above : List ℕ) → (name_size (drop n above) == 0) ≡ false → n ≤ length above
named n above some = by_case (nat_lt n (length above)) refl
  where
    by_case : (b : Bool) → nat_lt n (length above) ≡ b → n ≤ length above
    by_case true is = let less = ltb-true n (length above) is in omega (arith, less)
    by_case false is =
        let none = drop_all n above (ltb-false n (length above) is) in
        absurd (false≢true (sym some ∙ ap (λ l. name_size l == 0) none))

one_on : (b : Bool) (n size : ℕ) → n ≤ size → cond (not b) (1 + n) 0 ≤ suc size
one_on true n size less = omega arith
one_on false n size less = omega (arith, less)

place_le : (p : ℕ → Bool) (xs : List ℕ) → position_or_len p xs ≤ length xs
place_le p [] = omega arith
place_le p (x ∷ xs) = one_on (p x) (position_or_len p xs) (length xs) (place_le p xs)

cut_at : (xs ys : List ℕ) (k : ℕ) → xs ++ ys ≡ take k xs ++ (drop k xs ++ ys)
cut_at xs ys k = ap (λ l. l ++ ys) (sym (take-append-drop k xs)) ∙ append_assoc (take k xs) (drop k xs) ys

-- a path of directories and what comes behind, cut at the link's place, its name and the slashes there
laid_out : (xs ys : List ℕ) (n k j : ℕ) → n ≤ length xs → k ≤ length (drop n xs) → j ≤ length (drop k (drop n xs))
    → xs ++ ys ≡ take n xs ++ (take k (drop n xs) ++ (take j (drop k (drop n xs)) ++ drop (n + (k + j)) (xs ++ ys)))
laid_out xs ys n k j first second third =
    let one = length-drop n xs in
    let two = length-drop k (drop n xs) in
    let rest : drop (n + (k + j)) (xs ++ ys) ≡ drop j (drop k (drop n xs)) ++ ys =
    drop-append-le (n + (k + j)) xs ys (omega (arith, first, second, third, one, two))
    ∙ ap (λ l. l ++ ys) (sym (drop-drop (k + j) n xs) ∙ sym (drop-drop j k (drop n xs))) in
    cut_at xs ys n
    ∙ ap (λ l. take n xs ++ l) (cut_at (drop n xs) ys k
    ∙ ap (λ l. take k (drop n xs) ++ l) (cut_at (drop k (drop n xs)) ys j
    ∙ ap (λ l. take j (drop k (drop n xs)) ++ l) (sym rest)))

on_the_way_is : (path text : List ℕ) (above n : ℕ) → (name_size (drop n (take above path)) == 0) ≡ false
    → IsLed (take n (take above path)) path
    (way path text (front_for path text n) (n + rest_at (drop n (take above path)))) text
    (take (n + name_size (drop n (take above path))) (take above path))
on_the_way_is path text above n some =
    let dirs = take above path in
    let gone = drop n dirs in
    let within = named n dirs some in
    let size = length-take above path in
    let dir : take n path ≡ take n dirs = sym (take-take n above path (omega (arith, within, size))) in
    let behind = drop n path in
    record {
      name = take (name_size gone) gone;
      slashes = take (slashes_size (drop (name_size gone) gone)) (drop (name_size gone) gone);
      rest = drop (n + rest_at gone) path;
      path = take_both n (name_size gone) dirs;
      place = sym (take-append-drop above path)
          ∙ (laid_out dirs (drop above path) n (name_size gone) (slashes_size (drop (name_size gone) gone)) within
          (place_le (λ b. b == SLASH) gone) (place_le (λ b. not (b == SLASH)) (drop (name_size gone) gone))
          ∙ ap (λ l. take n dirs ++ (take (name_size gone) gone
          ++ (take (slashes_size (drop (name_size gone) gone)) (drop (name_size gone) gone)
          ++ drop (n + rest_at gone) l)))
          (take-append-drop above path));
      only = only_slashes (drop (name_size gone) gone);
      leads = leads_so path (take n dirs) text (before_rest text (drop (n + rest_at gone) path)) n dir;
    }

at_the_end_is : (path text : List ℕ) (above : ℕ)
    → IsLed (take above path) path
    (way path text (front_for path text (length (take above path))) (length path)) text path
at_the_end_is path text above =
    record {
      name = drop above path;
      slashes = [];
      rest = [];
      path = sym (take-append-drop above path);
      place = sym (take-append-drop above path) ∙ ap (λ l. take above path ++ l) (sym (append-nil (drop above path)));
      only = refl;
      leads = leads_so path (take above path) text (before_rest text (drop (length path) path))
          (length (take above path))
          (ap (λ k. take k path) (length-take above path) ∙ take_min above path)
          ∙ ap (λ l. (if begins_with_slash text then [] else take above path) ++ before_rest text l)
          (drop_all (length path) path (omega arith));
    }

on_the_way : (w : Wish) (s : Seen) (p : List ℕ) (a : Outcome) → May w s (reads_link p)
    → Leads w s (take s.there (take s.making.above s.path)) p
    (link_read s.making s.path s.there (text_for w s.making) a)
on_the_way w s p a may =
    by_case (a.error == EINVAL) (not (a.error == 0)) (is_empty (text_for w s.making))
  where
    dir : List ℕ
    dir = take s.there (take s.making.above s.path)

    by_case : (none bad empty : Bool) → Leads w s dir p
        (if none then again s.making
        else (if bad then Failed a.error
        else (if empty then Fails ENOENT STEP_READ_LINK
        else followed s.making s.path s.there (text_for w s.making))))
    by_case true bad empty = again_stays w s dir p s.making
    by_case false true empty = tt
    by_case false false true = tt
    by_case false false false =
        led_leads w s dir p s.making s.there (s.there + rest_at (missing s)) refl
        (subst (IsLed dir s.path (way s.path (text_for w s.making) (front_for s.path (text_for w s.making) s.there)
        (s.there + rest_at (missing s))) (text_for w s.making)) (sym may.1.0)
        (on_the_way_is s.path (text_for w s.making) s.making.above s.there may.1.1))

at_the_end : (w : Wish) (s : Seen) (p : List ℕ) (a : Outcome) → May w s (reads_end p)
    → Leads w s (take s.making.above s.path) p (end_read s.making s.path (text_for w s.making) a)
at_the_end w s p a may =
    by_case ((a.error == EINVAL) || (a.error == ENOENT)) (not (a.error == 0)) (not s.making.follows)
    (is_empty (text_for w s.making))
  where
    dir : List ℕ
    dir = take s.making.above s.path

    by_case : (none bad stays empty : Bool) → Leads w s dir p
        (if none then again (unparted s.making)
        else (if bad then Failed a.error
        else (if stays then Fails ENOENT STEP_MAKE_FILE
        else (if empty then again (unparted s.making)
        else followed_at_end s.making s.path (text_for w s.making)))))
    by_case true bad stays empty = again_stays w s dir p (unparted s.making)
    by_case false true stays empty = tt
    by_case false false true empty = tt
    by_case false false false true = again_stays w s dir p (unparted s.making)
    by_case false false false false =
        led_leads w s dir p (unparted s.making) (length dir) (length s.path) refl
        (subst (IsLed dir s.path (way s.path (text_for w s.making) (front_for s.path (text_for w s.making) (length dir))
        (length s.path)) (text_for w s.making)) (sym may.1)
        (at_the_end_is s.path (text_for w s.making) s.making.above))

pub links-lead : LinksLead
links-lead = record { on_the_way = on_the_way; at_the_end = at_the_end }
