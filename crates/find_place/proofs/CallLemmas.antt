-- How many questions come about a place, and what those about a program's descriptor come to.
use Rattle.std.proofs.Common.{◌≡◌, ◌≤◌, ℕ, zero, suc, Bool, true, false, not, ◌||◌, ◌==◌, ◌&&◌, inl, inr, if◌then◌else◌, List, [], ◌∷◌, ◌++◌, length, Option, Some, None, Ok, Err, refl, sym, ap, subst, ◌∙◌, arith}
use Rattle.std.specs.Prelude.{codes}
use Rattle.std.proofs.lemmas.Bool.{both_ways, cond-false, cond-true, eq-eqb, eqb-true, eqb-false, not-false, not-true}
use Rattle.std.proofs.lemmas.List.{append_assoc, append-nil}
use Rattle.path_text.specs.declared.name.TheConstants.{SLASH}
use Rattle.system_calls.specs.Errors.{EAGAIN}
use Rattle.system_calls.specs.Place.{ends_as_gone, is_named, place_told}
use Rattle.system_calls.specs.declared.objects.Object.{Object}
use Rattle.dialogue.specs.Dialogue.{Talks, Whole, and_then, asking, asks, ends, without_signals}
use Rattle.dialogue.specs.Holds.{AllMay, Holds, state_after}
use Rattle.dialogue.proofs.HoldLemmas.{Goes, asks_then, both, choose, exchange, over}
use Rattle.find_place.specs.Place.{ask_place, closing, confirmed, copied, facts_of, finds_object, found, is_there, link, link_told, lost, looked_up, or_unfound, place, place_if, unfound, with_place, with_text}
use Rattle.find_place.specs.Promises.{CallsHold, Ends, IsAsked, IsTold, Seen, after, at_first, needs_open, watch}
use Rattle.find_place.specs.Questions.{Asked, Exchange, Talk, Told, closes, copies, is_dead, is_removed, is_top, link_again, looks, looks_up, object_link, questions, root_link}
use Rattle.find_place.specs.Witness.{QuestionsComeToAnEnd}
use Rattle.find_place.specs.declared.places.Facts.{Facts}
use Rattle.find_place.specs.declared.questions.Answer.{Answer}

-- ---- questions about the place

abbrev heard : Seen → Exchange → Seen
heard s e = record s { exchanges = s.exchanges ++ (e ∷ []) }

abbrev IsAbout : Asked → Type 0
IsAbout q = ((s : Seen) (a : Answer) → after s q a ≡ heard s (exchange q a)) × (needs_open q ≡ true)

-- so many come at most, and all are about the place
unfoldable Few : {E : Type 0} → ℕ → Talk E → Type 0
Few n (ends e) = Unit {0}
Few zero (asks q after) = ⊥
Few (suc n) (asks q after) = IsAbout q × ((a : Answer) → Few n (after a))

few_either : {E : Type 0} (n : ℕ) (b : Bool) (x y : Talk E) → Few n x → Few n y → Few n (if b then x else y)
few_either n true x y h k = h
few_either n false x y h k = k

few_end : {E : Type 0} (n : ℕ) (e : E) → Few n (ends e)
unfolding Few
few_end n e = tt

few_asks : (n : ℕ) (q : Asked) (f : Answer → Talk Told) → IsAbout q → ((a : Answer) → Few n (f a))
    → Few (suc n) (and_then (asking questions q) f)
unfolding Few and_then asking
few_asks n q f is h = (is, h)

few_text : (n : ℕ) (r : Told) (f : List ℕ → Talk Told) → ((text : List ℕ) → Few n (f text)) → Few n (with_text r f)
few_text n (Ok text) f h = h text
few_text n (Err error) f h = few_end n (Err error)

few_reads : (n : ℕ) (q : Asked) (f : List ℕ → Talk Told) → IsAbout q → ((text : List ℕ) → Few n (f text))
    → Few (suc n) (and_then (link q) (λ r. with_text r f))
unfolding Few and_then asking link
few_reads n q f is h = (is, λ a. few_text n (link_told a) f h)

few_there : (n : ℕ) (facts : Facts) (p : List ℕ) → Few (suc n) (is_there facts p)
unfolding is_there
few_there n facts p =
    few_either (suc n) (not (ends_as_gone p)) _ _
    (few_reads n link_again _ ((λ s a. refl), refl) (λ text. few_end n (place_if (is_named text p) p)))
    (few_either (suc n) (not facts.directory) _ _ (few_end (suc n) (Err EAGAIN))
    (few_asks n is_dead _ ((λ s a. refl), refl) (λ a. few_end n (place_if (not a.yes) p))))

few_found : (facts : Facts) (p : List ℕ) (a : Answer) → Few 1 (looked_up facts p a)
few_found facts p a =
    few_either 1 (not (finds_object p a)) _ _ (few_end 1 _)
    (few_either 1 (is_top p) _ _ (few_end 1 _) (few_there 0 facts p))

few_confirmed : (facts : Facts) (p : List ℕ) → Few 2 (confirmed facts p)
unfolding confirmed
few_confirmed facts p =
    few_either 2 (facts.seen && not (is_top p)) _ _
    (few_either 2 (ends_as_gone p) _ _ (few_there 1 facts p) (few_end 2 (Ok p)))
    (few_asks 1 (looks_up p) (looked_up facts p) ((λ s a. refl), refl) (few_found facts p))

few_placed : (facts : Facts) (o : Option (List ℕ)) → Few 2 (with_place o (confirmed facts))
few_placed facts None = few_end 2 (Err EAGAIN)
few_placed facts (Some p) = few_confirmed facts p

few_place : (facts : Facts) → Few 4 (place facts)
unfolding place
few_place facts =
    few_reads 3 root_link _ ((λ s a. refl), refl)
    (λ root. few_reads 2 object_link _ ((λ s a. refl), refl) (λ text. few_placed facts (place_told root text)))

few : {E : Type 0} (n : ℕ) (m : Talk E) (es : List Exchange) → Few n m → Talks m es (λ rest. Unit {0}) → length es ≤ n
unfolding Few Talks
few n (ends e) [] h t = omega arith
few n (ends e) (x ∷ xs) h t = absurd t
few n (asks q after) [] h t = omega arith
few zero (asks q after) (x ∷ xs) h t = absurd h
few (suc n) (asks q after) (x ∷ xs) h t = let m = few n (after x.answer) xs (h.1 x.answer) t.1 in omega (arith, m)

-- ---- four are asked

abbrev same : Object
same = record { device = 0; inode = 0; mount = 1 }

abbrev said : Asked → List ℕ → Exchange
said asked text = record {
  asked = asked;
  answer = record { text = record { ref_ptr = (0, 0); now = text }; held = same; found = same; links = 1; error = 0; yes = false };
}

abbrev a_file : Facts
a_file = facts_of false

abbrev at_a : List ℕ
at_a = codes "/a"

abbrev four : List Exchange
four = said root_link (SLASH ∷ []) ∷ said object_link at_a ∷ said (looks_up at_a) [] ∷ said link_again at_a ∷ []

four_come : Talks (place a_file) four (λ rest. Unit {0})
unfolding Talks place link confirmed is_there and_then asking
four_come = (refl, (refl, (refl, (refl, tt))))

pub questions-come-to-an-end : QuestionsComeToAnEnd
questions-come-to-an-end = (λ facts es t. few 4 (place facts) es (few_place facts) t, (a_file, four, four_come, refl))

-- ---- what the watch has heard of them

abbrev all_heard : Seen → List Exchange → Seen
all_heard s es = record s { exchanges = s.exchanges ++ es }

holds : {E : Type 0} (n : ℕ) (m : Talk E) (s : Seen) → s.is_open ≡ true → Few n m → (es : List Exchange) (r : E)
    → Whole m es r → Holds watch n s (without_signals es) (λ t. t ≡ all_heard s es)
unfolding Few Talks
holds n (ends e) s opened h [] r w = record {
  few = omega arith;
  fair = tt;
  ends = ap (λ xs. record s { exchanges = xs }) (sym (append-nil s.exchanges));
}
holds n (ends e) s opened h (x ∷ xs) r w = absurd w
holds n (asks q after) s opened h [] r w = absurd cc
holds zero (asks q after) s opened h (x ∷ xs) r w = absurd h
holds (suc n) (asks q after) s opened h (x ∷ xs) r w =
    subst (λ p. Holds watch (suc n) s (exchange p x.answer ∷ without_signals xs) (λ t. t ≡ all_heard s (exchange p x.answer ∷ xs)))
    (sym w.0)
    (heard_then (exchange q x.answer) (h.0.0 s x.answer) (opened ∙ sym h.0.1)
    (holds n (after x.answer) (heard s (exchange q x.answer)) opened (h.1 x.answer) xs r w.1))
  where
    heard_then : (y : Exchange) → watch.by s y ≡ heard s y → watch.May s y.asked
        → Holds watch n (heard s y) (without_signals xs) (λ t. t ≡ all_heard (heard s y) xs)
        → Holds watch (suc n) s (y ∷ without_signals xs) (λ t. t ≡ all_heard s (y ∷ xs))
    heard_then y by may g = record {
      few = omega (arith, g.few);
      fair = (may, subst (λ t. AllMay watch t (without_signals xs)) (sym by) g.fair);
      ends =
          ap (λ t. state_after watch t (without_signals xs)) by ∙ g.ends
          ∙ ap (λ ys. record s { exchanges = ys }) (append_assoc s.exchanges (y ∷ []) xs);
    }

-- ---- a program's descriptor

-- the object was looked at, the descriptor copied, and this was asked about the place
abbrev asked_at : Answer → List Exchange → Seen
asked_at a es = record { directory = a.yes; gone = a.links == 0; asked = false; is_open = true; exchanges = es; why = 0 }

record IsHeard (a : Answer) (t : Seen) (r : Told) : Type 0 where
  es : List Exchange
  is : t ≡ asked_at a es
  whole : Whole (place (facts_of a.yes)) es r

place_goes : (a : Answer) → Goes watch 4 (asked_at a []) (place (facts_of a.yes)) (IsHeard a)
place_goes a = record {
  each = λ es r w.
      let h = holds 4 (place (facts_of a.yes)) (asked_at a []) refl (few_place (facts_of a.yes)) es r w in
      record { few = h.few; fair = h.fair; ends = record { es = es; is = h.ends; whole = w } };
}

-- the copy is open still
record Comes (t : Seen) (r : Told) : Type 0 where
  opened : t.is_open ≡ true
  asked : IsAsked t r

unfound_goes : (a : Answer) (es : List Exchange) (error : ℕ) → Whole (place (facts_of a.yes)) es (Err error)
    → Goes watch 1 (asked_at a es) (unfound a error) Comes
unfolding unfound
unfound_goes a es error w =
    choose (not (error == EAGAIN))
    (λ other.
    let apart = not-true (error == EAGAIN) other in
    over (comes (asked_at a es) (Err error) refl refl w
    (λ is. absurd (both_ways (error == EAGAIN) apart (eq-eqb error EAGAIN is)))
    (sym (cond-false (error == EAGAIN) (lost (a.links == 0)) (Err error) apart))))
    (λ same.
    let is = not-false (error == EAGAIN) same in
    choose (not a.yes)
    (λ none. over (comes (asked_at a es) (lost (a.links == 0)) refl refl w
    (λ _ dir. absurd (both_ways a.yes (not-true a.yes none) dir))
    (sym (cond-true (error == EAGAIN) (lost (a.links == 0)) (Err error) is))))
    (λ _. asks_then 0 is_removed refl
    (λ d. over (comes (after (asked_at a es) is_removed d) (lost (d.yes || (a.links == 0))) refl refl w (λ _ _. refl)
    (sym (cond-true (error == EAGAIN) (lost (d.yes || (a.links == 0))) (Err error) is))))))
  where
    comes : (t : Seen) (r : Told) → t.is_open ≡ true → t.why ≡ 0 → Whole (place (facts_of t.directory)) t.exchanges (Err error)
        → (error ≡ EAGAIN → t.directory ≡ true → t.asked ≡ true)
        → r ≡ (if error == EAGAIN then lost t.gone else Err error) → Comes t r
    comes t r opened fine whole was is =
        record { opened = opened; asked = record { fine = fine; came = Err error; whole = whole; told = (was, is) } }

found_goes : (a : Answer) → Goes watch 5 (asked_at a []) (found a) Comes
unfolding found
found_goes a =
    both 4 1 (place_goes a)
    (λ t r h. subst (λ u. Goes watch 1 u (or_unfound a r) Comes) (sym h.is) (by_told r h.es h.whole))
  where
    by_told : (r : Told) (es : List Exchange) → Whole (place (facts_of a.yes)) es r
        → Goes watch 1 (asked_at a es) (or_unfound a r) Comes
    by_told (Ok names) es w =
        over (record { opened = refl; asked = record { fine = refl; came = Ok names; whole = w; told = refl } })
    by_told (Err error) es w = unfound_goes a es error w

still_told : (t : Seen) (came r : Told) → IsTold t came r → IsTold (record t { is_open = false }) came r
still_told t (Ok names) r is = is
still_told t (Err error) r is = is

closes_goes : (t : Seen) (r : Told) → Comes t r → Goes watch 1 t (closing r) Ends
closes_goes t r is =
    let asked = is.asked in
    asks_then 0 closes is.opened
    (λ b. over (record {
      closed = refl;
      told = inr (record {
        fine = asked.fine;
        came = asked.came;
        whole = asked.whole;
        told = still_told t asked.came r asked.told;
      });
    }))

-- the state behind a copy
abbrev copied_at : Answer → Bool → ℕ → Seen
copied_at a copied why =
    record { directory = a.yes; gone = a.links == 0; asked = false; is_open = copied; exchanges = []; why = why }

copies_goes : (a : Answer) → Goes watch 7 (copied_at a false a.error) (and_then (asking questions copies) (copied a)) Ends
copies_goes a = asks_then 6 copies refl (λ c. by_case c (c.error == 0) refl)
  where
    by_case : (c : Answer) (good : Bool) → (c.error == 0) ≡ good → Goes watch 6 (copied_at a good c.error)
        (if not good then ends (Err c.error) else and_then (found a) closing) Ends
    by_case c true is =
        subst (λ n. Goes watch 6 (copied_at a true n) (and_then (found a) closing) Ends) (sym (eqb-true c.error 0 is))
        (both 5 1 (found_goes a) closes_goes)
    by_case c false is = over (record { closed = refl; told = inl (eqb-false c.error 0 is, refl, refl) })

all_goes : Goes watch 8 at_first ask_place Ends
unfolding ask_place
all_goes = asks_then 7 looks refl (λ a. by_case a (a.error == 0) refl)
  where
    by_case : (a : Answer) (good : Bool) → (a.error == 0) ≡ good → Goes watch 7 (copied_at a false a.error)
        (if not good then ends (Err a.error) else and_then (asking questions copies) (copied a)) Ends
    by_case a true is = copies_goes a
    by_case a false is = over (record { closed = refl; told = inl (eqb-false a.error 0 is, refl, refl) })

pub calls-hold : CallsHold
calls-hold = all_goes.each
