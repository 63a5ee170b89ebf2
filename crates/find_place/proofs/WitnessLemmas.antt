-- Each place is witnessed.
use Rattle.std.proofs.Common.{◌≡◌, ◌==◌, ◌&&◌, inl, inr, ℕ, Bool, true, false, not, List, [], ◌∷◌, Some, refl, sym, ap, subst, ◌∙◌}
use Rattle.std.proofs.lemmas.Bool.{and_parts, both_ways, eqb-true, not-false, not-true}
use Rattle.system_calls.specs.Objects.{is_same_object}
use Rattle.system_calls.specs.Place.{ends_as_gone, is_named, place_told}
use Rattle.find_place.specs.Place.{below_root, confirmed, finds_object, is_there, look_up_error, looked_up, place}
use Rattle.find_place.specs.Questions.{Exchange, is_dead, is_top, link_again, looks_up, object_link, root_link, text_of}
use Rattle.find_place.specs.Witness.{FindsObject, IsAlive, IsConfirmed, IsThere, IsWitnessed, PlacesAreWitnessed}
use Rattle.find_place.specs.declared.places.Facts.{Facts}
use Rattle.find_place.proofs.TellLemmas.{Comes, asked, either, ended, no_end, placed, read, stood}

-- one more exchange says that it wasn't gone
record Last (facts : Facts) (names p : List ℕ) (es : List Exchange) : Type 0 where
  last : Exchange
  all : es ≡ last ∷ []
  is : p ≡ names
  there : IsThere facts p last

there_tells : (facts : Facts) (names p : List ℕ) (es : List Exchange) → Comes names (is_there facts p) es
    → Last facts names p es
unfolding is_there
there_tells facts names p es h =
    elim (either names (not (ends_as_gone p)) _ _ es h) [
      | inl c ↦
          read names link_again _ (Last facts names p) es c.1
          (λ e later worked h'.
          let n = ended names p (is_named (text_of e) p) later h' in
          record {
            last = e;
            all = ap (λ xs. e ∷ xs) n.2;
            is = n.1;
            there = inl (not-true (ends_as_gone p) c.0, (worked, n.0));
          })
      | inr c ↦
          elim (either names (not facts.directory) _ _ es c.1) [
            | inl d ↦ absurd (no_end names _ es d.1)
            | inr d ↦
                asked names is_dead _ (Last facts names p) es d.1
                (λ e later is h'.
                let n = ended names p (not e.answer.yes) later h' in
                record {
                  last = e;
                  all = ap (λ xs. e ∷ xs) n.2;
                  is = n.1;
                  there =
                      inr (not-false (ends_as_gone p) c.0, not-false facts.directory d.0, is, not-true e.answer.yes n.0);
                })
          ]
    ]

abbrev Confirmed : Facts → List ℕ → List ℕ → List Exchange → Type 0
Confirmed facts names p es = (p ≡ names) × IsConfirmed facts p es

-- what was seen before
seen_tells : (facts : Facts) (names p : List ℕ) (es : List Exchange) → facts.seen ≡ true → is_top p ≡ false
    → ends_as_gone p ≡ true → Last facts names p es → Confirmed facts names p es
seen_tells facts names p es seen below gone l =
    let alive : IsAlive facts p l.last =
    elim l.there [ inl plain ↦ absurd (both_ways (ends_as_gone p) plain.0 gone) | inr is ↦ is ] in
    (l.is, subst (IsConfirmed facts p) (sym l.all) (inr (seen, below, alive)))

unseen : (seen top : Bool) → (seen && not top) ≡ false → top ≡ false → seen ≡ false
unseen true true none below = absurd (both_ways true below refl)
unseen true false none below = none
unseen false top none below = refl

found_tells : (facts : Facts) (names p : List ℕ) (e : Exchange) (later : List Exchange)
    → (facts.seen && not (is_top p)) ≡ false → e.asked ≡ looks_up p → Comes names (looked_up facts p e.answer) later
    → Confirmed facts names p (e ∷ later)
found_tells facts names p e later none is h =
    elim (either names (not (finds_object p e.answer)) _ _ later h) [
      | inl c ↦ absurd (no_end names (look_up_error e.answer.error) later c.1)
      | inr c ↦
          let b = and_parts (e.answer.error == 0) (is_same_object e.answer.held e.answer.found (is_top p)) (not-false _ c.0) in
          let finds : FindsObject p e = ((is, eqb-true e.answer.error 0 b.0), b.1) in
          elim (either names (is_top p) _ _ later c.1) [
            | inl d ↦
                let s = stood names p later d.1 in
                (s.0, subst (λ xs. IsConfirmed facts p (e ∷ xs)) (sym s.1) (inl (d.0, finds)))
            | inr d ↦
                let l = there_tells facts names p later d.1 in (
                  l.is,
                  subst (λ xs. IsConfirmed facts p (e ∷ xs)) (sym l.all)
                      (unseen facts.seen (is_top p) none d.0, d.0, finds, l.there),
                )
          ]
    ]

confirmed_tells : (facts : Facts) (names p : List ℕ) (es : List Exchange) → Comes names (confirmed facts p) es
    → Confirmed facts names p es
unfolding confirmed
confirmed_tells facts names p es h =
    elim (either names (facts.seen && not (is_top p)) _ _ es h) [
      | inl c ↦
          let b = and_parts facts.seen (not (is_top p)) c.0 in
          let below = not-true (is_top p) b.1 in
          elim (either names (ends_as_gone p) _ _ es c.1) [
            | inl d ↦ seen_tells facts names p es b.0 below d.0 (there_tells facts names p es d.1)
            | inr d ↦
                let s = stood names p es d.1 in
                (s.0, subst (IsConfirmed facts p) (sym s.1) (b.0, below, d.0))
          ]
      | inr c ↦ asked names (looks_up p) _ (Confirmed facts names p) es c.1 (λ e later. found_tells facts names p e later c.0)
    ]

pub places-are-witnessed : PlacesAreWitnessed
unfolding place
places-are-witnessed facts es names h =
    read names root_link (below_root facts) (IsWitnessed facts names) es h
    (λ root behind first h'. read names object_link _ (λ xs. IsWitnessed facts names (root ∷ xs)) behind h'
    (λ object later second told.
    let t = placed names (place_told (text_of root) (text_of object)) (confirmed facts) later told in
    let c = confirmed_tells facts names t.0 later t.2 in
    ((first, second, t.1 ∙ ap Some c.0), subst (λ n. IsConfirmed facts n later) c.0 c.1)))
