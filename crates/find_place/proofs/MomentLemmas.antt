-- What answers say of the file system.
use Rattle.std.proofs.Common.{◌≡◌, ◌+◌, ◌<◌, ℕ, true, false, List, [], ◌∷◌, length, sym, ap, subst, ◌∙◌, ◌⊎◌, inl, inr, lit<}
use Rattle.std.proofs.lemmas.Bool.{both_ways, false_from_ne_true}
use Rattle.system_calls.specs.Place.{place_told}
use Rattle.find_place.specs.Moments.{AreAnswers, IsAnswer, PlacesStood, PlacesWerePassed, StaysGone, TextsTell, World}
use Rattle.find_place.specs.Questions.{Exchange, is_top, text_of}
use Rattle.find_place.specs.Witness.{FindsObject, IsConfirmed, IsThere, IsWitnessed, LinksTell}
use Rattle.find_place.specs.declared.places.Facts.{Facts}
use Rattle.find_place.proofs.TextLemmas.{named_there, not_called, slash}
use Rattle.find_place.proofs.WitnessLemmas.{places-are-witnessed}

-- the object stood there by then, or was seen before
abbrev Stood : World → Facts → List ℕ → ℕ → Type 0
Stood w facts place end =
    (n : ℕ) × (n < end)
    × ((w.stands n place ≡ true) ⊎ ((facts.seen ≡ true) × (w.before ≡ false) × (w.gone n ≡ true)))

abbrev Passed : World → List ℕ → ℕ → Type 0
Passed w place end = (n : ℕ) × (n < end) × (w.passed n place ≡ true) × ((is_top place ≡ true) ⊎ (w.gone n ≡ false))

-- ---- whether it was gone

-- the last answer says that it wasn't
there_settles : (w : World) (facts : Facts) (place : List ℕ) (n : ℕ) (e : Exchange) → IsAnswer w facts n e → IsThere facts place e
    → w.gone n ≡ false
there_settles w facts place n e a (inl is) = a.link_again is.1.0 (named_there (text_of e) place is.1.1 is.0)
there_settles w facts place n e a (inr is) = a.dead is.1 is.2 is.3

-- so it wasn't the moment before
not_before : (w : World) (n : ℕ) → StaysGone w → w.gone (n + 1) ≡ false → w.gone n ≡ false
not_before w n stays there =
    false_from_ne_true (w.gone n) (λ gone. both_ways (w.gone (n + 1)) there (stays n gone))

-- ---- where it stood

-- by the texts, which are of the moments 0 and 1
read : (w : World) (facts : Facts) (place : List ℕ) (root object : Exchange) (es : List Exchange)
    → AreAnswers w facts 0 (root ∷ object ∷ es) → TextsTell w → LinksTell place root object → is_top place ≡ false
    → (w.gone 1 ≡ true) ⊎ (w.stands 1 place ≡ true)
read w facts place root object es answers tell links top =
    let path = answers.0.root_link links.0 ∙ sym tell.stays in
    let text = answers.1.0.object_link links.1 in
    tell.below place (sym (ap (λ p. place_told p (text_of object)) path ∙ ap (place_told (w.root 1)) text) ∙ links.2) top

stood_there : (w : World) (facts : Facts) (place : List ℕ) (end : ℕ) → 1 < end → w.gone 1 ≡ false
    → (w.gone 1 ≡ true) ⊎ (w.stands 1 place ≡ true) → Stood w facts place end
stood_there w facts place end within there (inl gone) = absurd (both_ways (w.gone 1) there gone)
stood_there w facts place end within there (inr is) = (1, within, inl is)

-- what was seen before may have been gone by then
stood_seen : (w : World) (facts : Facts) (place : List ℕ) (end : ℕ) → 1 < end → facts.seen ≡ true → w.before ≡ false
    → (w.gone 1 ≡ true) ⊎ (w.stands 1 place ≡ true) → Stood w facts place end
stood_seen w facts place end within seen before (inl gone) = (1, within, inr (seen, before, gone))
stood_seen w facts place end within seen before (inr is) = (1, within, inl is)

confirmed_stood : (w : World) (facts : Facts) (place : List ℕ) (root object : Exchange) (es : List Exchange) → StaysGone w
    → AreAnswers w facts 0 (root ∷ object ∷ es) → (is_top place ≡ false → TextsTell w) → LinksTell place root object
    → IsConfirmed facts place es
    → Stood w facts place (length (root ∷ object ∷ es))
confirmed_stood w facts place root object [] stays answers tell links is =
    let before = answers.1.0.link_before links.1 (not_called (text_of root) (text_of object) place links.2 is.1 is.2) in
    stood_seen w facts place 2 (lit< tt) is.0 before (read w facts place root object [] answers (tell is.1) links is.1)
confirmed_stood w facts place root object (e ∷ []) stays answers tell links (inl is) =
    let at = slash (text_of root) (text_of object) place links.2 is.0 in
    let finds = subst (λ (p : List ℕ). FindsObject p e) at is.1 in
    (2, lit< tt, inl (ap (w.stands 2) at ∙ answers.1.1.0.looked_root finds))
confirmed_stood w facts place root object (e ∷ []) stays answers tell links (inr is) =
    let there = there_settles w facts place 2 e answers.1.1.0 (inr is.2) in
    stood_there w facts place 3 (lit< tt) (not_before w 1 stays there)
    (read w facts place root object (e ∷ []) answers (tell is.1) links is.1)
confirmed_stood w facts place root object (look ∷ last ∷ []) stays answers tell links is =
    let there = there_settles w facts place 3 last answers.1.1.1.0 is.3 in
    stood_there w facts place 4 (lit< tt) (not_before w 1 stays (not_before w 2 stays there))
    (read w facts place root object (look ∷ last ∷ []) answers (tell is.1) links is.1)
confirmed_stood w facts place root object (look ∷ last ∷ more ∷ es) stays answers tell links is = absurd is

witnessed_stood : (w : World) (facts : Facts) (place : List ℕ) (es : List Exchange) → StaysGone w → AreAnswers w facts 0 es
    → (is_top place ≡ false → TextsTell w) → IsWitnessed facts place es → Stood w facts place (length es)
witnessed_stood w facts place [] stays answers tell is = absurd is
witnessed_stood w facts place (root ∷ []) stays answers tell is = absurd is
witnessed_stood w facts place (root ∷ object ∷ es) stays answers tell is =
    confirmed_stood w facts place root object es stays answers tell is.0 is.1

pub places-stood : PlacesStood
places-stood w facts es place stays answers tell goes =
    witnessed_stood w facts place es stays answers tell (places-are-witnessed facts es place goes)

-- ---- what was passed

confirmed_passed : (w : World) (facts : Facts) (place : List ℕ) (root object : Exchange) (es : List Exchange) → StaysGone w
    → AreAnswers w facts 0 (root ∷ object ∷ es) → facts.seen ≡ false → IsConfirmed facts place es
    → Passed w place (length (root ∷ object ∷ es))
confirmed_passed w facts place root object [] stays answers seen is = absurd (both_ways facts.seen seen is.0)
confirmed_passed w facts place root object (e ∷ []) stays answers seen (inl is) =
    (2, lit< tt, answers.1.1.0.look_up place is.1, inl is.0)
confirmed_passed w facts place root object (e ∷ []) stays answers seen (inr is) = absurd (both_ways facts.seen seen is.0)
confirmed_passed w facts place root object (look ∷ last ∷ []) stays answers seen is =
    let there = there_settles w facts place 3 last answers.1.1.1.0 is.3 in
    (2, lit< tt, answers.1.1.0.look_up place is.2, inr (not_before w 2 stays there))
confirmed_passed w facts place root object (look ∷ last ∷ more ∷ es) stays answers seen is = absurd is

witnessed_passed : (w : World) (facts : Facts) (place : List ℕ) (es : List Exchange) → StaysGone w → AreAnswers w facts 0 es
    → facts.seen ≡ false → IsWitnessed facts place es → Passed w place (length es)
witnessed_passed w facts place [] stays answers seen is = absurd is
witnessed_passed w facts place (root ∷ []) stays answers seen is = absurd is
witnessed_passed w facts place (root ∷ object ∷ es) stays answers seen is =
    confirmed_passed w facts place root object es stays answers seen is.1

pub places-were-passed : PlacesWerePassed
places-were-passed w facts es place stays answers goes seen =
    witnessed_passed w facts place es stays answers seen (places-are-witnessed facts es place goes)
