-- Agreeing answers are a conversation that tells the place.
use Rattle.std.proofs.Common.{◌≡◌, ◌&&◌, ◌≤◌, inl, inr, ℕ, Bool, true, false, not, List, [], ◌∷◌, length, refl, sym, ap, subst}
use Rattle.std.specs.Cmp.Derive.{both_true}
use Rattle.std.proofs.lemmas.Bool.{eq-eqb}
use Rattle.path_text.specs.declared.path.TheConstants.{TEXT_MAX}
use Rattle.system_calls.specs.Place.{ends_as_gone, is_named}
use Rattle.find_place.specs.Place.{below_root, confirmed, finds_object, is_there, looked_up, place, with_place}
use Rattle.find_place.specs.Questions.{Exchange, is_dead, is_top, link_again, looks_up, object_link, root_link, text_of}
use Rattle.find_place.specs.Witness.{AgreeingWitnessesAreTold, AreShort, FindsObject, IsConfirmed, IsThere}
use Rattle.find_place.specs.declared.places.Facts.{Facts}
use Rattle.find_place.proofs.TellLemmas.{Comes, asks_so, ends_so, if_not, if_so, reads_so, stands}

there_so : (facts : Facts) (p : List ℕ) (e : Exchange) → length (text_of e) ≤ TEXT_MAX → IsThere facts p e
    → Comes p (is_there facts p) (e ∷ [])
unfolding is_there
there_so facts p e size (inl is) =
    if_so p (not (ends_as_gone p)) _ _ (e ∷ []) (ap not is.0)
    (reads_so p link_again _ e [] is.1.0 size (ends_so p (is_named (text_of e) p) is.1.1))
there_so facts p e size (inr is) =
    if_not p (not (ends_as_gone p)) _ _ (e ∷ []) (ap not is.0)
    (if_not p (not facts.directory) _ _ (e ∷ []) (ap not is.1)
    (asks_so p is_dead _ e [] is.2 (ends_so p (not e.answer.yes) (ap not is.3))))

finds_so : (facts : Facts) (p : List ℕ) (e : Exchange) → FindsObject p e → not (finds_object p e.answer) ≡ false
finds_so facts p e finds = ap not (both_true (eq-eqb e.answer.error 0 finds.0.1) finds.1)

not_seen : (seen top : Bool) → seen ≡ false → (seen && not top) ≡ false
not_seen seen top is = ap (λ b. b && not top) is

at_top : (seen top : Bool) → top ≡ true → (seen && not top) ≡ false
at_top true top is = ap not is
at_top false top is = refl

confirms : (facts : Facts) (p : List ℕ) (es : List Exchange) → AreShort es → IsConfirmed facts p es
    → Comes p (confirmed facts p) es
unfolding confirmed
confirms facts p [] short is =
    if_so p (facts.seen && not (is_top p)) _ _ [] (both_true is.0 (ap not is.1))
    (if_not p (ends_as_gone p) _ _ [] is.2 (stands p))
confirms facts p (e ∷ []) short (inl is) =
    if_not p (facts.seen && not (is_top p)) _ _ (e ∷ []) (at_top facts.seen (is_top p) is.0)
    (asks_so p (looks_up p) (looked_up facts p) e [] is.1.0.0
    (if_not p (not (finds_object p e.answer)) _ _ [] (finds_so facts p e is.1)
    (if_so p (is_top p) _ _ [] is.0 (stands p))))
confirms facts p (e ∷ []) short (inr is) =
    if_so p (facts.seen && not (is_top p)) _ _ (e ∷ []) (both_true is.0 (ap not is.1))
    (if_so p (ends_as_gone p) _ _ (e ∷ []) is.2.0 (there_so facts p e short.0 (inr is.2)))
confirms facts p (e ∷ last ∷ []) short is =
    if_not p (facts.seen && not (is_top p)) _ _ (e ∷ last ∷ []) (not_seen facts.seen (is_top p) is.0)
    (asks_so p (looks_up p) (looked_up facts p) e (last ∷ []) is.2.0.0
    (if_not p (not (finds_object p e.answer)) _ _ (last ∷ []) (finds_so facts p e is.2)
    (if_not p (is_top p) _ _ (last ∷ []) is.1 (there_so facts p last short.1.0 is.3))))
confirms facts p (e ∷ last ∷ more ∷ es) short is = absurd is

pub agreeing-witnesses-are-told : AgreeingWitnessesAreTold
unfolding place
agreeing-witnesses-are-told facts [] p short is = absurd is
agreeing-witnesses-are-told facts (root ∷ []) p short is = absurd is
agreeing-witnesses-are-told facts (root ∷ object ∷ es) p short is =
    reads_so p root_link (below_root facts) root (object ∷ es) is.0.0 short.0
    (reads_so p object_link _ object es is.0.1 short.1.0
    (subst (λ o. Comes p (with_place o (confirmed facts)) es) (sym is.0.2) (confirms facts p es short.1.1 is.1)))
