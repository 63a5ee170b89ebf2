-- Worlds that are the same act outside of their actors' roots alike.
use Rattle.std.specs.Prelude.{◌≡◌, ◌≤◌, ◌<◌, ℕ, suc, List, [], ◌∷◌, length, Option, refl}
use Rattle.std.proofs.lemmas.Bool.{cases_lt}
use Rattle.std.proofs.Common.{sym, ap, ◌∙◌, subst, ⊎_elim}
use Rattle.race_core.specs.Book.{BookedHistory}
use Rattle.race_core.specs.Turns.{Luck}
use Rattle.race_core.specs.Worlds.{WorldView, turn}
use Rattle.local_states.specs.Local.{GrownAlike, SameParts, changes_outside}
use Rattle.local_states.specs.Outside.{outside_from, roots_of}
use Rattle.local_states.specs.Same.{SameWorldsActOutsideAlike}
use Rattle.local_states.proofs.Alike.OutsideAlike.{roots_stay}
use Rattle.local_states.proofs.Local.Books.{not_grown}
use Rattle.local_states.proofs.Local.Wholes.{no_turn, same_ground, same_again, same_turns}
use Rattle.local_states.proofs.Local.Worlds.{turns_are_local}

-- as many changes of each actor before, and so after both have grown alike
grown_outside : (b c after others : BookedHistory) → GrownAlike b c after others → (a : ℕ) (roots : List (Option ℕ))
    → outside_from b a roots ≡ outside_from c a roots → outside_from after a roots ≡ outside_from others a roots
grown_outside b c after others grown a [] e = refl
grown_outside b c after others grown a (root ∷ roots) e =
    let head : changes_outside a root b ≡ changes_outside a root c = cc (e) in
    let tail : outside_from b (suc a) roots ≡ outside_from c (suc a) roots = cc (e) in
    let first : changes_outside a root after ≡ changes_outside a root others =
    same_again _ _ _ _ head (grown.outside a root) in
    let rest = grown_outside b c after others grown (suc a) roots tail in
    λ i. first i ∷ rest i

-- a turn lets both books grow alike
turns_grow : (w v : WorldView) (luck : Luck) (i : ℕ) → SameParts w v
    → GrownAlike w.book v.book (turn luck w i).book (turn luck v i).book
turns_grow w v luck i same = ⊎_elim seated beyond (cases_lt i (length w.seats))
  where
    seated : i < length w.seats → GrownAlike w.book v.book (turn luck w i).book (turn luck v i).book
    seated lt = (turns_are_local w v luck i (same_ground w v same) (same.parts i lt)).grown

    beyond : length w.seats ≤ i → GrownAlike w.book v.book (turn luck w i).book (turn luck v i).book
    beyond over =
        subst (λ (u : WorldView). GrownAlike w.book v.book u.book (turn luck v i).book) (sym (no_turn luck w i over))
        (subst (λ (u : WorldView). GrownAlike w.book v.book w.book u.book)
        (sym (no_turn luck v i (subst (λ n. n ≤ i) same.seats over)))
        (not_grown w.book v.book))

pub same_worlds_act : SameWorldsActOutsideAlike
same_worlds_act told w v luck i same = record {
  parts = same_turns w v luck i same.parts;
  roots = roots_stay told luck w i ∙ same.roots ∙ sym (roots_stay told luck v i);
  outside =
      ap (λ roots. outside_from (turn luck w i).book 0 roots) (roots_stay told luck w i)
      ∙ grown_outside w.book v.book (turn luck w i).book (turn luck v i).book (turns_grow w v luck i same.parts) 0
      (roots_of told w)
      (same.outside ∙ ap (λ roots. outside_from v.book 0 roots) (sym same.roots))
      ∙ ap (λ roots. outside_from (turn luck v i).book 0 roots) (same.roots ∙ sym (roots_stay told luck v i));
}
