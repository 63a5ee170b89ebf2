use Rattle.std.proofs.Common.{rules, ◌≡◌, ◌<◌, ◌++◌, ◌∷◌, [], ℕ, List, length, sym, ap, ◌∙◌, subst, map-id}
use Rattle.std.proofs.lemmas.Iterator.{YieldsList-from_chars}
use Rattle.std.proofs.lemmas.Iterator.Consumers.{YieldsList-turn, YieldsList-end}
use Rattle.std.proofs.lemmas.List.Elements.{All-push}
use Rattle.explore_parts.specs.Printed.{AreBytes}
use Rattle.explore_parts.proofs.part_read.bytes_of.Goals as goal

pub returns-in_default : goal.returns-in_default
returns-in_default c = λ e all.
    let chain = YieldsList-from_chars c.args.text.now c.utf8.text cc in
    let turn = YieldsList-turn chain c.loop-character.yielded _ c.loop-character.yielded_by _ _ c.in-Some.character c.in-Some.is c.next.ensures.steps in
    c.in_default.ensures (subst (λ (b : ℕ). b < 256) (sym turn.1) (all (length c.loop-character.yielded) c.in-Some.character turn.0))

pub loop-character-preserved : goal.loop-character-preserved
loop-character-preserved c =
    let one : c.as_slice.result.now ≡ c.in-Ok.byte ∷ [] = search rules in
    let added : c.bytes.new.self ≡ c.loop-character.out ++ c.in-Some.character ∷ [] =
    c.in_ok-bytes.ensures ∙ (ap (λ (bs : List ℕ). c.loop-character.out ++ bs) one ∙ ap (λ (b : ℕ). c.loop-character.out ++ b ∷ []) c.in-Ok.ensures.1) in (
      added ∙ ap (λ (bs : List ℕ). bs ++ c.in-Some.character ∷ []) c.loop-character.invariant.0,
      subst AreBytes (sym added) (All-push (λ byte. byte < 256) c.loop-character.out c.in-Some.character c.loop-character.invariant.1 c.in-Ok.ensures.0),
    )

pub returns : goal.returns
returns c =
    let chain = YieldsList-from_chars c.args.text.now c.utf8.text cc in
    let end = YieldsList-end chain c.loop-character.yielded _ c.loop-character.yielded_by _ _ c.in-None.is c.next.ensures.steps in
    (sym end.0 ∙ map-id c.loop-character.yielded ∙ sym c.loop-character.invariant.0, c.loop-character.invariant.1)
