use Rattle.std.proofs.Common.{◌≡◌, ℕ, ◌+◌, ◌-◌, suc, List, length, take, drop, subst, arith}
use Rattle.std.proofs.lemmas.List.{length-drop, take_all}
use Rattle.std.specs.Prelude.{true}
use Rattle.std.specs.List.{list_any}
use Rattle.outcome_text.specs.declared.part.Part.{Part}
use Rattle.outcome_text.specs.Merge.{goes_along}
use Rattle.outcome_text.proofs.Below.{overlap_found}
use Rattle.outcome_text.proofs.apart.overlap_at.Goals as goal

pub returns : goal.returns
returns c =
    let parts = c.args.parts.now in
    let at = c.args.at in
    let part = c.in_ok-part.part.now in
    let there = c.in_ok-part.ensures.lookup in
    let next : at + 1 ≡ suc at = omega arith in
    let whole : take (length parts - (at + 1)) (drop (at + 1) parts) ≡ drop (at + 1) parts =
    take_all (length parts - (at + 1)) (drop (at + 1) parts) (omega (arith, length-drop (at + 1) parts)) in
    overlap_found parts at part there.3.0 there.1
    (subst (λ (n : ℕ). list_any (goes_along part) (drop n parts) ≡ true) next
    (subst (λ (rest : List Part). list_any (goes_along part) rest ≡ true) whole c.in_ok-place.ensures.0))
