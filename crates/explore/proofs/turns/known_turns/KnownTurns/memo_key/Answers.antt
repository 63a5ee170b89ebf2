use Rattle.std.proofs.Common.{◌≡◌, ◌<◌, ◌∙◌, ◌+◌, List, length, get_or, ap, sym, subst, refl, nat_le}
use Rattle.std.specs.Prelude.{Some, slice_get}
use Rattle.std.proofs.lemmas.Option.{slice_get-get_or}
use Rattle.tree_model.specs.declared.tree.TheConstants.{NUMBERS_MAX}
use Rattle.local_states.specs.declared.keys.Own.{Own}
use Rattle.explore.specs.Effects.{KnownView}
use Rattle.explore.proofs.Keyed.KnownTurn.{memo_key_of}
use Rattle.explore.proofs.turns.known_turns.KnownTurns.memo_key.Goals as goal

pub returns-clause-is : goal.returns-clause-is
returns-clause-is g c = λ w v begun is.
    let none : Own = record { part = 0; outside = 0 } in
    let own : Own = get_or c.deref.result.now c.args.actor none in
    let lt : c.args.actor < length c.deref.result.now = subst (λ (os : List Own). c.args.actor < length os) (sym c.deref.ensures) c.requires in
    let there : slice_get c.args.key.now.own.items c.args.actor ≡ Some own =
    subst (λ (os : List Own). slice_get os c.args.actor ≡ Some own) c.deref.ensures (slice_get-get_or c.deref.result.now c.args.actor none lt) in
    let numbers = c.wide.ensures.same ∙ ap (λ (k : KnownView). k.start.numbers) c.self.view_is in
    memo_key_of c.args.self.now.components w v c.args.self.now.start c.args.key.now c.args.actor own _ begun is there refl refl refl c.room.ensures
    (λ k. nat_le NUMBERS_MAX (numbers k + c.wide-2.ensures.same k))
