use Rattle.std.proofs.Common.{◌∙◌, sym, ap}
use Rattle.std.specs.Prelude.{slice_get}
use Rattle.std.proofs.lemmas.Option.{IfSome_then}
use Rattle.explore.specs.Effects.{KnownView}
use Rattle.explore.proofs.turns.known_turns.KnownTurns.known_effect.Goals as goal

pub returns-clause-known : goal.returns-clause-known
returns-clause-known g c =
    IfSome_then c.effect.result c.effect.ensures (λ effect entry w v sound is. (
      c.memo_key.result,
      (
        c.memo_key.ensures.actor,
        (
          c.memo_key.ensures.is w v sound.start is,
          sound.turns entry.0 _ (ap (λ (k : KnownView). slice_get k.entries entry.0) (sym c.self.view_is) ∙ entry.1),
        ),
      ),
    ))
