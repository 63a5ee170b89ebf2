use Rattle.std.proofs.Common.{◌≡◌, sym, ap, ◌∙◌, subst, length, refl}
use Rattle.std.specs.Prelude.{slice_get, Some, None}
use Rattle.std.proofs.lemmas.Option.{slice_get_read, slice_get_past}
use Rattle.race_core.specs.Worlds.{is_within_at}
use Rattle.local_states.specs.HandleTables.{PartView}
use Rattle.local_states.specs.Keys.{PartsView, IsPartIn}
use Rattle.local_states.proofs.Parted.Parts.{row_of, kept_in, none_past}
use Rattle.local_states.proofs.parts.Parts.is_within_call.Goals as goal

pub returns-in-Some : goal.returns-in-Some
returns-in-Some c = λ v is.
    let parts = c.self.inside.parts.items in
    let row = row_of c.self.inside.actor c.self.inside.outcomes parts in
    let found = c.in-Some.ensures.lookup in
    let there : slice_get parts c.args.at ≡ Some c.in-Some.part.now =
    subst (λ ps. slice_get ps c.args.at ≡ Some c.in-Some.part.now) c.deref.ensures.value
    (slice_get_read c.deref.result.now (length c.deref.result.now) c.args.at c.in-Some.part.now refl found.3.0 found.1) in
    ap (λ (part : PartView). part.within) c.part.view_is
    ∙ ((kept_in row c.args.at c.in-Some.part.now v there (subst (λ (r : PartsView). IsPartIn r v c.args.at) (sym c.self.view_is) is)).1
    ∙ ap (λ (r : PartsView). is_within_at v.seats r.actor) c.self.view_is)

pub returns-in-None : goal.returns-in-None
returns-in-None c = λ v is.
    let parts = c.self.inside.parts.items in
    let found = c.in-None.ensures.lookup in
    absurd (none_past (row_of c.self.inside.actor c.self.inside.outcomes parts) c.args.at v
    (subst (λ ps. slice_get ps c.args.at ≡ None) c.deref.ensures.value (slice_get_past c.deref.result.now c.args.at found.3))
    (subst (λ (r : PartsView). IsPartIn r v c.args.at) (sym c.self.view_is) is))
