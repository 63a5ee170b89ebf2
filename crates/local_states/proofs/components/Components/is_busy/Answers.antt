use Rattle.std.proofs.Common.{◌≡◌, sym, ap, ◌∙◌, subst, length, refl}
use Rattle.std.specs.Prelude.{slice_get, Some, None}
use Rattle.std.proofs.lemmas.Option.{none-some, slice_get_read, slice_get_past}
use Rattle.race_core.specs.Worlds.{is_busy_at}
use Rattle.local_states.specs.Keys.{ComponentsView, IsPartAt}
use Rattle.local_states.proofs.Parted.Rows.{part_by}
use Rattle.local_states.proofs.components.Components.is_busy.Goals as goal

pub returns-in_default-get : goal.returns-in_default-get
returns-in_default-get c = λ w v is.
    let own = c.in-Some.own.now in
    let found = c.in-Some.ensures.lookup in
    let there : slice_get c.args.key.now.own.items c.args.actor ≡ Some own =
    subst (λ os. slice_get os c.args.actor ≡ Some own) c.deref.ensures
    (slice_get_read c.deref.result.now (length c.deref.result.now) c.args.actor own refl found.3.0 found.1) in
    let part : IsPartAt c.args.self.now v c.args.actor own.part = is.parts c.args.actor own there in
    let past = slice_get_past c.deref-2.result.now c.args.actor c.in_default-get.ensures.lookup.3 in
    absurd (none-some part.row (sym (subst (λ rows. slice_get rows c.args.actor ≡ None) (c.deref-2.ensures.value ∙ ap (λ (k : ComponentsView). k.parts) c.self.view_is) past) ∙ part.there))

pub returns : goal.returns
returns c = λ w v is.
    let own = c.in-Some.own.now in
    let row = c.in-Some-get.parts.now in
    let found = c.in-Some.ensures.lookup in
    let got = c.in-Some-get.ensures.lookup in
    let there : slice_get c.args.key.now.own.items c.args.actor ≡ Some own =
    subst (λ os. slice_get os c.args.actor ≡ Some own) c.deref.ensures
    (slice_get_read c.deref.result.now (length c.deref.result.now) c.args.actor own refl found.3.0 found.1) in
    let its : slice_get c.self.inside.parts.items c.args.actor ≡ Some row =
    subst (λ rows. slice_get rows c.args.actor ≡ Some row) c.deref-2.ensures.value
    (slice_get_read c.deref-2.result.now (length c.deref-2.result.now) c.args.actor row refl got.3.0 got.1) in
    c.is_busy.ensures v (part_by c.args.self.now v c.args.actor own.part row (is.parts c.args.actor own there)
    (subst (λ (k : ComponentsView). slice_get k.parts c.args.actor ≡ Some row) c.self.view_is its))
    ∙ ap (λ i. is_busy_at v.seats i) (c.self.invariant.rows.own c.args.actor row its)
