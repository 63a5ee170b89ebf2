use Rattle.std.proofs.Common.{◌≡◌, sym, ap, subst, length, refl, arith}
use Rattle.std.specs.Prelude.{slice_set}
use Rattle.std.proofs.lemmas.Result.{IfOk-weaker}
use Rattle.local_states.specs.Keys.{ComponentsView, AreRows, AreMoreParts, Grows}
use Rattle.local_states.proofs.Alike.Steps.{set_at}
use Rattle.local_states.proofs.Parted.Rows.{rows_more, row_put, interned_put}
use Rattle.local_states.proofs.components.Components.put_part.Goals as goal

pub invariant_of-self : goal.invariant_of-self
invariant_of-self g c =
    let parts = c.self.inside.parts.items in
    let many : length parts ≡ length c.args.self.now.parts = ap (λ (k : ComponentsView). length k.parts) c.self.view_is in
    let more : AreMoreParts parts (slice_set parts c.args.actor c.put-place.new.self) =
    row_put parts c.args.actor c.index_mut-parts.result.now c.put-place.new.self (omega (arith, many)) c.index_mut-parts.ensures.value c.put-place.ensures.more in
    interned_put c.self.inside.lists parts c.args.actor c.put-place.new.self more c.are_apart.ensures c.self.invariant

pub returns-clause-grows : goal.returns-clause-grows
returns-clause-grows g c =
    let parts = c.self.inside.parts.items in
    let many : length parts ≡ length c.args.self.now.parts = ap (λ (k : ComponentsView). length k.parts) c.self.view_is in
    let more : AreMoreParts parts (slice_set parts c.args.actor c.put-place.new.self) =
    row_put parts c.args.actor c.index_mut-parts.result.now c.put-place.new.self (omega (arith, many)) c.index_mut-parts.ensures.value c.put-place.ensures.more in
    subst (λ (k : ComponentsView). Grows k (record { told = c.self.inside.told; lists = c.self.inside.lists; parts = slice_set parts c.args.actor c.put-place.new.self })) c.self.view_is
    (record { told = refl; lists = λ k x e. e; parts = more })

pub returns-clause-rows : goal.returns-clause-rows
returns-clause-rows g c = λ n rows.
    let parts = c.self.inside.parts.items in
    let many : length parts ≡ length c.args.self.now.parts = ap (λ (k : ComponentsView). length k.parts) c.self.view_is in
    let more : AreMoreParts parts (slice_set parts c.args.actor c.put-place.new.self) =
    row_put parts c.args.actor c.index_mut-parts.result.now c.put-place.new.self (omega (arith, many)) c.index_mut-parts.ensures.value c.put-place.ensures.more in
    rows_more parts (slice_set parts c.args.actor c.put-place.new.self) n more (subst (λ (k : ComponentsView). AreRows k.parts n) (sym c.self.view_is) rows)

pub returns-clause-part : goal.returns-clause-part
returns-clause-part g c =
    let parts = c.self.inside.parts.items in
    let many : length parts ≡ length c.args.self.now.parts = ap (λ (k : ComponentsView). length k.parts) c.self.view_is in
    IfOk-weaker c.put-place.result _ _ (λ at is. record {
      row = c.put-place.new.self;
      there = set_at parts c.args.actor c.put-place.new.self (omega (arith, many));
      is = is;
    }) c.put-place.ensures.there
