use Rattle.std.proofs.Common.{sym, ◌∙◌, subst, length, refl, arith}
use Rattle.std.proofs.lemmas.Bool.{true≢false}
use Rattle.std.proofs.lemmas.Option.{slice_get_read}
use Rattle.local_states.specs.HandleTables.{HasHandleTable, HasOutcomes}
use Rattle.local_states.specs.Keys.{PartsView, IsPartIn}
use Rattle.local_states.proofs.Parted.Parts.{row_of, in_by, none_below, none_more}
use Rattle.local_states.proofs.parts.Parts.place_of.Goals as goal

pub is_in-requires : goal.is_in-requires
is_in-requires g c = subst (λ (row : PartsView). HasHandleTable c.args.world.now row.actor c.args.handle_table.now) (sym c.self.view_is) c.requires.handle_table

pub returns-then-is_in-clause-there : goal.returns-then-is_in-clause-there
returns-then-is_in-clause-there g c =
    let parts = c.self.inside.parts.items in
    let has = subst (λ (row : PartsView). HasOutcomes row.outcomes c.args.world.now row.actor c.args.outcomes.now) (sym c.self.view_is) c.requires.outcomes in
    subst (λ (row : PartsView). IsPartIn row c.args.world.now c.loop-at.at) c.self.view_is
    (in_by c.self.inside.actor c.self.inside.outcomes parts c.loop-at.at c.index-part.result.now c.args.world.now c.self.invariant
    (slice_get_read parts (length parts) c.loop-at.at c.index-part.result.now refl (omega arith) c.index-part.ensures)
    (λ o is. (c.is_in.ensures c.self.inside.outcomes o c.are_once.ensures has is).0 c.if-is_in.true))

pub loop-at-preserved : goal.loop-at-preserved
loop-at-preserved g c =
    let parts = c.self.inside.parts.items in
    let has = subst (λ (row : PartsView). HasOutcomes row.outcomes c.args.world.now row.actor c.args.outcomes.now) (sym c.self.view_is) c.requires.outcomes in
    none_more (row_of c.self.inside.actor c.self.inside.outcomes parts) c.loop-at.at c.index-part.result.now c.args.world.now c.loop-at.invariant
    (slice_get_read parts (length parts) c.loop-at.at c.index-part.result.now refl (omega arith) c.index-part.ensures)
    (λ o is same. true≢false (sym ((c.is_in.ensures c.self.inside.outcomes o c.are_once.ensures has is).1 same) ∙ c.if-is_in.false))

pub returns-clause-nowhere : goal.returns-clause-nowhere
returns-clause-nowhere g c = λ k is.
    none_below (row_of c.self.inside.actor c.self.inside.outcomes c.self.inside.parts.items) c.loop-at.at c.args.world.now (omega arith) c.loop-at.invariant k
    (subst (λ (row : PartsView). IsPartIn row c.args.world.now k) (sym c.self.view_is) is)
