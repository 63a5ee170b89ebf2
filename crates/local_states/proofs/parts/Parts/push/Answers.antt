use Rattle.std.proofs.Common.{sym, ap, ◌∙◌, subst, length}
use Rattle.std.specs.Prelude.{◌≡◌, List, [], ◌∷◌, ◌++◌, slice_get, Some}
use Rattle.std.proofs.lemmas.Option.{slice_get_within}
use Rattle.tree_model.proofs.Places.{slice_get-last}
use Rattle.layered_search.proofs.Places.{get_left}
use Rattle.race_core.specs.Renamed.{seat_by}
use Rattle.local_states.specs.HandleTables.{HasHandleTable, HasOutcomes, PartView, IsPartOf}
use Rattle.local_states.specs.Keys.{PartsView, IsPartIn}
use Rattle.local_states.proofs.Parted.Parts.{part_itself_at, parts_pushed}
use Rattle.local_states.proofs.parts.Parts.push.Goals as goal

pub seat_without_outcomes-requires : goal.seat_without_outcomes-requires
seat_without_outcomes-requires g c =
    let has = subst (λ (row : PartsView). HasHandleTable c.args.world.now row.actor c.args.handle_table)
    (sym c.self.view_is) c.requires.handle_table in
    slice_get_within c.args.world.now.seats c.self.inside.actor has.seat has.there

pub invariant_of-self-2 : goal.invariant_of-self-2
invariant_of-self-2 g c =
    let has = subst (λ (row : PartsView). HasHandleTable c.args.world.now row.actor c.args.handle_table)
    (sym c.self.view_is) c.requires.handle_table in
    let are = subst (λ (row : PartsView). HasOutcomes row.outcomes c.args.world.now row.actor c.args.outcomes.items)
    (sym c.self.view_is) c.requires.outcomes in
    let part : PartView = record {
      seat = c.in_ok-seat.seat;
      outcomes = c.args.outcomes.items;
      handle_table = c.args.handle_table;
      busy = c.has_turns-busy.result;
      within = c.is_within_call-within.result;
    } in
    let is : IsPartOf c.self.inside.outcomes c.args.world.now c.self.inside.actor part = record {
      handle_table = has;
      outcomes = are;
      seat = ap (seat_by (λ h. 0)) (sym (c.in_ok-seat.ensures has.seat has.there));
      busy = c.has_turns-busy.ensures;
      within = c.is_within_call-within.ensures;
    } in
    parts_pushed c.self.inside.actor c.self.inside.outcomes c.self.inside.parts.items c.reserve.new.self.items
    c.push_reserved.new.self.items part
    c.args.world.now c.push_reserved.ensures.items c.in_ok-reserve.ensures.items c.self.invariant is
    (λ k it. c.requires.new k (subst (λ (row : PartsView). IsPartIn row c.args.world.now k) c.self.view_is it))

pub returns-clause-keeps : goal.returns-clause-keeps
returns-clause-keeps g c = λ k x e.
    let old : List PartView = c.args.self.now.parts in
    let part : PartView = record {
      seat = c.in_ok-seat.seat;
      outcomes = c.args.outcomes.items;
      handle_table = c.args.handle_table;
      busy = c.has_turns-busy.result;
      within = c.is_within_call-within.result;
    } in
    let all : c.push_reserved.new.self.items ≡ old ++ part ∷ [] =
    c.push_reserved.ensures.items
    ∙ ap (λ (ps : List PartView). ps ++ part ∷ [])
    (c.in_ok-reserve.ensures.items ∙ ap (λ (row : PartsView). row.parts) c.self.view_is) in
    subst (λ (ps : List PartView). slice_get ps k ≡ Some x) (sym all) (get_left old part k x e)

pub returns-clause-there : goal.returns-clause-there
returns-clause-there g c =
    let has = subst (λ (row : PartsView). HasHandleTable c.args.world.now row.actor c.args.handle_table)
    (sym c.self.view_is) c.requires.handle_table in
    let are = subst (λ (row : PartsView). HasOutcomes row.outcomes c.args.world.now row.actor c.args.outcomes.items)
    (sym c.self.view_is) c.requires.outcomes in
    let old : List PartView = c.args.self.now.parts in
    let part : PartView = record {
      seat = c.in_ok-seat.seat;
      outcomes = c.args.outcomes.items;
      handle_table = c.args.handle_table;
      busy = c.has_turns-busy.result;
      within = c.is_within_call-within.result;
    } in
    let all : c.push_reserved.new.self.items ≡ old ++ part ∷ [] =
    c.push_reserved.ensures.items
    ∙ ap (λ (ps : List PartView). ps ++ part ∷ [])
    (c.in_ok-reserve.ensures.items ∙ ap (λ (row : PartsView). row.parts) c.self.view_is) in
    record {
      part = part;
      there = subst (λ (ps : List PartView). slice_get ps (length old) ≡ Some part) (sym all) (slice_get-last old part);
      other = c.args.world.now;
      is = record {
        handle_table = has;
        outcomes = are;
        seat = ap (seat_by (λ h. 0)) (sym (c.in_ok-seat.ensures has.seat has.there));
        busy = c.has_turns-busy.ensures;
        within = c.is_within_call-within.ensures;
      };
      same = part_itself_at c.args.world.now c.self.inside.actor c.args.handle_table has;
    }
