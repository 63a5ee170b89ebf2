use Rattle.std.proofs.Common.{sym, subst, ap, ◌∙◌}
use Rattle.std.specs.Prelude.{List, Option}
use Rattle.std.proofs.lemmas.List.{with_items_is}
use Rattle.std.specs.Vec.{with_items}
use Rattle.handles.specs.Objects.{StandingObject}
use Rattle.race_core.specs.Ledgers.{LedgerView}
use Rattle.race_core.specs.Turns.{request_of, left_by}
use Rattle.race_core.specs.TurnView.{IsBegun}
use Rattle.race_core.proofs.Starting.{begun_by}
use Rattle.race_core.proofs.ledger.Ledger.begin.Goals as goal

pub returns : goal.returns
returns c =
    let was : LedgerView = record {
      root = c.self.inside.root;
      to_come = c.self.inside.to_come.items;
      outcomes = c.self.inside.outcomes;
      standings = c.self.inside.standings.items;
      kept = c.self.inside.kept.items;
    } in
    let begun = begun_by was c.in_ok-planned.planned c.pop_front.new.self.items c.request_of-request.new.standings c.request_of-request.result c.start_call.result
    c.in_ok-planned.ensures.items
    (c.request_of-request.ensures.request ∙ ap (λ (ss : List (Option StandingObject)). request_of c.self.inside.root ss c.in_ok-planned.planned) c.as_mut_slice.ensures.value)
    (c.request_of-request.ensures.left ∙ ap (λ (ss : List (Option StandingObject)). left_by c.in_ok-planned.planned ss) c.as_mut_slice.ensures.value)
    c.start_call.ensures in
    let same = with_items_is c.self.inside.standings c.request_of-request.new.standings (c.request_of-request.auto.standings ∙ c.as_mut_slice.ensures.len) in
    let P : LedgerView → List (Option StandingObject) → Type 0 = λ old ss.
    IsBegun old (record {
      root = c.self.inside.root;
      to_come = c.pop_front.new.self.items;
      outcomes = c.self.inside.outcomes;
      standings = ss;
      kept = c.self.inside.kept.items;
    }) c.start_call.result in
    subst (λ old. P old (with_items c.self.inside.standings c.request_of-request.new.standings).items) c.self.view_is
    (subst (λ ss. P was ss) (sym same) begun)
