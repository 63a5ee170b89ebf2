use Rattle.std.proofs.Common.{◌≡◌, ◌++◌, ◌∙◌, ap}
use Rattle.std.specs.List.{flat_map}
use Rattle.std.proofs.lemmas.Result.{IfOk-equal}
use Rattle.race_core.specs.Ledgers.{LedgerView}
use Rattle.race_core.specs.Renamed.{outcome_handles, option_handles, ledger_handles}
use Rattle.race_core.proofs.LikeSeats.{standing_handles, listed}
use Rattle.race_core.proofs.like.ledgers.LedgerLike.push_handles.Goals as goal

pub returns : goal.returns
returns c =
    let ledger : LedgerView = record {
      root = c.self.inside.root;
      to_come = c.self.inside.to_come.items;
      outcomes = c.self.inside.outcomes;
      standings = c.self.inside.standings.items;
      kept = c.self.inside.kept.items;
    } in
    let four = c.push_all-2.new.into.items in
    let all : four ++ flat_map standing_handles ledger.kept ≡ c.args.into.now.items ++ ledger_handles ledger =
    listed ledger c.args.into.now.items c.push.new.self.items c.push_queue.new.into.items c.push_all.new.into.items four
    c.in_ok-push.ensures.items
    c.in_ok-push_queue.ensures
    (c.in_ok-push_all.ensures ∙ ap (λ xs. c.push_queue.new.into.items ++ flat_map outcome_handles xs) c.as_slice.ensures)
    (c.in_ok-push_all-2.ensures ∙ ap (λ xs. c.push_all.new.into.items ++ flat_map option_handles xs) c.as_slice-2.ensures.value) in
    let kept = ap (λ xs. four ++ flat_map standing_handles xs) c.as_slice-3.ensures.value in
    IfOk-equal c.push_all-3.result c.push_all-3.new.into.items (four ++ flat_map standing_handles c.as_slice-3.result.now) (c.args.into.now.items ++ ledger_handles c.args.self.now)
    c.push_all-3.ensures
    (kept ∙ (all ∙ ap (λ (l : LedgerView). c.args.into.now.items ++ ledger_handles l) c.self.view_is))
