use Rattle.std.proofs.Common.{◌≡◌, ◌++◌, ◌∷◌, [], ◌∙◌, sym, subst, length, refl}
use Rattle.layered_search.specs.declared.frontier.layer.Visited.{Visited}
use Rattle.layered_search.specs.Marked.{IsSameAt, IsNew}
use Rattle.layered_search.proofs.Layers.EdgesGrown.{pushed_on}
use Rattle.layered_search.proofs.Layers.Markings.{looked_more, put_keeps, put_new, put_there}
use Rattle.layered_search.proofs.frontier.visited_set.put.Goals as goal

pub returns-in-Some-clause-there : goal.returns-in-Some-clause-there
returns-in-Some-clause-there g c =
    let k = g.S.TransitionSystem.keys c.args.system.now in
    subst (λ xs. IsSameAt k c.args.key xs c.in-Some.at) c.as_slice.ensures.value c.in-Some.ensures.same

pub returns-clause-looked_up : goal.returns-clause-looked_up
returns-clause-looked_up g c =
    let k = g.S.TransitionSystem.keys c.args.system.now in
    let old = c.args.known.now.states.items in
    let new = c.push_reserved.new.self.items in
    let own : Visited g.row.S-Key.Denot =
    record { key = c.args.key; turns = c.in_ok-turns.turns; is_new = c.is_new-is_new.result } in
    let is : new ≡ old ++ own ∷ [] =
    pushed_on old c.reserve.new.self.items new own c.push_reserved.ensures.items c.reserve.ensures.items in
    looked_more k old new own is c.args.known.now.table c.push.new.self c.print-print.result c.requires
    c.in_ok-push.ensures.pushed c.print-print.ensures
    (λ at found. c.in_default.ensures.none at
    (subst (λ xs. IsSameAt k c.args.key xs at) (sym c.as_slice.ensures.value) found))
    (subst (λ xs. IsNew k c.is_new-is_new.result xs (length xs) c.args.key) c.as_slice-2.ensures.value
    c.is_new-is_new.ensures)

pub returns-clause-keeps : goal.returns-clause-keeps
returns-clause-keeps g c =
    let old = c.args.known.now.states.items in
    let new = c.push_reserved.new.self.items in
    let own : Visited g.row.S-Key.Denot =
    record { key = c.args.key; turns = c.in_ok-turns.turns; is_new = c.is_new-is_new.result } in
    put_keeps old new own
    (pushed_on old c.reserve.new.self.items new own c.push_reserved.ensures.items c.reserve.ensures.items)

pub returns-clause-there : goal.returns-clause-there
returns-clause-there g c =
    let v = c.args.system.now in
    let old = c.args.known.now.states.items in
    let new = c.push_reserved.new.self.items in
    let own : Visited g.row.S-Key.Denot =
    record { key = c.args.key; turns = c.in_ok-turns.turns; is_new = c.is_new-is_new.result } in
    put_there (g.S.TransitionSystem.system v) (g.S.TransitionSystem.keys v) (g.S.TransitionSystem.are_keys v) old new
    own (pushed_on old c.reserve.new.self.items new own c.push_reserved.ensures.items c.reserve.ensures.items)
    c.args.key c.len-at.result (c.len-at.ensures ∙ c.args.known.now.states.ok.0) refl

pub returns-clause-new : goal.returns-clause-new
returns-clause-new g c =
    let old = c.args.known.now.states.items in
    let new = c.push_reserved.new.self.items in
    let own : Visited g.row.S-Key.Denot =
    record { key = c.args.key; turns = c.in_ok-turns.turns; is_new = c.is_new-is_new.result } in
    put_new old new own
    (pushed_on old c.reserve.new.self.items new own c.push_reserved.ensures.items c.reserve.ensures.items)
    c.args.key (c.args.before.now ++ c.args.actor ∷ []) (record { key_is = refl; turns_are = c.in_ok-turns.ensures })
