use Rattle.std.proofs.lemmas.Bool.{false≢true}
use Rattle.layered_search.proofs.Layers.Markings.{key_read, none_past}
use Rattle.layered_search.proofs.frontier.visited_set.is_same_at.Goals as goal

pub returns-in-Some : goal.returns-in-Some
returns-in-Some g c =
    let k = g.S.TransitionSystem.keys c.args.system.now in
    let h = c.in-Some.ensures.lookup in
    key_read (λ other. k.AreSame c.args.key.now other) c.args.states.now c.args.at c.in-Some.other.now
    c.is_same.result h.3.0 h.1 c.is_same.ensures

pub returns-in-None : goal.returns-in-None
returns-in-None g c =
    let k = g.S.TransitionSystem.keys c.args.system.now in (
      (λ t. absurd (false≢true t)),
      (λ found. absurd (none_past (λ other. k.AreSame c.args.key.now other) c.args.states.now c.args.at
          c.in-None.ensures.lookup.3 found)),
    )
