use Rattle.std.proofs.Common.{rules, ◌≡◌, subst, sym}
use Rattle.std.proofs.lemmas.Result.{on_ok_weaker}
use Rattle.tree_model.specs.Trees.{IsState}
use Rattle.tree_list.proofs.Built.{adds_all_state}
use Rattle.tree_slab.proofs.tree.SlabTree.add_all.Goals as goal

pub returns-clause-state : goal.returns-clause-state
returns-clause-state c state =
    let seen : c.self.inside.tables ≡ c.args.self.now = search rules in
    let is : IsState c.self.inside.tables = subst IsState (sym seen) state in
    on_ok_weaker c.add_to.result (λ added. adds_all_state 0 c.self.inside.tables c.add_to.new.tables c.args.entries.now added c.add_to.ensures.handles is) c.add_to.ensures.ok
