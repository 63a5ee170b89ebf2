use Rattle.std.proofs.Common.{◌≡◌, subst, sym, rules}
use Rattle.std.specs.Prelude.{IfErr}
use Rattle.serde_json.specs.View.{view, items_view}
use Rattle.tree_model.specs.State.{TOP}
use Rattle.tree_model.specs.Steps.{directory_at}
use Rattle.scripts.specs.declared.actors.TheConstants.{ACTOR}
use Rattle.scripts.specs.Actors.{IsAtHand, rooted}
use Rattle.scripts.specs.Fault.{IsFaultOf}
use Rattle.scripts.specs.Script.{rooted_tree_of}
use Rattle.scripts.proofs.Opened.{root_said}
use Rattle.scripts.proofs.script.open_script.Goals as goal

pub returns-clause-ok : goal.returns-clause-ok
returns-clause-ok c =
    let said : rooted_tree_of (view c.args.script.now) ≡ rooted c.in_ok-tree.tree.nodes (directory_at c.in_ok-tree.tree.nodes TOP c.in-Some-2.names) =
    root_said (view c.args.script.now) c.in_ok-tree.tree.nodes c.in-Some-2.names
    (record {
      items = items_view c.in-Some.entries.now;
      actor = view c.in-Some-first_actor_of.actor.now;
      version = c.in_ok-_version._version;
      head = c.in_ok-_version.ensures.ok;
      entries = search rules;
      tree = c.in_ok-tree.ensures.ok.0;
      first = search rules;
      root = search rules;
    }) in
    subst (λ s. IsAtHand s c.open_root.new.tree ACTOR c.in_ok-root.root) (sym said) c.in_ok-root.ensures.ok

pub returns-in_err-root-clause-err : goal.returns-in_err-root-clause-err
returns-in_err-root-clause-err c =
    let said : rooted_tree_of (view c.args.script.now) ≡ rooted c.in_ok-tree.tree.nodes (directory_at c.in_ok-tree.tree.nodes TOP c.in-Some-2.names) =
    root_said (view c.args.script.now) c.in_ok-tree.tree.nodes c.in-Some-2.names
    (record {
      items = items_view c.in-Some.entries.now;
      actor = view c.in-Some-first_actor_of.actor.now;
      version = c.in_ok-_version._version;
      head = c.in_ok-_version.ensures.ok;
      entries = search rules;
      tree = c.in_ok-tree.ensures.ok.0;
      first = search rules;
      root = search rules;
    }) in
    subst (λ s. IfErr c.from_residual-in_err-root.result (IsFaultOf s)) (sym said) (search rules)
