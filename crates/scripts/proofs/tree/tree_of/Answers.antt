use Rattle.std.proofs.Common.{◌≡◌, [], List, Ok, ap, length, subst, sym, ◌∙◌}
use Rattle.tree_model.specs.declared.inode.Inode.{Inode}
use Rattle.tree_model.specs.State.{State}
use Rattle.tree_list.specs.Build.{adds_all, built, top_alone, IsFaultFrom}
use Rattle.scripts.proofs.Entries.{too_many, tree_whole, tree_misshaped, tree_refused}
use Rattle.scripts.proofs.tree.tree_of.Goals as goal

pub returns-then-values-gt-ENTRIES_MAX-clause-err : goal.returns-then-values-gt-ENTRIES_MAX-clause-err
returns-then-values-gt-ENTRIES_MAX-clause-err c = too_many c.args.values.now c.if-values-gt-ENTRIES_MAX.true

pub returns-in-Ok-clause-ok : goal.returns-in-Ok-clause-ok
returns-in-Ok-clause-ok c =
    let counted : c.len-shaped.result ≡ length c.deref.result.now = c.len-shaped.ensures ∙ sym c.deref.ensures.len in
    let top : top_alone ≡ c.in_ok-tree.tree.nodes = sym (ap (λ (s : State). s.nodes) c.in_ok-tree.ensures.ok) in
    let none : c.in_ok-tree.tree.handles ≡ [] = ap (λ (s : State). s.handles) c.in_ok-tree.ensures.ok in
    let made : built c.deref.result.now ≡ Ok c.add_all.new.self.nodes =
    ap (λ (nodes : List Inode). adds_all 0 nodes c.deref.result.now) top ∙ c.in-Ok.ensures.ok in (
      tree_whole c.args.values.now c.deref.result.now c.add_all.new.self.nodes
          (record { few = c.if-values-gt-ENTRIES_MAX.false; shaped = c.deref.ensures.value ∙ c.in_ok-entries.ensures; built = made })
          (sym counted ∙ c.if-shaped-values.true),
      c.in-Ok.ensures.handles ∙ none,
    )

pub returns-in-Ok-2-clause-err : goal.returns-in-Ok-2-clause-err
returns-in-Ok-2-clause-err c =
    let counted : c.len-shaped.result ≡ length c.deref.result.now = c.len-shaped.ensures ∙ sym c.deref.ensures.len in
    let top : top_alone ≡ c.in_ok-tree.tree.nodes = sym (ap (λ (s : State). s.nodes) c.in_ok-tree.ensures.ok) in
    let made : built c.deref.result.now ≡ Ok c.add_all.new.self.nodes =
    ap (λ (nodes : List Inode). adds_all 0 nodes c.deref.result.now) top ∙ c.in-Ok-2.ensures.ok in
    rw counted
    (tree_misshaped c.args.values.now c.deref.result.now c.add_all.new.self.nodes
    (record { few = c.if-values-gt-ENTRIES_MAX.false; shaped = c.deref.ensures.value ∙ c.in_ok-entries.ensures; built = made })
    (λ same. c.if-shaped-values.false (counted ∙ same)))

pub returns-clause-err : goal.returns-clause-err
returns-clause-err c =
    let top : c.in_ok-tree.tree.nodes ≡ top_alone = ap (λ (s : State). s.nodes) c.in_ok-tree.ensures.ok in
    rw c.told_by.ensures
    (tree_refused c.args.values.now c.deref.result.now c.in-Err.fault c.if-values-gt-ENTRIES_MAX.false
    (c.deref.ensures.value ∙ c.in_ok-entries.ensures)
    (subst (λ (nodes : List Inode). IsFaultFrom nodes c.deref.result.now c.in-Err.fault) top c.in-Err.ensures.err))
