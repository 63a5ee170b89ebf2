use Rattle.std.proofs.Common.{◌≡◌, sym, ap, ◌∙◌, subst, List, [], ◌∷◌, ◌++◌, length}
use Rattle.std.specs.Prelude.{map, slice_get, Some}
use Rattle.std.specs.Global.{Vec}
use Rattle.tree_model.specs.declared.inode.Inode.{Inode}
use Rattle.tree_model.proofs.Places.{slice_get-last}
use Rattle.layered_search.proofs.Places.{get_left}
use Rattle.local_states.specs.Distinct.{AreEachOnce}
use Rattle.local_states.proofs.Parted.Once.{once_more, map_push}
use Rattle.local_states.proofs.nodes.NodeLists.put.Goals as goal

abbrev lists_in : List (Vec Inode) → List (List Inode)
lists_in lists = map (λ (list : Vec Inode). list.items) lists

pub invariant_of-self-2 : goal.invariant_of-self-2
invariant_of-self-2 c =
    let old = c.self.inside.lists.items in
    let more : lists_in c.push.new.self.items ≡ lists_in old ++ c.args.nodes.now ∷ [] =
    map_push (λ (list : Vec Inode). list.items) old c.push.new.self.items c.in_ok-copy_nodes.field-0
    c.args.nodes.now c.in_ok-push.ensures.items c.in_ok-copy_nodes.ensures in
    subst (λ xs. AreEachOnce xs) (sym more) (once_more (lists_in old) c.args.nodes.now c.self.invariant
    (λ k e. c.in_default.ensures.nowhere k
    (subst (λ (xs : List (List Inode)). slice_get xs k ≡ Some c.args.nodes.now) c.self.view_is e)))

pub returns-clause-keeps : goal.returns-clause-keeps
returns-clause-keeps c = λ k x e.
    let old = c.self.inside.lists.items in
    let more : lists_in c.push.new.self.items ≡ lists_in old ++ c.args.nodes.now ∷ [] =
    map_push (λ (list : Vec Inode). list.items) old c.push.new.self.items c.in_ok-copy_nodes.field-0
    c.args.nodes.now c.in_ok-push.ensures.items c.in_ok-copy_nodes.ensures in
    subst (λ (xs : List (List Inode)). slice_get xs k ≡ Some x) (sym more)
    (get_left (lists_in old) c.args.nodes.now k x
    (subst (λ (xs : List (List Inode)). slice_get xs k ≡ Some x) (sym c.self.view_is) e))

pub returns-clause-there : goal.returns-clause-there
returns-clause-there c =
    let old = c.self.inside.lists.items in
    let more : lists_in c.push.new.self.items ≡ lists_in old ++ c.args.nodes.now ∷ [] =
    map_push (λ (list : Vec Inode). list.items) old c.push.new.self.items c.in_ok-copy_nodes.field-0
    c.args.nodes.now c.in_ok-push.ensures.items c.in_ok-copy_nodes.ensures in
    subst (λ (xs : List (List Inode)). slice_get xs c.len-at.result ≡ Some c.args.nodes.now) (sym more)
    (subst (λ n. slice_get (lists_in old ++ c.args.nodes.now ∷ []) n ≡ Some c.args.nodes.now)
    (sym (c.len-at.ensures ∙ sym (ap length c.self.view_is)))
    (slice_get-last (lists_in old) c.args.nodes.now))
