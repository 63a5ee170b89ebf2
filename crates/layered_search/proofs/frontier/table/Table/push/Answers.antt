use Rattle.std.proofs.Common.{◌≡◌, ◌++◌, ◌∷◌, [], ◌∙◌, ℕ, List, Some, length, cond, nat_eq, ap, sym, subst, arith}
use Rattle.std.specs.Prelude.{Option}
use Rattle.std.specs.HashMap.{get}
use Rattle.layered_search.specs.Chained.{IsLastBelow, AreChained}
use Rattle.layered_search.proofs.Lists.Chains.{more_chained}
use Rattle.layered_search.proofs.frontier.table.Table.push.Goals as goal

pub invariant_of-self-2 : goal.invariant_of-self-2
invariant_of-self-2 c =
    let prints : List ℕ = c.self.inside.prints.items in
    let befores : List (Option ℕ) = c.self.inside.befores.items in
    let own : ℕ = c.args.print in
    let before : Option ℕ = c.last-before.result in
    let last : IsLastBelow prints (length prints) own before =
    subst (λ (ps : List ℕ). IsLastBelow ps (length ps) own before) (sym c.self.view_is) c.last-before.ensures in
    let many : c.len.result ≡ length prints = omega (
      arith,
      c.len.ensures,
      c.reserve.new.self.ok.0,
      ap length
          c.reserve.ensures.items,
    ) in
    let moved = λ (p : ℕ). c.in_ok-insert.ensures.updates.0 p
    ∙ ap (λ (n : ℕ). cond (nat_eq own p) (Some n) (get nat_eq c.self.inside.lasts p)) many in
    let more : AreChained (prints ++ own ∷ []) (befores ++ before ∷ []) (get nat_eq c.insert.new.self) =
    more_chained prints befores (get nat_eq c.self.inside.lasts) (get nat_eq c.insert.new.self) own before
    c.self.invariant last moved in
    subst (λ (ps : List ℕ). AreChained ps c.push_reserved.new.self.items (get nat_eq c.insert.new.self))
    (sym (c.push_reserved-2.ensures.items ∙ ap (λ (ps : List ℕ). ps ++ own ∷ []) c.reserve.ensures.items))
    (subst (λ (bs : List (Option ℕ)). AreChained (prints ++ own ∷ []) bs (get nat_eq c.insert.new.self))
    (sym (c.push_reserved.ensures.items ∙ ap (λ (bs : List (Option ℕ)). bs ++ before ∷ []) c.reserve-2.ensures.items))
    more)
