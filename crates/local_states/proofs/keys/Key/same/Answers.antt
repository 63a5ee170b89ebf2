use Rattle.std.proofs.Common.{◌≡◌, refl, nat_eq, ◌&&◌, rules}
use Rattle.std.specs.Bool.{Decides}
use Rattle.std.proofs.lemmas.Slice.Eq.{slice_eq-Decides}
use Rattle.local_states.specs.declared.keys.Own.{Own}
use Rattle.local_states.proofs.keys.Key.same.Goals as goal

own_decides : (a b : Own) → Decides (nat_eq a.part b.part && nat_eq a.outside b.outside) (a ≡ b)
own_decides a b = search rules

pub returns-then-same_numbers : goal.returns-then-same_numbers
returns-then-same_numbers c =
    let numbers = c.if-same_numbers.ensures.0 refl in
    let own : Decides c.eq.result (c.args.self.now.own.items ≡ c.args.other.now.own.items) = slice_eq-Decides own_decides _ _ c.eq.result c.eq.ensures in (
      λ t. record { nodes = numbers.0; events = numbers.1.0; opened = numbers.1.1.0; closed = numbers.1.1.1; own = own.0 t },
      λ same. own.1 same.own,
    )
