-- What the answers for parts of all lists come to together.
use Rattle.std.specs.Prelude.{◌≡◌, ℕ, min, List, true, slice_get, sum_by}
use Rattle.std.proofs.Common.{◌∙◌, sym, ap, subst}
use Rattle.std.proofs.lemmas.Option.{same_Some}
use Rattle.race_core.specs.Worlds.{WorldView}
use Rattle.schedule_graph.specs.declared.count.TheConstants.{COUNT_CAP}
use Rattle.schedule_graph.specs.Counted.{IsAmong, EachOnce, AreSoMany, IsLongest}
use Rattle.schedule_graph.proofs.Summing.{so_many_as}
use Rattle.explore.specs.Explored.{Scope, IsAsked, AgreeIn, ClassView, IsEnding, HasClass, rank, is_at_most}
use Rattle.explore.proofs.Lists.Told.{agree_same, agree_turned, agree_on}
use Rattle.further_world_laws.specs.Parts.{Begins, IsAskedFrom, IsPartClass, PartView, BeginsWithOne, begins_of, AreParts, classes_of, greatest_by, AreAgreeing}
use Rattle.further_world_laws.proofs.OnceEach.{among_at, place_of, once_by_places}
use Rattle.further_world_laws.proofs.PickedOnce.{mapped, unmapped, once_unmapped, one_of_each, in_flat, of_flat, once_flat}
use Rattle.further_world_laws.proofs.Sums.{longest_as, sum_many, sum_longest}

module _ (w : WorldView) (scope : Scope) (parts : List PartView) (are : AreParts w scope parts) where
  -- ---- each list is in one part

  part_of : (is : List ℕ) → IsAsked w scope is → (part : PartView) × (IsAmong part parts × Begins part.begin is)
  part_of is asked =
      let one : BeginsWithOne (λ begin. IsAmong begin (begins_of parts)) is = are.cover is asked in
      let found = unmapped (λ (part : PartView). part.begin) one.begin parts one.chosen in
      (found.0, (found.1.0, subst (λ (begin : List ℕ). Begins begin is) found.1.1 one.begins))

  one_part : (p q : PartView) (is : List ℕ) → IsAsked w scope is → IsAmong p parts → IsAmong q parts → Begins p.begin is → Begins q.begin is → p ≡ q
  one_part p q is asked h k b c =
      let one : BeginsWithOne (λ begin. IsAmong begin (begins_of parts)) is = are.cover is asked in
      one_of_each (λ (part : PartView). part.begin) p q parts are.once h k
      (one.only p.begin (mapped (λ (part : PartView). part.begin) p parts h) b
      ∙ sym (one.only q.begin (mapped (λ (part : PartView). part.begin) q parts k) c))

  parts_once : EachOnce parts
  parts_once = once_unmapped (λ (part : PartView). part.begin) parts are.once

  -- ---- all lists

  from_part : (is : List ℕ) → IsAsked w scope is → (part : PartView) × (IsAmong part parts × IsAskedFrom w scope part.begin is)
  from_part is asked = let at = part_of is asked in (at.0, (at.1.0, (asked, at.1.1)))

  pub parts_counted : AreSoMany (IsAsked w scope) (min (sum_by (λ part. part.lists) parts) COUNT_CAP)
  parts_counted =
      so_many_as (min (sum_by (λ (part : PartView). part.lists) parts) COUNT_CAP) (λ is h. h.1.1.0) from_part
      (sum_many (λ (part : PartView). IsAskedFrom w scope part.begin) (λ (part : PartView). part.lists) parts parts_once (λ part h. (are.each part h).counted)
      (λ p q is h k a b. one_part p q is a.0 h k a.1 b.1))

  pub parts_longest : IsLongest (IsAsked w scope) (greatest_by (λ part. part.turns) parts)
  parts_longest =
      longest_as (greatest_by (λ (part : PartView). part.turns) parts) (λ is h. h.1.1.0) from_part
      (sum_longest (λ (part : PartView). IsAskedFrom w scope part.begin) (λ (part : PartView). part.turns) parts (λ part h. (are.each part h).longest))

  -- ---- the parts' classes

  pub class_part : (d : ClassView) → IsAmong d (classes_of parts) → (part : PartView) × (IsAmong part parts × IsAmong d part.classes)
  class_part d h = of_flat (λ (part : PartView). part.classes) d parts h

  pub part_class : (part : PartView) → IsAmong part parts → (d : ClassView) → IsAmong d part.classes → IsPartClass w scope part.begin d
  part_class part h d k = let at = place_of d part.classes k in (are.each part h).each at.0 d at.1

  one_class : (part : PartView) → IsAmong part parts → (d e : ClassView) → IsAmong d part.classes → IsAmong e part.classes
      → AgreeIn w scope d.least.turns e.least.turns → d ≡ e
  one_class part h d e k l agrees =
      let at = place_of d part.classes k in
      let other = place_of e part.classes l in
      same_Some d e (sym at.1 ∙ (ap (λ n. slice_get part.classes n) ((are.each part h).apart at.0 other.0 d e at.1 other.1 agrees) ∙ other.1))

  pub class_asked : (d : ClassView) → IsAmong d (classes_of parts) → IsEnding w scope d.least
  class_asked d h = let at = class_part d h in (part_class at.0 at.1.0 d at.1.1).ending

  pub classes_once : EachOnce (classes_of parts)
  classes_once =
      once_flat (λ (part : PartView). part.classes) parts parts_once
      (λ part h. once_by_places part.classes (λ k l c e f. (are.each part h).apart k l c c e f (agree_same w scope c.least.turns)))
      (λ p q d h k a b.
      let is : IsPartClass w scope p.begin d = part_class p h d a in
      one_part p q d.least.turns is.ending.asked h k is.begins (part_class q k d b).begins)

  -- the list is in the part whose class that is
  abbrev pub IsBeside : ClassView → List ℕ → Type 0
  IsBeside d js = (part : PartView) × (IsAmong part parts × (IsAmong d part.classes × Begins part.begin js))

  -- it leads to the outcome of that class of its part
  abbrev pub LeadsTo : ClassView → List ℕ → Type 0
  LeadsTo d js = IsAsked w scope js × (IsBeside d js × AgreeIn w scope js d.least.turns)

  pub class_counted : (d : ClassView) → IsAmong d (classes_of parts) → AreSoMany (LeadsTo d) d.lists
  class_counted d h =
      let at = class_part d h in
      let is : IsPartClass w scope at.0.begin d = part_class at.0 at.1.0 d at.1.1 in
      so_many_as d.lists
      (λ js k. (k.0.0, ((at.0, (at.1.0, (at.1.1, k.0.1))), k.1)))
      (λ js k. (
        (
          k.0,
          subst (λ (part : PartView). Begins part.begin js)
              (one_part k.1.0.0 at.0 d.least.turns is.ending.asked k.1.0.1.0 at.1.0 (part_class k.1.0.0 k.1.0.1.0 d k.1.0.1.1.0).begins is.begins)
              k.1.0.1.1.1,
        ),
        k.1.1,
      ))
      is.lists

  pub class_alone : (d e : ClassView) (js : List ℕ) → LeadsTo d js → LeadsTo e js → d ≡ e
  class_alone d e js a b =
      let p = a.1.0 in
      let q = b.1.0 in
      let same : p.0 ≡ q.0 = one_part p.0 q.0 js a.0 p.1.0 q.1.0 p.1.1.1 q.1.1.1 in
      one_class p.0 p.1.0 d e p.1.1.0 (subst (λ (part : PartView). IsAmong e part.classes) (sym same) q.1.1.0)
      (agree_on w scope d.least.turns js e.least.turns (agree_turned w scope js d.least.turns a.1.1) b.1.1)

  -- each list leads to a class of its part
  pub own_class : (js : List ℕ) → IsAsked w scope js → (d : ClassView) × LeadsTo d js
  own_class js asked =
      let at = part_of js asked in
      let has : HasClass w scope at.0.classes js = (are.each at.0 at.1.0).told js (asked, at.1.1) in
      (has.class, (asked, ((at.0, (at.1.0, (among_at at.0.classes has.at has.class has.there, at.1.1))), has.agrees)))

  pub own_among : (js : List ℕ) (asked : IsAsked w scope js) → IsAmong (own_class js asked).0 (classes_of parts)
  own_among js asked =
      let own = own_class js asked in
      let at = own.1.1.0 in
      in_flat (λ (part : PartView). part.classes) at.0 own.0 parts at.1.0 at.1.1.0

  -- which is the least of those that lead there
  pub own_least : (d : ClassView) (js : List ℕ) → LeadsTo d js → is_at_most (rank w d.least.turns) (rank w js) ≡ true
  own_least d js leads =
      let at = leads.1.0 in
      (part_class at.0 at.1.0 d at.1.1.0).least js (leads.0, at.1.1.1) leads.1.1

  -- the lists with one outcome
  pub agreeing_counted : (is : List ℕ) (agreeing : List ClassView) → AreAgreeing w scope parts is agreeing
      → AreSoMany (λ js. IsAsked w scope js × AgreeIn w scope js is) (min (sum_by (λ c. c.lists) agreeing) COUNT_CAP)
  agreeing_counted is agreeing given =
      so_many_as (min (sum_by (λ (c : ClassView). c.lists) agreeing) COUNT_CAP)
      (λ js h. (h.1.1.0, agree_on w scope js h.0.least.turns is h.1.1.1.1 (given.each h.0 h.1.0).1))
      (λ js k.
      let own = own_class js k.0 in (
        own.0,
        (
          given.all own.0 (own_among js k.0)
              (agree_on w scope own.0.least.turns js is (agree_turned w scope js own.0.least.turns own.1.1.1) k.1),
          own.1,
        ),
      ))
      (sum_many LeadsTo (λ (c : ClassView). c.lists) agreeing given.once (λ d h. class_counted d (given.each d h).0) (λ d e js h k a b. class_alone d e js a b))
