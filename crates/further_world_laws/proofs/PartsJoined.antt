-- The answer for all lists is what the answers for their parts make.
use Rattle.std.specs.Prelude.{◌≡◌, ◌≤◌, ◌⊎◌, ℕ, min, List, length, slice_get, Some, sum_by}
use Rattle.std.proofs.Common.{◌∙◌, inl, inr, sym, ap, subst, ⊎_elim}
use Rattle.std.proofs.lemmas.Bool.{cases_eq}
use Rattle.std.proofs.lemmas.Option.{same_Some}
use Rattle.std.proofs.Math.Nat.{le_antisymm}
use Rattle.race_core.specs.Worlds.{WorldView}
use Rattle.schedule_graph.specs.declared.count.TheConstants.{COUNT_CAP}
use Rattle.schedule_graph.specs.Counted.{IsAmong, AreSoMany}
use Rattle.schedule_graph.specs.Counted as counted
use Rattle.schedule_graph.proofs.Ranks.{ranks_chain}
use Rattle.explore.specs.Explored.{Scope, rank, IsAsked, AgreeIn, EndingView, ClassView, IsEnding, HasClass}
use Rattle.explore.specs.Promise.{IsMergedClass, IsMerged}
use Rattle.explore.proofs.Lists.Told.{agree_same, agree_turned, agree_on}
use Rattle.further_world_laws.specs.Parts.{PartView, AreParts, classes_of, greatest_by, AreAgreeing, IsJoinedClass, HasOneClass, IsJoined, PartsMakeTheWhole}
use Rattle.further_world_laws.proofs.OnceEach.{same_many, among_at, place_of}
use Rattle.further_world_laws.proofs.OneOrder.{ranks_both}
use Rattle.further_world_laws.proofs.OneAnswer.{same_ending}
use Rattle.further_world_laws.proofs.PickedOnce.{Picked, pick}
use Rattle.further_world_laws.proofs.Sums.{some_counted, counted_some}
use Rattle.further_world_laws.proofs.PartsCounted.{parts_counted, parts_longest, class_asked, classes_once, own_class, own_among, own_least, agreeing_counted}

-- ---- which is the longest

-- the one way to say it and the other
longest_is : (P : List ℕ → Type 0) (m n : ℕ) → (is : List ℕ) × (P is × (length is ≡ m)) → ((is : List ℕ) → P is → length is ≤ m)
    → counted.IsLongest P n → m ≡ n
longest_is P m n reached bounded is =
    le_antisymm (subst (λ k. k ≤ n) reached.1.1 (is.bounded reached.0 reached.1.0))
    (⊎_elim (λ none. absurd (none.1 reached.0 reached.1.0)) (λ one. subst (λ k. k ≤ m) one.1.1 (bounded one.0 one.1.0)) is.reached)

module _ (w : WorldView) (scope : Scope) (parts : List PartView) (are : AreParts w scope parts) (classes : List ClassView) (lists turns : ℕ) where
  -- ---- from all to the parts

  module _ (whole : IsMerged w scope classes lists turns) where
    one_class_of : (d : ClassView) → IsAmong d (classes_of parts) → HasOneClass w scope classes d.least.turns
    one_class_of d h =
        let has : HasClass w scope classes d.least.turns = whole.told d.least.turns (class_asked w scope parts are d h).asked in record {
          at = has.at;
          class = has.class;
          there = has.there;
          agrees = has.agrees;
          only = λ k c there agrees.
              whole.apart k has.at c has.class there has.there
              (agree_on w scope c.least.turns d.least.turns has.class.least.turns (agree_turned w scope d.least.turns c.least.turns agrees) has.agrees);
        }

    -- whether a class of a part has the outcome of the class at that place
    agrees_or_not : (k : ℕ) (class : ClassView) → slice_get classes k ≡ Some class → (d : ClassView) → IsAmong d (classes_of parts)
        → AgreeIn w scope d.least.turns class.least.turns ⊎ (AgreeIn w scope d.least.turns class.least.turns → ⊥)
    agrees_or_not k class there d h =
        let one : HasOneClass w scope classes d.least.turns = one_class_of d h in
        ⊎_elim
        (λ e. inl (subst (λ (c : ClassView). AgreeIn w scope d.least.turns c.least.turns)
        (same_Some one.class class (sym one.there ∙ (ap (λ n. slice_get classes n) (sym e) ∙ there))) one.agrees))
        (λ ne. inr (λ agrees. ne (one.only k class there agrees)))
        (cases_eq k one.at)

    joined_class : (class : ClassView) → IsAmong class classes → IsJoinedClass w scope parts class
    joined_class class h =
        let at = place_of class classes h in
        let is : IsMergedClass w scope class = whole.each at.0 class at.1 in
        let picked : Picked (λ d. AgreeIn w scope d.least.turns class.least.turns) (classes_of parts) =
        pick (λ (d : ClassView). AgreeIn w scope d.least.turns class.least.turns) (classes_of parts) (classes_once w scope parts are) (agrees_or_not at.0 class at.1) in
        let agreeing : AreAgreeing w scope parts class.least.turns picked.those = record { each = picked.each; all = picked.all; once = picked.once } in
        let own = own_class w scope parts are class.least.turns is.ending.asked in
        let among : IsAmong own.0 (classes_of parts) = own_among w scope parts are class.least.turns is.ending.asked in
        let back : AgreeIn w scope own.0.least.turns class.least.turns = agree_turned w scope class.least.turns own.0.least.turns own.1.1.1 in
        let ending : IsEnding w scope own.0.least = class_asked w scope parts are own.0 among in
        let t : own.0.least.turns ≡ class.least.turns =
        ranks_both (rank w own.0.least.turns) (rank w class.least.turns) (own_least w scope parts are own.0 class.least.turns own.1)
        (is.least own.0.least.turns ending.asked back) in record {
          agreeing = picked.those;
          are_agreeing = agreeing;
          lists =
              same_many (λ js. IsAsked w scope js × AgreeIn w scope js class.least.turns) (λ js. IsAsked w scope js × AgreeIn w scope js class.least.turns)
              class.lists (min (sum_by (λ (c : ClassView). c.lists) picked.those) COUNT_CAP) (λ js p. p) (λ js p. p) is.lists
              (agreeing_counted w scope parts are class.least.turns picked.those agreeing);
          own = (own.0, (picked.all own.0 among back, same_ending w scope own.0.least class.least ending is.ending t));
          least = λ d k. is.least d.least.turns (class_asked w scope parts are d (picked.each d k).0).asked (picked.each d k).1;
        }

    joined : IsJoined w scope parts classes lists turns
    joined = record {
      some = some_counted (IsAsked w scope) lists whole.counted whole.longest.reached.0 whole.longest.reached.1.0;
      counted = same_many (IsAsked w scope) (IsAsked w scope) lists (min (sum_by (λ (part : PartView). part.lists) parts) COUNT_CAP) (λ js p. p) (λ js p. p)
          whole.counted (parts_counted w scope parts are);
      longest = longest_is (IsAsked w scope) turns (greatest_by (λ (part : PartView). part.turns) parts) whole.longest.reached whole.longest.bounded
          (parts_longest w scope parts are);
      told = one_class_of;
      each = joined_class;
    }

  -- ---- from the parts to all

  module _ (join : IsJoined w scope parts classes lists turns) where
    all_counted : AreSoMany (IsAsked w scope) lists
    all_counted = subst (λ n. AreSoMany (IsAsked w scope) n) (sym join.counted) (parts_counted w scope parts are)

    all_longest : counted.IsLongest (IsAsked w scope) turns
    all_longest = subst (λ n. counted.IsLongest (IsAsked w scope) n) (sym join.longest) (parts_longest w scope parts are)

    some_list : (is : List ℕ) × IsAsked w scope is
    some_list = counted_some (IsAsked w scope) lists all_counted join.some

    has_class : (is : List ℕ) → IsAsked w scope is → HasClass w scope classes is
    has_class is asked =
        let own = own_class w scope parts are is asked in
        let one : HasOneClass w scope classes own.0.least.turns = join.told own.0 (own_among w scope parts are is asked) in
        record { at = one.at; class = one.class; there = one.there; agrees = agree_on w scope is own.0.least.turns one.class.least.turns own.1.1.1 one.agrees }

    -- the class of a part that a class is made of, with its least list
    origin : (k : ℕ) (c : ClassView) → slice_get classes k ≡ Some c → (d : ClassView) × (IsAmong d (classes_of parts) × (d.least ≡ c.least))
    origin k c there =
        let is : IsJoinedClass w scope parts c = join.each c (among_at classes k c there) in
        (is.own.0, ((is.are_agreeing.each is.own.0 is.own.1.0).0, is.own.1.1))

    apart : (k l : ℕ) (c d : ClassView) → slice_get classes k ≡ Some c → slice_get classes l ≡ Some d → AgreeIn w scope c.least.turns d.least.turns → k ≡ l
    apart k l c d there other agrees =
        let from = origin k c there in
        let one : HasOneClass w scope classes from.0.least.turns = join.told from.0 from.1.0 in
        let same : AgreeIn w scope from.0.least.turns c.least.turns =
        subst (λ (e : EndingView). AgreeIn w scope from.0.least.turns e.turns) from.1.1 (agree_same w scope from.0.least.turns) in
        one.only k c there same ∙ sym (one.only l d other (agree_on w scope from.0.least.turns c.least.turns d.least.turns same agrees))

    merged_class : (k : ℕ) (c : ClassView) → slice_get classes k ≡ Some c → IsMergedClass w scope c
    merged_class k c there =
        let is : IsJoinedClass w scope parts c = join.each c (among_at classes k c there) in
        let from = origin k c there in record {
          ending = subst (λ (e : EndingView). IsEnding w scope e) from.1.1 (class_asked w scope parts are from.0 from.1.0);
          least = λ js asked agrees.
              let own = own_class w scope parts are js asked in
              ranks_chain (rank w c.least.turns) (rank w own.0.least.turns) (rank w js)
              (is.least own.0 (is.are_agreeing.all own.0 (own_among w scope parts are js asked)
              (agree_on w scope own.0.least.turns js c.least.turns (agree_turned w scope js own.0.least.turns own.1.1.1) agrees)))
              (own_least w scope parts are own.0 js own.1);
          lists = subst (λ n. AreSoMany (λ js. IsAsked w scope js × AgreeIn w scope js c.least.turns) n) (sym is.lists)
              (agreeing_counted w scope parts are c.least.turns is.agreeing is.are_agreeing);
        }

    whole_of : IsMerged w scope classes lists turns
    whole_of = record {
      counted = all_counted;
      longest = record {
        reached = ⊎_elim (λ none. absurd (none.1 some_list.0 some_list.1)) (λ one. one) all_longest.reached;
        bounded = all_longest.bounded;
      };
      told = has_class;
      apart = apart;
      each = merged_class;
    }

pub parts_make_the_whole : PartsMakeTheWhole
parts_make_the_whole w scope parts classes lists turns are = (joined w scope parts are classes lists turns, whole_of w scope parts are classes lists turns)
