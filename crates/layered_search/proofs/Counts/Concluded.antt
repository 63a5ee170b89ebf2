-- The counts of a graph that fits say what all lists that are asked for come to.
use Rattle.layered_search.specs.Limits.{ScopeView}
use Rattle.std.specs.Prelude.{◌≡◌, ℕ, List, true, slice_get, Option, Some, None, refl}
use Rattle.std.specs.Global.{Vec}
use Rattle.std.proofs.Common.{sym, ap, ◌∙◌, subst, ⊎_elim, arith}
use Rattle.std.proofs.lemmas.Option.{same_Some, slice_get_within}
use Rattle.schedule_graph.specs.declared.graph.Node.{Node}
use Rattle.schedule_graph.specs.declared.count.Count.{Count}
use Rattle.schedule_graph.specs.declared.count.Counts.{Counts}
use Rattle.schedule_graph.specs.Words.{IsWordOf, IsSomeWord}
use Rattle.schedule_graph.specs.Words as words
use Rattle.schedule_graph.specs.Counted.{AreSoMany, IsLeastWord, IsLeast, IsCount, AreCounts}
use Rattle.schedule_graph.specs.Counted as counted
use Rattle.schedule_graph.proofs.Summing.{so_many_as}
use Rattle.layered_search.specs.System.{System, IsSystem, state_after}
use Rattle.layered_search.specs.Lists.{is_less_or, is_not_after, is_at_most, rank}
use Rattle.layered_search.specs.Asked.{IsAsked, AgreeIn, IsLongest}
use Rattle.layered_search.specs.Promise.{ClassView, HasClass, IsMergedClass, IsMerged}
use Rattle.layered_search.specs.Merged.{Places, IsFit, IsListOf}
use Rattle.layered_search.specs.Concluded.{AreFound, IsCountedBy, AreCountedBy, HasLeast, FoundClassesHaveLeasts, CountsConclude}
use Rattle.layered_search.proofs.Places.{within_some}
use Rattle.layered_search.proofs.Counts.Merged.{list_word, word_list}
use Rattle.layered_search.proofs.Layers.Reached.{some_word}

module _ {State : Type 0} (s : System State) (laws : IsSystem s) where
  -- ---- the same outcome

  pub agree_same : (is : List ℕ) → AgreeIn s is is
  agree_same is = laws.agree_itself (state_after s is)

  pub agree_turned : (is js : List ℕ) → AgreeIn s is js → AgreeIn s js is
  agree_turned is js h = laws.agree_back (state_after s is) (state_after s js) h

  pub agree_on : (is js ks : List ℕ) → AgreeIn s is js → AgreeIn s js ks → AgreeIn s is ks
  agree_on is js ks h k = laws.agree_on (state_after s is) (state_after s js) (state_after s ks) h k

  module _ (scope : ScopeView) (layers : List (Vec Node)) (found : List (List ℕ)) (at : Places State)
      (fit : IsFit s scope layers found at) (are_found : AreFound s scope found) where
    -- ---- a class's words and its lists

    list_of : (is : List ℕ) (k : ℕ) → IsWordOf layers k is → IsListOf s scope layers found k is
    list_of is k word = word_list s laws scope layers found at fit is k word

    agrees_with : (is : List ℕ) (k : ℕ) (one : List ℕ) → slice_get found k ≡ Some one → IsWordOf layers k is
        → AgreeIn s is one
    agrees_with is k one there word =
        let list = list_of is k word in
        subst (λ (js : List ℕ). AgreeIn s is js) (same_Some list.found one (sym list.there ∙ there)) list.agrees

    word_of : (is : List ℕ) (k : ℕ) (one : List ℕ) → slice_get found k ≡ Some one → IsAsked s scope is
        → AgreeIn s is one → IsWordOf layers k is
    word_of is k one there asked agrees =
        let word = list_word s laws scope layers found at fit is asked in
        let list = list_of is word.0 word.1 in
        let same : word.0 ≡ k = are_found.apart word.0 k list.found one list.there there
        (agree_on list.found is one (agree_turned is list.found list.agrees) agrees) in
        subst (λ c. IsWordOf layers c is) same word.1

    -- two words are in the order of their lists
    at_most_same : (is js : List ℕ) (k l : ℕ) → IsWordOf layers k is → IsWordOf layers l js
        → words.is_at_most (words.rank layers is) (words.rank layers js) ≡ is_at_most (rank s is) (rank s js)
    at_most_same is js k l word other =
        let a = list_of is k word in
        let b = list_of js l other in
        λ i. is_less_or (a.cuts i) (b.cuts i) (is_less_or (a.changes i) (b.changes i) (is_not_after is js))

    -- ---- counts

    module _ (counts : Counts) (are_counts : AreCounts layers counts) where
      least_word : (k : ℕ) (count : Count) (least : words.Rank) → slice_get counts.classes.items k ≡ Some count
          → count.least ≡ Some least → IsLeastWord (words.rank layers) (IsWordOf layers k) least
      least_word k count least there e =
          subst (λ (o : Option words.Rank). IsLeast (words.rank layers) (IsWordOf layers k) o) e
          (are_counts.each k count there).least

      has_least : (k : ℕ) (one : List ℕ) (count : Count) → slice_get found k ≡ Some one
          → slice_get counts.classes.items k ≡ Some count → HasLeast s scope one count
      has_least k one count there counted_there = by count.least refl
        where
          own : IsWordOf layers k one
          own = word_of one k one there (are_found.asked k one there) (agree_same one)

          by : (least : Option words.Rank) → count.least ≡ least → HasLeast s scope one count
          by None e =
              let none : IsLeast (words.rank layers) (IsWordOf layers k) None =
              subst (λ (o : Option words.Rank). IsLeast (words.rank layers) (IsWordOf layers k) o) e
              (are_counts.each k count counted_there).least in
              absurd (none one own)
          by (Some least) e =
              let is = least_word k count least counted_there e in
              let list = list_of least.turns k is.is in record {
                least = least;
                counted = e;
                asked = list.asked;
                agrees = agrees_with least.turns k one there is.is;
                cuts = ap (λ (r : words.Rank). r.cuts) is.ranked ∙ list.cuts;
                changes = ap (λ (r : words.Rank). r.changes) is.ranked ∙ list.changes;
              }

      -- ---- classes by their counts

      module _ (classes : List ClassView) (are : AreCountedBy found counts.classes.items classes) where
        -- the class's list is a word of it
        own_word : (k : ℕ) (c : ClassView) → slice_get classes k ≡ Some c → IsWordOf layers k c.least
        own_word k c there =
            let by = are.each k c there in
            subst (λ (is : List ℕ). IsWordOf layers k is) (sym by.1.1.turns)
            (least_word k by.0 by.1.1.least by.1.0 by.1.1.counted).is

        -- so it agrees with what was found
        own_found : (k : ℕ) (c : ClassView) → slice_get classes k ≡ Some c
            → (f : List ℕ) × ((slice_get found k ≡ Some f) × AgreeIn s c.least f)
        own_found k c there =
            let list = list_of c.least k (own_word k c there) in (list.found, (list.there, list.agrees))

        class_of : (is : List ℕ) (k : ℕ) (c : ClassView) → slice_get classes k ≡ Some c → IsAsked s scope is
            → AgreeIn s is c.least → IsWordOf layers k is
        class_of is k c there asked agrees =
            let own = own_found k c there in
            word_of is k own.0 own.1.0 asked (agree_on is c.least own.0 agrees own.1.1)

        agrees_in : (is : List ℕ) (k : ℕ) (c : ClassView) → slice_get classes k ≡ Some c → IsWordOf layers k is
            → AgreeIn s is c.least
        agrees_in is k c there word =
            let own = own_found k c there in
            agree_on is own.0 c.least (agrees_with is k own.0 own.1.0 word) (agree_turned c.least own.0 own.1.1)

        has_class : (is : List ℕ) → IsAsked s scope is → HasClass s classes is
        has_class is asked =
            let word = list_word s laws scope layers found at fit is asked in
            let list = list_of is word.0 word.1 in
            let lt = slice_get_within found word.0 list.found list.there in
            let many = are.as_many in
            let one = within_some classes word.0 (omega arith) in
            record { at = word.0; class = one.0; there = one.1; agrees = agrees_in is word.0 one.0 one.1 word.1 }

        apart : (k l : ℕ) (c d : ClassView) → slice_get classes k ≡ Some c → slice_get classes l ≡ Some d
            → AgreeIn s c.least d.least → k ≡ l
        apart k l c d here there agrees =
            let f = own_found k c here in
            let g = own_found l d there in
            are_found.apart k l f.0 g.0 f.1.0 g.1.0
            (agree_on f.0 c.least g.0 (agree_turned c.least f.0 f.1.1) (agree_on c.least d.least g.0 agrees g.1.1))

        merged_class : (k : ℕ) (c : ClassView) → slice_get classes k ≡ Some c → IsMergedClass s scope c
        merged_class k c there =
            let by = are.each k c there in
            let count : IsCount (words.rank layers) (IsWordOf layers k) by.0 = are_counts.each k by.0 by.1.0 in
            let is_counted : IsCountedBy by.0 c = by.1.1 in
            let least = least_word k by.0 is_counted.least by.1.0 is_counted.counted in record {
              asked = (list_of c.least k (own_word k c there)).asked;
              least = λ is asked agrees.
                  let word = class_of is k c there asked agrees in
                  subst (λ (js : List ℕ). is_at_most (rank s js) (rank s is) ≡ true) (sym is_counted.turns)
                  (sym (at_most_same is_counted.least.turns is k k least.is word) ∙ least.below is word);
              lists = subst (λ n. AreSoMany (λ is. IsAsked s scope is × AgreeIn s is c.least) n) (sym is_counted.lists)
                  (so_many_as by.0.words (λ is word. ((list_of is k word).asked, agrees_in is k c there word))
                  (λ is h. class_of is k c there h.0 h.1) count.words);
            }

        some_asked : (is : List ℕ) → IsSomeWord layers is → IsAsked s scope is
        some_asked is word = (list_of is word.0 word.1).asked

        longest : IsLongest s scope counts.all.longest
        longest =
            let all : counted.IsLongest (IsSomeWord layers) counts.all.longest = are_counts.all.longest in
            let some = some_word s scope layers found at fit in record {
              reached = ⊎_elim (λ none. absurd (none.1 some.0 some.1))
                  (λ one. (one.0, (some_asked one.0 one.1.0, one.1.1))) all.reached;
              bounded = λ is asked. all.bounded is (list_word s laws scope layers found at fit is asked);
            }

        merged : IsMerged s scope classes counts.all.words counts.all.longest
        merged = record {
          counted = so_many_as counts.all.words some_asked
              (λ is asked. list_word s laws scope layers found at fit is asked) are_counts.all.words;
          longest = longest;
          told = has_class;
          apart = apart;
          each = merged_class;
        }

pub found_have_leasts : {State : Type 0} (s : System State) → IsSystem s → FoundClassesHaveLeasts s
found_have_leasts s laws scope layers found at counts fit are_found are_counts =
    has_least s laws scope layers found at fit are_found counts are_counts

pub counts_conclude : {State : Type 0} (s : System State) → IsSystem s → CountsConclude s
counts_conclude s laws scope layers found at counts classes fit are_found are_counts are =
    merged s laws scope layers found at fit are_found counts are_counts classes are
