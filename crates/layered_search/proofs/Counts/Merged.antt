-- The words of a graph that fits are the lists that are asked for.
use Rattle.layered_search.specs.Limits.{ScopeView}
use Rattle.std.specs.Prelude.{◌≡◌, ◌≤◌, ◌+◌, ℕ, suc, List, [], ◌∷◌, Bool, ◌&&◌, drop, slice_get, Option, Some, None, refl}
use Rattle.std.specs.Global.{Vec}
use Rattle.std.specs.Option.{option_map_or}
use Rattle.std.proofs.Common.{sym, ap, ◌∙◌, subst, arith}
use Rattle.std.proofs.lemmas.Bool.{true≢false}
use Rattle.std.proofs.lemmas.Option.{none-some}
use Rattle.smallvec.specs.SmallVec.{SmallVec}
use Rattle.schedule_graph.specs.declared.graph.Edge.{Edge}
use Rattle.schedule_graph.specs.declared.graph.Node.{Node}
use Rattle.schedule_graph.specs.declared.graph.Node.TheVariants.{Ends, Goes}
use Rattle.schedule_graph.specs.Words.{node_at, edges_from, edge_of, IsWord, IsWordOf}
use Rattle.schedule_graph.specs.Words as words
use Rattle.layered_search.specs.System.{System, IsSystem, after_turns, state_after}
use Rattle.layered_search.specs.Lists.{is_another, is_cut, plus, cuts_after, changes_after, IsFull}
use Rattle.layered_search.specs.Asked.{IsWithin, IsAsked, GoAlong, bounds_at}
use Rattle.layered_search.specs.Merged.{Place, Places, bounded_cuts, cuts_with, MayFollow, IsEdge, IsFit, IsListOf, WordsAreLists}
use Rattle.layered_search.proofs.Lists.Along.{plus_moved}
use Rattle.layered_search.proofs.Counts.Begun.{BeginsWith, begins_to, begins_from, along_none, along_more, begin_first, begins_full}

-- ---- bounds on cuts

pub within_zero : (most : Option ℕ) → IsWithin most 0
within_zero None = tt
within_zero (Some n) = omega arith

within_first : (most : Option ℕ) (m n : ℕ) → IsWithin most (m + n) → IsWithin most m
within_first None m n few = tt
within_first (Some k) m n few = let le : m + n ≤ k = few in omega arith

within_bounded : (most : Option ℕ) (m n : ℕ) → IsWithin most (m + n) → IsWithin most (bounded_cuts most m + n)
within_bounded None m n few = tt
within_bounded (Some k) m n few = few

within_unbounded : (most : Option ℕ) (m n : ℕ) → IsWithin most (bounded_cuts most m + n) → IsWithin most (m + n)
within_unbounded None m n few = tt
within_unbounded (Some k) m n few = few

pub bounded_within : (most : Option ℕ) (n : ℕ) → IsWithin most n → IsWithin most (bounded_cuts most n)
bounded_within None n few = tt
bounded_within (Some k) n few = few

-- ---- edges

-- an edge by a label leads from a graph node where words go on
edge_goes : (graph_node : Option Node) (i : ℕ) (edge : Edge) → edge_of (edges_from graph_node) i ≡ Some edge
    → (edges : SmallVec Edge) × ((graph_node ≡ Some (Goes edges)) × (edge_of edges.items i ≡ Some edge))
edge_goes None i edge e = absurd (none-some edge e)
edge_goes (Some (Ends class)) i edge e = absurd (none-some edge e)
edge_goes (Some (Goes edges)) i edge e = (edges, (refl, e))

module _ {State : Type 0} (s : System State) (laws : IsSystem s) where
  pub alike_cut : (v w : State) (last : Option ℕ) (i : ℕ) → s.Alike v w → is_cut s v last i ≡ is_cut s w last i
  alike_cut v w None i alike = refl
  alike_cut v w (Some j) i alike = ap (λ (b : Bool). is_another (Some j) i && b) (laws.alike_within v w j alike)

  -- what a word from that graph node comes to in a state like the graph node's
  record IsRest (scope : ScopeView) (layers : List (Vec Node)) (classes : List (List ℕ)) (p : Place State) (k m : ℕ)
      (v : State) (is : List ℕ) (class : ℕ) : Type 0 where
    whole : IsFull s v is
    few : IsWithin scope.cuts (p.cuts + cuts_after s v p.last is)
    along_it : GoAlong (drop k scope.begin) is
    found : List ℕ
    there : slice_get classes class ≡ Some found
    agrees : s.Agree (after_turns s v is) (state_after s found)
    cuts : words.cuts layers k m is ≡ cuts_after s v p.last is
    changes : words.changes layers k m is ≡ changes_after p.last is

  module _ (scope : ScopeView) (layers : List (Vec Node)) (classes : List (List ℕ)) (at : Places State)
      (fit : IsFit s scope layers classes at) where
    -- the cuts that are left after a turn, in a state like the place's
    few_moved : (k m : ℕ) (v : State) (i n : ℕ) → s.Alike v (at k m).state
        → (at k m).cuts + plus (is_cut s v (at k m).last i) n ≡ cuts_with s (at k m) i + n
    few_moved k m v i n alike =
        ap (λ (b : Bool). (at k m).cuts + plus b n) (alike_cut v (at k m).state (at k m).last i alike)
        ∙ sym (plus_moved (is_cut s (at k m).state (at k m).last i) (at k m).cuts n)

    -- the states stay alike by a turn, and on to the next place
    moved_on : (k m i : ℕ) (edge : Edge) (v : State) → s.Alike v (at k m).state → IsEdge s scope layers at k m i edge
        → s.Alike (s.turn v i) (at (suc k) edge.to).state
    moved_on k m i edge v alike goes =
        laws.alike_on (s.turn v i) (s.turn (at k m).state i) (at (suc k) edge.to).state
        (laws.alike_turns v (at k m).state i alike) goes.next.state

    -- a full list from a state like the graph node's, with few cuts, that begins as is asked for, is a word from the
    -- graph node
    listed : (k m : ℕ) (graph_node : Node) (v : State) → node_at layers k m ≡ Some graph_node
        → s.Alike v (at k m).state → (is : List ℕ) → IsFull s v is
        → IsWithin scope.cuts ((at k m).cuts + cuts_after s v (at k m).last is)
        → BeginsWith (drop k scope.begin) is → (class : ℕ) × IsWord layers k m is class
    listed k m (Ends class) v there alike [] whole few begins = (class, there)
    listed k m (Ends class) v there alike (i ∷ is) whole few begins =
        absurd (true≢false (sym whole.0 ∙ laws.alike_busy v (at k m).state i alike ∙ (fit.ends k m class there).over i))
    listed k m (Goes edges) v there alike [] whole few begins =
        let somebody = (fit.goes k m edges there).busy in
        absurd (true≢false (sym somebody.1
        ∙ sym (laws.alike_busy v (at k m).state somebody.0 alike) ∙ whole somebody.0))
    listed k m (Goes edges) v there alike (i ∷ is) whole few begins =
        let here = fit.goes k m edges there in
        let p = at k m in
        let n = cuts_after s (s.turn v i) (Some i) is in
        let left : IsWithin scope.cuts (cuts_with s p i + n) =
        subst (λ c. IsWithin scope.cuts c) (few_moved k m v i n alike) few in
        let begun = begin_first scope.begin k i is begins in
        let may : MayFollow s (bounds_at scope k) p i = record {
          only = begun.0;
          busy = sym (laws.alike_busy v p.state i alike) ∙ whole.0;
          few = within_first scope.cuts (cuts_with s p i) n left;
        } in
        let edge = here.all i may in
        let goes : IsEdge s scope layers at k m i edge.0 = here.each i edge.0 edge.1 in
        let q = at (suc k) edge.0.to in
        let then : IsWithin scope.cuts (q.cuts + cuts_after s (s.turn v i) q.last is) =
        subst (λ (last : Option ℕ). IsWithin scope.cuts (q.cuts + cuts_after s (s.turn v i) last is))
        (sym goes.next.last) (subst (λ c. IsWithin scope.cuts (c + n)) (sym goes.next.cuts)
        (within_bounded scope.cuts (cuts_with s p i) n left)) in
        let rest = listed (suc k) edge.0.to goes.graph_node (s.turn v i) goes.there (moved_on k m i edge.0 v alike goes)
        is whole.1 then begun.1 in
        (rest.0, (edge.0, (ap (λ (x : Option Node). edge_of (edges_from x) i) there ∙ edge.1, rest.1)))

    -- and a word from the graph node is such a list
    rest_of : (k m : ℕ) (v : State) → s.Alike v (at k m).state → IsWithin scope.cuts (at k m).cuts → (is : List ℕ)
        (class : ℕ) → IsWord layers k m is class → IsRest scope layers classes (at k m) k m v is class
    rest_of k m v alike few [] class word =
        let end = fit.ends k m class word in record {
          whole = λ i. laws.alike_busy v (at k m).state i alike ∙ end.over i;
          few = subst (λ n. IsWithin scope.cuts n) (omega arith) few;
          along_it = along_none (drop k scope.begin);
          found = end.found;
          there = end.there;
          agrees = laws.agree_on v (at k m).state (state_after s end.found)
              (laws.alike_agree v (at k m).state alike) end.agrees;
          cuts = refl;
          changes = refl;
        }
    rest_of k m v alike few (i ∷ is) class word =
        let p = at k m in
        let edge = word.0 in
        let q = at (suc k) edge.to in
        let found = edge_goes (node_at layers k m) i edge word.1.0 in
        let goes : IsEdge s scope layers at k m i edge = (fit.goes k m found.0 found.1.0).each i edge found.1.1 in
        let then : IsWithin scope.cuts q.cuts =
        subst (λ n. IsWithin scope.cuts n) (sym goes.next.cuts)
        (bounded_within scope.cuts (cuts_with s p i) goes.may.few) in
        let later : IsRest scope layers classes q (suc k) edge.to (s.turn v i) is class =
        rest_of (suc k) edge.to (s.turn v i) (moved_on k m i edge v alike goes) then is class word.1.1 in
        let n = cuts_after s (s.turn v i) (Some i) is in
        let left : IsWithin scope.cuts (bounded_cuts scope.cuts (cuts_with s p i) + n) =
        subst (λ c. IsWithin scope.cuts (c + n)) goes.next.cuts
        (subst (λ (last : Option ℕ). IsWithin scope.cuts (q.cuts + cuts_after s (s.turn v i) last is)) goes.next.last
        later.few) in
        let cut : edge.cut ≡ is_cut s v p.last i = goes.cut ∙ sym (alike_cut v p.state p.last i alike) in
        let cuts_then : words.cuts layers (suc k) edge.to is ≡ n =
        later.cuts ∙ ap (λ (last : Option ℕ). cuts_after s (s.turn v i) last is) goes.next.last in
        let changes_then : words.changes layers (suc k) edge.to is ≡ changes_after (Some i) is =
        later.changes ∙ ap (λ (last : Option ℕ). changes_after last is) goes.next.last in record {
          whole = (laws.alike_busy v p.state i alike ∙ goes.may.busy, later.whole);
          few = subst (λ c. IsWithin scope.cuts c) (sym (few_moved k m v i n alike))
              (within_unbounded scope.cuts (cuts_with s p i) n left);
          along_it = along_more scope.begin k i is goes.may.only later.along_it;
          found = later.found;
          there = later.there;
          agrees = later.agrees;
          cuts =
              ap (λ (e : Option Edge). option_map_or (λ (e : Edge). plus e.cut (words.cuts layers (suc k) e.to is)) e 0)
              word.1.0 ∙ (λ j. plus (cut j) (cuts_then j));
          changes =
              ap (λ (e : Option Edge). option_map_or
              (λ (e : Edge). plus e.change (words.changes layers (suc k) e.to is)) e 0) word.1.0
              ∙ (λ j. plus (goes.change j) (changes_then j));
        }

    begin_alike : s.Alike s.begin (at 0 0).state
    begin_alike = subst (λ (p : Place State). s.Alike s.begin p.state) (sym fit.start) (laws.alike_itself s.begin)

    begin_within : IsWithin scope.cuts (at 0 0).cuts
    begin_within = subst (λ (p : Place State). IsWithin scope.cuts p.cuts) (sym fit.start) (within_zero scope.cuts)

    pub list_word : (is : List ℕ) → IsAsked s scope is → (class : ℕ) × IsWordOf layers class is
    list_word is asked =
        listed 0 0 fit.graph_node s.begin fit.there begin_alike is asked.whole
        (subst (λ (p : Place State). IsWithin scope.cuts (p.cuts + cuts_after s s.begin p.last is)) (sym fit.start)
        (subst (λ n. IsWithin scope.cuts n) (omega arith) asked.few_cuts)) (begins_from scope.begin is asked.begins)

    pub word_list : (is : List ℕ) (class : ℕ) → IsWordOf layers class is → IsListOf s scope layers classes class is
    word_list is class word =
        let rest = rest_of 0 0 s.begin begin_alike begin_within is class word in
        let few : IsWithin scope.cuts (0 + cuts_after s s.begin None is) =
        subst (λ (p : Place State). IsWithin scope.cuts (p.cuts + cuts_after s s.begin p.last is)) fit.start rest.few in
        record {
          asked = record {
            whole = rest.whole;
            few_cuts = subst (λ n. IsWithin scope.cuts n) (omega arith) few;
            begins = begins_to scope.begin is
                (begins_full s s.begin scope.begin is fit.can_begin rest.along_it rest.whole);
          };
          found = rest.found;
          there = rest.there;
          agrees = rest.agrees;
          cuts = rest.cuts ∙ ap (λ (p : Place State). cuts_after s s.begin p.last is) fit.start;
          changes = rest.changes ∙ ap (λ (p : Place State). changes_after p.last is) fit.start;
        }

pub words_are_lists : {State : Type 0} (s : System State) → IsSystem s → WordsAreLists s
words_are_lists s laws scope layers classes at fit =
    (list_word s laws scope layers classes at fit, word_list s laws scope layers classes at fit)
