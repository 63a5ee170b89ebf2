-- What leads to a node is counted in the nodes that its edges lead to.
use Rattle.std.specs.Prelude.{◌≡◌, ◌<◌, ◌≤◌, ◌+◌, ◌++◌, ℕ, zero, suc, List, [], ◌∷◌, length, Option, Some, None, slice_get, slice_set, refl}
use Rattle.std.specs.Global.{Vec}
use Rattle.smallvec.specs.SmallVec.{SmallVec}
use Rattle.std.proofs.Common.{◌⊎◌, ◌∙◌, inl, inr, sym, ap, subst, ⊎_elim, arith, length-append, get_or}
use Rattle.std.proofs.lemmas.Option.{same_Some, none-some, slice_get_within, slice_get-get_or}
use Rattle.schedule_graph.specs.declared.graph.Edge.{Edge}
use Rattle.schedule_graph.specs.declared.graph.Node.{Node}
use Rattle.schedule_graph.specs.declared.graph.Node.TheVariants.{Ends, Goes}
use Rattle.schedule_graph.specs.declared.count.Count.{Count}
use Rattle.schedule_graph.specs.Words.{Rank, AreApart, AreLayers, node_in, node_at, edges_from, edge_of, edge_at, rank}
use Rattle.schedule_graph.specs.Counted.{IsLeast, IsCount}
use Rattle.schedule_graph.specs.Adding.{went, added}
use Rattle.schedule_graph.specs.Led.{led, LeadsTo, Came, IsBefore, IsNext}
use Rattle.schedule_graph.proofs.Summing.{moved, counted_both, Onward, counted_onward}
use Rattle.schedule_graph.proofs.Leading.{edge_in, own_edge, goes_on, cuts_few, changes_few, last_same}

-- ---- places of a list

-- each place of a list after a write: the one written, or as before
pub get_set : {A : Type 0} (xs : List A) (i k : ℕ) (x y : A) → slice_get (slice_set xs i x) k ≡ Some y → ((k ≡ i) × (y ≡ x)) ⊎ (((k ≡ i) → ⊥) × (slice_get xs k ≡ Some y))
get_set [] i k x y e = absurd (none-some y e)
get_set (z ∷ zs) zero zero x y e = inl (refl, sym (same_Some x y e))
get_set (z ∷ zs) zero (suc k) x y e = inr ((λ q. cc), e)
get_set (z ∷ zs) (suc i) zero x y e = inr ((λ q. cc), e)
get_set (z ∷ zs) (suc i) (suc k) x y e = ⊎_elim (λ h. inl (ap suc h.0, h.1)) (λ h. inr ((λ q. h.0 (omega arith)), h.1)) (get_set zs i k x y e)

pub last_or : (a n : ℕ) → a < suc n → (a < n) ⊎ (a ≡ n)
last_or a n lt = grind arith

-- two labels lead to one node at most
pub one_node : (layers : List (Vec Node)) (k s t : ℕ) (w v : List ℕ) → LeadsTo layers k s w → LeadsTo layers k t v → w ≡ v → s ≡ t
one_node layers k s t w v here there e =
    same_Some s t (sym here.there ∙ (ap (λ u. led layers 0 0 u) e ∙ there.there))

-- ---- the edges that were taken

-- from a node before s, or from s by one of the first of its edges, as many as j
abbrev pub IsTaken : ℕ → List Edge → ℕ → ℕ → ℕ → Type 0
IsTaken s edges j node label = (node < s) ⊎ ((node ≡ s) × ((i : ℕ) × ((v : Edge) × ((i < j) × ((slice_get edges i ≡ Some v) × (v.label ≡ label))))))

-- what leads to each node of the next layer by these is counted
abbrev pub IsSpread : List (Vec Node) → ℕ → ℕ → List Edge → ℕ → List Count → Type 0
IsSpread layers k s edges j next = (t : ℕ) (c : Count) → slice_get next t ≡ Some c → IsCount (rank layers) (Came layers k (IsTaken s edges j) t) c

-- by other edges, where each that is meant is among them
came_by : (layers : List (Vec Node)) (k : ℕ) (E F : ℕ → ℕ → Type 0) (t : ℕ)
    → ((before : List ℕ) (node label : ℕ) (edge : Edge) → LeadsTo layers k node before → edge_at layers k node label ≡ Some edge → edge.to ≡ t → E node label → F node label)
    → (w : List ℕ) → Came layers k E t w → Came layers k F t w
came_by layers k E F t on w came = record {
  before = came.before;
  label = came.label;
  node = came.node;
  edge = came.edge;
  is = came.is;
  leads = came.leads;
  early = on came.before came.node came.label came.edge came.leads came.by came.to came.early;
  by = came.by;
  to = came.to;
}

-- nothing leads on from the node
pub spread_none : (layers : List (Vec Node)) (k s : ℕ) (next : List Count)
    → ((before : List ℕ) (label : ℕ) (edge : Edge) → LeadsTo layers k s before → edge_at layers k s label ≡ Some edge → ⊥)
    → IsNext layers k s next → IsNext layers k (suc s) next
spread_none layers k s next none is = λ t c there.
    moved (rank layers) (Came layers k (IsBefore s) t) (Came layers k (IsBefore (suc s)) t) c
    (came_by layers k (IsBefore s) (IsBefore (suc s)) t (λ before node label edge leads by to lt. omega arith))
    (came_by layers k (IsBefore (suc s)) (IsBefore s) t (λ before node label edge leads by to lt.
    ⊎_elim (λ (l : node < s). l)
    (λ (e : node ≡ s). absurd (none before label edge (subst (λ u. LeadsTo layers k u before) e leads) (subst (λ u. edge_at layers k u label ≡ Some edge) e by)))
    (last_or node s lt)))
    (is t c there)

no_edges : (layers : List (Vec Node)) (k s label : ℕ) (edge : Edge) (class : ℕ) → node_at layers k s ≡ Some (Ends class) → edge_at layers k s label ≡ Some edge → ⊥
no_edges layers k s label edge class ends by = none-some edge (sym (ap (λ o. edge_of (edges_from o) label) ends) ∙ by)

pub spread_ends : (layers : List (Vec Node)) (k s : ℕ) (next : List Count) (class : ℕ) → node_at layers k s ≡ Some (Ends class) → IsNext layers k s next → IsNext layers k (suc s) next
spread_ends layers k s next class ends is = spread_none layers k s next (λ before label edge leads by. no_edges layers k s label edge class ends by) is

pub none_least : (rk : List ℕ → Rank) (P : List ℕ → Type 0) (m : Count) → IsCount rk P m → m.least ≡ None → (w : List ℕ) → P w → ⊥
none_least rk P m is none = subst (IsLeast rk P) none is.least

pub spread_unreached : (layers : List (Vec Node)) (k s : ℕ) (next : List Count) (m : Count) → IsCount (rank layers) (LeadsTo layers k s) m → m.least ≡ None
    → IsNext layers k s next → IsNext layers k (suc s) next
spread_unreached layers k s next m count none is =
    spread_none layers k s next (λ before label edge leads by. none_least (rank layers) (LeadsTo layers k s) m count none before leads) is

-- ---- one edge after another

module _ (layers : List (Vec Node)) (k s : ℕ) (edges : SmallVec Edge) (goes : node_at layers k s ≡ Some (Goes edges)) where
  edge_here : (label : ℕ) → edge_at layers k s label ≡ edge_of edges.items label
  edge_here label = ap (λ o. edge_of (edges_from o) label) goes

  pub spread_first : (next : List Count) → IsNext layers k s next → IsSpread layers k s edges.items 0 next
  spread_first next is = λ t c there.
      moved (rank layers) (Came layers k (IsBefore s) t) (Came layers k (IsTaken s edges.items 0) t) c
      (came_by layers k (IsBefore s) (IsTaken s edges.items 0) t (λ before node label edge leads by to lt. inl lt))
      (came_by layers k (IsTaken s edges.items 0) (IsBefore s) t (λ before node label edge leads by to taken.
      ⊎_elim (λ (l : node < s). l) (λ own. absurd (none own.1.0 own.1.1.1.0)) taken))
      (is t c there)
    where
      none : (i : ℕ) → i < 0 → ⊥
      none i lt = omega arith

  pub spread_last : (next : List Count) (j : ℕ) → j ≡ length edges.items → IsSpread layers k s edges.items j next → IsNext layers k (suc s) next
  spread_last next j all is = λ t c there.
      moved (rank layers) (Came layers k (IsTaken s edges.items j) t) (Came layers k (IsBefore (suc s)) t) c
      (came_by layers k (IsTaken s edges.items j) (IsBefore (suc s)) t (λ before node label edge leads by to taken.
      ⊎_elim (λ (l : node < s). earlier node l) (λ own. own_node node own.0) taken))
      (came_by layers k (IsBefore (suc s)) (IsTaken s edges.items j) t (λ before node label edge leads by to lt.
      ⊎_elim (λ (l : node < s). inl l) (λ (e : node ≡ s). inr (e, taken label edge (sym (edge_here label) ∙ (ap (λ u. edge_at layers k u label) (sym e) ∙ by)))) (last_or node s lt)))
      (is t c there)
    where
      earlier : (node : ℕ) → node < s → node < suc s
      earlier node lt = omega arith

      own_node : (node : ℕ) → node ≡ s → node < suc s
      own_node node e = omega arith

      taken : (label : ℕ) (edge : Edge) → edge_of edges.items label ≡ Some edge → (i : ℕ) × ((v : Edge) × ((i < j) × ((slice_get edges.items i ≡ Some v) × (v.label ≡ label))))
      taken label edge e =
          let found = edge_in edges.items label edge e in
          let lt : found.0 < j = omega (arith, all, slice_get_within edges.items found.0 edge found.1.0) in
          (found.0, (edge, (lt, (found.1.0, found.1.1))))

  module _ (apart : AreApart edges.items) (j : ℕ) (edge : Edge) (there : slice_get edges.items j ≡ Some edge) where
    by_edge : edge_at layers k s edge.label ≡ Some edge
    by_edge = edge_here edge.label ∙ own_edge edges.items j edge apart there

    -- an edge that is taken now, and wasn't before
    fresh : (node label : ℕ) → IsTaken s edges.items (suc j) node label → IsTaken s edges.items j node label ⊎ ((node ≡ s) × (label ≡ edge.label))
    fresh node label taken =
        ⊎_elim (λ (l : node < s). inl (inl l))
        (λ own. ⊎_elim
        (λ (lt : own.1.0 < j). inl (inr (own.0, (own.1.0, (own.1.1.0, (lt, own.1.1.1.1))))))
        (λ (e : own.1.0 ≡ j). inr (own.0, sym own.1.1.1.1.1 ∙ ap (λ (v : Edge). v.label) (same_Some own.1.1.0 edge (sym own.1.1.1.1.0 ∙ (ap (slice_get edges.items) e ∙ there)))))
        (last_or own.1.0 j own.1.1.1.0))
        taken

    stays : (node label : ℕ) → IsTaken s edges.items j node label → IsTaken s edges.items (suc j) node label
    stays node label taken =
        ⊎_elim (λ (l : node < s). inl l)
        (λ own. inr (own.0, (own.1.0, (own.1.1.0, (up own.1.0 own.1.1.1.0, own.1.1.1.1)))))
        taken
      where
        up : (i : ℕ) → i < j → i < suc j
        up i lt = omega arith

    -- a node that the edge doesn't lead to
    other : (t : ℕ) (c : Count) → (t ≡ edge.to → ⊥) → IsCount (rank layers) (Came layers k (IsTaken s edges.items j) t) c
        → IsCount (rank layers) (Came layers k (IsTaken s edges.items (suc j)) t) c
    other t c ne is =
        moved (rank layers) (Came layers k (IsTaken s edges.items j) t) (Came layers k (IsTaken s edges.items (suc j)) t) c
        (came_by layers k (IsTaken s edges.items j) (IsTaken s edges.items (suc j)) t (λ before node label v leads by to taken. stays node label taken))
        (came_by layers k (IsTaken s edges.items (suc j)) (IsTaken s edges.items j) t (λ before node label v leads by to taken.
        ⊎_elim (λ old. old)
        (λ new. absurd (ne (sym to ∙ ap (λ (u : Edge). u.to) (same_Some v edge
        (sym by ∙ (ap (λ u. edge_at layers k u label) new.0 ∙ (ap (edge_at layers k s) new.1 ∙ by_edge)))))))
        (fresh node label taken)))
        is

    pub spread_past : (next : List Count) → length next ≤ edge.to → IsSpread layers k s edges.items j next → IsSpread layers k s edges.items (suc j) next
    spread_past next past is = λ t c here.
        other t c (λ e. let lt = slice_get_within next t c here in omega arith) (is t c here)

    module _ (m : Count) (r : Rank) (count : IsCount (rank layers) (LeadsTo layers k s) m) (least : m.least ≡ Some r) where
      own_least : IsLeast (rank layers) (LeadsTo layers k s) (Some r)
      own_least = subst (IsLeast (rank layers) (LeadsTo layers k s)) least count.least

      onward : IsCount (rank layers) (Onward (LeadsTo layers k s) edge.label) (record { words = m.words; longest = suc k; least = Some (went r edge) })
      onward = counted_onward layers (LeadsTo layers k s) m r edge k count least (λ w h. h.long) (goes_on layers k s edge by_edge)

      long : (w : List ℕ) → Onward (LeadsTo layers k s) edge.label w → length w ≡ length (went r edge).turns
      long w h =
          ap length h.1.1 ∙ (length-append h.0 (edge.label ∷ [])
          ∙ (ap (λ n. n + 1) (h.1.0.long ∙ sym own_least.is.long) ∙ sym (length-append r.turns (edge.label ∷ []))))

      new : (t : ℕ) → (w : List ℕ) → Came layers k (IsTaken s edges.items j) t w → Onward (LeadsTo layers k s) edge.label w → ⊥
      new t w came h =
          let same = last_same came.before h.0 came.label edge.label (sym came.is ∙ h.1.1) in
          let node : came.node ≡ s = one_node layers k came.node s came.before h.0 came.leads h.1.0 same.0 in
          ⊎_elim (λ (l : came.node < s). omega arith)
          (λ own. later own.1.0 own.1.1.1.0 (apart own.1.0 j own.1.1.0 edge own.1.1.1.1.0 there (own.1.1.1.1.1 ∙ same.1)))
          came.early
        where
          later : (i : ℕ) → i < j → i ≡ j → ⊥
          later i lt e = omega arith

      to_new : (w : List ℕ) → Came layers k (IsTaken s edges.items j) edge.to w ⊎ Onward (LeadsTo layers k s) edge.label w → Came layers k (IsTaken s edges.items (suc j)) edge.to w
      to_new w h =
          ⊎_elim
          (came_by layers k (IsTaken s edges.items j) (IsTaken s edges.items (suc j)) edge.to (λ before node label v leads by to taken. stays node label taken) w)
          (λ on. record {
            before = on.0;
            label = edge.label;
            node = s;
            edge = edge;
            is = on.1.1;
            leads = on.1.0;
            early = inr (refl, (j, (edge, (self, (there, refl)))));
            by = by_edge;
            to = refl;
          })
          h
        where
          self : j < suc j
          self = omega arith

      from_new : (w : List ℕ) → Came layers k (IsTaken s edges.items (suc j)) edge.to w → Came layers k (IsTaken s edges.items j) edge.to w ⊎ Onward (LeadsTo layers k s) edge.label w
      from_new w came =
          ⊎_elim
          (λ old. inl (record {
            before = came.before;
            label = came.label;
            node = came.node;
            edge = came.edge;
            is = came.is;
            leads = came.leads;
            early = old;
            by = came.by;
            to = came.to;
          }))
          (λ own. inr (came.before, (subst (λ u. LeadsTo layers k u came.before) own.0 came.leads, came.is ∙ ap (λ l. came.before ++ l ∷ []) own.1)))
          (fresh came.node came.label came.early)

      counted_there : (c : Count) → IsCount (rank layers) (Came layers k (IsTaken s edges.items j) edge.to) c
          → IsCount (rank layers) (Came layers k (IsTaken s edges.items (suc j)) edge.to) (added c m.words (went r edge))
      counted_there c is =
          moved (rank layers) (λ w. Came layers k (IsTaken s edges.items j) edge.to w ⊎ Onward (LeadsTo layers k s) edge.label w)
          (Came layers k (IsTaken s edges.items (suc j)) edge.to) (added c m.words (went r edge)) to_new from_new
          (counted_both (rank layers) (Came layers k (IsTaken s edges.items j) edge.to) (Onward (LeadsTo layers k s) edge.label) c
          (record { words = m.words; longest = suc k; least = Some (went r edge) }) (went r edge) is onward refl long (new edge.to))

      -- the node that the edge leads to has that counted
      pub spread_there : (next : List Count) (c : Count) → slice_get next edge.to ≡ Some c → IsSpread layers k s edges.items j next
          → IsSpread layers k s edges.items (suc j) (slice_set next edge.to (added c m.words (went r edge)))
      spread_there next c here is = λ t d at.
          ⊎_elim
          (λ own. subst (λ (e : Count). IsCount (rank layers) (Came layers k (IsTaken s edges.items (suc j)) t) e) (sym own.1)
          (subst (λ u. IsCount (rank layers) (Came layers k (IsTaken s edges.items (suc j)) u) (added c m.words (went r edge))) (sym own.0)
          (counted_there c (is edge.to c here))))
          (λ old. other t d old.0 (is t d old.1))
          (get_set next edge.to t (added c m.words (went r edge)) d at)

-- ---- numbers that fit

-- a cut more is as few as there are layers
pub cuts_fit : (layers : List (Vec Node)) (k s : ℕ) (m : Count) (r : Rank) → IsCount (rank layers) (LeadsTo layers k s) m → m.least ≡ Some r
    → (r.cuts ≤ k) × ((r.changes ≤ k) × (length r.turns ≡ k))
cuts_fit layers k s m r count least =
    let own = own_least in (
      subst (λ n. n ≤ k) (sym (ap (λ (q : Rank). q.cuts) own.ranked)) (few_cuts own.is.long),
      (subst (λ n. n ≤ k) (sym (ap (λ (q : Rank). q.changes) own.ranked)) (few_changes own.is.long), own.is.long),
    )
  where
    own_least : IsLeast (rank layers) (LeadsTo layers k s) (Some r)
    own_least = subst (IsLeast (rank layers) (LeadsTo layers k s)) least count.least

    few_cuts : length r.turns ≡ k → (rank layers r.turns).cuts ≤ k
    few_cuts long = omega (arith, long, cuts_few layers 0 0 r.turns)

    few_changes : length r.turns ≡ k → (rank layers r.turns).changes ≤ k
    few_changes long = omega (arith, long, changes_few layers 0 0 r.turns)

-- ---- as the loop has it

layer_apart : (layers : List (Vec Node)) (k s : ℕ) (edges : SmallVec Edge) → AreLayers layers → node_at layers k s ≡ Some (Goes edges) → AreApart edges.items
layer_apart layers k s edges are goes = by (slice_get layers k) refl goes
  where
    by : (o : Option (Vec Node)) → slice_get layers k ≡ o → node_in o s ≡ Some (Goes edges) → AreApart edges.items
    by None q f = absurd (none-some (Goes edges) f)
    by (Some layer) q f = subst (λ (o : Option Node). AreApart (edges_from o)) f (are k layer q s)

module _ (layers : List (Vec Node)) (k s : ℕ) (edges : SmallVec Edge) (are : AreLayers layers) (goes : node_at layers k s ≡ Some (Goes edges))
    (items : List Edge) (same : items ≡ edges.items) (next : List Count) where
  pub spread_begun : IsNext layers k s next → IsSpread layers k s items 0 next
  spread_begun is = subst (λ (xs : List Edge). IsSpread layers k s xs 0 next) (sym same) (spread_first layers k s edges goes next is)

  pub spread_ended : (j : ℕ) → j ≤ length items → length items ≤ j → IsSpread layers k s items j next → IsNext layers k (suc s) next
  spread_ended j le ge is =
      let whole : length items ≡ length edges.items = ap length same in
      spread_last layers k s edges goes next j (omega arith) (subst (λ (xs : List Edge). IsSpread layers k s xs j next) same is)

  module _ (j : ℕ) (lt : j < length items) (d : Edge) (is : IsSpread layers k s items j next) where
    there : slice_get edges.items j ≡ Some (get_or items j d)
    there = ap (λ xs. slice_get xs j) (sym same) ∙ slice_get-get_or items j d lt

    up : suc j ≡ j + 1
    up = omega arith

    pub spread_not : (to : ℕ) → to ≡ (get_or items j d).to → (after : List Count) → after ≡ next → length next ≤ to → IsSpread layers k s items (j + 1) after
    spread_not to at after kept past =
        subst (λ (cs : List Count). IsSpread layers k s items (j + 1) cs) (sym kept)
        (subst (λ n. IsSpread layers k s items n next) up
        (subst (λ (xs : List Edge). IsSpread layers k s xs (suc j) next) (sym same)
        (spread_past layers k s edges goes (layer_apart layers k s edges are goes) j (get_or items j d) there next (subst (λ t. length next ≤ t) at past)
        (subst (λ (xs : List Edge). IsSpread layers k s xs j next) same is))))

    pub spread_on : (to : ℕ) → to ≡ (get_or items j d).to → (m : Count) (r : Rank) → IsCount (rank layers) (LeadsTo layers k s) m → m.least ≡ Some r → (after : List Count) (e n : Count)
        → after ≡ slice_set next to n → n ≡ added (get_or next to e) m.words (went r (get_or items j d))
        → to < length next → IsSpread layers k s items (j + 1) after
    spread_on to at m r count least after e n set is_added within =
        let c : Count = get_or next (get_or items j d).to e in
        subst (λ (cs : List Count). IsSpread layers k s items (j + 1) cs)
        (sym (set ∙ (ap (λ t. slice_set next t n) at ∙ ap (slice_set next (get_or items j d).to) (is_added ∙ ap (λ t. added (get_or next t e) m.words (went r (get_or items j d))) at))))
        (subst (λ i. IsSpread layers k s items i (slice_set next (get_or items j d).to (added c m.words (went r (get_or items j d))))) up
        (subst (λ (xs : List Edge). IsSpread layers k s xs (suc j) (slice_set next (get_or items j d).to (added c m.words (went r (get_or items j d))))) (sym same)
        (spread_there layers k s edges goes (layer_apart layers k s edges are goes) j (get_or items j d) there m r count least next c
        (slice_get-get_or next (get_or items j d).to e (subst (λ t. t < length next) at within))
        (subst (λ (xs : List Edge). IsSpread layers k s xs j next) same is))))
