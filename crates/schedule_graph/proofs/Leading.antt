-- Where the first labels of a word lead to, and what they add to its rank.
use Rattle.std.specs.Prelude.{◌≡◌, ◌<◌, ◌≤◌, ◌+◌, ◌++◌, ◌==◌, ℕ, zero, suc, List, [], ◌∷◌, length, Bool, true, false, Option, Some, None, slice_get, option_and_then, if◌then◌else◌, refl}
use Rattle.std.specs.Global.{Vec}
use Rattle.std.specs.Option.{option_map_or}
use Rattle.std.proofs.Common.{◌∙◌, sym, ap, subst, arith, length-append}
use Rattle.std.proofs.lemmas.Bool.{eqb-true, eq-eqb}
use Rattle.std.proofs.lemmas.Option.{same_Some, none-some, slice_get_within}
use Rattle.schedule_graph.specs.declared.graph.Edge.{Edge}
use Rattle.schedule_graph.specs.declared.graph.Node.{Node}
use Rattle.schedule_graph.specs.declared.graph.Node.TheVariants.{Ends}
use Rattle.schedule_graph.specs.Words.{Rank, AreApart, node_in, node_at, edges_from, edge_of, edge_at, IsWord, plus, cuts, changes, rank}
use Rattle.schedule_graph.specs.Adding.{went}
use Rattle.schedule_graph.specs.Led.{width_of, width_at, led, LeadsTo}

-- ---- edges and nodes that there are

pub edge_in : (edges : List Edge) (label : ℕ) (edge : Edge) → edge_of edges label ≡ Some edge → (i : ℕ) × ((slice_get edges i ≡ Some edge) × (edge.label ≡ label))
edge_in [] label edge e = absurd (none-some edge e)
edge_in (v ∷ edges) label edge e = by (edge_in edges label edge) (v.label == label) refl e
  where
    by : (edge_of edges label ≡ Some edge → (i : ℕ) × ((slice_get edges i ≡ Some edge) × (edge.label ≡ label)))
        → (b : Bool) → (v.label == label) ≡ b → (if b then Some v else edge_of edges label) ≡ Some edge → (i : ℕ) × ((slice_get (v ∷ edges) i ≡ Some edge) × (edge.label ≡ label))
    by more true same f = (0, (f, subst (λ (u : Edge). u.label ≡ label) (same_Some v edge f) (eqb-true v.label label same)))
    by more false other f = let found = more f in (suc found.0, (found.1.0, found.1.1))

edge_there : (edges : List Edge) (i label : ℕ) (edge : Edge) → slice_get edges i ≡ Some edge → edge.label ≡ label → (v : Edge) × (edge_of edges label ≡ Some v)
edge_there [] i label edge e q = absurd (none-some edge e)
edge_there (v ∷ edges) zero label edge e q =
    (v, ap (λ b. if b then Some v else edge_of edges label) (eq-eqb v.label label (ap (λ (u : Edge). u.label) (same_Some v edge e) ∙ q)))
edge_there (v ∷ edges) (suc i) label edge e q = by (edge_there edges i label edge e q) (v.label == label)
  where
    by : (u : Edge) × (edge_of edges label ≡ Some u) → (b : Bool) → (u : Edge) × ((if b then Some v else edge_of edges label) ≡ Some u)
    by more true = (v, refl)
    by more false = more

-- each edge is the first with its label
pub own_edge : (edges : List Edge) (i : ℕ) (edge : Edge) → AreApart edges → slice_get edges i ≡ Some edge → edge_of edges edge.label ≡ Some edge
own_edge edges i edge apart there =
    let first = edge_there edges i edge.label edge there refl in
    let found = edge_in edges edge.label first.0 first.1 in
    let same : found.0 ≡ i = apart found.0 i first.0 edge found.1.0 there found.1.1 in
    first.1 ∙ (sym found.1.0 ∙ (ap (slice_get edges) same ∙ there))

-- a node that there is, is in a layer
pub node_within : (layers : List (Vec Node)) (k s : ℕ) (node : Node) → node_at layers k s ≡ Some node → s < width_at layers k
node_within layers k s node e = by (slice_get layers k) e
  where
    by : (o : Option (Vec Node)) → node_in o s ≡ Some node → s < width_of o
    by None f = absurd (none-some node f)
    by (Some layer) f = slice_get_within layer.items s node f

pub layer_within : (layers : List (Vec Node)) (k s : ℕ) (node : Node) → node_at layers k s ≡ Some node → k < length layers
layer_within layers k s node e = by (slice_get layers k) refl e
  where
    by : (o : Option (Vec Node)) → slice_get layers k ≡ o → node_in o s ≡ Some node → k < length layers
    by None q f = absurd (none-some node f)
    by (Some layer) q f = slice_get_within layers k layer q

pub from_within : (layers : List (Vec Node)) (k s label : ℕ) (edge : Edge) → edge_at layers k s label ≡ Some edge → s < width_at layers k
from_within layers k s label edge e = by (node_at layers k s) refl e
  where
    by : (o : Option Node) → node_at layers k s ≡ o → edge_of (edges_from o) label ≡ Some edge → s < width_at layers k
    by None q f = absurd (none-some edge f)
    by (Some node) q f = node_within layers k s node q

-- ---- one label more

pub led_more : (layers : List (Vec Node)) (k s : ℕ) (w : List ℕ) (n t label : ℕ) (edge : Edge) → led layers k s w ≡ Some t → n ≡ k + length w
    → edge_at layers n t label ≡ Some edge → led layers k s (w ++ label ∷ []) ≡ Some edge.to
led_more layers k s [] n t label edge e at by =
    let here : k ≡ n = omega arith in
    ap (option_and_then (λ (v : Edge). led layers (suc k) v.to []))
    (ap (λ j. edge_at layers j s label) here ∙ (ap (λ u. edge_at layers n u label) (same_Some s t e) ∙ by))
led_more layers k s (a ∷ w) n t label edge e at by = on (λ (v : Edge) f. led_more layers (suc k) v.to w n t label edge f (omega arith) by) (edge_at layers k s a) e
  where
    on : ((v : Edge) → led layers (suc k) v.to w ≡ Some t → led layers (suc k) v.to (w ++ label ∷ []) ≡ Some edge.to) → (o : Option Edge) → option_and_then (λ (v : Edge). led layers (suc k) v.to w) o ≡ Some t
        → option_and_then (λ (v : Edge). led layers (suc k) v.to (w ++ label ∷ [])) o ≡ Some edge.to
    on more None f = absurd (none-some t f)
    on more (Some v) f = more v f

pub led_split : (layers : List (Vec Node)) (k s : ℕ) (w : List ℕ) (n t label : ℕ) → led layers k s (w ++ label ∷ []) ≡ Some t → n ≡ k + length w
    → (u : ℕ) × ((edge : Edge) × ((led layers k s w ≡ Some u) × ((edge_at layers n u label ≡ Some edge) × (edge.to ≡ t))))
led_split layers k s [] n t label e at = on (edge_at layers k s label) refl e
  where
    on : (o : Option Edge) → edge_at layers k s label ≡ o → option_and_then (λ (v : Edge). led layers (suc k) v.to []) o ≡ Some t
        → (u : ℕ) × ((edge : Edge) × ((led layers k s [] ≡ Some u) × ((edge_at layers n u label ≡ Some edge) × (edge.to ≡ t))))
    on None q f = absurd (none-some t f)
    on (Some v) q f = let here : n ≡ k = omega arith in (s, (v, (refl, (ap (λ j. edge_at layers j s label) here ∙ q, same_Some v.to t f))))
led_split layers k s (a ∷ w) n t label e at = on (λ (v : Edge) f. led_split layers (suc k) v.to w n t label f (omega arith)) (edge_at layers k s a) e
  where
    on : ((v : Edge) → led layers (suc k) v.to (w ++ label ∷ []) ≡ Some t
        → (u : ℕ) × ((edge : Edge) × ((led layers (suc k) v.to w ≡ Some u) × ((edge_at layers n u label ≡ Some edge) × (edge.to ≡ t))))) → (o : Option Edge) → option_and_then (λ (v : Edge). led layers (suc k) v.to (w ++ label ∷ [])) o ≡ Some t
        → (u : ℕ) × ((edge : Edge) × ((option_and_then (λ (v : Edge). led layers (suc k) v.to w) o ≡ Some u) × ((edge_at layers n u label ≡ Some edge) × (edge.to ≡ t))))
    on more None f = absurd (none-some t f)
    on more (Some v) f = more v f

-- ---- whole words

pub word_led : (layers : List (Vec Node)) (k s : ℕ) (w : List ℕ) (class n : ℕ) → IsWord layers k s w class → n ≡ k + length w
    → (t : ℕ) × ((led layers k s w ≡ Some t) × (node_at layers n t ≡ Some (Ends class)))
word_led layers k s [] class n h at = let here : n ≡ k = omega arith in (s, (refl, ap (λ j. node_at layers j s) here ∙ h))
word_led layers k s (a ∷ w) class n h at =
    let rest = word_led layers (suc k) h.0.to w class n h.1.1 (omega arith) in
    (rest.0, (ap (option_and_then (λ (v : Edge). led layers (suc k) v.to w)) h.1.0 ∙ rest.1.0, rest.1.1))

pub led_word : (layers : List (Vec Node)) (k s : ℕ) (w : List ℕ) (class n t : ℕ) → led layers k s w ≡ Some t → n ≡ k + length w
    → node_at layers n t ≡ Some (Ends class) → IsWord layers k s w class
led_word layers k s [] class n t e at ends =
    let here : k ≡ n = omega arith in ap (λ j. node_at layers j s) here ∙ (ap (node_at layers n) (same_Some s t e) ∙ ends)
led_word layers k s (a ∷ w) class n t e at ends = on (λ (v : Edge) f. led_word layers (suc k) v.to w class n t f (omega arith) ends) (edge_at layers k s a) refl e
  where
    on : ((v : Edge) → led layers (suc k) v.to w ≡ Some t → IsWord layers (suc k) v.to w class) → (o : Option Edge) → edge_at layers k s a ≡ o → option_and_then (λ (v : Edge). led layers (suc k) v.to w) o ≡ Some t
        → (edge : Edge) × ((edge_at layers k s a ≡ Some edge) × IsWord layers (suc k) edge.to w class)
    on more None q f = absurd (none-some t f)
    on more (Some v) q f = (v, (q, more v f))

-- ---- ranks

pub plus_swap : (a b : Bool) (n : ℕ) → plus a (plus b n) ≡ plus b (plus a n)
plus_swap true true n = refl
plus_swap true false n = refl
plus_swap false true n = refl
plus_swap false false n = refl

cuts_more : (layers : List (Vec Node)) (k s : ℕ) (w : List ℕ) (n t label : ℕ) (edge : Edge) → led layers k s w ≡ Some t → n ≡ k + length w
    → edge_at layers n t label ≡ Some edge → cuts layers k s (w ++ label ∷ []) ≡ plus edge.cut (cuts layers k s w)
cuts_more layers k s [] n t label edge e at by =
    let here : k ≡ n = omega arith in
    ap (λ o. option_map_or (λ (v : Edge). plus v.cut 0) o 0)
    (ap (λ j. edge_at layers j s label) here ∙ (ap (λ u. edge_at layers n u label) (same_Some s t e) ∙ by))
cuts_more layers k s (a ∷ w) n t label edge e at by = on (λ (v : Edge) f. cuts_more layers (suc k) v.to w n t label edge f (omega arith) by) (edge_at layers k s a) e
  where
    on : ((v : Edge) → led layers (suc k) v.to w ≡ Some t → cuts layers (suc k) v.to (w ++ label ∷ []) ≡ plus edge.cut (cuts layers (suc k) v.to w)) → (o : Option Edge) → option_and_then (λ (v : Edge). led layers (suc k) v.to w) o ≡ Some t
        → option_map_or (λ (v : Edge). plus v.cut (cuts layers (suc k) v.to (w ++ label ∷ []))) o 0
        ≡ plus edge.cut (option_map_or (λ (v : Edge). plus v.cut (cuts layers (suc k) v.to w)) o 0)
    on more None f = absurd (none-some t f)
    on more (Some v) f = ap (plus v.cut) (more v f) ∙ plus_swap v.cut edge.cut (cuts layers (suc k) v.to w)

changes_more : (layers : List (Vec Node)) (k s : ℕ) (w : List ℕ) (n t label : ℕ) (edge : Edge) → led layers k s w ≡ Some t → n ≡ k + length w
    → edge_at layers n t label ≡ Some edge → changes layers k s (w ++ label ∷ []) ≡ plus edge.change (changes layers k s w)
changes_more layers k s [] n t label edge e at by =
    let here : k ≡ n = omega arith in
    ap (λ o. option_map_or (λ (v : Edge). plus v.change 0) o 0)
    (ap (λ j. edge_at layers j s label) here ∙ (ap (λ u. edge_at layers n u label) (same_Some s t e) ∙ by))
changes_more layers k s (a ∷ w) n t label edge e at by = on (λ (v : Edge) f. changes_more layers (suc k) v.to w n t label edge f (omega arith) by) (edge_at layers k s a) e
  where
    on : ((v : Edge) → led layers (suc k) v.to w ≡ Some t → changes layers (suc k) v.to (w ++ label ∷ []) ≡ plus edge.change (changes layers (suc k) v.to w)) → (o : Option Edge) → option_and_then (λ (v : Edge). led layers (suc k) v.to w) o ≡ Some t
        → option_map_or (λ (v : Edge). plus v.change (changes layers (suc k) v.to (w ++ label ∷ []))) o 0
        ≡ plus edge.change (option_map_or (λ (v : Edge). plus v.change (changes layers (suc k) v.to w)) o 0)
    on more None f = absurd (none-some t f)
    on more (Some v) f = ap (plus v.change) (more v f) ∙ plus_swap v.change edge.change (changes layers (suc k) v.to w)

abbrev ranked : ℕ → ℕ → List ℕ → Rank
ranked m n w = record { cuts = m; changes = n; turns = w }

pub goes_on : (layers : List (Vec Node)) (k s : ℕ) (edge : Edge) → edge_at layers k s edge.label ≡ Some edge → (w : List ℕ) → LeadsTo layers k s w
    → rank layers (w ++ edge.label ∷ []) ≡ went (rank layers w) edge
goes_on layers k s edge by w leads =
    let at : k ≡ 0 + length w = omega (arith, leads.long) in
    ap (λ m. ranked m (changes layers 0 0 (w ++ edge.label ∷ [])) (w ++ edge.label ∷ [])) (cuts_more layers 0 0 w k s edge.label edge leads.there at by)
    ∙ ap (λ n. ranked (plus edge.cut (cuts layers 0 0 w)) n (w ++ edge.label ∷ [])) (changes_more layers 0 0 w k s edge.label edge leads.there at by)

pub few_plus : (b : Bool) (m n : ℕ) → m ≤ n → plus b m ≤ suc n
few_plus true m n le = omega arith
few_plus false m n le = omega arith

pub cuts_few : (layers : List (Vec Node)) (k s : ℕ) (w : List ℕ) → cuts layers k s w ≤ length w
cuts_few layers k s [] = omega arith
cuts_few layers k s (a ∷ w) = on (λ (v : Edge). cuts_few layers (suc k) v.to w) (edge_at layers k s a)
  where
    on : ((v : Edge) → cuts layers (suc k) v.to w ≤ length w) → (o : Option Edge) → option_map_or (λ (v : Edge). plus v.cut (cuts layers (suc k) v.to w)) o 0 ≤ suc (length w)
    on more None = omega arith
    on more (Some v) = few_plus v.cut (cuts layers (suc k) v.to w) (length w) (more v)

pub changes_few : (layers : List (Vec Node)) (k s : ℕ) (w : List ℕ) → changes layers k s w ≤ length w
changes_few layers k s [] = omega arith
changes_few layers k s (a ∷ w) = on (λ (v : Edge). changes_few layers (suc k) v.to w) (edge_at layers k s a)
  where
    on : ((v : Edge) → changes layers (suc k) v.to w ≤ length w) → (o : Option Edge) → option_map_or (λ (v : Edge). plus v.change (changes layers (suc k) v.to w)) o 0 ≤ suc (length w)
    on more None = omega arith
    on more (Some v) = few_plus v.change (changes layers (suc k) v.to w) (length w) (more v)

-- ---- the last label

pub last_of : (w : List ℕ) (k : ℕ) → length w ≡ suc k → (q : List ℕ) × ((label : ℕ) × ((w ≡ q ++ label ∷ []) × (length q ≡ k)))
last_of [] k e = absurd (omega arith)
last_of (a ∷ []) k e = ([], (a, (refl, omega arith)))
last_of (a ∷ b ∷ w) zero e = absurd (omega arith)
last_of (a ∷ b ∷ w) (suc k) e =
    let rest = last_of (b ∷ w) k (omega arith) in (a ∷ rest.0, (rest.1.0, (ap (λ v. a ∷ v) rest.1.1.0, ap suc rest.1.1.1)))

pub last_same : (p q : List ℕ) (a b : ℕ) → p ++ a ∷ [] ≡ q ++ b ∷ [] → (p ≡ q) × (a ≡ b)
last_same [] [] a b e = (refl, cc)
last_same [] (y ∷ q) a b e = absurd (omega (arith, ap length e, length-append q (b ∷ [])))
last_same (x ∷ p) [] a b e = absurd (omega (arith, ap length e, length-append p (a ∷ [])))
last_same (x ∷ p) (y ∷ q) a b e =
    let head : x ≡ y = cc in
    let tail : p ++ a ∷ [] ≡ q ++ b ∷ [] = cc in
    let rest = last_same p q a b tail in
    (ap (λ z. z ∷ p) head ∙ ap (λ v. y ∷ v) rest.0, rest.1)
