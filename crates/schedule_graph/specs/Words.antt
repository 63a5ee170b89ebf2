-- The words of a layered graph, and which of two is less.
use Rattle.std.specs.Prelude.{◌≡◌, ◌==◌, ◌&&◌, ◌||◌, ℕ, suc, List, [], ◌∷◌, Bool, true, false, Option, Some, None, nat_lt, slice_get, if◌then◌else◌}
use Rattle.std.specs.Global.{Vec}
use Rattle.std.specs.Option.{option_map_or}
use Rattle.schedule_graph.specs.declared.graph.Edge.{Edge}
use Rattle.schedule_graph.specs.declared.graph.Node.{Node}
use Rattle.schedule_graph.specs.declared.graph.Node.TheVariants.{Ends, Goes}

-- ---- what stands in a graph

-- that node of a layer, if the layer has it
abbrev pub node_in : Option (Vec Node) → ℕ → Option Node
node_in None s = None
node_in (Some layer) s = slice_get layer.items s

-- that node of that layer, if there is one
abbrev pub node_at : List (Vec Node) → ℕ → ℕ → Option Node
node_at layers k s = node_in (slice_get layers k) s

-- the edges from a node
abbrev pub edges_from : Option Node → List Edge
edges_from None = []
edges_from (Some (Ends class)) = []
edges_from (Some (Goes edges)) = edges.items

-- the first of the edges with that label
abbrev pub edge_of : List Edge → ℕ → Option Edge
edge_of [] label = None
edge_of (edge ∷ edges) label = if edge.label == label then Some edge else edge_of edges label

-- the edge by that label from that node of that layer
abbrev pub edge_at : List (Vec Node) → ℕ → ℕ → ℕ → Option Edge
edge_at layers k s label = edge_of (edges_from (node_at layers k s)) label

-- No two of the edges have the same label.
abbrev pub AreApart : List Edge → Type 0
AreApart edges = (i j : ℕ) (v w : Edge) → slice_get edges i ≡ Some v → slice_get edges j ≡ Some w → v.label ≡ w.label
    → i ≡ j

-- No two edges from one node of the layer have the same label.
abbrev pub IsLayer : List Node → Type 0
IsLayer layer = (s : ℕ) → AreApart (edges_from (slice_get layer s))

-- so in each layer
abbrev pub AreLayers : List (Vec Node) → Type 0
AreLayers layers = (k : ℕ) (layer : Vec Node) → slice_get layers k ≡ Some layer → IsLayer layer.items

-- ---- words

-- The labels lead from node s of layer k to one where a word is whole, of that class.
abbrev pub IsWord : List (Vec Node) → ℕ → ℕ → List ℕ → ℕ → Type 0
IsWord layers k s [] class = node_at layers k s ≡ Some (Ends class)
IsWord layers k s (label ∷ rest) class =
    (edge : Edge) × ((edge_at layers k s label ≡ Some edge) × IsWord layers (suc k) edge.to rest class)

-- one more, where it is so
abbrev pub plus : Bool → ℕ → ℕ
plus true n = suc n
plus false n = n

-- how many edges of the word, from node s of layer k, are a cut
abbrev pub cuts : List (Vec Node) → ℕ → ℕ → List ℕ → ℕ
cuts layers k s [] = 0
cuts layers k s (label ∷ rest) =
    option_map_or (λ edge. plus edge.cut (cuts layers (suc k) edge.to rest)) (edge_at layers k s label) 0

-- how many edges of the word, from node s of layer k, are a change
abbrev pub changes : List (Vec Node) → ℕ → ℕ → List ℕ → ℕ
changes layers k s [] = 0
changes layers k s (label ∷ rest) =
    option_map_or (λ edge. plus edge.change (changes layers (suc k) edge.to rest)) (edge_at layers k s label) 0

-- ---- which is less

-- the first number is less, or they are the same and so it is
abbrev pub is_less_or : ℕ → ℕ → Bool → Bool
is_less_or m n so = nat_lt m n || ((m == n) && so)

-- the first list isn't after the second in the order of words
abbrev pub is_not_after : List ℕ → List ℕ → Bool
is_not_after [] js = true
is_not_after (i ∷ is) [] = false
is_not_after (i ∷ is) (j ∷ js) = is_less_or i j (is_not_after is js)

-- what a word is ordered by
pub record Rank : Type 0 where
  pub cuts : ℕ
  pub changes : ℕ
  pub turns : List ℕ

-- by the cuts, then by the changes, then as lists
abbrev pub is_at_most : Rank → Rank → Bool
is_at_most a b = is_less_or a.cuts b.cuts (is_less_or a.changes b.changes (is_not_after a.turns b.turns))

-- the rank of a word from node s of layer k
abbrev pub rank_from : List (Vec Node) → ℕ → ℕ → List ℕ → Rank
rank_from layers k s word = record { cuts = cuts layers k s word; changes = changes layers k s word; turns = word }

-- ---- the words of a graph: those from the first node of the first layer

abbrev pub IsWordOf : List (Vec Node) → ℕ → List ℕ → Type 0
IsWordOf layers class word = IsWord layers 0 0 word class

-- of any class
abbrev pub IsSomeWord : List (Vec Node) → List ℕ → Type 0
IsSomeWord layers word = (class : ℕ) × IsWord layers 0 0 word class

abbrev pub rank : List (Vec Node) → List ℕ → Rank
rank layers word = rank_from layers 0 0 word
