-- Where the first labels of a word lead to.
use Rattle.std.specs.Prelude.{◌≡◌, ◌<◌, ◌⊎◌, ◌++◌, ℕ, suc, List, [], ◌∷◌, length, Option, Some, None, slice_get, option_and_then}
use Rattle.std.specs.Global.{Vec}
use Rattle.schedule_graph.specs.declared.graph.Edge.{Edge}
use Rattle.schedule_graph.specs.declared.graph.Node.{Node}
use Rattle.schedule_graph.specs.declared.graph.Node.TheVariants.{Ends}
use Rattle.schedule_graph.specs.declared.count.Count.{Count}
use Rattle.schedule_graph.specs.declared.count.Counts.{Counts}
use Rattle.schedule_graph.specs.Words.{node_at, edge_at, rank, IsWordOf}
use Rattle.schedule_graph.specs.Counted.{IsCount}

-- how many nodes the layer has
abbrev pub width_of : Option (Vec Node) → ℕ
width_of None = 0
width_of (Some layer) = length layer.items

abbrev pub width_at : List (Vec Node) → ℕ → ℕ
width_at layers k = width_of (slice_get layers k)

-- the node that the labels lead to from node s of layer k, if they do
abbrev pub led : List (Vec Node) → ℕ → ℕ → List ℕ → Option ℕ
led layers k s [] = Some s
led layers k s (label ∷ rest) = option_and_then (λ edge. led layers (suc k) edge.to rest) (edge_at layers k s label)

-- so many labels, which lead from the first node of all to that one
pub record LeadsTo (layers : List (Vec Node)) (k s : ℕ) (word : List ℕ) : Type 0 where
  pub long : length word ≡ k
  pub there : led layers 0 0 word ≡ Some s

-- what leads to each node of the layer is counted
abbrev pub IsTable : List (Vec Node) → ℕ → List Count → Type 0
IsTable layers k table =
    (s : ℕ) (count : Count) → slice_get table s ≡ Some count → IsCount (rank layers) (LeadsTo layers k s) count

-- it leads to node t of the next layer, by an edge from a node of layer k that has a number and a label such as that
pub record Came (layers : List (Vec Node)) (k : ℕ) (Early : ℕ → ℕ → Type 0) (t : ℕ) (word : List ℕ) : Type 0 where
  pub before : List ℕ
  pub label : ℕ
  pub node : ℕ
  pub edge : Edge
  pub is : word ≡ before ++ label ∷ []
  pub leads : LeadsTo layers k node before
  pub early : Early node label
  pub by : edge_at layers k node label ≡ Some edge
  pub to : edge.to ≡ t

-- the node is before that one
abbrev pub IsBefore : ℕ → ℕ → ℕ → Type 0
IsBefore s node label = node < s

-- what leads to each node of the next layer by the first nodes of layer k, as many as s, is counted
abbrev pub IsNext : List (Vec Node) → ℕ → ℕ → List Count → Type 0
IsNext layers k s next = (t : ℕ) (count : Count) → slice_get next t ≡ Some count
    → IsCount (rank layers) (Came layers k (IsBefore s) t) count

-- It is a word of such a class, and either has fewer labels than k, or ends at one of the first nodes of layer k,
-- as many as s.
abbrev pub Ended : List (Vec Node) → ℕ → ℕ → (ℕ → Type 0) → List ℕ → Type 0
Ended layers k s Class word =
    ((class : ℕ) × (Class class × ((length word < k) × IsWordOf layers class word)))
    ⊎ ((class : ℕ) × ((node : ℕ)
    × (Class class × ((node < s)
    × (LeadsTo layers k node word × (node_at layers k node ≡ Some (Ends class)))))))

-- these words are counted, those of each class and all of them
pub record AreTold (layers : List (Vec Node)) (k s : ℕ) (counts : Counts) : Type 0 where
  pub each : (class : ℕ) (count : Count) → slice_get counts.classes.items class ≡ Some count
      → IsCount (rank layers) (Ended layers k s (λ c. c ≡ class)) count
  pub all : IsCount (rank layers) (Ended layers k s (λ c. Unit {0})) counts.all
