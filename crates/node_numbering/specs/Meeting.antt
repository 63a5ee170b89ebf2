-- The order in which new nodes are met, and the numbers that they get by it.
--
-- Numbers are given one after another. Where they are given from `next` on, `exchanges` tells the numbers so far, and a
-- node is unmet that has none of those before `next`.
use Rattle.std.specs.Prelude.{ℕ, zero, suc, ◌-◌, ◌==◌, ◌&&◌, ◌||◌, ◌++◌, List, [], ◌∷◌, Bool, true, length, nat_le, nat_lt, if◌then◌else◌, Option, Some, None}
use Rattle.std.specs.List.{list_any}
use Rattle.std.specs.Option.{option_map, option_map_or, option_or, option_and_then}
use Rattle.std.specs.Ordering.{nat_cmp, is_lt}
use Rattle.std.specs.Cmp.Lexicographic.{slice_cmp}
use Rattle.race_core.specs.declared.report.Outcome.{Outcome}
use Rattle.race_core.specs.declared.report.Outcome.TheVariants as outcomes
use Rattle.tree_model.specs.declared.answer.Answer.{Answer}
use Rattle.tree_model.specs.declared.answer.Answer.TheVariants as answers
use Rattle.tree_model.specs.declared.inode.Inode.{Inode}
use Rattle.tree_model.specs.declared.inode.Place.{Place}
use Rattle.node_numbering.specs.declared.exchange.Exchange.{Exchange}
use Rattle.node_numbering.specs.Exchanges.{after_all}

-- the number of a node, if it is unmet; there are so many nodes
abbrev pub unmet : List Exchange → ℕ → ℕ → ℕ → Option ℕ
unmet exchanges next many x =
    if nat_le next (after_all exchanges x) && nat_lt (after_all exchanges x) many
    then Some (after_all exchanges x) else None

-- ---- in the tree

-- an entry: its directory's number, its name, and its node's number
pub record EntryView : Type 0 where
  pub dir : ℕ
  pub name : List ℕ
  pub node : ℕ

-- the entry of an unmet node that stands in a directory which was met
abbrev pub entry_in : List Exchange → ℕ → ℕ → ℕ → Option Place → Option EntryView
entry_in exchanges next many x None = None
entry_in exchanges next many x (Some place) =
    if nat_le next (after_all exchanges place.parent) then None
    else option_map (λ y. record { dir = after_all exchanges place.parent; name = place.name; node = y })
    (unmet exchanges next many x)

-- by the directory's number, then by the bytes of the name
abbrev pub is_before : EntryView → EntryView → Bool
is_before entry other =
    if entry.dir == other.dir then is_lt (slice_cmp nat_cmp entry.name other.name) else nat_lt entry.dir other.dir

abbrev pub comes_before : EntryView → Option EntryView → Bool
comes_before entry None = true
comes_before entry (Some other) = is_before entry other

-- the one of the two that comes first, if there are any
abbrev pub first_of : Option EntryView → Option EntryView → Option EntryView
first_of so_far None = so_far
first_of so_far (Some entry) = if comes_before entry so_far then Some entry else so_far

-- the first of these entries, and of those of the nodes from the number x on
abbrev pub first_entry : List Exchange → ℕ → ℕ → Option EntryView → ℕ → List Inode → Option EntryView
first_entry exchanges next many so_far x [] = so_far
first_entry exchanges next many so_far x (inode ∷ nodes) =
    first_entry exchanges next many (first_of so_far (entry_in exchanges next many x inode.place)) (suc x) nodes

-- the number of the unmet node whose entry comes first
abbrev pub in_tree : List Exchange → ℕ → List Inode → Option ℕ
in_tree exchanges next nodes =
    option_map (λ entry. entry.node) (first_entry exchanges next (length nodes) None 0 nodes)

-- ---- in replies

abbrev pub opened_by : Answer → Option ℕ
opened_by (answers.Opened handle x kind) = Some x
opened_by (answers.Text text) = None
opened_by (answers.Names names) = None
opened_by answers.NotBelow = None
opened_by (answers.Listed names) = None
opened_by answers.Done = None
opened_by (answers.Refused error) = None

-- the node that a call opened
abbrev pub opened : Outcome → Option ℕ
opened (outcomes.Opened x kind names) = Some x
opened (outcomes.Text text) = None
opened outcomes.Done = None
opened (outcomes.Count n) = None
opened (outcomes.Stepped answer) = opened_by answer
opened (outcomes.Fault error) = None

-- the number of the first unmet node that these calls opened
abbrev pub in_calls : List Exchange → ℕ → ℕ → List Outcome → Option ℕ
in_calls exchanges next many [] = None
in_calls exchanges next many (outcome ∷ others) =
    option_or (option_and_then (unmet exchanges next many) (opened outcome)) (in_calls exchanges next many others)

-- the actor is one of those that are named, or none is
abbrev pub is_told : List ℕ → ℕ → Bool
is_told named actor = length named == 0 || list_any (λ i. i == actor) named

-- that of the actors' calls, counted from an actor on: of those that are named, or of all
abbrev pub in_replies : List Exchange → ℕ → ℕ → List ℕ → ℕ → List (List Outcome) → Option ℕ
in_replies exchanges next many named actor [] = None
in_replies exchanges next many named actor (outcomes ∷ others) =
    option_or (if is_told named actor then in_calls exchanges next many outcomes else None)
    (in_replies exchanges next many named (suc actor) others)

-- ---- numbers

-- The number of the node that is met next: where no actor is named, first in the tree.
abbrev pub found : List ℕ → List Inode → List (List Outcome) → List Exchange → ℕ → Option ℕ
found [] nodes replies exchanges next =
    option_or (in_tree exchanges next nodes) (in_replies exchanges next (length nodes) [] 0 replies)
found (i ∷ is) nodes replies exchanges next = in_replies exchanges next (length nodes) (i ∷ is) 0 replies

-- so that the node of the number y gets the number `next`
abbrev pub exchange_to : ℕ → ℕ → List Exchange
exchange_to next y = if next == y then [] else record { one = next; other = y } ∷ []

-- at most so many nodes get their numbers, from `next` on, as they are met
abbrev pub numbered_on : List ℕ → List Inode → List (List Outcome) → ℕ → ℕ → List Exchange → List Exchange
numbered_on named nodes replies zero next exchanges = exchanges
numbered_on named nodes replies (suc left) next exchanges = option_map_or
    (λ y. numbered_on named nodes replies left (suc next) (exchanges ++ exchange_to next y))
    (found named nodes replies exchanges next) exchanges

-- the new number of a node: those from `known` on are numbered as they are met
abbrev pub numbers : ℕ → List ℕ → List Inode → List (List Outcome) → ℕ → ℕ
numbers known named nodes replies =
    after_all (numbered_on named nodes replies (length nodes - known) known [])
