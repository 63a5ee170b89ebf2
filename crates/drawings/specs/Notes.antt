-- Where what the other actors hold stands after an event, where it stands elsewhere than before.
use Rattle.std.specs.Prelude.{ℕ, zero, suc, ◌==◌, ◌&&◌, List, [], ◌∷◌, ◌++◌, Bool, not, if◌then◌else◌, Option, Some, None, codes}
use Rattle.path_text.specs.Name.{same_bytes}
use Rattle.tree_model.specs.declared.inode.Inode.{Inode}
use Rattle.tree_model.specs.declared.inode.OpenHandle.{OpenHandle}
use Rattle.tree_model.specs.Entries.{with_some}
use Rattle.tree_model.specs.State.{State, TOP, is_within}
use Rattle.tree_model.specs.Steps.{held, node_held}
use Rattle.drawings.specs.declared.picture.Line.{Line}
use Rattle.drawings.specs.declared.picture.Tone.TheVariants.{Plain, Bad}
use Rattle.drawings.specs.Places.{way_to, place_words}

-- the later of two, where there is one
abbrev pub later : Option ℕ → Option ℕ → Option ℕ
later None early = early
later (Some x) early = Some x

-- the node of the newest of these handles that is open and the actor's
abbrev pub newest_in : ℕ → List (Option OpenHandle) → Option ℕ
newest_in actor [] = None
newest_in actor (place ∷ places) = later (newest_in actor places) (node_held actor (Some place))

-- the node of an actor's root, which its handle of its own number was granted on
abbrev pub root_of : State → ℕ → Option ℕ
root_of opening actor = held opening actor actor

-- a node stands in the tree, and neither is a root nor stands below it
abbrev pub is_outside : List Inode → ℕ → ℕ → Bool
is_outside nodes root x = is_within nodes TOP x && not (is_within nodes root x)

-- where a node stands now
abbrev pub now_words : Option (List (List ℕ)) → List ℕ
now_words None = codes "now gone"
now_words (Some names) = codes "now at " ++ place_words (Some names)

-- and of which root that is outside
abbrev pub outside_words : List Inode → ℕ → ℕ → List ℕ
outside_words nodes root x =
    if is_outside nodes root x then codes ", OUTSIDE " ++ place_words (way_to nodes root) else []

abbrev pub note_line : List Inode → ℕ → ℕ → ℕ → Line
note_line nodes actor root x =
    record {
      moment = None;
      actor = actor;
      tone = if is_outside nodes root x then Bad else Plain;
      text = now_words (way_to nodes x) ++ outside_words nodes root x;
    }

-- a note where another place is told of the node than before
abbrev pub note_if_moved : List Inode → List Inode → ℕ → ℕ → ℕ → List Line
note_if_moved before after actor root x =
    if same_bytes (place_words (way_to before x)) (place_words (way_to after x)) then []
    else note_line after actor root x ∷ []

-- the note of an actor after an event of actor `by`, whose own column tells it
abbrev pub note_of : State → State → State → ℕ → ℕ → List Line
note_of opening before after by actor =
    if by == actor then []
    else with_some (root_of opening actor) [] (λ root.
    with_some (newest_in actor after.handles) [] (λ x. note_if_moved before.nodes after.nodes actor root x))

-- those of the actors below that number
abbrev pub notes_below : State → State → State → ℕ → ℕ → List Line
notes_below opening before after by zero = []
notes_below opening before after by (suc actor) =
    notes_below opening before after by actor ++ note_of opening before after by actor
