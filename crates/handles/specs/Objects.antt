-- What a contract sees of an opened object, before its place is checked and after (path_resolution(7); openat2(2),
-- RESOLVE_IN_ROOT).
use Rattle.std.specs.Prelude.{ℕ, Bool, true, false, List, if◌then◌else◌, Option, Some, None, Result, Ok, Err}
use Rattle.path_text.specs.Names.{same_names}
use Rattle.tree_model.specs.declared.answer.Answer.{Answer}
use Rattle.tree_model.specs.declared.answer.Answer.TheVariants.{Opened, Text, Names, NotBelow, Listed, Done, Refused}
use Rattle.tree_model.specs.declared.step.Kind.{Kind}
use Rattle.handles.specs.declared.owner.Owner.{Owner}

-- an object that was opened: whose its handle is, the handle's number, the node, and what that is
pub record ReachedObject : Type 0 where
  pub owner : Owner
  pub handle : ℕ
  pub node : ℕ
  pub kind : Kind

-- an opened object, and the names from the root at which it stood when it was asked
pub record StandingObject : Type 0 where
  pub owner : Owner
  pub handle : ℕ
  pub node : ℕ
  pub kind : Kind
  pub names : List (List ℕ)

-- an answer opened an object
abbrev pub is_opened : Answer → Bool
is_opened (Opened handle node kind) = true
is_opened (Text text) = false
is_opened (Names names) = false
is_opened NotBelow = false
is_opened (Listed names) = false
is_opened Done = false
is_opened (Refused error) = false

-- what an answer to this owner's step reaches: an object where it opened one, and nothing else
abbrev pub reached_by : Owner → Answer → Option ReachedObject
reached_by owner (Opened handle node kind) =
    Some (record { owner = owner; handle = handle; node = node; kind = kind })
reached_by owner (Text text) = None
reached_by owner (Names names) = None
reached_by owner NotBelow = None
reached_by owner (Listed names) = None
reached_by owner Done = None
reached_by owner (Refused error) = None

-- the object, standing at these names
abbrev pub standing_at : ReachedObject → List (List ℕ) → StandingObject
standing_at o names = record { owner = o.owner; handle = o.handle; node = o.node; kind = o.kind; names = names }

-- the object without its names
abbrev pub unchecked : StandingObject → ReachedObject
unchecked o = record { owner = o.owner; handle = o.handle; node = o.node; kind = o.kind }

-- how the answer to the question where an object stands is judged: it stands where that is the expected names, and
-- at nothing else
abbrev pub judged : ReachedObject → Answer → List (List ℕ) → Result StandingObject ReachedObject
judged o (Names names) expected = if same_names names expected then Ok (standing_at o names) else Err o
judged o (Opened handle node kind) expected = Err o
judged o (Text text) expected = Err o
judged o NotBelow expected = Err o
judged o (Listed names) expected = Err o
judged o Done expected = Err o
judged o (Refused error) expected = Err o
