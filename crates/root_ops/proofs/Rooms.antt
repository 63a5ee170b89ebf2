-- Where a walk finds its object the room for what the answer brings plays no part, so that one truth value tells both the
-- walk's room and that of the next walk.
use Rattle.std.proofs.Common.{◌≡◌, ℕ, zero, suc, List, [], ◌∷◌, Bool, true, false, if◌then◌else◌, refl, sym, ◌∙◌, ap, subst}
use Rattle.std.specs.Prelude.{Option, Some, None}
use Rattle.path_text.specs.declared.errno.Errno.{Errno}
use Rattle.path_text.specs.declared.errno.Errno.TheVariants.{NotFound, NoMemory, NotDir, TooLong}
use Rattle.path_text.specs.Reading.{Reading}
use Rattle.path_text.specs.Text.{text_fault, parts_of, begins_with_slash}
use Rattle.tree_model.specs.declared.answer.Answer.{Answer}
use Rattle.tree_model.specs.declared.answer.Answer.TheVariants.{Opened, Text}
use Rattle.step_resolver.specs.Asked.{AskedPart, Cur, Up, Named, asked, followed, follows}
use Rattle.step_resolver.specs.Meaning.{LINKS_MAX, is_too_long}
use Rattle.walk_plan.specs.Plan.{leads_out}
use Rattle.step_resolver.specs.Order.{Way, Handle, Position, root_itself, holds, Todo, todo, After, gives, onward, judges, Walking, opening, reading, rising, judging, duping, ending, closing, Turn, more, found, partial, failed, names_of, handles_of, is_dir_position, is_followed, gives_up, at_end, in_directory, on_part, on_own, on_parts, goes_on, begins, for_walk, comes, closes, with_room, follows_link, enters, refused_open, from_link, read_text, refused_rise, take}
use Rattle.walk_plan.specs.declared.goal.Goal.{Goal}
use Rattle.step_resolver.specs.View.{WalkView, way_from}
use Rattle.step_resolver.specs.declared.walk.Turn.{Turn as Outcome}
use Rattle.step_resolver.specs.TurnView as walk
use Rattle.root_ops.specs.declared.aim.Aim.{Aim}
use Rattle.root_ops.specs.declared.below.Below.{Below}
use Rattle.root_ops.specs.Order.{walked, way_of, CallTurn}
use Rattle.root_ops.specs.Order as call
use Rattle.root_ops.specs.TurnView.{TakesTo, Either}

-- the turn is no end at which something is held
abbrev pub FindsNone : Turn → Type 0
FindsNone (more walk) = Unit {0}
FindsNone (found handle names) = ⊥
FindsNone (partial handle names rest) = ⊥
FindsNone (failed error) = Unit {0}

either : (b : Bool) (t u : Turn) → FindsNone t → FindsNone u → FindsNone (if b then t else u)
either true t u none other = none
either false t u none other = other

given_up : (hs : List ℕ) (error : Errno) → FindsNone (gives_up hs error)
given_up [] error = tt
given_up (h ∷ hs) error = tt

module _ (way : Way) where
  at_the_end : (position : Position) (rest : List AskedPart) → FindsNone (at_end position rest)
  at_the_end root_itself rest = tt
  at_the_end (holds handle names) rest = tt

  leaves : (position : Position) (error : Errno) → FindsNone (gives_up (handles_of position) error)
  leaves position error = given_up (handles_of position) error

  in_a_directory : (position : Position) (p : AskedPart) (own : Bool) (rest : Todo) (passed : Turn) → FindsNone passed → FindsNone (in_directory way position p own rest passed)
  in_a_directory position Cur own rest passed none = none
  in_a_directory root_itself Up own rest passed none = either way.flags.beneath _ passed tt none
  in_a_directory (holds handle []) Up own rest passed none = either way.flags.beneath _ passed tt none
  in_a_directory (holds handle (n ∷ names)) Up own rest passed none = tt
  in_a_directory position (Named follow n) own rest passed none = either (is_too_long n) _ _ (leaves position TooLong) tt

  at_a_part : (position : Position) (p : AskedPart) (own : Bool) (rest : Todo) (passed : Turn) → FindsNone passed → FindsNone (on_part way position p own rest passed)
  at_a_part position p own rest passed none =
      either (is_dir_position position) _ _ (in_a_directory position p own rest passed none) (leaves position NotDir)

  along_own : (position : Position) (own : List AskedPart) (b : ℕ) → FindsNone (on_own way position own b)
  along_own position [] b = at_the_end position []
  along_own position (p ∷ own) b = at_a_part position p true (todo [] own b) (on_own way position own b) (along_own position own b)

  along : (position : Position) (inner own : List AskedPart) (b : ℕ) → FindsNone (on_parts way position inner own b)
  along position [] own b = along_own position own b
  along position (p ∷ inner) own b = at_a_part position p false (todo inner own b) (on_parts way position inner own b) (along position inner own b)

  onwards : (position : Position) (rest : Todo) → FindsNone (goes_on way position rest)
  onwards position (todo inner own b) = along position inner own b

  coming : (after : After) → FindsNone (comes way after)
  coming (gives error) = tt
  coming (onward position rest) = onwards position rest
  coming (judges handle names rest) = tt

  pub closed : (hs : List ℕ) (after : After) → FindsNone (closes way hs after)
  closed [] after = coming after
  closed (h ∷ hs) after = tt

  for_room : (room : Bool) (hs : List ℕ) (turn : Turn) → FindsNone turn → FindsNone (with_room room hs turn)
  for_room true hs turn none = none
  for_room false hs turn none = given_up hs NoMemory

  at_a_link : (position : Position) (link : Handle) (rest : Todo) → FindsNone (follows_link way position link rest)
  at_a_link position link (todo inner own zero) = tt
  at_a_link position link (todo inner own (suc b)) = either way.flags.no_links _ _ tt tt

  entered : (room : Bool) (position : Position) (n : List ℕ) (new : Handle) (rest : Todo) → FindsNone (enters way room position n new rest)
  entered room position n new rest = for_room room (new.number ∷ handles_of position) _ (closed (handles_of position) (onward (holds new (n ∷ names_of position)) rest))

  pub not_opened : (position : Position) (own follow : Bool) (n : List ℕ) (rest : Todo) (error : Errno) → FindsNone (refused_open way position own follow n rest error)
  not_opened position own follow n (todo inner rest b) NotFound = either _ _ _ (at_the_end position (Named follow n ∷ rest)) (leaves position NotFound)
  not_opened position own follow n (todo inner rest b) error = leaves position error

  from_a_link : (room : Bool) (position : Position) (link : Handle) (absolute : Bool) (parts : List AskedPart) (rest : Todo) → FindsNone (from_link way room position link absolute parts rest)
  from_a_link room position link true parts (todo inner own b) = for_room room (link.number ∷ handles_of position) _ tt
  from_a_link room position link false parts (todo inner own b) = for_room room (link.number ∷ handles_of position) _ tt

  read : (room : Bool) (position : Position) (link : Handle) (rest : Todo) (text : List ℕ) (why : Option Errno) → FindsNone (read_text way room position link rest text why)
  read room position link rest text (Some error) = tt
  read room position link rest text None = either (leads_out (begins_with_slash text) way.flags) _ _ tt (from_a_link room position link (begins_with_slash text) (followed (parts_of text)) rest)

  reading_finds_none : (room : Bool) (position : Position) (link : Handle) (rest : Todo) (answer : Answer) → FindsNone (take way room (reading position link rest) answer)
  reading_finds_none room position link rest (Text text) = read room position link rest text (text_fault text)
  reading_finds_none room position link rest answer = tt

  pub not_risen : (handle : Handle) (error : Errno) → FindsNone (refused_rise handle error)
  not_risen handle NotFound = tt
  not_risen handle error = tt

  -- an end at which something is held is one at any room
  end_at : (room other : Bool) (walking : Walking) (answer : Answer) (turn : Turn) → (FindsNone turn → ⊥)
      → turn ≡ take way room walking answer → turn ≡ take way other walking answer
  end_at room other (opening position own follow n rest) (Opened h x kind) turn ends e =
      absurd (ends (subst FindsNone (sym e) (either (is_followed follow kind) _ _ (at_a_link position _ rest) (entered room position n _ rest))))
  end_at room other (opening position own follow n rest) answer turn ends e = e
  end_at room other (reading position link rest) answer turn ends e =
      absurd (ends (subst FindsNone (sym e) (reading_finds_none room position link rest answer)))
  end_at room other (rising old ns rest) answer turn ends e = e
  end_at room other (judging new ns rest) answer turn ends e = e
  end_at room other (duping rest) answer turn ends e = e
  end_at room other (ending held ns rest) answer turn ends e = e
  end_at room other (closing h hs after) answer turn ends e = e

-- ---- a call's walks

-- where no object was found the room for the next walk plays no part
pub same_room : (below : Below) (room other : Bool) (aim : Aim) (turn : Turn) → FindsNone turn → walked below room aim turn ≡ walked below other aim turn
same_room below room other aim (more walk) none = refl
same_room below room other aim (found handle names) none = absurd none
same_room below room other aim (partial handle names rest) none = absurd none
same_room below room other aim (failed error) none = refl

-- an answer to a walk's step, and where the walk has come to by it
pub walked_by : (below : Below) (aim : Aim) (walking : Walking) (answer : Answer) (turn : Turn) (next : CallTurn)
    → walk.TakesTo (way_of below aim) walking answer turn → (room : Bool) × (next ≡ walked below room aim turn)
    → TakesTo below (call.walking walking aim) answer next
walked_by below aim walking answer (found handle names) next taken by =
    (by.0, by.1 ∙ ap (walked below by.0 aim) (end_at (way_of below aim) taken.0 by.0 walking answer (found handle names) (λ none. none) taken.1))
walked_by below aim walking answer (partial handle names rest) next taken by =
    (by.0, by.1 ∙ ap (walked below by.0 aim) (end_at (way_of below aim) taken.0 by.0 walking answer (partial handle names rest) (λ none. none) taken.1))
walked_by below aim walking answer turn next taken by =
    (taken.0, by.1 ∙ same_room below by.0 taken.0 aim turn tt ∙ ap (walked below taken.0 aim) taken.1)

-- a first turn finds none, and without room for the walk it is the want
pub first_turn : (way : Way) (path : Reading) → FindsNone (begins way path)
first_turn way path = either (leads_out path.absolute way.flags) _ _ tt (onwards way root_itself (todo [] (asked (follows way.goal) path.parts) LINKS_MAX))

-- where the first turn of a walk leads: with room for the walk and for the call, or without
abbrev Begun : Below → Aim → Reading → CallTurn → Type 0
Begun below aim path next = Either (call.walks below aim path) (call.ends (call.fault NoMemory)) next

begun_by : (below : Below) (aim : Aim) (path : Reading) (begun : Turn) (room other : Bool) (next : CallTurn) → begins (way_of below aim) path ≡ begun → FindsNone begun → call.held_by aim ≡ []
    → next ≡ walked below other aim (for_walk room begun) → Begun below aim path next
begun_by below aim path (more walk) true other next e none empty by =
    (true, by ∙ ap (walked below true aim) (sym e))
begun_by below aim path (more walk) false other next e none empty by =
    (false, by ∙ ap (λ hs. call.gives_up hs NoMemory) empty)
begun_by below aim path (found handle names) room other next e none empty by = absurd none
begun_by below aim path (partial handle names rest) room other next e none empty by = absurd none
begun_by below aim path (failed error) true other next e none empty by = (true, by ∙ ap (walked below true aim) (sym e))
begun_by below aim path (failed error) false other next e none empty by = (true, by ∙ ap (walked below true aim) (sym e))

pub walks_by : (below : Below) (aim : Aim) (path : Reading) (goal : Goal) (outcome : Outcome) (next : CallTurn) → call.held_by aim ≡ [] → goal ≡ call.goal_of aim
    → walk.StartsTo (way_from below.root goal below.flags) path (walk.turn_view goal outcome)
    → (room : Bool) × (next ≡ walked below room aim (walk.turn_view (call.goal_of aim) outcome)) → Begun below aim path next
walks_by below aim path goal outcome next empty same started by =
    let begun = subst (λ (g : Goal). walk.StartsTo (way_from below.root g below.flags) path (walk.turn_view g outcome)) same started in
    begun_by below aim path (begins (way_of below aim) path) begun.0 by.0 next refl (first_turn (way_of below aim) path) empty
    (by.1 ∙ ap (walked below by.0 aim) begun.1)

-- a walk of the call's own, an answer to its step, and where it has come to by it
pub taken_by : (below : Below) (aim : Aim) (w : WalkView) (answer : Answer) (outcome : Outcome) (next : CallTurn) → w.way ≡ way_of below aim
    → walk.TakesTo w.way w.walking answer (walk.turn_view w.way.goal outcome)
    → (room : Bool) × (next ≡ walked below room aim (walk.turn_view (call.goal_of aim) outcome)) → TakesTo below (call.walking w.walking aim) answer next
taken_by below aim w answer outcome next same taken by =
    walked_by below aim w.walking answer (walk.turn_view (call.goal_of aim) outcome) next
    (subst (λ (way : Way). walk.TakesTo way w.walking answer (walk.turn_view way.goal outcome)) same taken) by
