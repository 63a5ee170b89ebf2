-- A walk looks at no handle's number: with its handles renamed it takes the renamed turn.
use Rattle.std.specs.Prelude.{◌≡◌, ℕ, zero, suc, ◌&&◌, List, [], ◌∷◌, Bool, true, false, reverse, Option, Some, None, if◌then◌else◌, refl}
use Rattle.std.proofs.Common.{ap}
use Rattle.path_text.specs.declared.errno.Errno.{Errno}
use Rattle.path_text.specs.declared.errno.Errno.TheVariants.{NotFound, NoMemory, CrossRoot, TooLong, Loop}
use Rattle.path_text.specs.Names.{same_names}
use Rattle.path_text.specs.Reading.{Reading}
use Rattle.path_text.specs.Text.{text_fault, parts_of, begins_with_slash}
use Rattle.tree_model.specs.declared.answer.Answer.{Answer}
use Rattle.tree_model.specs.declared.answer.Answer.TheVariants.{Opened, Text, Names}
use Rattle.walk_plan.specs.Plan.{leads_out}
use Rattle.step_resolver.specs.Asked.{AskedPart, Cur, Up, Named, followed, is_deepest, asked, follows}
use Rattle.step_resolver.specs.Meaning.{is_too_long, LINKS_MAX}
use Rattle.step_resolver.specs.Order.{Way, Handle, Position, root_itself, holds, Todo, todo, After, gives, onward, judges, Walking, opening, reading, rising, judging, duping, ending, closing, Turn, more, found, partial, failed, handles_of, is_dir_kind, is_followed, gives_up, at_end, at_top, in_directory, on_part, on_own, on_parts, goes_on, begins, for_walk, starts, comes, closes, refusal_of, with_room, follows_link, enters, opened, refused_open, from_link, read_text, end_of, judged, refused_rise, take, due}
use Rattle.root_ops.specs.Renumbered.{Numbering, numbers_by, step_by, answer_by, way_by, handle_by, position_by, walk_after_by, walking_by, walk_turn_by}

module _ (f : Numbering) where
  either_by : (b : Bool) (t u t' u' : Turn) → walk_turn_by f t ≡ t' → walk_turn_by f u ≡ u' → walk_turn_by f (if b then t else u) ≡ (if b then t' else u')
  either_by true t u t' u' e e' = e
  either_by false t u t' u' e e' = e'

  given_up : (hs : List ℕ) (error : Errno) → walk_turn_by f (gives_up hs error) ≡ gives_up (numbers_by f hs) error
  given_up [] error = refl
  given_up (h ∷ hs) error = refl

  leaves : (position : Position) (error : Errno) → walk_turn_by f (gives_up (handles_of position) error) ≡ gives_up (handles_of (position_by f position)) error
  leaves root_itself error = refl
  leaves (holds handle names) error = refl

  leaves_both : (h : ℕ) (position : Position) (error : Errno) → walk_turn_by f (gives_up (h ∷ handles_of position) error) ≡ gives_up (f.handle h ∷ handles_of (position_by f position)) error
  leaves_both h root_itself error = refl
  leaves_both h (holds handle names) error = refl

  at_end_by : (position : Position) (rest : List AskedPart) → walk_turn_by f (at_end position rest) ≡ at_end (position_by f position) rest
  at_end_by root_itself rest = refl
  at_end_by (holds handle names) rest = refl

  room_by : (room : Bool) (hs : List ℕ) (t t' : Turn) → walk_turn_by f t ≡ t' → walk_turn_by f (with_room room hs t) ≡ with_room room (numbers_by f hs) t'
  room_by true hs t t' e = e
  room_by false hs t t' e = given_up hs NoMemory

  for_walk_by : (room : Bool) (t t' : Turn) → walk_turn_by f t ≡ t' → walk_turn_by f (for_walk room t) ≡ for_walk room t'
  for_walk_by true t t' e = e
  for_walk_by false (more w) t' e = ap (for_walk false) e
  for_walk_by false (found handle names) t' e = ap (for_walk false) e
  for_walk_by false (partial handle names rest) t' e = ap (for_walk false) e
  for_walk_by false (failed error) t' e = ap (for_walk false) e

  module _ (way : Way) where
    at_top_by : (position : Position) (t t' : Turn) → walk_turn_by f t ≡ t' → walk_turn_by f (at_top way position t) ≡ at_top (way_by f way) (position_by f position) t'
    at_top_by position t t' e = either_by way.flags.beneath _ t _ t' (leaves position CrossRoot) e

    in_directory_by : (position : Position) (p : AskedPart) (own : Bool) (rest : Todo) (t t' : Turn) → walk_turn_by f t ≡ t'
        → walk_turn_by f (in_directory way position p own rest t) ≡ in_directory (way_by f way) (position_by f position) p own rest t'
    in_directory_by position Cur own rest t t' e = e
    in_directory_by root_itself Up own rest t t' e = at_top_by root_itself t t' e
    in_directory_by (holds handle []) Up own rest t t' e = at_top_by (holds handle []) t t' e
    in_directory_by (holds handle (n ∷ names)) Up own rest t t' e = refl
    in_directory_by position (Named follow n) own rest t t' e = either_by (is_too_long n) _ _ _ _ (leaves position TooLong) refl

    on_part_by : (position : Position) (p : AskedPart) (own : Bool) (rest : Todo) (t t' : Turn) → walk_turn_by f t ≡ t'
        → walk_turn_by f (on_part way position p own rest t) ≡ on_part (way_by f way) (position_by f position) p own rest t'
    on_part_by root_itself p own rest t t' e = in_directory_by root_itself p own rest t t' e
    on_part_by (holds handle names) p own rest t t' e =
        either_by (is_dir_kind handle.kind) _ _ _ _ (in_directory_by (holds handle names) p own rest t t' e) refl

    on_own_by : (position : Position) (own : List AskedPart) (b : ℕ) → walk_turn_by f (on_own way position own b) ≡ on_own (way_by f way) (position_by f position) own b
    on_own_by position [] b = at_end_by position []
    on_own_by position (p ∷ own) b = on_part_by position p true (todo [] own b) _ _ (on_own_by position own b)

    on_parts_by : (position : Position) (inner own : List AskedPart) (b : ℕ)
        → walk_turn_by f (on_parts way position inner own b) ≡ on_parts (way_by f way) (position_by f position) inner own b
    on_parts_by position [] own b = on_own_by position own b
    on_parts_by position (p ∷ inner) own b = on_part_by position p false (todo inner own b) _ _ (on_parts_by position inner own b)

    goes_on_by : (position : Position) (rest : Todo) → walk_turn_by f (goes_on way position rest) ≡ goes_on (way_by f way) (position_by f position) rest
    goes_on_by position (todo inner own b) = on_parts_by position inner own b

    pub begins_by : (path : Reading) → walk_turn_by f (begins way path) ≡ begins (way_by f way) path
    begins_by path =
        either_by (leads_out path.absolute way.flags) _ _ _ _ refl (goes_on_by root_itself (todo [] (asked (follows way.goal) path.parts) LINKS_MAX))

    pub starts_by : (room : Bool) (path : Reading) → walk_turn_by f (starts way room path) ≡ starts (way_by f way) room path
    starts_by room path = for_walk_by room _ _ (begins_by path)

    comes_by : (after : After) → walk_turn_by f (comes way after) ≡ comes (way_by f way) (walk_after_by f after)
    comes_by (gives error) = refl
    comes_by (onward position rest) = goes_on_by position rest
    comes_by (judges handle names rest) = refl

    closes_by : (hs : List ℕ) (after : After) → walk_turn_by f (closes way hs after) ≡ closes (way_by f way) (numbers_by f hs) (walk_after_by f after)
    closes_by [] after = comes_by after
    closes_by (h ∷ hs) after = refl

    -- ---- each answer

    follows_link_by : (position : Position) (link : Handle) (rest : Todo)
        → walk_turn_by f (follows_link way position link rest) ≡ follows_link (way_by f way) (position_by f position) (handle_by f link) rest
    follows_link_by position link (todo inner own zero) = leaves_both link.number position Loop
    follows_link_by position link (todo inner own (suc b)) = either_by way.flags.no_links _ _ _ _ (leaves_both link.number position Loop) refl

    enters_by : (room : Bool) (position : Position) (n : List ℕ) (new : Handle) (rest : Todo)
        → walk_turn_by f (enters way room position n new rest) ≡ enters (way_by f way) room (position_by f position) n (handle_by f new) rest
    enters_by room root_itself n new rest = room_by room (new.number ∷ []) _ _ (goes_on_by (holds new (n ∷ [])) rest)
    enters_by room (holds handle names) n new rest = room_by room (new.number ∷ handle.number ∷ []) _ _ refl

    opened_by : (room : Bool) (position : Position) (follow : Bool) (n : List ℕ) (new : Handle) (rest : Todo)
        → walk_turn_by f (opened way room position follow n new rest) ≡ opened (way_by f way) room (position_by f position) follow n (handle_by f new) rest
    opened_by room position follow n new rest =
        either_by (is_followed follow new.kind) _ _ _ _ (follows_link_by position new rest) (enters_by room position n new rest)

    refused_open_by : (position : Position) (own follow : Bool) (n : List ℕ) (rest : Todo) (error : Errno)
        → walk_turn_by f (refused_open way position own follow n rest error) ≡ refused_open (way_by f way) (position_by f position) own follow n rest error
    refused_open_by position own follow n (todo inner rest b) NotFound =
        either_by (is_deepest way.goal && own) _ _ _ _ (at_end_by position (Named follow n ∷ rest)) (leaves position NotFound)
    refused_open_by position own follow n (todo inner rest b) error = leaves position error

    from_link_by : (room : Bool) (position : Position) (link : Handle) (absolute : Bool) (parts : List AskedPart) (rest : Todo)
        → walk_turn_by f (from_link way room position link absolute parts rest) ≡ from_link (way_by f way) room (position_by f position) (handle_by f link) absolute parts rest
    from_link_by room root_itself link true parts (todo inner own b) = room_by room (link.number ∷ []) _ _ refl
    from_link_by room (holds handle names) link true parts (todo inner own b) = room_by room (link.number ∷ handle.number ∷ []) _ _ refl
    from_link_by room root_itself link false parts (todo inner own b) = room_by room (link.number ∷ []) _ _ refl
    from_link_by room (holds handle names) link false parts (todo inner own b) = room_by room (link.number ∷ handle.number ∷ []) _ _ refl

    read_text_by : (room : Bool) (position : Position) (link : Handle) (rest : Todo) (text : List ℕ) (fault : Option Errno)
        → walk_turn_by f (read_text way room position link rest text fault) ≡ read_text (way_by f way) room (position_by f position) (handle_by f link) rest text fault
    read_text_by room position link rest text (Some fault) = leaves_both link.number position fault
    read_text_by room position link rest text None =
        either_by (leads_out (begins_with_slash text) way.flags) _ _ _ _ (leaves_both link.number position CrossRoot)
        (from_link_by room position link (begins_with_slash text) (followed (parts_of text)) rest)

    end_of_by : (handle : Handle) (names : List (List ℕ)) (rest : List AskedPart) → walk_turn_by f (end_of handle names rest) ≡ end_of (handle_by f handle) names rest
    end_of_by handle names [] = refl
    end_of_by handle names (p ∷ rest) = refl

    judged_by : (handle : Handle) (names told : List (List ℕ)) (t t' : Turn) → walk_turn_by f t ≡ t'
        → walk_turn_by f (judged handle names told t) ≡ judged (handle_by f handle) names told t'
    judged_by handle names told t t' e = either_by (same_names told (reverse names)) t _ t' _ e refl

    refused_rise_by : (handle : Handle) (error : Errno) → walk_turn_by f (refused_rise handle error) ≡ refused_rise (handle_by f handle) error
    refused_rise_by handle NotFound = refl
    refused_rise_by handle error = refl

    pub take_by : (room : Bool) (w : Walking) (answer : Answer)
        → walk_turn_by f (take way room w answer) ≡ take (way_by f way) room (walking_by f w) (answer_by f answer)
    take_by room (opening position own follow n rest) (Opened h x kind) = opened_by room position follow n (record { number = h; node = x; kind = kind }) rest
    take_by room (opening position own follow n rest) answer = refused_open_by position own follow n rest (refusal_of answer)
    take_by room (reading position link rest) (Text text) = read_text_by room position link rest text (text_fault text)
    take_by room (reading position link rest) answer = leaves_both link.number position (refusal_of answer)
    take_by room (rising old names rest) (Opened h x kind) = refl
    take_by room (rising old names rest) answer = refused_rise_by old (refusal_of answer)
    take_by room (judging new names rest) (Names told) = judged_by new names told _ _ (goes_on_by (holds new names) rest)
    take_by room (judging new names rest) answer = refl
    take_by room (duping rest) answer = dup answer
      where
        dup : (answer : Answer) → walk_turn_by f (take way room (duping rest) answer) ≡ take (way_by f way) room (duping rest) (answer_by f answer)
        dup (Opened h x kind) = refl
        dup answer = refl
    take_by room (ending handle names rest) (Names told) = judged_by handle names told _ _ (end_of_by handle names rest)
    take_by room (ending handle names rest) answer = refl
    take_by room (closing h hs after) answer = closes_by hs after

    pub due_by : (w : Walking) → step_by f (due way w) ≡ due (way_by f way) (walking_by f w)
    due_by (opening root_itself own follow n rest) = refl
    due_by (opening (holds handle names) own follow n rest) = refl
    due_by (reading position link rest) = refl
    due_by (rising handle names rest) = refl
    due_by (judging handle names rest) = refl
    due_by (duping rest) = refl
    due_by (ending handle names rest) = refl
    due_by (closing h hs after) = refl
