-- How often a handle's number is among those that a walk holds: each step that opens one adds it, and each Close takes it off.
use Rattle.std.specs.Prelude.{◌≡◌, ℕ, zero, suc, ◌+◌, ◌&&◌, List, [], ◌∷◌, ◌++◌, Bool, true, false, if◌then◌else◌, reverse, Option, Some, None, refl}
use Rattle.std.proofs.Common.{arith}
use Rattle.path_text.specs.declared.errno.Errno.{Errno}
use Rattle.path_text.specs.declared.errno.Errno.TheVariants.{NotFound, Raced, NoMemory, CrossRoot, NotDir, TooLong, Loop}
use Rattle.path_text.specs.Names.{same_names}
use Rattle.path_text.specs.Reading.{Reading}
use Rattle.path_text.specs.Text.{text_fault, parts_of, begins_with_slash}
use Rattle.tree_model.specs.declared.answer.Answer.{Answer}
use Rattle.tree_model.specs.declared.answer.Answer.TheVariants.{Opened, Text, Names, NotBelow}
use Rattle.step_resolver.specs.Asked.{AskedPart, Cur, Up, Named, asked, followed, is_deepest}
use Rattle.walk_plan.specs.Plan.{follows, leads_out}
use Rattle.step_resolver.specs.Meaning.{LINKS_MAX, is_too_long}
use Rattle.step_resolver.specs.Order.{Way, Handle, Position, root_itself, holds, Todo, todo, After, gives, onward, judges, Walking, opening, reading, rising, judging, duping, ending, closing, Turn, more, found, partial, failed, names_of, handles_of, is_dir_position, is_followed, at_end, in_directory, on_part, on_own, on_parts, goes_on, begins, for_walk, starts, comes, closes, refusal_of, with_room, follows_link, enters, opened, refused_open, from_link, read_text, end_of, judged, refused_rise, take, due}
use Rattle.step_resolver.specs.Order as walk
use Rattle.root_ops.specs.OwnHandles.{Fits, times, opened_by, closed_by}
use Rattle.root_ops.specs.Renamed.{walk_after_handles, walking_handles}

-- what a turn of a walk holds
abbrev pub walk_holds : Turn → List ℕ
walk_holds (more w) = walking_handles w
walk_holds (found handle names) = handle.number ∷ []
walk_holds (partial handle names rest) = handle.number ∷ []
walk_holds (failed error) = []

module _ (h : ℕ) where
  pub times-append : (xs ys : List ℕ) → times h (xs ++ ys) ≡ times h xs + times h ys
  times-append [] ys = omega arith
  times-append (x ∷ xs) ys = let rest = times-append xs ys in omega (arith, rest)

  -- so often is it among what the turn holds
  abbrev pub Holds : Turn → ℕ → Type 0
  Holds turn n = times h (walk_holds turn) ≡ n

  either : (b : Bool) (t u : Turn) (n : ℕ) → Holds t n → Holds u n → Holds (if b then t else u) n
  either true t u n p q = p
  either false t u n p q = q

  given_up : (hs : List ℕ) (error : Errno) → Holds (walk.gives_up hs error) (times h hs)
  given_up [] error = refl
  given_up (k ∷ hs) error = let rest = times-append hs [] in omega (arith, rest)

  at_end_holds : (position : Position) (rest : List AskedPart) → Holds (at_end position rest) (times h (handles_of position))
  at_end_holds root_itself rest = refl
  at_end_holds (holds handle names) rest = refl

  module _ (way : Way) where
    in_directory_holds : (position : Position) (p : AskedPart) (own : Bool) (rest : Todo) (passed : Turn) → Holds passed (times h (handles_of position))
        → Holds (in_directory way position p own rest passed) (times h (handles_of position))
    in_directory_holds position Cur own rest passed e = e
    in_directory_holds root_itself Up own rest passed e = either way.flags.beneath _ passed _ (given_up [] CrossRoot) e
    in_directory_holds (holds handle []) Up own rest passed e = either way.flags.beneath _ passed _ (given_up (handle.number ∷ []) CrossRoot) e
    in_directory_holds (holds handle (n ∷ names)) Up own rest passed e = refl
    in_directory_holds position (Named follow n) own rest passed e = either (is_too_long n) _ _ _ (given_up (handles_of position) TooLong) refl

    on_part_holds : (position : Position) (p : AskedPart) (own : Bool) (rest : Todo) (passed : Turn) → Holds passed (times h (handles_of position))
        → Holds (on_part way position p own rest passed) (times h (handles_of position))
    on_part_holds position p own rest passed e =
        either (is_dir_position position) _ _ _ (in_directory_holds position p own rest passed e) (given_up (handles_of position) NotDir)

    on_own_holds : (position : Position) (own : List AskedPart) (b : ℕ) → Holds (on_own way position own b) (times h (handles_of position))
    on_own_holds position [] b = at_end_holds position []
    on_own_holds position (p ∷ own) b = on_part_holds position p true (todo [] own b) (on_own way position own b) (on_own_holds position own b)

    on_parts_holds : (position : Position) (inner own : List AskedPart) (b : ℕ) → Holds (on_parts way position inner own b) (times h (handles_of position))
    on_parts_holds position [] own b = on_own_holds position own b
    on_parts_holds position (p ∷ inner) own b =
        on_part_holds position p false (todo inner own b) (on_parts way position inner own b) (on_parts_holds position inner own b)

    goes_on_holds : (position : Position) (rest : Todo) → Holds (goes_on way position rest) (times h (handles_of position))
    goes_on_holds position (todo inner own b) = on_parts_holds position inner own b

    pub begins_holds : (path : Reading) → Holds (begins way path) 0
    begins_holds path = either (leads_out path.absolute way.flags) _ _ _ refl (goes_on_holds root_itself (todo [] (asked (follows way.goal) path.parts) LINKS_MAX))

    for_walk_holds : (room : Bool) (turn : Turn) → Holds turn 0 → Holds (for_walk room turn) 0
    for_walk_holds true turn e = e
    for_walk_holds false (more w) e = refl
    for_walk_holds false (found handle names) e = e
    for_walk_holds false (partial handle names rest) e = e
    for_walk_holds false (failed error) e = e

    pub starts_holds : (room : Bool) (path : Reading) → Holds (starts way room path) 0
    starts_holds room path = for_walk_holds room (begins way path) (begins_holds path)

    comes_holds : (after : After) → Holds (comes way after) (times h (walk_after_handles after))
    comes_holds (gives error) = refl
    comes_holds (onward position rest) = goes_on_holds position rest
    comes_holds (judges handle names rest) = refl

    closes_holds : (hs : List ℕ) (after : After) → Holds (closes way hs after) (times h hs + times h (walk_after_handles after))
    closes_holds [] after = let come = comes_holds after in omega (arith, come)
    closes_holds (k ∷ hs) after = let rest = times-append hs (walk_after_handles after) in omega (arith, rest)

    with_room_holds : (room : Bool) (hs : List ℕ) (turn : Turn) → Holds turn (times h hs) → Holds (with_room room hs turn) (times h hs)
    with_room_holds true hs turn e = e
    with_room_holds false hs turn e = given_up hs NoMemory

    follows_link_holds : (position : Position) (link : Handle) (rest : Todo) → Holds (follows_link way position link rest) (times h (link.number ∷ handles_of position))
    follows_link_holds position link (todo inner own zero) = given_up (link.number ∷ handles_of position) Loop
    follows_link_holds position link (todo inner own (suc b)) =
        let both = times-append (handles_of position) (link.number ∷ []) in
        let held : Holds (more (reading position link (todo inner own b))) (times h (link.number ∷ handles_of position)) = omega (arith, both) in
        either way.flags.no_links _ (more (reading position link (todo inner own b))) _ (given_up (link.number ∷ handles_of position) Loop) held

    enters_holds : (room : Bool) (position : Position) (n : List ℕ) (new : Handle) (rest : Todo)
        → Holds (enters way room position n new rest) (times h (new.number ∷ handles_of position))
    enters_holds room position n new rest =
        let closing_them = closes_holds (handles_of position) (onward (holds new (n ∷ names_of position)) rest) in
        with_room_holds room (new.number ∷ handles_of position) _ (omega (arith, closing_them))

    opened_holds : (room : Bool) (position : Position) (follow : Bool) (n : List ℕ) (new : Handle) (rest : Todo)
        → Holds (opened way room position follow n new rest) (times h (new.number ∷ handles_of position))
    opened_holds room position follow n new rest =
        either (is_followed follow new.kind) _ _ _ (follows_link_holds position new rest) (enters_holds room position n new rest)

    refused_open_holds : (position : Position) (own follow : Bool) (n : List ℕ) (rest : Todo) (error : Errno)
        → Holds (refused_open way position own follow n rest error) (times h (handles_of position))
    refused_open_holds position own follow n (todo inner rest b) NotFound =
        either (is_deepest way.goal && own) _ _ _ (at_end_holds position (Named follow n ∷ rest)) (given_up (handles_of position) NotFound)
    refused_open_holds position own follow n rest error = given_up (handles_of position) error

    from_link_holds : (room : Bool) (position : Position) (link : Handle) (absolute : Bool) (parts : List AskedPart) (rest : Todo)
        → Holds (from_link way room position link absolute parts rest) (times h (link.number ∷ handles_of position))
    from_link_holds room position link true parts (todo inner own b) =
        let closing_them = closes_holds (link.number ∷ handles_of position) (onward root_itself (todo (parts ++ inner) own b)) in
        with_room_holds room (link.number ∷ handles_of position) _ (omega (arith, closing_them))
    from_link_holds room position link false parts (todo inner own b) =
        let closing_it = closes_holds (link.number ∷ []) (onward position (todo (parts ++ inner) own b)) in
        with_room_holds room (link.number ∷ handles_of position) _ (omega (arith, closing_it))

    read_text_holds : (room : Bool) (position : Position) (link : Handle) (rest : Todo) (text : List ℕ) (fault : Option Errno)
        → Holds (read_text way room position link rest text fault) (times h (link.number ∷ handles_of position))
    read_text_holds room position link rest text (Some fault) = given_up (link.number ∷ handles_of position) fault
    read_text_holds room position link rest text None =
        either (leads_out (begins_with_slash text) way.flags) _ _ _ (given_up (link.number ∷ handles_of position) CrossRoot)
        (from_link_holds room position link (begins_with_slash text) (followed (parts_of text)) rest)

    judged_holds : (handle : Handle) (names told : List (List ℕ)) (stands : Turn) → Holds stands (times h (handle.number ∷ []))
        → Holds (judged handle names told stands) (times h (handle.number ∷ []))
    judged_holds handle names told stands e = either (same_names told (reverse names)) stands _ _ e (given_up (handle.number ∷ []) Raced)

    refused_rise_holds : (handle : Handle) (error : Errno) → Holds (refused_rise handle error) (times h (handle.number ∷ []))
    refused_rise_holds handle NotFound = given_up (handle.number ∷ []) Raced
    refused_rise_holds handle error = given_up (handle.number ∷ []) error

    end_holds : (handle : Handle) (names : List (List ℕ)) (rest : List AskedPart) → Holds (end_of handle names rest) (times h (handle.number ∷ []))
    end_holds handle names [] = refl
    end_holds handle names (p ∷ rest) = refl

    -- ---- each answer

    -- what it holds then and what the step closed is what it held and what the answer opened
    abbrev Kept : Bool → Walking → Answer → Type 0
    Kept room w answer = times h (walk_holds (take way room w answer)) + times h (closed_by (due way w)) ≡ times h (walking_handles w) + times h (opened_by answer)

    pub walk_keeps : (room : Bool) (w : Walking) (answer : Answer) → Fits (due way w) answer → Kept room w answer
    walk_keeps room (opening position own follow n rest) (Opened k x kind) fits =
        let held = opened_holds room position follow n (record { number = k; node = x; kind = kind }) rest in omega (arith, held)
    walk_keeps room (opening position own follow n rest) answer fits =
        let held = refused_open_holds position own follow n rest (refusal_of answer) in omega (arith, held)
    walk_keeps room (reading position link rest) (Opened k x kind) fits = cc (fits)
    walk_keeps room (reading position link rest) (Text text) fits =
        let held = read_text_holds room position link rest text (text_fault text) in
        let both = times-append (handles_of position) (link.number ∷ []) in
        omega (arith, held, both)
    walk_keeps room (reading position link rest) answer fits =
        let held = given_up (link.number ∷ handles_of position) (refusal_of answer) in
        let both = times-append (handles_of position) (link.number ∷ []) in
        omega (arith, held, both)
    walk_keeps room (rising old names rest) (Opened k x kind) fits =
        let held = closes_holds (old.number ∷ []) (judges (record { number = k; node = x; kind = kind }) names rest) in omega (arith, held)
    walk_keeps room (rising old names rest) answer fits = let held = refused_rise_holds old (refusal_of answer) in omega (arith, held)
    walk_keeps room (judging new names rest) (Opened k x kind) fits = cc (fits)
    walk_keeps room (judging new names rest) (Names told) fits =
        let held = judged_holds new names told (goes_on way (holds new names) rest) (goes_on_holds (holds new names) rest) in omega (arith, held)
    walk_keeps room (judging new names rest) NotBelow fits = let held = given_up (new.number ∷ []) Raced in omega (arith, held)
    walk_keeps room (judging new names rest) answer fits = let held = given_up (new.number ∷ []) (refusal_of answer) in omega (arith, held)
    walk_keeps room (duping rest) (Opened k x kind) fits = omega arith
    walk_keeps room (duping rest) answer fits = refl
    walk_keeps room (ending handle names rest) (Opened k x kind) fits = cc (fits)
    walk_keeps room (ending handle names rest) (Names told) fits =
        let held = judged_holds handle names told (end_of handle names rest) (end_holds handle names rest) in omega (arith, held)
    walk_keeps room (ending handle names rest) NotBelow fits = let held = given_up (handle.number ∷ []) Raced in omega (arith, held)
    walk_keeps room (ending handle names rest) answer fits = let held = given_up (handle.number ∷ []) (refusal_of answer) in omega (arith, held)
    walk_keeps room (closing k hs after) (Opened j x kind) fits = cc (fits)
    walk_keeps room (closing k hs after) answer fits =
        let held = closes_holds hs after in
        let both = times-append hs (walk_after_handles after) in
        omega (arith, held, both)
