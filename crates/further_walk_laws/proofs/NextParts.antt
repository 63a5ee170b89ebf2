-- From one step to the next: what is passed of the parts that need none, and after closings.
use Rattle.std.specs.Prelude.{◌≡◌, ℕ, ◌+◌, ◌≤◌, List, [], ◌∷◌, Bool, true, false, if◌then◌else◌, length, Some, None, refl}
use Rattle.std.proofs.Common.{sym, ap, ◌∙◌, le_refl, inl, inr, arith}
use Rattle.std.proofs.lemmas.Bool.{false≢true}
use Rattle.path_text.specs.declared.errno.Errno.{Errno}
use Rattle.path_text.specs.declared.errno.Errno.TheVariants.{NotDir, CrossRoot, TooLong}
use Rattle.tree_model.specs.State.{is_directory}
use Rattle.step_resolver.specs.Asked.{AskedPart, Cur, Up, Named}
use Rattle.step_resolver.specs.Meaning.{is_too_long}
use Rattle.step_resolver.specs.Trail.{all, before, stay, top}
use Rattle.step_resolver.specs.Order.{Position, root_itself, holds, todo, onward, opening, Turn, more, failed, names_of, handles_of, is_dir_position, is_dir_kind, gives_up, at_end, at_top, in_directory, on_part, on_own, on_parts, goes_on, closes}
use Rattle.step_resolver.specs.WalkHistory.{WalkInHistory, timeline}
use Rattle.step_resolver.proofs.WalkSteps.{one_handle}
use Rattle.step_resolver.proofs.Underway.WalkInvariant.{Lived, IsPositionHeld, node_at, spot_at, Going, GoesFor, at_all}
use Rattle.step_resolver.proofs.Underway.NextPart.{at_the_root, no_directory, a_directory}
use Rattle.further_walk_laws.proofs.Passing.{TellsOf, tells_whole, Ahead, AheadFor, AheadAt, passed_alone, paid_by, stopped_for, given_up}

-- where no names are passed, the place is the root
abbrev pub IsRooted : WalkInHistory → Position → Type 0
IsRooted w position = names_of position ≡ [] → node_at w position ≡ w.root

-- so it is wherever parts were passed from the root on
pub rooted : {w : WalkInHistory} {m b : ℕ} (position : Position) (inner : List AskedPart) {own : List AskedPart}
    → Going w m position inner own b → IsRooted w position
rooted {w} {m} {b} position [] going none =
    at_the_root (timeline w) (going.reaches (spot_at w position b m) None (all m (le_refl m))) (λ e. refl) none
rooted {w} {m} {b} position (p ∷ inner) going none =
    at_the_root (timeline w) (going.reaches (spot_at w position b m) (Some p) (before m (le_refl m))) (λ e. refl) none

-- before a part of the caller's own no parts of links' texts are left
pub alone_for : (w : WalkInHistory) (m b : ℕ) (own : Bool) (p : AskedPart) (position : Position)
    (inner rest : List AskedPart)
    → GoesFor w m own p position (todo inner rest b) → own ≡ true → inner ≡ []
alone_for w m b false p position inner rest going e = absurd (false≢true e)
alone_for w m b true p position inner rest going e = going.0

at_most_four : (n k : ℕ) → n ≤ k → k ≤ 1 → n ≤ 4
at_most_four n k le few = omega (arith, le, few)

pub position_dir : {w : WalkInHistory} → Lived w → (now : ℕ) (position : Position) → IsPositionHeld w now position
    → is_dir_position position ≡ true
    → is_directory ((timeline w).object_of (node_at w position)) ≡ true
position_dir lived now root_itself held e = lived.root_is_dir
position_dir lived now (holds handle names) held e = ap is_directory held.is_what
    ∙ a_directory held.what (ap is_dir_kind held.kind ∙ e)

module _ {w : WalkInHistory} (lived : Lived w) (end : Turn) (texts now n b m : ℕ) (past : m ≤ now) where
  module _ (inner rest : List AskedPart) (turn : Turn) where
    -- the walk gives up before the part, and closes what it holds
    none_passed : (position : Position) (own : Bool) (p : AskedPart) → (own ≡ true → inner ≡ []) → (error : Errno)
        → TellsOf w (failed error) [] (spot_at w position b m) (Some p)
        → AheadAt w end texts now (gives_up (handles_of position) error) n
        → AheadFor w end texts own p inner rest (spot_at w position b m) n 4
    none_passed position own p alone error told a =
        let fails = given_up w end texts now n (handles_of position) error a in
        stopped_for w end texts n 4 m own p inner rest (spot_at w position b m) alone (le_refl m)
        (at_most_four n (length (handles_of position)) fails.0 (one_handle position)) fails.2
        (fails.1 [] (spot_at w position b m) (Some p) told)

    -- `..` where no names are passed
    top_passed : (position : Position) (own : Bool) → (own ≡ true → inner ≡ []) → IsRooted w position
        → is_directory ((timeline w).object_of (node_at w position)) ≡ true
        → names_of position ≡ []
        → (AheadAt w end texts now turn n → Ahead w end texts inner rest (spot_at w position b m) n 4)
        → AheadAt w end texts now (at_top w.way position turn) n
        → AheadFor w end texts own Up inner rest (spot_at w position b m) n 4
    top_passed position own alone is_rooted dir none further ahead = on w.way.flags.beneath refl ahead
      where
        on : (x : Bool) → w.way.flags.beneath ≡ x
            → AheadAt w end texts now (if x then gives_up (handles_of position) CrossRoot else turn) n
            → AheadFor w end texts own Up inner rest (spot_at w position b m) n 4
        on true e a = none_passed position own Up alone CrossRoot
            (tells_whole w (failed CrossRoot) [] (spot_at w position b m) (Some Up) refl
            (λ stop few exact. inr
            (inl (record { to = spot_at w position b m; stop = stop; node = is_rooted none; names = none }, few))))
            a
        on false e a = passed_alone (spot_at w position b m) texts n 4 n 4 own Up inner rest alone (omega arith)
            (λ ps z next t. (top (record { dir = dir; root = is_rooted none; names = none; absorbed = e }) t, refl))
            (further a)

    -- the next part of a directory
    directory_passed : (position : Position) (p : AskedPart) (own : Bool) → (own ≡ true → inner ≡ [])
        → IsRooted w position
        → is_directory ((timeline w).object_of (node_at w position)) ≡ true
        → (AheadAt w end texts now turn n → Ahead w end texts inner rest (spot_at w position b m) n 4)
        → AheadAt w end texts now (in_directory w.way position p own (todo inner rest b) turn) n
        → AheadFor w end texts own p inner rest (spot_at w position b m) n 4
    directory_passed position Cur own alone is_rooted dir further ahead =
        passed_alone (spot_at w position b m) texts n 4 n 4 own Cur inner rest alone (omega arith)
        (λ ps z next t. (stay dir t, refl)) (further ahead)
    directory_passed root_itself Up own alone is_rooted dir further ahead =
        top_passed root_itself own alone is_rooted dir refl further ahead
    directory_passed (holds handle []) Up own alone is_rooted dir further ahead =
        top_passed (holds handle []) own alone is_rooted dir refl further ahead
    directory_passed (holds handle (name ∷ names)) Up own alone is_rooted dir further ahead =
        ahead own alone name m past
    directory_passed position (Named follow name) own alone is_rooted dir further ahead =
        on (is_too_long name) refl ahead
      where
        on : (x : Bool) → is_too_long name ≡ x
            → AheadAt w end texts now
            (if x then gives_up (handles_of position) TooLong else more
            (opening position own follow name (todo inner rest b))) n
            → AheadFor w end texts own (Named follow name) inner rest (spot_at w position b m) n 4
        on true e a = none_passed position own (Named follow name) alone TooLong
            (tells_whole w (failed TooLong) [] (spot_at w position b m) (Some (Named follow name)) refl
            (λ stop few exact. (
              record
                  { to = spot_at w position b m; follow = follow; name = name; stop = stop; dir = dir; long = e },
              few,
            )))
            a
        on false e a = a m past

    no_dir_told : (position : Position) (p : AskedPart) → IsPositionHeld w now position
        → is_dir_position position ≡ false
        → TellsOf w (failed NotDir) [] (spot_at w position b m) (Some p)
    no_dir_told root_itself p held e = absurd (false≢true (sym e))
    no_dir_told (holds handle names) p held e =
        tells_whole w (failed NotDir) [] (spot_at w (holds handle names) b m) (Some p) refl
        (λ stop few exact. (
          record {
            to = spot_at w (holds handle names) b m;
            next = p;
            stop = stop;
            what = held.what;
            is_what = held.is_what;
            no_dir = no_directory held.what (ap is_dir_kind held.kind ∙ e);
          },
          few,
        ))

    -- the next part
    part_passed : (position : Position) (p : AskedPart) (own : Bool) → (own ≡ true → inner ≡ []) → IsRooted w position
        → IsPositionHeld w now position
        → (AheadAt w end texts now turn n → Ahead w end texts inner rest (spot_at w position b m) n 4)
        → AheadAt w end texts now (on_part w.way position p own (todo inner rest b) turn) n
        → AheadFor w end texts own p inner rest (spot_at w position b m) n 4
    part_passed position p own alone is_rooted held further ahead = on (is_dir_position position) refl ahead
      where
        on : (x : Bool) → is_dir_position position ≡ x
            → AheadAt w end texts now
            (if x then in_directory w.way position p own (todo inner rest b) turn else gives_up
            (handles_of position) NotDir) n
            → AheadFor w end texts own p inner rest (spot_at w position b m) n 4
        on true e a = directory_passed position p own alone is_rooted (position_dir lived now position held e) further a
        on false e a = none_passed position own p alone NotDir (no_dir_told position p held e) a

  end_passed : (position : Position) → AheadAt w end texts now (at_end position []) n
      → Ahead w end texts [] [] (spot_at w position b m) n 4
  end_passed root_itself ahead = paid_by n 3 n 4 (omega arith) (ahead b m past (at_all refl))
  end_passed (holds handle names) ahead = paid_by n 2 n 4 (omega arith) (ahead b m past (at_all refl))

  own_passed : (position : Position) → IsRooted w position → IsPositionHeld w now position → (own : List AskedPart)
      → AheadAt w end texts now (on_own w.way position own b) n → Ahead w end texts [] own (spot_at w position b m) n 4
  own_passed position is_rooted held [] ahead = end_passed position ahead
  own_passed position is_rooted held (p ∷ own) ahead =
      part_passed [] own (on_own w.way position own b) position p true (λ e. refl) is_rooted held
      (λ a. own_passed position is_rooted held own a) ahead

  parts_passed : (position : Position) → IsRooted w position → IsPositionHeld w now position
      → (inner own : List AskedPart)
      → AheadAt w end texts now (on_parts w.way position inner own b) n
      → Ahead w end texts inner own (spot_at w position b m) n 4
  parts_passed position is_rooted held [] own ahead = own_passed position is_rooted held own ahead
  parts_passed position is_rooted held (p ∷ inner) own ahead =
      part_passed inner own (on_parts w.way position inner own b) position p false
      (λ e. absurd (false≢true e)) is_rooted held
      (λ a. parts_passed position is_rooted held inner own a) ahead

-- from a place on
pub goes_on_ahead : {w : WalkInHistory} → Lived w → (end : Turn) (texts now n : ℕ) (position : Position)
    → IsRooted w position → IsPositionHeld w now position
    → (inner own : List AskedPart) (b : ℕ) → AheadAt w end texts now (goes_on w.way position (todo inner own b)) n
    → (m : ℕ) → m ≤ now → Ahead w end texts inner own (spot_at w position b m) n 4
goes_on_ahead lived end texts now n position is_rooted held inner own b ahead m past =
    parts_passed lived end texts now n b m past position is_rooted held inner own ahead

-- after closings
pub closes_ahead : {w : WalkInHistory} → Lived w → (end : Turn) (texts now n : ℕ) (hs : List ℕ) (position : Position)
    → IsRooted w position → IsPositionHeld w now position
    → (inner own : List AskedPart) (b : ℕ)
    → AheadAt w end texts now (closes w.way hs (onward position (todo inner own b))) n
    → (m : ℕ) → m ≤ now → Ahead w end texts inner own (spot_at w position b m) n (length hs + 4)
closes_ahead lived end texts now n [] position is_rooted held inner own b ahead m past =
    paid_by n 4 n (0 + 4) (omega arith)
    (goes_on_ahead lived end texts now n position is_rooted held inner own b ahead m past)
closes_ahead lived end texts now n (h ∷ hs) position is_rooted held inner own b ahead m past = ahead m past
