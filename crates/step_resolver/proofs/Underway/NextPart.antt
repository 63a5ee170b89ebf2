-- From one step to the next: the parts that need none, and what comes after closings.
use Rattle.std.specs.Prelude.{◌≡◌, ℕ, List, [], ◌∷◌, ◌++◌, Bool, true, false, if◌then◌else◌, Option, Some, refl}
use Rattle.std.proofs.Common.{sym, ap, subst, ◌∙◌, le_refl, append-nil, inl, inr}
use Rattle.std.proofs.lemmas.Bool.{false≢true}
use Rattle.path_text.specs.declared.errno.Errno.{Errno}
use Rattle.path_text.specs.declared.errno.Errno.TheVariants.{NotDir, CrossRoot, TooLong}
use Rattle.path_text.specs.Text.{begins_with_slash}
use Rattle.tree_model.specs.declared.inode.Object.{Object}
use Rattle.tree_model.specs.declared.inode.Object.TheVariants.{Dir, File, Link}
use Rattle.tree_model.specs.State.{is_directory, Stands}
use Rattle.tree_model.specs.Steps.{kind_of}
use Rattle.step_resolver.specs.Asked.{AskedPart, Cur, Up, Named}
use Rattle.step_resolver.specs.Meaning.{is_too_long}
use Rattle.step_resolver.specs.Trail.{Timeline, Spot, Trail, all, before, stay, top, climb, down, through, into}
use Rattle.step_resolver.specs.Order.{Position, root_itself, holds, todo, After, gives, onward, judges, opening, Turn, more, handles_of, is_dir_position, is_dir_kind, gives_up, at_end, at_top, in_directory, on_part, on_own, on_parts, goes_on, comes, closes}
use Rattle.step_resolver.specs.Renamed.{walk_after_handles}
use Rattle.step_resolver.specs.WalkHistory.{WalkInHistory, timeline, start}
use Rattle.step_resolver.specs.Failures.{TellsError}
use Rattle.step_resolver.proofs.Underway.WalkInvariant.{Lived, HandlesAre, node_at, spot_at, IsPositionHeld, Going, GoesFor, stop_at, passed_on, AllApart, at_all, GoodAfter, Good}

pub names_not_empty : (n : List ℕ) (ns : List (List ℕ)) → n ∷ ns ≡ [] → ⊥
names_not_empty n ns e = cc e

text_start : (b : Bool) (s : Spot) (r : ℕ) → (s.names ≡ [] → s.node ≡ r) → (if b then [] else s.names) ≡ [] → (if b then r else s.node) ≡ r
text_start true s r start e = refl
text_start false s r start e = start e

-- a trail that passed no names in the end is at the root
pub at_the_root : (timeline : Timeline) {ps : List AskedPart} {s z : Spot} {next : Option AskedPart} → Trail timeline ps s z next
    → (s.names ≡ [] → s.node ≡ timeline.root) → z.names ≡ [] → z.node ≡ timeline.root
at_the_root timeline (all m l) start e = start e
at_the_root timeline (before m l) start e = start e
at_the_root timeline (stay dir t) start e = at_the_root timeline t start e
at_the_root timeline (top is t) start e = at_the_root timeline t start e
at_the_root timeline (climb t u x names is rest) start e =
    at_the_root timeline rest (λ q. subst (λ ns. Stands (timeline.nodes_at u) timeline.root x ns) q is.stands) e
at_the_root timeline {s = s} (down {n = n} t c is entered rest) start e = at_the_root timeline rest (λ q. absurd (names_not_empty n s.names q)) e
at_the_root timeline {s = s} (through t text b mid is sub rest) start e =
    at_the_root timeline rest (λ q. at_the_root timeline sub (text_start (begins_with_slash text) s timeline.root start) q) e
at_the_root timeline {s = s} (into t text b is sub) start e = at_the_root timeline sub (text_start (begins_with_slash text) s timeline.root start) e

pub all_apart : (ks : List ℕ) → AllApart ks []
all_apart [] = tt
all_apart (k ∷ ks) = (tt, all_apart ks)

pub no_directory : (what : Object) → is_dir_kind (kind_of what) ≡ false → is_directory (Some what) ≡ false
no_directory Dir e = e
no_directory File e = refl
no_directory (Link text) e = refl

pub a_directory : (what : Object) → is_dir_kind (kind_of what) ≡ true → is_directory (Some what) ≡ true
a_directory Dir e = refl
a_directory File e = e
a_directory (Link text) e = e

module _ {w : WalkInHistory} (lived : Lived w) where
  -- the walk gives up for an error that is true
  pub gave_up : {now : ℕ} (hs : List ℕ) (error : Errno) → TellsError w error → HandlesAre w now hs → Good w now (gives_up hs error)
  gave_up [] error told are = (told, are)
  gave_up {now} (h ∷ hs) error told are = record {
    comes = told;
    apart = (tt, all_apart hs);
    handles = subst (HandlesAre w now) (sym (append-nil (h ∷ hs))) are;
  }

  position_dir : (now : ℕ) (position : Position) → IsPositionHeld w now position → is_dir_position position ≡ true
      → is_directory ((timeline w).object_of (node_at w position)) ≡ true
  position_dir now root_itself held e = lived.root_is_dir
  position_dir now (holds handle names) held e = ap is_directory held.is_what ∙ a_directory held.what (ap is_dir_kind held.kind ∙ e)

  module _ (now : ℕ) (inner rest : List AskedPart) (b : ℕ) (turn : Turn) where
    -- a place that is no directory has no parts
    no_dir_good : (position : Position) (p : AskedPart) (own : Bool) → GoesFor w now own p position (todo inner rest b) → IsPositionHeld w now position
        → HandlesAre w now (handles_of position) → is_dir_position position ≡ false → Good w now (gives_up (handles_of position) NotDir)
    no_dir_good root_itself p own g held are e = absurd (false≢true (sym e))
    no_dir_good (holds handle names) p own g held are e = gave_up (handles_of (holds handle names)) NotDir (record {
      to = spot_at w (holds handle names) b now;
      next = p;
      stop = stop_at w own p (holds handle names) (todo inner rest b) g;
      what = held.what;
      is_what = held.is_what;
      no_dir = no_directory held.what (ap is_dir_kind held.kind ∙ e);
    }) are

    -- `..` where no names are passed
    top_good : (position : Position) (own : Bool) → GoesFor w now own Up position (todo inner rest b) → IsPositionHeld w now position
        → HandlesAre w now (handles_of position) → is_directory ((timeline w).object_of (node_at w position)) ≡ true
        → (spot_at w position b now).names ≡ [] → (Going w now position inner rest b → Good w now turn)
        → Good w now (at_top w.way position turn)
    top_good position own g held are dir none passed = on w.way.flags.beneath refl
      where
        at_root : node_at w position ≡ w.root
        at_root = at_the_root (timeline w) (stop_at w own Up position (todo inner rest b) g) (λ e. refl) none

        on : (t : Bool) → w.way.flags.beneath ≡ t → Good w now (at_top w.way position turn)
        on true e = subst (Good w now) (sym (ap (λ t. if t then gives_up (handles_of position) CrossRoot else turn) e))
            (gave_up (handles_of position) CrossRoot (record {
              beneath = e;
              why = inr (inl (record { to = spot_at w position b now; stop = stop_at w own Up position (todo inner rest b) g; node = at_root; names = none }));
            }) are)
        on false e = subst (Good w now) (sym (ap (λ t. if t then gives_up (handles_of position) CrossRoot else turn) e))
            (passed (passed_on own Up position inner rest b g position b now
            (λ ps z next t. top (record { dir = dir; root = at_root; names = none; absorbed = e }) t)))

    -- the next part of a directory
    in_directory_good : (position : Position) (p : AskedPart) (own : Bool) → GoesFor w now own p position (todo inner rest b) → IsPositionHeld w now position
        → HandlesAre w now (handles_of position) → is_directory ((timeline w).object_of (node_at w position)) ≡ true
        → (Going w now position inner rest b → Good w now turn)
        → Good w now (in_directory w.way position p own (todo inner rest b) turn)
    in_directory_good position Cur own g held are dir passed =
        passed (passed_on own Cur position inner rest b g position b now (λ ps z next t. stay dir t))
    in_directory_good root_itself Up own g held are dir passed = top_good root_itself own g held are dir refl passed
    in_directory_good (holds handle []) Up own g held are dir passed = top_good (holds handle []) own g held are dir refl passed
    in_directory_good (holds handle (n ∷ names)) Up own g held are dir passed =
        record { own = own; name = n; going = g; dir = dir; old_held = held; handles = are }
    in_directory_good position (Named follow n) own g held are dir passed = on (is_too_long n) refl
      where
        after : Bool → Turn
        after t = if t then gives_up (handles_of position) TooLong else more (opening position own follow n (todo inner rest b))

        on : (t : Bool) → is_too_long n ≡ t → Good w now (in_directory w.way position (Named follow n) own (todo inner rest b) turn)
        on true e = subst (Good w now) (sym (ap after e)) (gave_up (handles_of position) TooLong (record {
          to = spot_at w position b now;
          follow = follow;
          name = n;
          stop = stop_at w own (Named follow n) position (todo inner rest b) g;
          dir = dir;
          long = e;
        }) are)
        on false e = subst (Good w now) (sym (ap after e)) (record { going = g; dir = dir; short = e; position_held = held; handles = are })

    -- the next part: the step that is due for it, what is true where it can't be passed, or what comes after it
    pub part_good : (position : Position) (p : AskedPart) (own : Bool)
        → GoesFor w now own p position (todo inner rest b) → IsPositionHeld w now position → HandlesAre w now (handles_of position)
        → (Going w now position inner rest b → Good w now turn)
        → Good w now (on_part w.way position p own (todo inner rest b) turn)
    part_good position p own g held are passed = on (is_dir_position position) refl
      where
        after : Bool → Turn
        after t = if t then in_directory w.way position p own (todo inner rest b) turn else gives_up (handles_of position) NotDir

        on : (t : Bool) → is_dir_position position ≡ t → Good w now (on_part w.way position p own (todo inner rest b) turn)
        on true e = subst (Good w now) (sym (ap after e)) (in_directory_good position p own g held are (position_dir now position held e) passed)
        on false e = subst (Good w now) (sym (ap after e)) (no_dir_good position p own g held are e)

  end_good : (now : ℕ) (position : Position) (b : ℕ) → Going w now position [] [] b → IsPositionHeld w now position → HandlesAre w now (handles_of position)
      → Good w now (at_end position [])
  end_good now root_itself b g held are =
      record { links = b; m = now; going = g; past = le_refl now; ends = at_all refl; position_held = tt; handles = are }
  end_good now (holds handle names) b g held are =
      record { links = b; m = now; going = g; past = le_refl now; ends = at_all refl; position_held = held; handles = are }

  own_good : (now : ℕ) (position : Position) (own : List AskedPart) (b : ℕ) → Going w now position [] own b → IsPositionHeld w now position
      → HandlesAre w now (handles_of position) → Good w now (on_own w.way position own b)
  own_good now position [] b g held are = end_good now position b g held are
  own_good now position (p ∷ own) b g held are =
      part_good now [] own b (on_own w.way position own b) position p true (refl, g) held are (λ h. own_good now position own b h held are)

  parts_good : (now : ℕ) (position : Position) (inner own : List AskedPart) (b : ℕ) → Going w now position inner own b → IsPositionHeld w now position
      → HandlesAre w now (handles_of position) → Good w now (on_parts w.way position inner own b)
  parts_good now position [] own b g held are = own_good now position own b g held are
  parts_good now position (p ∷ inner) own b g held are =
      part_good now inner own b (on_parts w.way position inner own b) position p false g held are (λ h. parts_good now position inner own b h held are)

  -- from a place on
  pub goes_on_good : (now : ℕ) (position : Position) (inner own : List AskedPart) (b : ℕ) → Going w now position inner own b → IsPositionHeld w now position
      → HandlesAre w now (handles_of position) → Good w now (goes_on w.way position (todo inner own b))
  goes_on_good now position inner own b g held are = parts_good now position inner own b g held are

  comes_good : (now : ℕ) (after : After) → GoodAfter w now after → HandlesAre w now (walk_after_handles after)
      → Good w now (comes w.way after)
  comes_good now (gives error) good are = (good, are)
  comes_good now (onward position (todo inner own b)) good are = goes_on_good now position inner own b good.0 good.1 are
  comes_good now (judges handle names rest) good are = (good, are)

  -- closings, and what comes after them
  pub closes_good : (now : ℕ) (hs : List ℕ) (after : After) → GoodAfter w now after
      → AllApart hs (walk_after_handles after)
      → HandlesAre w now (hs ++ walk_after_handles after) → Good w now (closes w.way hs after)
  closes_good now [] after good apart are = comes_good now after good are
  closes_good now (h ∷ hs) after good apart are = record { comes = good; apart = apart; handles = are }
