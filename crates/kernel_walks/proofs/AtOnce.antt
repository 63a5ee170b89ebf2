-- A resolve one of whose names is missing is led, line by line, to its fault.
use Rattle.std.proofs.Common.{◌≡◌, ℕ, Bool, true, false, not, ◌==◌, ◌&&◌, ◌||◌, nat_lt, length, get_or, List, [], ◌∷◌, ◌++◌, map, cond, refl, sym, ap, ◌∙◌, subst}
use Rattle.std.specs.Prelude.{if◌then◌else◌, is_none, Option, Some, None}
use Rattle.std.specs.List.{list_all, onto_first}
use Rattle.std.proofs.lemmas.Bool.{eqb-true, not-true}
use Rattle.std.proofs.lemmas.List.Sums.{AllPass-from_list_all}
use Rattle.std.proofs.lemmas.Option.{same_Some}
use Rattle.std.specs.Cmp.Lexicographic.{bytes_decides}
use Rattle.path_text.specs.declared.errno.Errno.{Errno}
use Rattle.path_text.specs.declared.errno.Errno.TheVariants.{Invalid, NotDir, TooLong, CrossRoot, NotFound}
use Rattle.path_text.specs.declared.name.TheConstants.{SLASH, NAME_MAX}
use Rattle.path_text.specs.declared.part.Part.TheVariants as part
use Rattle.path_text.specs.Name.{same_bytes, is_component, name_fault, is_name}
use Rattle.path_text.specs.Print.{after_slashes, printed, names_read}
use Rattle.path_text.specs.Text.{between_slashes, parts_of, text_fault, reading_of, begins_with_slash}
use Rattle.path_text.specs.Reading.{Reading}
use Rattle.path_text.proofs.PrintLemmas.{printed_read}
use Rattle.path_text.proofs.TextLemmas.{and_true}
use Rattle.tree_model.specs.declared.answer.Answer.TheVariants.{Refused}
use Rattle.tree_model.specs.declared.step.Kind.TheVariants.{Dir}
use Rattle.tree_model.specs.declared.step.StepOf.TheVariants.{Open}
use Rattle.walk_plan.specs.declared.goal.Goal.{Goal}
use Rattle.walk_plan.specs.Plan.{follows, leads_out}
use Rattle.step_resolver.specs.Asked.{AskedPart, Named, asked, is_deepest}
use Rattle.step_resolver.specs.Meaning.{LINKS_MAX, is_too_long}
use Rattle.step_resolver.specs.Order.{Way, Handle, Position, root_itself, holds, names_of, handles_of, handle_at, is_dir_position, is_followed, Line, answered, todo, opening, at_end, on_own}
use Rattle.step_resolver.specs.Order as walk
use Rattle.step_resolver.specs.View.{way_from}
use Rattle.root_ops.specs.declared.aim.Aim.TheVariants.{Opens}
use Rattle.root_ops.specs.declared.below.Below.{Below}
use Rattle.root_ops.specs.declared.op.Op.{Op}
use Rattle.root_ops.specs.declared.op.Op.TheVariants.{Resolve, ResolveNoFollow}
use Rattle.root_ops.specs.EachCall.{EachCallTells}
use Rattle.root_ops.specs.Order.{CallTurn, ends, fault, walked, on_path, unless_fault, starts, LeadsTo}
use Rattle.root_ops.specs.declared.reply.Reply.TheVariants.{Fault}
use Rattle.root_ops.specs.CallHistory.{RepliesWith}
use Rattle.kernel_walks.specs.AtOnce.{Passed, opens, closes, has_names, misses_at_once, spells_place, lines_missing, lines_missing_from, names_to, FailsAtOnceTell}
use Rattle.kernel_walks.specs.Resolves.{IsResolve}
use Rattle.kernel_walks.proofs.Resolves.{starts_so}

-- ---- a place's names

reprinted_more : (t : Bool) (b : ℕ) (bs : List ℕ) (ps : List (List ℕ)) → (b == SLASH) ≡ t
    → after_slashes ps ≡ SLASH ∷ bs
    → after_slashes (cond t ([] ∷ ps) (onto_first b ps)) ≡ SLASH ∷ b ∷ bs
reprinted_more true b bs ps e h = ap (λ cs. SLASH ∷ cs) (h ∙ ap (λ c. c ∷ bs) (sym (eqb-true b SLASH e)))
reprinted_more false b bs [] e h = cc (h)
reprinted_more false b bs (p ∷ ps) e h = cc (h)

-- what stands between slashes, with a slash before each
pub reprinted : (text : List ℕ) → after_slashes (between_slashes text) ≡ SLASH ∷ text
reprinted [] = refl
reprinted (b ∷ bs) = reprinted_more (b == SLASH) b bs (between_slashes bs) refl (reprinted bs)

some_of : (t u : Bool) (ps names : List (List ℕ)) → (if t then (if u then Some ps else None) else None) ≡ Some names
    → (t ≡ true) × (u ≡ true) × (ps ≡ names)
some_of true true ps names h = (refl, refl, same_Some ps names h)
some_of true false ps names h = cc (h)
some_of false u ps names h = cc (h)

no_names : (t : Bool) → has_names (if t then Some [] else None) ≡ true → ⊥
no_names true h = cc (h)
no_names false h = cc (h)

-- a slash, and names between slashes
pub record IsPlace (place : List ℕ) (names : List (List ℕ)) : Type 0 where
  pub first : ℕ
  pub text : List ℕ
  pub is : place ≡ SLASH ∷ first ∷ text
  pub pieces : between_slashes (first ∷ text) ≡ names
  pub valid : list_all is_name names ≡ true

pub placed : (place : List ℕ) (names : List (List ℕ)) → has_names (names_read place) ≡ true
    → names_read place ≡ Some names → IsPlace place names
placed [] names some is = cc (some)
placed (b ∷ []) names some is = absurd (no_names (b == SLASH) some)
placed (b ∷ c ∷ text) names some is =
    let all = some_of (b == SLASH) (list_all is_name (between_slashes (c ∷ text)))
    (between_slashes (c ∷ text)) names is in
    record {
      first = c;
      text = text;
      is = ap (λ d. d ∷ c ∷ text) (eqb-true b SLASH all.0);
      pieces = all.2;
      valid = ap (list_all is_name) (sym all.2) ∙ all.1;
    }

pub no_fault : (fault : Option Errno) → is_none fault ≡ true → fault ≡ None
no_fault None h = refl
no_fault (Some error) h = cc (h)

short_if : (c long : Bool) → is_none (if not c then Some Invalid else (if long then Some TooLong else None)) ≡ true
    → long ≡ false
short_if true true h = cc (h)
short_if true false h = refl
short_if false long h = cc (h)

pub short : (name : List ℕ) → is_name name ≡ true → is_too_long name ≡ false
short name h = short_if (is_component name) (nat_lt NAME_MAX (length name)) h

-- ---- from name to name

asked_to : (f : Bool) (n : List ℕ) (ps : List Passed) (name : List ℕ) (rest : List (List ℕ))
    → asked f (part.Named n ∷ map part.Named (names_to ps name rest)) ≡ Named true n ∷ asked f
    (map part.Named (names_to ps name rest))
asked_to f n [] name rest = refl
asked_to f n (p ∷ ps) name rest = refl

abbrev handle : Passed → Handle
handle p = record { number = p.number; node = p.node; kind = Dir }

-- the walk of a resolve
module _ (below : Below) (goal : Goal) (b : ℕ) where
  abbrev way : Way
  way = way_from below.root goal below.flags

  abbrev lift : walk.Turn → CallTurn
  lift = walked below true (Opens goal)

  at_name : (pos : Position) (follow : Bool) (n : List ℕ) (own : List AskedPart) → is_dir_position pos ≡ true
      → is_too_long n ≡ false
      → on_own way pos (Named follow n ∷ own) b ≡ walk.more (opening pos true follow n (todo [] own b))
  at_name root_itself follow n own dir is =
      ap (λ t. if t then walk.gives_up [] TooLong else walk.more (opening root_itself true follow n (todo [] own b))) is
  at_name (holds h names) follow n own dir is =
      ap (λ t. if t then (if is_too_long n then walk.gives_up (h.number ∷ []) TooLong else walk.more
      (opening (holds h names) true follow n (todo [] own b)))
      else walk.gives_up (h.number ∷ []) NotDir) dir
      ∙ ap (λ t. if t then walk.gives_up (h.number ∷ []) TooLong else walk.more
      (opening (holds h names) true follow n (todo [] own b))) is

  -- what was held is closed
  entered : (pos : Position) (n : List ℕ) (h : Handle) (own : List AskedPart) (lines : List Line) (end : CallTurn)
      → LeadsTo below (lift (on_own way (holds h (n ∷ names_of pos)) own b)) lines end
      → LeadsTo below (lift (walk.enters way true pos n h (todo [] own b))) (closes (handles_of pos) ++ lines) end
  entered root_itself n h own lines end led = led
  entered (holds held names) n h own lines end led = (refl, led)

  opened_on : (pos : Position) (p : Passed) (own : List AskedPart) (lines : List Line) (end : CallTurn)
      → is_dir_position pos ≡ true → is_name p.name ≡ true
      → LeadsTo below (lift (on_own way (holds (handle p) (p.name ∷ names_of pos)) own b)) lines end
      → LeadsTo below (lift (on_own way pos (Named true p.name ∷ own) b))
      (opens (handle_at way pos) p ∷ (closes (handles_of pos) ++ lines)) end
  opened_on pos p own lines end dir is led =
      subst (λ turn. LeadsTo below (lift turn) (opens (handle_at way pos) p ∷ (closes (handles_of pos) ++ lines)) end)
      (sym (at_name pos true p.name own dir (short p.name is)))
      (refl, entered pos p.name (handle p) own lines end led)

  -- what is held is closed, and the walk fails
  gave_up : (pos : Position) → LeadsTo below (lift (walk.gives_up (handles_of pos) NotFound)) (closes (handles_of pos))
      (lift (walk.failed NotFound))
  gave_up root_itself = refl
  gave_up (holds held names) = (refl, refl)

  missing_here : (pos : Position) (follow : Bool) (name : List ℕ) (own : List AskedPart)
      → is_dir_position pos ≡ true → is_name name ≡ true → is_deepest goal ≡ false
      → LeadsTo below (lift (on_own way pos (Named follow name ∷ own) b))
      (answered (Open (handle_at way pos) name) (Refused NotFound) ∷ closes (handles_of pos))
      (lift (walk.failed NotFound))
  missing_here pos follow name own dir is shallow =
      let refused : List Line = answered (Open (handle_at way pos) name) (Refused NotFound) ∷ closes (handles_of pos) in
      subst (λ turn. LeadsTo below (lift turn) refused (lift (walk.failed NotFound)))
      (sym (at_name pos follow name own dir (short name is))) (
        refl,
        subst (λ t. LeadsTo below (lift (if t && true then at_end pos (Named follow name ∷ own)
            else walk.gives_up (handles_of pos) NotFound)) (closes (handles_of pos)) (lift (walk.failed NotFound)))
            (sym shallow) (gave_up pos),
      )

  missing_next : (pos : Position) (name : List ℕ) (rest : List (List ℕ))
      → is_dir_position pos ≡ true → is_name name ≡ true → is_deepest goal ≡ false
      → LeadsTo below (lift (on_own way pos (asked (follows goal) (map part.Named (name ∷ rest))) b))
      (answered (Open (handle_at way pos) name) (Refused NotFound) ∷ closes (handles_of pos))
      (lift (walk.failed NotFound))
  missing_next pos name [] dir is shallow = missing_here pos (follows goal) name [] dir is shallow
  missing_next pos name (r ∷ rest) dir is shallow =
      missing_here pos true name (asked (follows goal) (map part.Named (r ∷ rest))) dir is shallow

  pub missing_on : (ps : List Passed) (name : List ℕ) (rest : List (List ℕ)) (pos : Position)
      → is_dir_position pos ≡ true → list_all is_name (names_to ps name rest) ≡ true → is_deepest goal ≡ false
      → LeadsTo below (lift (on_own way pos (asked (follows goal) (map part.Named (names_to ps name rest))) b))
      (lines_missing_from (handle_at way pos) (handles_of pos) ps name) (lift (walk.failed NotFound))
  missing_on [] name rest pos dir valid shallow =
      missing_next pos name rest dir (and_true (is_name name) (list_all is_name rest) valid).0 shallow
  missing_on (p ∷ ps) name rest pos dir valid shallow =
      let own = asked (follows goal) (map part.Named (names_to ps name rest)) in
      let each = and_true (is_name p.name) (list_all is_name (names_to ps name rest)) valid in
      let new = holds (handle p) (p.name ∷ names_of pos) in
      let missing = lines_missing_from p.number (p.number ∷ []) ps name in
      subst (λ (parts : List AskedPart). LeadsTo below (lift (on_own way pos parts b))
      (opens (handle_at way pos) p ∷ (closes (handles_of pos) ++ missing)) (lift (walk.failed NotFound)))
      (sym (asked_to (follows goal) p.name ps name rest))
      (opened_on pos p own missing (lift (walk.failed NotFound)) dir each.0
      (missing_on ps name rest new refl each.1 shallow))

-- ---- the path's parts

printed_is : (names : List (List ℕ)) (b : ℕ) (bs : List ℕ) → after_slashes names ≡ b ∷ bs → printed names ≡ b ∷ bs
printed_is [] b bs h = cc (h)
printed_is (n ∷ names) b bs h = h

pub same_text : (xs ys : List ℕ) → same_bytes xs ys ≡ true → xs ≡ ys
same_text xs ys h = (bytes_decides xs ys).0 h

-- with the slash at its beginning or without, the path has the same parts
pub parts_either : (path text : List ℕ) (first : ℕ) (t : Bool) → same_bytes path (SLASH ∷ first ∷ text) ≡ t
    → (t || same_bytes path (first ∷ text)) ≡ true → parts_of path ≡ parts_of (SLASH ∷ first ∷ text)
parts_either path text first true e h = ap parts_of (same_text path (SLASH ∷ first ∷ text) e)
parts_either path text first false e h = ap parts_of (same_text path (first ∷ text) h)

parts_named : (path place : List ℕ) (names : List (List ℕ)) → IsPlace place names → spells_place path place ≡ true
    → parts_of path ≡ map part.Named names
parts_named path place names h spells =
    let whole = SLASH ∷ h.first ∷ h.text in
    let as_printed : printed names ≡ whole =
    printed_is names SLASH (h.first ∷ h.text) (ap after_slashes (sym h.pieces) ∙ reprinted (h.first ∷ h.text)) in
    let read = printed_read names
    (λ k d l. no_fault (name_fault (get_or names k d)) (AllPass-from_list_all is_name names h.valid k d l)) in
    let either : spells_place path whole ≡ true = subst (λ p. spells_place path p ≡ true) h.is spells in
    parts_either path h.text h.first (same_bytes path whole) refl either ∙ ap parts_of (sym as_printed)
    ∙ ap (λ (r : Reading). r.parts) read

-- ---- to the fault

begins_so : (below : Below) (goal : Goal) (path : List ℕ) (names : List (List ℕ)) → text_fault path ≡ None
    → leads_out (begins_with_slash path) below.flags ≡ false → parts_of path ≡ map part.Named names
    → on_path below (Opens goal) path
    ≡ walked below true (Opens goal) (on_own (way_from below.root goal below.flags) root_itself
    (asked (follows goal) (map part.Named names)) LINKS_MAX)
begins_so below goal path names whole inside parts =
    let way = way_from below.root goal below.flags in
    let lift = walked below true (Opens goal) in
    ap (λ f. unless_fault f (lift (walk.begins way (reading_of path)))) whole
    ∙ ap (λ t. lift (if t then walk.failed CrossRoot else on_own way root_itself
    (asked (follows goal) (parts_of path)) LINKS_MAX)) inside
    ∙ ap (λ ps. lift (on_own way root_itself (asked (follows goal) ps) LINKS_MAX)) parts

shallow : (op : Op) (goal : Goal) (path : List ℕ) → IsResolve op goal path → is_deepest goal ≡ false
shallow (Resolve text) goal path is = ap is_deepest is.0
shallow (ResolveNoFollow text) goal path is = ap is_deepest is.0
shallow op goal path is = absurd is

leads_so : (below : Below) (op : Op) (goal : Goal) (path place : List ℕ) (ps : List Passed) (name : List ℕ)
    (rest : List (List ℕ)) → IsResolve op goal path → misses_at_once below.flags.beneath path place ≡ true
    → names_read place ≡ Some (names_to ps name rest)
    → LeadsTo below (starts below true op) (lines_missing below.root.handle ps name) (ends (fault NotFound))
leads_so below op goal path place ps name rest resolve at_once read =
    let inside = and_true (not (leads_out (begins_with_slash path) below.flags)) _ at_once in
    let whole = and_true (is_none (text_fault path)) _ inside.1 in
    let spells = and_true (has_names (names_read place)) (spells_place path place) whole.1 in
    let place_is = placed place (names_to ps name rest) spells.0 read in
    let begins = starts_so below op goal path resolve
    ∙ begins_so below goal path (names_to ps name rest) (no_fault (text_fault path) whole.0)
    (not-true (leads_out (begins_with_slash path) below.flags) inside.0)
    (parts_named path place (names_to ps name rest) place_is spells.1)
    in
    subst (λ turn. LeadsTo below turn (lines_missing below.root.handle ps name) (ends (fault NotFound)))
    (sym begins)
    (missing_on below goal LINKS_MAX ps name rest root_itself refl
    place_is.valid (shallow op goal path resolve))

pub misses : EachCallTells → FailsAtOnceTell
misses each c goal path place ps name rest resolve at_once read room lines =
    let led = leads_so c.below c.op goal path place ps name rest resolve at_once read in
    let replies : RepliesWith c (fault NotFound) =
    subst (λ (r : Bool). LeadsTo c.below (starts c.below r c.op) c.lines (ends (fault NotFound))) (sym room)
    (subst (λ (ls : List Line). LeadsTo c.below (starts c.below true c.op) ls (ends (fault NotFound))) (sym lines) led) in
    (replies, λ is. each c (Fault NotFound) is replies)
