-- What is still passed from a spot on, and how the lines that are left are paid: some are free, and each part that is
-- passed pays for four. What is known so of a walk under way is said of each step that may be due.
use Rattle.std.specs.Prelude.{◌≡◌, ℕ, suc, ◌+◌, ◌*◌, ◌≤◌, List, [], ◌∷◌, ◌++◌, Bool, true, false, length, Option, Some, None, refl}
use Rattle.std.proofs.Common.{sym, ap, subst, ◌∙◌, le_refl, append_assoc, append-nil, length-append, arith}
use Rattle.path_text.specs.declared.errno.Errno.{Errno}
use Rattle.tree_model.specs.declared.inode.Object.TheVariants.{Link}
use Rattle.tree_model.specs.State.{parent, is_directory, Stands}
use Rattle.step_resolver.specs.Asked.{AskedPart, Up, Named}
use Rattle.step_resolver.specs.Trail.{Spot, Trail, all, before, later, IsOwnFrom, IsChildAt}
use Rattle.step_resolver.specs.Order.{Handle, holds, Todo, todo, After, gives, onward, judges, Walking, opening, reading, rising, judging, duping, ending, closing, Turn, more, found, partial, failed, gives_up}
use Rattle.step_resolver.specs.WalkHistory.{WalkInHistory, timeline, parts_of_walk, start}
use Rattle.step_resolver.proofs.Underway.WalkInvariant.{spot_at, EndsAt}
use Rattle.further_walk_laws.specs.TrailSteps.{passes_in, parts_met, IsFewFor, FewOnTheWay, FewLines}
use Rattle.further_walk_laws.proofs.Splitting.{Longer}

-- ---- what is passed from a spot on

abbrev pub IsSuccess : Turn → Type 0
IsSuccess (more walk) = ⊥
IsSuccess (found handle names) = Unit {0}
IsSuccess (partial handle names rest) = Unit {0}
IsSuccess (failed error) = ⊥

-- The end of the walk is told of where the passing ends, with these parts of the caller's left, if the lines are few for
-- what was passed from the root on; and a success, if that is all that was met.
abbrev pub TellsOf : WalkInHistory → Turn → List AskedPart → Spot → Option AskedPart → Type 0
TellsOf w end rest to next = (front : List AskedPart) → parts_of_walk w ≡ front ++ rest
    → (trail : Trail (timeline w) front (start w) to next) → IsFewFor w front (passes_in trail)
    → (IsSuccess end → passes_in trail ≡ parts_met w front) → FewLines w end

-- where no parts are left
pub tells_whole : (w : WalkInHistory) (end : Turn) (rest : List AskedPart) (to : Spot) (next : Option AskedPart) → rest ≡ []
    → ((trail : Trail (timeline w) (parts_of_walk w) (start w) to next) → IsFewFor w (parts_of_walk w) (passes_in trail)
    → (IsSuccess end → passes_in trail ≡ parts_met w (parts_of_walk w)) → FewLines w end) → TellsOf w end rest to next
tells_whole w end rest to next none tells = λ front parts.
    subst (λ ps. (trail : Trail (timeline w) ps (start w) to next) → IsFewFor w ps (passes_in trail) → (IsSuccess end → passes_in trail ≡ parts_met w ps) → FewLines w end)
    (parts ∙ ap (λ ps. front ++ ps) none ∙ append-nil front) tells

-- the end is told of wherever the passing ends
abbrev pub TellsAnywhere : WalkInHistory → Turn → Type 0
TellsAnywhere w end = (rest : List AskedPart) (to : Spot) (next : Option AskedPart) → TellsOf w end rest to next

-- the same of one that is no success
abbrev pub EndsAnywhere : WalkInHistory → Turn → Type 0
EndsAnywhere w end = TellsAnywhere w end × (IsSuccess end → ⊥)

-- These parts are passed from the spot on, as far as the walk comes, and those of the texts that it still reads. There
-- are n lines left, of which c are free.
pub record Passing (w : WalkInHistory) (end : Turn) (texts : ℕ) (rest ps : List AskedPart) (s : Spot) (n c : ℕ) : Type 0 where
  pub to : Spot
  pub next : Option AskedPart
  pub trail : Trail (timeline w) ps s to next
  pub paid : n ≤ c + 4 * passes_in trail
  pub most : passes_in trail ≤ length ps + texts
  pub exact : IsSuccess end → passes_in trail ≡ length ps + texts
  pub tells : TellsOf w end rest to next

-- the same of the parts of links' texts and the caller's own, of which the first are to be passed
pub record Ahead (w : WalkInHistory) (end : Turn) (texts : ℕ) (inner own : List AskedPart) (s : Spot) (n c : ℕ) : Type 0 where
  pub front : List AskedPart
  pub rest : List AskedPart
  pub parts : own ≡ front ++ rest
  pub passing : Passing w end texts rest (inner ++ front) s n c

-- the same with the next part, which is of a link's text or the caller's own
abbrev pub AheadFor : WalkInHistory → Turn → ℕ → Bool → AskedPart → List AskedPart → List AskedPart → Spot → ℕ → ℕ → Type 0
AheadFor w end texts false p inner own s n c = Ahead w end texts (p ∷ inner) own s n c
AheadFor w end texts true p inner own s n c = Ahead w end texts inner (p ∷ own) s n c

paid_on : (n c m d k l : ℕ) → m + c ≤ n + d + 4 → n ≤ c + 4 * k → l ≡ suc k → m ≤ d + 4 * l
paid_on n c m d k l le few e = omega (arith, le, few, e)

most_on : (a b k l : ℕ) → a ≡ suc b → k ≤ b → l ≡ suc k → l ≤ a
most_on a b k l e le f = omega (arith, e, le, f)

exact_on : (a b k l : ℕ) → a ≡ suc b → k ≡ b → l ≡ suc k → l ≡ a
exact_on a b k l e q f = omega (arith, e, q, f)

-- one part more is passed, and pays
pub passed_on : {w : WalkInHistory} {end : Turn} {rest ps qs : List AskedPart} {s r : Spot} (texts read n c m d : ℕ) → m + c ≤ n + d + 4
    → length ps + read ≡ suc (length qs + texts)
    → ((z : Spot) (next : Option AskedPart) (t : Trail (timeline w) qs r z next) → Longer (timeline w) ps s z next (passes_in t))
    → Passing w end texts rest qs r n c → Passing w end read rest ps s m d
passed_on {ps = ps} {qs = qs} texts read n c m d le more_parts longer p =
    let more_of = longer p.to p.next p.trail in
    record {
      to = p.to;
      next = p.next;
      trail = more_of.0;
      paid = paid_on n c m d (passes_in p.trail) (passes_in more_of.0) le p.paid more_of.1;
      most = most_on (length ps + read) (length qs + texts) (passes_in p.trail) (passes_in more_of.0) more_parts p.most more_of.1;
      exact = λ success. exact_on (length ps + read) (length qs + texts) (passes_in p.trail) (passes_in more_of.0) more_parts (p.exact success) more_of.1;
      tells = p.tells;
    }

free_enough : (n c m d k : ℕ) → m + c ≤ n + d → n ≤ c + 4 * k → m ≤ d + 4 * k
free_enough n c m d k le few = omega (arith, le, few)

-- other lines are left, and others free
pub paid_by : {w : WalkInHistory} {end : Turn} {texts : ℕ} {inner own : List AskedPart} {s : Spot} (n c m d : ℕ) → m + c ≤ n + d
    → Ahead w end texts inner own s n c → Ahead w end texts inner own s m d
paid_by n c m d le a = record {
  front = a.front;
  rest = a.rest;
  parts = a.parts;
  passing = record {
    to = a.passing.to;
    next = a.passing.next;
    trail = a.passing.trail;
    paid = free_enough n c m d (passes_in a.passing.trail) le a.passing.paid;
    most = a.passing.most;
    exact = a.passing.exact;
    tells = a.passing.tells;
  };
}

pub paid_for : (w : WalkInHistory) (end : Turn) (texts n c m d : ℕ) (own : Bool) (p : AskedPart) (inner rest : List AskedPart) (s : Spot) → m + c ≤ n + d
    → AheadFor w end texts own p inner rest s n c → AheadFor w end texts own p inner rest s m d
paid_for w end texts n c m d false p inner rest s le a = paid_by n c m d le a
paid_for w end texts n c m d true p inner rest s le a = paid_by n c m d le a

longer_list : (qs ps : List AskedPart) (texts read : ℕ) → read ≡ length qs + texts → suc (length ps) + read ≡ suc (length (qs ++ ps) + texts)
longer_list qs ps texts read e = omega (arith, e, length-append qs ps)

-- the next part is passed, and what is read comes in its place, then the others
pub passed_for : {w : WalkInHistory} {end : Turn} {r : Spot} (s : Spot) (texts read n c m d : ℕ) (own : Bool) (p : AskedPart) (qs inner rest : List AskedPart)
    → (own ≡ true → inner ≡ []) → m + c ≤ n + d + 4 → read ≡ length qs + texts
    → ((ps : List AskedPart) (z : Spot) (next : Option AskedPart) (t : Trail (timeline w) (qs ++ ps) r z next) → Longer (timeline w) (p ∷ ps) s z next (passes_in t))
    → Ahead w end texts (qs ++ inner) rest r n c → AheadFor w end read own p inner rest s m d
passed_for {w} {end} {r} s texts read n c m d false p qs inner rest alone le more_parts longer a = record {
  front = a.front;
  rest = a.rest;
  parts = a.parts;
  passing = passed_on texts read n c m d le (longer_list qs (inner ++ a.front) texts read more_parts) (longer (inner ++ a.front))
      (subst (λ ps. Passing w end texts a.rest ps r n c) (append_assoc qs inner a.front) a.passing);
}
passed_for {w} {end} {r} s texts read n c m d true p qs inner rest alone le more_parts longer a = record {
  front = p ∷ a.front;
  rest = a.rest;
  parts = ap (λ ps. p ∷ ps) a.parts;
  passing = subst (λ i. Passing w end read a.rest (i ++ (p ∷ a.front)) s m d) (sym (alone refl))
      (passed_on texts read n c m d le (longer_list qs a.front texts read more_parts) (longer a.front)
      (subst (λ ps. Passing w end texts a.rest ps r n c) (append_assoc qs [] a.front)
      (subst (λ i. Passing w end texts a.rest ((qs ++ i) ++ a.front) r n c) (alone refl) a.passing)));
}

pub none_read : (texts : ℕ) → texts ≡ 0 + texts
none_read texts = omega arith

-- the next part is passed, and nothing comes in its place
pub passed_alone : {w : WalkInHistory} {end : Turn} {r : Spot} (s : Spot) (texts n c m d : ℕ) (own : Bool) (p : AskedPart) (inner rest : List AskedPart)
    → (own ≡ true → inner ≡ []) → m + c ≤ n + d + 4
    → ((ps : List AskedPart) (z : Spot) (next : Option AskedPart) (t : Trail (timeline w) ps r z next) → Longer (timeline w) (p ∷ ps) s z next (passes_in t))
    → Ahead w end texts inner rest r n c → AheadFor w end texts own p inner rest s m d
passed_alone s texts n c m d own p inner rest alone le longer a = passed_for s texts texts n c m d own p [] inner rest alone le (none_read texts) longer a

-- ---- where nothing more is passed

free : (n c : ℕ) → n ≤ c → n ≤ c + 4 * 0
free n c le = omega (arith, le)

pub none_passed : (k : ℕ) → 0 ≤ k
none_passed k = omega arith

passing_none : (w : WalkInHistory) (end : Turn) (texts : ℕ) → EndsAnywhere w end → (ps : List AskedPart) (s : Spot) (n c : ℕ) → n ≤ c → Passing w end texts [] ps s n c
passing_none w end texts ends [] s n c le = record {
  to = later s.moment s;
  next = None;
  trail = all s.moment (le_refl s.moment);
  paid = free n c le;
  most = none_passed (0 + texts);
  exact = λ success. absurd (ends.1 success);
  tells = ends.0 [] (later s.moment s) None;
}
passing_none w end texts ends (p ∷ ps) s n c le = record {
  to = later s.moment s;
  next = Some p;
  trail = before s.moment (le_refl s.moment);
  paid = free n c le;
  most = none_passed (suc (length ps) + texts);
  exact = λ success. absurd (ends.1 success);
  tells = ends.0 [] (later s.moment s) (Some p);
}

pub nothing_ahead : (w : WalkInHistory) (end : Turn) (texts n c : ℕ) → EndsAnywhere w end → n ≤ c → (inner own : List AskedPart) (s : Spot) → Ahead w end texts inner own s n c
nothing_ahead w end texts n c ends le inner own s =
    record { front = own; rest = []; parts = sym (append-nil own); passing = passing_none w end texts ends (inner ++ own) s n c le }

pub nothing_for : (w : WalkInHistory) (end : Turn) (texts n c : ℕ) → EndsAnywhere w end → n ≤ c → (own : Bool) (p : AskedPart) (inner rest : List AskedPart) (s : Spot)
    → AheadFor w end texts own p inner rest s n c
nothing_for w end texts n c ends le false p inner rest s = nothing_ahead w end texts n c ends le (p ∷ inner) rest s
nothing_for w end texts n c ends le true p inner rest s = nothing_ahead w end texts n c ends le inner (p ∷ rest) s

-- the walk stops before the next part, at a moment
pub stopped_for : (w : WalkInHistory) (end : Turn) (texts n c k : ℕ) (own : Bool) (p : AskedPart) (inner rest : List AskedPart) (s : Spot) → (own ≡ true → inner ≡ [])
    → s.moment ≤ k → n ≤ c → (IsSuccess end → ⊥) → TellsOf w end [] (later k s) (Some p) → AheadFor w end texts own p inner rest s n c
stopped_for w end texts n c k false p inner rest s alone past le failed_so tells = record {
  front = rest;
  rest = [];
  parts = sym (append-nil rest);
  passing = record { to = later k s; next = Some p; trail = before k past; paid = free n c le; most = none_passed (suc (length (inner ++ rest)) + texts); exact = λ success. absurd (failed_so success); tells = tells };
}
stopped_for w end texts n c k true p inner rest s alone past le failed_so tells = record {
  front = p ∷ rest;
  rest = [];
  parts = sym (append-nil (p ∷ rest));
  passing = subst (λ i. Passing w end texts [] (i ++ (p ∷ rest)) s n c) (sym (alone refl)) stopped;
}
  where
    stopped : Passing w end texts [] (p ∷ rest) s n c
    stopped = record { to = later k s; next = Some p; trail = before k past; paid = free n c le; most = none_passed (suc (length rest) + texts); exact = λ success. absurd (failed_so success); tells = tells }

-- ---- what is passed from a step on

-- the walk fails after these lines, and its end is told of where the error is
abbrev pub Fails : WalkInHistory → Turn → Errno → ℕ → ℕ → Type 0
Fails w end error n c = (n ≤ c) × ((rest : List AskedPart) (to : Spot) (next : Option AskedPart) → TellsOf w (failed error) rest to next → TellsOf w end rest to next)
    × (IsSuccess end → ⊥)

-- where the parent of the spot's node was opened, from that spot on
abbrev pub AheadJudging : WalkInHistory → Turn → ℕ → ℕ → Handle → List (List ℕ) → Todo → ℕ → ℕ → Type 0
AheadJudging w end texts now new names (todo inner rest b) n c =
    (own : Bool) → (own ≡ true → inner ≡ []) → (old : Handle) (name : List ℕ) (m t : ℕ)
    → is_directory ((timeline w).object_of old.node) ≡ true → IsOwnFrom (timeline w) m t
    → parent ((timeline w).nodes_at t) old.node ≡ Some new.node → suc t ≤ now
    → AheadFor w end texts own Up inner rest (spot_at w (holds old (name ∷ names)) b m) n c

-- after closings, of which each takes a line
abbrev pub AheadAfter : WalkInHistory → Turn → ℕ → ℕ → After → ℕ → ℕ → Type 0
AheadAfter w end texts now (gives error) n closings = Fails w end error n closings
AheadAfter w end texts now (onward position (todo inner own b)) n closings = (m : ℕ) → m ≤ now → Ahead w end texts inner own (spot_at w position b m) n (closings + 4)
AheadAfter w end texts now (judges new names rest) n closings = AheadJudging w end texts now new names rest n (closings + 2)

-- where the parts are passed, from any spot on at which they are
abbrev pub AheadEnding : WalkInHistory → Turn → ℕ → ℕ → ℕ → List (List ℕ) → List AskedPart → ℕ → ℕ → Type 0
AheadEnding w end texts now x names rest n c = (b m : ℕ) → m ≤ now
    → EndsAt w now (record { node = x; names = names; links = b; moment = m }) rest
    → Ahead w end texts [] rest (record { node = x; names = names; links = b; moment = m }) n c

-- With a step that is due: from each spot at which the walk may be, at each moment up to now, and with all that was
-- found out of the next part.
abbrev pub AheadIn : WalkInHistory → Turn → ℕ → ℕ → Walking → ℕ → Type 0
AheadIn w end texts now (opening position own follow name (todo inner rest b)) n =
    (m : ℕ) → m ≤ now → AheadFor w end texts own (Named follow name) inner rest (spot_at w position b m) n 4
AheadIn w end texts now (reading position link (todo inner rest b)) n =
    (own : Bool) → (own ≡ true → inner ≡ []) → (name : List ℕ) (m t : ℕ) (text : List ℕ)
    → IsChildAt (timeline w) (spot_at w position (suc b) m) name t link.node → suc t ≤ now → w.way.flags.no_links ≡ false
    → (timeline w).object_of link.node ≡ Some (Link text)
    → AheadFor w end texts own (Named true name) inner rest (spot_at w position (suc b) m) n 3
AheadIn w end texts now (rising old names (todo inner rest b)) n =
    (own : Bool) → (own ≡ true → inner ≡ []) → (name : List ℕ) (m : ℕ) → m ≤ now
    → AheadFor w end texts own Up inner rest (spot_at w (holds old (name ∷ names)) b m) n 4
AheadIn w end texts now (judging new names rest) n = AheadJudging w end texts now new names rest n 2
AheadIn w end texts now (duping rest) n = AheadEnding w end texts now w.root [] rest n 3
AheadIn w end texts now (ending handle names rest) n = AheadEnding w end texts now handle.node names rest n 2
AheadIn w end texts now (closing h hs after) n = AheadAfter w end texts now after n (suc (length hs))

-- at an end, where the object stood at an event after all that led to the spot
abbrev pub AheadAtEnd : WalkInHistory → Turn → ℕ → Handle → List (List ℕ) → List AskedPart → ℕ → Type 0
AheadAtEnd w end texts handle names rest n = (b m v : ℕ) → IsOwnFrom (timeline w) m v → Stands ((timeline w).nodes_at v) w.root handle.node names
    → EndsAt w v (spot_at w (holds handle names) b m) rest → Ahead w end texts [] rest (spot_at w (holds handle names) b m) n 0

abbrev pub AheadAt : WalkInHistory → Turn → ℕ → ℕ → Turn → ℕ → Type 0
AheadAt w end texts now (more walk) n = AheadIn w end texts now walk n
AheadAt w end texts now (found handle names) n = AheadAtEnd w end texts handle names [] n
AheadAt w end texts now (partial handle names rest) n = AheadAtEnd w end texts handle names rest n
AheadAt w end texts now (failed error) n = Fails w end error n 0

-- ---- where the walk has failed, or goes no further

-- how many lines are free
abbrev pub free_in : Walking → ℕ
free_in (opening position own follow name rest) = 4
free_in (reading position link rest) = 3
free_in (rising old names rest) = 4
free_in (judging new names rest) = 2
free_in (duping rest) = 3
free_in (ending handle names rest) = 2
free_in (closing h hs after) = suc (length hs)

le_more : (n c k : ℕ) → n ≤ c → n ≤ c + k
le_more n c k le = omega (arith, le)

nothing_after : (w : WalkInHistory) (end : Turn) (texts now : ℕ) (n c : ℕ) → EndsAnywhere w end → n ≤ c → (after : After) → AheadAfter w end texts now after n c
nothing_after w end texts now n c ends_so le (gives error) = (le, λ rest to next told. ends_so.0 rest to next, ends_so.1)
nothing_after w end texts now n c ends_so le (onward position (todo inner own b)) =
    λ m past. nothing_ahead w end texts n (c + 4) ends_so (le_more n c 4 le) inner own (spot_at w position b m)
nothing_after w end texts now n c ends_so le (judges new names (todo inner rest b)) =
    λ own alone old name m t dir at is past. nothing_for w end texts n (c + 2) ends_so (le_more n c 2 le) own Up inner rest (spot_at w (holds old (name ∷ names)) b m)

pub nothing_in : (w : WalkInHistory) (end : Turn) (texts now n : ℕ) → EndsAnywhere w end → (walk : Walking) → n ≤ free_in walk → AheadIn w end texts now walk n
nothing_in w end texts now n ends_so (opening position own follow name (todo inner rest b)) le =
    λ m past. nothing_for w end texts n 4 ends_so le own (Named follow name) inner rest (spot_at w position b m)
nothing_in w end texts now n ends_so (reading position link (todo inner rest b)) le =
    λ own alone name m t text is past allowed is_link. nothing_for w end texts n 3 ends_so le own (Named true name) inner rest (spot_at w position (suc b) m)
nothing_in w end texts now n ends_so (rising old names (todo inner rest b)) le =
    λ own alone name m past. nothing_for w end texts n 4 ends_so le own Up inner rest (spot_at w (holds old (name ∷ names)) b m)
nothing_in w end texts now n ends_so (judging new names (todo inner rest b)) le =
    λ own alone old name m t dir at is past. nothing_for w end texts n 2 ends_so le own Up inner rest (spot_at w (holds old (name ∷ names)) b m)
nothing_in w end texts now n ends_so (duping rest) le =
    λ b m past end_is. nothing_ahead w end texts n 3 ends_so le [] rest (record { node = w.root; names = []; links = b; moment = m })
nothing_in w end texts now n ends_so (ending handle names rest) le =
    λ b m past end_is. nothing_ahead w end texts n 2 ends_so le [] rest (record { node = handle.node; names = names; links = b; moment = m })
nothing_in w end texts now n ends_so (closing h hs after) le = nothing_after w end texts now n (suc (length hs)) ends_so le after

-- where the walk gives up
pub given_up : (w : WalkInHistory) (end : Turn) (texts now n : ℕ) (hs : List ℕ) (error : Errno) → AheadAt w end texts now (gives_up hs error) n → Fails w end error n (length hs)
given_up w end texts now n [] error a = a
given_up w end texts now n (h ∷ hs) error a = a

-- what was passed on the way
pub on_the_way : (w : WalkInHistory) (rest : List AskedPart) (to : Spot) (next : Option AskedPart) (front : List AskedPart) → parts_of_walk w ≡ front ++ rest
    → (trail : Trail (timeline w) front (start w) to next) → IsFewFor w front (passes_in trail) → (⊥ → passes_in trail ≡ parts_met w front) → FewOnTheWay w
on_the_way w rest to next front parts trail few exact = record { front = front; rest = rest; parts = parts; to = to; next = next; trail = trail; few = few }

one_line_more : (n k c : ℕ) → n ≤ k → suc k ≤ c → suc n ≤ c
one_line_more n k c le few = omega (arith, le, few)

-- a step after which it gives up for an error that tells of no place
pub gave_up_in : (w : WalkInHistory) (end : Turn) (texts now soon n : ℕ) (walk : Walking) (hs : List ℕ) (error : Errno) → suc (length hs) ≤ free_in walk
    → TellsAnywhere w (failed error) → AheadAt w end texts soon (gives_up hs error) n → AheadIn w end texts now walk (suc n)
gave_up_in w end texts now soon n walk hs error few anywhere a =
    let fails = given_up w end texts soon n hs error a in
    nothing_in w end texts now (suc n) (λ rest to next. fails.1 rest to next (anywhere rest to next), fails.2) walk (one_line_more n (length hs) (free_in walk) fails.0 few)
