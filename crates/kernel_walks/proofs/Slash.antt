-- A path with one part more, as the slash at its end gives it: what leads its walk to an object leads the walk without
-- that part there, too.
use Rattle.std.specs.Prelude.{◌≡◌, ◌⊎◌, ℕ, zero, suc, ◌-◌, ◌&&◌, length, map, take, List, [], ◌∷◌, ◌++◌, reverse, Bool, true, false, if◌then◌else◌, Option, Some, None, refl}
use Rattle.std.proofs.Common.{sym, ap, subst, ◌∙◌, inl, inr, le_refl, arith}
use Rattle.std.proofs.lemmas.List.{take_all, take-append-le, length-append}
use Rattle.path_text.specs.declared.errno.Errno.{Errno}
use Rattle.path_text.specs.declared.errno.Errno.TheVariants.{NotFound, BadHandle, Raced, NoMemory, BookFull, Busy, Exists, CrossRoot, NotDir, IsDir, Invalid, TooMany, TooLong, NotEmpty, Loop}
use Rattle.path_text.specs.declared.part.Part.{Part}
use Rattle.path_text.specs.declared.part.Part.TheVariants as part
use Rattle.path_text.specs.Names.{same_names}
use Rattle.path_text.specs.Reading.{Reading}
use Rattle.path_text.specs.Split.{before_last, parts_without_slash}
use Rattle.path_text.specs.Text.{text_fault, pieces, part_of, parts_of, begins_with_slash, has_final_slash, reading_of}
use Rattle.tree_model.specs.declared.answer.Answer.{Answer}
use Rattle.tree_model.specs.declared.answer.Answer.TheVariants.{Opened, Text, Names, NotBelow, Listed, Done, Refused}
use Rattle.step_machine.specs.Machine.{Fits}
use Rattle.walk_plan.specs.Plan.{leads_out}
use Rattle.step_resolver.specs.Asked.{AskedPart, Cur, Up, Named, ask, asked, followed, follows, is_deepest}
use Rattle.step_resolver.specs.Meaning.{LINKS_MAX, is_too_long}
use Rattle.step_resolver.specs.Order.{Way, Handle, Position, root_itself, holds, Todo, todo, After, gives, onward, judges, Walking, opening, reading, rising, judging, duping, ending, closing, Turn, more, found, partial, failed, Line, answered, no_room, not_made, has_room, answer_of, is_close, handles_of, gives_up, at_end, at_top, on_part, on_own, on_parts, goes_on, closes, end_of, due, LeadsTo}
use Rattle.step_resolver.specs.Order.{take as take_answer}
use Rattle.step_resolver.specs.Order as walk

-- ---- the same turn, with a dot behind the caller's own parts

abbrev pub with_dot : Todo → Todo
with_dot (todo inner own b) = todo inner (own ++ Cur ∷ []) b

abbrev after_with : After → After
after_with (gives error) = gives error
after_with (onward position rest) = onward position (with_dot rest)
after_with (judges handle names rest) = judges handle names (with_dot rest)

abbrev walk_with : Walking → Walking
walk_with (opening position own follow n rest) = opening position own follow n (with_dot rest)
walk_with (reading position link rest) = reading position link (with_dot rest)
walk_with (rising handle names rest) = rising handle names (with_dot rest)
walk_with (judging handle names rest) = judging handle names (with_dot rest)
walk_with (duping rest) = duping rest
walk_with (ending handle names rest) = ending handle names rest
walk_with (closing h hs after) = closing h hs (after_with after)

abbrev turn_with : Turn → Turn
turn_with (more w) = more (walk_with w)
turn_with (found handle names) = found handle names
turn_with (partial handle names rest) = partial handle names rest
turn_with (failed error) = failed error

-- it comes to no object
abbrev IsLost : Turn → Type 0
IsLost (more (closing h hs (gives error))) = Unit {0}
IsLost (failed error) = Unit {0}
IsLost other = ⊥

abbrev pub Dots : Turn → Turn → Type 0
Dots t u = (t ≡ turn_with u) ⊎ IsLost t

gives_up_dots : (hs : List ℕ) (error : Errno) → Dots (gives_up hs error) (gives_up hs error)
gives_up_dots [] error = inl refl
gives_up_dots (h ∷ hs) error = inl refl

gives_up_lost : (hs : List ℕ) (error : Errno) → IsLost (gives_up hs error)
gives_up_lost [] error = tt
gives_up_lost (h ∷ hs) error = tt

-- ---- from one part to the next

part_dots : (way : Way) (position : Position) (p : AskedPart) (own : Bool) (rest : Todo) (t u : Turn) → Dots t u
    → Dots (on_part way position p own (with_dot rest) t) (on_part way position p own rest u)
part_dots way position p own rest t u dots = on (walk.is_dir_position position)
  where
    up_top : (b : Bool) (position' : Position) → Dots (if b then gives_up (handles_of position') CrossRoot else t) (if b then gives_up (handles_of position') CrossRoot else u)
    up_top true position' = gives_up_dots (handles_of position') CrossRoot
    up_top false position' = dots

    named : (b : Bool) (position' : Position) (follow : Bool) (n : List ℕ)
        → Dots (if b then gives_up (handles_of position') TooLong else more (opening position' own follow n (with_dot rest)))
        (if b then gives_up (handles_of position') TooLong else more (opening position' own follow n rest))
    named true position' follow n = gives_up_dots (handles_of position') TooLong
    named false position' follow n = inl refl

    inside : (position' : Position) (q : AskedPart) → Dots (walk.in_directory way position' q own (with_dot rest) t) (walk.in_directory way position' q own rest u)
    inside root_itself Cur = dots
    inside (holds handle names) Cur = dots
    inside root_itself Up = up_top way.flags.beneath root_itself
    inside (holds handle []) Up = up_top way.flags.beneath (holds handle [])
    inside (holds handle (n ∷ names)) Up = inl refl
    inside root_itself (Named follow n) = named (is_too_long n) root_itself follow n
    inside (holds handle names) (Named follow n) = named (is_too_long n) (holds handle names) follow n

    on : (b : Bool) → Dots (if b then walk.in_directory way position p own (with_dot rest) t else gives_up (handles_of position) NotDir)
        (if b then walk.in_directory way position p own rest u else gives_up (handles_of position) NotDir)
    on true = inside position p
    on false = gives_up_dots (handles_of position) NotDir

-- the dot itself is passed in a directory alone
dot_dots : (position : Position) (b : Bool) → Dots (if b then at_end position [] else gives_up (handles_of position) NotDir) (at_end position [])
dot_dots root_itself true = inl refl
dot_dots (holds handle names) true = inl refl
dot_dots position false = inr (gives_up_lost (handles_of position) NotDir)

own_dots : (way : Way) (position : Position) (own : List AskedPart) (b : ℕ) → Dots (on_own way position (own ++ Cur ∷ []) b) (on_own way position own b)
own_dots way root_itself [] b = dot_dots root_itself true
own_dots way (holds handle names) [] b = dot_dots (holds handle names) (walk.is_dir_kind handle.kind)
own_dots way position (p ∷ own) b =
    part_dots way position p true (todo [] own b) (on_own way position (own ++ Cur ∷ []) b) (on_own way position own b) (own_dots way position own b)

parts_dots : (way : Way) (position : Position) (inner own : List AskedPart) (b : ℕ) → Dots (on_parts way position inner (own ++ Cur ∷ []) b) (on_parts way position inner own b)
parts_dots way position [] own b = own_dots way position own b
parts_dots way position (p ∷ inner) own b =
    part_dots way position p false (todo inner own b) (on_parts way position inner (own ++ Cur ∷ []) b) (on_parts way position inner own b) (parts_dots way position inner own b)

pub goes_on_dots : (way : Way) (position : Position) (rest : Todo) → Dots (goes_on way position (with_dot rest)) (goes_on way position rest)
goes_on_dots way position (todo inner own b) = parts_dots way position inner own b

-- ---- answers

comes_dots : (way : Way) (after : After) → Dots (walk.comes way (after_with after)) (walk.comes way after)
comes_dots way (gives error) = inl refl
comes_dots way (onward position rest) = goes_on_dots way position rest
comes_dots way (judges handle names rest) = inl refl

closes_dots : (way : Way) (hs : List ℕ) (after : After) → Dots (closes way hs (after_with after)) (closes way hs after)
closes_dots way [] after = comes_dots way after
closes_dots way (h ∷ hs) after = inl refl

room_dots : (room : Bool) (hs : List ℕ) (t u : Turn) → Dots t u → Dots (walk.with_room room hs t) (walk.with_room room hs u)
room_dots true hs t u dots = dots
room_dots false hs t u dots = gives_up_dots hs NoMemory

link_dots : (way : Way) (position : Position) (link : Handle) (rest : Todo) → Dots (walk.follows_link way position link (with_dot rest)) (walk.follows_link way position link rest)
link_dots way position link (todo inner own zero) = gives_up_dots (link.number ∷ handles_of position) Loop
link_dots way position link (todo inner own (suc b)) = on way.flags.no_links
  where
    on : (n : Bool) → Dots (if n then gives_up (link.number ∷ handles_of position) Loop else more (reading position link (todo inner (own ++ Cur ∷ []) b)))
        (if n then gives_up (link.number ∷ handles_of position) Loop else more (reading position link (todo inner own b)))
    on true = gives_up_dots (link.number ∷ handles_of position) Loop
    on false = inl refl

opened_dots : (way : Way) (room : Bool) (position : Position) (n : List ℕ) (new : Handle) (rest : Todo) (b : Bool)
    → Dots (if b then walk.follows_link way position new (with_dot rest) else walk.enters way room position n new (with_dot rest))
    (if b then walk.follows_link way position new rest else walk.enters way room position n new rest)
opened_dots way room position n new rest true = link_dots way position new rest
opened_dots way room position n new rest false =
    room_dots room (new.number ∷ handles_of position) (closes way (handles_of position) (onward (holds new (n ∷ walk.names_of position)) (with_dot rest)))
    (closes way (handles_of position) (onward (holds new (n ∷ walk.names_of position)) rest)) (closes_dots way (handles_of position) (onward (holds new (n ∷ walk.names_of position)) rest))

missing_dots : (position : Position) (follow : Bool) (n : List ℕ) (rest : List AskedPart) (d own : Bool) → d ≡ false
    → Dots (if d && own then at_end position (Named follow n ∷ rest ++ Cur ∷ []) else gives_up (handles_of position) NotFound)
    (if d && own then at_end position (Named follow n ∷ rest) else gives_up (handles_of position) NotFound)
missing_dots position follow n rest true own e = cc (e)
missing_dots position follow n rest false own e = gives_up_dots (handles_of position) NotFound

refused_dots : (way : Way) → is_deepest way.goal ≡ false → (position : Position) (own follow : Bool) (n : List ℕ) (rest : Todo) (error : Errno)
    → Dots (walk.refused_open way position own follow n (with_dot rest) error) (walk.refused_open way position own follow n rest error)
refused_dots way shallow position own follow n (todo inner rest b) NotFound = missing_dots position follow n rest (is_deepest way.goal) own shallow
refused_dots way shallow position own follow n (todo inner rest b) BadHandle = gives_up_dots (handles_of position) BadHandle
refused_dots way shallow position own follow n (todo inner rest b) Raced = gives_up_dots (handles_of position) Raced
refused_dots way shallow position own follow n (todo inner rest b) NoMemory = gives_up_dots (handles_of position) NoMemory
refused_dots way shallow position own follow n (todo inner rest b) BookFull = gives_up_dots (handles_of position) BookFull
refused_dots way shallow position own follow n (todo inner rest b) Busy = gives_up_dots (handles_of position) Busy
refused_dots way shallow position own follow n (todo inner rest b) Exists = gives_up_dots (handles_of position) Exists
refused_dots way shallow position own follow n (todo inner rest b) CrossRoot = gives_up_dots (handles_of position) CrossRoot
refused_dots way shallow position own follow n (todo inner rest b) NotDir = gives_up_dots (handles_of position) NotDir
refused_dots way shallow position own follow n (todo inner rest b) IsDir = gives_up_dots (handles_of position) IsDir
refused_dots way shallow position own follow n (todo inner rest b) Invalid = gives_up_dots (handles_of position) Invalid
refused_dots way shallow position own follow n (todo inner rest b) TooMany = gives_up_dots (handles_of position) TooMany
refused_dots way shallow position own follow n (todo inner rest b) TooLong = gives_up_dots (handles_of position) TooLong
refused_dots way shallow position own follow n (todo inner rest b) NotEmpty = gives_up_dots (handles_of position) NotEmpty
refused_dots way shallow position own follow n (todo inner rest b) Loop = gives_up_dots (handles_of position) Loop

text_dots : (way : Way) (room : Bool) (position : Position) (link : Handle) (absolute : Bool) (parts : List AskedPart) (rest : Todo)
    → Dots (walk.from_link way room position link absolute parts (with_dot rest)) (walk.from_link way room position link absolute parts rest)
text_dots way room position link true parts (todo inner own b) =
    room_dots room (link.number ∷ handles_of position) (closes way (link.number ∷ handles_of position) (onward root_itself (todo (parts ++ inner) (own ++ Cur ∷ []) b)))
    (closes way (link.number ∷ handles_of position) (onward root_itself (todo (parts ++ inner) own b))) (inl refl)
text_dots way room position link false parts (todo inner own b) =
    room_dots room (link.number ∷ handles_of position) (closes way (link.number ∷ []) (onward position (todo (parts ++ inner) (own ++ Cur ∷ []) b)))
    (closes way (link.number ∷ []) (onward position (todo (parts ++ inner) own b))) (inl refl)

read_dots : (way : Way) (room : Bool) (position : Position) (link : Handle) (rest : Todo) (text : List ℕ) (why : Option Errno)
    → Dots (walk.read_text way room position link (with_dot rest) text why) (walk.read_text way room position link rest text why)
read_dots way room position link rest text (Some error) = gives_up_dots (link.number ∷ handles_of position) error
read_dots way room position link rest text None = on (leads_out (begins_with_slash text) way.flags)
  where
    on : (b : Bool)
        → Dots (if b then gives_up (link.number ∷ handles_of position) CrossRoot else walk.from_link way room position link (begins_with_slash text) (followed (parts_of text)) (with_dot rest))
        (if b then gives_up (link.number ∷ handles_of position) CrossRoot else walk.from_link way room position link (begins_with_slash text) (followed (parts_of text)) rest)
    on true = gives_up_dots (link.number ∷ handles_of position) CrossRoot
    on false = text_dots way room position link (begins_with_slash text) (followed (parts_of text)) rest

judged_dots : (handle : Handle) (t u : Turn) (b : Bool) → Dots t u → Dots (if b then t else gives_up (handle.number ∷ []) Raced) (if b then u else gives_up (handle.number ∷ []) Raced)
judged_dots handle t u true dots = dots
judged_dots handle t u false dots = inl refl

end_dots : (handle : Handle) (names : List (List ℕ)) (rest : List AskedPart) → Dots (end_of handle names rest) (end_of handle names rest)
end_dots handle names [] = inl refl
end_dots handle names (p ∷ rest) = inl refl

rise_dots : (old : Handle) (error : Errno) → Dots (walk.refused_rise old error) (walk.refused_rise old error)
rise_dots old NotFound = inl refl
rise_dots old BadHandle = inl refl
rise_dots old Raced = inl refl
rise_dots old NoMemory = inl refl
rise_dots old BookFull = inl refl
rise_dots old Busy = inl refl
rise_dots old Exists = inl refl
rise_dots old CrossRoot = inl refl
rise_dots old NotDir = inl refl
rise_dots old IsDir = inl refl
rise_dots old Invalid = inl refl
rise_dots old TooMany = inl refl
rise_dots old TooLong = inl refl
rise_dots old NotEmpty = inl refl
rise_dots old Loop = inl refl

take_dots : (way : Way) → is_deepest way.goal ≡ false → (room : Bool) (w : Walking) (answer : Answer) → Dots (take_answer way room (walk_with w) answer) (take_answer way room w answer)
take_dots way shallow room (opening position own follow n rest) (Opened h x kind) =
    opened_dots way room position n (record { number = h; node = x; kind = kind }) rest (walk.is_followed follow kind)
take_dots way shallow room (opening position own follow n rest) (Text text) = refused_dots way shallow position own follow n rest BadHandle
take_dots way shallow room (opening position own follow n rest) (Names told) = refused_dots way shallow position own follow n rest BadHandle
take_dots way shallow room (opening position own follow n rest) NotBelow = refused_dots way shallow position own follow n rest BadHandle
take_dots way shallow room (opening position own follow n rest) (Listed listed) = refused_dots way shallow position own follow n rest BadHandle
take_dots way shallow room (opening position own follow n rest) Done = refused_dots way shallow position own follow n rest BadHandle
take_dots way shallow room (opening position own follow n rest) (Refused error) = refused_dots way shallow position own follow n rest error
take_dots way shallow room (reading position link rest) (Opened h x kind) = gives_up_dots (link.number ∷ handles_of position) BadHandle
take_dots way shallow room (reading position link rest) (Text text) = read_dots way room position link rest text (text_fault text)
take_dots way shallow room (reading position link rest) (Names told) = gives_up_dots (link.number ∷ handles_of position) BadHandle
take_dots way shallow room (reading position link rest) NotBelow = gives_up_dots (link.number ∷ handles_of position) BadHandle
take_dots way shallow room (reading position link rest) (Listed listed) = gives_up_dots (link.number ∷ handles_of position) BadHandle
take_dots way shallow room (reading position link rest) Done = gives_up_dots (link.number ∷ handles_of position) BadHandle
take_dots way shallow room (reading position link rest) (Refused error) = gives_up_dots (link.number ∷ handles_of position) error
take_dots way shallow room (rising old names rest) (Opened h x kind) = inl refl
take_dots way shallow room (rising old names rest) (Text text) = rise_dots old BadHandle
take_dots way shallow room (rising old names rest) (Names told) = rise_dots old BadHandle
take_dots way shallow room (rising old names rest) NotBelow = rise_dots old BadHandle
take_dots way shallow room (rising old names rest) (Listed listed) = rise_dots old BadHandle
take_dots way shallow room (rising old names rest) Done = rise_dots old BadHandle
take_dots way shallow room (rising old names rest) (Refused error) = rise_dots old error
take_dots way shallow room (judging new names rest) (Opened h x kind) = inl refl
take_dots way shallow room (judging new names rest) (Text text) = inl refl
take_dots way shallow room (judging new names rest) (Names told) =
    judged_dots new (goes_on way (holds new names) (with_dot rest)) (goes_on way (holds new names) rest) (same_names told (reverse names)) (goes_on_dots way (holds new names) rest)
take_dots way shallow room (judging new names rest) NotBelow = inl refl
take_dots way shallow room (judging new names rest) (Listed listed) = inl refl
take_dots way shallow room (judging new names rest) Done = inl refl
take_dots way shallow room (judging new names rest) (Refused error) = inl refl
take_dots way shallow room (duping rest) (Opened h x kind) = inl refl
take_dots way shallow room (duping rest) (Text text) = inl refl
take_dots way shallow room (duping rest) (Names told) = inl refl
take_dots way shallow room (duping rest) NotBelow = inl refl
take_dots way shallow room (duping rest) (Listed listed) = inl refl
take_dots way shallow room (duping rest) Done = inl refl
take_dots way shallow room (duping rest) (Refused error) = inl refl
take_dots way shallow room (ending handle names rest) (Opened h x kind) = inl refl
take_dots way shallow room (ending handle names rest) (Text text) = inl refl
take_dots way shallow room (ending handle names rest) (Names told) =
    judged_dots handle (end_of handle names rest) (end_of handle names rest) (same_names told (reverse names)) (end_dots handle names rest)
take_dots way shallow room (ending handle names rest) NotBelow = inl refl
take_dots way shallow room (ending handle names rest) (Listed listed) = inl refl
take_dots way shallow room (ending handle names rest) Done = inl refl
take_dots way shallow room (ending handle names rest) (Refused error) = inl refl
take_dots way shallow room (closing h hs after) answer = closes_dots way hs after

-- ---- lines

same_due : (way : Way) (w : Walking) → due way (walk_with w) ≡ due way w
same_due way (opening position own follow n rest) = refl
same_due way (reading position link rest) = refl
same_due way (rising handle names rest) = refl
same_due way (judging handle names rest) = refl
same_due way (duping rest) = refl
same_due way (ending handle names rest) = refl
same_due way (closing h hs after) = refl

module _ (way : Way) (shallow : is_deepest way.goal ≡ false) (handle : Handle) (names : List (List ℕ)) where
  abbrev at_question : Turn
  at_question = more (ending handle names [])

  closes_lost : (hs : List ℕ) (error : Errno) → IsLost (closes way hs (gives error))
  closes_lost [] error = tt
  closes_lost (h ∷ hs) error = tt

  lost_leads : (t : Turn) (lines : List Line) → IsLost t → LeadsTo way t lines at_question → ⊥
  lost_leads (more (closing h hs (gives error))) [] lost leads = cc (leads)
  lost_leads (more (closing h hs (gives error))) (line ∷ lines) lost leads = lost_leads (closes way hs (gives error)) lines (closes_lost hs error) leads.1
  lost_leads (more (closing h hs (onward position rest))) lines lost leads = lost
  lost_leads (more (closing h hs (judges new passed rest))) lines lost leads = lost
  lost_leads (more (opening position own follow n rest)) lines lost leads = lost
  lost_leads (more (reading position link rest)) lines lost leads = lost
  lost_leads (more (rising old passed rest)) lines lost leads = lost
  lost_leads (more (judging new passed rest)) lines lost leads = lost
  lost_leads (more (duping rest)) lines lost leads = lost
  lost_leads (more (ending new passed rest)) lines lost leads = lost
  lost_leads (found new passed) lines lost leads = lost
  lost_leads (partial new passed rest) lines lost leads = lost
  lost_leads (failed error) [] lost leads = cc (leads)
  lost_leads (failed error) (line ∷ lines) lost leads = leads

  same_question : (u : Turn) → turn_with u ≡ at_question → u ≡ at_question
  same_question (more (ending new passed rest)) e = e
  same_question (more (opening position own follow n rest)) e = cc (e)
  same_question (more (reading position link rest)) e = cc (e)
  same_question (more (rising old passed rest)) e = cc (e)
  same_question (more (judging new passed rest)) e = cc (e)
  same_question (more (duping rest)) e = cc (e)
  same_question (more (closing h hs after)) e = cc (e)
  same_question (found new passed) e = cc (e)
  same_question (partial new passed rest) e = cc (e)
  same_question (failed error) e = cc (e)

  fits_too : (w : Walking) (line : Line) → Fits (walk.walks way) (walk_with w) line → Fits (walk.walks way) w line
  fits_too w (answered step answer) fits = fits ∙ same_due way w
  fits_too w (no_room step answer) fits = fits ∙ same_due way w
  fits_too w (not_made error) fits = (fits.0, ap is_close (sym (same_due way w)) ∙ fits.1)

  pub dots_lead : (lines : List Line) (t u : Turn) → Dots t u → LeadsTo way t lines at_question → LeadsTo way u lines at_question
  dots_lead lines t u (inr lost) leads = absurd (lost_leads t lines lost leads)
  dots_lead [] t u (inl e) leads = same_question u (sym e ∙ leads)
  dots_lead (line ∷ lines) t (more w) (inl e) leads =
      let led = subst (λ x. LeadsTo way x (line ∷ lines) at_question) e leads in (
        fits_too w line led.0,
        dots_lead lines (take_answer way (has_room line) (walk_with w) (answer_of line)) (take_answer way (has_room line) w (answer_of line)) (take_dots way shallow (has_room line) w (answer_of line)) led.1,
      )
  dots_lead (line ∷ lines) t (found new passed) (inl e) leads = absurd (subst (λ x. LeadsTo way x (line ∷ lines) at_question) e leads)
  dots_lead (line ∷ lines) t (partial new passed rest) (inl e) leads = absurd (subst (λ x. LeadsTo way x (line ∷ lines) at_question) e leads)
  dots_lead (line ∷ lines) t (failed error) (inl e) leads = absurd (subst (λ x. LeadsTo way x (line ∷ lines) at_question) e leads)

-- ---- parts

pub asked_with : (ps : List Part) → asked true (ps ++ part.Cur ∷ []) ≡ asked true ps ++ Cur ∷ []
asked_with [] = refl
asked_with (p ∷ []) = refl
asked_with (p ∷ q ∷ ps) = ap (λ qs. ask true p ∷ qs) (asked_with (q ∷ ps))

last_off : (ps : List Part) → before_last (ps ++ part.Cur ∷ []) ≡ ps
last_off ps =
    ap (λ n. take n (ps ++ part.Cur ∷ [])) one_off ∙ take-append-le (length ps) ps (part.Cur ∷ []) (le_refl (length ps)) ∙ take_all (length ps) ps (le_refl (length ps))
  where
    one_off : length (ps ++ part.Cur ∷ []) - 1 ≡ length ps
    one_off = ap (λ n. n - 1) (length-append ps (part.Cur ∷ [])) ∙ omega arith

abbrev begun : Way → Bool → List Part → Turn
begun way absolute parts =
    if leads_out absolute way.flags then failed CrossRoot else goes_on way root_itself (todo [] (asked (follows way.goal) parts) LINKS_MAX)

begun_dots : (way : Way) → follows way.goal ≡ true → (absolute : Bool) (ps : List Part) → Dots (begun way absolute (ps ++ part.Cur ∷ [])) (begun way absolute ps)
begun_dots way follow absolute ps = on (leads_out absolute way.flags)
  where
    asked_so : asked (follows way.goal) (ps ++ part.Cur ∷ []) ≡ asked (follows way.goal) ps ++ Cur ∷ []
    asked_so = subst (λ f. asked f (ps ++ part.Cur ∷ []) ≡ asked f ps ++ Cur ∷ []) (sym follow) (asked_with ps)

    on : (b : Bool) → Dots (if b then failed CrossRoot else goes_on way root_itself (todo [] (asked (follows way.goal) (ps ++ part.Cur ∷ [])) LINKS_MAX))
        (if b then failed CrossRoot else goes_on way root_itself (todo [] (asked (follows way.goal) ps) LINKS_MAX))
    on true = inl refl
    on false = subst (λ qs. Dots (goes_on way root_itself (todo [] qs LINKS_MAX)) (goes_on way root_itself (todo [] (asked (follows way.goal) ps) LINKS_MAX))) (sym asked_so)
        (goes_on_dots way root_itself (todo [] (asked (follows way.goal) ps) LINKS_MAX))

-- what leads a walk of the text to its last question leads the walk of its parts without the slash there
module _ (way : Way) (shallow : is_deepest way.goal ≡ false) (follow : follows way.goal ≡ true) (handle : Handle) (names : List (List ℕ)) (text : List ℕ) (lines : List Line) where
  abbrev Leads : Bool → List Part → Type 0
  Leads absolute ps = LeadsTo way (begun way absolute ps) lines (more (ending handle names []))

  by_slash : (slash : Bool) (ps : List Part) → parts_of text ≡ ps ++ (if slash then part.Cur ∷ [] else []) → (absolute : Bool) → Leads absolute (parts_of text)
      → Leads absolute (if slash then before_last (parts_of text) else parts_of text)
  by_slash false ps e absolute leads = leads
  by_slash true ps e absolute leads =
      subst (Leads absolute) (sym (ap before_last e ∙ last_off ps))
      (dots_lead way shallow handle names lines (begun way absolute (ps ++ part.Cur ∷ [])) (begun way absolute ps) (begun_dots way follow absolute ps) (subst (Leads absolute) e leads))

  pub without_slash_leads : (dir : Reading) → (reading_of text).absolute ≡ dir.absolute → parts_without_slash (reading_of text) ≡ dir.parts
      → LeadsTo way (walk.begins way (reading_of text)) lines (more (ending handle names [])) → LeadsTo way (walk.begins way dir) lines (more (ending handle names []))
  without_slash_leads dir absolute parts leads =
      subst (λ b. Leads b dir.parts) absolute (subst (Leads (reading_of text).absolute) parts
      (by_slash (has_final_slash text) (map part_of (pieces text)) refl (reading_of text).absolute leads))
