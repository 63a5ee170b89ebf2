-- A walk is at its end by one question alone, where its object stands, at which the names passed are told.
use Rattle.std.proofs.Common.{◌≡◌, ℕ, zero, suc, Bool, true, false, ◌&&◌, List, [], ◌∷◌, ◌++◌, reverse, refl, sym, ap, ◌∙◌, subst}
use Rattle.std.specs.Prelude.{if◌then◌else◌, Option, Some, None}
use Rattle.std.specs.Cmp.Lexicographic.{pointwise_decides, bytes_decides}
use Rattle.path_text.specs.declared.errno.Errno.{Errno}
use Rattle.path_text.specs.declared.errno.Errno.TheVariants.{NotFound, BadHandle, Raced, NoMemory, BookFull, Busy, Exists, CrossRoot, NotDir, IsDir, Invalid, TooMany, TooLong, NotEmpty, Loop}
use Rattle.path_text.specs.Names.{same_names}
use Rattle.path_text.specs.Reading.{Reading}
use Rattle.path_text.specs.Text.{text_fault, parts_of, begins_with_slash}
use Rattle.tree_model.specs.declared.answer.Answer.{Answer}
use Rattle.tree_model.specs.declared.answer.Answer.TheVariants.{Opened, Text, Names, NotBelow, Listed, Done, Refused}
use Rattle.step_machine.specs.Machine.{Fits}
use Rattle.walk_plan.specs.Plan.{leads_out}
use Rattle.step_resolver.specs.Asked.{AskedPart, Cur, Up, Named, asked, followed, follows, is_deepest}
use Rattle.step_resolver.specs.Meaning.{LINKS_MAX, is_too_long}
use Rattle.step_resolver.specs.Order.{Way, Handle, Line, answered, no_room, not_made, has_room, answer_of, opening, reading, rising, judging, duping, ending, closing, Position, root_itself, holds, Todo, todo, After, gives, onward, judges, Walking, Turn, more, found, partial, failed, begins, goes_on, take, due, gives_up, handles_of, at_end, LeadsTo}
use Rattle.step_resolver.specs.Order as walk
use Rattle.kernel_walks.proofs.SeenBelow.{IsQuestion}

abbrev pub not_found : Turn → Type 0
not_found (found handle names) = ⊥
not_found turn = Unit {0}

gives_none : (hs : List ℕ) (error : Errno) → not_found (gives_up hs error)
gives_none [] error = tt
gives_none (h ∷ hs) error = tt

top_none : (way : Way) (position : Position) (stays : Turn) → not_found stays → not_found (walk.at_top way position stays)
top_none way position stays none = on way.flags.beneath
  where
    on : (b : Bool) → not_found (if b then gives_up (walk.handles_of position) CrossRoot else stays)
    on true = gives_none (walk.handles_of position) CrossRoot
    on false = none

part_none : (way : Way) (position : Position) (p : AskedPart) (own : Bool) (rest : Todo) (passed : Turn) → not_found passed
    → not_found (walk.on_part way position p own rest passed)
part_none way position p own rest passed none = on (walk.is_dir_position position)
  where
    named : (follow long : Bool) (n : List ℕ)
        → not_found (if long then gives_up (walk.handles_of position) TooLong else more (opening position own follow n rest))
    named follow true n = gives_none (walk.handles_of position) TooLong
    named follow false n = tt

    inside : (position' : Position) (p : AskedPart) → position' ≡ position → not_found (walk.in_directory way position' p own rest passed)
    inside position' Cur e = none
    inside root_itself Up e = top_none way root_itself passed none
    inside (holds handle []) Up e = top_none way (holds handle []) passed none
    inside (holds handle (n ∷ names)) Up e = tt
    inside position' (Named follow n) e =
        subst (λ q. not_found (if is_too_long n then gives_up (walk.handles_of q) TooLong else more (opening q own follow n rest))) (sym e) (named follow (is_too_long n) n)

    on : (b : Bool) → not_found (if b then walk.in_directory way position p own rest passed else gives_up (walk.handles_of position) NotDir)
    on true = inside position p refl
    on false = gives_none (walk.handles_of position) NotDir

own_none : (way : Way) (position : Position) (own : List AskedPart) (b : ℕ) → not_found (walk.on_own way position own b)
own_none way root_itself [] b = tt
own_none way (holds handle names) [] b = tt
own_none way position (p ∷ own) b = part_none way position p true (todo [] own b) (walk.on_own way position own b) (own_none way position own b)

parts_none : (way : Way) (position : Position) (inner own : List AskedPart) (b : ℕ) → not_found (walk.on_parts way position inner own b)
parts_none way position [] own b = own_none way position own b
parts_none way position (p ∷ inner) own b =
    part_none way position p false (todo inner own b) (walk.on_parts way position inner own b) (parts_none way position inner own b)

pub begins_not_found : (way : Way) (path : Reading) → not_found (begins way path)
begins_not_found way path = on (leads_out path.absolute way.flags)
  where
    on : (b : Bool) → not_found (if b then failed CrossRoot else goes_on way root_itself (todo [] (asked (follows way.goal) path.parts) LINKS_MAX))
    on true = tt
    on false = parts_none way root_itself [] (asked (follows way.goal) path.parts) LINKS_MAX

goes_none : (way : Way) (position : Position) (rest : Todo) → not_found (goes_on way position rest)
goes_none way position (todo inner own b) = parts_none way position inner own b

comes_none : (way : Way) (after : After) → not_found (walk.comes way after)
comes_none way (gives error) = tt
comes_none way (onward position rest) = goes_none way position rest
comes_none way (judges handle names rest) = tt

closes_none : (way : Way) (hs : List ℕ) (after : After) → not_found (walk.closes way hs after)
closes_none way [] after = comes_none way after
closes_none way (h ∷ hs) after = tt

room_none : (room : Bool) (hs : List ℕ) (turn : Turn) → not_found turn → not_found (walk.with_room room hs turn)
room_none true hs turn none = none
room_none false hs turn none = gives_none hs NoMemory

if_none : (b : Bool) (t u : Turn) → not_found t → not_found u → not_found (if b then t else u)
if_none true t u one other = one
if_none false t u one other = other

end_none : (position : Position) (rest : List AskedPart) → not_found (at_end position rest)
end_none root_itself rest = tt
end_none (holds handle names) rest = tt

link_none : (way : Way) (position : Position) (link : Handle) (rest : Todo) → not_found (walk.follows_link way position link rest)
link_none way position link (todo inner own zero) = tt
link_none way position link (todo inner own (suc b)) = if_none way.flags.no_links (gives_up (link.number ∷ handles_of position) Loop) (more (reading position link (todo inner own b))) tt tt

opened_none : (way : Way) (room : Bool) (position : Position) (n : List ℕ) (new : Handle) (rest : Todo) (b : Bool)
    → not_found (if b then walk.follows_link way position new rest else walk.enters way room position n new rest)
opened_none way room position n new rest true = link_none way position new rest
opened_none way room position n new rest false =
    room_none room (new.number ∷ handles_of position) (walk.closes way (handles_of position) (onward (holds new (n ∷ walk.names_of position)) rest))
    (closes_none way (handles_of position) (onward (holds new (n ∷ walk.names_of position)) rest))

refused_none : (way : Way) (position : Position) (own follow : Bool) (n : List ℕ) (rest : Todo) (error : Errno) → not_found (walk.refused_open way position own follow n rest error)
refused_none way position own follow n (todo inner rest b) NotFound =
    if_none (is_deepest way.goal && own) (at_end position (Named follow n ∷ rest)) (gives_up (handles_of position) NotFound) (end_none position (Named follow n ∷ rest))
    (gives_none (handles_of position) NotFound)
refused_none way position own follow n (todo inner rest b) BadHandle = gives_none (handles_of position) BadHandle
refused_none way position own follow n (todo inner rest b) Raced = gives_none (handles_of position) Raced
refused_none way position own follow n (todo inner rest b) NoMemory = gives_none (handles_of position) NoMemory
refused_none way position own follow n (todo inner rest b) BookFull = gives_none (handles_of position) BookFull
refused_none way position own follow n (todo inner rest b) Busy = gives_none (handles_of position) Busy
refused_none way position own follow n (todo inner rest b) Exists = gives_none (handles_of position) Exists
refused_none way position own follow n (todo inner rest b) CrossRoot = gives_none (handles_of position) CrossRoot
refused_none way position own follow n (todo inner rest b) NotDir = gives_none (handles_of position) NotDir
refused_none way position own follow n (todo inner rest b) IsDir = gives_none (handles_of position) IsDir
refused_none way position own follow n (todo inner rest b) Invalid = gives_none (handles_of position) Invalid
refused_none way position own follow n (todo inner rest b) TooMany = gives_none (handles_of position) TooMany
refused_none way position own follow n (todo inner rest b) TooLong = gives_none (handles_of position) TooLong
refused_none way position own follow n (todo inner rest b) NotEmpty = gives_none (handles_of position) NotEmpty
refused_none way position own follow n (todo inner rest b) Loop = gives_none (handles_of position) Loop

text_none : (way : Way) (room : Bool) (position : Position) (link : Handle) (absolute : Bool) (parts : List AskedPart) (rest : Todo)
    → not_found (walk.from_link way room position link absolute parts rest)
text_none way room position link true parts (todo inner own b) =
    room_none room (link.number ∷ handles_of position) (walk.closes way (link.number ∷ handles_of position) (onward root_itself (todo (parts ++ inner) own b))) tt
text_none way room position link false parts (todo inner own b) =
    room_none room (link.number ∷ handles_of position) (walk.closes way (link.number ∷ []) (onward position (todo (parts ++ inner) own b))) tt

read_none : (way : Way) (room : Bool) (position : Position) (link : Handle) (rest : Todo) (text : List ℕ) (why : Option Errno)
    → not_found (walk.read_text way room position link rest text why)
read_none way room position link rest text (Some error) = tt
read_none way room position link rest text None =
    if_none (leads_out (begins_with_slash text) way.flags) (gives_up (link.number ∷ handles_of position) CrossRoot)
    (walk.from_link way room position link (begins_with_slash text) (followed (parts_of text)) rest) tt
    (text_none way room position link (begins_with_slash text) (followed (parts_of text)) rest)

rise_none : (old : Handle) (error : Errno) → not_found (walk.refused_rise old error)
rise_none old NotFound = tt
rise_none old BadHandle = tt
rise_none old Raced = tt
rise_none old NoMemory = tt
rise_none old BookFull = tt
rise_none old Busy = tt
rise_none old Exists = tt
rise_none old CrossRoot = tt
rise_none old NotDir = tt
rise_none old IsDir = tt
rise_none old Invalid = tt
rise_none old TooMany = tt
rise_none old TooLong = tt
rise_none old NotEmpty = tt
rise_none old Loop = tt

-- ---- each answer

-- it isn't at its end, or it was asked where the object stands, and it is at the names passed
data Taken (way : Way) (room : Bool) (w : Walking) (answer : Answer) : Type 0 where
  leads_on : not_found (take way room w answer) → Taken way room w answer
  is_found : (handle : Handle) (names : List (List ℕ)) → w ≡ ending handle names [] → answer ≡ Names (reverse names) → take way room w answer ≡ found handle names
      → Taken way room w answer

judged_so : (way : Way) (room : Bool) (handle : Handle) (names told : List (List ℕ)) (b : Bool) → same_names told (reverse names) ≡ b → Taken way room (ending handle names []) (Names told)
judged_so way room handle names told true e =
    is_found handle names refl (ap (λ ns. Names ns) ((pointwise_decides bytes_decides told (reverse names)).0 e))
    (ap (λ b. if b then found handle names else gives_up (handle.number ∷ []) Raced) e)
judged_so way room handle names told false e =
    leads_on (subst not_found (sym (ap (λ b. if b then found handle names else gives_up (handle.number ∷ []) Raced) e)) tt)

taken_so : (way : Way) (room : Bool) (w : Walking) (answer : Answer) → Taken way room w answer
taken_so way room (opening position own follow n rest) (Opened h x kind) =
    leads_on (opened_none way room position n (record { number = h; node = x; kind = kind }) rest (walk.is_followed follow kind))
taken_so way room (opening position own follow n rest) (Text text) = leads_on (refused_none way position own follow n rest BadHandle)
taken_so way room (opening position own follow n rest) (Names told) = leads_on (refused_none way position own follow n rest BadHandle)
taken_so way room (opening position own follow n rest) NotBelow = leads_on (refused_none way position own follow n rest BadHandle)
taken_so way room (opening position own follow n rest) (Listed listed) = leads_on (refused_none way position own follow n rest BadHandle)
taken_so way room (opening position own follow n rest) Done = leads_on (refused_none way position own follow n rest BadHandle)
taken_so way room (opening position own follow n rest) (Refused error) = leads_on (refused_none way position own follow n rest error)
taken_so way room (reading position link rest) (Opened h x kind) = leads_on tt
taken_so way room (reading position link rest) (Text text) = leads_on (read_none way room position link rest text (text_fault text))
taken_so way room (reading position link rest) (Names told) = leads_on tt
taken_so way room (reading position link rest) NotBelow = leads_on tt
taken_so way room (reading position link rest) (Listed listed) = leads_on tt
taken_so way room (reading position link rest) Done = leads_on tt
taken_so way room (reading position link rest) (Refused error) = leads_on tt
taken_so way room (rising old names rest) (Opened h x kind) = leads_on tt
taken_so way room (rising old names rest) (Text text) = leads_on (rise_none old BadHandle)
taken_so way room (rising old names rest) (Names told) = leads_on (rise_none old BadHandle)
taken_so way room (rising old names rest) NotBelow = leads_on (rise_none old BadHandle)
taken_so way room (rising old names rest) (Listed listed) = leads_on (rise_none old BadHandle)
taken_so way room (rising old names rest) Done = leads_on (rise_none old BadHandle)
taken_so way room (rising old names rest) (Refused error) = leads_on (rise_none old error)
taken_so way room (judging new names rest) (Opened h x kind) = leads_on tt
taken_so way room (judging new names rest) (Text text) = leads_on tt
taken_so way room (judging new names rest) (Names told) =
    leads_on (if_none (same_names told (reverse names)) (goes_on way (holds new names) rest) (gives_up (new.number ∷ []) Raced) (goes_none way (holds new names) rest) tt)
taken_so way room (judging new names rest) NotBelow = leads_on tt
taken_so way room (judging new names rest) (Listed listed) = leads_on tt
taken_so way room (judging new names rest) Done = leads_on tt
taken_so way room (judging new names rest) (Refused error) = leads_on tt
taken_so way room (duping rest) (Opened h x kind) = leads_on tt
taken_so way room (duping rest) (Text text) = leads_on tt
taken_so way room (duping rest) (Names told) = leads_on tt
taken_so way room (duping rest) NotBelow = leads_on tt
taken_so way room (duping rest) (Listed listed) = leads_on tt
taken_so way room (duping rest) Done = leads_on tt
taken_so way room (duping rest) (Refused error) = leads_on tt
taken_so way room (ending handle names rest) (Opened h x kind) = leads_on tt
taken_so way room (ending handle names rest) (Text text) = leads_on tt
taken_so way room (ending handle names []) (Names told) = judged_so way room handle names told (same_names told (reverse names)) refl
taken_so way room (ending handle names (p ∷ rest)) (Names told) =
    leads_on (if_none (same_names told (reverse names)) (partial handle names (p ∷ rest)) (gives_up (handle.number ∷ []) Raced) tt tt)
taken_so way room (ending handle names rest) NotBelow = leads_on tt
taken_so way room (ending handle names rest) (Listed listed) = leads_on tt
taken_so way room (ending handle names rest) Done = leads_on tt
taken_so way room (ending handle names rest) (Refused error) = leads_on tt
taken_so way room (closing h hs after) answer = leads_on (closes_none way hs after)

-- ---- the lines

-- the lines before the question lead up to it, and it is the last one
pub record AtQuestion (way : Way) (turn : Turn) (lines : List Line) (handle : Handle) (names : List (List ℕ)) : Type 0 where
  pub front : List Line
  pub last : Line
  pub whole : lines ≡ front ++ last ∷ []
  pub led : LeadsTo way turn front (more (ending handle names []))
  pub question : IsQuestion way handle (reverse names) last

module _ (way : Way) (handle : Handle) (names : List (List ℕ)) where
  asks_so : (w : Walking) (line : Line) → w ≡ ending handle names [] → Fits (walk.walks way) w line → answer_of line ≡ Names (reverse names) → IsQuestion way handle (reverse names) line
  asks_so w (answered step answer) at fits told = (fits ∙ ap (due way) at, told)
  asks_so w (no_room step answer) at fits told = (fits ∙ ap (due way) at, told)
  asks_so w (not_made error) at fits told = cc (told)

  one_more : (w : Walking) (line : Line) (lines : List Line) → Fits (walk.walks way) w line → AtQuestion way (take way (has_room line) w (answer_of line)) lines handle names
      → AtQuestion way (more w) (line ∷ lines) handle names
  one_more w line lines fits at = record {
    front = line ∷ at.front;
    last = at.last;
    whole = ap (λ ls. line ∷ ls) at.whole;
    led = (fits, at.led);
    question = at.question;
  }

  at_last : (w : Walking) (line : Line) (lines : List Line) (h : Handle) (ns : List (List ℕ)) → w ≡ ending h ns [] → answer_of line ≡ Names (reverse ns) → Fits (walk.walks way) w line
      → LeadsTo way (found h ns) lines (found handle names) → AtQuestion way (more w) (line ∷ lines) handle names
  at_last w line [] h ns at told fits leads =
      let same_handle : h ≡ handle = cc (leads) in
      let same_passed : ns ≡ names = cc (leads) in
      let there : w ≡ ending handle names [] = at ∙ ap (λ x. ending x ns []) same_handle ∙ ap (λ x. ending handle x []) same_passed in
      record {
        front = [];
        last = line;
        whole = refl;
        led = ap (λ v. more v) there;
        question = asks_so w line there fits (told ∙ ap (λ x. Names (reverse x)) same_passed);
      }
  at_last w line (other ∷ lines) h ns at told fits leads = absurd leads

  pub found_asks : (turn : Turn) (lines : List Line) → not_found turn → LeadsTo way turn lines (found handle names) → AtQuestion way turn lines handle names
  found_asks turn [] none leads = absurd (subst not_found leads none)
  found_asks (more w) (line ∷ lines) none leads = by (taken_so way (has_room line) w (answer_of line)) (λ next. found_asks (take way (has_room line) w (answer_of line)) lines next leads.1)
    where
      by : Taken way (has_room line) w (answer_of line) → (not_found (take way (has_room line) w (answer_of line)) → AtQuestion way (take way (has_room line) w (answer_of line)) lines handle names)
          → AtQuestion way (more w) (line ∷ lines) handle names
      by (leads_on next) later = one_more w line lines leads.0 (later next)
      by (is_found h ns at told is) later = at_last w line lines h ns at told leads.0 (subst (λ t. LeadsTo way t lines (found handle names)) is leads.1)
  found_asks (found h ns) (line ∷ lines) none leads = absurd leads
  found_asks (partial h ns rest) (line ∷ lines) none leads = absurd leads
  found_asks (failed error) (line ∷ lines) none leads = absurd leads
