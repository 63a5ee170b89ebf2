-- What holds of whole conversations.
use Rattle.std.specs.Prelude.{◌≡◌, ◌≢◌, ◌⊎◌, ℕ, List, [], ◌∷◌, Bool, true, false, Some, None, Result, Ok, Err}
use Rattle.system_calls.specs.Errors.{EBUSY, ENOSYS}
use Rattle.dialogue.specs.Dialogue.{Exchange, Whole}
use Rattle.dialogue.specs.Holds.{EachHolds}
use Rattle.find_proc.specs.Find.{find, is_it, is_lost, kept_of, proc_of}
use Rattle.find_proc.specs.HandIn.{hand_in}
use Rattle.find_proc.specs.Private.{make_private}
use Rattle.find_proc.specs.Seen.{Seen, Wish, at_first, watch}
use Rattle.find_proc.specs.declared.asks.File.{File}
use Rattle.find_proc.specs.declared.asks.Kept.{Kept}
use Rattle.find_proc.specs.declared.asks.Known.{Known}
use Rattle.find_proc.specs.declared.asks.Proc.{Proc}

-- ---- how it ends

-- nothing is open in the end, and the program's place isn't claimed any more; it fails by the last error that was met
pub record Fails (t : Seen) (error : ℕ) : Type 0 where
  pub closed : t.held ≡ []
  pub free : t.claimed ≡ false
  pub unfilled : t.filled ≡ None
  pub some : error ≢ 0
  pub why : error ≡ t.why

-- the last answer about the program's descriptor says that it is the one
pub record IsShown (kept : Kept) (surely : Bool) (t : Seen) : Type 0 where
  pub there : kept.there ≡ true
  pub file : File
  pub told : t.told ≡ Some (record { fd = kept.fd; file = file })
  pub shown : is_it kept surely file ≡ true

pub record IsAtHand (kept : Kept) (surely : Bool) (t : Seen) (f : Kept) (proc : Proc) : Type 0 where
  pub is : proc ≡ proc_of kept.fd false
  pub stays : f ≡ kept
  pub shown : IsShown kept surely t
  pub closed : t.held ≡ []
  pub free : t.claimed ≡ false
  pub unfilled : t.filled ≡ None

-- it is the call's to close; or the program's, whose place was claimed
abbrev pub IsOnes : Bool → Kept → Seen → Kept → ℕ → File → Type 0
IsOnes true kept t f fd file = (t.held ≡ fd ∷ []) × (t.filled ≡ None) × (f ≡ kept)
IsOnes false kept t f fd file = (t.held ≡ []) × (t.filled ≡ Some fd) × (f ≡ kept_of fd file)

-- it was seen to be a proc(5), and it was asked which file it is
pub record IsNew (kept : Kept) (t : Seen) (f : Kept) (proc : Proc) : Type 0 where
  pub is_proc : t.proc ≡ Some proc.fd
  pub file : File
  pub told : t.told ≡ Some (record { fd = proc.fd; file = file })
  pub ones : IsOnes proc.own kept t f proc.fd file
  pub free : t.claimed ≡ false

-- there is none: the kernel lacks what is needed, or no kept one is passed over unasked
abbrev pub IsNone : Kept → Seen → Type 0
IsNone kept t = (t.lacks ≡ true) ⊎ (kept.there ≡ true → t.denied ≡ true)

abbrev pub FindEnds : Kept → Bool → Seen → Kept → Result Proc ℕ → Type 0
FindEnds kept surely t f (Ok proc) = IsAtHand kept surely t f proc ⊎ IsNew kept t f proc
FindEnds kept surely t f (Err error) = Fails t error × (f ≡ kept) × IsNone kept t

abbrev pub LostEnds : Kept → ℕ → Seen → Bool → Type 0
LostEnds kept fd t true = IsNone kept t
LostEnds kept fd t false = kept.there ≡ true → kept.fd ≡ fd → IsShown kept true t

-- what was handed in is closed, except its copy, which is the program's
pub record IsHandedIn (t : Seen) : Type 0 where
  pub closed : t.held ≡ []
  pub free : t.claimed ≡ false
  pub fd : ℕ
  pub filled : t.filled ≡ Some fd

abbrev pub HandEnds : Seen → Result (Unit {0}) ℕ → Type 0
HandEnds t (Ok done) = IsHandedIn t
HandEnds t (Err error) = Fails t error

-- ---- what is wanted

abbrev pub for_call : Known → Bool → Wish
for_call k surely = record { kept = k.kept; surely = surely; finds = true; handed = None }

abbrev pub for_own : Known → Wish
for_own k = record { kept = k.kept; surely = false; finds = false; handed = None }

abbrev pub for_program : Known → ℕ → Wish
for_program k fd = record { kept = k.kept; surely = false; finds = false; handed = Some fd }

-- ---- laws

abbrev pub FindsHold : Type 0
FindsHold = (k : Known) (surely : Bool)
    → EachHolds (watch (for_call k surely)) 11 (at_first ENOSYS) (find k surely)
    (λ t f. FindEnds k.kept surely t f.kept f.proc)

abbrev pub LooksHold : Type 0
LooksHold = (k : Known) (fd : ℕ)
    → EachHolds (watch (for_call k true)) 4 (at_first ENOSYS) (is_lost k fd) (λ t lost. LostEnds k.kept fd t lost)

abbrev pub HandingHolds : Type 0
HandingHolds = (k : Known) (fd : ℕ) → EachHolds (watch (for_program k fd)) 11 (at_first 0) (hand_in k fd) HandEnds

abbrev pub MakingHolds : Type 0
MakingHolds = (k : Known) → k.kept.claimed ≡ false
    → EachHolds (watch (for_own k)) 30 (at_first 0) (make_private k) HandEnds

-- the program has one already
abbrev pub NoneIsMade : Type 0
NoneIsMade = (k : Known) (es : List Exchange) (r : Result (Unit {0}) ℕ) → k.kept.claimed ≡ true
    → Whole (make_private k) es r → (es ≡ []) × (r ≡ Err EBUSY)
