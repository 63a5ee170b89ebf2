-- How a /proc is handed in.
use Rattle.std.proofs.Common.{◌≡◌, ◌≢◌, ◌⊎◌, inl, inr, ℕ, ◌∷◌, Bool, true, false, not, if◌then◌else◌, Result, Ok, Err, refl, sym, ap, subst, ◌∙◌, arith}
use Rattle.std.specs.Prelude.{◌==◌, Some}
use Rattle.system_calls.specs.Errors.{EBUSY, ENOSYS}
use Rattle.dialogue.specs.Dialogue.{and_then, claims, ends, keeps, releases}
use Rattle.find_proc.specs.Asks.{SAME, is_proc}
use Rattle.find_proc.specs.HandIn.{checked, checked_of, copied, copy_checked, copy_handed, copy_opened, copy_told, floor_checked, hand_in}
use Rattle.find_proc.specs.Promises.{HandEnds, HandingHolds, for_program}
use Rattle.find_proc.specs.Seen.{IsOwn, Seen, Wish, at_first, copy_of, gets, lacking, looked_by, told_by, unasked, watch, why_no_proc}
use Rattle.find_proc.specs.declared.asks.File.{File}
use Rattle.find_proc.specs.declared.asks.Known.{Known}
use Rattle.dialogue.specs.Holds.{is_in}
use Rattle.dialogue.proofs.HeldLemmas.{first_in, in_by, out_by, same, without_first}
use Rattle.dialogue.proofs.HoldLemmas.{Goes, asks_then, both, goes_on, over, weak}
use Rattle.find_proc.proofs.Parts.{IsSome, closed, file, floor, floor_by, got, opened, proc}

-- it is the program's, or open
abbrev pub IsReached : Wish → Seen → ℕ → Type 0
IsReached w s fd = (w.handed ≡ Some fd) ⊎ (is_in fd s.held ≡ true)

-- ---- whether it is one

pub record Refused (s t : Seen) (error : ℕ) : Type 0 where
  pub stays : t ≡ record s { proc = t.proc; lacks = t.lacks; why = t.why }
  pub why : t.why ≡ why_no_proc s error
  pub some : error ≢ 0

abbrev pub Checked : Seen → ℕ → Seen → Result (Unit {0}) ℕ → Type 0
Checked s fd t (Ok done) = t ≡ record s { proc = Some fd }
Checked s fd t (Err error) = Refused s t error

lacks_so : (b : Bool) → ENOSYS ≡ (if b then ENOSYS else ENOSYS)
lacks_so true = refl
lacks_so false = refl

checks_proc : (w : Wish) (s : Seen) (fd : ℕ) (r : Result Bool ℕ) → IsSome r
    → Goes (watch w) 0 (looked_by s fd r) (ends (checked_of r)) (Checked s fd)
checks_proc w s fd (Ok true) some = over refl
checks_proc w s fd (Ok false) some = over (record { stays = refl; why = refl; some = λ zero. absurd cc })
checks_proc w s fd (Err error) some = over (record { stays = refl; why = refl; some = some })

checks_floor : (w : Wish) (s : Seen) (fd : ℕ) (has : Bool) → s.floor ≡ unasked → IsReached w s fd
    → Goes (watch w) 1 (floor_by s has) (floor_checked fd has) (Checked s fd)
checks_floor w s fd true quiet reached =
    goes_on 1 0 (looked_by s fd) (proc w s fd reached) (λ r some. checks_proc w s fd r some)
checks_floor w s fd false quiet reached =
    over
    (record {
      stays = ap (λ b. record (lacking s) { floor = b }) (sym quiet);
      why = lacks_so s.hands;
      some = λ zero. absurd cc;
    })

pub checks : (w : Wish) (s : Seen) (k : Known) (fd : ℕ) → s.floor ≡ unasked → IsReached w s fd
    → Goes (watch w) 4 s (checked k fd) (Checked s fd)
unfolding checked
checks w s k fd quiet reached =
    goes_on 3 1 (floor_by s) (floor w s k quiet) (λ has u. checks_floor w s fd has quiet reached)

-- ---- a copy

record IsCopy (s t : Seen) (fd : ℕ) (file : File) : Type 0 where
  held : t.held ≡ fd ∷ s.held
  claimed : t.claimed ≡ s.claimed
  filled : t.filled ≡ s.filled
  hands : t.hands ≡ true
  is_proc : t.proc ≡ Some fd
  told : t.told ≡ Some (record { fd = fd; file = file })
  why : t.why ≡ s.why

record NoCopy (s t : Seen) (error : ℕ) : Type 0 where
  held : t.held ≡ s.held
  claimed : t.claimed ≡ s.claimed
  filled : t.filled ≡ s.filled
  some : error ≢ 0
  why : error ≡ t.why

abbrev Copied : Seen → Seen → Result (ℕ × File) ℕ → Type 0
Copied s t (Ok copy) = IsCopy s t copy.0 copy.1
Copied s t (Err error) = NoCopy s t error

-- what was opened in it
abbrev copy_in : Seen → ℕ → ℕ → Seen
copy_in s fd copy = gets (record s { proc = Some fd }) copy (copy_of (Some fd) fd copy)

copies_file : (w : Wish) (s : Seen) (fd copy : ℕ) (r : Result File ℕ) → s.hands ≡ true → IsSome r
    → Goes (watch w) 1 (told_by w (copy_in s fd copy) copy r) (copy_told copy r) (Copied s)
copies_file w s fd copy (Ok file) hands some =
    over
    (record {
      held = refl;
      claimed = refl;
      filled = refl;
      hands = hands;
      is_proc = rw (same fd) refl;
      told = refl;
      why = refl;
    })
copies_file w s fd copy (Err error) hands some =
    closed w 0 (told_by w (copy_in s fd copy) copy (Err error)) copy error (Copied s) (first_in copy s.held)
    (record {
      held = without_first copy s.held;
      claimed = refl;
      filled = refl;
      some = some;
      why = rw (same fd) rw (same copy) refl;
    })

copies_opened : (w : Wish) (s : Seen) (fd : ℕ) (r : Result ℕ ℕ) → s.floor ≡ unasked → s.hands ≡ true → IsSome r
    → Goes (watch w) 2 (got (record s { proc = Some fd }) fd r) (copy_opened r) (Copied s)
copies_opened w s fd (Ok copy) quiet hands some =
    goes_on 1 1 (told_by w (copy_in s fd copy) copy)
    (file w (copy_in s fd copy) copy quiet (inr (first_in copy s.held)))
    (λ r some. copies_file w s fd copy r hands some)
copies_opened w s fd (Err error) quiet hands some =
    over (record { held = refl; claimed = refl; filled = refl; some = some; why = rw hands refl })

-- what is handed in; or what was made, and has the calling thread
abbrev pub IsWhose : Wish → Seen → ℕ → Type 0
IsWhose w s fd = (w.finds ≡ false) × ((w.handed ≡ Some fd) ⊎ IsOwn s fd)

copies_checked : (w : Wish) (s t : Seen) (k : Known) (fd : ℕ) (r : Result (Unit {0}) ℕ) → s.floor ≡ unasked
    → s.hands ≡ true → IsWhose w s fd → Checked s fd t r
    → Goes (watch w) 5 t (copy_checked k fd r) (Copied s)
copies_checked w s t k fd (Ok done) quiet hands whose is =
    subst (λ u. Goes (watch w) 5 u (copy_checked k fd (Ok done)) (Copied s)) (sym is)
    (goes_on 3 2 (got (record s { proc = Some fd }) fd)
    (opened w (record s { proc = Some fd }) fd SAME _ 0 (inr (record { same = refl; hands = whose.0; proc = refl; whose = whose.1 })))
    (λ r some. copies_opened w s fd r quiet hands some))
copies_checked w s t k fd (Err error) quiet hands whose refused =
    over
    (record {
      held = ap (λ (u : Seen). u.held) refused.stays;
      claimed = ap (λ (u : Seen). u.claimed) refused.stays;
      filled = ap (λ (u : Seen). u.filled) refused.stays;
      some = refused.some;
      why = sym (refused.why ∙ ap (λ b. if b then error else ENOSYS) hands);
    })

copies : (w : Wish) (s : Seen) (k : Known) (fd : ℕ) → s.floor ≡ unasked → s.hands ≡ true → IsReached w s fd
    → IsWhose w s fd → Goes (watch w) 9 s (copied k fd) (Copied s)
unfolding copied
copies w s k fd quiet hands reached whose =
    both 4 5 (checks w s k fd quiet reached) (λ t r is. copies_checked w s t k fd r quiet hands whose is)

-- ---- the program's

pub record HasFilled (s t : Seen) : Type 0 where
  pub held : t.held ≡ s.held
  pub claimed : t.claimed ≡ false
  pub fd : ℕ
  pub filled : t.filled ≡ Some fd

pub record HasNot (s t : Seen) (error : ℕ) : Type 0 where
  pub held : t.held ≡ s.held
  pub claimed : t.claimed ≡ false
  pub filled : t.filled ≡ s.filled
  pub some : error ≢ 0
  pub why : error ≡ t.why

abbrev pub Handed : Seen → Seen → Result (Unit {0}) ℕ → Type 0
Handed s t (Ok done) = HasFilled s t
Handed s t (Err error) = HasNot s t error

-- the place was claimed, or somebody else has it
abbrev claiming : Seen → Bool → Seen
claiming s true = record s { claimed = true; hands = true }
claiming s false = record s { hands = true; why = EBUSY }

fills : (w : Wish) (s t : Seen) (claimed : Bool) (r : Result (ℕ × File) ℕ) → s.claimed ≡ false
    → Copied (claiming s claimed) t r → Goes (watch w) 1 t (copy_handed claimed r) (Handed s)
fills w s t true (Ok copy) free c =
    asks_then 0 (keeps copy.0 copy.1.device copy.1.inode copy.1.mount true)
    (record {
      held = in_by copy.0 t.held s.held c.held;
      claimed = c.claimed;
      proc = c.is_proc;
      told = c.told;
      hands = sym c.hands;
    })
    (λ a. over
    (record { held = out_by copy.0 t.held s.held c.held; claimed = refl; fd = copy.0; filled = refl }))
fills w s t false (Ok copy) free c =
    closed w 0 t copy.0 EBUSY (Handed s) (in_by copy.0 t.held s.held c.held)
    (record {
      held = out_by copy.0 t.held s.held c.held;
      claimed = c.claimed ∙ free;
      filled = c.filled;
      some = λ zero. absurd cc;
      why = sym c.why;
    })
fills w s t true (Err error) free c =
    asks_then 0 releases c.claimed
    (λ a. over
    (record { held = c.held; claimed = refl; filled = c.filled; some = c.some; why = c.why }))
fills w s t false (Err error) free c =
    over (record { held = c.held; claimed = c.claimed ∙ free; filled = c.filled; some = c.some; why = c.why })

claims_so : (w : Wish) (s : Seen) (k : Known) (fd : ℕ) (claimed : Bool) → s.floor ≡ unasked → s.claimed ≡ false
    → IsReached w s fd → IsWhose w s fd
    → Goes (watch w) 10
    (if claimed then record s { claimed = true; hands = true } else record s { hands = true; why = EBUSY })
    (and_then (copied k fd) (copy_handed claimed)) (Handed s)
claims_so w s k fd true quiet free reached whose =
    both 9 1 (copies w (claiming s true) k fd quiet refl reached whose) (λ t r c. fills w s t true r free c)
claims_so w s k fd false quiet free reached whose =
    both 9 1 (copies w (claiming s false) k fd quiet refl reached whose) (λ t r c. fills w s t false r free c)

pub hands : (w : Wish) (s : Seen) (k : Known) (fd : ℕ) → s.floor ≡ unasked → s.claimed ≡ false
    → IsReached w s fd → IsWhose w s fd → Goes (watch w) 11 s (hand_in k fd) (Handed s)
unfolding hand_in
hands w s k fd quiet free reached whose =
    asks_then 10 (claims true) (sym (ap not whose.0)) (λ a. claims_so w s k fd (a.error == 0) quiet free reached whose)

-- ---- the law

to_end : (t : Seen) (r : Result (Unit {0}) ℕ) → Handed (at_first 0) t r → HandEnds t r
to_end t (Ok done) h = record { closed = h.held; free = h.claimed; fd = h.fd; filled = h.filled }
to_end t (Err error) h = record { closed = h.held; free = h.claimed; unfilled = h.filled; some = h.some; why = h.why }

pub handing-holds : HandingHolds
handing-holds k fd =
    (weak 11 (omega arith)
    (hands (for_program k fd) (at_first 0) k fd refl refl (inl refl) (refl, inl refl)) to_end).each
