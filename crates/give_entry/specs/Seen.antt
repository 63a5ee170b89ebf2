-- What the exchanges of a conversation come to, except signals: what is open, and what was seen of the entry.
use Rattle.std.specs.Prelude.{◌≡◌, ℕ, List, [], ◌∷◌, take, ◌==◌, Bool, true, false, not, ◌&&◌, ◌||◌, if◌then◌else◌, bit_and, Option, Some, None}
use Rattle.system_calls.specs.Errors.{EAGAIN}
use Rattle.system_calls.specs.Held.{without}
use Rattle.system_calls.specs.Objects.{is_same_object}
use Rattle.dialogue.specs.Dialogue.{SystemCall, closes, reads_link, stats}
use Rattle.dialogue.specs.Holds.{Watch, is_in}
use Rattle.dialogue.specs.declared.calls.Answer.{Answer}
use Rattle.give_entry.specs.Giving.{look_error, object_of, open_error}
use Rattle.give_entry.specs.Made.{is_text}
use Rattle.give_entry.specs.declared.giving.Made.{Made}
use Rattle.give_entry.specs.declared.giving.Made.TheVariants.{Name, File, Entry}

-- what was made: the system call that opens the entry by its name, and of a link the text; and what was read last
pub record Wish : Type 0 where
  pub opening : SystemCall
  pub made : Made
  pub text : List ℕ
  pub read : List ℕ

pub record Seen : Type 0 where
  -- it was asked to open the entry
  pub asked : Bool
  -- what was opened so
  pub entry : Option ℕ
  -- what is open
  pub held : List ℕ
  -- what was said of the entry, if it is of the kind that was made
  pub looked : Option Answer
  -- and it is the object that it must be, by the same mount
  pub same : Bool
  -- and has the text that was written
  pub text : Bool
  -- the last error that was met
  pub why : ℕ

-- the descriptor by which the file was made is open
abbrev pub held_first : Made → List ℕ
held_first (Name fd) = []
held_first (File fd) = fd ∷ []
held_first (Entry mode number) = []

abbrev pub at_first : Made → Seen
at_first made =
    record { asked = false; entry = None; held = held_first made; looked = None; same = false; text = false; why = 0 }

-- S_IFMT of inode(7)
abbrev pub KIND : ℕ
KIND = 61440

-- It has the bits of the kind that was made, and a device, of S_IFCHR or S_IFBLK, the very number that was made. What
-- got another name may be any.
abbrev pub is_as_made : Made → ℕ → ℕ → Bool
is_as_made (Name fd) mode device = true
is_as_made (File fd) mode device = bit_and mode KIND == 32768
is_as_made (Entry wanted number) mode device =
    (bit_and mode KIND == bit_and wanted KIND)
    && (not ((bit_and mode KIND == 8192) || (bit_and mode KIND == 24576)) || (device == number))

-- ---- answers

abbrev pub opened_after : Seen → Answer → Seen
opened_after s a =
    if not (a.error == 0) then record s { asked = true; why = open_error a.error }
    else record s { asked = true; entry = Some a.value; held = a.value ∷ s.held }

-- first the entry was looked at; then the object that it must be
abbrev pub looked_after : Made → Seen → Option Answer → Answer → Seen
looked_after made s None a =
    if not (look_error a == 0) then record s { why = look_error a }
    else (if is_as_made made a.mode a.node then record s { looked = Some a } else record s { why = EAGAIN })
looked_after made s (Some about) a =
    if not (look_error a == 0) then record s { why = look_error a }
    else (if is_same_object (object_of about) (object_of a) false then record s { same = true }
    else record s { why = EAGAIN })

abbrev pub read_after : Wish → Seen → Answer → Seen
read_after w s a =
    if not (a.error == 0) then record s { why = a.error }
    else (if is_text (take a.value w.read) w.text then record s { text = true } else record s { why = EAGAIN })

abbrev pub asked_after : Wish → Seen → SystemCall → Answer → Seen
asked_after w s (stats fd) a = looked_after w.made s s.looked a
asked_after w s (reads_link fd) a = read_after w s a
asked_after w s (closes fd) a = record s { held = without fd s.held }
asked_after w s _ a = s

abbrev pub seen_by : Wish → Seen → SystemCall → Answer → Seen
seen_by w s q a = if s.asked then asked_after w s q a else opened_after s a

-- ---- where each system call may come

-- it is open, and the entry
abbrev pub IsEntry : Seen → ℕ → Type 0
IsEntry s fd = (s.entry ≡ Some fd) × (is_in fd s.held ≡ true)

-- it is of the object that the entry must be
abbrev pub IsOther : Made → Seen → ℕ → Type 0
IsOther (Name other) s fd = fd ≡ other
IsOther (File other) s fd = (fd ≡ other) × (is_in fd s.held ≡ true)
IsOther (Entry mode number) s fd = ⊥

abbrev pub MayLook : Made → Seen → Option Answer → ℕ → Type 0
MayLook made s None fd = IsEntry s fd
MayLook made s (Some about) fd = IsOther made s fd

-- What is looked at, read or closed is open then. No other system calls come but the one that opens the entry.
abbrev pub MayBehind : Wish → Seen → SystemCall → Type 0
MayBehind w s (stats fd) = MayLook w.made s s.looked fd
MayBehind w s (reads_link fd) = IsEntry s fd
MayBehind w s (closes fd) = is_in fd s.held ≡ true
MayBehind w s _ = ⊥

abbrev pub May : Wish → Bool → Seen → SystemCall → Type 0
May w false s q = q ≡ w.opening
May w true s q = MayBehind w s q

abbrev pub watch : Wish → Watch Seen
watch w = record { by = λ s x. seen_by w s x.asked x.answer; May = λ s q. May w s.asked s q }
