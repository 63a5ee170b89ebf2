-- What holds of whole conversations.
use Rattle.std.specs.Prelude.{◌≡◌, ◌≢◌, ◌≤◌, ◌⊎◌, ℕ, ◌+◌, ◌*◌, ◌^◌, ◌++◌, List, [], ◌∷◌, ◌==◌, Bool, true, false, not, ◌&&◌, ◌||◌, if◌then◌else◌, bit_or, Option, Some, None}
use Rattle.dialogue.specs.Dialogue.{O_PATH}
use Rattle.dialogue.specs.Holds.{EachHolds}
use Rattle.dialogue.specs.declared.calls.Answer.{Answer}
use Rattle.find_proc.specs.declared.asks.Known.{Known}
use Rattle.kernel_calls.specs.Calls.{Ended, change_entry, rename, resolve}
use Rattle.kernel_calls.specs.Change.{is_made}
use Rattle.kernel_calls.specs.Path.{At}
use Rattle.kernel_calls.specs.Seen.{IsUnmade, Place, Seen, Wish, at_first, fds, looks, watch}
use Rattle.kernel_calls.specs.declared.change.Wanted.{Wanted}
use Rattle.kernel_calls.specs.declared.look.Outcome.{Outcome}
use Rattle.kernel_calls.specs.declared.look.Outcome.TheVariants.{Value, Fails, FailsAt, Steps}

-- ---- how a call ends

-- the reply is a descriptor
abbrev pub hands_out : Wish → Bool
hands_out w = w.how.gives || ((w.step == 9) && w.how.opens)

abbrev pub handed : Wish → Outcome → List ℕ
handed w (Value value) = if hands_out w then value ∷ [] else []
handed w (Fails error step) = []
handed w (FailsAt error step) = []
handed w Steps = []

-- the change's own error; or the change was made, and what it made can't be given (15, of inroot.h)
abbrev pub IsWhy : Wish → Answer → ℕ → ℕ → Type 0
IsWhy w made error step =
    (error ≢ 0) × (((step ≡ w.step) × (error ≡ made.error)) ⊎ ((step ≡ 15) × (made.error ≡ 0)))

-- of a call that gives an object another name also that of finding /proc, or of the object's link there
abbrev pub IsFailing : Bool → Wish → Option Answer → ℕ → ℕ → Type 0
IsFailing false w change error step = (made : Answer) × (change ≡ Some made) × IsWhy w made error step
IsFailing true w change error step =
    (error ≢ 0) × (((step ≡ w.step) × IsUnmade change)
    ⊎ ((step ≡ 15) × (made : Answer) × (change ≡ Some made) × (made.error ≡ 0)))

-- The change was made if the reply has no error. Single steps make the call only if no change was made. Else the error
-- is that of the look-up which failed, or of the change.
abbrev pub Replies : Wish → Seen → Outcome → Type 0
Replies w t (Value value) =
    (made : Answer) × (t.change ≡ Some made) × (made.error ≡ 0) × (hands_out w ≡ false → value ≡ 0)
Replies w t (Fails error step) = (t.change ≡ None) × (error ≡ t.why) × (error ≢ 0)
Replies w t (FailsAt error step) = IsFailing w.how.linked w t.change error step
Replies w t Steps = t.change ≡ None

-- Beside the reply's descriptor just those are open that are closed behind the call's end.
pub record CallEnds (w : Wish) (t : Seen) (e : Ended) : Type 0 where
  pub held : fds t.held ≡ handed w e.outcome ++ e.closes
  pub replies : Replies w t e.outcome

-- what is at the path's end is open alone, by one look-up of the whole path; above its descriptor stands its kind
abbrev pub IsReply : Bool → ℕ → ℕ → Type 0
IsReply true fd value = (kind : ℕ) × (value ≡ kind * 2 ^ 32 + fd)
IsReply false fd value = value ≡ fd

abbrev pub PathEnds : ℕ → At → Bool → Seen → Outcome → Type 0
PathEnds look at asks t (Value value) =
    (fd : ℕ) × (t.held ≡ record { fd = fd; by = looks look at at.slashed } ∷ []) × IsReply asks fd value
PathEnds look at asks t (Fails error step) = (t.held ≡ []) × (error ≡ t.why) × (error ≢ 0)
PathEnds look at asks t (FailsAt error step) = ⊥
PathEnds look at asks t Steps = t.held ≡ []

-- ---- laws

abbrev pub nothing : Wanted
nothing =
    record { device = 0; flags = 0; mode = 0; how = 0; fd = 0; linked = false; opens = false; gives = false }

-- open(2): O_NOFOLLOW unless the call follows, O_DIRECTORY if nothing else is of use
abbrev pub for_path : Known → At → Bool → Bool → Wish
for_path k at follows directory =
    record {
      look =
          bit_or (bit_or O_PATH (if not follows then k.machine.nofollow else 0))
          (if directory then k.machine.directory else 0);
      place = record { at = at; entry = record { above = Some at.slashed; name = [] } };
      step = 0;
      how = nothing;
      text = [];
      new = None;
      kept = k.kept;
    }

abbrev pub PathsHold : Type 0
PathsHold = (k : Known) (at : At) (follows directory asks : Bool)
    → EachHolds (watch (for_path k at follows directory)) 7 at_first (resolve k at follows directory asks)
    (λ t c. PathEnds (for_path k at follows directory).look at asks t c.value)

abbrev pub for_entry : Known → Place → Wanted → ℕ → List ℕ → Wish
for_entry k place how step text =
    record {
      look = bit_or O_PATH k.machine.directory;
      place = place;
      step = step;
      how = how;
      text = text;
      new = None;
      kept = k.kept;
    }

-- mkdir, mknod, symlink, unlink and rmdir: the steps 8 to 12 of inroot.h
abbrev pub EntriesHold : Type 0
EntriesHold = (k : Known) (p : Place) (how : Wanted) (step : ℕ) (text read : List ℕ) (is_last : Bool)
    → how.linked ≡ false → 8 ≤ step → step ≤ 12
    → EachHolds (watch (for_entry k p how step text)) 16 at_first
    (change_entry k p.at p.entry how step text read is_last) (CallEnds (for_entry k p how step text))

-- an object gets another name, which isn't opened as it is made: the steps 9 and 10
abbrev pub LinksHold : Type 0
LinksHold = (k : Known) (p : Place) (how : Wanted) (step : ℕ) (text read : List ℕ) (is_last : Bool)
    → how.linked ≡ true → how.opens ≡ false → is_made step ≡ true
    → EachHolds (watch (for_entry k p how step text)) 58 at_first
    (change_entry k p.at p.entry how step text read is_last) (CallEnds (for_entry k p how step text))

abbrev pub for_rename : Known → Place → Place → Wanted → Wish
for_rename k place new how = record (for_entry k place how 13 []) { new = Some new }

abbrev pub RenamesHold : Type 0
RenamesHold = (k : Known) (p new : Place) (how : Wanted) (is_last : Bool)
    → how.linked ≡ false → how.gives ≡ false
    → EachHolds (watch (for_rename k p new how)) 19 at_first
    (rename k p.at p.entry new.at new.entry how is_last) (CallEnds (for_rename k p new how))
