-- Which dialogue of `kernel_calls` a call on paths is.
use Rattle.std.specs.Prelude.{◌≡◌, ◌⊎◌, ℕ, List, [], ◌==◌, Bool, true, false, not, ◌&&◌, ◌||◌, if◌then◌else◌, nat_lt, bit_and, Result, Ok, Err}
use Rattle.system_calls.specs.Errors.{EBADF, EINVAL, ENOSYS}
use Rattle.system_calls.specs.Objects.{is_node}
use Rattle.dialogue.specs.Dialogue.{Dialogue, Ran, and_then, asked_of, came, due, ends}
use Rattle.dialogue.specs.declared.calls.Question.{Question}
use Rattle.find_proc.specs.declared.asks.Known.{Known}
use Rattle.kernel_calls.specs.Calls.{Ended, change_entry, ended, rename, resolve}
use Rattle.kernel_calls.specs.Entry.{EntryAt, IsDivision}
use Rattle.kernel_calls.specs.Flags.{GIVE as GIVE_STEP, has}
use Rattle.kernel_calls.specs.Look.{Came}
use Rattle.kernel_calls.specs.Path.{At}
use Rattle.kernel_calls.specs.declared.change.Wanted.{Wanted}
use Rattle.kernel_calls.specs.declared.look.Outcome.{Outcome}
use Rattle.kernel_calls.specs.declared.look.Outcome.TheVariants as outcomes
use Rattle.linux_call.specs.declared.make_all.Gave.{Gave}
use Rattle.linux_call.specs.declared.path.Texts.{Texts}
use Rattle.linux_call.specs.declared.request.Reply.{Reply}
use Rattle.linux_call.specs.declared.request.Reply.TheVariants.{Value, Fails, Failed, Steps}
use Rattle.linux_call.specs.declared.request.Request.{Request}

-- a call's dialogue, and what it comes to
abbrev pub CallDialogue : Type 0
CallDialogue = Dialogue Ended

-- ---- replies

-- a number; an error, and the step to blame; or single steps make the call
abbrev pub plain : Outcome → Outcome
plain (outcomes.Value value) = outcomes.Value value
plain (outcomes.Fails error step) = outcomes.Fails error step
plain (outcomes.FailsAt error step) = outcomes.Fails error step
plain outcomes.Steps = outcomes.Steps

abbrev pub outcome_of : Reply → Outcome
outcome_of (Value value name) = outcomes.Value value
outcome_of (Fails error step name) = outcomes.Fails error step
outcome_of (Failed error step) = outcomes.Fails error step
outcome_of Steps = outcomes.Steps

abbrev pub plainly : Ended → CallDialogue
plainly e = ends (record e { outcome = plain e.outcome })

abbrev pub opened_plainly : Came Outcome → CallDialogue
opened_plainly c = ends (ended c.known [] (plain c.value))

-- ---- a call on paths within a call

-- the numbers of `what`: mknod 4, mkdir 5, symlink 6, unlink 7, rmdir 8
abbrev pub is_change : ℕ → Bool
is_change what = (what == 4) || ((what == 5) || ((what == 6) || ((what == 7) || (what == 8))))

-- mkdir(2), rmdir(2): a directory's name may end with slashes
abbrev pub takes_slash : ℕ → Bool
takes_slash what = (what == 5) || (what == 8)

-- the steps 8 to 12 of inroot.h
abbrev pub step_of : ℕ → ℕ
step_of what =
    if what == 4 then 9
    else (if what == 5 then 8 else (if what == 6 then 10 else (if what == 7 then 11 else 12)))

abbrev pub wanted_of : Request → Wanted
wanted_of r =
    record {
      device = r.device;
      flags = r.flags;
      mode = r.mode;
      how = r.how;
      fd = r.fd;
      linked = r.linked;
      opens = r.opens;
      gives = r.gives;
    }

-- its texts: the second path, a link's text, and what was read last
pub record Besides : Type 0 where
  pub second : List ℕ
  pub target : List ℕ
  pub read : List ℕ

abbrev pub at_in : Request → Texts → At
at_in r texts =
    record { root = r.root; flags = r.flags; slashed = texts.first.slashed.now; looked = texts.looked }

abbrev pub besides : Texts → Besides
besides texts =
    record { second = texts.second.slashed.now; target = texts.target.now; read = texts.read.now }

-- what is at the path's end is opened
abbrev pub opened_by : Request → Known → At → CallDialogue
opened_by r k at = and_then (resolve k at (r.what == 1) r.directory r.asks_kind) opened_plainly

-- the entry there is made or removed
abbrev pub changed_by : Request → Known → At → EntryAt → Besides → Bool → CallDialogue
changed_by r k at n b is_last =
    and_then (change_entry k at n (wanted_of r) (step_of r.what) b.target (if r.gives || r.linked then b.read else [])
    is_last) plainly

-- or renamed to the entry at the second path's end
abbrev pub renamed_by : Request → Known → At → EntryAt → Besides → EntryAt → Bool → CallDialogue
renamed_by r k at n b m is_last =
    and_then (rename k at n (record at { slashed = b.second; looked = false }) m (wanted_of r) is_last) plainly

-- by the paths' only divisions
pub data IsByKernel (r : Request) (k : Known) (at : At) (b : Besides) (is_last : Bool) : CallDialogue → Type 0 where
  opens : (r.what ≡ 1) ⊎ (r.what ≡ 2) → IsByKernel r k at b is_last (opened_by r k at)
  changes : (n : EntryAt) → is_change r.what ≡ true → IsDivision at.slashed (takes_slash r.what) n
      → IsByKernel r k at b is_last (changed_by r k at n b is_last)
  renames : (n m : EntryAt) → r.what ≡ 9 → IsDivision at.slashed false n → IsDivision b.second false m
      → IsByKernel r k at b is_last (renamed_by r k at n b m is_last)

-- ---- flags and root

-- INROOT_EXACT of inroot.h
abbrev pub EXACT : ℕ
EXACT = 16384

-- EINVAL of a flag that isn't INROOT_BENEATH, NO_LINKS, NO_RETRY, NO_XDEV or EXACT; EBADF of a root that is no
-- descriptor
abbrev pub fault_of : ℕ → ℕ → ℕ
fault_of flags root =
    if not (bit_and flags 4294950772 == 0) then EINVAL else (if nat_lt root 2147483648 then 0 else EBADF)

-- the kernel walks
abbrev pub IsWalked : ℕ → ℕ → Type 0
IsWalked flags root = (fault_of flags root ≡ 0) × (has flags EXACT ≡ false)

-- ---- how far code has come

-- Single steps go on; or it is asked if the kernel lacks what the library needs.
abbrev pub is_open : Outcome → Bool
is_open (outcomes.Value value) = false
is_open (outcomes.Fails error step) = (error == ENOSYS) && not (step == GIVE_STEP)
is_open (outcomes.FailsAt error step) = false
is_open outcomes.Steps = true

abbrev pub IsReplied : Ended → List ℕ → Result Reply Question → Type 0
IsReplied e closes (Ok reply) = (outcome_of reply ≡ e.outcome) × (closes ≡ e.closes)
IsReplied e closes (Err question) = ⊥

-- It asks for what is due, or its reply and what is closed behind that are the dialogue's.
abbrev pub Follows : Ran Ended → List ℕ → Result Reply Question → Type 0
Follows (due q) closes (Err question) = asked_of question ≡ q
Follows (due q) closes (Ok reply) = ⊥
Follows (came e left) closes result = is_open e.outcome ≡ false → IsReplied e closes result

-- the same of a part of a call, which has its reply
abbrev pub as_part : Result Reply Question → Result (Result Reply Gave) Question
as_part (Ok reply) = Ok (Ok reply)
as_part (Err question) = Err question

abbrev pub FollowsPart : Ran Ended → List ℕ → Result (Result Reply Gave) Question → Type 0
FollowsPart r closes result =
    (x : Result Reply Question) × (result ≡ as_part x) × Follows r closes x

-- ---- a whole call of inroot.h: open 1, mkdir 5, symlink 6, unlink 7, rmdir 8, rename 9, mknod 19

abbrev pub makes : ℕ → Bool
makes what = (what == 5) || ((what == 6) || (what == 19))

abbrev pub removes : ℕ → Bool
removes what = (what == 7) || ((what == 8) || (what == 9))

abbrev pub is_whole : ℕ → Bool
is_whole what = (what == 1) || (makes what || removes what)

-- EINVAL: of mkdir(2) and mknod(2) bits that are none of a mode, or a kind or device that can't be made; of
-- renameat2(2) a way that isn't 0, RENAME_NOREPLACE or RENAME_EXCHANGE, or RENAME_WHITEOUT with the latter
abbrev pub is_wrong : Request → Bool
is_wrong r =
    if r.what == 5 then not (bit_and r.mode 4294963200 == 0)
    else (if r.what == 19
    then not (bit_and r.mode 4294901760 == 0) || (not (is_node r.mode r.device) || nat_lt 4294967295 r.device)
    else (if r.what == 9
    then nat_lt 2 (bit_and r.how 4294967291) || ((bit_and r.how 4294967291 == 2) && has r.how 4)
    else false))

-- under INROOT_NOFOLLOW (4) the link itself
abbrev pub opening : Request → Request
opening r = record r { what = if not (has r.flags 4) then 1 else 2; flags = bit_and r.flags 4294967291 }

-- under INROOT_GIVE (256) a descriptor of what was made
abbrev pub making : Request → Request
making r =
    record r {
      what = if r.what == 19 then 4 else r.what;
      gives = has r.flags 256;
      flags = bit_and r.flags 4294967039;
    }

abbrev pub inner : Request → Request
inner r = if r.what == 1 then opening r else (if makes r.what then making r else r)
