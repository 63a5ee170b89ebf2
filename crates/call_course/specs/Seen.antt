-- What the things that were done come to, and where each may come.
use Rattle.std.specs.Prelude.{◌≡◌, ◌≢◌, ◌⊎◌, ℕ, suc, ◌+◌, ◌-◌, List, [], ◌∷◌, ◌==◌, Bool, true, false, ◌&&◌, ◌||◌, not, if◌then◌else◌, Option, Some, None}
use Rattle.system_calls.specs.Errors.{EAGAIN}
use Rattle.system_calls.specs.Held.{without}
use Rattle.dialogue.specs.Holds.{WatchOf, is_in}
use Rattle.call_course.specs.Course.{things}
use Rattle.call_course.specs.Runs.{COUNT, DONE, OPENED, TEXT, reply_error}
use Rattle.call_course.specs.Tries.{root_error}
use Rattle.call_course.specs.declared.things.Answer.{Answer}
use Rattle.call_course.specs.declared.things.Facts.{Facts}
use Rattle.call_course.specs.declared.things.Thing.{Thing}
use Rattle.call_course.specs.declared.things.Thing.TheVariants.{Begin, Place, Converse, Take, LetGo, Close, LookAtProc, AnotherProc, CloseProc, LookAtRoot}

pub record Seen : Type 0 where
  -- so many tries have begun; and their pauses, in nanoseconds
  pub begun : ℕ
  pub pauses : ℕ
  -- so often another /proc was asked for since the last try began
  pub others : ℕ
  -- the descriptors that are open, the last one first: what was taken out of its handle, and what was made
  pub held : List ℕ
  -- the call has a /proc of its own that is open
  pub owns : Bool
  -- an entry was changed, in whichever try, and a try made once more would not find it as that one did
  pub changed : Bool
  -- a step was made since the try began, or began anew
  pub stepped : Bool
  -- the error of the last thing that has one, in this try
  pub why : ℕ
  -- what was gained last, in this try
  pub value : ℕ
  -- the root was looked at last, and has this error, or 0
  pub root : Option ℕ

abbrev pub at_first : Seen
at_first = record {
  begun = 0;
  pauses = 0;
  others = 0;
  held = [];
  owns = false;
  changed = false;
  stepped = false;
  why = 0;
  value = 0;
  root = None;
}

-- ---- a reply

-- Of a call that made an entry: it gives a descriptor, and there is none.
abbrev pub unopened_error : Facts → Answer → ℕ
unopened_error facts a =
    if not facts.gives then 0
    else (if not (a.made == 0) then 0 else (if a.unopened == 0 then EAGAIN else a.unopened))

-- the error of a reply, or 0
abbrev pub error_of : Facts → Answer → ℕ
error_of facts a =
    if a.reply == OPENED then 0
    else (if a.reply == DONE then unopened_error facts a
    else (if (a.reply == TEXT) || (a.reply == COUNT) then 0 else reply_error a))

abbrev pub reply_value : Facts → Answer → ℕ → ℕ
reply_value facts a before =
    if a.reply == DONE then (if not facts.gives || (a.made == 0) then before else a.made - 1)
    else (if a.reply == TEXT then a.length else (if a.reply == COUNT then a.value else before))

abbrev pub last_error : ℕ → ℕ → ℕ
last_error error before = if error == 0 then before else error

-- ---- what a thing leaves

-- the answers of what a try does say what is known of the try
abbrev pub known : Facts → Seen → Answer → Seen
known facts s a = record s {
  stepped = s.stepped || a.stepped;
  changed = s.changed || (a.changed && not facts.finds_again);
  owns = s.owns || a.owns_proc;
  root = None;
}

abbrev pub taken_by : Seen → Answer → Seen
taken_by s a =
    if a.error == 0 then record s { held = a.value ∷ s.held; why = 0; value = a.value }
    else record s { why = a.error }

abbrev pub placed_by : Seen → Answer → Seen
placed_by s a = if a.error == 0 then record s { why = 0; value = a.length } else record s { why = a.error }

abbrev pub conversed_by : Facts → Seen → Answer → Seen
conversed_by facts s a = record s {
  held = (if a.made == 0 then s.held else (a.made - 1) ∷ s.held);
  why = error_of facts a;
  value = reply_value facts a s.value;
}

abbrev pub another_by : Facts → Seen → Answer → Seen
another_by facts s a =
    if a.error == 0 then record s {
      others = suc s.others;
      owns = s.owns || a.owns_proc;
      stepped = false;
      why = facts.error;
      value = 0;
      root = None;
    }
    else record s { others = suc s.others; why = a.error; root = None }

abbrev pub seen_by : Facts → Seen → Thing → Answer → Seen
seen_by facts s (Begin pause) a = record s {
  begun = suc s.begun;
  pauses = s.pauses + pause;
  others = 0;
  stepped = false;
  why = facts.error;
  value = 0;
  root = None;
}
seen_by facts s Place a = placed_by (known facts s a) a
seen_by facts s Converse a = conversed_by facts (known facts s a) a
seen_by facts s Take a = taken_by (known facts s a) a
seen_by facts s LetGo a = record s { root = None }
seen_by facts s (Close fd) a = record s { held = without fd s.held; root = None }
seen_by facts s LookAtProc a = record s { root = None }
seen_by facts s AnotherProc a = another_by facts s a
seen_by facts s CloseProc a = record s { owns = false; root = None }
seen_by facts s LookAtRoot a = record s { why = last_error (root_error a) s.why; root = Some (root_error a) }

-- ---- where each thing may come

-- A try begins where nothing is open and nothing was changed: the first one, or one behind a try that failed by EAGAIN,
-- if the caller lets it.
pub record MayBegin (facts : Facts) (s : Seen) : Type 0 where
  pub held : s.held ≡ []
  pub owns : s.owns ≡ false
  pub changed : s.changed ≡ false
  pub why : (s.begun ≡ 0) ⊎ ((facts.may_retry ≡ true) × (s.why ≡ EAGAIN))

abbrev pub May : Facts → Seen → Thing → Type 0
May facts s (Begin pause) = MayBegin facts s
-- a call that has failed before does nothing of a try
May facts s Place = facts.error ≡ 0
May facts s Converse = facts.error ≡ 0
May facts s Take = facts.error ≡ 0
May facts s LetGo = Unit {0}
May facts s (Close fd) = is_in fd s.held ≡ true
May facts s LookAtProc = Unit {0}
-- once in a try, and nothing was changed
May facts s AnotherProc = (s.others ≡ 0) × (s.changed ≡ false)
May facts s CloseProc = s.owns ≡ true
May facts s LookAtRoot = (s.stepped ≡ false) × (s.why ≢ 0)

abbrev pub watch : Facts → WatchOf things Seen
watch facts = record { by = λ s x. seen_by facts s x.asked x.answer; May = λ s q. May facts s q }
