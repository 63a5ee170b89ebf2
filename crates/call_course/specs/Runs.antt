-- A try by one /proc. The numbers of errors are those of errno(3).
use Rattle.std.specs.Prelude.{ℕ, ◌-◌, ◌==◌, Bool, true, false, ◌&&◌, ◌||◌, not, if◌then◌else◌}
use Rattle.system_calls.specs.Errors.{EIO, EAGAIN, ENOMEM}
use Rattle.dialogue.specs.Dialogue.{and_then, ends}
use Rattle.call_course.specs.Course.{Course, doing}
use Rattle.call_course.specs.declared.runs.Run.{Run}
use Rattle.call_course.specs.declared.things.Answer.{Answer}
use Rattle.call_course.specs.declared.things.Facts.{Facts}
use Rattle.call_course.specs.declared.things.Thing.TheVariants.{Place, Converse, Take, LetGo, Close}

abbrev pub OPENED : ℕ
OPENED = 32

abbrev pub TEXT : ℕ
TEXT = 33

abbrev pub DONE : ℕ
DONE = 34

abbrev pub COUNT : ℕ
COUNT = 35

-- nothing but the error by which the call has failed before, and the /proc
abbrev pub new_run : Facts → Bool → Bool → Run
new_run facts has owns = record {
  value = 0;
  error = facts.error;
  holds = false;
  stepped = false;
  changed = false;
  has_proc = has;
  owns_proc = owns;
}

-- What is known of the try by now. A directory that a call on all parts of a path has made, another try finds.
abbrev pub noted : Facts → Run → Answer → Run
noted facts r a = record r {
  stepped = r.stepped || a.stepped;
  changed = r.changed || (a.changed && not facts.finds_again);
  has_proc = a.has_proc;
  owns_proc = r.owns_proc || a.owns_proc;
}

abbrev pub placed : Run → Answer → Run
placed r a = if a.error == 0 then record r { value = a.length } else record r { error = a.error }

abbrev pub took : Run → Answer → Run
took r a = if a.error == 0 then record r { value = a.value; holds = true } else record r { error = a.error }

-- ---- a reply

-- the kernel's own error, where a step wasn't made, for which the proved call's word is ENOMEM
abbrev pub reply_error : Answer → ℕ
reply_error a = if a.error == 0 then EIO else (if (a.error == ENOMEM) && not (a.unmade == 0) then a.unmade else a.error)

-- It made an entry, and gives a descriptor of it where that is asked for. There is none if another object has the name
-- by now, or if the entry could not be opened.
abbrev pub done : Facts → Run → Answer → Run
done facts r a =
    if not facts.gives then r
    else (if not (a.made == 0) then record r { value = a.made - 1; holds = true }
    else (if a.unopened == 0 then record r { error = EAGAIN } else record r { error = a.unopened }))

abbrev pub replied : Facts → Run → Answer → Run
replied facts r a =
    if a.reply == DONE then done facts r a
    else (if a.reply == TEXT then record r { value = a.length }
    else (if a.reply == COUNT then record r { value = a.value } else record r { error = reply_error a }))

-- what it opened is taken
unfoldable pub conversed : Facts → Run → Answer → Course Run
conversed facts r a =
    if not (a.reply == OPENED) then ends (replied facts r a)
    else and_then (doing Take) (λ b. ends (took (noted facts r b) b))

-- what was made isn't handed out
abbrev pub is_left : Facts → Answer → Bool
is_left facts a = not (a.made == 0) && not ((a.reply == DONE) && facts.gives)

abbrev pub close_left : Facts → Answer → Run → Course Run
close_left facts a r =
    if is_left facts a then and_then (doing (Close (a.made - 1))) (λ _. ends r) else ends r

unfoldable pub closed : Facts → Answer → Run → Course Run
closed facts a r = and_then (doing LetGo) (λ _. close_left facts a r)

unfoldable pub walked : Facts → Run → Course Run
walked facts r =
    and_then (doing Converse) (λ a. and_then (conversed facts (noted facts r a) a) (closed facts a))

-- a try of a call that has failed before does nothing
unfoldable pub by_one : Facts → Bool → Bool → Course Run
by_one facts has owns =
    if not (facts.error == 0) then and_then (doing LetGo) (λ _. ends (new_run facts has owns))
    else (if not facts.places then walked facts (new_run facts has owns)
    else and_then (doing Place) (λ a. ends (placed (noted facts (new_run facts has owns) a) a)))
