-- A try from its beginning to its end, and a call of some tries.
use Rattle.std.specs.Prelude.{ℕ, zero, suc, ◌-◌, ◌==◌, Bool, true, false, ◌&&◌, ◌||◌, not, if◌then◌else◌}
use Rattle.system_calls.specs.Errors.{EAGAIN, ENOTDIR, ENOSYS}
use Rattle.system_calls.specs.Tries.{next_try}
use Rattle.dialogue.specs.Dialogue.{and_then, ends}
use Rattle.call_course.specs.Course.{Course, doing}
use Rattle.call_course.specs.Runs.{by_one}
use Rattle.call_course.specs.declared.runs.Run.{Run}
use Rattle.call_course.specs.declared.things.Answer.{Answer}
use Rattle.call_course.specs.declared.things.Facts.{Facts}
use Rattle.call_course.specs.declared.things.Thing.TheVariants.{Begin, LookAtProc, AnotherProc, CloseProc, LookAtRoot}
use Rattle.call_course.specs.declared.tries.Tried.{Tried}

-- so many tries may follow the first one
abbrev pub LAST : ℕ
LAST = 31

-- the pause before a try that so many others may follow: that behind the tries before
abbrev pub pause_before : ℕ → ℕ
pause_before left = (next_try (LAST - left) true EAGAIN false).pause

-- ---- another /proc

-- It failed as it would without a /proc (ENOSYS, ENOTDIR; inroot.h), changed nothing, and had one that is the
-- library's.
abbrev pub may_go_by_another : Run → Bool
may_go_by_another r =
    ((r.error == ENOSYS) || (r.error == ENOTDIR)) && (not r.changed && (r.has_proc && not r.owns_proc))

abbrev pub another_found : Facts → Run → Answer → Course Run
another_found facts r a =
    if not (a.error == 0) then ends (record r { error = a.error }) else by_one facts true a.owns_proc

abbrev pub proc_seen : Facts → Run → Answer → Course Run
proc_seen facts r a = if a.error == 0 then ends r else and_then (doing AnotherProc) (another_found facts r)

-- the first one may be another file by now: the try begins anew by another
unfoldable pub by_another : Facts → Run → Course Run
by_another facts r = and_then (doing LookAtProc) (proc_seen facts r)

abbrev pub once_more : Facts → Run → Course Run
once_more facts r = if may_go_by_another r then by_another facts r else ends r

unfoldable pub made : Facts → Course Run
made facts = and_then (by_one facts false false) (once_more facts)

-- ---- the end of a try

-- A try that failed may be followed by another. One that changed an entry is none of those.
abbrev pub is_again : Facts → ℕ → Run → Bool
is_again facts left r = (next_try (suc LAST - left) (facts.may_retry && not r.changed) r.error false).due

abbrev pub over : Facts → ℕ → Run → Tried
over facts left r =
    record { value = r.value; error = r.error; holds = r.holds; is_root = false; again = is_again facts left r }

-- fstat(2)'s error; or it is no directory
abbrev pub directory_error : ℕ → ℕ → ℕ
directory_error error kind = if not (error == 0) then error else (if kind == 1 then 0 else ENOTDIR)

abbrev pub root_error : Answer → ℕ
root_error a = directory_error a.error a.value

abbrev pub rooted : Facts → ℕ → Run → Answer → Tried
rooted facts left r a =
    if root_error a == 0 then over facts left r
    else record { value = r.value; error = root_error a; holds = r.holds; is_root = true; again = false }

-- no step was made, so that nobody has looked at the root yet
unfoldable pub judged : Facts → ℕ → Run → Course Tried
judged facts left r =
    if (r.error == 0) || r.stepped then ends (over facts left r)
    else and_then (doing LookAtRoot) (λ a. ends (rooted facts left r a))

unfoldable pub closing : Facts → ℕ → Run → Course Tried
closing facts left r =
    if r.owns_proc then and_then (doing CloseProc) (λ _. judged facts left r) else judged facts left r

unfoldable pub a_try : Facts → ℕ → Course Tried
a_try facts left =
    and_then (doing (Begin (pause_before left))) (λ _. and_then (made facts) (closing facts left))

-- ---- a call

-- A call whose next try so many others may follow.
unfoldable pub call_from : Facts → ℕ → Course Tried
call_from facts zero = a_try facts zero
call_from facts (suc left) =
    and_then (a_try facts (suc left)) (λ t. if t.again then call_from facts left else ends t)

abbrev pub call : Facts → Course Tried
call facts = call_from facts LAST
