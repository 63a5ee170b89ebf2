-- One pass over the path as a file is opened, or made, also only where it is missing (open(2), O_CREAT and O_EXCL):
-- which call comes next, by what the calls before gave, and how the pass ends.
use Rattle.std.specs.Prelude.{ℕ, ◌+◌, ◌-◌, ◌^◌, List, ◌==◌, Bool, true, false, not, ◌&&◌, ◌||◌, if◌then◌else◌, nat_lt, min, length}
use Rattle.path_text.specs.Text.{is_empty}
use Rattle.path_text.specs.declared.path.TheConstants.{TEXT_MAX}
use Rattle.system_calls.specs.Errors.{ENOENT, EAGAIN, EEXIST, EINVAL, ENAMETOOLONG, ELOOP}
use Rattle.system_calls.specs.Tries.{is_due, pause_after}
use Rattle.system_calls.specs.declared.opening.Opening.{Opening}
use Rattle.dialogue.specs.Dialogue.{DialogueOf, Protocol, and_then, asking, ends, protocol}
use Rattle.open_or_make.specs.Paths.{kept_length, led_to}
use Rattle.open_or_make.specs.declared.asking.Outcome.{Outcome}
use Rattle.open_or_make.specs.declared.asking.Question.{Question}
use Rattle.open_or_make.specs.declared.asking.Question.TheVariants.{Find, Create, ReadLink, Wait}
use Rattle.open_or_make.specs.declared.course.Came.{Came}
use Rattle.open_or_make.specs.declared.course.Came.TheVariants.{Given, Failed, Fails, Again, Led}
use Rattle.open_or_make.specs.declared.course.Course.{Course}

-- so many links are followed in one path (path_resolution(7))
abbrev pub LINKS : ℕ
LINKS = 40

-- the steps at which it may fail by itself, as linux_call numbers them; or none
abbrev pub STEP_READ_LINK : ℕ
STEP_READ_LINK = 4

abbrev pub STEP_MAKE_FILE : ℕ
STEP_MAKE_FILE = 9

abbrev pub NO_STEP : ℕ
NO_STEP = 0

-- no call is made again for a signal: each is a whole one
abbrev pub never : Question → Outcome → Bool
never q a = false

abbrev pub openings : Protocol
openings = protocol never

abbrev pub Talk : Type 0
Talk = DialogueOf openings Came

abbrev pub begin : ℕ → Opening → Bool → Bool → Course
begin length opening no_links may_retry =
    record {
      length = length;
      links = 0;
      between = 0;
      error = opening.error;
      finds = opening.finds;
      makes = opening.makes;
      follows = opening.follows && not no_links;
      may_retry = may_retry;
      again = false;
    }

-- ---- how a pass ends

-- by what the last call gave
abbrev pub ended : Outcome → Came
ended a = if a.error == 0 then Given a.descriptor else Failed a.error

-- somebody came in between: the path is looked at once more
abbrev pub between : Course → Came
between c = Again (record c { between = min (c.between + 1) (2 ^ 32 - 1); again = true })

-- a link's text is followed, if it makes no path that is too long, and there weren't too many links
abbrev pub led : Course → List ℕ → List ℕ → Came
led c path text =
    let size = length (led_to path text) in
    if nat_lt TEXT_MAX size then Fails ENAMETOOLONG STEP_READ_LINK
    else (if nat_lt c.links LINKS
    then Led (record c { length = size; links = c.links + 1; again = false }) (kept_length path text)
    else Fails ELOOP STEP_READ_LINK)

-- ---- what is asked

-- What stands there is a link, which has a text. Or it is none (EINVAL of readlink(2)), or is gone (ENOENT).
abbrev pub link_read : Course → List ℕ → List ℕ → Outcome → Came
link_read c path read a =
    if (a.error == EINVAL) || (a.error == ENOENT) then between c
    else (if not (a.error == 0) then Failed a.error
    else (if is_empty read then between c else led c path read))

unfoldable pub read_link : Course → List ℕ → List ℕ → Talk
read_link c path read = and_then (asking openings ReadLink) (λ a. ends (link_read c path read a))

-- An entry stood there as a file was to be made (EEXIST), though none was found. Where no link may be read, somebody
-- came in between.
abbrev pub created : Course → List ℕ → List ℕ → Outcome → Talk
created c path read a =
    if not (a.error == EEXIST) || not c.finds then ends (ended a)
    else (if not c.follows then ends (between c) else read_link c path read)

unfoldable pub create : Course → List ℕ → List ℕ → Talk
create c path read = and_then (asking openings Create) (created c path read)

-- another try, behind a pause
abbrev pub tries_again : Course → List ℕ → List ℕ → Talk
tries_again c path read =
    if nat_lt 0 (pause_after c.between)
    then and_then (asking openings (Wait (pause_after c.between))) (λ _. create c path read)
    else create c path read

-- what is missing is made; but after somebody came in between only as another try
unfoldable pub make_missing : Course → List ℕ → List ℕ → Talk
make_missing c path read =
    if not c.again then create c path read
    else (if is_due c.between c.may_retry EAGAIN false then tries_again c path read
    else ends (Fails EAGAIN STEP_MAKE_FILE))

-- nothing was found there, or a link that leads to nothing (ENOENT of open(2))
abbrev pub found : Course → List ℕ → List ℕ → Outcome → Talk
found c path read a =
    if not (a.error == ENOENT) || not c.makes then ends (ended a) else make_missing c path read

unfoldable pub find : Course → List ℕ → List ℕ → Talk
find c path read = and_then (asking openings Find) (found c path read)

-- flags that are refused make no call
unfoldable pub pass : Course → List ℕ → List ℕ → Talk
pass c path read =
    if not (c.error == 0) then ends (Fails c.error NO_STEP)
    else (if c.finds then find c path read else create c path read)
