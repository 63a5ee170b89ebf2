-- How a pass over the path ends.
use Rattle.std.specs.Prelude.{ℕ, ◌+◌, ◌-◌, List, ◌==◌, Bool, false, if◌then◌else◌, nat_lt, length, take, drop}
use Rattle.path_text.specs.Text.{begins_with_slash}
use Rattle.path_text.specs.declared.path.TheConstants.{TEXT_MAX}
use Rattle.system_calls.specs.Errors.{EAGAIN, ENAMETOOLONG, ELOOP}
use Rattle.system_calls.specs.Tries.{is_due, pause_after}
use Rattle.open_or_make.specs.Pass.{LINKS, STEP_READ_LINK}
use Rattle.open_or_make.specs.Paths.{rest_at, way}
use Rattle.open_or_make.specs.declared.asking.Outcome.{Outcome}
use Rattle.make_through_links.specs.declared.making.Came.{Came}
use Rattle.make_through_links.specs.declared.making.Came.TheVariants.{Given, Failed, Fails, Again, Led}
use Rattle.make_through_links.specs.declared.making.Making.{Making}

-- the step that makes a directory, as linux_call numbers it; the others are those of open_or_make
abbrev pub STEP_MAKE_DIR : ℕ
STEP_MAKE_DIR = 8

abbrev pub begin : ℕ → Bool → Bool → Bool → Making
begin length file follows may_retry =
    record {
      length = length;
      above = length;
      pause = 0;
      links = 0;
      tries = 1;
      file = file;
      parted = false;
      follows = follows;
      may_retry = may_retry;
    }

-- by what the last call gave
abbrev pub ended : Outcome → Came
ended a = if a.error == 0 then Given a.descriptor else Failed a.error

-- somebody came in between: what comes next is another try
abbrev pub again : Making → Came
again m =
    if is_due m.tries m.may_retry EAGAIN false
    then Again (record m { pause = pause_after m.tries; tries = m.tries + 1 })
    else Fails EAGAIN STEP_MAKE_DIR

-- the file's name isn't taken apart
abbrev pub unparted : Making → Making
unparted m = record m { above = m.length; parted = false }

-- why no further link is followed, of so many and a path of so many bytes; or 0
abbrev pub link_error : ℕ → ℕ → ℕ
link_error links size =
    if nat_lt links LINKS then (if nat_lt TEXT_MAX size then ENAMETOOLONG else 0) else ELOOP

-- What comes before a link's text: nothing where that begins with a slash, and else the path of the link's directory.
abbrev pub front_for : List ℕ → List ℕ → ℕ → ℕ
front_for path text dir = length (take (if begins_with_slash text then 0 else dir) path)

abbrev pub led_by : Making → List ℕ → ℕ → ℕ → List ℕ → Making
led_by m path front at text =
    let size = length (way path text front at) in
    record m { length = size; above = size - length (drop m.above path); pause = 0; links = m.links + 1 }

-- A link in a directory whose path has so many bytes is followed, if there weren't too many, and it makes no path that
-- is too long: what comes behind the link begins there.
abbrev pub led : Making → List ℕ → ℕ → ℕ → List ℕ → Came
led m path dir at text =
    let front = front_for path text dir in
    let error = link_error m.links (length (way path text front at)) in
    if error == 0 then Led (led_by m path front at text) front at else Fails error STEP_READ_LINK

-- on the way: its name stands there, and what comes behind it and the slashes there
abbrev pub followed : Making → List ℕ → ℕ → List ℕ → Came
followed m path dir text = led m path dir (dir + rest_at (drop dir (take m.above path))) text

-- at the path's end
abbrev pub followed_at_end : Making → List ℕ → List ℕ → Came
followed_at_end m path text = led (unparted m) path (length (take m.above path)) (length path) text
