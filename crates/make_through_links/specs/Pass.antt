-- One pass over the path: which call comes next, by what the calls before gave.
use Rattle.std.specs.Prelude.{ℕ, ◌+◌, List, ◌==◌, Bool, true, not, ◌&&◌, ◌||◌, if◌then◌else◌, nat_lt, take, drop}
use Rattle.path_text.specs.Text.{is_empty, name_size}
use Rattle.system_calls.specs.Errors.{ENOENT, EEXIST, EISDIR, EINVAL}
use Rattle.open_or_make.specs.Pass.{NO_STEP, STEP_MAKE_FILE, STEP_READ_LINK}
use Rattle.dialogue.specs.Dialogue.{and_then, asking, ends}
use Rattle.make_through_links.specs.Asking.{Call, Talk, closes, creates, finds, makes, makes_above, makings, opens_partly, reads_end, reads_link, splits, waits}
use Rattle.make_through_links.specs.Ends.{again, ended, followed, followed_at_end, unparted}
use Rattle.open_or_make.specs.declared.asking.Outcome.{Outcome}
use Rattle.make_through_links.specs.declared.making.Came.{Came}
use Rattle.make_through_links.specs.declared.making.Came.TheVariants.{Failed, Fails}
use Rattle.make_through_links.specs.declared.making.Making.{Making}

-- That entry is a link, or is none (EINVAL of readlink(2)), or is gone (ENOENT).
abbrev pub end_read : Making → List ℕ → List ℕ → Outcome → Came
end_read m path read a =
    if (a.error == EINVAL) || (a.error == ENOENT) then again (unparted m)
    else (if not (a.error == 0) then Failed a.error
    else (if not m.follows then Fails ENOENT STEP_MAKE_FILE
    else (if is_empty read then again (unparted m) else followed_at_end m path read)))

unfoldable pub read_end : Making → List ℕ → List ℕ → Talk Came
read_end m path read = and_then (asking makings (reads_end path)) (λ a. ends (end_read m path read a))

-- an entry stands there as the file was to be made (EEXIST)
abbrev pub created : Making → List ℕ → List ℕ → Outcome → Talk Came
created m path read a = if a.error == EEXIST then read_end m path read else ends (ended a)

unfoldable pub create : Making → List ℕ → List ℕ → Talk Came
create m path read = and_then (asking makings (creates path)) (created m path read)

-- no link is there (EINVAL): somebody made what was missing
abbrev pub link_read : Making → List ℕ → ℕ → List ℕ → Outcome → Came
link_read m path dir read a =
    if a.error == EINVAL then again m
    else (if not (a.error == 0) then Failed a.error
    else (if is_empty read then Fails ENOENT STEP_READ_LINK else followed m path dir read))

unfoldable pub read_link : Making → List ℕ → ℕ → ℕ → List ℕ → Talk Came
read_link m path dir end read =
    and_then (asking makings (reads_link (take end (take m.above path))))
    (λ a. ends (link_read m path dir read a))

-- A name comes behind what is there. Where none does, somebody made what was missing.
abbrev pub behind_there : Making → List ℕ → List ℕ → ℕ → Talk Came
behind_there m path read dir =
    let name = name_size (drop dir (take m.above path)) in
    if name == 0 then ends (again m) else read_link m path dir (dir + name) read

abbrev pub looked : Making → List ℕ → List ℕ → Outcome → Talk Came
looked m path read a =
    if not (a.error == 0) then ends (Failed a.error)
    else and_then (asking makings (closes a.descriptor)) (λ _. behind_there m path read a.rest)

unfoldable pub look : Making → List ℕ → List ℕ → Talk Came
look m path read = and_then (asking makings (opens_partly (take m.above path))) (looked m path read)

abbrev pub make_question : Bool → List ℕ → Call
make_question file above = if file then makes_above above else makes above

-- The directories are there by now. Or their path leads to what is missing: a link's text does, or `..` comes behind a
-- missing name (ENOENT).
abbrev pub leads_nowhere : Making → List ℕ → ℕ → Bool
leads_nowhere m path error =
    (error == ENOENT) && (m.follows && (m.file || not (is_empty (take m.above path))))

abbrev pub made : Making → List ℕ → List ℕ → Outcome → Talk Came
made m path read a =
    if leads_nowhere m path a.error then look m path read
    else (if not (a.error == 0) || not m.file then ends (ended a)
    else and_then (asking makings (closes a.descriptor)) (λ _. create m path read))

unfoldable pub make : Making → List ℕ → List ℕ → Talk Came
make m path read = and_then (asking makings (make_question m.file (take m.above path))) (made m path read)

abbrev pub parted : Making → List ℕ → List ℕ → Outcome → Talk Came
parted m path read a =
    if not (a.error == 0) then ends (Fails a.error NO_STEP)
    else make (record m { above = a.rest; parted = true }) path read

-- Nothing is there (ENOENT), also at the end of a link. Or a directory is.
abbrev pub found : Making → List ℕ → List ℕ → Outcome → Talk Came
found m path read a =
    if (a.error == 0) && a.directory
    then and_then (asking makings (closes a.descriptor)) (λ _. ends (Fails EISDIR NO_STEP))
    else (if not (a.error == ENOENT) || is_empty path then ends (ended a)
    else and_then (asking makings (splits path)) (parted m path read))

unfoldable pub find : Making → List ℕ → List ℕ → Talk Came
find m path read = and_then (asking makings (finds path)) (found m path read)

abbrev pub walk : Making → List ℕ → List ℕ → Talk Came
walk m path read = if m.file && not m.parted then find m path read else make m path read

unfoldable pub pass : Making → List ℕ → List ℕ → Talk Came
pass m path read =
    if nat_lt 0 m.pause then and_then (asking makings (waits m.pause)) (λ _. walk m path read) else walk m path read
