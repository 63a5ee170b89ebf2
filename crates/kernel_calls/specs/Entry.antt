-- An entry: the directory that has it, and its name.
use Rattle.std.specs.Prelude.{◌≡◌, ◌≢◌, ℕ, ◌+◌, List, [], ◌∷◌, ◌==◌, Bool, true, false, not, ◌&&◌, if◌then◌else◌, bit_or, take, Option, Some, None, Result, Ok, Err}
use Rattle.path_text.specs.Text.{begins_with_slash, ends_with_slash}
use Rattle.path_text.specs.declared.path.Split.{Split}
use Rattle.system_calls.specs.OpenFlags.{O_PATH}
use Rattle.dialogue.specs.Dialogue.{Dialogue, and_then, calling, closes, ends}
use Rattle.find_proc.specs.declared.asks.Known.{Known}
use Rattle.root_ops.specs.Acts.{IsEntry}
use Rattle.kernel_walks.specs.Behind.{IsDirectoryText}
use Rattle.kernel_walks.specs.Split.{rule_of}
use Rattle.kernel_calls.specs.Flags.{BENEATH, has}
use Rattle.kernel_calls.specs.Look.{Came, came_to, walk}
use Rattle.kernel_calls.specs.Path.{At, text_in}
use Rattle.kernel_calls.specs.declared.entry.Closes.{Closes}
use Rattle.kernel_calls.specs.declared.entry.Dir.{Dir}
use Rattle.kernel_calls.specs.declared.entry.LastName.{LastName}
use Rattle.kernel_calls.specs.declared.look.Outcome.{Outcome}
use Rattle.kernel_calls.specs.declared.look.Outcome.TheVariants.{Steps}
use Rattle.kernel_calls.specs.declared.path.PathOf.{PathOf}

-- ---- a path's last name

-- the path of the directory with a slash before it, which is none where that is the root; and the name
pub record EntryAt : Type 0 where
  pub above : Option (List ℕ)
  pub name : List ℕ

abbrev pub slashed_of : Option PathOf → Option (List ℕ)
slashed_of (Some path) = Some path.slashed.now
slashed_of None = None

abbrev pub named_of : LastName → EntryAt
named_of n = record { above = slashed_of n.above; name = n.name.now }

-- None exactly if no part stands before the name: the entry is in the root itself. Else a path with just those parts.
abbrev pub IsAbove : Split → Option (List ℕ) → Type 0
IsAbove split None = split.dir.parts ≡ []
IsAbove split (Some slashed) = (split.dir.parts ≢ []) × IsDirectoryText (text_in slashed) split

-- A path is its directory's path, and its last name, behind which slashes may stand if they are taken away
-- (path_resolution(7); POSIX.1, 4.13 Pathname Resolution).
pub record IsDivided (text : List ℕ) (takes_slash : Bool) (n : EntryAt) : Type 0 where
  pub split : Split
  pub entry : IsEntry text (rule_of takes_slash) split
  pub name : n.name ≡ split.name
  pub above : IsAbove split n.above

-- it has no last name
abbrev pub IsNameless : List ℕ → Bool → Type 0
IsNameless text takes_slash = (split : Split) → IsEntry text (rule_of takes_slash) split → ⊥

-- a beginning of the path, without a slash at its end
abbrev pub IsFront : List ℕ → Option (List ℕ) → Type 0
IsFront slashed None = Unit {0}
IsFront slashed (Some front) = ((n : ℕ) × (front ≡ take (1 + n) slashed)) × (ends_with_slash (text_in front) ≡ false)

-- of a path with a slash before it: there is one
pub record IsDivision (slashed : List ℕ) (takes_slash : Bool) (n : EntryAt) : Type 0 where
  pub divided : IsDivided (text_in slashed) takes_slash n
  pub front : IsFront slashed n.above

abbrev pub IsNamed : List ℕ → Bool → Option LastName → Type 0
IsNamed slashed takes_slash (Some n) = IsDivision slashed takes_slash (named_of n)
IsNamed slashed takes_slash None = IsNameless (text_in slashed) takes_slash

-- ---- its directory

abbrev pub directory_by : Known → Result ℕ Outcome → Came (Result Dir Outcome)
directory_by k (Ok fd) = came_to k (Ok (record { fd = fd; own = true }))
directory_by k (Err why) = came_to k (Err why)

abbrev pub directory_told : Came (Result ℕ Outcome) → Dialogue (Came (Result Dir Outcome))
directory_told came = ends (directory_by came.known came.value)

abbrev pub directory_at : Known → At → Option (List ℕ) → Dialogue (Came (Result Dir Outcome))
directory_at k at None = ends (came_to k (Ok (record { fd = at.root; own = false })))
directory_at k at (Some path) =
    and_then (walk k (record at { slashed = path }) (bit_or O_PATH k.machine.directory) 0) directory_told

-- A path that begins with a slash leads out where that isn't allowed (RESOLVE_BENEATH), also if the kernel isn't asked
-- for the directory.
unfoldable pub find_directory : Known → At → Option (List ℕ) → Dialogue (Came (Result Dir Outcome))
find_directory k at above =
    if has at.flags BENEATH && begins_with_slash (text_in at.slashed) then ends (came_to k (Err Steps))
    else directory_at k at above

-- ---- it is closed

-- the root is the caller's
abbrev pub own_of : Dir → List ℕ
own_of dir = if dir.own then dir.fd ∷ [] else []

abbrev pub closed_by : Closes → List ℕ
closed_by c =
    if c.count == 0 then []
    else (if c.count == 1 then c.first ∷ [] else c.first ∷ c.second ∷ [])

unfoldable pub leave : Dir → Bool → Dialogue (Unit {0})
leave dir is_behind =
    if dir.own && not is_behind then and_then (calling (closes dir.fd)) (λ _. ends tt) else ends tt
