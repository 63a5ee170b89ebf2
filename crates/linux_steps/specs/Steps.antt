-- The system calls of each step, one after another, and how it ends by what they give.
use Rattle.std.specs.Prelude.{ℕ, List, ◌==◌, Bool, true, false, not, ◌&&◌, ◌||◌, if◌then◌else◌, bit_and, Option, Some, None, Result, Ok, Err}
use Rattle.path_text.specs.declared.errno.Errno.TheVariants.{NotFound, Invalid}
use Rattle.system_calls.specs.Errors.{EAGAIN, EINVAL, ELOOP, ENAMETOOLONG, ENOENT, ENOSYS, ENOTDIR, EPERM, EXDEV}
use Rattle.system_calls.specs.Objects.{kind_of}
use Rattle.tree_model.specs.declared.step.Kind.{Kind}
use Rattle.tree_model.specs.declared.step.Kind.TheVariants.{Dir, File, Link}
use Rattle.dialogue.specs.Dialogue.{Dialogue, SystemCall, and_then, calling, closes, ends, open_above, open_name, open_same, reads_entries, reads_link, stats, stats_file_system}
use Rattle.dialogue.specs.declared.calls.Answer.{Answer}
use Rattle.dialogue.specs.declared.calls.How.{How}
use Rattle.linux_steps.specs.declared.ended.Ended.{Ended}
use Rattle.linux_steps.specs.declared.ended.Ended.TheVariants.{Opened, Text, Done, Refused, Unmade}
use Rattle.linux_steps.specs.declared.ended.There.{There}
use Rattle.linux_steps.specs.declared.ended.There.TheVariants.{Yes, No, Unknown, Fails}
use Rattle.linux_steps.specs.declared.links.LinkEntry.{LinkEntry}

-- ---- openat2(2), close(2)

abbrev pub by_path : Bool → Bool → How
by_path directory no_xdev = record { path = true; directory = directory; no_follow = true; no_xdev = no_xdev }

-- a directory's entries
abbrev pub to_read : How
to_read = record { path = false; directory = true; no_follow = true; no_xdev = false }

-- where a link leads
abbrev pub followed : How
followed = record { path = true; directory = false; no_follow = false; no_xdev = false }

abbrev pub tried : Answer → Result ℕ ℕ
tried a = if a.error == 0 then Ok a.value else Err a.error

unfoldable pub opening : SystemCall → Dialogue (Result ℕ ℕ)
opening q = and_then (calling q) (λ a. ends (tried a))

unfoldable pub closing : ℕ → Dialogue (Unit {0})
closing fd = and_then (calling (closes fd)) (λ a. ends tt)

-- statx(2): with the number of the mount. If a filter refuses statx(2), a C library may give what fstat(2) says.
abbrev pub look_error : Answer → ℕ
look_error a = if (a.error == 0) && not a.has_mount then ENOSYS else a.error

-- inode(7)
abbrev pub kind_by_mode : ℕ → Kind
kind_by_mode mode = if kind_of mode == 1 then Dir else if kind_of mode == 3 then Link else File

-- ---- Open

abbrev pub missing : ℕ → Ended
missing error = if error == ENOENT then Refused NotFound else Unmade error

abbrev pub kind_told : ℕ → Answer → Dialogue Ended
kind_told fd a =
    if look_error a == 0 then ends (Opened fd (kind_by_mode a.mode))
    else and_then (closing fd) (λ _. ends (Unmade (look_error a)))

unfoldable pub by_kind : ℕ → Dialogue Ended
by_kind fd = and_then (calling (stats fd)) (kind_told fd)

abbrev pub any_opened : Result ℕ ℕ → Dialogue Ended
any_opened (Ok fd) = by_kind fd
any_opened (Err error) = ends (missing error)

unfoldable pub open_any : ℕ → List ℕ → Bool → Dialogue Ended
open_any dir name no_xdev = and_then (opening (open_name dir name (by_path false no_xdev))) any_opened

-- ENOTDIR of a name that was opened as a directory: it is opened as what it is
abbrev pub directory_opened : ℕ → List ℕ → Bool → Result ℕ ℕ → Dialogue Ended
directory_opened dir name no_xdev (Ok fd) = ends (Opened fd Dir)
directory_opened dir name no_xdev (Err error) =
    if error == ENOTDIR then open_any dir name no_xdev else ends (missing error)

unfoldable pub open_step : ℕ → List ℕ → Bool → Dialogue Ended
open_step dir name no_xdev =
    and_then (opening (open_name dir name (by_path true no_xdev))) (directory_opened dir name no_xdev)

-- ---- Dup and Close

abbrev pub dup_opened : Result ℕ ℕ → Ended
dup_opened (Ok fd) = Opened fd Dir
dup_opened (Err error) = Unmade error

unfoldable pub dup_step : ℕ → Bool → Dialogue Ended
dup_step dir no_xdev = and_then (opening (open_same dir (by_path true no_xdev))) (λ r. ends (dup_opened r))

unfoldable pub close_step : ℕ → Dialogue Ended
close_step fd = and_then (closing fd) (λ _. ends Done)

-- ---- whether a directory is there still

-- ---- numbers of statfs(2), <linux/magic.h>

abbrev pub OVERLAYFS : ℕ
OVERLAYFS = 2035054128

abbrev pub CGROUP : ℕ
CGROUP = 2613483

abbrev pub CGROUP2 : ℕ
CGROUP2 = 1667723888

abbrev pub RDTGROUP : ℕ
RDTGROUP = 124082209

abbrev pub BTRFS : ℕ
BTRFS = 2435016766

-- a removed directory has no link (stat(2)); but on overlayfs one of a lower layer keeps some, and so does a removed
-- control group (cgroups(7)), a resctrl group, and a subvolume of btrfs (btrfs-subvolume(8))
abbrev pub keeps_links : ℕ → Bool
keeps_links type =
    (type == OVERLAYFS) || ((type == CGROUP2) || ((type == CGROUP) || ((type == RDTGROUP) || (type == BTRFS))))

abbrev pub by_read : ℕ → There
by_read error = if error == 0 then Yes else if error == ENOENT then No else Unknown

abbrev pub entries_opened : Result ℕ ℕ → Dialogue There
entries_opened (Ok fd) =
    and_then (calling (reads_entries fd)) (λ a. and_then (closing fd) (λ _. ends (by_read a.error)))
entries_opened (Err error) = ends (if error == ENOENT then No else Unknown)

unfoldable pub by_entries : ℕ → Dialogue There
by_entries dir = and_then (opening (open_same dir to_read)) entries_opened

abbrev pub file_system_told : ℕ → Answer → Dialogue There
file_system_told dir a =
    if not (a.error == 0) then ends Unknown
    else (if not (keeps_links a.file_system) then ends Yes else by_entries dir)

unfoldable pub by_file_system : ℕ → Dialogue There
by_file_system dir = and_then (calling (stats_file_system dir)) (file_system_told dir)

abbrev pub links_told : ℕ → Answer → Dialogue There
links_told dir a =
    if not (look_error a == 0) then ends (Fails (look_error a))
    else (if a.links == 0 then ends No else by_file_system dir)

unfoldable pub there : ℕ → Dialogue There
there dir = and_then (calling (stats dir)) (links_told dir)

-- ---- Parent

abbrev pub above_missing : There → Ended
above_missing No = Refused NotFound
above_missing Yes = Unmade EAGAIN
above_missing Unknown = Unmade EAGAIN
above_missing (Fails error) = Unmade EAGAIN

-- a removed directory's `..` isn't believed
abbrev pub above_there : ℕ → There → Dialogue Ended
above_there fd Yes = ends (Opened fd Dir)
above_there fd Unknown = ends (Opened fd Dir)
above_there fd No = and_then (closing fd) (λ _. ends (Refused NotFound))
above_there fd (Fails error) = and_then (closing fd) (λ _. ends (Unmade error))

abbrev pub above_opened : ℕ → Result ℕ ℕ → Dialogue Ended
above_opened dir (Ok fd) = and_then (there dir) (above_there fd)
above_opened dir (Err error) =
    if error == ENOENT then and_then (there dir) (λ t. ends (above_missing t)) else ends (Unmade error)

unfoldable pub parent_step : ℕ → Bool → Dialogue Ended
parent_step dir no_xdev = and_then (opening (open_above dir (by_path true no_xdev))) (above_opened dir)

-- ---- ReadLink

abbrev pub PROC : ℕ
PROC = 40864

abbrev pub SECURITYFS : ℕ
SECURITYFS = 1935894131

-- AppArmor's
abbrev pub AAFS : ℕ
AAFS = 1513908720

-- ST_NOSYMFOLLOW
abbrev pub NOSYMFOLLOW : ℕ
NOSYMFOLLOW = 8192

abbrev pub has_followed : ℕ → Bool
has_followed flags = not (bit_and flags NOSYMFOLLOW == NOSYMFOLLOW)

abbrev pub has_magic : ℕ → Bool
has_magic type = (type == PROC) || ((type == SECURITYFS) || (type == AAFS))

-- openat2(2), RESOLVE_NO_MAGICLINKS: the kernel has looked where the link leads
abbrev pub is_ordinary : ℕ → Bool
is_ordinary error = (error == EXDEV) || ((error == ENOTDIR) || (error == ENAMETOOLONG))

-- a link of which the kernel can't be asked counts as a magic one
abbrev pub not_ordinary : ℕ → ℕ
not_ordinary error = if (error == ENOSYS) || (error == EPERM) then ELOOP else error

-- readlinkat(2) of no link, with an empty path, gives ENOENT, which is the table's EINVAL; of a link it gives neither
-- for a reason of the tree
abbrev pub not_read : ℕ → ℕ
not_read error = if error == ENOENT then EINVAL else error

abbrev pub link_text : Bool → Answer → Ended
link_text is_link a =
    if a.error == 0 then Text a.value
    else (if not is_link && (not_read a.error == EINVAL) then Refused Invalid else Unmade (not_read a.error))

unfoldable pub text_of : ℕ → Bool → Dialogue Ended
text_of fd is_link = and_then (calling (reads_link fd)) (λ a. ends (link_text is_link a))

-- where a link stands
pub record Entry : Type 0 where
  pub dir : ℕ
  pub name : List ℕ

abbrev pub entry_of : LinkEntry → Entry
entry_of e = record { dir = e.dir; name = e.name.now }

abbrev pub kernel_looked : ℕ → Bool → Result ℕ ℕ → Dialogue Ended
kernel_looked fd is_link (Ok led) = and_then (closing led) (λ _. text_of fd is_link)
kernel_looked fd is_link (Err error) =
    if not (is_ordinary error) then ends (Unmade (not_ordinary error)) else text_of fd is_link

unfoldable pub by_kernel : ℕ → Bool → Entry → Dialogue Ended
by_kernel fd is_link e = and_then (opening (open_name e.dir e.name followed)) (kernel_looked fd is_link)

abbrev pub by_entry : ℕ → Bool → Option Entry → Dialogue Ended
by_entry fd is_link None = ends (Unmade ELOOP)
by_entry fd is_link (Some e) = by_kernel fd is_link e

abbrev pub holder_told : ℕ → Bool → Option Entry → Answer → Dialogue Ended
holder_told fd is_link entry a =
    if (a.error == 0) && not (has_magic a.file_system) then text_of fd is_link else by_entry fd is_link entry

unfoldable pub by_holder : ℕ → Bool → Option Entry → Dialogue Ended
by_holder fd is_link entry = and_then (calling (stats_file_system fd)) (holder_told fd is_link entry)

abbrev pub follow_told : ℕ → Bool → Option Entry → Answer → Dialogue Ended
follow_told fd is_link entry a =
    if not (a.error == 0) then ends (Unmade a.error)
    else (if not (has_followed a.flags) then ends (Unmade ELOOP) else by_holder fd is_link entry)

unfoldable pub read_link_step : ℕ → Bool → Option Entry → Dialogue Ended
read_link_step fd is_link entry = and_then (calling (stats_file_system fd)) (follow_told fd is_link entry)
