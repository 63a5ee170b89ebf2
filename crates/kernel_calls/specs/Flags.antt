-- The numbers of flags, kinds and steps.
use Rattle.std.specs.Prelude.{ℕ, ◌==◌, Bool, not, if◌then◌else◌, bit_and, bit_or}
use Rattle.system_calls.specs.OpenFlags.{O_CLOEXEC, O_CREAT, O_EXCL, O_NOCTTY}

-- ---- inroot.h: the flags of every call on a path

-- INROOT_BENEATH
abbrev pub BENEATH : ℕ
BENEATH = 1

-- INROOT_NO_LINKS
abbrev pub NO_LINKS : ℕ
NO_LINKS = 2

-- INROOT_NO_XDEV
abbrev pub NO_XDEV : ℕ
NO_XDEV = 128

-- ---- openat2(2): how the path is walked

abbrev pub RESOLVE_NO_XDEV : ℕ
RESOLVE_NO_XDEV = 1

abbrev pub RESOLVE_NO_MAGICLINKS : ℕ
RESOLVE_NO_MAGICLINKS = 2

abbrev pub RESOLVE_NO_SYMLINKS : ℕ
RESOLVE_NO_SYMLINKS = 4

abbrev pub RESOLVE_BENEATH : ℕ
RESOLVE_BENEATH = 8

abbrev pub RESOLVE_IN_ROOT : ℕ
RESOLVE_IN_ROOT = 16

-- one of these flags is there
abbrev pub has : ℕ → ℕ → Bool
has flags flag = not (bit_and flags flag == 0)

abbrev pub bit : Bool → ℕ → ℕ
bit holds bits = if holds then bits else 0

-- No call follows a link of /proc that leads to an object. `..` and a slash at the beginning don't lead out of the
-- root, or fail there.
abbrev pub resolve_of : ℕ → ℕ
resolve_of flags =
    bit_or (bit_or (bit_or RESOLVE_NO_MAGICLINKS (if has flags BENEATH then RESOLVE_BENEATH else RESOLVE_IN_ROOT))
    (bit (has flags NO_LINKS) RESOLVE_NO_SYMLINKS)) (bit (has flags NO_XDEV) RESOLVE_NO_XDEV)

-- ---- open(2)

-- a new file of the library's own, to be looked at: O_RDONLY
abbrev pub NEW : ℕ
NEW = bit_or (bit_or (bit_or O_CREAT O_EXCL) O_NOCTTY) O_CLOEXEC

-- ---- inroot.h: the steps that an error may be of

abbrev pub OPEN : ℕ
OPEN = 1

abbrev pub MAKE_DIR : ℕ
MAKE_DIR = 8

abbrev pub MAKE_FILE : ℕ
MAKE_FILE = 9

abbrev pub MAKE_LINK : ℕ
MAKE_LINK = 10

abbrev pub REMOVE_FILE : ℕ
REMOVE_FILE = 11

abbrev pub REMOVE_DIR : ℕ
REMOVE_DIR = 12

abbrev pub RENAME : ℕ
RENAME = 13

abbrev pub GIVE : ℕ
GIVE = 15

abbrev pub REOPEN : ℕ
REOPEN = 16
