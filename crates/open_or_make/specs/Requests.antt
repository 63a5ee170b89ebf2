-- What each call is asked for, by the flags of open(2).
use Rattle.std.specs.Prelude.{ℕ, ◌^◌, true, false, not, if◌then◌else◌, bit_or}
use Rattle.system_calls.specs.declared.opening.Opening.{Opening}
use Rattle.open_or_make.specs.declared.asking.Question.{Question}
use Rattle.open_or_make.specs.declared.asking.Question.TheVariants.{Find, Create}
use Rattle.open_or_make.specs.declared.requests.Request.{Request}

-- the operations, as linux_call numbers them
abbrev pub RESOLVE : ℕ
RESOLVE = 1

abbrev pub RESOLVE_NOFOLLOW : ℕ
RESOLVE_NOFOLLOW = 2

abbrev pub READLINK : ℕ
READLINK = 3

abbrev pub MKFILE : ℕ
MKFILE = 4

-- the kind of a regular file in a mode (inode(7))
abbrev pub S_IFREG : ℕ
S_IFREG = 2 ^ 15

-- O_NOFOLLOW and O_DIRECTORY are the walk's
abbrev pub finding : Opening → Request
finding opening =
    record {
      bits = 0;
      flags = 0;
      op = if opening.follows then RESOLVE else RESOLVE_NOFOLLOW;
      directory = opening.directory;
      asks_kind = opening.asks_kind;
      opens = false;
      gives = false;
      walks = false;
    }

-- Under O_PATH open(2) makes nothing. So the file is made by mknod(2), which takes its kind, and its name is opened.
abbrev pub creating : Opening → ℕ → Request
creating opening mode =
    record {
      bits = if opening.by_path then bit_or mode S_IFREG else mode;
      flags = opening.made_flags;
      op = MKFILE;
      directory = false;
      asks_kind = false;
      opens = not opening.by_path;
      gives = opening.by_path;
      walks = false;
    }

abbrev pub reading : Request
reading =
    record {
      bits = 0;
      flags = 0;
      op = READLINK;
      directory = false;
      asks_kind = false;
      opens = false;
      gives = false;
      walks = true;
    }

-- by the call
abbrev pub request_of : Opening → ℕ → Question → Request
request_of opening mode Find = finding opening
request_of opening mode Create = creating opening mode
request_of opening mode other = reading
