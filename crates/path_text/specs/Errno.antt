-- The errors, by the numbers and names that errno(3) gives them on Linux for x86-64.
use Rattle.std.specs.Prelude.{ℕ, List, codes}
use Rattle.path_text.specs.declared.errno.Errno.{Errno}
use Rattle.path_text.specs.declared.errno.Errno.TheVariants.{NotFound, BadHandle, Raced, NoMemory, Busy, Exists, CrossRoot, NotDir, IsDir, Invalid, TooMany, BookFull, TooLong, NotEmpty, Loop}

-- the number of an error
abbrev pub number_of : Errno → ℕ
number_of NotFound = 2
number_of BadHandle = 9
number_of Raced = 11
number_of NoMemory = 12
number_of Busy = 16
number_of Exists = 17
number_of CrossRoot = 18
number_of NotDir = 20
number_of IsDir = 21
number_of Invalid = 22
number_of TooMany = 24
number_of BookFull = 28
number_of TooLong = 36
number_of NotEmpty = 39
number_of Loop = 40

-- the E name of an error
abbrev pub name_of : Errno → List ℕ
name_of NotFound = codes "ENOENT"
name_of BadHandle = codes "EBADF"
name_of Raced = codes "EAGAIN"
name_of NoMemory = codes "ENOMEM"
name_of Busy = codes "EBUSY"
name_of Exists = codes "EEXIST"
name_of CrossRoot = codes "EXDEV"
name_of NotDir = codes "ENOTDIR"
name_of IsDir = codes "EISDIR"
name_of Invalid = codes "EINVAL"
name_of TooMany = codes "EMFILE"
name_of BookFull = codes "ENOSPC"
name_of TooLong = codes "ENAMETOOLONG"
name_of NotEmpty = codes "ENOTEMPTY"
name_of Loop = codes "ELOOP"
