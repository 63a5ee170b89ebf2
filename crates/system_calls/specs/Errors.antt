-- Errors of system calls (errno(3)), by their numbers in Linux's asm-generic/errno-base.h and asm-generic/errno.h.
-- These are the same on x86-64 and on arm64. The model's errors are a type of path_text, whose `number_of` gives
-- them these numbers. The two meet where a step is refused: in Lines.antt of calls_by_system_calls.
use Rattle.std.specs.Prelude.{ℕ}

abbrev pub EPERM : ℕ
EPERM = 1

abbrev pub ENOENT : ℕ
ENOENT = 2

abbrev pub EINTR : ℕ
EINTR = 4

abbrev pub EIO : ℕ
EIO = 5

abbrev pub EBADF : ℕ
EBADF = 9

abbrev pub EAGAIN : ℕ
EAGAIN = 11

abbrev pub ENOMEM : ℕ
ENOMEM = 12

abbrev pub EACCES : ℕ
EACCES = 13

abbrev pub EBUSY : ℕ
EBUSY = 16

abbrev pub EEXIST : ℕ
EEXIST = 17

abbrev pub EXDEV : ℕ
EXDEV = 18

abbrev pub ENOTDIR : ℕ
ENOTDIR = 20

abbrev pub EISDIR : ℕ
EISDIR = 21

abbrev pub EINVAL : ℕ
EINVAL = 22

abbrev pub ENFILE : ℕ
ENFILE = 23

abbrev pub EMFILE : ℕ
EMFILE = 24

abbrev pub ERANGE : ℕ
ERANGE = 34

abbrev pub ENAMETOOLONG : ℕ
ENAMETOOLONG = 36

abbrev pub ENOSYS : ℕ
ENOSYS = 38

abbrev pub ENOTEMPTY : ℕ
ENOTEMPTY = 39

abbrev pub ELOOP : ℕ
ELOOP = 40

abbrev pub EOPNOTSUPP : ℕ
EOPNOTSUPP = 95

abbrev pub ESTALE : ℕ
ESTALE = 116
