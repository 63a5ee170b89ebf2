-- Which object an answer of statx(2) or fstat(2) is about, of which kind it is (inode(7)), and what an error says.
use Rattle.std.specs.Prelude.{ℕ, ◌*◌, ◌^◌, ◌==◌, Bool, ◌&&◌, ◌||◌, if◌then◌else◌, nat_lt, bit_and}
use Rattle.system_calls.specs.Errors.{ENOENT, EAGAIN, EACCES, EXDEV, ENOTDIR, ELOOP}
use Rattle.system_calls.specs.declared.objects.Object.{Object}

-- ---- the same object

-- Device and inode tell an object from all others while it is open. By another mount it stands elsewhere, unless the
-- mount doesn't count: as where the root was mounted over itself since it was opened.
abbrev pub is_same_object : Object → Object → Bool → Bool
is_same_object one other by_any_mount =
    (one.device == other.device) && ((one.inode == other.inode) && (by_any_mount || (one.mount == other.mount)))

-- ---- kinds

-- S_IFMT and the kinds below it, in the octal digit where inode(7) has them
abbrev pub S_IFMT : ℕ
S_IFMT = 15 * 2 ^ 12

abbrev pub S_IFIFO : ℕ
S_IFIFO = 1 * 2 ^ 12

abbrev pub S_IFCHR : ℕ
S_IFCHR = 2 * 2 ^ 12

abbrev pub S_IFDIR : ℕ
S_IFDIR = 4 * 2 ^ 12

abbrev pub S_IFBLK : ℕ
S_IFBLK = 6 * 2 ^ 12

abbrev pub S_IFREG : ℕ
S_IFREG = 8 * 2 ^ 12

abbrev pub S_IFLNK : ℕ
S_IFLNK = 10 * 2 ^ 12

abbrev pub S_IFSOCK : ℕ
S_IFSOCK = 12 * 2 ^ 12

abbrev pub format : ℕ → ℕ
format mode = bit_and mode S_IFMT

-- as a walk has them: 1 a directory, 3 a link, 2 all else
abbrev pub kind_of : ℕ → ℕ
kind_of mode =
    if format mode == S_IFDIR then 1
    else if format mode == S_IFLNK then 3
    else 2

-- mknod(2) makes it: a device, by any number; or a file, a FIFO or a socket, which has none. Beside the kind are
-- permissions alone.
abbrev pub is_node : ℕ → ℕ → Bool
is_node mode device =
    nat_lt mode (2 ^ 16)
    && (((format mode == S_IFCHR) || (format mode == S_IFBLK))
    || ((device == 0) && ((format mode == S_IFREG) || ((format mode == S_IFIFO) || (format mode == S_IFSOCK)))))

-- ---- errors

-- A look-up of openat2(2) by names, below a directory and through no link, failed for these names: one isn't there
-- (ENOENT), is no directory (ENOTDIR) or a link (ELOOP), it led out (EXDEV), may not be searched (EACCES), or others
-- renamed meanwhile (EAGAIN). So somebody has moved or changed what stood there.
abbrev pub is_elsewhere : ℕ → Bool
is_elsewhere error =
    (error == ENOENT)
    || ((error == ENOTDIR) || ((error == ELOOP) || ((error == EXDEV) || ((error == EACCES) || (error == EAGAIN)))))
