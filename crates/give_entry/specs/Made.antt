-- Which entry is the one that a call has made.
use Rattle.std.specs.Prelude.{ℕ, List, ◌==◌, Bool, true, not, ◌&&◌, ◌||◌}
use Rattle.path_text.specs.Name.{same_bytes}
use Rattle.system_calls.specs.Objects.{format, S_IFBLK, S_IFCHR, S_IFREG}
use Rattle.give_entry.specs.declared.giving.Made.{Made}
use Rattle.give_entry.specs.declared.giving.Made.TheVariants.{Name, File, Entry}

-- It is of the kind that was made (inode(7)), and a device has its number (mknod(2)). What got another name is of any
-- kind.
abbrev pub is_of_kind : Made → ℕ → ℕ → Bool
is_of_kind (Name fd) mode device = true
is_of_kind (File fd) mode device = format mode == S_IFREG
is_of_kind (Entry wanted number) mode device =
    (format mode == format wanted)
    && (not ((format mode == S_IFCHR) || (format mode == S_IFBLK)) || (device == number))

-- the text is the one that was written
abbrev pub is_text : List ℕ → List ℕ → Bool
is_text read text = same_bytes read text
