-- Which operations can be copied.
use Rattle.std.specs.Prelude.{Bool, true, false}
use Rattle.root_ops.specs.declared.op.Op.{Op}
use Rattle.root_ops.specs.declared.op.Op.TheVariants.{Resolve, ResolveNoFollow, ReadLink, CreateFile, CreateDir, CreateLink, RemoveFile, RemoveDir, Rename, MkdirAll, RemoveAll, Single, Release}

abbrev pub is_release : Op → Bool
is_release (Resolve path) = false
is_release (ResolveNoFollow path) = false
is_release (ReadLink path) = false
is_release (CreateFile path) = false
is_release (CreateDir path) = false
is_release (CreateLink path text) = false
is_release (RemoveFile path) = false
is_release (RemoveDir path) = false
is_release (Rename old new mode) = false
is_release (MkdirAll path) = false
is_release (RemoveAll path) = false
is_release (Single step) = false
is_release (Release standing) = true
