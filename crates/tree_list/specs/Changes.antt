-- What became of the nodes where an entry was to be added.
use Rattle.std.specs.Prelude.{◌≡◌, List, Result, Ok, Err, MatchResult, ◌⊎◌}
use Rattle.path_text.specs.declared.errno.Errno.{Errno}
use Rattle.path_text.specs.declared.errno.Errno.TheVariants as errno
use Rattle.tree_model.specs.declared.inode.Inode.{Inode}

-- a change that may want memory before it is known to be refused
abbrev pub IsTry : {A : Type 0} → List Inode → List Inode → Result (List Inode) Errno → Result A Errno → Type 0
IsTry old new wanted result = MatchResult result (λ _. wanted ≡ Ok new)
    (λ error. ((wanted ≡ Err error) ⊎ (error ≡ errno.NoMemory)) × (new ≡ old))
