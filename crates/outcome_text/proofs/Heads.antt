-- What each reply begins with.
use Rattle.std.proofs.Common.{refl}
use Rattle.path_text.specs.declared.errno.Errno.TheVariants.{NotFound, BadHandle, Raced, NoMemory, Busy, Exists, CrossRoot, NotDir, IsDir, Invalid, TooMany, BookFull, TooLong, NotEmpty, Loop}
use Rattle.race_core.specs.declared.report.Outcome.TheVariants.{Opened, Text, Done, Count, Stepped, Fault}
use Rattle.outcome_text.specs.Tellable.{RepliesHaveHeads}

pub replies_have_heads : RepliesHaveHeads
replies_have_heads (Opened node kind names) = refl
replies_have_heads (Text text) = refl
replies_have_heads Done = refl
replies_have_heads (Count count) = refl
replies_have_heads (Stepped answer) = refl
replies_have_heads (Fault NotFound) = refl
replies_have_heads (Fault BadHandle) = refl
replies_have_heads (Fault Raced) = refl
replies_have_heads (Fault NoMemory) = refl
replies_have_heads (Fault Busy) = refl
replies_have_heads (Fault Exists) = refl
replies_have_heads (Fault CrossRoot) = refl
replies_have_heads (Fault NotDir) = refl
replies_have_heads (Fault IsDir) = refl
replies_have_heads (Fault Invalid) = refl
replies_have_heads (Fault TooMany) = refl
replies_have_heads (Fault BookFull) = refl
replies_have_heads (Fault TooLong) = refl
replies_have_heads (Fault NotEmpty) = refl
replies_have_heads (Fault Loop) = refl
