-- What comes before the first question, as a walk asks for the place of what it holds.
use Rattle.std.specs.Prelude.{◌≡◌, ◌⊎◌, ℕ, ◌==◌, Bool, true, false, not, ◌&&◌, ◌||◌, if◌then◌else◌}
use Rattle.find_place.specs.declared.held.Held.{Held}
use Rattle.find_place.specs.declared.held.TheConstants.{BY_ROOT, BY_NAME, SEEN_BELOW, AT_ROOT, LOOK_UP, AT_NAMES, ASK}

-- The names that the walk passed may be looked up: they are known, and `..` didn't lead to the object. It is done where
-- that is all, and of what is no directory, whose text comes after it then.
abbrev pub are_looked_up : Held → Bool
are_looked_up held =
    held.named && (not held.above && (held.below || not held.directory))

abbrev pub before_questions : Held → ℕ
before_questions held =
    if held.way == BY_ROOT then AT_ROOT
    else (if not (are_looked_up held) then ASK
    else (if held.way == BY_NAME then LOOK_UP
    else (if (held.way == SEEN_BELOW) && held.below then AT_NAMES else ASK)))

abbrev pub behind_look_up : Held → Bool → ℕ
behind_look_up held found = if found && held.below then AT_NAMES else ASK

-- ---- what that means

-- The kernel's check may answer the walk's last question alone: it is asked for, and the names are those by which the
-- walk has come there, and not by `..`.
pub record IsCheckEnough (held : Held) : Type 0 where
  pub below : held.below ≡ true
  pub named : held.named ≡ true
  pub by_names : held.above ≡ false

-- Where no question is asked, the names passed are told by that check: the kernel has seen the object below the root as
-- it opened it by its names from there, or by a look-up of these names that has found it. And if that check is enough,
-- nothing more is asked behind it.
abbrev pub NamesAreToldByTheKernelsCheck : Type 0
NamesAreToldByTheKernelsCheck =
    ((held : Held) → before_questions held ≡ AT_NAMES → IsCheckEnough held × (held.way ≡ SEEN_BELOW))
    × ((held : Held) (found : Bool) → before_questions held ≡ LOOK_UP → behind_look_up held found ≡ AT_NAMES
    → IsCheckEnough held × (found ≡ true))
    × ((held : Held) → IsCheckEnough held → held.way ≡ SEEN_BELOW → before_questions held ≡ AT_NAMES)
    × ((held : Held) → IsCheckEnough held → held.way ≡ BY_NAME
    → (before_questions held ≡ LOOK_UP) × (behind_look_up held true ≡ AT_NAMES))

-- The names passed are looked up before the questions only of what was opened by a name: where that look-up is all, or
-- of what is no directory.
abbrev pub NamesAreLookedUpFirst : Type 0
NamesAreLookedUpFirst =
    (held : Held) → before_questions held ≡ LOOK_UP
    → (held.way ≡ BY_NAME) × (held.named ≡ true) × (held.above ≡ false)
    × ((held.below ≡ true) ⊎ (held.directory ≡ false))

-- The root itself stands below itself at no names, wherever it is, and nothing else is taken for it unasked.
abbrev pub OnlyTheRootIsAtItself : Type 0
OnlyTheRootIsAtItself =
    ((held : Held) → held.way ≡ BY_ROOT → before_questions held ≡ AT_ROOT)
    × ((held : Held) → before_questions held ≡ AT_ROOT → held.way ≡ BY_ROOT)
