-- What an answer of Linux says of the file system at its moment: premises, each with the manual page that it is from.
-- By these a place that is told is one at which the object stood.
use Rattle.std.specs.Prelude.{◌≡◌, ◌⊎◌, ◌+◌, ◌<◌, ℕ, List, [], ◌∷◌, Bool, true, false, length, Some}
use Rattle.path_text.specs.declared.name.TheConstants.{SLASH}
use Rattle.system_calls.specs.Place.{ends_as_gone, place_told}
use Rattle.find_place.specs.Questions.{Exchange, is_dead, is_top, link_again, object_link, root_link, text_of}
use Rattle.find_place.specs.Witness.{FindsObject, Tells, Worked}
use Rattle.find_place.specs.declared.places.Facts.{Facts}

-- One object and one root, moment by moment. The n-th answer of a conversation is of the moment n, which is in its
-- system calls: of a text, that of its names; of a look-up, that at which statx(2) looks at what was found; of what is
-- asked again (link_again, is_dead), that at which the kernel looks whether it is gone. What others do comes between
-- two moments.
pub record World : Type 0 where
  -- these names led from the root to the object, all at this moment
  pub stands : ℕ → List ℕ → Bool
  -- The object had been removed: its entry, by which the descriptor is open. What a look-up finds counts as this very
  -- entry, though a file may have several, with one device and inode (link(2)).
  pub gone : ℕ → Bool
  -- the same, before the first question
  pub before : Bool
  -- the kernel has passed these names from the root, one after another, to the object, and then saw it below the root
  pub passed : ℕ → List ℕ → Bool
  -- the paths of the root and of the object, where the texts of links begin
  pub root : ℕ → List ℕ
  pub object : ℕ → List ℕ

-- rmdir(2), unlink(2), rename(2): what was removed stays so
abbrev pub StaysGone : World → Type 0
StaysGone w = (n : ℕ) → w.gone n ≡ true → w.gone (n + 1) ≡ true

pub record IsAnswer (w : World) (facts : Facts) (n : ℕ) (e : Exchange) : Type 0 where
  -- proc(5): the text of a link is called deleted if the object is gone, which the kernel looks at first (`d_path` in
  -- fs/d_path.c)
  pub link_again : Worked link_again e → ends_as_gone (text_of e) ≡ false → w.gone n ≡ false
  -- so it is of each text, if it was gone before the first question
  pub link_before : Worked object_link e → ends_as_gone (text_of e) ≡ false → w.before ≡ false
  -- statx(2), rmdir(2), getdents64(2): a removed directory has no link; where it keeps some (overlayfs, cgroups,
  -- btrfs), reading from it gives ENOENT. It isn't so in sysfs, where the kernel itself removes directories.
  pub dead : facts.directory ≡ true → e.asked ≡ is_dead → e.answer.yes ≡ false → w.gone n ≡ false
  -- proc(5): a link's text is the path
  pub object_link : Worked object_link e → text_of e ≡ w.object n
  pub root_link : Worked root_link e → text_of e ≡ w.root n
  -- openat2(2), RESOLVE_BENEATH; statx(2): the same device, inode and mount are the same object
  pub look_up : (place : List ℕ) → FindsObject place e → w.passed n place ≡ true
  -- statx(2): the same device and inode are the same object, while both are open. So this is the root itself, which a
  -- look-up of no names finds.
  pub looked_root : FindsObject (SLASH ∷ []) e → w.stands n (SLASH ∷ []) ≡ true

abbrev pub AreAnswers : World → Facts → ℕ → List Exchange → Type 0
AreAnswers w facts n [] = Unit {0}
AreAnswers w facts n (e ∷ es) = IsAnswer w facts n e × AreAnswers w facts (n + 1) es

-- The root hasn't moved between the moments of the first two answers, which are its text and the object's. And these
-- tell inside from outside (proc(5), /proc/pid/fd), since the thread's own root directory is a mount's, the root hasn't
-- left its own mount, and no mount with the object is taken off (umount2(2), MNT_DETACH): an object whose path lies
-- below the root's stands at the rest, or is gone by then: the kernel looks whether it is gone, which it calls deleted,
-- and takes the names after that, all at one moment (`d_path` in fs/d_path.c). If it was removed in between, and its
-- directory moved, the text has names at which it never stood. What the kernel calls deleted is gone, but for a name
-- that its cache has lost (NFS). Of a slash alone none of this is so: the kernel also writes it of an object that was
-- moved out of the mount by which it was opened, and so has no path any more (getcwd(2) writes `(unreachable)` before
-- it, a link in /proc doesn't: `prepend_path`).
pub record TextsTell (w : World) : Type 0 where
  pub stays : w.root 1 ≡ w.root 0
  pub below : (place : List ℕ) → place_told (w.root 1) (w.object 1) ≡ Some place → is_top place ≡ false
      → (w.gone 1 ≡ true) ⊎ (w.stands 1 place ≡ true)

-- A place is told. Then at the moment of an answer the object stood there. Texts of links must tell that, but of the
-- root itself; and what the kernel had seen below the root right before may have been removed, but not before the first
-- question.
abbrev pub PlacesStood : Type 0
PlacesStood =
    (w : World) (facts : Facts) (es : List Exchange) (place : List ℕ)
    → StaysGone w → AreAnswers w facts 0 es → (is_top place ≡ false → TextsTell w)
    → Tells facts es place
    → (n : ℕ) × (n < length es)
    × ((w.stands n place ≡ true) ⊎ ((facts.seen ≡ true) × (w.before ≡ false) × (w.gone n ≡ true)))

-- Wherever the root is moved, and whichever names texts have: the kernel has passed the place's names at the moment
-- of an answer, and saw the object below the root, which wasn't removed by then. So it is if the kernel hadn't seen the
-- object there right before.
abbrev pub PlacesWerePassed : Type 0
PlacesWerePassed =
    (w : World) (facts : Facts) (es : List Exchange) (place : List ℕ)
    → StaysGone w → AreAnswers w facts 0 es → Tells facts es place → facts.seen ≡ false
    → (n : ℕ) × (n < length es)
    × (w.passed n place ≡ true) × ((is_top place ≡ true) ⊎ (w.gone n ≡ false))
