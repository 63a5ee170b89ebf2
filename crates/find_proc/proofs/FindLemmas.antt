-- How a search ends.
use Rattle.std.proofs.Common.{◌≡◌, ◌≢◌, inl, inr, ℕ, [], ◌∷◌, Bool, true, false, not, ◌&&◌, ◌||◌, if◌then◌else◌, Result, Ok, Err, refl, sym, ap, subst, ◌∙◌, arith}
use Rattle.std.specs.Prelude.{◌==◌, Some, None}
use Rattle.std.proofs.lemmas.Bool.{false≢true}
use Rattle.std.proofs.Math.Bool.{or-true}
use Rattle.system_calls.specs.Errors.{ENOSYS}
use Rattle.dialogue.specs.Dialogue.{and_then, calling, claims, closes, ends, keeps}
use Rattle.find_proc.specs.Asks.{AT_FDCWD, is_proc}
use Rattle.find_proc.specs.Find.{AT_PROC, Found, find, find_new, floor_found, floor_lost, hand_found, hand_told, is_at_hand, is_it, is_lost, kept_of, new_opened, new_seen, none, open_error, owned, proc_of, seen, seen_proc}
use Rattle.find_proc.specs.Promises.{FindEnds, FindsHold, IsShown, LooksHold, LostEnds, for_call}
use Rattle.find_proc.specs.Seen.{Seen, Wish, at_first, gets, looked_by, told_by, unasked, watch}
use Rattle.find_proc.specs.declared.asks.File.{File}
use Rattle.find_proc.specs.declared.asks.Known.{Known}
use Rattle.dialogue.specs.Holds.{is_in}
use Rattle.dialogue.proofs.HeldLemmas.{first_in, in_by, out_by, same}
use Rattle.dialogue.proofs.HoldLemmas.{Goes, asks_then, both, choose, goes_on, over, weak}
use Rattle.find_proc.proofs.Parts.{IsSome, file, floor, floor_by, got, opened, proc}

-- ---- the one at hand

-- it was only looked at
record Hand (w : Wish) (s t : Seen) (is : Bool) : Type 0 where
  stays : t ≡ record s { told = t.told; denied = t.denied }
  yes : is ≡ true → IsShown w.kept w.surely t
  denies : is ≡ false → w.kept.there ≡ true → t.denied ≡ true

denies : (d b : Bool) → b ≡ true → (d || b) ≡ true
denies d b is = ap (λ x. d || x) is ∙ or-true d

other : (fd : ℕ) (is : Bool) → is ≡ false → ((fd == fd) && not is) ≡ true
other fd is wrong = ap (λ b. b && not is) (same fd) ∙ ap not wrong

hand_file : (w : Wish) (s : Seen) (r : Result File ℕ) → s.proc ≡ None → w.kept.there ≡ true
    → Hand w s (told_by w s w.kept.fd r) (hand_told w.kept w.surely r)
hand_file w s (Ok file) quiet there =
    record {
      stays = refl;
      yes = λ is. record { there = there; file = file; told = refl; shown = is };
      denies = λ is _. denies s.denied _ (other w.kept.fd (is_it w.kept w.surely file) is);
    }
hand_file w s (Err error) quiet there =
    record {
      stays = rw quiet refl;
      yes = λ is. absurd (false≢true is);
      denies = λ _ _. denies s.denied _ (same w.kept.fd);
    }

hand : (w : Wish) (s : Seen) → s.floor ≡ unasked → s.proc ≡ None
    → Goes (watch w) 1 s (is_at_hand w.kept w.surely) (Hand w s)
unfolding is_at_hand
hand w s quiet none =
    choose (not w.kept.there)
    (λ absent. over
    (record { stays = refl; yes = λ is. absurd (false≢true is); denies = λ _ there. absurd (grind (arith, absent, there)) }))
    (λ present. goes_on 1 0 (told_by w s w.kept.fd) (file w s w.kept.fd quiet (inl refl))
    (λ r some. over
    (hand_file w s r none (grind (arith, present)))))

-- ---- a new one

record Unseen (s t : Seen) (error : ℕ) : Type 0 where
  held : t.held ≡ s.held
  claimed : t.claimed ≡ s.claimed
  filled : t.filled ≡ s.filled
  denied : s.denied ≡ true → t.denied ≡ true
  some : error ≢ 0
  why : error ≡ t.why

abbrev SeenEnds : Wish → Seen → ℕ → Seen → Result File ℕ → Type 0
SeenEnds w s fd t (Ok file) = t ≡ told_by w (record s { proc = Some fd }) fd (Ok file)
SeenEnds w s fd t (Err error) = Unseen s t error

sees_file : (w : Wish) (s t : Seen) (fd : ℕ) (r : Result File ℕ)
    → (t ≡ told_by w (record s { proc = Some fd }) fd r) × IsSome r → SeenEnds w s fd t r
sees_file w s t fd (Ok file) h = h.0
sees_file w s t fd (Err error) h =
    subst (λ u. Unseen s u error) (sym h.0)
    (record {
      held = refl;
      claimed = refl;
      filled = refl;
      denied = λ was. ap (λ b. b || (fd == w.kept.fd)) was;
      some = h.1;
      why = rw (same fd) refl;
    })

is_none : (w : Wish) (s : Seen) (fd why : ℕ) → ENOSYS ≡ why
    → Goes (watch w) 1 (record s { proc = None; why = why }) (ends (Err ENOSYS)) (SeenEnds w s fd)
is_none w s fd why is =
    over
    (record { held = refl; claimed = refl; filled = refl; denied = λ was. was; some = λ zero. absurd cc; why = is })

sees_proc : (w : Wish) (s : Seen) (fd : ℕ) (r : Result Bool ℕ) → s.floor ≡ unasked → s.hands ≡ false
    → is_in fd s.held ≡ true → Goes (watch w) 1 (looked_by s fd r) (seen_proc fd r) (SeenEnds w s fd)
sees_proc w s fd (Ok true) quiet calls held =
    let t = record s { proc = Some fd } in
    weak 1 (omega arith) (file w t fd quiet (inr held)) (λ u r h. sees_file w s u fd r h)
sees_proc w s fd (Ok false) quiet calls held = is_none w s fd _ (rw calls refl)
sees_proc w s fd (Err error) quiet calls held = is_none w s fd _ (rw calls refl)

sees : (w : Wish) (s : Seen) (fd : ℕ) → s.floor ≡ unasked → s.hands ≡ false → is_in fd s.held ≡ true
    → Goes (watch w) 2 s (seen fd) (SeenEnds w s fd)
unfolding seen
sees w s fd quiet calls held =
    goes_on 1 1 (looked_by s fd) (proc w s fd (inr held)) (λ r some. sees_proc w s fd r quiet calls held)

-- ---- whose it is

abbrev Ends : Known → Bool → Seen → Found → Type 0
Ends k surely t f = FindEnds k.kept surely t f.kept f.proc

record Identified (s : Seen) (fd : ℕ) (file : File) : Type 0 where
  held : s.held ≡ fd ∷ []
  claimed : s.claimed ≡ false
  filled : s.filled ≡ None
  is_proc : s.proc ≡ Some fd
  told : s.told ≡ Some (record { fd = fd; file = file })

claimed_so : (k : Known) (surely : Bool) (s : Seen) (fd : ℕ) (file : File) (b : Bool) → Identified s fd file
    → Goes (watch (for_call k surely)) 1
    (if b then record s { claimed = true; hands = false } else record s { hands = false; why = s.why })
    (if not b then ends (record { proc = Ok (proc_of fd true); kept = k.kept })
    else and_then (calling (keeps fd file.device file.inode file.mount false))
    (λ _. ends (record { proc = Ok (proc_of fd false); kept = kept_of fd file }))) (Ends k surely)
claimed_so k surely s fd file false h =
    over
    (inr (record { is_proc = h.is_proc; file = file; told = h.told; ones = (h.held, h.filled, refl); free = h.claimed }))
claimed_so k surely s fd file true h =
    asks_then 0 (keeps fd file.device file.inode file.mount false)
    (record { held = in_by fd s.held [] h.held; claimed = refl; proc = h.is_proc; told = h.told; hands = refl })
    (λ a. over
    (inr (record {
      is_proc = h.is_proc;
      file = file;
      told = h.told;
      ones = (out_by fd s.held [] h.held, refl, refl);
      free = refl;
    })))

owns : (k : Known) (surely : Bool) (s : Seen) (fd : ℕ) (file : File) → Identified s fd file
    → Goes (watch (for_call k surely)) 2 s (owned k.kept fd file) (Ends k surely)
unfolding owned
owns k surely s fd file h = asks_then 1 (claims false) refl (λ a. claimed_so k surely s fd file (a.error == 0) h)

-- ---- the search

-- nothing is open, and the one that is kept isn't at hand
record Bare (k : Known) (s : Seen) : Type 0 where
  held : s.held ≡ []
  claimed : s.claimed ≡ false
  filled : s.filled ≡ None
  hands : s.hands ≡ false
  quiet : s.floor ≡ unasked
  denied : k.kept.there ≡ true → s.denied ≡ true

open_some : (error : ℕ) → error ≢ 0 → open_error error ≢ 0
open_some error some same = absurd (grind (arith, some, same))

new_sees : (k : Known) (surely : Bool) (s t : Seen) (fd : ℕ) (r : Result File ℕ) → Bare k s
    → SeenEnds (for_call k surely) (gets s fd None) fd t r
    → Goes (watch (for_call k surely)) 2 t (new_seen k.kept fd r) (Ends k surely)
new_sees k surely s t fd (Ok file) h is =
    subst (λ u. Goes (watch (for_call k surely)) 2 u (owned k.kept fd file) (Ends k surely)) (sym is)
    (owns k surely (told_by (for_call k surely) (record (gets s fd None) { proc = Some fd }) fd (Ok file)) fd file
    (record { held = ap (λ xs. fd ∷ xs) h.held; claimed = h.claimed; filled = h.filled; is_proc = refl; told = refl }))
new_sees k surely s t fd (Err error) h u =
    let held = u.held ∙ ap (λ xs. fd ∷ xs) h.held in
    asks_then 1 (closes fd) (in_by fd t.held [] held)
    (λ a. over (
      record {
        closed = out_by fd t.held [] held;
        free = u.claimed ∙ h.claimed;
        unfilled = u.filled ∙ h.filled;
        some = u.some;
        why = u.why;
      },
      refl,
      inr (λ there. u.denied (h.denied there)),
    ))

new_opens : (k : Known) (surely : Bool) (s : Seen) (r : Result ℕ ℕ) → Bare k s → s.proc ≡ None → IsSome r
    → Goes (watch (for_call k surely)) 4 (got s AT_FDCWD r) (new_opened k.kept r) (Ends k surely)
new_opens k surely s (Ok fd) h none some =
    subst (λ o. Goes (watch (for_call k surely)) 4 (gets s fd o) (new_opened k.kept (Ok fd)) (Ends k surely))
    (sym (rw none refl))
    (both 2 2
    (sees (for_call k surely) (gets s fd None) fd h.quiet h.hands (first_in fd s.held))
    (λ t r is. new_sees k surely s t fd r h is))
new_opens k surely s (Err error) h none some =
    over (
      record {
        closed = h.held;
        free = h.claimed;
        unfilled = h.filled;
        some = open_some error some;
        why = rw h.hands refl;
      },
      refl,
      inr h.denied,
    )

news : (k : Known) (surely : Bool) (s : Seen) → Bare k s → s.proc ≡ None → k.kept.handed_in ≡ false
    → Goes (watch (for_call k surely)) 7 s (find_new k) (Ends k surely)
unfolding find_new
news k surely s h none alone =
    goes_on 3 4 (got s AT_FDCWD)
    (opened (for_call k surely) s AT_FDCWD AT_PROC _ 0
    (inl (record { here = refl; named = refl; finds = refl; alone = alone; denied = h.denied })))
    (λ r some. new_opens k surely s r h none some)

hand_ends : (k : Known) (surely : Bool) (t : Seen) (is : Bool) → Hand (for_call k surely) (at_first ENOSYS) t is
    → Goes (watch (for_call k surely)) 7 t (hand_found k is) (Ends k surely)
hand_ends k surely t true h =
    over
    (inl (record {
      is = refl;
      stays = refl;
      shown = h.yes refl;
      closed = ap (λ (u : Seen). u.held) h.stays;
      free = ap (λ (u : Seen). u.claimed) h.stays;
      unfilled = ap (λ (u : Seen). u.filled) h.stays;
    }))
hand_ends k surely t false h =
    let bare : Bare k t = record {
      held = ap (λ (u : Seen). u.held) h.stays;
      claimed = ap (λ (u : Seen). u.claimed) h.stays;
      filled = ap (λ (u : Seen). u.filled) h.stays;
      hands = ap (λ (u : Seen). u.hands) h.stays;
      quiet = ap (λ (u : Seen). u.floor) h.stays;
      denied = h.denies refl;
    } in
    choose k.kept.handed_in
    (λ handed. over (
      record {
        closed = bare.held;
        free = bare.claimed;
        unfilled = bare.filled;
        some = λ zero. absurd cc;
        why = sym (ap (λ (u : Seen). u.why) h.stays);
      },
      refl,
      inr (h.denies refl),
    ))
    (λ alone. news k surely t bare (ap (λ (u : Seen). u.proc) h.stays) alone)

floor_ends : (k : Known) (surely has : Bool)
    → Goes (watch (for_call k surely)) 8 (floor_by (at_first ENOSYS) has) (floor_found k surely has) (Ends k surely)
floor_ends k surely false =
    over (record { closed = refl; free = refl; unfilled = refl; some = λ zero. absurd cc; why = refl }, refl, inl refl)
floor_ends k surely true =
    both 1 7 (hand (for_call k surely) (at_first ENOSYS) refl refl) (λ t is h. hand_ends k surely t is h)

searched : (k : Known) (surely : Bool)
    → Goes (watch (for_call k surely)) 11 (at_first ENOSYS) (find k surely) (Ends k surely)
unfolding find
searched k surely =
    goes_on 3 8 (floor_by (at_first ENOSYS)) (floor (for_call k surely) (at_first ENOSYS) k refl)
    (λ has u. floor_ends k surely has)

pub finds-hold : FindsHold
finds-hold k surely = (searched k surely).each

-- ---- whether it is lost

lost_hand : (k : Known) (fd : ℕ) (t : Seen) (is : Bool) → Hand (for_call k true) (at_first ENOSYS) t is
    → LostEnds k.kept fd t (not is)
lost_hand k fd t true h = λ there same. h.yes refl
lost_hand k fd t false h = inr (h.denies refl)

lost_floor : (k : Known) (fd : ℕ) (has : Bool)
    → Goes (watch (for_call k true)) 1 (floor_by (at_first ENOSYS) has) (floor_lost k has) (LostEnds k.kept fd)
lost_floor k fd false = over (inl refl)
lost_floor k fd true =
    both 1 0 (hand (for_call k true) (at_first ENOSYS) refl refl) (λ t is h. over (lost_hand k fd t is h))

looked : (k : Known) (fd : ℕ) → Goes (watch (for_call k true)) 4 (at_first ENOSYS) (is_lost k fd) (LostEnds k.kept fd)
unfolding is_lost
looked k fd =
    choose (not k.kept.there || not (k.kept.fd == fd))
    (λ away. over
    (λ there same. absurd (grind (arith, away, there, same))))
    (λ here. goes_on 3 1 (floor_by (at_first ENOSYS)) (floor (for_call k true) (at_first ENOSYS) k refl)
    (λ has u. lost_floor k fd has))

pub looks-hold : LooksHold
looks-hold k fd = (looked k fd).each
