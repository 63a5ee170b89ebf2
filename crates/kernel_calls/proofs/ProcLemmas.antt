-- How a call that gives an object another name finds a /proc.
use Rattle.std.proofs.Common.{◌≡◌, ◌≢◌, ◌⊎◌, inl, inr, ℕ, ◌∷◌, Bool, true, false, not, ◌||◌, if◌then◌else◌, Result, Ok, Err, refl, sym, ap, subst, arith}
use Rattle.std.specs.Prelude.{◌==◌, bit_and, bit_or, nat_lt, Option, Some, None}
use Rattle.std.proofs.lemmas.Bool.{eqb-true, false≢true}
use Rattle.system_calls.specs.Errors.{EACCES, ENOENT, ENOSYS, EPERM}
use Rattle.system_calls.specs.OpenFlags.{O_CLOEXEC}
use Rattle.dialogue.specs.Dialogue.{SystemCall, O_PATH, and_then, calling, claims, closes, copies_above, ends, keeps, look_up, opens, reads_object_link, stats, stats_file_system}
use Rattle.dialogue.specs.declared.calls.Answer.{Answer}
use Rattle.dialogue.specs.Holds.{is_in}
use Rattle.dialogue.proofs.HeldLemmas.{first_in, same, second_in}
use Rattle.dialogue.proofs.HoldLemmas.{Goes, asks_then, both, choose, over}
use Rattle.find_proc.specs.Asks.{AT_FDCWD, NO_DIRECTORY, NO_MAGICLINKS, SAME, above_error, above_told, by_path, file_of, file_of_answer, file_told, is_proc, opened_above}
use Rattle.find_proc.specs.Find.{AT_PROC, Found, find, find_new, floor_found, floor_lost, hand_found, is_at_hand, is_lost, new_opened, new_seen, open_error, owned, seen, seen_proc}
use Rattle.find_proc.specs.declared.asks.File.{File}
use Rattle.find_proc.specs.declared.asks.Kept.{Kept}
use Rattle.find_proc.specs.declared.asks.Known.{Known}
use Rattle.find_proc.specs.declared.asks.Proc.{Proc}
use Rattle.find_proc.proofs.Parts.{IsSome, not_zero}
use Rattle.kernel_calls.specs.InProc.{ESRCH, error_or_none, proc_error}
use Rattle.kernel_calls.specs.Seen.{IsOfProc, IsProc, IsProgram, IsUnmade, May, MayLook, MayOpen, Seen, Wish, fds, gets, opened_after, opens_after, shut, watch}
use Rattle.kernel_calls.proofs.ChangeLemmas.{gives_yes}
use Rattle.kernel_calls.proofs.EntryLemmas.{floor}
use Rattle.kernel_calls.proofs.LookLemmas.{path_in}

-- the call gives an object another name; none has one yet; and the program's /proc may be asked
pub record Linking (w : Wish) (s : Seen) (k : Known) : Type 0 where
  pub linked : w.how.linked ≡ true
  pub unmade : IsUnmade s.change
  pub program : k.kept.there ≡ true → IsProgram w s k.kept.fd

-- ---- what is asked

may_floor : (w : Wish) (s : Seen) (o : Option Answer) (d : ℕ) → w.how.linked ≡ true
    → MayLook w s o NO_DIRECTORY SAME d NO_MAGICLINKS
may_floor w s None d linked = inl refl
may_floor w s (Some made) d linked = inr (linked, refl)

asks_floor : (w : Wish) (s : Seen) (k : Known) → w.how.linked ≡ true
    → May w s (look_up NO_DIRECTORY SAME k.machine.directory NO_MAGICLINKS)
asks_floor w s k linked = may_floor w s s.change k.machine.directory linked

file_some : (a : Answer) → IsSome (file_told a)
file_some a = by_case (a.error == 0) refl a.has_mount
  where
    by_case : (b : Bool) → (a.error == 0) ≡ b → (c : Bool)
        → IsSome (if not b then Err a.error else (if not c then Err ENOSYS else Ok (file_of_answer a)))
    by_case false is c = not_zero a.error is
    by_case true is true = tt
    by_case true is false = λ zero. absurd cc

file : (w : Wish) (s : Seen) (fd : ℕ) → May w s (stats fd)
    → Goes (watch w) 1 s (file_of fd) (λ t r. (t ≡ s) × IsSome r)
unfolding file_of
file w s fd may = asks_then 0 (stats fd) may (λ a. over (refl, file_some a))

hand : (w : Wish) (s : Seen) (k : Known) (surely : Bool) → Linking w s k
    → Goes (watch w) 1 s (is_at_hand k.kept surely) (λ t is. (t ≡ s) × (is ≡ true → k.kept.there ≡ true))
unfolding is_at_hand
hand w s k surely h =
    choose (not k.kept.there) (λ _. over (refl, λ is. absurd (false≢true is)))
    (λ present. let there = gives_yes k.kept.there present in
    both 1 0 (file w s k.kept.fd (inr (inr (h.linked, inr (h.program there)))))
    (λ t r is. over (is.0, λ _. there)))

lost_floor : (w : Wish) (s : Seen) (k : Known) (has : Bool) → Linking w s k
    → Goes (watch w) 1 s (floor_lost k has) (λ t lost. t ≡ s)
lost_floor w s k has h =
    choose (not has) (λ _. over refl) (λ _. both 1 0 (hand w s k true h) (λ t is same. over same.0))

pub lost : (w : Wish) (s : Seen) (k : Known) (fd : ℕ) → Linking w s k
    → Goes (watch w) 4 s (is_lost k fd) (λ t lost. t ≡ s)
unfolding is_lost
lost w s k fd h =
    choose (not k.kept.there || not (k.kept.fd == fd)) (λ _. over refl)
    (λ _. both 3 1 (floor w s k (asks_floor w s k h.linked))
    (λ t has is. subst (λ u. Goes (watch w) 1 u (floor_lost k has) (λ v lost. v ≡ s)) (sym is)
    (lost_floor w s k has h)))

none_some : (error : ℕ) (b : Bool) → error ≢ 0 → error_or_none error b ≢ 0
none_some error true some = λ zero. absurd cc
none_some error false some = some

pub errs : (w : Wish) (s : Seen) (k : Known) (proc error : ℕ) → Linking w s k → IsProc w s proc → error ≢ 0
    → Goes (watch w) 4 s (proc_error k proc w.how.fd error) (λ t why. (t ≡ s) × (why ≢ 0))
unfolding proc_error
errs w s k proc error h is some =
    choose (error == ENOENT)
    (λ _. asks_then 3 (reads_object_link proc w.how.fd) (h.linked, refl, is)
    (λ a. over (refl, none_some error (a.error == ENOENT) some)))
    (λ _. choose ((error == EACCES) || ((error == EPERM) || (error == ESRCH)))
    (λ _. both 4 0 (lost w s k proc h) (λ t is same. over (same, none_some error is some)))
    (λ _. over (refl, some)))

-- ---- /proc is opened

abbrev OpensBy : Seen → Seen → Result ℕ ℕ → Type 0
OpensBy s t (Ok fd) = (q : SystemCall) × IsOfProc q × (t ≡ gets s q fd)
OpensBy s t (Err error) = (t ≡ record s { why = t.why }) × (error ≢ 0)

above_some : (error : ℕ) → error ≢ 0 → above_error error ≢ 0
above_some error some none = absurd (grind (arith, some, none))

raised : (w : Wish) (s : Seen) (q : SystemCall) (low : ℕ) (c : Answer) (b : Bool) → IsOfProc q → (c.error == 0) ≡ b
    → Goes (watch w) 1
    (if b then gets (gets s q low) (copies_above low) c.value else record (gets s q low) { why = c.error })
    (and_then (calling (closes low)) (λ _. ends (if not b then Err (above_error c.error) else Ok c.value)))
    (OpensBy s)
raised w s q low c true of is =
    asks_then 0 (closes low) (second_in low c.value (fds s.held)) (λ a. over (by_case (c.value == low) refl))
  where
    by_case : (b : Bool) → (c.value == low) ≡ b
        → OpensBy s (record s {
          held =
              if b then record { fd = low; by = q } ∷ s.held
              else record { fd = c.value; by = copies_above low }
              ∷ (if low == low then s.held else record { fd = low; by = q } ∷ shut low s.held);
        }) (Ok c.value)
    by_case true e = (q, of, ap (gets s q) (sym (eqb-true c.value low e)))
    by_case false e = (copies_above low, tt, rw (same low) refl)
raised w s q low c false of is =
    asks_then 0 (closes low) (first_in low (fds s.held))
    (λ a. over (rw (same low) refl, above_some c.error (not_zero c.error is)))

opened_so : (w : Wish) (s : Seen) (q : SystemCall) (a : Answer) (b : Bool) → w.how.linked ≡ true → IsOfProc q
    → (a.error == 0) ≡ b
    → Goes (watch w) 2 (if b then gets s q a.value else record s { why = a.error })
    (if not b then ends (Err a.error)
    else (if nat_lt 2 a.value then ends (Ok a.value)
    else and_then (calling (copies_above a.value))
    (λ c. and_then (calling (closes a.value)) (λ _. ends (above_told c)))))
    (OpensBy s)
opened_so w s q a false linked of is = over (refl, not_zero a.error is)
opened_so w s q a true linked of is =
    choose (nat_lt 2 a.value) (λ _. over (q, of, refl))
    (λ _. asks_then 1 (copies_above a.value) (linked, record { by = q; is = of; open_now = inl refl })
    (λ c. raised w s q a.value c (c.error == 0) of refl))

linked_opens : (o : Option Answer) (l : Bool) (s : Seen) (q : SystemCall) (a : Answer) → l ≡ true
    → opens_after o l s q a ≡ opened_after s q a
linked_opens (Some made) l s q a is = refl
linked_opens None true s q a is = refl
linked_opens None false s q a is = absurd (false≢true is)

may_proc : (w : Wish) (s : Seen) (o : Option Answer) (flags : ℕ) → w.how.linked ≡ true → IsUnmade s.change
    → bit_and flags O_PATH ≡ O_PATH → MayOpen w s o AT_FDCWD AT_PROC flags 0
may_proc w s None flags linked unmade named = inr (linked, unmade, (refl, refl, named))
may_proc w s (Some made) flags linked unmade named = inr (linked, unmade, (refl, refl, named))

opens_above : (w : Wish) (s : Seen) (flags : ℕ) → w.how.linked ≡ true → IsUnmade s.change
    → bit_and flags O_PATH ≡ O_PATH
    → Goes (watch w) 3 s (opened_above (opens AT_FDCWD AT_PROC flags 0)) (OpensBy s)
unfolding opened_above
opens_above w s flags linked unmade named =
    let q = opens AT_FDCWD AT_PROC flags 0 in
    asks_then 2 q (may_proc w s s.change flags linked unmade named)
    (λ a. subst
    (λ u. Goes (watch w) 2 u
    (if not (a.error == 0) then ends (Err a.error)
    else (if nat_lt 2 a.value then ends (Ok a.value)
    else and_then (calling (copies_above a.value))
    (λ c. and_then (calling (closes a.value)) (λ _. ends (above_told c))))) (OpensBy s))
    (sym (linked_opens s.change w.how.linked s q a linked))
    (opened_so w s q a (a.error == 0) linked (refl, refl, named) refl))

-- ---- a /proc is found

abbrev pub OneBy : Known → Seen → Seen → Kept → ℕ → Bool → Type 0
OneBy k s t kept fd true = (q : SystemCall) × IsOfProc q × (t ≡ gets s q fd) × (kept ≡ k.kept)
OneBy k s t kept fd false =
    ((t ≡ s) × (fd ≡ k.kept.fd) × (k.kept.there ≡ true) × (kept ≡ k.kept))
    ⊎ ((t ≡ record s { program = Some fd }) × (kept.fd ≡ fd))

abbrev pub FoundBy : Known → Seen → Seen → Kept → Result Proc ℕ → Type 0
FoundBy k s t kept (Ok proc) = OneBy k s t kept proc.fd proc.own
FoundBy k s t kept (Err error) = (t ≡ record s { why = t.why }) × (error ≢ 0) × (kept ≡ k.kept)

abbrev pub FoundSo : Known → Seen → Seen → Found → Type 0
FoundSo k s t f = FoundBy k s t f.kept f.proc

owns : (w : Wish) (s : Seen) (k : Known) (q : SystemCall) (fd : ℕ) (file : File) → w.how.linked ≡ true → IsOfProc q
    → Goes (watch w) 2 (gets s q fd) (owned k.kept fd file) (FoundSo k s)
unfolding owned
owns w s k q fd file linked of =
    asks_then 1 (claims false) (linked, refl)
    (λ a. choose (not (a.error == 0)) (λ _. over (q, of, refl, refl))
    (λ _. asks_then 0 (keeps fd file.device file.inode file.mount false)
    (linked, record { by = q; is = of; open_now = inl refl })
    (λ b. over (inr (rw (same fd) refl, refl)))))

new_sees : (w : Wish) (s : Seen) (k : Known) (q : SystemCall) (fd : ℕ) (r : Result File ℕ) → w.how.linked ≡ true
    → IsOfProc q → IsSome r
    → Goes (watch w) 2 (gets s q fd) (new_seen k.kept fd r) (FoundSo k s)
new_sees w s k q fd (Ok file) linked of some = owns w s k q fd file linked of
new_sees w s k q fd (Err error) linked of some =
    asks_then 1 (closes fd) (first_in fd (fds s.held)) (λ a. over (rw (same fd) refl, some, refl))

sees_proc : (w : Wish) (s : Seen) (fd : ℕ) (r : Result Bool ℕ) → is_in fd (fds s.held) ≡ true
    → Goes (watch w) 1 s (seen_proc fd r) (λ t r. (t ≡ s) × IsSome r)
sees_proc w s fd (Ok true) held = file w s fd (inr (inl held))
sees_proc w s fd (Ok false) held = over (refl, λ zero. absurd cc)
sees_proc w s fd (Err error) held = over (refl, λ zero. absurd cc)

sees : (w : Wish) (s : Seen) (fd : ℕ) → w.how.linked ≡ true → is_in fd (fds s.held) ≡ true
    → Goes (watch w) 2 s (seen fd) (λ t r. (t ≡ s) × IsSome r)
unfolding seen is_proc
sees w s fd linked held =
    both 1 1 (asks_then 0 (stats_file_system fd) (linked, held) (λ a. over {Post = λ t r. t ≡ s} refl))
    (λ t r is. subst (λ u. Goes (watch w) 1 u (seen_proc fd r) (λ v r. (v ≡ s) × IsSome r)) (sym is)
    (sees_proc w s fd r held))

open_some : (error : ℕ) → error ≢ 0 → open_error error ≢ 0
open_some error some none = absurd (grind (arith, some, none))

new_opens : (w : Wish) (s t : Seen) (k : Known) (r : Result ℕ ℕ) → w.how.linked ≡ true → OpensBy s t r
    → Goes (watch w) 4 t (new_opened k.kept r) (FoundSo k s)
new_opens w s t k (Ok fd) linked h =
    let u = gets s h.0 fd in
    subst (λ v. Goes (watch w) 4 v (new_opened k.kept (Ok fd)) (FoundSo k s)) (sym h.2)
    (both 2 2 (sees w u fd linked (first_in fd (fds s.held)))
    (λ v r is. subst (λ x. Goes (watch w) 2 x (new_seen k.kept fd r) (FoundSo k s)) (sym is.0)
    (new_sees w s k h.0 fd r linked h.1 is.1)))
new_opens w s t k (Err error) linked h = over (h.0, open_some error h.1, refl)

news : (w : Wish) (s : Seen) (k : Known) → Linking w s k → Goes (watch w) 7 s (find_new k) (FoundSo k s)
unfolding find_new
news w s k h =
    both 3 4
    (opens_above w s (bit_or (by_path k.machine.directory) k.machine.nofollow) h.linked h.unmade
    (path_in (by_path k.machine.directory) k.machine.nofollow
    (path_in (bit_or O_PATH O_CLOEXEC) k.machine.directory refl)))
    (λ t r o. new_opens w s t k r h.linked o)

finds_so : (w : Wish) (s : Seen) (k : Known) (surely has : Bool) → Linking w s k
    → Goes (watch w) 8 s (floor_found k surely has) (FoundSo k s)
finds_so w s k surely has h =
    choose (not has) (λ _. over (refl, (λ zero. absurd cc), refl))
    (λ _. both 1 7 (hand w s k surely h)
    (λ t is same. subst (λ u. Goes (watch w) 7 u (hand_found k is) (FoundSo k s)) (sym same.0)
    (choose is (λ yes. over (inl (refl, refl, same.1 yes, refl)))
    (λ _. choose k.kept.handed_in (λ _. over (refl, (λ zero. absurd cc), refl)) (λ _. news w s k h)))))

pub finds : (w : Wish) (s : Seen) (k : Known) (surely : Bool) → Linking w s k
    → Goes (watch w) 11 s (find k surely) (FoundSo k s)
unfolding find
finds w s k surely h =
    both 3 8 (floor w s k (asks_floor w s k h.linked))
    (λ t has is. subst (λ u. Goes (watch w) 8 u (floor_found k surely has) (FoundSo k s)) (sym is)
    (finds_so w s k surely has h))
