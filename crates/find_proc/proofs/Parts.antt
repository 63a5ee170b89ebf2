-- What each part of a search leaves behind it.
use Rattle.std.proofs.Common.{◌≡◌, ◌≢◌, ◌⊎◌, inl, inr, ℕ, ◌+◌, List, Bool, true, false, not, ◌&&◌, ◌||◌, if◌then◌else◌, Result, Ok, Err, refl, sym, ap, ◌∙◌, arith}
use Rattle.std.specs.Prelude.{◌==◌, nat_lt, Option, Some, None}
use Rattle.system_calls.specs.Errors.{EBADF, ENOSYS}
use Rattle.dialogue.specs.Dialogue.{and_then, calling, closes, copies_above, ends, knows, look_up, opens, stats, stats_file_system}
use Rattle.dialogue.specs.declared.calls.Answer.{Answer}
use Rattle.find_proc.specs.Asks.{AT_FDCWD, NO_DIRECTORY, NO_MAGICLINKS, SAME, above_error, above_told, fails_closed, file_of, file_of_answer, file_told, has_floor, has_followed_proc, has_number, is_proc, is_short, number_told, opened_above, proc_told}
use Rattle.find_proc.specs.Seen.{May, Seen, Wish, asked, copy_of, gets, gets_none, lacking, looked_by, shown, told_by, unasked, watch, why_unopened}
use Rattle.find_proc.specs.declared.asks.Known.{Known}
use Rattle.dialogue.specs.Holds.{is_in}
use Rattle.system_calls.specs.Held.{without}
use Rattle.dialogue.proofs.HeldLemmas.{first_in, same, second_in, without_first, without_second}
use Rattle.dialogue.proofs.HoldLemmas.{Goes, asks_then, choose, over}

-- an error is one
abbrev pub IsSome : {E : Type 0} → Result E ℕ → Type 0
IsSome (Ok e) = Unit {0}
IsSome (Err error) = error ≢ 0

pub not_zero : (n : ℕ) → (n == 0) ≡ false → n ≢ 0
not_zero n is same = absurd (grind (arith, is, same))

-- ---- descriptors

copy_again : (o : Option ℕ) (fd low high : ℕ) → copy_of (copy_of o fd low) low high ≡ copy_of o fd high
copy_again None fd low high = refl
copy_again (Some proc) fd low high = by_case (proc == fd)
  where
    by_case : (b : Bool) → copy_of (if b then Some low else None) low high ≡ (if b then Some high else None)
    by_case true = rw (same low) refl
    by_case false = refl

-- ---- what the kernel has

settles : (s : Seen) → s.floor ≡ unasked → record s { floor = unasked } ≡ s
settles s quiet = ap (λ f. record s { floor = f }) (sym quiet)

abbrev pub floor_by : Seen → Bool → Seen
floor_by s has = if has then s else lacking s

abbrev FloorIs : Seen → Seen → Bool → Type 0
FloorIs s t has = (t ≡ floor_by s has) × Unit {0}

numbered : (w : Wish) (s : Seen) (has is_known : Bool) → s.floor ≡ unasked
    → Goes (watch w) 1 (if has then record s { floor = if is_known then shown else unasked } else lacking s)
    (if has && is_known then and_then (calling (knows true)) (λ _. ends has) else ends has) (FloorIs s)
numbered w s false is_known quiet = over (refl, tt)
numbered w s true false quiet = over (settles s quiet, tt)
numbered w s true true quiet = asks_then 0 (knows true) (refl, refl) (λ a. over (settles s quiet, tt))

numbers : (w : Wish) (s : Seen) (is_known : Bool) → s.floor ≡ unasked
    → Goes (watch w) 2 (record s { floor = asked is_known }) (and_then (calling (stats AT_FDCWD)) (number_told is_known)) (FloorIs s)
numbers w s is_known quiet = asks_then 1 (stats AT_FDCWD) (inl tt) (λ a. numbered w s (has_number a) is_known quiet)

looked_up : (w : Wish) (s : Seen) (none short : Bool) → s.floor ≡ unasked
    → Goes (watch w) 2 (if none || short then record s { floor = asked none } else lacking s)
    (if not none && not short then ends false else and_then (calling (stats AT_FDCWD)) (number_told none)) (FloorIs s)
looked_up w s true short quiet = numbers w s true quiet
looked_up w s false true quiet = numbers w s false quiet
looked_up w s false false quiet = over (refl, tt)

pub floor : (w : Wish) (s : Seen) (k : Known) → s.floor ≡ unasked
    → Goes (watch w) 3 s (has_floor k) (λ t has. (t ≡ floor_by s has) × Unit {0})
unfolding has_floor
floor w s k quiet =
    choose k.has_floor (λ _. over (refl, tt))
    (λ _. asks_then 2 (look_up NO_DIRECTORY SAME k.machine.directory NO_MAGICLINKS) tt
    (λ a. looked_up w s (a.error == EBADF) (is_short a.error) quiet))

-- ---- what is open

file_some : (a : Answer) → IsSome (file_told a)
file_some a = by_case (a.error == 0) refl a.has_mount
  where
    by_case : (b : Bool) → (a.error == 0) ≡ b → (c : Bool)
        → IsSome (if not b then Err a.error else (if not c then Err ENOSYS else Ok (file_of_answer a)))
    by_case false is c = not_zero a.error is
    by_case true is true = tt
    by_case true is false = λ none. absurd cc

pub file : (w : Wish) (s : Seen) (fd : ℕ) → s.floor ≡ unasked → (fd ≡ w.kept.fd) ⊎ (is_in fd s.held ≡ true)
    → Goes (watch w) 1 s (file_of fd) (λ t r. (t ≡ told_by w s fd r) × IsSome r)
unfolding file_of
file w s fd quiet may =
    asks_then 0 (stats fd) (inr may)
    (λ a. over
    (rw quiet refl, file_some a))

proc_some : (a : Answer) → IsSome (proc_told a)
proc_some a = by_case (a.error == 0) refl
  where
    by_case : (b : Bool) → (a.error == 0) ≡ b → IsSome (if not b then Err a.error else Ok (has_followed_proc a))
    by_case false is = not_zero a.error is
    by_case true is = tt

pub proc : (w : Wish) (s : Seen) (fd : ℕ) → (w.handed ≡ Some fd) ⊎ (is_in fd s.held ≡ true)
    → Goes (watch w) 1 s (is_proc fd) (λ t r. (t ≡ looked_by s fd r) × IsSome r)
unfolding is_proc
proc w s fd may =
    asks_then 0 (stats_file_system fd) may
    (λ a. over
    (refl, proc_some a))

pub closed : {E : Type 0} (w : Wish) (n : ℕ) (s : Seen) (fd error : ℕ) (Post : Seen → Result E ℕ → Type 0)
    → is_in fd s.held ≡ true → Post (record s { held = without fd s.held }) (Err error)
    → Goes (watch w) (1 + n) s (fails_closed fd error) Post
unfolding fails_closed
closed w n s fd error Post held post = asks_then n (closes fd) held (λ a. over post)

-- ---- what is opened

abbrev pub got : Seen → ℕ → Result ℕ ℕ → Seen
got s dir (Ok fd) = gets s fd (copy_of s.proc dir fd)
got s dir (Err error) = gets_none s (why_unopened s error)

abbrev Got : Seen → ℕ → Seen → Result ℕ ℕ → Type 0
Got s dir t r = (t ≡ got s dir r) × IsSome r

above_some : (error : ℕ) → error ≢ 0 → above_error error ≢ 0
above_some error some same = absurd (grind (arith, some, same))

raised : (w : Wish) (s : Seen) (dir low : ℕ) (c : Answer) (b : Bool) → (c.error == 0) ≡ b
    → Goes (watch w) 1
    (if b then gets (gets s low (copy_of s.proc dir low)) c.value (copy_of (copy_of s.proc dir low) low c.value)
    else gets_none (gets s low (copy_of s.proc dir low)) (why_unopened s (above_error c.error)))
    (and_then (calling (closes low)) (λ _. ends (if not b then Err (above_error c.error) else Ok c.value))) (Got s dir)
raised w s dir low c true is =
    asks_then 0 (closes low) (second_in low c.value s.held)
    (λ a. over (
      ap (λ xs. record (gets s c.value (copy_of (copy_of s.proc dir low) low c.value)) { held = xs })
          (without_second low c.value s.held) ∙ ap (gets s c.value) (copy_again s.proc dir low c.value),
      tt,
    ))
raised w s dir low c false is =
    asks_then 0 (closes low) (first_in low s.held)
    (λ a. over (
      ap (λ xs. record (gets_none s (why_unopened s (above_error c.error))) { held = xs }) (without_first low s.held),
      above_some c.error (not_zero c.error is),
    ))

opened_so : (w : Wish) (s : Seen) (dir : ℕ) (a : Answer) (b : Bool) → (a.error == 0) ≡ b
    → Goes (watch w) 2
    (if b then gets s a.value (copy_of s.proc dir a.value) else gets_none s (why_unopened s a.error))
    (if not b then ends (Err a.error)
    else (if nat_lt 2 a.value then ends (Ok a.value)
    else and_then (calling (copies_above a.value))
    (λ c. and_then (calling (closes a.value)) (λ _. ends (above_told c)))))
    (Got s dir)
opened_so w s dir a false is = over (refl, not_zero a.error is)
opened_so w s dir a true is =
    choose (nat_lt 2 a.value) (λ _. over (refl, tt))
    (λ _. asks_then 1 (copies_above a.value) (first_in a.value s.held)
    (λ c. raised w s dir a.value c (c.error == 0) refl))

pub opened : (w : Wish) (s : Seen) (dir : ℕ) (path : List ℕ) (flags mode : ℕ) → May w s (opens dir path flags mode)
    → Goes (watch w) 3 s (opened_above (opens dir path flags mode)) (λ t r. (t ≡ got s dir r) × IsSome r)
unfolding opened_above
opened w s dir path flags mode may =
    asks_then 2 (opens dir path flags mode) may (λ a. opened_so w s dir a (a.error == 0) refl)
