-- What a call leaves behind that opens the entry which it has made.
use Rattle.std.proofs.Common.{◌≡◌, ◌≢◌, inl, inr, ℕ, List, ◌∷◌, ◌++◌, Bool, true, false, not, ◌||◌, if◌then◌else◌, Result, Ok, Err, refl, sym, ap, subst, ◌∙◌, arith}
use Rattle.std.specs.Prelude.{◌==◌}
use Rattle.system_calls.specs.Held.{without}
use Rattle.system_calls.specs.Objects.{S_IFLNK, format}
use Rattle.dialogue.specs.Dialogue.{SystemCall, and_then, calling, closes, ends, reads_link, stats}
use Rattle.dialogue.specs.Holds.{is_in}
use Rattle.dialogue.specs.declared.calls.Answer.{Answer}
use Rattle.dialogue.proofs.HeldLemmas.{first_in, second_in, without_first, without_second}
use Rattle.dialogue.proofs.HoldLemmas.{Goes, asks_then, both, choose, over}
use Rattle.find_proc.proofs.Parts.{IsSome, not_zero}
use Rattle.give_entry.specs.Giving.{closing, compared, give, identified, look_error, one_of, open_error, opened, opened_by, read_back, seen, seen_then}
use Rattle.give_entry.specs.Made.{is_of_kind}
use Rattle.give_entry.specs.Promises.{left}
use Rattle.give_entry.specs.Seen.{held_first}
use Rattle.give_entry.specs.declared.giving.Made.{Made}
use Rattle.give_entry.specs.declared.giving.Made.TheVariants.{Name, File, Entry}
use Rattle.kernel_calls.specs.Seen.{May, Seen, Wish, fds, gets, opened_after, seen_by, watch}
use Rattle.kernel_calls.proofs.LookLemmas.{shut_fds}

-- ---- it is looked at

abbrev Looked : Seen → Seen → Result (Unit {0}) ℕ → Type 0
Looked s t r = (t ≡ s) × IsSome r

bad_some : (error : ℕ) → not (error == 0) ≡ true → error ≢ 0
bad_some error bad none = absurd (grind (arith, bad, none))

one_some : (b : Bool) → IsSome (one_of b)
one_some true = tt
one_some false = λ none. absurd cc

bad_or : (error : ℕ) (same bad : Bool) → not (error == 0) ≡ bad → IsSome (if bad then Err error else one_of same)
bad_or error same true is = bad_some error is
bad_or error same false is = one_some same

compares : (w : Wish) (s : Seen) (about : Answer) (other : ℕ) → May w s (stats other)
    → Goes (watch w) 1 s (compared about other) (Looked s)
unfolding compared
compares w s about other may =
    asks_then 0 (stats other) may
    (λ a. over
    (refl, bad_or (look_error a) _ (not (look_error a == 0)) refl))

reads : (w : Wish) (s : Seen) (fd : ℕ) (text read : List ℕ) → is_in fd (fds s.held) ≡ true
    → Goes (watch w) 1 s (read_back fd text read) (Looked s)
unfolding read_back
reads w s fd text read held =
    asks_then 0 (reads_link fd) held
    (λ a. over
    (refl, bad_or a.error _ (not (a.error == 0)) refl))

-- the descriptor that tells whether it is the one is open, or is that of the object which has another name
abbrev pub IsTold : Wish → Made → List ℕ → Type 0
IsTold w (Name other) held = (w.how.linked ≡ true) × (other ≡ w.how.fd)
IsTold w (File other) held = is_in other held ≡ true
IsTold w (Entry mode device) held = Unit {0}

identifies : (w : Wish) (s : Seen) (fd : ℕ) (made : Made) (text read : List ℕ) (a : Answer)
    → is_in fd (fds s.held) ≡ true → IsTold w made (fds s.held)
    → Goes (watch w) 1 s (identified fd made text read a) (Looked s)
identifies w s fd (Name other) text read a held told = compares w s a other (inr (inr (told.0, inl told.1)))
identifies w s fd (File other) text read a held told = compares w s a other (inr (inl told))
identifies w s fd (Entry mode device) text read a held told =
    choose (format mode == S_IFLNK) (λ _. reads w s fd text read held) (λ _. over (refl, tt))

sees : (w : Wish) (s : Seen) (fd : ℕ) (made : Made) (text read : List ℕ) → is_in fd (fds s.held) ≡ true
    → IsTold w made (fds s.held) → Goes (watch w) 2 s (seen fd made text read) (Looked s)
unfolding seen
sees w s fd made text read held told =
    asks_then 1 (stats fd) (inr (inl held))
    (λ a. choose (not (look_error a == 0)) (λ bad. over (refl, bad_some (look_error a) bad))
    (λ _. choose (not (is_of_kind made a.mode a.node)) (λ _. over (refl, λ none. absurd cc))
    (λ _. identifies w s fd made text read a held told)))

-- ---- it is opened

-- beside what is given these are open, and the change is as before
pub record Leaves (xs : List ℕ) (s t : Seen) (r : Result ℕ ℕ) : Type 0 where
  pub held : fds t.held ≡ left xs r
  pub change : t.change ≡ s.change
  pub some : IsSome r

shuts : (w : Wish) (s t : Seen) (fd : ℕ) (xs ys : List ℕ) (r : Result ℕ ℕ) → fds t.held ≡ xs → is_in fd xs ≡ true
    → without fd xs ≡ left ys r → t.change ≡ s.change → IsSome r
    → Goes (watch w) 1 t (and_then (calling (closes fd)) (λ _. ends r)) (Leaves ys s)
shuts w s t fd xs ys r held open_now out change some =
    asks_then 0 (closes fd) (ap (is_in fd) held ∙ open_now)
    (λ a. over
    (record { held = shut_fds fd t.held ∙ ap (without fd) held ∙ out; change = change; some = some }))

gives_so : (w : Wish) (s t : Seen) (fd : ℕ) (xs : List ℕ) (r : Result (Unit {0}) ℕ) → fds t.held ≡ fd ∷ xs
    → t.change ≡ s.change → IsSome r → Goes (watch w) 1 t (seen_then fd r) (Leaves xs s)
gives_so w s t fd xs (Ok done) held change some = over (record { held = held; change = change; some = tt })
gives_so w s t fd xs (Err error) held change some =
    shuts w s t fd (fd ∷ xs) xs (Err error) held (first_in fd xs) (without_first fd xs) change some

open_some : (error : ℕ) → error ≢ 0 → open_error error ≢ 0
open_some error some none = absurd (grind (arith, some, none))

told_more : (w : Wish) (made : Made) (fd : ℕ) (xs : List ℕ) → IsTold w made xs → IsTold w made (fd ∷ xs)
told_more w (Name other) fd xs told = told
told_more w (File other) fd xs told = by_case (fd == other)
  where
    by_case : (b : Bool) → (b || is_in other xs) ≡ true
    by_case true = refl
    by_case false = told
told_more w (Entry mode device) fd xs told = tt

opens_so : (w : Wish) (s : Seen) (q : SystemCall) (made : Made) (text read : List ℕ) (a : Answer) (b : Bool)
    → (a.error == 0) ≡ b → IsTold w made (fds s.held)
    → Goes (watch w) 3 (if b then gets s q a.value else record s { why = a.error })
    (if not b then ends (Err (open_error a.error))
    else and_then (seen a.value made text read) (seen_then a.value)) (Leaves (fds s.held) s)
opens_so w s q made text read a false is told =
    over (record { held = refl; change = refl; some = open_some a.error (not_zero a.error is) })
opens_so w s q made text read a true is told =
    let t = gets s q a.value in
    both 2 1
    (sees w t a.value made text read (first_in a.value (fds s.held)) (told_more w made a.value (fds s.held) told))
    (λ u r h. subst (λ v. Goes (watch w) 1 v (seen_then a.value r) (Leaves (fds s.held) s)) (sym h.0)
    (gives_so w s t a.value (fds s.held) r refl refl h.1))

opens : (w : Wish) (s : Seen) (q : SystemCall) (made : Made) (text read : List ℕ) → May w s q
    → ((a : Answer) → seen_by w s q a ≡ opened_after s q a) → IsTold w made (fds s.held)
    → Goes (watch w) 4 s (opened q made text read) (Leaves (fds s.held) s)
unfolding opened
opens w s q made text read may is told =
    asks_then 3 q may
    (λ a. subst (λ u. Goes (watch w) 3 u (opened_by made text read a) (Leaves (fds s.held) s)) (sym (is a))
    (opens_so w s q made text read a (a.error == 0) refl told))

-- ---- the descriptor by which a file was made is closed

closes_made : (w : Wish) (s t : Seen) (made : Made) (xs : List ℕ) (r : Result ℕ ℕ)
    → Leaves (held_first made ++ xs) s t r → Goes (watch w) 1 t (closing made r) (Leaves xs s)
closes_made w s t (Name fd) xs r h = over (record { held = h.held; change = h.change; some = h.some })
closes_made w s t (Entry mode device) xs r h = over (record { held = h.held; change = h.change; some = h.some })
closes_made w s t (File fd) xs (Ok given) h =
    shuts w s t fd (given ∷ fd ∷ xs) xs (Ok given) h.held (second_in fd given xs) (without_second fd given xs) h.change
    h.some
closes_made w s t (File fd) xs (Err error) h =
    shuts w s t fd (fd ∷ xs) xs (Err error) h.held (first_in fd xs) (without_first fd xs) h.change h.some

pub gives_entry : (w : Wish) (s : Seen) (q : SystemCall) (made : Made) (text read xs : List ℕ) → May w s q
    → ((a : Answer) → seen_by w s q a ≡ opened_after s q a) → IsTold w made (fds s.held)
    → fds s.held ≡ held_first made ++ xs
    → Goes (watch w) 5 s (give q made text read) (Leaves xs s)
unfolding give
gives_entry w s q made text read xs may is told held =
    both 4 1 (opens w s q made text read may is told)
    (λ t r h. closes_made w s t made xs r (subst (λ ys. Leaves ys s t r) held h))
