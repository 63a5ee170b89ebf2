-- How a proc(5) of the library's own is made.
use Rattle.std.proofs.Common.{◌≡◌, ◌≢◌, inl, inr, ℕ, ◌+◌, List, [], ◌∷◌, Bool, true, false, if◌then◌else◌, Result, Ok, Err, refl, sym, ap, subst, ◌∙◌, arith}
use Rattle.std.specs.Prelude.{◌==◌, Some, None}
use Rattle.std.proofs.lemmas.Bool.{false≢true}
use Rattle.dialogue.proofs.PartLemmas.{same_end}
use Rattle.system_calls.specs.Errors.{EBUSY, ENOSYS}
use Rattle.dialogue.specs.Dialogue.{Exchange, SystemCall, Talks, Whole, and_then, calling, closes, configures, copies_proc, ends, mounts, new_proc, reads_thread}
use Rattle.dialogue.specs.declared.calls.Answer.{Answer}
use Rattle.find_proc.specs.Asks.{fails_closed}
use Rattle.find_proc.specs.HandIn.{is_believed, is_ok}
use Rattle.find_proc.specs.Private.{believed, believed_by, closing_context, copy_by, handing, made, made_by, made_or_copied, make_private, mounted, new_believed, opening, or_copied, proc_believed, tried}
use Rattle.find_proc.specs.Promises.{HandEnds, MakingHolds, NoneIsMade, for_own}
use Rattle.find_proc.specs.Seen.{May, Seen, Wish, at_first, makes, seen_by, unasked, watch}
use Rattle.find_proc.specs.declared.asks.Known.{Known}
use Rattle.dialogue.specs.Holds.{is_in}
use Rattle.system_calls.specs.Held.{without}
use Rattle.dialogue.proofs.HeldLemmas.{first_in, in_by, out_by, second_in, without_second}
use Rattle.dialogue.proofs.HoldLemmas.{Goes, asks_then, both, goes_on, over, weak}
use Rattle.find_proc.proofs.HandLemmas.{Checked, Handed, checks, hands}
use Rattle.find_proc.proofs.Parts.{IsSome, closed, not_zero}

-- ---- what is so until one is handed in

abbrev Calm : Seen → Type 0
Calm t = (t.floor ≡ unasked) × (t.claimed ≡ false) × (t.filled ≡ None) × (t.hands ≡ false)

-- nothing is open, for this error
abbrev Without : Seen → ℕ → Type 0
Without t error = Calm t × (t.held ≡ []) × (error ≢ 0) × (error ≡ t.why)

-- this one was made, and is open alone
abbrev With : Seen → ℕ → Type 0
With t fd = Calm t × (t.held ≡ fd ∷ []) × (t.made ≡ Some fd)

abbrev Opened : Seen → Result ℕ ℕ → Type 0
Opened t (Ok fd) = With t fd
Opened t (Err error) = Without t error

-- ---- what opens something

abbrev tried_by : (ℕ → Seen) → (ℕ → Seen) → Result ℕ ℕ → Seen
tried_by good bad (Ok fd) = good fd
tried_by good bad (Err error) = bad error

tried_so : (w : Wish) (a : Answer) (good bad : ℕ → Seen) (b : Bool) → (a.error == 0) ≡ b
    → Goes (watch w) 0 (if b then good a.value else bad a.error)
    (ends (if b then Ok a.value else Err a.error)) (λ t r. (t ≡ tried_by good bad r) × IsSome r)
tried_so w a good bad true is = over (refl, tt)
tried_so w a good bad false is = over (refl, not_zero a.error is)

tries : (w : Wish) (s : Seen) (q : SystemCall) (good bad : ℕ → Seen)
    → ((a : Answer) → seen_by w s q a ≡ (if a.error == 0 then good a.value else bad a.error)) → May w s q
    → Goes (watch w) 1 s (opening q) (λ t r. (t ≡ tried_by good bad r) × IsSome r)
unfolding opening
tries w s q good bad is may =
    asks_then 0 q may
    (λ a. subst (λ u. Goes (watch w) 0 u (ends (tried a)) (λ t r. (t ≡ tried_by good bad r) × IsSome r)) (sym (is a))
    (tried_so w a good bad (a.error == 0) refl))

-- ---- a new one

-- the context is open, and one upon it if there is one
abbrev Mounted : ℕ → Seen → Result ℕ ℕ → Type 0
Mounted context t (Ok fd) = Calm t × (t.held ≡ fd ∷ context ∷ []) × (t.made ≡ Some fd)
Mounted context t (Err error) = Calm t × (t.held ≡ context ∷ []) × (error ≢ 0) × (error ≡ t.why)

mounts_so : (w : Wish) (s : Seen) (context : ℕ) (r : Result ℕ ℕ) → Calm s → s.held ≡ context ∷ [] → IsSome r
    → Mounted context (tried_by (makes s) (λ error. record s { why = error }) r) r
mounts_so w s context (Ok fd) calm held some = (calm, ap (λ xs. fd ∷ xs) held, refl)
mounts_so w s context (Err error) calm held some = (calm, held, some, refl)

creates : (w : Wish) (s : Seen) (context : ℕ) (a : Answer) (b : Bool) → (a.error == 0) ≡ b → Calm s
    → s.held ≡ context ∷ []
    → Goes (watch w) 1 (if b then s else record s { why = a.error })
    (if b then opening (mounts context) else ends (Err a.error)) (Mounted context)
creates w s context a true is calm held =
    weak 1 (omega arith)
    (tries w s (mounts context) (makes s) (λ error. record s { why = error }) (λ a. refl) (in_by context s.held [] held))
    (λ t r h. subst (λ u. Mounted context u r) (sym h.0) (mounts_so w s context r calm held h.1))
creates w s context a false is calm held = over (calm, held, not_zero a.error is, refl)

mounted_so : (w : Wish) (s : Seen) (context : ℕ) → Calm s → s.held ≡ context ∷ [] → s.restricted ≡ true
    → Goes (watch w) 2 s (mounted context) (Mounted context)
unfolding mounted
mounted_so w s context calm held restricted =
    asks_then 1 (configures context false) (in_by context s.held [] held, inr restricted)
    (λ a. creates w s context a (a.error == 0) refl calm held)

closes_context : (w : Wish) (t : Seen) (context : ℕ) (r : Result ℕ ℕ) → Mounted context t r
    → Goes (watch w) 1 t (closing_context context r) Opened
closes_context w t context (Ok fd) h =
    asks_then 0 (closes context) (ap (is_in context) h.1 ∙ second_in context fd [])
    (λ a. over
    (h.0, ap (without context) h.1 ∙ without_second context fd [], h.2))
closes_context w t context (Err error) h =
    asks_then 0 (closes context) (in_by context t.held [] h.1)
    (λ a. over
    (h.0, out_by context t.held [] h.1, h.2, h.3))

abbrev begun : Seen → ℕ → Seen
begun s context = record s { held = context ∷ s.held; restricted = false }

makes_by : (w : Wish) (s : Seen) (r : Result ℕ ℕ) → Calm s → s.held ≡ [] → IsSome r
    → Goes (watch w) 4 (tried_by (begun s) (λ error. record s { why = error }) r) (made_by r) Opened
makes_by w s (Ok context) calm held some =
    let u = record (begun s context) { restricted = true } in
    asks_then 3 (configures context true) (first_in context s.held, inl refl)
    (λ a. both 2 1
    (mounted_so w u context calm (ap (λ xs. context ∷ xs) held) refl) (λ t r h. closes_context w t context r h))
makes_by w s (Err error) calm held some = over (calm, held, some, refl)

makes_proc : (w : Wish) (s : Seen) → w.finds ≡ false → Calm s → s.held ≡ [] → Goes (watch w) 5 s made Opened
unfolding made
makes_proc w s own calm held =
    goes_on 1 4 (tried_by (begun s) (λ error. record s { why = error }))
    (tries w s new_proc (begun s) (λ error. record s { why = error }) (λ a. refl) own)
    (λ r some. makes_by w s r calm held some)

-- ---- what it is

-- it has the calling thread
abbrev Believed : Seen → Result ℕ ℕ → Type 0
Believed t (Ok fd) = With t fd × (t.thread ≡ Some fd)
Believed t (Err error) = Without t error

abbrev Told : ℕ → Seen → Bool → Type 0
Told fd t true = With t fd
Told fd t false = With t fd × (ENOSYS ≡ t.why)

believes_proc : (w : Wish) (s t : Seen) (fd : ℕ) (r : Result (Unit {0}) ℕ) → With s fd → Checked s fd t r
    → Goes (watch w) 0 t (ends (is_ok r)) (Told fd)
believes_proc w s t fd (Ok done) h is = over (subst (λ u. With u fd) (sym is) h)
believes_proc w s t fd (Err error) h refused =
    over (
      subst (λ u. With u fd) (sym refused.stays) h,
      sym (refused.why ∙ ap (λ b. if b then error else ENOSYS) h.0.3),
    )

believes_it : (w : Wish) (s : Seen) (k : Known) (fd : ℕ) → With s fd → Goes (watch w) 4 s (is_believed k fd) (Told fd)
unfolding is_believed
believes_it w s k fd h =
    both 4 0 (checks w s k fd h.0.0 (inr (in_by fd s.held [] h.1))) (λ t r is. believes_proc w s t fd r h is)

-- it isn't one, and closed
is_none : (w : Wish) (n : ℕ) (t : Seen) (fd : ℕ) → With t fd → ENOSYS ≡ t.why
    → Goes (watch w) (1 + n) t (fails_closed fd ENOSYS) Believed
is_none w n t fd h why =
    closed w n t fd ENOSYS Believed (in_by fd t.held [] h.1) (h.0, out_by fd t.held [] h.1, λ zero. absurd cc, why)

reads_so : (w : Wish) (t : Seen) (fd : ℕ) (b : Bool) → With t fd
    → Goes (watch w) 1 (if b then record t { thread = Some fd } else record t { thread = None; why = ENOSYS })
    (if b then ends (Ok fd) else fails_closed fd ENOSYS) Believed
reads_so w t fd true h = over (h, refl)
reads_so w t fd false h = is_none w 0 (record t { thread = None; why = ENOSYS }) fd h refl

reads : (w : Wish) (t : Seen) (fd : ℕ) (is : Bool) → Told fd t is
    → Goes (watch w) 2 t (proc_believed fd is) Believed
reads w t fd true h = asks_then 1 (reads_thread fd) (in_by fd t.held [] h.1) (λ a. reads_so w t fd (a.error == 0) h)
reads w t fd false h = is_none w 1 t fd h.0 h.1

believes : (w : Wish) (s : Seen) (k : Known) (fd : ℕ) → With s fd → Goes (watch w) 6 s (believed k fd) Believed
unfolding believed
believes w s k fd h = both 4 2 (believes_it w s k fd h) (λ t is told. reads w t fd is told)

-- ---- a new one, or a copy

believes_by : (w : Wish) (s : Seen) (k : Known) (r : Result ℕ ℕ) → Opened s r
    → Goes (watch w) 6 s (believed_by k r) Believed
believes_by w s k (Ok fd) h = believes w s k fd h
believes_by w s k (Err error) h = over h

makes_new : (w : Wish) (s : Seen) (k : Known) → w.finds ≡ false → Calm s → s.held ≡ []
    → Goes (watch w) 11 s (new_believed k) Believed
unfolding new_believed
makes_new w s k own calm held = both 5 6 (makes_proc w s own calm held) (λ t r h. believes_by w t k r h)

copies_by : (w : Wish) (t : Seen) (k : Known) (why : ℕ) (r : Result ℕ ℕ) → Without t why
    → Goes (watch w) 6 (tried_by (makes t) (λ error. t) r) (copy_by k why r) Believed
copies_by w t k why (Ok fd) h = believes w (makes t fd) k fd (h.0, ap (λ xs. fd ∷ xs) h.1, refl)
copies_by w t k why (Err error) h = over h

copies_so : (w : Wish) (t : Seen) (k : Known) (r : Result ℕ ℕ) → Believed t r
    → Goes (watch w) 7 t (or_copied k r) Believed
copies_so w t k (Ok fd) h = over h
copies_so w t k (Err why) h =
    goes_on 1 6 (tried_by (makes t) (λ error. t))
    (tries w t copies_proc (makes t) (λ error. t) (λ a. refl) (λ zero. h.2 (h.3 ∙ zero)))
    (λ r some. copies_by w t k why r h)

makes_one : (w : Wish) (s : Seen) (k : Known) → w.finds ≡ false → Calm s → s.held ≡ []
    → Goes (watch w) 18 s (made_or_copied k) Believed
unfolding made_or_copied
makes_one w s k own calm held = both 11 7 (makes_new w s k own calm held) (λ t r h. copies_so w t k r h)

-- ---- it is handed in

closes_own : (w : Wish) (t u : Seen) (fd : ℕ) (r : Result (Unit {0}) ℕ) → With t fd → Handed t u r
    → Goes (watch w) 1 u (and_then (calling (closes fd)) (λ _. ends r)) HandEnds
closes_own w t u fd (Ok done) h handed =
    let held = handed.held ∙ h.1 in
    asks_then 0 (closes fd) (in_by fd u.held [] held)
    (λ a. over
    (record { closed = out_by fd u.held [] held; free = handed.claimed; fd = handed.fd; filled = handed.filled }))
closes_own w t u fd (Err error) h handed =
    let held = handed.held ∙ h.1 in
    asks_then 0 (closes fd) (in_by fd u.held [] held)
    (λ a. over
    (record {
      closed = out_by fd u.held [] held;
      free = handed.claimed;
      unfilled = handed.filled ∙ h.0.2;
      some = handed.some;
      why = handed.why;
    }))

hands_own : (w : Wish) (t : Seen) (k : Known) (r : Result ℕ ℕ) → w.finds ≡ false → Believed t r
    → Goes (watch w) 12 t (handing k r) HandEnds
hands_own w t k (Ok fd) own h =
    let held = in_by fd t.held [] h.0.1 in
    both 11 1 (hands w t k fd h.0.0.0 h.0.0.1 (inr held) (own, inr (h.0.2, held, h.1)))
    (λ u r handed. closes_own w t u fd r h.0 handed)
hands_own w t k (Err error) own h =
    over (record { closed = h.1; free = h.0.1; unfilled = h.0.2; some = h.2; why = h.3 })

-- ---- the laws

makes_it : (k : Known) (claimed : Bool) → claimed ≡ false
    → Goes (watch (for_own k)) 30 (at_first 0)
    (if claimed then ends (Err EBUSY) else and_then (made_or_copied k) (handing k)) HandEnds
makes_it k true none = absurd (false≢true (sym none))
makes_it k false none =
    both 18 12 (makes_one (for_own k) (at_first 0) k refl (refl, refl, refl, refl) refl)
    (λ t r h. hands_own (for_own k) t k r refl h)

pub making-holds : MakingHolds
unfolding make_private
making-holds k none = (makes_it k k.kept.claimed none).each

makes_none : (k : Known) (claimed : Bool) (es : List Exchange) (r : Result (Unit {0}) ℕ) → claimed ≡ true
    → Whole (if claimed then ends (Err EBUSY) else and_then (made_or_copied k) (handing k)) es r
    → (es ≡ []) × (r ≡ Err EBUSY)
unfolding Talks
makes_none k true [] r is whole = (refl, sym (same_end (Err EBUSY) r whole))
makes_none k true (x ∷ xs) r is whole = absurd whole
makes_none k false es r is whole = absurd (false≢true is)

pub none-is-made : NoneIsMade
unfolding make_private
none-is-made k es r is whole = makes_none k k.kept.claimed es r is whole
