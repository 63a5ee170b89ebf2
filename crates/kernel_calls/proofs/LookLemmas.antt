-- What a look-up leaves behind it.
use Rattle.std.proofs.Common.{◌≡◌, ◌≢◌, inl, inr, ℕ, ◌+◌, List, [], ◌∷◌, ◌++◌, Bool, true, false, not, ◌&&◌, if◌then◌else◌, Result, Ok, Err, refl, sym, ap, subst, ◌∙◌}
use Rattle.std.specs.Prelude.{◌==◌, bit_and, bit_or, Option, Some, None}
use Rattle.std.proofs.lemmas.Bool.{eqb-true, false≢true}
use Rattle.std.proofs.lemmas.Nat.{and_assoc, and_or_self, or_comm}
use Rattle.path_text.specs.Text.{begins_with_slash}
use Rattle.system_calls.specs.Errors.{EINTR, ENOENT}
use Rattle.system_calls.specs.Held.{without}
use Rattle.system_calls.specs.OpenFlags.{O_CLOEXEC, O_PATH}
use Rattle.dialogue.specs.Dialogue.{SystemCall, and_then, closes, ends, knows, look_up, open_path}
use Rattle.dialogue.specs.declared.calls.Answer.{Answer}
use Rattle.dialogue.proofs.HeldLemmas.{first_in, same}
use Rattle.dialogue.proofs.HoldLemmas.{Goes, asks_then, both, choose, over}
use Rattle.find_proc.specs.declared.asks.Known.{Known}
use Rattle.kernel_walks.specs.AtOnce.{misses_at_once}
use Rattle.kernel_calls.specs.Entry.{directory_at, directory_by, find_directory, own_of}
use Rattle.kernel_calls.specs.Flags.{BENEATH, OPEN, has, resolve_of}
use Rattle.kernel_calls.specs.Look.{Came, came_to, forget, is_filtered, is_missing, look_up as looking_up, may_walk, missing_by, opened, opened_told, unsure, walk, walk_by, walk_failed}
use Rattle.kernel_calls.specs.Path.{At, place_in, text_in}
use Rattle.kernel_calls.specs.Seen.{Held, IsDirectory, IsLookUp, IsOpen, May, MayLook, Seen, Wish, below_bits, fds, gets, looks, opened_after, seen_by, shut, watch}
use Rattle.kernel_calls.specs.declared.entry.Dir.{Dir}
use Rattle.kernel_calls.specs.declared.look.Outcome.{Outcome}
use Rattle.kernel_calls.specs.declared.look.Outcome.TheVariants.{Value, Fails, FailsAt, Steps}

-- ---- bits

-- O_PATH stays
pub path_in : (x d : ℕ) → bit_and x O_PATH ≡ O_PATH → bit_and (bit_or x d) O_PATH ≡ O_PATH
path_in x d is =
    let how = bit_or x d in
    ap (bit_and how) (sym is) ∙ sym (and_assoc O_PATH how x)
    ∙ ap (λ n. bit_and n O_PATH) (ap (λ n. bit_and n x) (or_comm x d) ∙ and_or_self x d) ∙ is

has_path : (how : ℕ) → bit_and how O_PATH ≡ O_PATH → has how O_PATH ≡ true
has_path how is = ap (λ n. not (n == 0)) is

-- of the four flags of inroot.h
record Bits (resolve bits : ℕ) : Type 0 where
  same : resolve ≡ bits
  walks : (resolve == 2) ≡ false
  looks : (bit_or resolve 4 == 2) ≡ false
  stays : bit_and (bit_or resolve 4) 4 ≡ 4

bits_by : (beneath links mount : Bool)
    → Bits (bit_or (bit_or (bit_or 2 (if not beneath then 8 else 16)) (if not links then 4 else 0))
    (if not mount then 1 else 0))
    (2 + (if beneath then 16 else 8) + (if links then 0 else 4) + (if mount then 0 else 1))
bits_by true true true = record { same = refl; walks = refl; looks = refl; stays = refl }
bits_by true true false = record { same = refl; walks = refl; looks = refl; stays = refl }
bits_by true false true = record { same = refl; walks = refl; looks = refl; stays = refl }
bits_by true false false = record { same = refl; walks = refl; looks = refl; stays = refl }
bits_by false true true = record { same = refl; walks = refl; looks = refl; stays = refl }
bits_by false true false = record { same = refl; walks = refl; looks = refl; stays = refl }
bits_by false false true = record { same = refl; walks = refl; looks = refl; stays = refl }
bits_by false false false = record { same = refl; walks = refl; looks = refl; stays = refl }

bits : (flags : ℕ) → Bits (resolve_of flags) (below_bits flags)
bits flags = bits_by (bit_and flags 1 == 0) (bit_and flags 2 == 0) (bit_and flags 128 == 0)

-- ---- descriptors

pub shut_fds : (fd : ℕ) (hs : List Held) → fds (shut fd hs) ≡ without fd (fds hs)
shut_fds fd [] = refl
shut_fds fd (h ∷ hs) = by_case (h.fd == fd) (shut_fds fd hs)
  where
    by_case : (b : Bool) → fds (shut fd hs) ≡ without fd (fds hs)
        → fds (if b then hs else h ∷ shut fd hs) ≡ (if b then fds hs else h.fd ∷ without fd (fds hs))
    by_case true more = refl
    by_case false more = ap (λ xs. h.fd ∷ xs) more

-- ---- openat2(2)

pub forgets : (w : Wish) (s : Seen) (k : Known) (error : ℕ)
    → Goes (watch w) 1 s (forget k error) (λ t now. (t ≡ s) × (unsure now ≡ unsure k))
unfolding forget
forgets w s k error =
    choose (is_filtered error)
    (λ _. choose k.has_floor (λ _. asks_then 0 (knows false) tt (λ a. over (refl, refl))) (λ _. over (refl, refl)))
    (λ _. over (refl, refl))

abbrev GotBy : Seen → SystemCall → Seen → Result ℕ ℕ → Type 0
GotBy s q t (Ok fd) = t ≡ gets s q fd
GotBy s q t (Err error) = t ≡ record s { why = error }

record Got (k : Known) (s : Seen) (q : SystemCall) (t : Seen) (c : Came (Result ℕ ℕ)) : Type 0 where
  machine : unsure c.known ≡ unsure k
  by : GotBy s q t c.value

opened_so : (w : Wish) (s : Seen) (k : Known) (q : SystemCall) (a : Answer) (b : Bool)
    → Goes (watch w) 1 (if b then gets s q a.value else record s { why = a.error })
    (if b then ends (came_to k (Ok a.value)) else and_then (forget k a.error) (λ now. ends (came_to now (Err a.error))))
    (Got k s q)
opened_so w s k q a true = over (record { machine = refl; by = refl })
opened_so w s k q a false =
    both 1 0 (forgets w (record s { why = a.error }) k a.error) (λ t now h. over (record { machine = h.1; by = h.0 }))

opens : (w : Wish) (s : Seen) (k : Known) (q : SystemCall) → May w s q
    → ((a : Answer) → seen_by w s q a ≡ opened_after s q a) → Goes (watch w) 2 s (opened k q) (Got k s q)
unfolding opened
opens w s k q may is =
    asks_then 1 q may
    (λ a. subst (λ u. Goes (watch w) 1 u (opened_told k a) (Got k s q)) (sym (is a))
    (opened_so w s k q a (a.error == 0)))

-- ---- or why not

abbrev miss : At → SystemCall
miss at = look_up at.root (text_in at.slashed) O_PATH (bit_or (resolve_of at.flags) 4)

record Missed (k : Known) (s t : Seen) (c : Came Bool) : Type 0 where
  machine : unsure c.known ≡ unsure k
  held : t.held ≡ s.held
  change : t.change ≡ s.change
  why : c.value ≡ true → t.why ≡ ENOENT

missed_by : (w : Wish) (s t : Seen) (k now : Known) (q : SystemCall) (r : Result ℕ ℕ) → unsure now ≡ unsure k
    → GotBy s q t r → Goes (watch w) 1 t (missing_by now r) (Missed k s)
missed_by w s t k now q (Ok fd) machine is =
    subst (λ u. Goes (watch w) 1 u (missing_by now (Ok fd)) (Missed k s)) (sym is)
    (asks_then 0 (closes fd) (first_in fd (fds s.held))
    (λ a. over
    (record {
      machine = machine;
      held = rw (same fd) refl;
      change = refl;
      why = λ no. absurd (false≢true no);
    })))
missed_by w s t k now q (Err error) machine is =
    subst (λ u. Goes (watch w) 1 u (missing_by now (Err error)) (Missed k s)) (sym is)
    (over (record { machine = machine; held = refl; change = refl; why = λ none. eqb-true error ENOENT none }))

misses : (w : Wish) (s : Seen) (k : Known) (at : At) → May w s (miss at)
    → Goes (watch w) 3 s (is_missing k at) (Missed k s)
unfolding is_missing
misses w s k at may =
    choose (not (misses_at_once (has at.flags BENEATH) (text_in at.slashed) (place_in at.slashed)))
    (λ _. over (record { machine = refl; held = refl; change = refl; why = λ no. absurd (false≢true no) }))
    (λ _. both 2 1
    (opens w s k (miss at) may
    (λ a. ap (λ b. if b then s else opened_after s (miss at) a) (bits at.flags).looks))
    (λ t c h. missed_by w s t k c.known (miss at) c.value h.machine h.by))

-- ---- a walk

abbrev pub Tells : Seen → Outcome → Type 0
Tells t (Fails error step) = (error ≡ t.why) × (error ≢ 0)
Tells t Steps = Unit {0}
Tells t (Value value) = ⊥
Tells t (FailsAt error step) = ⊥

-- what is open, and whether a change was made, is as before
pub record Unfound (s t : Seen) (why : Outcome) : Type 0 where
  pub held : t.held ≡ s.held
  pub change : t.change ≡ s.change
  pub tells : Tells t why

abbrev pub WalkedBy : Seen → SystemCall → Seen → Result ℕ Outcome → Type 0
WalkedBy s q t (Ok fd) = t ≡ gets s q fd
WalkedBy s q t (Err why) = Unfound s t why

pub record Walked (k : Known) (s : Seen) (q : SystemCall) (t : Seen) (c : Came (Result ℕ Outcome)) : Type 0 where
  pub machine : unsure c.known ≡ unsure k
  pub by : WalkedBy s q t c.value

missing_so : (t : Seen) (b : Bool) → (b ≡ true → t.why ≡ ENOENT) → Tells t (if b then Fails ENOENT OPEN else Steps)
missing_so t true why = (sym (why refl), λ zero. absurd cc)
missing_so t false why = tt

abbrev MayMiss : Wish → Seen → At → Type 0
MayMiss w s at = May w (record s { why = ENOENT }) (miss at)

walk_fails : (w : Wish) (s : Seen) (k now : Known) (at : At) (q : SystemCall) (error : ℕ) → unsure now ≡ unsure k
    → MayMiss w s at → Goes (watch w) 3 (record s { why = error }) (walk_failed at now error) (Walked k s q)
walk_fails w s k now at q error machine may =
    choose (error == EINTR)
    (λ is. over
    (record {
      machine = machine;
      by = record { held = refl; change = refl; tells = (sym (eqb-true error EINTR is), λ zero. absurd cc) };
    }))
    (λ _. choose (error == ENOENT)
    (λ is. both 3 0
    (misses w (record s { why = error }) now at
    (subst (λ e. May w (record s { why = e }) (miss at)) (sym (eqb-true error ENOENT is)) may))
    (λ t c h. over
    (record {
      machine = h.machine ∙ machine;
      by = record { held = h.held; change = h.change; tells = missing_so t c.value h.why };
    })))
    (λ _. over (record { machine = machine; by = record { held = refl; change = refl; tells = tt } })))

walked_by : (w : Wish) (s t : Seen) (k now : Known) (at : At) (q : SystemCall) (r : Result ℕ ℕ)
    → unsure now ≡ unsure k → GotBy s q t r → MayMiss w s at
    → Goes (watch w) 3 t (walk_by at now r) (Walked k s q)
walked_by w s t k now at q (Ok fd) machine is may = over (record { machine = machine; by = is })
walked_by w s t k now at q (Err error) machine is may =
    subst (λ u. Goes (watch w) 3 u (walk_by at now (Err error)) (Walked k s q)) (sym is)
    (walk_fails w s k now at q error machine may)

-- the path of a directory, by which it is looked up
abbrev seeks : ℕ → At → SystemCall
seeks how at = look_up at.root (text_in at.slashed) how (resolve_of at.flags)

-- opened for use, which it isn't
abbrev used : ℕ → At → SystemCall
used how at = open_path at.root (text_in at.slashed) (bit_or how O_CLOEXEC) 0 (resolve_of at.flags)

settles : (s : Seen) → s.why ≡ 0 → s ≡ record s { why = 0 }
settles s none = ap (λ e. record s { why = e }) none

looks_so : (w : Wish) (s : Seen) (k : Known) (at : At) (d : ℕ) → bit_and d O_PATH ≡ O_PATH → s.why ≡ 0
    → May w s (seeks d at) → Goes (watch w) 2 s (looking_up k at d 0) (Got k s (seeks d at))
unfolding looking_up
looks_so w s k at d named none may =
    choose (not at.looked && not (may_walk at))
    (λ _. over (record { machine = refl; by = settles s none }))
    (λ _. subst (λ b. Goes (watch w) 2 s (opened k (if b then seeks d at else used d at)) (Got k s (seeks d at)))
    (sym (has_path d named))
    (opens w s k (seeks d at) may
    (λ a. ap (λ b. if b then s else opened_after s (seeks d at) a) (bits at.flags).walks)))

walks : (w : Wish) (s : Seen) (k : Known) (at : At) (d : ℕ) → bit_and d O_PATH ≡ O_PATH → s.why ≡ 0
    → May w s (seeks d at) → MayMiss w s at → Goes (watch w) 5 s (walk k at d 0) (Walked k s (seeks d at))
unfolding walk
walks w s k at d named none may miss =
    both 2 3 (looks_so w s k at d named none may)
    (λ t c h. walked_by w s t k c.known at (seeks d at) c.value h.machine h.by miss)

-- the look-ups that a path may take
abbrev pub MaySeek : Wish → Seen → ℕ → At → Option (List ℕ) → Type 0
MaySeek w s d at above =
    (s.change ≡ None) × (s.why ≡ 0) × ((q : SystemCall) → IsLookUp d at above q → May w s q)

pub walks_so : (w : Wish) (s : Seen) (k : Known) (at : At) (path : List ℕ) (d : ℕ) → bit_and d O_PATH ≡ O_PATH
    → MaySeek w s d at (Some path)
    → Goes (watch w) 5 s (walk k (record at { slashed = path }) d 0) (Walked k s (looks d at path))
walks_so w s k at path d named may =
    let here = record at { slashed = path } in
    let by = ap (look_up at.root (text_in path) d) ((bits at.flags).same) in
    subst (λ q. Goes (watch w) 5 s (walk k here d 0) (Walked k s q)) by
    (walks w s k here d named may.1 (may.2 (seeks d here) by)
    (subst (λ o. MayLook w (record s { why = ENOENT }) o at.root (text_in path) O_PATH (bit_or (resolve_of at.flags) 4))
    (sym may.0) (inr (inr (refl, refl, (bits at.flags).stays)))))

-- ---- the directory of an entry

-- the flags by which a directory is looked up
abbrev pub way : Known → ℕ
way k = bit_or O_PATH k.machine.directory

-- it is the root, or was opened just now
pub record Reached (d : ℕ) (at : At) (above : Option (List ℕ)) (s t : Seen) (dir : Dir) : Type 0 where
  pub held : fds t.held ≡ own_of dir ++ fds s.held
  pub keeps : (h : Held) → IsOpen h s.held → IsOpen h t.held
  pub why : t.why ≡ 0
  pub change : t.change ≡ s.change
  pub is : IsDirectory d t.held at above dir.fd

abbrev pub FoundBy : ℕ → At → Option (List ℕ) → Seen → Seen → Result Dir Outcome → Type 0
FoundBy d at above s t (Ok dir) = Reached d at above s t dir
FoundBy d at above s t (Err why) = Unfound s t why

pub record Found (k : Known) (at : At) (above : Option (List ℕ)) (s t : Seen)
    (c : Came (Result Dir Outcome)) : Type 0 where
  pub machine : unsure c.known ≡ unsure k
  pub by : FoundBy (way k) at above s t c.value

found_so : (s t : Seen) (k now : Known) (at : At) (path : List ℕ) (r : Result ℕ Outcome)
    → unsure now ≡ unsure k → s.why ≡ 0
    → WalkedBy s (looks (way k) at path) t r
    → Found k at (Some path) s t (directory_by now r)
found_so s t k now at path (Ok fd) machine none is =
    record {
      machine = machine;
      by = subst (λ u. Reached (way k) at (Some path) s u (record { fd = fd; own = true })) (sym is)
          (record { held = refl; keeps = λ h is. inr is; why = none; change = refl; is = inl refl });
    }
found_so s t k now at path (Err why) machine none is = record { machine = machine; by = is }

found_at : (w : Wish) (s : Seen) (k : Known) (at : At) (above : Option (List ℕ))
    → MaySeek w s (way k) at above → Goes (watch w) 5 s (directory_at k at above) (Found k at above s)
found_at w s k at None may =
    over (record {
      machine = refl;
      by = record { held = refl; keeps = λ h is. is; why = may.1; change = refl; is = refl };
    })
found_at w s k at (Some path) may =
    both 5 0 (walks_so w s k at path (way k) (path_in O_PATH k.machine.directory refl) may)
    (λ t c h. over (found_so s t k c.known at path c.value h.machine may.1 h.by))

pub finds : (w : Wish) (s : Seen) (k : Known) (at : At) (above : Option (List ℕ))
    → MaySeek w s (way k) at above → Goes (watch w) 5 s (find_directory k at above) (Found k at above s)
unfolding find_directory
finds w s k at above may =
    choose (has at.flags BENEATH && begins_with_slash (text_in at.slashed))
    (λ _. over (record { machine = refl; by = record { held = refl; change = refl; tells = tt } }))
    (λ _. found_at w s k at above may)
