-- How a call on an entry ends.
use Rattle.std.proofs.Common.{◌≡◌, inl, inr, ℕ, ◌+◌, List, [], ◌∷◌, ◌++◌, Bool, true, false, not, ◌&&◌, ◌||◌, if◌then◌else◌, Result, Ok, Err, refl, sym, ap, subst, ◌∙◌, arith}
use Rattle.std.specs.Prelude.{◌==◌, ◌≤◌, bit_or, nat_lt, length, Option, Some, None}
use Rattle.path_text.specs.Text.{is_empty}
use Rattle.path_text.specs.declared.path.TheConstants.{TEXT_MAX}
use Rattle.system_calls.specs.Errors.{EBADF}
use Rattle.system_calls.specs.Held.{without}
use Rattle.dialogue.specs.Dialogue.{SystemCall, O_PATH, and_then, closes, ends, knows, look_up, stats}
use Rattle.dialogue.specs.Holds.{is_in}
use Rattle.dialogue.proofs.HeldLemmas.{first_in, second_in, without_first, without_second}
use Rattle.dialogue.proofs.HoldLemmas.{Goes, asks_then, both, choose, over, weak}
use Rattle.find_proc.specs.Asks.{AT_FDCWD, NO_DIRECTORY, NO_MAGICLINKS, SAME, has_floor, has_number, is_short}
use Rattle.find_proc.specs.declared.asks.Known.{Known}
use Rattle.kernel_calls.specs.Calls.{behind_of, change_entry, change_in, change_told, changing, ended, from_by, is_plain, is_steps, left, not_renamed, plain_told, rename, rename_from, rename_in, rename_to, rename_told}
use Rattle.kernel_calls.specs.Change.{make_change}
use Rattle.kernel_calls.specs.Entry.{leave, own_of}
use Rattle.kernel_calls.specs.Flags.{MAKE_LINK}
use Rattle.kernel_calls.specs.Look.{Came, unsure}
use Rattle.kernel_calls.specs.Path.{At, text_in}
use Rattle.kernel_calls.specs.Promises.{CallEnds, EntriesHold, RenamesHold, Replies, for_entry, for_rename, handed, hands_out}
use Rattle.kernel_calls.specs.Seen.{Finds, Held, IsAt, IsDirectory, IsLookUp, IsOpen, May, MayLook, Place, Seen, Wish, at_first, below_bits, fds, watch}
use Rattle.kernel_calls.specs.declared.change.Wanted.{Wanted}
use Rattle.kernel_calls.specs.declared.entry.Dir.{Dir}
use Rattle.kernel_calls.specs.declared.look.Outcome.{Outcome}
use Rattle.kernel_calls.specs.declared.look.Outcome.TheVariants.{Value, Fails, FailsAt, Steps}
use Rattle.kernel_calls.proofs.ChangeLemmas.{Done, Last, makes}
use Rattle.kernel_calls.proofs.LookLemmas.{FoundBy, Reached, Tells, Unfound, finds, shut_fds}

-- ---- whether the kernel has what is needed

pub floor : (w : Wish) (s : Seen) (k : Known)
    → May w s (look_up NO_DIRECTORY SAME k.machine.directory NO_MAGICLINKS)
    → Goes (watch w) 3 s (has_floor k) (λ t is. t ≡ s)
unfolding has_floor
floor w s k may =
    choose k.has_floor (λ _. over refl)
    (λ _. asks_then 2 (look_up NO_DIRECTORY SAME k.machine.directory NO_MAGICLINKS) may
    (λ a. choose (not (a.error == EBADF) && not (is_short a.error)) (λ _. over refl)
    (λ _. asks_then 1 (stats AT_FDCWD) (inl refl)
    (λ b. choose (has_number b && (a.error == EBADF)) (λ _. asks_then 0 (knows true) tt (λ _. over refl))
    (λ _. over refl)))))

plain : (w : Wish) (s : Seen) (k : Known) (gives : Bool) (step : ℕ) (text : List ℕ) → s.change ≡ None
    → Goes (watch w) 3 s (is_plain k gives step text) (λ t is. t ≡ s)
unfolding is_plain
plain w s k gives step text none =
    choose ((step == MAKE_LINK) && (is_empty text || nat_lt TEXT_MAX (length text))) (λ _. over refl)
    (λ _. choose (not gives) (λ _. over refl)
    (λ _. floor w s k
    (subst (λ o. MayLook w s o NO_DIRECTORY SAME k.machine.directory NO_MAGICLINKS) (sym none) (inl refl))))

-- ---- how an outcome is told

replies_closed : (w : Wish) (t : Seen) (hs : List Held) (o : Outcome) → Replies w t o
    → Replies w (record t { held = hs }) o
replies_closed w t hs (Value value) h = h
replies_closed w t hs (Fails error step) h = h
replies_closed w t hs (FailsAt error step) h = h
replies_closed w t hs Steps h = h

tells_reply : (w : Wish) (t : Seen) (o : Outcome) → t.change ≡ None → Tells t o → Replies w t o
tells_reply w t (Value value) none tells = absurd tells
tells_reply w t (Fails error step) none tells = (none, tells.0, tells.1)
tells_reply w t (FailsAt error step) none tells = absurd tells
tells_reply w t Steps none tells = none

tells_none : (w : Wish) (t : Seen) (o : Outcome) → Tells t o → handed w o ≡ []
tells_none w t (Value value) tells = absurd tells
tells_none w t (Fails error step) tells = refl
tells_none w t (FailsAt error step) tells = absurd tells
tells_none w t Steps tells = refl

-- nothing is open that isn't closed behind the end
unfound_ends : (w : Wish) (s t : Seen) (now : Known) (closing : List ℕ) (o : Outcome) → Unfound s t o
    → s.change ≡ None → fds s.held ≡ closing → CallEnds w t (ended now closing o)
unfound_ends w s t now closing o h none held =
    record {
      held = ap fds h.held ∙ held ∙ sym (ap (λ xs. xs ++ closing) (tells_none w t o h.tells));
      replies = tells_reply w t o (h.change ∙ none) h.tells;
    }

-- ---- directories are closed

-- these are open, and nothing else is changed
record Closed (xs : List ℕ) (t u : Seen) : Type 0 where
  held : fds u.held ≡ xs
  rest : u ≡ record t { held = u.held }

closes_it : (w : Wish) (t : Seen) (fd : ℕ) (xs ys : List ℕ) → fds t.held ≡ xs → is_in fd xs ≡ true
    → without fd xs ≡ ys → Goes (watch w) 1 t (leave (record { fd = fd; own = true }) false) (λ u _. Closed ys t u)
unfolding leave
closes_it w t fd xs ys held open_now out =
    asks_then 0 (closes fd) (ap (is_in fd) held ∙ open_now)
    (λ a. over
    (record { held = shut_fds fd t.held ∙ ap (without fd) held ∙ out; rest = refl }))

stays_open : (w : Wish) (t : Seen) (fd : ℕ) (own : Bool) → Goes (watch w) 0 t
    (leave (record { fd = fd; own = own }) true) (λ u _. Closed (fds t.held) t u)
unfolding leave
stays_open w t fd true = over (record { held = refl; rest = refl })
stays_open w t fd false = over (record { held = refl; rest = refl })

is_root : (w : Wish) (t : Seen) (fd : ℕ) (is_behind : Bool) → Goes (watch w) 0 t
    (leave (record { fd = fd; own = false }) is_behind) (λ u _. Closed (fds t.held) t u)
unfolding leave
is_root w t fd is_behind = over (record { held = refl; rest = refl })

handed_in : (w : Wish) (o : Outcome) (fd : ℕ) → is_in fd (handed w o ++ fd ∷ []) ≡ true
handed_in w (Value value) fd = by_case (hands_out w)
  where
    by_case : (b : Bool) → is_in fd ((if b then value ∷ [] else []) ++ fd ∷ []) ≡ true
    by_case true = second_in fd value []
    by_case false = first_in fd []
handed_in w (Fails error step) fd = first_in fd []
handed_in w (FailsAt error step) fd = first_in fd []
handed_in w Steps fd = first_in fd []

handed_out : (w : Wish) (o : Outcome) (fd : ℕ) → without fd (handed w o ++ fd ∷ []) ≡ handed w o ++ []
handed_out w (Value value) fd = by_case (hands_out w)
  where
    by_case : (b : Bool) → without fd ((if b then value ∷ [] else []) ++ fd ∷ []) ≡ (if b then value ∷ [] else []) ++ []
    by_case true = without_second fd value []
    by_case false = without_first fd []
handed_out w (Fails error step) fd = without_first fd []
handed_out w (FailsAt error step) fd = without_first fd []
handed_out w Steps fd = without_first fd []

closed_ends : (w : Wish) (t u : Seen) (now : Known) (closing xs : List ℕ) (o : Outcome) → Closed xs t u
    → xs ≡ handed w o ++ closing → Replies w t o → CallEnds w u (ended now closing o)
closed_ends w t u now closing xs o h is replies =
    record {
      held = h.held ∙ is;
      replies = subst (λ v. Replies w v o) (sym h.rest) (replies_closed w t u.held o replies);
    }

ends_entry : (w : Wish) (t : Seen) (fd : ℕ) (own is_last : Bool) (c : Came Outcome)
    → Done w (own_of (record { fd = fd; own = own })) t c
    → Goes (watch w) 1 t (change_told (record { fd = fd; own = own }) is_last c) (CallEnds w)
ends_entry w t fd true true c h =
    weak 0 (omega arith)
    (both 0 0 (stays_open w t fd true)
    (λ u _ l. over (closed_ends w t u c.known (fd ∷ []) (fds t.held) c.value l h.held h.replies)))
    (λ u e x. x)
ends_entry w t fd true false c h =
    both 1 0
    (closes_it w t fd (handed w c.value ++ fd ∷ []) (handed w c.value ++ []) h.held (handed_in w c.value fd)
    (handed_out w c.value fd))
    (λ u _ l. over (closed_ends w t u c.known [] (handed w c.value ++ []) c.value l refl h.replies))
ends_entry w t fd false is_last c h =
    weak 0 (omega arith)
    (both 0 0 (is_root w t fd is_last)
    (λ u _ l. over
    (closed_ends w t u c.known (behind_of is_last []) (fds t.held) c.value l
    (h.held ∙ ap (λ xs. handed w c.value ++ xs) (sym (no_behind is_last))) h.replies)))
    (λ u e x. x)
  where
    no_behind : (b : Bool) → behind_of b [] ≡ []
    no_behind true = refl
    no_behind false = refl

-- ---- the look-up of the entry's directory

seeks_place : (w : Wish) (s : Seen) (at : At) (above : Option (List ℕ)) (q : SystemCall) → s.change ≡ None
    → Finds w s q → IsLookUp w.look at above q → May w s q
seeks_place w s at None q none finds is = absurd is
seeks_place w s at (Some path) q none finds is =
    let root = at.root in
    subst (May w s) (sym is)
    (subst
    (λ o. MayLook w s o root (text_in path) w.look (below_bits at.flags)) (sym none)
    (inr (inl (subst (Finds w s) is finds))))

-- ---- an entry is made or removed

nothing_after : (xs : List ℕ) (own : Bool) (fd : ℕ)
    → own_of (record { fd = fd; own = own }) ++ [] ≡ own_of (record { fd = fd; own = own })
nothing_after xs true fd = refl
nothing_after xs false fd = refl

no_rename : (w : Wish) (s : Seen) (dir : ℕ) (name : List ℕ) (other : ℕ) (text : List ℕ) → 8 ≤ w.step → w.step ≤ 12
    → Last w s dir name other text
no_rename w s dir name other text low high no8 no9 no10 no11 no12 =
    absurd (grind (arith, low, high, no8, no9, no10, no11, no12))

-- how a change goes in a directory that was found
abbrev pub Makes : ℕ → Known → Place → Wanted → ℕ → List ℕ → List ℕ → Type 0
Makes m k p how step text read =
    (t : Seen) (now : Known) → unsure now ≡ unsure k → (dir : Dir)
    → Reached (bit_or O_PATH k.machine.directory) p.at p.entry.above at_first t dir
    → Goes (watch (for_entry k p how step text)) m t
    (make_change now how (changing step dir.fd p.entry.name text) read)
    (Done (for_entry k p how step text) (fds t.held))

changes_in : (m : ℕ) (k now : Known) (p : Place) (how : Wanted) (step : ℕ) (text read : List ℕ) (is_last : Bool)
    (t : Seen) (r : Result Dir Outcome)
    → Makes m k p how step text read → unsure now ≡ unsure k
    → FoundBy (bit_or O_PATH k.machine.directory) p.at p.entry.above at_first t r
    → Goes (watch (for_entry k p how step text)) (m + 1) t (change_in p.entry how step text read is_last now r)
    (CallEnds (for_entry k p how step text))
changes_in m k now p how step text read is_last t (Ok dir) goes same h =
    let w = for_entry k p how step text in
    both m 1 (goes t now same dir h)
    (λ u c d. ends_entry w u dir.fd dir.own is_last c
    (record {
      held = d.held ∙ ap (λ xs. handed w c.value ++ xs) (h.held ∙ nothing_after [] dir.own dir.fd);
      replies = d.replies;
    }))
changes_in m k now p how step text read is_last t (Err why) goes same h =
    over (unfound_ends (for_entry k p how step text) at_first t now [] why h refl refl)

pub entry_goes : (m : ℕ) (k : Known) (p : Place) (how : Wanted) (step : ℕ) (text read : List ℕ) (is_last : Bool)
    → Makes m k p how step text read
    → Goes (watch (for_entry k p how step text)) (3 + (5 + (m + 1))) at_first
    (change_entry k p.at p.entry how step text read is_last) (CallEnds (for_entry k p how step text))
unfolding change_entry
entry_goes m k p how step text read is_last goes =
    let w = for_entry k p how step text in
    both 3 (5 + (m + 1)) (plain w at_first k how.gives step text refl)
    (λ t is same. subst
    (λ u. Goes (watch w) (5 + (m + 1)) u (plain_told k p.at p.entry how step text read is_last is) (CallEnds w))
    (sym same)
    (choose (not is) (λ _. over (record { held = refl; replies = refl }))
    (λ _. both 5 (m + 1)
    (finds w at_first k p.at p.entry.above
    (refl, refl, λ q is. seeks_place w at_first p.at p.entry.above q refl (refl, inl is) is))
    (λ u c h. changes_in m k c.known p how step text read is_last u c.value goes h.machine h.by))))

pub entries-hold : EntriesHold
entries-hold k p how step text read is_last unlinked low high =
    let w = for_entry k p how step text in
    (entry_goes 7 k p how step text read is_last
    (λ t now _ dir h. makes w t now dir.fd p.entry.name 0 text read
    (record { unlinked = unlinked; first = h.change; found = h.why; at = record { there = h.is; named = refl } })
    unlinked (λ _. refl) (no_rename w t dir.fd p.entry.name 0 text low high))).each

-- ---- an entry is renamed

handed_none : (w : Wish) (o : Outcome) → hands_out w ≡ false → handed w o ≡ []
handed_none w (Value value) unhanded = ap (λ b. if b then value ∷ [] else []) unhanded
handed_none w (Fails error step) unhanded = refl
handed_none w (FailsAt error step) unhanded = refl
handed_none w Steps unhanded = refl

-- the first of those that are open
leaves_first : (w : Wish) (t : Seen) (fd : ℕ) (own : Bool) (xs : List ℕ)
    → fds t.held ≡ own_of (record { fd = fd; own = own }) ++ xs
    → Goes (watch w) 1 t (leave (record { fd = fd; own = own }) false) (λ u _. Closed xs t u)
leaves_first w t fd true xs held = closes_it w t fd (fd ∷ xs) xs held (first_in fd xs) (without_first fd xs)
leaves_first w t fd false xs held =
    weak 0 (omega arith) (is_root w t fd false) (λ u e h. record { held = h.held ∙ held; rest = h.rest })

twice_closed : (xs ys : List ℕ) (t u v : Seen) → Closed xs t u → Closed ys u v → Closed ys t v
twice_closed xs ys t u v h g =
    record { held = g.held; rest = g.rest ∙ ap (λ (x : Seen). record x { held = v.held }) h.rest }

renames_end : (w : Wish) (t : Seen) (from to : Dir) (is_last : Bool) (c : Came Outcome) → hands_out w ≡ false
    → Done w (own_of to ++ own_of from) t c
    → Goes (watch w) 2 t (rename_told from to is_last c) (CallEnds w)
renames_end w t from to true c unhanded h =
    weak 0 (omega arith)
    (both 0 0 (stays_open w t to.fd to.own)
    (λ u _ l. both 0 0 (stays_open w u from.fd from.own)
    (λ v _ m. over
    (closed_ends w t v c.known (own_of to ++ own_of from) (fds t.held) c.value
    (twice_closed (fds t.held) (fds t.held) t u v l (record { held = m.held ∙ l.held; rest = m.rest })) h.held
    h.replies))))
    (λ u e x. x)
renames_end w t from to false c unhanded h =
    let none = handed_none w c.value unhanded in
    let all = h.held ∙ ap (λ xs. xs ++ (own_of to ++ own_of from)) none in
    both 1 1 (leaves_first w t to.fd to.own (own_of from) all)
    (λ u _ l. both 1 0 (leaves_first w u from.fd from.own [] (l.held ∙ nothing_behind from.own from.fd))
    (λ v _ m. over
    (closed_ends w t v c.known [] [] c.value (twice_closed (own_of from) [] t u v l m)
    (sym (ap (λ xs. xs ++ []) none)) h.replies)))
  where
    nothing_behind : (own : Bool) (fd : ℕ)
        → own_of (record { fd = fd; own = own }) ≡ own_of (record { fd = fd; own = own }) ++ []
    nothing_behind true fd = refl
    nothing_behind false fd = refl

-- the old entry's directory is open alone, or is the root
record From (w : Wish) (p : Place) (s : Seen) (dir : Dir) : Type 0 where
  held : fds s.held ≡ own_of dir
  first : s.change ≡ None
  found : s.why ≡ 0
  is : IsDirectory w.look s.held p.at p.entry.above dir.fd

not_renames : (w : Wish) (s t : Seen) (now : Known) (from : Dir) (why : Outcome) (is_last : Bool) → Unfound s t why
    → s.change ≡ None → fds s.held ≡ own_of from
    → Goes (watch w) 1 t (and_then (not_renamed from why is_last) (λ l. ends (ended now l.closes l.outcome)))
    (CallEnds w)
unfolding not_renamed
not_renames w s t now from why is_last h none held =
    by_case (is_last && not (is_steps why))
  where
    all : fds t.held ≡ own_of from
    all = ap fds h.held ∙ held

    replies : Replies w t why
    replies = tells_reply w t why (h.change ∙ none) h.tells

    none_handed : (xs : List ℕ) → xs ≡ handed w why ++ xs
    none_handed xs = sym (ap (λ ys. ys ++ xs) (tells_none w t why h.tells))

    nothing_behind : (own : Bool) (fd : ℕ)
        → own_of (record { fd = fd; own = own }) ≡ own_of (record { fd = fd; own = own }) ++ []
    nothing_behind true fd = refl
    nothing_behind false fd = refl

    by_case : (b : Bool) → Goes (watch w) 1 t
        (and_then (and_then (leave from b) (λ _. ends (left (behind_of b (own_of from)) why)))
        (λ l. ends (ended now l.closes l.outcome))) (CallEnds w)
    by_case true =
        weak 0 (omega arith)
        (both 0 0
        (both 0 0 (stays_open w t from.fd from.own)
        (λ u _ l. over {Post = λ v e. (e ≡ left (own_of from) why) × Closed (fds t.held) t v} (refl, l)))
        (λ u e l. subst (λ x. Goes (watch w) 0 u (ends (ended now x.closes x.outcome)) (CallEnds w)) (sym l.0)
        (over (closed_ends w t u now (own_of from) (fds t.held) why l.1 (all ∙ none_handed (own_of from)) replies))))
        (λ u e x. x)
    by_case false =
        both 1 0
        (both 1 0 (leaves_first w t from.fd from.own [] (all ∙ nothing_behind from.own from.fd))
        (λ u _ l. over {Post = λ v e. (e ≡ left [] why) × Closed [] t v} (refl, l)))
        (λ u e l. subst (λ x. Goes (watch w) 0 u (ends (ended now x.closes x.outcome)) (CallEnds w)) (sym l.0)
        (over (closed_ends w t u now [] [] why l.1 (none_handed []) replies)))

kept_directory : (d : ℕ) (s t : Seen) (at : At) (above : Option (List ℕ)) (fd : ℕ)
    → ((h : Held) → IsOpen h s.held → IsOpen h t.held) → IsDirectory d s.held at above fd
    → IsDirectory d t.held at above fd
kept_directory d s t at None fd keeps is = is
kept_directory d s t at (Some path) fd keeps is = keeps _ is

renames_to : (k now : Known) (p new : Place) (how : Wanted) (is_last : Bool) (s t : Seen) (from : Dir)
    (r : Result Dir Outcome)
    → how.linked ≡ false → hands_out (for_rename k p new how) ≡ false → From (for_rename k p new how) p s from
    → FoundBy (bit_or O_PATH k.machine.directory) new.at new.entry.above s t r
    → Goes (watch (for_rename k p new how)) 9 t (rename_to how from p.entry.name new.entry.name is_last now r)
    (CallEnds (for_rename k p new how))
unfolding rename_in
renames_to k now p new how is_last s t from (Ok to) unlinked unhanded f h =
    let w = for_rename k p new how in
    let there = kept_directory w.look s t p.at p.entry.above from.fd h.keeps f.is in
    let here : IsAt w.look t.held p from.fd p.entry.name = record { there = there; named = refl } in
    both 7 2
    (makes w t now from.fd p.entry.name to.fd new.entry.name []
    (record { unlinked = unlinked; first = h.change ∙ f.first; found = h.why; at = here }) unlinked (λ ten. absurd cc)
    (λ _ _ _ _ _. (
      record { unlinked = unlinked; first = h.change ∙ f.first; found = h.why; kind = refl; at = here },
      record { there = h.is; named = refl },
      refl,
    )))
    (λ u c d. renames_end w u from to is_last c unhanded
    (record {
      held = d.held ∙ ap (λ xs. handed w c.value ++ xs) (h.held ∙ ap (λ xs. own_of to ++ xs) f.held);
      replies = d.replies;
    }))
renames_to k now p new how is_last s t from (Err why) unlinked unhanded f h =
    weak 1 (omega arith) (not_renames (for_rename k p new how) s t now from why is_last h f.first f.held) (λ u e x. x)

renames_from : (k now : Known) (p new : Place) (how : Wanted) (is_last : Bool) (s : Seen) (r : Result Dir Outcome)
    → how.linked ≡ false → hands_out (for_rename k p new how) ≡ false → unsure now ≡ unsure k
    → FoundBy (bit_or O_PATH k.machine.directory) p.at p.entry.above at_first s r
    → Goes (watch (for_rename k p new how)) 14 s (from_by how p.entry.name new.at new.entry is_last now r)
    (CallEnds (for_rename k p new how))
unfolding rename_from
renames_from k now p new how is_last s (Ok from) unlinked unhanded machine h =
    let w = for_rename k p new how in
    let d = ap (λ x. bit_or O_PATH x.machine.directory) machine in
    let f : From w p s from = record {
      held = h.held ∙ nothing_after [] from.own from.fd;
      first = h.change;
      found = h.why;
      is = h.is;
    } in
    both 5 9
    (finds w s now new.at new.entry.above (
      h.change,
      h.why,
      subst (λ n. (q : SystemCall) → IsLookUp n new.at new.entry.above q → May w s q) (sym d)
          (λ q is. seeks_place w s new.at new.entry.above q h.change (h.why, inr is) is),
    ))
    (λ t c g. renames_to k c.known p new how is_last s t from c.value unlinked unhanded f
    (subst (λ n. FoundBy n new.at new.entry.above s t c.value) d g.by))
renames_from k now p new how is_last s (Err why) unlinked unhanded machine h =
    over (unfound_ends (for_rename k p new how) at_first s now [] why h refl refl)

rename_goes : (k : Known) (p new : Place) (how : Wanted) (is_last : Bool)
    → how.linked ≡ false → hands_out (for_rename k p new how) ≡ false
    → Goes (watch (for_rename k p new how)) 19 at_first
    (rename k p.at p.entry new.at new.entry how is_last) (CallEnds (for_rename k p new how))
unfolding rename
rename_goes k p new how is_last unlinked unhanded =
    let w = for_rename k p new how in
    both 5 14
    (finds w at_first k p.at p.entry.above
    (refl, refl, λ q is. seeks_place w at_first p.at p.entry.above q refl (refl, inl is) is))
    (λ s c h. renames_from k c.known p new how is_last s c.value unlinked unhanded h.machine h.by)

pub renames-hold : RenamesHold
renames-hold k p new how is_last unlinked gives =
    (rename_goes k p new how is_last unlinked (ap (λ b. b || (false && how.opens)) gives)).each
