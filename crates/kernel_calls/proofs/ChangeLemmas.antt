-- What a change leaves behind it.
use Rattle.std.proofs.Common.{◌≡◌, ◌≢◌, inl, inr, ℕ, List, [], ◌∷◌, ◌++◌, Bool, true, false, not, ◌&&◌, ◌||◌, if◌then◌else◌, Result, Ok, Err, refl, sym, ap, subst, ◌∙◌, arith}
use Rattle.std.specs.Prelude.{◌==◌, bit_and, bit_or, Option, Some, None}
use Rattle.std.proofs.lemmas.Bool.{eqb-true, false≢true}
use Rattle.std.proofs.lemmas.Nat.{and_or_self, or_comm}
use Rattle.system_calls.specs.OpenFlags.{O_CLOEXEC, O_PATH}
use Rattle.dialogue.specs.Dialogue.{Dialogue, SystemCall, and_then, ends, makes_directory, makes_link, makes_node, opens, removes, renames}
use Rattle.dialogue.specs.declared.calls.Answer.{Answer}
use Rattle.dialogue.proofs.HeldLemmas.{first_in}
use Rattle.dialogue.proofs.HoldLemmas.{Goes, asks_then, both, choose, over}
use Rattle.find_proc.proofs.Parts.{not_zero}
use Rattle.find_proc.specs.declared.asks.Known.{Known}
use Rattle.give_entry.specs.Seen.{held_first}
use Rattle.give_entry.specs.declared.giving.Made.TheVariants.{Name, Entry}
use Rattle.kernel_calls.specs.InProc.{by_proc, gave, gives, linking}
use Rattle.kernel_calls.specs.Change.{Changing, flags_of, give, give_by, given, is_opened, made_of, make, make_by, make_change, make_told, mode_of, not_given, opening, question_of, without_kind}
use Rattle.kernel_calls.specs.Flags.{NEW, NO_XDEV, has}
use Rattle.kernel_calls.specs.Look.{Came, came_to}
use Rattle.kernel_calls.specs.Path.{At}
use Rattle.kernel_calls.specs.Promises.{IsFailing, Replies, handed}
use Rattle.kernel_calls.specs.Seen.{Changes, Gives, Held, IsAt, IsDirectory, IsNew, IsNewBy, May, MayLook, MayOpen, Seen, Wish, changed, fds, gets, made_after, opened_after, opens_after, seen_by, watch}
use Rattle.kernel_calls.specs.declared.change.Wanted.{Wanted}
use Rattle.kernel_calls.specs.declared.look.Outcome.{Outcome}
use Rattle.kernel_calls.proofs.GiveLemmas.{IsTold, Leaves, gives_entry}
use Rattle.kernel_calls.proofs.LookLemmas.{forgets}

-- no change was made, no look-up has failed, and the directory is the entry's
pub record Ready (w : Wish) (s : Seen) (dir : ℕ) (name : List ℕ) : Type 0 where
  pub unlinked : w.how.linked ≡ false
  pub first : s.change ≡ None
  pub found : s.why ≡ 0
  pub at : IsAt w.look s.held w.place dir name

changes : (w : Wish) (s : Seen) (step dir : ℕ) (name : List ℕ) → Ready w s dir name → (w.step == step) ≡ true
    → Changes w s step dir name
changes w s step dir name h is =
    record { unlinked = h.unlinked; first = h.first; found = h.found; kind = eqb-true w.step step is; at = h.at }

abbrev pub change_of : Wish → ℕ → List ℕ → ℕ → List ℕ → Changing
change_of w dir name other text = record { step = w.step; dir = dir; name = name; other = other; text = text }

-- ---- the one system call

-- what the change gave
abbrev pub GaveBy : Answer → Result ℕ ℕ → Type 0
GaveBy made (Ok value) = made.error ≡ 0
GaveBy made (Err error) = (error ≡ made.error) × (error ≢ 0)

pub record Plain (s t : Seen) (r : Result ℕ ℕ) : Type 0 where
  pub made : Answer
  pub is : t ≡ changed s made
  pub gave : GaveBy made r

abbrev FileBy : Seen → SystemCall → Answer → Seen → Result ℕ ℕ → Type 0
FileBy s q made t (Ok value) = t ≡ changed (gets s q value) made
FileBy s q made t (Err error) = t ≡ changed s made

record FileMade (s : Seen) (q : SystemCall) (t : Seen) (r : Result ℕ ℕ) : Type 0 where
  made : Answer
  is : FileBy s q made t r
  gave : GaveBy made r

gave_so : (a : Answer) (b : Bool) → (a.error == 0) ≡ b → GaveBy a (if b then Ok a.value else Err a.error)
gave_so a true is = eqb-true a.error 0 is
gave_so a false is = (refl, not_zero a.error is)

pub plain : (w : Wish) (s : Seen) (q : SystemCall) → May w s q → ((a : Answer) → seen_by w s q a ≡ changed s a)
    → Goes (watch w) 1 s (gives q) (Plain s)
unfolding gives
plain w s q may is =
    asks_then 0 q may
    (λ a. over
    (record { made = a; is = is a; gave = gave_so a (a.error == 0) refl }))

file_so : (w : Wish) (s : Seen) (q : SystemCall) (a : Answer) (b : Bool) → (a.error == 0) ≡ b
    → Goes (watch w) 0 (if b then changed (gets s q a.value) a else changed s a)
    (ends (if b then Ok a.value else Err a.error)) (FileMade s q)
file_so w s q a true is = over (record { made = a; is = refl; gave = gave_so a true is })
file_so w s q a false is = over (record { made = a; is = refl; gave = gave_so a false is })

file : (w : Wish) (s : Seen) (q : SystemCall) → May w s q → ((a : Answer) → seen_by w s q a ≡ made_after s q a)
    → Goes (watch w) 1 s (gives q) (FileMade s q)
unfolding gives
file w s q may is =
    asks_then 0 q may
    (λ a. subst (λ u. Goes (watch w) 0 u (ends (gave a)) (FileMade s q)) (sym (is a))
    (file_so w s q a (a.error == 0) refl))

picks : {w : Wish} {n : ℕ} {s : Seen} {Post : Seen → Result ℕ ℕ → Type 0} (p q : SystemCall) (b : Bool)
    → (b ≡ true → Goes (watch w) n s (gives p) Post) → (b ≡ false → Goes (watch w) n s (gives q) Post)
    → Goes (watch w) n s (gives (if b then p else q)) Post
picks p q true h k = h refl
picks p q false h k = k refl

-- a rename, if it is none of the others
abbrev pub Last : Wish → Seen → ℕ → List ℕ → ℕ → List ℕ → Type 0
Last w s dir name other text =
    (w.step == 8) ≡ false → (w.step == 9) ≡ false → (w.step == 10) ≡ false → (w.step == 11) ≡ false
    → (w.step == 12) ≡ false → May w s (renames dir name other text w.how.how)

asks_plain : (w : Wish) (s : Seen) (dir : ℕ) (name : List ℕ) (other nofollow : ℕ) (text : List ℕ)
    → Ready w s dir name → ((w.step == 10) ≡ true → text ≡ w.text) → Last w s dir name other text
    → is_opened w.how w.step ≡ false
    → Goes (watch w) 1 s (gives (question_of w.how (change_of w dir name other text) nofollow)) (Plain s)
asks_plain w s dir name other nofollow text h texts last unopened =
    picks _ _ (w.step == 8)
    (λ is. plain w s (makes_directory dir name w.how.mode) (changes w s 8 dir name h is, refl) (λ a. refl))
    (λ no8. picks _ _ (is_opened w.how w.step) (λ is. absurd (false≢true (sym unopened ∙ is)))
    (λ _. picks _ _ (w.step == 9)
    (λ is. plain w s (makes_node dir name w.how.mode w.how.device) (changes w s 9 dir name h is, refl, refl)
    (λ a. refl))
    (λ no9. picks _ _ (w.step == 10)
    (λ is. plain w s (makes_link dir name text) (changes w s 10 dir name h is, texts is) (λ a. refl))
    (λ no10. picks _ _ (w.step == 11)
    (λ is. plain w s (removes dir name false) (changes w s 11 dir name h is) (λ a. refl))
    (λ no11. picks _ _ (w.step == 12)
    (λ is. plain w s (removes dir name true) (changes w s 12 dir name h is) (λ a. refl))
    (λ no12. plain w s (renames dir name other text w.how.how) (last no8 no9 no10 no11 no12) (λ a. refl)))))))

left_true : (m b : Bool) → (m && b) ≡ true → m ≡ true
left_true true b is = refl
left_true false b is = absurd (false≢true is)

not_both : (n : ℕ) → (n == 8) ≡ true → (n == 9) ≡ true → ⊥
not_both n is nine = absurd (grind (arith, is, nine))

abbrev file_call : Wish → ℕ → List ℕ → ℕ → SystemCall
file_call w dir name nofollow = opens dir name (flags_of w.how nofollow) (without_kind w.how.mode)

new_flags : (how : Wanted) (nofollow : ℕ) → IsNew how (flags_of how nofollow)
new_flags how nofollow = by_case how.opens
  where
    by_case : (b : Bool) → IsNewBy b how.how (if b then how.how else bit_or NEW nofollow)
    by_case true = refl
    by_case false = ap (λ n. bit_and n NEW) (or_comm NEW nofollow) ∙ and_or_self NEW nofollow

asks_file : (w : Wish) (s : Seen) (dir : ℕ) (name : List ℕ) (other nofollow : ℕ) (text : List ℕ)
    → Ready w s dir name → is_opened w.how w.step ≡ true
    → Goes (watch w) 1 s (gives (question_of w.how (change_of w dir name other text) nofollow))
    (FileMade s (file_call w dir name nofollow))
asks_file w s dir name other nofollow text h opens_now =
    let nine = left_true (w.step == 9) _ opens_now in
    let q = file_call w dir name nofollow in
    picks _ _ (w.step == 8) (λ is. absurd (not_both w.step is nine))
    (λ _. picks _ _ (is_opened w.how w.step)
    (λ _. file w s q
    (subst (λ o. MayOpen w s o dir name (flags_of w.how nofollow) (without_kind w.how.mode)) (sym h.first)
    (inl (changes w s 9 dir name h nine, new_flags w.how nofollow, refl)))
    (λ a. ap (λ o. opens_after o w.how.linked s q a) h.first ∙ ap (λ l. opens_after None l s q a) h.unlinked))
    (λ unhanded. absurd (false≢true (sym unhanded ∙ opens_now))))

-- ---- what was made is given

more_open : (d : ℕ) (held : List Held) (x : Held) (at : At) (above : Option (List ℕ)) (dir : ℕ)
    → IsDirectory d held at above dir → IsDirectory d (x ∷ held) at above dir
more_open d held x at None dir is = is
more_open d held x at (Some path) dir is = inr is

pub more_at : (w : Wish) (held : List Held) (x : Held) (dir : ℕ) (name : List ℕ) → IsAt w.look held w.place dir name
    → IsAt w.look (x ∷ held) w.place dir name
more_at w held x dir name h =
    record { there = more_open w.look held x w.place.at w.place.entry.above dir h.there; named = h.named }

-- the reply; beside its descriptor these are open
pub record Done (w : Wish) (xs : List ℕ) (t : Seen) (c : Came Outcome) : Type 0 where
  pub held : fds t.held ≡ handed w c.value ++ xs
  pub replies : Replies w t c.value

may_open : (w : Wish) (t : Seen) (made : Answer) (dir : ℕ) (name : List ℕ) (other : ℕ) (text : List ℕ)
    (nofollow : ℕ) (stays : Bool)
    → t.change ≡ Some made → Gives w t made dir name
    → May w t (opening (change_of w dir name other text) stays nofollow)
may_open w t made dir name other text nofollow true is h =
    subst (λ o. MayLook w t o dir name nofollow 1) (sym is) (inl h)
may_open w t made dir name other text nofollow false is h =
    subst (λ o. MayOpen w t o dir name (bit_or (bit_or O_PATH O_CLOEXEC) nofollow) 0) (sym is) (inl h)

opens_it : (w : Wish) (t : Seen) (made : Answer) (c : Changing) (nofollow : ℕ) (stays : Bool)
    → t.change ≡ Some made
    → (a : Answer) → seen_by w t (opening c stays nofollow) a ≡ opened_after t (opening c stays nofollow) a
opens_it w t made c nofollow true is a = refl
opens_it w t made c nofollow false is a = ap (λ o. opens_after o w.how.linked t (opening c false nofollow) a) is

abbrev Gave : List ℕ → Seen → Seen → Came (Result ℕ ℕ) → Type 0
Gave xs s t c = Leaves xs s t c.value

not_gives : (w : Wish) (xs : List ℕ) (s t : Seen) (k : Known) (stays : Bool) (r : Result ℕ ℕ) → Leaves xs s t r
    → Goes (watch w) 1 t (not_given k stays r) (Gave xs s)
not_gives w xs s t k stays (Ok fd) h = over h
not_gives w xs s t k stays (Err error) h =
    choose stays
    (λ _. both 1 0 (forgets w t k error)
    (λ u now is. over (subst (λ v. Leaves xs s v (Err error)) (sym is.0) h)))
    (λ _. over h)

pub gives_it : (w : Wish) (t : Seen) (k : Known) (xs : List ℕ) (made : Answer) (dir : ℕ) (name : List ℕ) (other : ℕ)
    (text read : List ℕ) (fd : Option ℕ)
    → t.change ≡ Some made → Gives w t made dir name
    → IsTold w (made_of w.how w.step fd) (fds t.held) → fds t.held ≡ held_first (made_of w.how w.step fd) ++ xs
    → Goes (watch w) 6 t (give k w.how (change_of w dir name other text) fd read) (Gave xs t)
unfolding give
gives_it w t k xs made dir name other text read fd is h told held =
    let c = change_of w dir name other text in
    let stays = has w.how.flags NO_XDEV in
    both 5 1
    (gives_entry w t (opening c stays k.machine.nofollow) (made_of w.how w.step fd) text read xs
    (may_open w t made dir name other text k.machine.nofollow stays is h)
    (opens_it w t made c k.machine.nofollow stays is) told held)
    (λ u r l. not_gives w xs t u k stays r l)

fails_giving : (linked : Bool) (w : Wish) (change : Option Answer) (made : Answer) (error : ℕ) → change ≡ Some made
    → made.error ≡ 0 → error ≢ 0 → IsFailing linked w change error 15
fails_giving true w change made error is none some = (some, inr (refl, made, is, none))
fails_giving false w change made error is none some = (made, is, (some, inr (refl, none)))

pub gave_reply : (w : Wish) (xs : List ℕ) (s t : Seen) (made : Answer) (now : Known) (r : Result ℕ ℕ)
    → w.how.gives ≡ true → s.change ≡ Some made → made.error ≡ 0 → Leaves xs s t r
    → Done w xs t (came_to now (give_by r))
gave_reply w xs s t made now (Ok fd) gives is none l =
    let opens_now = ap (λ b. b || ((w.step == 9) && w.how.opens)) gives in
    record {
      held = l.held ∙ sym (ap (λ b. (if b then fd ∷ [] else []) ++ xs) opens_now);
      replies = (made, l.change ∙ is, none, λ unhanded. absurd (false≢true (sym unhanded ∙ opens_now)));
    }
gave_reply w xs s t made now (Err error) gives is none l =
    record { held = l.held; replies = fails_giving w.how.linked w t.change made error (l.change ∙ is) none l.some }

opened_hands : (m l o g r : Bool) → (m && (not l && (o || (g && r)))) ≡ true → not g ≡ true → (g || (m && o)) ≡ true
opened_hands true false true false r is ungiven = refl
opened_hands true false true true r is ungiven = refl
opened_hands true false false true r is ungiven = refl
opened_hands true false false false r is ungiven = absurd (false≢true is)
opened_hands true true o g r is ungiven = absurd (false≢true is)
opened_hands false l o g r is ungiven = absurd (false≢true is)

plain_hands : (m l o g r : Bool) → l ≡ false → (m && (not l && (o || (g && r)))) ≡ false → not g ≡ true
    → (g || (m && o)) ≡ false
plain_hands m l o true r unlinked is ungiven = absurd (false≢true ungiven)
plain_hands true true o false r unlinked is ungiven = absurd (false≢true (sym unlinked))
plain_hands true false true false r unlinked is ungiven = absurd (false≢true (sym is))
plain_hands true false false false r unlinked is ungiven = refl
plain_hands false l o false r unlinked is ungiven = refl

pub gives_yes : (g : Bool) → not g ≡ false → g ≡ true
gives_yes true is = refl
gives_yes false is = absurd (false≢true (sym is))

given_plain : (w : Wish) (s : Seen) (k : Known) (made : Answer) (dir : ℕ) (name : List ℕ) (other : ℕ)
    (text read : List ℕ)
    → Ready w s dir name → w.how.linked ≡ false → is_opened w.how w.step ≡ false → made.error ≡ 0
    → Goes (watch w) 6 (changed s made) (given k w.how (change_of w dir name other text) None read)
    (Done w (fds s.held))
unfolding given
given_plain w s k made dir name other text read h unlinked unopened none =
    let t = changed s made in
    choose (not w.how.gives)
    (λ ungiven. let hands =
    plain_hands (w.step == 9) w.how.linked w.how.opens w.how.gives _ unlinked unopened ungiven in
    over
    (record {
      held = sym (ap (λ b. (if b then 0 ∷ [] else []) ++ fds s.held) hands);
      replies = (made, refl, none, λ _. refl);
    }))
    (λ gives. let opens_now = gives_yes w.how.gives gives in
    let is = ap (λ b. if b then Name w.how.fd else Entry (mode_of w.how w.step) w.how.device) unlinked in
    both 6 0
    (gives_it w t k (fds s.held) made dir name other text read None refl
    (record { gives = opens_now; done = none; at = h.at }) (subst (λ m. IsTold w m (fds s.held)) (sym is) tt)
    (ap (λ m. held_first m ++ fds s.held) (sym is)))
    (λ u c l. over (gave_reply w (fds s.held) t u made c.known c.value opens_now refl none l)))

given_file : (w : Wish) (s : Seen) (k : Known) (made : Answer) (q : SystemCall) (fd dir : ℕ) (name : List ℕ)
    (other : ℕ) (text read : List ℕ)
    → Ready w s dir name → is_opened w.how w.step ≡ true → made.error ≡ 0
    → Goes (watch w) 6 (changed (gets s q fd) made) (given k w.how (change_of w dir name other text) (Some fd) read)
    (Done w (fds s.held))
unfolding given
given_file w s k made q fd dir name other text read h opened none =
    let t = changed (gets s q fd) made in
    choose (not w.how.gives)
    (λ ungiven. let hands = opened_hands (w.step == 9) w.how.linked w.how.opens w.how.gives _ opened ungiven in
    over
    (record {
      held = sym (ap (λ b. (if b then fd ∷ [] else []) ++ fds s.held) hands);
      replies = (made, refl, none, λ unhanded. absurd (false≢true (sym unhanded ∙ hands)));
    }))
    (λ gives. let opens_now = gives_yes w.how.gives gives in
    both 6 0
    (gives_it w t k (fds s.held) made dir name other text read (Some fd) refl
    (record { gives = opens_now; done = none; at = more_at w s.held (record { fd = fd; by = q }) dir name h.at })
    (first_in fd (fds s.held)) refl)
    (λ u c l. over (gave_reply w (fds s.held) t u made c.known c.value opens_now refl none l)))

-- ---- the change

-- how it is made if no descriptor's object gets another name
abbrev pub made_alone : Known → Wish → Changing → Dialogue (Came (Result ℕ ℕ))
made_alone k w c = and_then (gives (question_of w.how c k.machine.nofollow)) (λ r. ends (came_to k r))

plain_told : (w : Wish) (s t : Seen) (k : Known) (dir : ℕ) (name : List ℕ) (other : ℕ) (text read : List ℕ)
    (r : Result ℕ ℕ)
    → Ready w s dir name → w.how.linked ≡ false → is_opened w.how w.step ≡ false → Plain s t r
    → Goes (watch w) 6 t (make_by w.how (change_of w dir name other text) read k r) (Done w (fds s.held))
plain_told w s t k dir name other text read (Ok value) h unlinked unopened p =
    subst (λ u. Goes (watch w) 6 u (make_by w.how (change_of w dir name other text) read k (Ok value))
    (Done w (fds s.held))) (sym p.is)
    (subst (λ b. Goes (watch w) 6 (changed s p.made)
    (given k w.how (change_of w dir name other text) (if b then Some value else None) read) (Done w (fds s.held)))
    (sym unopened) (given_plain w s k p.made dir name other text read h unlinked unopened p.gave))
plain_told w s t k dir name other text read (Err error) h unlinked unopened p =
    subst (λ u. Goes (watch w) 6 u (make_by w.how (change_of w dir name other text) read k (Err error))
    (Done w (fds s.held))) (sym p.is)
    (over (record {
      held = refl;
      replies =
          subst (λ l. IsFailing l w (Some p.made) error w.step) (sym h.unlinked)
          (p.made, refl, (p.gave.1, inl (refl, p.gave.0)));
    }))

file_told : (w : Wish) (s t : Seen) (k : Known) (q : SystemCall) (dir : ℕ) (name : List ℕ) (other : ℕ)
    (text read : List ℕ) (r : Result ℕ ℕ)
    → Ready w s dir name → is_opened w.how w.step ≡ true → FileMade s q t r
    → Goes (watch w) 6 t (make_by w.how (change_of w dir name other text) read k r) (Done w (fds s.held))
file_told w s t k q dir name other text read (Ok value) h opens_now p =
    subst (λ u. Goes (watch w) 6 u (make_by w.how (change_of w dir name other text) read k (Ok value))
    (Done w (fds s.held))) (sym p.is)
    (subst (λ b. Goes (watch w) 6 (changed (gets s q value) p.made)
    (given k w.how (change_of w dir name other text) (if b then Some value else None) read) (Done w (fds s.held)))
    (sym opens_now) (given_file w s k p.made q value dir name other text read h opens_now p.gave))
file_told w s t k q dir name other text read (Err error) h opens_now p =
    subst (λ u. Goes (watch w) 6 u (make_by w.how (change_of w dir name other text) read k (Err error))
    (Done w (fds s.held))) (sym p.is)
    (over (record {
      held = refl;
      replies =
          subst (λ l. IsFailing l w (Some p.made) error w.step) (sym h.unlinked)
          (p.made, refl, (p.gave.1, inl (refl, p.gave.0)));
    }))

makes_by : (w : Wish) (s : Seen) (k : Known) (dir : ℕ) (name : List ℕ) (other : ℕ) (text read : List ℕ) (b : Bool)
    → is_opened w.how w.step ≡ b → Ready w s dir name → w.how.linked ≡ false
    → ((w.step == 10) ≡ true → text ≡ w.text) → Last w s dir name other text
    → Goes (watch w) 7 s (and_then (made_alone k w (change_of w dir name other text))
    (make_told w.how (change_of w dir name other text) read)) (Done w (fds s.held))
makes_by w s k dir name other text read false is h unlinked texts last =
    both 1 6
    (both 1 0 (asks_plain w s dir name other k.machine.nofollow text h texts last is)
    (λ t r p. over {Post = λ u c. (c.known ≡ k) × Plain s u c.value} (refl, p)))
    (λ t c p. plain_told w s t c.known dir name other text read c.value h unlinked is p.1)
makes_by w s k dir name other text read true is h unlinked texts last =
    let q = file_call w dir name k.machine.nofollow in
    both 1 6
    (both 1 0 (asks_file w s dir name other k.machine.nofollow text h is)
    (λ t r p. over {Post = λ u c. (c.known ≡ k) × FileMade s q u c.value} (refl, p)))
    (λ t c p. file_told w s t c.known q dir name other text read c.value h is p.1)

pub makes : (w : Wish) (s : Seen) (k : Known) (dir : ℕ) (name : List ℕ) (other : ℕ) (text read : List ℕ)
    → Ready w s dir name → w.how.linked ≡ false
    → ((w.step == 10) ≡ true → text ≡ w.text) → Last w s dir name other text
    → Goes (watch w) 7 s (make_change k w.how (change_of w dir name other text) read) (Done w (fds s.held))
unfolding make_change make
makes w s k dir name other text read h unlinked texts last =
    subst (λ b. Goes (watch w) 7 s
    (and_then (if b && ((w.step == 9) || (w.step == 10)) then by_proc k w.how.fd (linking dir name)
    else made_alone k w (change_of w dir name other text)) (make_told w.how (change_of w dir name other text) read))
    (Done w (fds s.held))) (sym unlinked)
    (makes_by w s k dir name other text read (is_opened w.how w.step) refl h unlinked texts last)
