-- What one pass over the path asks, and what it comes to.
use Rattle.std.proofs.Common.{◌≡◌, ◌≤◌, ℕ, ◌+◌, List, [], ◌∷◌, Bool, true, false, ◌||◌, if◌then◌else◌, refl, sym, ap, subst, ◌∙◌, arith, nat_lt, length, take, drop}
use Rattle.std.specs.Prelude.{◌==◌, not, ◌&&◌, suc, Some, None}
use Rattle.std.proofs.lemmas.Bool.{eqb-true, false≢true, ltb-true, ltb-false, ne_eqb}
use Rattle.path_text.specs.Text.{is_empty, name_size}
use Rattle.path_text.specs.declared.path.TheConstants.{TEXT_MAX}
use Rattle.system_calls.specs.Errors.{EAGAIN, EEXIST, EINVAL, EISDIR, ENAMETOOLONG, ENOENT, ELOOP}
use Rattle.system_calls.specs.Tries.{is_due, pause_after, TRIES}
use Rattle.open_or_make.specs.Pass.{LINKS, NO_STEP, STEP_MAKE_FILE, STEP_READ_LINK}
use Rattle.dialogue.specs.Dialogue.{and_then, asking, ends}
use Rattle.dialogue.proofs.HoldLemmas.{Goes, asks_then, choose, over, weak}
use Rattle.make_through_links.specs.Asking.{Call, Talk, closes, creates, finds, makes, makes_above, makings, opens_partly, reads_end, reads_link, splits, waits}
use Rattle.make_through_links.specs.Ends.{again, ended, followed, followed_at_end, front_for, led, led_by, unparted, STEP_MAKE_DIR}
use Rattle.make_through_links.specs.Pass.{behind_there, create, end_read, find, link_read, look, make, make_question, parted, pass, read_end, read_link, walk}
use Rattle.open_or_make.specs.Paths.{rest_at, way}
use Rattle.make_through_links.specs.Promises.{given}
use Rattle.make_through_links.specs.Seen.{GoesOn, IsOnItsWay, Seen, Wish, after, at, calls_by, held_by, making_by, missing, opened, text_for, told, watch}
use Rattle.open_or_make.specs.declared.asking.Outcome.{Outcome}
use Rattle.make_through_links.specs.declared.making.Came.{Came}
use Rattle.make_through_links.specs.declared.making.Came.TheVariants.{Given, Failed, Fails, Again, Led}
use Rattle.make_through_links.specs.declared.making.Making.{Making}

-- ---- how a pass ends

-- where the next one begins, behind so many links and tries
pub record Next (w : Wish) (n : ℕ) (m : Making) (path : List ℕ) : Type 0 where
  pub way : IsOnItsWay w m path
  pub more : m.links + m.tries ≡ suc n

-- what an answer says fits a pass over this path, with this text and this open then
abbrev FitsIn : Wish → List ℕ → List ℕ → ℕ → List ℕ → Came → Type 0
FitsIn w path text n held (Again m) = Next w n m path
FitsIn w path text n held (Led m front rest) = Next w n m (way path text front rest)
FitsIn w path text n held other = held ≡ given other

abbrev ComesIn : Wish → List ℕ → List ℕ → ℕ → ℕ → Seen → Came → Type 0
ComesIn w path text n k t (Again m) = (t ≡ at m path t.calls) × ((t.calls ≤ k) × Next w n m path)
ComesIn w path text n k t (Led m front rest) =
    (t ≡ at m (way path text front rest) t.calls) × ((t.calls ≤ k) × Next w n m (way path text front rest))
ComesIn w path text n k t other = (t.came ≡ Some other) × ((t.calls ≤ k) × (t.held ≡ given other))

-- the same from a state of the pass on
abbrev Fits : Wish → Seen → List ℕ → Came → Type 0
Fits w s held c = FitsIn w s.path (text_for w s.making) (s.making.links + s.making.tries) held c

abbrev pub Comes : Wish → Seen → ℕ → Seen → Came → Type 0
Comes w s k t c = ComesIn w s.path (text_for w s.making) (s.making.links + s.making.tries) k t c

says_so : (w : Wish) (s : Seen) (q : Call) (a : Outcome) (k : ℕ) (c : Came)
    → text_for w (making_by s.making q a) ≡ text_for w s.making → calls_by s.calls q ≤ k → Fits w s (held_by q a) c
    → Comes w s k (told w s q a (Some c)) c
says_so w s q a k (Given fd) same few fits = (refl, (few, fits))
says_so w s q a k (Failed error) same few fits = (refl, (few, fits))
says_so w s q a k (Fails error step) same few fits = (refl, (few, fits))
says_so w s q a k (Again m) same few fits = (refl, (few, fits))
says_so w s q a k (Led m front rest) same few fits =
    (ap (λ text. at m (way s.path text front rest) (calls_by s.calls q)) same, (few, fits))

-- ---- what an answer says

ended_fits : (w : Wish) (s : Seen) (a : Outcome) → Fits w s (opened a) (ended a)
ended_fits w s a = by_case (a.error == 0)
  where
    by_case : (b : Bool) → Fits w s (if b then a.descriptor ∷ [] else [])
        (if b then Given a.descriptor else Failed a.error)
    by_case true = refl
    by_case false = refl

few_tries : (n : ℕ) (may : Bool) → is_due n may EAGAIN false ≡ true → n + 1 ≤ TRIES
few_tries n true is = let few = ltb-true n TRIES is in omega (arith, few)
few_tries n false is = absurd (false≢true is)

-- another try, of a path that is walked by this or without its file's name apart
again_fits : (w : Wish) (s : Seen) (m : Making) → IsOnItsWay w m s.path → m.links ≡ s.making.links
    → m.tries ≡ s.making.tries → Fits w s [] (again m)
again_fits w s m h links tries = by_case (is_due m.tries m.may_retry EAGAIN false) refl
  where
    by_case : (b : Bool) → is_due m.tries m.may_retry EAGAIN false ≡ b
        → Fits w s []
        (if b then Again (record m { pause = pause_after m.tries; tries = m.tries + 1 })
        else Fails EAGAIN STEP_MAKE_DIR)
    by_case true is =
        record {
          way = record {
            size = h.size;
            file = h.file;
            follows = h.follows;
            may_retry = h.may_retry;
            tries = few_tries m.tries m.may_retry is;
            links = h.links;
            own = h.own;
            leave = h.leave;
            fits = h.fits;
          };
          more = omega (arith, links, tries);
        }
    by_case false is = refl

-- with the file's name apart or not
same_way : (w : Wish) (m : Making) (path : List ℕ) (above : ℕ) (parted : Bool) → IsOnItsWay w m path
    → IsOnItsWay w (record m { above = above; parted = parted }) path
same_way w m path above parted h =
    record {
      size = h.size;
      file = h.file;
      follows = h.follows;
      may_retry = h.may_retry;
      tries = h.tries;
      links = h.links;
      own = h.own;
      leave = h.leave;
      fits = h.fits;
    }

apart : (w : Wish) (s : Seen) → IsOnItsWay w s.making s.path → IsOnItsWay w (unparted s.making) s.path
apart w s h = same_way w s.making s.path s.making.length false h

led_fits : (w : Wish) (s : Seen) (m : Making) (dir rest : ℕ) → IsOnItsWay w m s.path → m.links ≡ s.making.links
    → m.tries ≡ s.making.tries → m.follows ≡ true
    → Fits w s [] (led m s.path dir rest (text_for w s.making))
led_fits w s m dir rest h links tries leave =
    by_case (nat_lt m.links LINKS) (nat_lt TEXT_MAX (length new)) refl refl
  where
    text : List ℕ
    text = text_for w s.making

    front : ℕ
    front = front_for s.path text dir

    new : List ℕ
    new = way s.path text front rest

    by_case : (room long : Bool) → nat_lt m.links LINKS ≡ room → nat_lt TEXT_MAX (length new) ≡ long
        → Fits w s []
        (let error = if room then (if long then ENAMETOOLONG else 0) else ELOOP in
        if error == 0 then Led (led_by m s.path front rest text) front rest else Fails error STEP_READ_LINK)
    by_case false long is fits = refl
    by_case true true is fits = refl
    by_case true false is fits =
        let few = ltb-true m.links LINKS is in
        let short = ltb-false TEXT_MAX (length new) fits in
        record {
          way = record {
            size = refl;
            file = h.file;
            follows = h.follows;
            may_retry = h.may_retry;
            tries = h.tries;
            links = omega (arith, few);
            own = λ none. absurd (omega (arith, none));
            leave = λ no. absurd (false≢true (sym no ∙ (sym h.follows ∙ leave)));
            fits = λ some. omega (arith, short);
          };
          more = omega (arith, links, tries);
        }

link_fits : (w : Wish) (s : Seen) (a : Outcome) → GoesOn w s → s.making.follows ≡ true
    → Fits w s [] (link_read s.making s.path s.there (text_for w s.making) a)
link_fits w s a h leave = by_case (a.error == EINVAL) (not (a.error == 0)) (is_empty (text_for w s.making))
  where
    by_case : (none bad empty : Bool) → Fits w s []
        (if none then again s.making
        else (if bad then Failed a.error
        else (if empty then Fails ENOENT STEP_READ_LINK
        else followed s.making s.path s.there (text_for w s.making))))
    by_case true bad empty = again_fits w s s.making h.way refl refl
    by_case false true empty = refl
    by_case false false true = refl
    by_case false false false = led_fits w s s.making s.there
        (s.there + rest_at (drop s.there (take s.making.above s.path))) h.way refl refl leave

end_fits : (w : Wish) (s : Seen) (a : Outcome) → GoesOn w s
    → Fits w s [] (end_read s.making s.path (text_for w s.making) a)
end_fits w s a h =
    by_case ((a.error == EINVAL) || (a.error == ENOENT)) (not (a.error == 0)) s.making.follows
    (is_empty (text_for w s.making)) refl
  where
    by_case : (none bad leave empty : Bool) → s.making.follows ≡ leave → Fits w s []
        (if none then again (unparted s.making)
        else (if bad then Failed a.error
        else (if not leave then Fails ENOENT STEP_MAKE_FILE
        else (if empty then again (unparted s.making)
        else followed_at_end s.making s.path (text_for w s.making)))))
    by_case true bad leave empty is = again_fits w s (unparted s.making) (apart w s h.way) refl refl
    by_case false true leave empty is = refl
    by_case false false false empty is = refl
    by_case false false true true is = again_fits w s (unparted s.making) (apart w s h.way) refl refl
    by_case false false true false is = led_fits w s (unparted s.making) (length (take s.making.above s.path))
        (length s.path) (apart w s h.way) refl refl is

-- ---- from one call to the next

-- behind an answer that ends nothing
onwards : (w : Wish) (s : Seen) (q : Call) (a : Outcome) → IsOnItsWay w (making_by s.making q a) s.path
    → held_by q a ≡ [] → GoesOn w (told w s q a None)
onwards w s q a h closed = record { way = h; closed = closed; unsaid = refl }

-- what was opened is closed
closes_then : {E : Type 0} (w : Wish) (s : Seen) (fd n : ℕ) (m : Talk E) (Post : Seen → E → Type 0) → s.held ≡ fd ∷ []
    → s.between ≡ false
    → ((a : Outcome) → Goes (watch w) n (told w s (closes fd) a s.came) m Post)
    → Goes (watch w) (1 + n) s (and_then (asking makings (closes fd)) (λ _. m)) Post
closes_then w s fd n m Post held isnt more =
    asks_then n (closes fd) held
    (λ a. subst (λ b. Goes (watch w) n (told w s (closes fd) a (if b then Some (again s.making) else s.came)) m Post)
    (sym isnt) (more a))

-- ---- a link at the path's end

reads_ends : (w : Wish) (s : Seen) (k : ℕ) → GoesOn w s → s.calls + 1 ≤ k
    → Goes (watch w) 1 s (read_end s.making s.path (text_for w s.making)) (Comes w s k)
unfolding read_end
reads_ends w s k h few =
    asks_then 0 (reads_end s.path) (h, refl)
    (λ a. over (says_so w s (reads_end s.path) a k (end_read s.making s.path (text_for w s.making) a) refl few
    (end_fits w s a h)))

-- ---- a file is made

opened_bad : (a : Outcome) → (a.error == 0) ≡ false → opened a ≡ []
opened_bad a bad = ap (λ b. if b then a.descriptor ∷ [] else []) bad

opened_some : (a : Outcome) → (a.error == 0) ≡ true → opened a ≡ a.descriptor ∷ []
opened_some a good = ap (λ b. if b then a.descriptor ∷ [] else []) good

isnt_zero : (n k : ℕ) → (n == suc k) ≡ true → (n == 0) ≡ false
isnt_zero n k is =
    let some = eqb-true n (suc k) is in
    ne_eqb n 0 (λ none. omega (arith, some, none))

creates_goes : (w : Wish) (s : Seen) (k : ℕ) → GoesOn w s → s.made ≡ true → s.calls + 2 ≤ k
    → Goes (watch w) 2 s (create s.making s.path (text_for w s.making)) (Comes w s k)
unfolding create
creates_goes w s k h made few =
    asks_then 1 (creates s.path) (h, (refl, made)) (λ a. by_case a (a.error == EEXIST) refl)
  where
    by_case : (a : Outcome) (b : Bool) → (a.error == EEXIST) ≡ b
        → Goes (watch w) 1 (told w s (creates s.path) a (if b then None else Some (ended a)))
        (if b then read_end s.making s.path (text_for w s.making) else ends (ended a)) (Comes w s k)
    by_case a true is =
        reads_ends w (told w s (creates s.path) a None) k
        (onwards w s (creates s.path) a h.way (opened_bad a (isnt_zero a.error 16 is))) (omega (arith, few))
    by_case a false is =
        over (says_so w s (creates s.path) a k (ended a) refl (omega (arith, few)) (ended_fits w s a))

-- ---- the directories' path leads to what is missing

reads_goes : (w : Wish) (s : Seen) (k : ℕ) → GoesOn w s → (name_size (missing s) == 0) ≡ false
    → s.making.follows ≡ true → s.calls + 1 ≤ k
    → Goes (watch w) 1 s (read_link s.making s.path s.there (s.there + name_size (missing s)) (text_for w s.making))
    (Comes w s k)
unfolding read_link
reads_goes w s k h some leave few =
    asks_then 0 (reads_link (take (s.there + name_size (missing s)) (take s.making.above s.path)))
    (h, (refl, some, leave))
    (λ a. over (says_so w s (reads_link (take (s.there + name_size (missing s)) (take s.making.above s.path))) a k
    (link_read s.making s.path s.there (text_for w s.making) a) refl few (link_fits w s a h leave)))

-- what was opened is closed, and a name comes behind or none
sees_goes : (w : Wish) (s : Seen) (k : ℕ) (a : Outcome) → GoesOn w s → s.making.follows ≡ true → s.calls + 2 ≤ k
    → (a.error == 0) ≡ true
    → Goes (watch w) 2 (told w s (opens_partly (take s.making.above s.path)) a None)
    (and_then (asking makings (closes a.descriptor)) (λ _. behind_there s.making s.path (text_for w s.making) a.rest))
    (Comes w s k)
sees_goes w s k a h leave few good =
    asks_then 1 (closes a.descriptor) (opened_some a good)
    (λ b. subst (λ between. Goes (watch w) 1
    (told w t (closes a.descriptor) b (if between then Some (again s.making) else None))
    (behind_there s.making s.path (text_for w s.making) a.rest) (Comes w s k)) (sym there_is)
    (by_case b (name_size (drop a.rest (take s.making.above s.path)) == 0) refl))
  where
    t : Seen
    t = told w s (opens_partly (take s.making.above s.path)) a None

    there_is : t.between ≡ (name_size (drop a.rest (take s.making.above s.path)) == 0)
    there_is = ap (λ x. x && (name_size (drop a.rest (take s.making.above s.path)) == 0)) good

    by_case : (b : Outcome) (none : Bool) → (name_size (drop a.rest (take s.making.above s.path)) == 0) ≡ none
        → Goes (watch w) 1 (told w t (closes a.descriptor) b (if none then Some (again s.making) else None))
        (if none then ends (again s.making) else read_link s.making s.path a.rest
        (a.rest + name_size (drop a.rest (take s.making.above s.path))) (text_for w s.making)) (Comes w s k)
    by_case b true is =
        over (says_so w t (closes a.descriptor) b k (again s.making) refl (omega (arith, few))
        (again_fits w t s.making h.way refl refl))
    by_case b false is =
        reads_goes w (told w t (closes a.descriptor) b None) k (onwards w t (closes a.descriptor) b h.way refl) is leave
        (omega (arith, few))

looks_goes : (w : Wish) (s : Seen) (k : ℕ) → GoesOn w s → s.making.follows ≡ true → s.calls + 2 ≤ k
    → Goes (watch w) 3 s (look s.making s.path (text_for w s.making)) (Comes w s k)
unfolding look
looks_goes w s k h leave few =
    asks_then 2 (opens_partly (take s.making.above s.path)) (h, (refl, leave)) (λ a. by_case a (a.error == 0) refl)
  where
    by_case : (a : Outcome) (good : Bool) → (a.error == 0) ≡ good
        → Goes (watch w) 2
        (told w s (opens_partly (take s.making.above s.path)) a (if good then None else Some (Failed a.error)))
        (if not good then ends (Failed a.error)
        else and_then (asking makings (closes a.descriptor))
        (λ _. behind_there s.making s.path (text_for w s.making) a.rest)) (Comes w s k)
    by_case a true is = sees_goes w s k a h leave few is
    by_case a false is =
        over (says_so w s (opens_partly (take s.making.above s.path)) a k (Failed a.error) refl (omega (arith, few))
        (opened_bad a is))

-- ---- the directories are made

-- by whether a file is wanted
abbrev made_of : Bool → Making → List ℕ → List ℕ → Outcome → Talk Came
made_of file m path read a =
    if (a.error == ENOENT) && (m.follows && (file || not (is_empty (take m.above path)))) then look m path read
    else (if not (a.error == 0) || not file then ends (ended a)
    else and_then (asking makings (closes a.descriptor)) (λ _. create m path read))

-- above a file
makes_above_goes : (w : Wish) (s : Seen) (k : ℕ) (a : Outcome) → GoesOn w s → s.calls + 3 ≤ k
    → Goes (watch w) 3 (after w s (makes_above (take s.making.above s.path)) a)
    (made_of true s.making s.path (text_for w s.making) a) (Comes w s k)
makes_above_goes w s k a h few = by_case (a.error == 0) (a.error == ENOENT) s.making.follows refl refl refl
  where
    q : Call
    q = makes_above (take s.making.above s.path)

    by_case : (zero gone leave : Bool) → (a.error == 0) ≡ zero → (a.error == ENOENT) ≡ gone → s.making.follows ≡ leave
        → Goes (watch w) 3 (told w s q a (if zero || (gone && leave) then None else Some (Failed a.error)))
        (if gone && (leave && true) then look s.making s.path (text_for w s.making)
        else (if not zero || false then ends (if zero then Given a.descriptor else Failed a.error)
        else and_then (asking makings (closes a.descriptor))
        (λ _. create s.making s.path (text_for w s.making)))) (Comes w s k)
    by_case true true leave is gone may = absurd (false≢true (sym (isnt_zero a.error 1 gone) ∙ is))
    by_case true false leave is gone may =
        closes_then w (told w s q a None) a.descriptor 2 (create s.making s.path (text_for w s.making)) (Comes w s k)
        (opened_some a is) refl
        (λ b. creates_goes w (told w (told w s q a None) (closes a.descriptor) b None) k
        (onwards w (told w s q a None) (closes a.descriptor) b h.way refl) is (omega (arith, few)))
    by_case false true true is gone may =
        looks_goes w (told w s q a None) k (onwards w s q a h.way (opened_bad a is)) may (omega (arith, few))
    by_case false true false is gone may =
        over (says_so w s q a k (Failed a.error) refl (omega (arith, few)) (opened_bad a is))
    by_case false false leave is gone may =
        over (says_so w s q a k (Failed a.error) refl (omega (arith, few)) (opened_bad a is))

both_true : (a b : Bool) → (a && b) ≡ true → (a ≡ true) × (b ≡ true)
both_true true true is = (refl, refl)
both_true true false is = absurd (false≢true is)
both_true false b is = absurd (false≢true is)

-- the wanted ones
makes_wanted : (w : Wish) (s : Seen) (k : ℕ) (a : Outcome) → GoesOn w s → s.calls + 3 ≤ k
    → Goes (watch w) 3 (after w s (makes (take s.making.above s.path)) a)
    (made_of false s.making s.path (text_for w s.making) a) (Comes w s k)
makes_wanted w s k a h few =
    by_case ((a.error == ENOENT) && (s.making.follows && not (is_empty (take s.making.above s.path)))) (a.error == 0)
    refl
  where
    q : Call
    q = makes (take s.making.above s.path)

    by_case : (on zero : Bool)
        → ((a.error == ENOENT) && (s.making.follows && not (is_empty (take s.making.above s.path)))) ≡ on
        → Goes (watch w) 3 (told w s q a (if on then None else Some (ended a)))
        (if on then look s.making s.path (text_for w s.making)
        else (if not zero || true then ends (ended a)
        else and_then (asking makings (closes a.descriptor))
        (λ _. create s.making s.path (text_for w s.making)))) (Comes w s k)
    by_case true zero is =
        let parts =
        both_true (a.error == ENOENT) (s.making.follows && not (is_empty (take s.making.above s.path))) is in
        looks_goes w (told w s q a None) k
        (onwards w s q a h.way (opened_bad a (isnt_zero a.error 1 parts.0)))
        (both_true s.making.follows (not (is_empty (take s.making.above s.path))) parts.1).0 (omega (arith, few))
    by_case false true is = over (says_so w s q a k (ended a) refl (omega (arith, few)) (ended_fits w s a))
    by_case false false is = over (says_so w s q a k (ended a) refl (omega (arith, few)) (ended_fits w s a))

makes_goes : (w : Wish) (s : Seen) (k : ℕ) → GoesOn w s → s.calls + 3 ≤ k
    → Goes (watch w) 4 s (make s.making s.path (text_for w s.making)) (Comes w s k)
unfolding make
makes_goes w s k h few = by_case s.making.file refl
  where
    by_case : (file : Bool) → s.making.file ≡ file
        → Goes (watch w) 4 s (and_then (asking makings (make_question file (take s.making.above s.path)))
        (made_of file s.making s.path (text_for w s.making))) (Comes w s k)
    by_case true is =
        asks_then 3 (makes_above (take s.making.above s.path)) (h, (refl, is)) (λ a. makes_above_goes w s k a h few)
    by_case false is =
        asks_then 3 (makes (take s.making.above s.path)) (h, (refl, is)) (λ a. makes_wanted w s k a h few)

-- ---- a file is looked for

splits_goes : (w : Wish) (s : Seen) (k : ℕ) → GoesOn w s → s.calls + 4 ≤ k
    → Goes (watch w) 5 s (and_then (asking makings (splits s.path)) (parted s.making s.path (text_for w s.making)))
    (Comes w s k)
splits_goes w s k h few = asks_then 4 (splits s.path) (h, refl) (λ a. by_case a (a.error == 0))
  where
    by_case : (a : Outcome) (good : Bool)
        → Goes (watch w) 4 (told w s (splits s.path) a (if good then None else Some (Fails a.error NO_STEP)))
        (if not good then ends (Fails a.error NO_STEP)
        else make (record s.making { above = a.rest; parted = true }) s.path (text_for w s.making)) (Comes w s k)
    by_case a true =
        makes_goes w (told w s (splits s.path) a None) k
        (onwards w s (splits s.path) a (same_way w s.making s.path a.rest true h.way) refl) (omega (arith, few))
    by_case a false = over (says_so w s (splits s.path) a k (Fails a.error NO_STEP) refl (omega (arith, few)) refl)

finds_goes : (w : Wish) (s : Seen) (k : ℕ) → GoesOn w s → s.making.file ≡ true → s.calls + 5 ≤ k
    → Goes (watch w) 6 s (find s.making s.path (text_for w s.making)) (Comes w s k)
unfolding find
finds_goes w s k h file few =
    asks_then 5 (finds s.path) (h, (refl, file))
    (λ a. by_case a ((a.error == 0) && a.directory) (a.error == ENOENT) (is_empty s.path) refl refl)
  where
    by_case : (a : Outcome) (dir gone empty : Bool) → ((a.error == 0) && a.directory) ≡ dir → (a.error == ENOENT) ≡ gone
        → Goes (watch w) 5 (told w s (finds s.path) a (if dir then Some (Fails EISDIR NO_STEP)
        else (if gone && not empty then None else Some (ended a))))
        (if dir then and_then (asking makings (closes a.descriptor)) (λ _. ends (Fails EISDIR NO_STEP))
        else (if not gone || empty then ends (ended a)
        else and_then (asking makings (splits s.path)) (parted s.making s.path (text_for w s.making)))) (Comes w s k)
    by_case a true gone empty is none =
        let t = told w s (finds s.path) a (Some (Fails EISDIR NO_STEP)) in
        closes_then w t a.descriptor 4 (ends (Fails EISDIR NO_STEP)) (Comes w s k)
        (opened_some a (both_true (a.error == 0) a.directory is).0) refl
        (λ b. over (says_so w t (closes a.descriptor) b k (Fails EISDIR NO_STEP) refl (omega (arith, few)) refl))
    by_case a false true false is none =
        splits_goes w (told w s (finds s.path) a None) k
        (onwards w s (finds s.path) a h.way (opened_bad a (isnt_zero a.error 1 none))) (omega (arith, few))
    by_case a false true true is none =
        over (says_so w s (finds s.path) a k (ended a) refl (omega (arith, few)) (ended_fits w s a))
    by_case a false false empty is none =
        over (says_so w s (finds s.path) a k (ended a) refl (omega (arith, few)) (ended_fits w s a))

-- ---- a whole pass

walks_goes : (w : Wish) (s : Seen) (k : ℕ) → GoesOn w s → s.calls + 5 ≤ k
    → Goes (watch w) 6 s (walk s.making s.path (text_for w s.making)) (Comes w s k)
walks_goes w s k h few =
    choose (s.making.file && not s.making.parted)
    (λ is. finds_goes w s k h (both_true s.making.file (not s.making.parted) is).0 few)
    (λ is. weak 4 (omega arith) (makes_goes w s k h (omega (arith, few))) (λ t c done. done))

pub pass_goes : (w : Wish) (s : Seen) (k : ℕ) → GoesOn w s → s.calls + 5 ≤ k
    → Goes (watch w) 7 s (pass s.making s.path (text_for w s.making)) (Comes w s k)
unfolding pass
pass_goes w s k h few =
    choose (nat_lt 0 s.making.pause)
    (λ is. asks_then 6 (waits s.making.pause) (h, refl)
    (λ a. walks_goes w (told w s (waits s.making.pause) a None) k
    (onwards w s (waits s.making.pause) a h.way refl) few))
    (λ is. weak 6 (omega arith) (walks_goes w s k h few) (λ t c done. done))
