-- How the entry is given.
use Rattle.std.proofs.Common.{◌≡◌, ◌≢◌, ℕ, List, [], ◌∷◌, Bool, true, false, not, if◌then◌else◌, Result, Ok, Err, refl, sym, ap, subst, ◌∙◌, arith}
use Rattle.std.specs.Prelude.{◌==◌, take, Some, None}
use Rattle.std.proofs.lemmas.Bool.{eq-eqb, false≢true}
use Rattle.system_calls.specs.Errors.{EAGAIN}
use Rattle.system_calls.specs.Objects.{format, is_same_object, S_IFLNK}
use Rattle.dialogue.specs.Dialogue.{Dialogue, SystemCall, and_then, calling, closes, ends, reads_link, stats}
use Rattle.system_calls.specs.Held.{without}
use Rattle.dialogue.specs.Holds.{is_in}
use Rattle.dialogue.specs.declared.calls.Answer.{Answer}
use Rattle.dialogue.proofs.HeldLemmas.{first_in, in_by, out_by, second_in, without_second}
use Rattle.dialogue.proofs.HoldLemmas.{Goes, asks_then, both, choose, over}
use Rattle.give_entry.specs.Giving.{closing, compared, give, identified, look_error, looked_at, object_of, one_of, open_error, opened, read_back, seen, seen_then}
use Rattle.give_entry.specs.Made.{is_of_kind, is_text}
use Rattle.give_entry.specs.Promises.{EachIsClosed, FailsByTheLast, FewCome, GivesTheOne, GivesWhatFits, IsGiven, IsIdentified, IsTheOne, left, seen_of}
use Rattle.give_entry.specs.Seen.{IsOther, May, Seen, Wish, asked_after, at_first, held_first, is_as_made, looked_after, opened_after, seen_by, watch}
use Rattle.give_entry.specs.declared.giving.Made.{Made}
use Rattle.give_entry.specs.declared.giving.Made.TheVariants.{Name, File, Entry}

-- ---- how a part ends

-- it is the one; or it failed by the last error
abbrev End : Wish → ℕ → Seen → Result (Unit {0}) ℕ → Type 0
End w fd s (Ok done) = IsTheOne w s fd
End w fd s (Err error) = (error ≢ 0) × (error ≡ s.why)

-- what was opened is looked at, and still open
record Sees (w : Wish) (fd : ℕ) (s : Seen) (r : Result (Unit {0}) ℕ) : Type 0 where
  asked : s.asked ≡ true
  held : s.held ≡ fd ∷ held_first w.made
  end : End w fd s r

-- nothing was asked of what was opened; or it is of the kind that was made
abbrev begun : Made → ℕ → Seen
begun made fd = record (at_first made) { asked = true; entry = Some fd; held = fd ∷ held_first made }

abbrev looked : Made → ℕ → Answer → Seen
looked made fd about = record (begun made fd) { looked = Some about }

bad_some : (error : ℕ) → not (error == 0) ≡ true → error ≢ 0
bad_some error bad none = absurd (grind (arith, bad, none))

good_none : (error : ℕ) → not (error == 0) ≡ false → error ≡ 0
good_none error good = grind (arith, good)

-- ---- that it is the one

-- what was seen so far
record Fits (w : Wish) (about : Answer) : Type 0 where
  answered : look_error about ≡ 0
  as_made : is_as_made w.made about.mode about.node ≡ true

-- the object is the same, or the text
abbrev shown : Made → ℕ → Answer → Bool → Bool → Seen
shown made fd about same text = record (looked made fd about) { same = same; text = text }

is_one : (w : Wish) (fd : ℕ) (about : Answer) (same text : Bool) → Fits w about
    → IsIdentified w.made (shown w.made fd about same text) → Sees w fd (shown w.made fd about same text) (Ok tt)
is_one w fd about same text fits is =
    record {
      asked = refl;
      held = refl;
      end = record {
        opened = refl;
        about = about;
        looked = refl;
        answered = fits.answered;
        as_made = fits.as_made;
        identified = is;
      };
    }

settles : (w : Wish) (fd error : ℕ) (about : Answer) (bad same : Bool) (one : Seen) → not (error == 0) ≡ bad
    → Sees w fd one (Ok tt)
    → Goes (watch w) 0
    (if bad then record (looked w.made fd about) { why = error }
    else (if same then one else record (looked w.made fd about) { why = EAGAIN }))
    (ends (if bad then Err error else one_of same)) (Sees w fd)
settles w fd error about true same one is sees =
    over (record { asked = refl; held = refl; end = (bad_some error is, refl) })
settles w fd error about false true one is sees = over sees
settles w fd error about false false one is sees =
    over (record { asked = refl; held = refl; end = (λ zero. absurd cc, refl) })

compares : (w : Wish) (fd other : ℕ) (about : Answer) → Fits w about → IsOther w.made (looked w.made fd about) other
    → IsIdentified w.made (shown w.made fd about true false)
    → Goes (watch w) 1 (looked w.made fd about) (compared about other) (Sees w fd)
unfolding compared
compares w fd other about fits may is =
    asks_then 0 (stats other) may
    (λ a. settles w fd (look_error a) about (not (look_error a == 0)) (is_same_object (object_of about) (object_of a) false)
    (shown w.made fd about true false) refl (is_one w fd about true false fits is))

reads : (w : Wish) (fd : ℕ) (about : Answer) → Fits w about → IsIdentified w.made (shown w.made fd about false true)
    → Goes (watch w) 1 (looked w.made fd about) (read_back fd w.text w.read) (Sees w fd)
unfolding read_back
reads w fd about fits is =
    asks_then 0 (reads_link fd) (refl, first_in fd (held_first w.made))
    (λ a. settles w fd a.error about (not (a.error == 0)) (is_text (take a.value w.read) w.text)
    (shown w.made fd about false true) refl (is_one w fd about false true fits is))

abbrev wish : SystemCall → Made → List ℕ → List ℕ → Wish
wish opening made text read = record { opening = opening; made = made; text = text; read = read }

identifies : (opening : SystemCall) (made : Made) (text read : List ℕ) (fd : ℕ) (about : Answer)
    → Fits (wish opening made text read) about
    → Goes (watch (wish opening made text read)) 1 (looked made fd about) (identified fd made text read about)
    (Sees (wish opening made text read) fd)
identifies opening (Name other) text read fd about fits =
    compares (wish opening (Name other) text read) fd other about fits refl refl
identifies opening (File other) text read fd about fits =
    compares (wish opening (File other) text read) fd other about fits (refl, second_in other fd []) refl
identifies opening (Entry mode number) text read fd about fits =
    choose (format mode == S_IFLNK) (λ _. reads (wish opening (Entry mode number) text read) fd about fits (λ link. refl))
    (λ no. over (is_one (wish opening (Entry mode number) text read) fd about false false fits
    (λ link. absurd (false≢true (sym no ∙ eq-eqb (format mode) S_IFLNK link)))))

-- ---- the entry is looked at

as_kind : (made : Made) (mode device : ℕ) → is_as_made made mode device ≡ is_of_kind made mode device
as_kind (Name fd) mode device = refl
as_kind (File fd) mode device = refl
as_kind (Entry wanted number) mode device = refl

looks_so : (w : Wish) (fd error : ℕ) (a : Answer) (bad kind : Bool) (m : Dialogue (Result (Unit {0}) ℕ))
    → not (error == 0) ≡ bad
    → (bad ≡ false → kind ≡ true → Goes (watch w) 1 (looked w.made fd a) m (Sees w fd))
    → Goes (watch w) 1
    (if bad then record (begun w.made fd) { why = error }
    else (if kind then looked w.made fd a else record (begun w.made fd) { why = EAGAIN }))
    (if bad then ends (Err error) else (if not kind then ends (Err EAGAIN) else m)) (Sees w fd)
looks_so w fd error a true kind m is more =
    over (record { asked = refl; held = refl; end = (bad_some error is, refl) })
looks_so w fd error a false true m is more = more refl refl
looks_so w fd error a false false m is more =
    over (record { asked = refl; held = refl; end = (λ zero. absurd cc, refl) })

looks : (w : Wish) (fd : ℕ) (a : Answer)
    → Goes (watch w) 1 (looked_after w.made (begun w.made fd) None a) (looked_at fd w.made w.text w.read a) (Sees w fd)
looks w fd a =
    rw (as_kind w.made a.mode a.node)
    (looks_so w fd (look_error a) a (not (look_error a == 0)) (is_of_kind w.made a.mode a.node) _ refl
    (λ good kind. identifies w.opening w.made w.text w.read fd a
    (record { answered = good_none (look_error a) good; as_made = as_kind w.made a.mode a.node ∙ kind })))

sees : (w : Wish) (fd : ℕ) → Goes (watch w) 2 (begun w.made fd) (seen fd w.made w.text w.read) (Sees w fd)
unfolding seen
sees w fd = asks_then 1 (stats fd) (refl, first_in fd (held_first w.made)) (looks w fd)

-- ---- it is opened

abbrev Given : Wish → Seen → Result ℕ ℕ → Type 0
Given w s (Ok fd) = IsTheOne w s fd
Given w s (Err error) = (error ≢ 0) × (error ≡ s.why)

record Opened (w : Wish) (s : Seen) (r : Result ℕ ℕ) : Type 0 where
  asked : s.asked ≡ true
  held : s.held ≡ left (held_first w.made) r
  given : Given w s r

behind : (w : Wish) (t : Seen) (fd : ℕ) (a : Answer) → t.asked ≡ true
    → seen_by w t (closes fd) a ≡ record t { held = without fd t.held }
behind w t fd a is = ap (λ b. if b then asked_after w t (closes fd) a else opened_after t a) is

closes_then : {E : Type 0} (w : Wish) (t : Seen) (fd : ℕ) (e : E) (Post : Seen → E → Type 0) → t.asked ≡ true
    → is_in fd t.held ≡ true → Post (record t { held = without fd t.held }) e
    → Goes (watch w) 1 t (and_then (calling (closes fd)) (λ _. ends e)) Post
closes_then w t fd e Post is held post =
    asks_then 0 (closes fd) (subst (λ b. May w b t (closes fd)) (sym is) held)
    (λ a. subst (λ u. Goes (watch w) 0 u (ends e) Post) (sym (behind w t fd a is)) (over post))

gives_so : (w : Wish) (fd : ℕ) (t : Seen) (r : Result (Unit {0}) ℕ) → Sees w fd t r
    → Goes (watch w) 1 t (seen_then fd r) (Opened w)
gives_so w fd t (Ok done) h = over (record { asked = h.asked; held = h.held; given = h.end })
gives_so w fd t (Err error) h =
    closes_then w t fd (Err error) (Opened w) h.asked (in_by fd t.held (held_first w.made) h.held)
    (record { asked = h.asked; held = out_by fd t.held (held_first w.made) h.held; given = h.end })

open_some : (error : ℕ) → error ≢ 0 → open_error error ≢ 0
open_some error some none = absurd (grind (arith, some, none))

opens_so : (w : Wish) (error fd : ℕ) (bad : Bool) → not (error == 0) ≡ bad
    → Goes (watch w) 3 (if bad then record (at_first w.made) { asked = true; why = open_error error } else begun w.made fd)
    (if bad then ends (Err (open_error error)) else and_then (seen fd w.made w.text w.read) (seen_then fd)) (Opened w)
opens_so w error fd true is =
    over (record { asked = refl; held = refl; given = (open_some error (bad_some error is), refl) })
opens_so w error fd false is = both 2 1 (sees w fd) (gives_so w fd)

opens : (w : Wish) → Goes (watch w) 4 (at_first w.made) (opened w.opening w.made w.text w.read) (Opened w)
unfolding opened
opens w = asks_then 3 w.opening refl (λ a. opens_so w a.error a.value (not (a.error == 0)) refl)

-- ---- the end

record Ends (w : Wish) (s : Seen) (r : Result ℕ ℕ) : Type 0 where
  held : s.held ≡ left [] r
  given : Given w s r

closes_made : (opening : SystemCall) (made : Made) (text read : List ℕ) (t : Seen) (r : Result ℕ ℕ)
    → Opened (wish opening made text read) t r
    → Goes (watch (wish opening made text read)) 1 t (closing made r) (Ends (wish opening made text read))
closes_made opening (Name fd) text read t r h = over (record { held = h.held; given = h.given })
closes_made opening (Entry mode number) text read t r h = over (record { held = h.held; given = h.given })
closes_made opening (File fd) text read t (Ok entry) h =
    closes_then (wish opening (File fd) text read) t fd (Ok entry) (Ends (wish opening (File fd) text read)) h.asked
    (ap (is_in fd) h.held ∙ second_in fd entry [])
    (record {
      held = ap (without fd) h.held ∙ without_second fd entry [];
      given = record {
        opened = h.given.opened;
        about = h.given.about;
        looked = h.given.looked;
        answered = h.given.answered;
        as_made = h.given.as_made;
        identified = h.given.identified;
      };
    })
closes_made opening (File fd) text read t (Err error) h =
    closes_then (wish opening (File fd) text read) t fd (Err error) (Ends (wish opening (File fd) text read)) h.asked
    (in_by fd t.held [] h.held) (record { held = out_by fd t.held [] h.held; given = h.given })

gives : (w : Wish) → Goes (watch w) 5 (at_first w.made) (give w.opening w.made w.text w.read) (Ends w)
unfolding give
gives w = both 4 1 (opens w) (closes_made w.opening w.made w.text w.read)

-- ---- the laws

pub few-come : FewCome
few-come w es r h = ((gives w).each es r h).few

pub each-is-closed : EachIsClosed
each-is-closed w es r h =
    let g = (gives w).each es r h in
    (g.fair, g.ends.held)

pub gives-the-one : GivesTheOne
gives-the-one w es fd h = ((gives w).each es (Ok fd) h).ends.given

pub fails-by-the-last : FailsByTheLast
fails-by-the-last w es error h = ((gives w).each es (Err error) h).ends.given

is_given : (w : Wish) (s : Seen) (r : Result ℕ ℕ) → Ends w s r → s.why ≡ 0 → IsGiven r
is_given w s (Ok fd) h none = tt
is_given w s (Err error) h none = absurd (h.given.0 (h.given.1 ∙ none))

pub gives-what-fits : GivesWhatFits
gives-what-fits w es r h none = is_given w (seen_of w es) r ((gives w).each es r h).ends none
