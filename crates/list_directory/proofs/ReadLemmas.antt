-- What the parts of a listing come to.
use Rattle.std.proofs.Common.{◌≡◌, ◌≢◌, ◌+◌, ◌*◌, ℕ, zero, suc, List, [], ◌∷◌, length, Bool, true, false, not, ◌||◌, if◌then◌else◌, ◌⊎◌, inl, inr, refl, ap, sym, subst, ◌∙◌, arith}
use Rattle.std.specs.Prelude.{◌==◌, Option, Some, None}
use Rattle.std.proofs.lemmas.Bool.{eqb-true, eqb-false}
use Rattle.system_calls.specs.Errors.{EINTR, ENOENT}
use Rattle.system_calls.specs.Held.{without}
use Rattle.dialogue.specs.Dialogue.{and_then, asking, ends}
use Rattle.dialogue.proofs.HeldLemmas.{out_by}
use Rattle.dialogue.proofs.HoldLemmas.{Goes, asks_then, both, over, weak}
use Rattle.list_directory.specs.Promises.{Ends, IsBetween, ListingsHold, Stands}
use Rattle.list_directory.specs.Reading.{a_part, at, at_first, finished, go_on, listing_of, opened, part_by, parts, read, read_so, sorted}
use Rattle.list_directory.specs.Seen.{AreAll, AreMore, HaveFailed, IsOpen, IsUnopened, Seen, after, nothing, used_by, watch}
use Rattle.list_directory.specs.declared.asking.Outcome.{Outcome}
use Rattle.list_directory.specs.declared.asking.Question.TheVariants.{Open, Read, Close, Sort}
use Rattle.list_directory.specs.declared.reading.Came.{Came}
use Rattle.list_directory.specs.declared.reading.Came.TheVariants.{Listed, Failed, Again}
use Rattle.list_directory.specs.declared.reading.Listing.{Listing}

-- ---- the directory is closed

record Ended (s : Seen) (size error : ℕ) : Type 0 where
  none : error ≡ 0
  all : AreAll s.reads
  same : size ≡ used_by s.reads

-- read to the end, or until a read failed
abbrev Why : Seen → ℕ → ℕ → Type 0
Why s used error = Ended s used error ⊎ HaveFailed s.reads error

record Over (s : Seen) (directory used error : ℕ) : Type 0 where
  held : s.held ≡ directory ∷ []
  sorted : s.sorted ≡ None
  few : s.asked ≡ suc (s.signals + length s.reads)
  why : Why s used error

sorts_goes : (s : Seen) (used : ℕ) → s.held ≡ [] → AreAll s.reads → used ≡ used_by s.reads
    → s.asked ≡ suc (suc (s.signals + length s.reads))
    → (a : Outcome) → Goes watch 0 (after s (Sort used) a) (ends (sorted used a.error)) Ends
sorts_goes s used held all same few a = by_case (a.error == 0) refl
  where
    by_case : (good : Bool) → (a.error == 0) ≡ good
        → Goes watch 0 (after s (Sort used) a) (ends (if good then Listed used else Failed a.error)) Ends
    by_case true is = over (record {
      held = held;
      all = all;
      used = same;
      sorted = ap (λ n. Some n) (eqb-true a.error 0 is);
      few = omega (arith, few);
    })
    by_case false is = over (record {
      held = held;
      some = eqb-false a.error 0 is;
      why = inr (inr (all, refl));
      few = omega (arith, few);
    })

some_failed : (reads : List Outcome) (error : ℕ) → HaveFailed reads error → error ≢ 0
some_failed [] error h = absurd h
some_failed (a ∷ older) error h = h.1

all_read : (s : Seen) (used error : ℕ) → Why s used error → error ≡ 0 → Ended s used error
all_read s used error (inl all) none = all
all_read s used error (inr failed) none = absurd (some_failed s.reads error failed none)

failed_so : (s : Seen) (used error : ℕ) → Why s used error → error ≢ 0 → HaveFailed s.reads error
failed_so s used error (inl all) some = absurd (some all.none)
failed_so s used error (inr failed) some = failed

is_over : (s : Seen) (used error : ℕ) → Why s used error → AreAll s.reads ⊎ ((e : ℕ) × HaveFailed s.reads e)
is_over s used error (inl all) = inl all.all
is_over s used error (inr failed) = inr (error, failed)

finished_goes : (s : Seen) (directory used error : ℕ) → Over s directory used error
    → Goes watch 2 s (finished directory used error) Ends
unfolding finished
finished_goes s directory used error o =
    asks_then 1 (Close directory) (record { held = o.held; why = is_over s used error o.why })
    (λ b. by_case b (error == 0) refl)
  where
    none : without directory s.held ≡ []
    none = out_by directory s.held [] o.held

    by_case : (b : Outcome) (good : Bool) → (error == 0) ≡ good
        → Goes watch 1 (after s (Close directory) b)
        (if not good then ends (Failed error)
        else and_then (asking listing_of (Sort used)) (λ a. ends (sorted used a.error))) Ends
    by_case b true is =
        let all = all_read s used error o.why (eqb-true error 0 is) in
        let few = o.few in
        asks_then 0 (Sort used) (record { held = none; all = all.all; used = all.same; sorted = o.sorted })
        (sorts_goes (after s (Close directory) b) used none all.all all.same (omega (arith, few)))
    by_case b false is =
        let some = eqb-false error 0 is in
        let few = o.few in
        over (record {
          held = none;
          some = some;
          why = inr (inl (failed_so s used error o.why some));
          few = omega (arith, few);
        })

-- ---- a read

read_so_goes : (s : Seen) (directory used : ℕ) → IsOpen s directory → used ≡ used_by s.reads → (a : Outcome)
    → Goes watch 2 (after s (Read directory) a) (read_so directory used a) Ends
unfolding read_so
read_so_goes s directory used now same a =
    by_case (a.error == EINTR) (a.error == ENOENT) (a.error == 0) a.last refl refl refl refl
  where
    few : s.asked ≡ suc (s.signals + length s.reads)
    few = now.few

    used_now : (good : Bool) → (a.error == 0) ≡ good
        → used_by (a ∷ s.reads) ≡ (if good then a.used else used_by s.reads)
    used_now good is = ap (λ (b : Bool). if b then a.used else used_by s.reads) is

    ended : (used error : ℕ) → Why (record s { reads = a ∷ s.reads; asked = suc s.asked }) used error
        → Goes watch 2 (record s { reads = a ∷ s.reads; asked = suc s.asked }) (finished directory used error) Ends
    ended used error why =
        finished_goes (record s { reads = a ∷ s.reads; asked = suc s.asked }) directory used error
        (record { held = now.held; sorted = now.sorted; few = omega (arith, few); why = why })

    by_case : (signal gone good last : Bool) → (a.error == EINTR) ≡ signal → (a.error == ENOENT) ≡ gone
        → (a.error == 0) ≡ good → a.last ≡ last
        → Goes watch 2 (record (if signal then record s { signals = suc s.signals }
        else record s { reads = a ∷ s.reads }) { asked = suc s.asked })
        (if signal then ends (Again (at directory used))
        else (if gone then finished directory used 0
        else (if not good || last then finished directory a.used a.error
        else ends (Again (at directory a.used))))) Ends
    by_case true gone good last i e g l = over (record {
      stands = record { held = now.held; more = now.more; sorted = now.sorted; few = omega (arith, few) };
      used = same;
    })
    by_case false true good last i e g l =
        let is = eqb-true a.error ENOENT e in
        ended used 0 (inl (record {
          none = refl;
          all = (inl is, now.more);
          same = same ∙ sym (used_now false (ap (λ n. n == 0) is));
        }))
    by_case false false false last i e g l =
        ended a.used a.error
        (inr (refl, eqb-false a.error 0 g, eqb-false a.error ENOENT e, now.more))
    by_case false false true true i e g l =
        let is = eqb-true a.error 0 g in
        ended a.used a.error (inl (record { none = is; all = (inr (is, l), now.more); same = sym (used_now true g) }))
    by_case false false true false i e g l = over (record {
      stands = record {
        held = now.held;
        more = ((eqb-true a.error 0 g, l), now.more);
        sorted = now.sorted;
        few = omega (arith, few);
      };
      used = sym (used_now true g);
    })

read_goes : (s : Seen) (directory used : ℕ) → IsOpen s directory → used ≡ used_by s.reads
    → Goes watch 3 s (read directory used) Ends
unfolding read
read_goes s directory used now same =
    asks_then 2 (Read directory) now (read_so_goes s directory used now same)

-- ---- a part

opened_goes : (s : Seen) (l : Listing) → l.directory ≡ None → IsUnopened s → l.used ≡ used_by s.reads → (a : Outcome)
    → Goes watch 3 (after s Open a) (opened l a) Ends
opened_goes s l none un same a = by_case (a.error == EINTR) (a.error == 0) refl refl
  where
    few : s.asked ≡ s.signals
    few = un.few

    no_reads : length s.reads ≡ 0
    no_reads = ap length un.reads

    by_case : (signal good : Bool) → (a.error == EINTR) ≡ signal → (a.error == 0) ≡ good
        → Goes watch 3 (record (if signal then record s { signals = suc s.signals }
        else (if good then record s { opened = Some 0; held = a.descriptor ∷ s.held }
        else record s { opened = Some a.error })) { asked = suc s.asked })
        (if good then read a.descriptor l.used else (if signal then ends (Again l) else ends (Failed a.error))) Ends
    by_case true true i g = absurd (omega (arith, eqb-true a.error EINTR i, eqb-true a.error 0 g))
    by_case true false i g = over (record {
      stands = subst (Stands (record s { signals = suc s.signals; asked = suc s.asked })) (sym none) (record {
        opened = un.opened;
        held = un.held;
        reads = un.reads;
        sorted = un.sorted;
        few = omega (arith, few);
      });
      used = same;
    })
    by_case false true i g =
        read_goes (record s { opened = Some 0; held = a.descriptor ∷ s.held; asked = suc s.asked }) a.descriptor l.used
        (record {
          held = ap (λ xs. a.descriptor ∷ xs) un.held;
          more = subst AreMore (sym un.reads) tt;
          sorted = un.sorted;
          few = omega (arith, few, no_reads);
        }) same
    by_case false false i g = over (record {
      held = un.held;
      some = eqb-false a.error 0 g;
      why = inl (refl, un.reads);
      few = omega (arith, few);
    })

part_goes : (s : Seen) (l : Listing) → IsBetween s l → Goes watch 4 s (a_part l) Ends
unfolding a_part
part_goes s l between = by_case l.directory refl between.stands
  where
    by_case : (d : Option ℕ) → l.directory ≡ d → Stands s d → Goes watch 4 s (part_by l d) Ends
    by_case (Some directory) is now =
        weak 3 (omega arith) (read_goes s directory l.used now between.used) (λ t c done. done)
    by_case None is un = asks_then 3 Open un (opened_goes s l is un between.used)

-- ---- one part after another

abbrev HoldsFrom : ℕ → Type 0
HoldsFrom n = (s : Seen) (l : Listing) → IsBetween s l → Goes watch (4 * n) s (parts n l) Ends

behind : (n : ℕ) → HoldsFrom n → (t : Seen) (c : Came) → Ends t c → Goes watch (4 * n) t (go_on (parts n) c) Ends
behind n rest t (Again l) is = rest t l is
behind n rest t (Listed used) is = over is
behind n rest t (Failed error) is = over is

holds_from : (n : ℕ) → HoldsFrom n
holds_from zero s l between = over between
holds_from (suc n) s l between =
    weak (4 + 4 * n) (omega arith) (both 4 (4 * n) (part_goes s l between) (behind n (holds_from n)))
    (λ t c done. done)

pub listings-hold : ListingsHold
listings-hold n =
    (holds_from n nothing at_first (record {
      stands = record { opened = refl; held = refl; reads = refl; sorted = refl; few = refl };
      used = refl;
    })).each
