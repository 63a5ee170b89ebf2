-- The turns of a whole call.
use Rattle.std.proofs.Common.{◌≡◌, ◌==◌, ◌&&◌, ◌||◌, not, Bool, true, false, ℕ, List, [], ◌∷◌, drop, refl, sym, ap, subst, ◌∙◌, inl, inr, arith}
use Rattle.std.proofs.lemmas.Bool.Decides.{nat_tests}
use Rattle.std.specs.Prelude.{if◌then◌else◌, bit_or, ◌+◌, take, Option, Some, None, MatchOption, Result, Ok, Err}
use Rattle.path_text.specs.Text.{begins_with_slash}
use Rattle.system_calls.specs.Errors.{EINTR}
use Rattle.system_calls.specs.OpenFlags.{O_PATH}
use Rattle.dialogue.specs.Dialogue.{Dialogue, SystemCall, and_then, asking, asks, came, due, ends, going, is_look, ran}
use Rattle.dialogue.specs.declared.calls.Answer.{Answer}
use Rattle.dialogue.proofs.TalkLemmas.{ran_then}
use Rattle.find_proc.specs.declared.asks.Known.{Known}
use Rattle.kernel_calls.specs.Calls.{change_at, change_entry, ended, is_plain, plain_told, rename, resolve, resolve_told, from_told}
use Rattle.kernel_calls.specs.Entry.{EntryAt, IsDivision, directory_told, find_directory}
use Rattle.kernel_calls.specs.Flags.{BENEATH, MAKE_LINK, bit, has, resolve_of}
use Rattle.kernel_calls.specs.Look.{Came, came_to, forget, look_up, looks_up, may_walk, opened, opened_told, walk, walk_told}
use Rattle.kernel_calls.specs.Path.{At, text_in}
use Rattle.kernel_calls.specs.declared.look.Outcome.TheVariants.{Value}
use Rattle.kernel_calls.proofs.FrontLemmas.{one_division}
use Rattle.linux_call.specs.Turns.{IsAsked, IsFirst, IsLinkText, IsLooked, IsPlain, IsWhole, OpensNext, ends_behind, path_flags, texts_beside}
use Rattle.linux_call.specs.Whole.{Besides, CallDialogue, IsByKernel, changed_by, changes, inner, is_change, makes, making, opened_by, opening, opens, removes, renames, takes_slash, opened_plainly, plainly, renamed_by, step_of, wanted_of}
use Rattle.linux_call.specs.declared.due.Due.{Due}
use Rattle.linux_call.specs.declared.request.Request.{Request}

-- ---- the first question

due_then : {E F : Type 0} → (s : Dialogue E) (f : E → Dialogue F) (xs : List Answer) (q : SystemCall)
    → ran s xs ≡ due q → ran (and_then s f) xs ≡ due q
due_then s f xs q h = ran_then s f xs ∙ ap (λ r. going r f) h

came_then : {E F : Type 0} → (s : Dialogue E) (f : E → Dialogue F) (xs l : List Answer) (e : E)
    → ran s xs ≡ came e l → ran (and_then s f) xs ≡ ran (f e) l
came_then s f xs l e h = ran_then s f xs ∙ ap (λ r. going r f) h

may_by : {E : Type 0} → (e : E) (s : Dialogue E) (q : SystemCall) (b : Bool)
    → ran (if not b then ends e else s) [] ≡ due q → b ≡ true
unfolding ran
may_by e s q true h = refl
may_by e s q false h = absurd cc

pub walked_by : (k : Known) (at : At) (how mode : ℕ) (q : SystemCall) → at.looked ≡ false
    → ran (look_up k at how mode) [] ≡ due q → may_walk at ≡ true
unfolding look_up
walked_by k at how mode q fresh h =
    let looks : Dialogue (Came (Result ℕ ℕ)) = opened k (looks_up at how mode (resolve_of at.flags)) in
    may_by (came_to k (Err 0)) looks q (may_walk at)
    (ap (λ b. ran (if not b && not (may_walk at) then ends (came_to k (Err 0)) else looks) []) (sym fresh) ∙ h)

pub walk_due : (k : Known) (at : At) (how mode : ℕ) (q : SystemCall) → ran (look_up k at how mode) [] ≡ due q
    → ran (walk k at how mode) [] ≡ due q
unfolding walk
walk_due k at how mode q h = due_then (look_up k at how mode) (walk_told at) [] q h

abbrev look_of : Request → Known → ℕ
look_of r k =
    bit_or (bit_or O_PATH (bit (not (r.what == 1)) k.machine.nofollow)) (bit r.directory k.machine.directory)

opened_due : (r : Request) (k : Known) (at : At) (q : SystemCall)
    → ran (look_up k at (look_of r k) 0) [] ≡ due q
    → ran (opened_by r k at) [] ≡ due q
unfolding resolve
opened_due r k at q h =
    due_then (resolve k at (r.what == 1) r.directory r.asks_kind) opened_plainly [] q
    (due_then (walk k at _ 0) (resolve_told r.asks_kind) [] q (walk_due k at _ 0 q h))

directory_due : (k : Known) (at : At) (above : List ℕ) (q : SystemCall)
    → has at.flags BENEATH && begins_with_slash (text_in at.slashed) ≡ false
    → ran (look_up k (record at { slashed = above }) (bit_or O_PATH k.machine.directory) 0) [] ≡ due q
    → ran (find_directory k at (Some above)) [] ≡ due q
unfolding find_directory
directory_due k at above q inside h =
    rw (inside) (due_then (walk k (record at { slashed = above }) (bit_or O_PATH k.machine.directory) 0) directory_told
    [] q (walk_due k (record at { slashed = above }) _ 0 q h))

plain_is : (k : Known) (gives : Bool) (step : ℕ) (text : List ℕ) (makes_link : Bool) → (step == MAKE_LINK) ≡ makes_link
    → gives ≡ false → (makes_link ≡ true → IsLinkText text) → ran (is_plain k gives step text) [] ≡ came true []
unfolding ran is_plain
plain_is k gives step text true e g link = rw (e, (link refl).0, (link refl).1, g)
plain_is k gives step text false e g link = rw (e, g)

pub changed_due : (r : Request) (k : Known) (at : At) (n : EntryAt) (b : Besides) (is_last : Bool) (above : List ℕ)
    (q : SystemCall) → r.gives ≡ false → ((step_of r.what == MAKE_LINK) ≡ true → IsLinkText b.target)
    → n.above ≡ Some above → has at.flags BENEATH && begins_with_slash (text_in at.slashed) ≡ false
    → ran (look_up k (record at { slashed = above }) (bit_or O_PATH k.machine.directory) 0) [] ≡ due q
    → ran (changed_by r k at n b is_last) [] ≡ due q
unfolding change_entry
changed_due r k at n b is_last above q g link is inside h =
    let read : List ℕ = if r.gives || r.linked then b.read else [] in
    let w = wanted_of r in
    let step = step_of r.what in
    let find = subst (λ a. ran (find_directory k at a) [] ≡ due q) (sym is) (directory_due k at above q inside h) in
    let plain = plain_is k r.gives step b.target (step == MAKE_LINK) refl g link in
    due_then (change_entry k at n w step b.target read is_last) plainly [] q
    (came_then (is_plain k w.gives step b.target) (plain_told k at n w step b.target read is_last) [] [] true plain
    ∙ due_then (find_directory k at n.above) (change_at n w step b.target read is_last) [] q find)

pub renamed_due : (r : Request) (k : Known) (at : At) (n m : EntryAt) (b : Besides) (is_last : Bool) (above : List ℕ)
    (q : SystemCall) → n.above ≡ Some above
    → has at.flags BENEATH && begins_with_slash (text_in at.slashed) ≡ false
    → ran (look_up k (record at { slashed = above }) (bit_or O_PATH k.machine.directory) 0) [] ≡ due q
    → ran (renamed_by r k at n b m is_last) [] ≡ due q
unfolding rename
renamed_due r k at n m b is_last above q is inside h =
    let other : At = record at { slashed = b.second; looked = false } in
    let find = subst (λ a. ran (find_directory k at a) [] ≡ due q) (sym is) (directory_due k at above q inside h) in
    due_then (rename k at n other m (wanted_of r) is_last) plainly [] q
    (due_then (find_directory k at n.above) (from_told (wanted_of r) n.name other m is_last) [] q find)

-- ---- the reply at once

and_false : (b : Bool) → (b && false) ≡ false
and_false true = refl
and_false false = refl

opened_good : (k : Known) (q : SystemCall) (a : Answer) → a.error ≡ 0
    → ran (opened k q) (a ∷ []) ≡ came (came_to k (Ok a.value)) []
unfolding ran opened and_then asking
opened_good k q a ok =
    let after : Answer → Dialogue (Came (Result ℕ ℕ)) = opened_told k in
    let not_again : (is_look q && (a.error == EINTR)) ≡ false =
    ap (λ n. is_look q && (n == EINTR)) ok ∙ and_false (is_look q) in
    ap (λ b. ran (if b then asks q after else after a) []) not_again
    ∙ ap (λ n. ran (if n == 0 then ends (came_to k (Ok a.value))
    else and_then (forget k n) (λ now. ends (came_to now (Err n)))) []) ok

looked_good : (r : Request) (k : Known) (at : At) → may_walk at ≡ true → r.asks_kind ≡ false → (a : Answer)
    → a.error ≡ 0 → ran (opened_by r k at) (a ∷ []) ≡ came (ended k [] (Value a.value)) []
unfolding ran resolve walk look_up
looked_good r k at may no_kind a ok =
    let how = look_of r k in
    let q = looks_up at how 0 (resolve_of at.flags) in
    let up : ran (look_up k at how 0) (a ∷ []) ≡ came (came_to k (Ok a.value)) [] =
    rw (may, and_false (not at.looked)) (opened_good k q a ok) in
    came_then (resolve k at (r.what == 1) r.directory r.asks_kind) opened_plainly (a ∷ []) []
    (came_to k (Value a.value))
    (came_then (walk k at how 0) (resolve_told r.asks_kind) (a ∷ []) [] (came_to k (Ok a.value))
    (came_then (look_up k at how 0) (walk_told at) (a ∷ []) [] (came_to k (Ok a.value)) up) ∙ rw (no_kind))

pub opens_next : (r : Request) (k : Known) (at : At) → may_walk at ≡ true → r.asks_kind ≡ false
    → OpensNext (opened_by r k at)
unfolding OpensNext
opens_next r k at may no_kind = λ a ok. (k, looked_good r k at may no_kind a ok)

-- ---- the first turn

open_case : (r : Request) (k : Known) (at : At) (b : Besides) (is_last : Bool) (s : CallDialogue)
    → is_change r.what || (r.what == 9) ≡ false → IsByKernel r k at b is_last s → s ≡ opened_by r k at
open_case r k at b is_last _ what (opens one) = refl
open_case r k at b is_last _ what (changes n is on) =
    absurd (cc (sym (ap (λ c. c || (r.what == 9)) is) ∙ what))
open_case r k at b is_last _ what (renames n m is on other) =
    absurd (cc (sym (ap (λ w. is_change w || (w == 9)) is) ∙ what))

is_no_change : (follows : Bool)
    → is_change (if follows then 1 else 2) || ((if follows then 1 else 2) == 9) ≡ false
is_no_change true = refl
is_no_change false = refl

look_same : (nofollow : Bool) (bits : ℕ) → bit (not ((if not nofollow then 1 else 2) == 1)) bits ≡ bit nofollow bits
look_same true bits = refl
look_same false bits = refl

inner_open : (r : Request) → r.what ≡ 1 → inner r ≡ opening r
inner_open r e = ap (λ n. if n == 1 then opening r else (if makes n then making r else r)) e

abbrev pub at_by : Request → Request → List ℕ → At
at_by r inside first =
    record { root = r.root; flags = inside.flags; slashed = take (1 + r.length) first; looked = false }

pub first_open : (r : Request) (first second : List ℕ) (s : CallDialogue) (d : Due) (room : List ℕ) → r.what ≡ 1
    → IsWhole r first second s → IsAsked (look_up r.known (at_by r (opening r) first) (path_flags r) 0) d room
    → IsFirst r first s d room
first_open r first second s d room what is asked =
    let i = opening r in
    let e = inner_open r what in
    let at = at_by r i first in
    let here : IsByKernel i r.known at (texts_beside second []) (ends_behind r.what) s =
    subst (λ x. IsByKernel x r.known (at_by r x first) (texts_beside second []) (ends_behind r.what) s) e is in
    let same = open_case i r.known at (texts_beside second []) (ends_behind r.what) s
    (is_no_change (not (has r.flags 4))) here in
    let q = asked.0 in
    let how = look_same (has r.flags 4) r.known.machine.nofollow in
    let looked : ran (look_up r.known at (look_of i r.known) 0) [] ≡ due q =
    ap (λ n. ran (look_up r.known at (bit_or (bit_or O_PATH n) (bit r.directory r.known.machine.directory)) 0) []) how
    ∙ asked.1 in
    let may = walked_by r.known at (path_flags r) 0 q refl asked.1 in
    record {
      asked = (q, ap (λ x. ran x []) same ∙ opened_due i r.known at q looked, asked.2, asked.3);
      looked =
          subst (λ x. IsLooked x (at_by r x first)) (sym e)
          (record { whole = λ w. may; entry = λ w. absurd (cc (sym (is_no_change (not (has r.flags 4))) ∙ w)) });
      opens = λ w no_kind. subst OpensNext (sym same) (opens_next i r.known at may no_kind);
    }

-- what `change_first` finds
pub record Found (r : Request) (flags : ℕ) (slashed second : List ℕ) (d : Due) (room : List ℕ) : Type 0 where
  pub n : EntryAt
  pub above : List ℕ
  pub division : IsDivision slashed (takes_slash r.what) n
  pub is : n.above ≡ Some above
  pub inside : has flags BENEATH && begins_with_slash (text_in slashed) ≡ false
  pub link : r.what ≡ 6 → IsLinkText (drop 1 second)
  pub asked :
      IsAsked (look_up r.known (record { root = r.root; flags = flags; slashed = above; looked = false })
      (bit_or O_PATH r.known.machine.directory) 0) d room

may_above : (r : Request) (first : List ℕ) (flags : ℕ) (above path : List ℕ) (q : SystemCall)
    → ran (look_up r.known (record { root = r.root; flags = flags; slashed = above; looked = false })
    (bit_or O_PATH r.known.machine.directory) 0) [] ≡ due q → ◌≡◌ {A = Option (List ℕ)} (Some above) (Some path)
    → may_walk (record { root = r.root; flags = flags; slashed = path; looked = false }) ≡ true
may_above r first flags above path q h e =
    let same : above ≡ path = cc (e) in
    ap (λ p. may_walk (record { root = r.root; flags = flags; slashed = p; looked = false })) (sym same)
    ∙ walked_by r.known (record { root = r.root; flags = flags; slashed = above; looked = false })
    (bit_or O_PATH r.known.machine.directory) 0 q refl h

pub first_change : (r : Request) (first second : List ℕ) (s : CallDialogue) (d : Due) (room : List ℕ)
    → is_change (inner r).what || ((inner r).what == 9) ≡ true → takes_slash (inner r).what ≡ takes_slash r.what
    → ((step_of (inner r).what == MAKE_LINK) ≡ true → r.what ≡ 6) → (r.what ≡ 1 → ⊥) → (inner r).gives ≡ false
    → IsWhole r first second s → Found r (inner r).flags (take (1 + r.length) first) second d room
    → IsFirst r first s d room
first_change r first second s d room what takes link not_open gives is f =
    let i = inner r in
    let at = at_by r i first in
    let q = f.asked.0 in
    let division : IsDivision at.slashed (takes_slash i.what) f.n =
    subst (λ t. IsDivision at.slashed t f.n) (sym takes) f.division in
    record {
      asked = (q, dues s is division, f.asked.2, f.asked.3);
      looked =
          record {
            whole = λ w. absurd (cc (sym w ∙ what));
            entry = λ w m path on above.
                may_above r first i.flags f.above path q f.asked.1
                (sym f.is ∙ ap (λ x. x.above) (one_division _ _ f.n m division on) ∙ above);
          };
      opens = λ w no_kind. absurd (not_open w);
    }
  where
    dues : (s : CallDialogue) → IsWhole r first second s
        → IsDivision (take (1 + r.length) first) (takes_slash (inner r).what) f.n → ran s [] ≡ due f.asked.0
    dues _ (opens one) division =
        elim one [
          | inl e ↦ absurd (cc (sym (ap (λ w. is_change w || (w == 9)) e) ∙ what))
          | inr e ↦ absurd (cc (sym (ap (λ w. is_change w || (w == 9)) e) ∙ what))
        ]
    dues _ (changes m change on) division =
        changed_due (inner r) r.known (at_by r (inner r) first) m (texts_beside second []) (ends_behind r.what) f.above
        f.asked.0 gives (λ w. f.link (link w))
        (ap (λ x. x.above) (one_division _ _ m f.n on division) ∙ f.is) f.inside f.asked.1
    dues _ (renames m other nine on also) division =
        renamed_due (inner r) r.known (at_by r (inner r) first) m other (texts_beside second []) (ends_behind r.what)
        f.above f.asked.0
        (ap (λ x. x.above) (one_division _ _ m f.n on (subst (λ t. IsDivision (take (1 + r.length) first) t f.n)
        (ap takes_slash nine) division)) ∙ f.is) f.inside f.asked.1

pub mapped : {X : Type 0} {f g : X → Type 0} → (o : Option X) → ((x : X) → f x → g x) → MatchOption o (Unit {0}) f
    → MatchOption o (Unit {0}) g
mapped None go m = tt
mapped (Some x) go m = go x m

not_one : (w : ℕ) → (w ≡ 1 → ⊥) → (w == 1) ≡ false
not_one w h = grind (arith, nat_tests)

pub inner_made : (r : Request) → (r.what ≡ 1 → ⊥) → makes r.what ≡ true → inner r ≡ making r
inner_made r h m =
    ap (λ b. if b then opening r else (if makes r.what then making r else r)) (not_one r.what h)
    ∙ ap (λ b. if b then making r else r) m

pub inner_removed : (r : Request) → (r.what ≡ 1 → ⊥) → makes r.what ≡ false → inner r ≡ r
inner_removed r h m =
    ap (λ b. if b then opening r else (if makes r.what then making r else r)) (not_one r.what h)
    ∙ ap (λ b. if b then making r else r) m

abbrev made : ℕ → ℕ
made w = if w == 19 then 4 else w

made_is : (w : ℕ) → makes w ≡ true → is_change (made w) || (made w == 9) ≡ true
made_is w h = grind (arith, nat_tests)

made_slash : (w : ℕ) → takes_slash (made w) ≡ takes_slash w
made_slash w = grind (arith, nat_tests)

made_link : (w : ℕ) → (step_of (made w) == MAKE_LINK) ≡ true → w ≡ 6
made_link w h = grind (arith, nat_tests)

removed_is : (w : ℕ) → removes w ≡ true → is_change w || (w == 9) ≡ true
removed_is w h = grind (arith, nat_tests)

link_is : (w : ℕ) → (step_of w == MAKE_LINK) ≡ true → w ≡ 6
link_is w h = grind (arith, nat_tests)

pub first_make : (r : Request) (first second : List ℕ) (s : CallDialogue) (d : Due) (room : List ℕ)
    → (r.what ≡ 1 → ⊥) → makes r.what ≡ true → IsPlain r → IsWhole r first second s
    → Found r (making r).flags (take (1 + r.length) first) second d room → IsFirst r first s d room
first_make r first second s d room not_open m plain is f =
    let e = inner_made r not_open m in
    first_change r first second s d room
    (ap (λ (i : Request). is_change i.what || (i.what == 9)) e ∙ made_is r.what m)
    (ap (λ (i : Request). takes_slash i.what) e ∙ made_slash r.what)
    (λ w. made_link r.what (ap (λ (i : Request). step_of i.what == MAKE_LINK) (sym e) ∙ w)) not_open plain.bare.2 is
    (subst (λ (i : Request). Found r i.flags (take (1 + r.length) first) second d room) (sym e) f)

pub first_remove : (r : Request) (first second : List ℕ) (s : CallDialogue) (d : Due) (room : List ℕ)
    → (r.what ≡ 1 → ⊥) → makes r.what ≡ false → removes r.what ≡ true → IsPlain r → IsWhole r first second s
    → Found r r.flags (take (1 + r.length) first) second d room → IsFirst r first s d room
first_remove r first second s d room not_open m removed plain is f =
    let e = inner_removed r not_open m in
    first_change r first second s d room
    (ap (λ (i : Request). is_change i.what || (i.what == 9)) e ∙ removed_is r.what removed)
    (ap (λ (i : Request). takes_slash i.what) e)
    (λ w. link_is r.what (ap (λ (i : Request). step_of i.what == MAKE_LINK) (sym e) ∙ w)) not_open plain.bare.2 is
    (subst (λ (i : Request). Found r i.flags (take (1 + r.length) first) second d room) (sym e) f)
