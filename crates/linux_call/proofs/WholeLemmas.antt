-- A call on paths comes as far as the dialogue that it is.
use Rattle.std.proofs.Common.{◌≡◌, Bool, true, false, ℕ, List, [], ◌∷◌, ◌++◌, refl, sym, ap, subst, ◌∙◌, inl, inr}
use Rattle.std.specs.Prelude.{if◌then◌else◌, ◌||◌}
use Rattle.dialogue.specs.Dialogue.{and_then, going}
use Rattle.dialogue.specs.declared.calls.Answer.{Answer}
use Rattle.dialogue.proofs.TalkLemmas.{ran_ends, ran_then}
use Rattle.find_proc.specs.declared.asks.Known.{Known}
use Rattle.kernel_calls.specs.Calls.{EndsNext, change_entry, ended, rename}
use Rattle.kernel_calls.specs.Entry.{EntryAt, IsDivision}
use Rattle.kernel_calls.specs.Path.{At}
use Rattle.kernel_calls.specs.declared.change.Wanted.{Wanted}
use Rattle.kernel_calls.specs.declared.look.Outcome.TheVariants.{Value}
use Rattle.linux_call.specs.Whole.{Besides, CallDialogue, IsByKernel, changed_by, changes, is_change, opens, plainly, renamed_by, renames, step_of, takes_slash, wanted_of}
use Rattle.linux_call.specs.declared.request.Request.{Request}

next_plainly : (s : CallDialogue) (xs : List Answer) (fds : List ℕ) → EndsNext s xs fds
    → EndsNext (and_then s plainly) xs fds
unfolding EndsNext
next_plainly s xs fds next = λ a ok.
    let end = next a ok in (
      end.0,
      ran_then s plainly (xs ++ a ∷ []) ∙ ap (λ r. going r plainly) end.1
          ∙ ran_ends (ended end.0 fds (Value 0)) [],
    )

pub next_changed : (r : Request) (k : Known) (at : At) (n : EntryAt) (b : Besides) (is_last : Bool) (xs : List Answer)
    (fds : List ℕ) (w : Wanted) (step : ℕ) (read : List ℕ) → w ≡ wanted_of r → step ≡ step_of r.what
    → read ≡ (if r.gives || r.linked then b.read else [])
    → EndsNext (change_entry k at n w step b.target read is_last) xs fds
    → EndsNext (changed_by r k at n b is_last) xs fds
next_changed r k at n b is_last xs fds w step read is_w is_step is_read next =
    let Next : Wanted → ℕ → List ℕ → Type 0 = λ v s t. EndsNext (change_entry k at n v s b.target t is_last) xs fds in
    let read_is : List ℕ = if r.gives || r.linked then b.read else [] in
    let one : Next w step read_is = subst (Next w step) is_read next in
    let two : Next w (step_of r.what) read_is = subst (λ s. Next w s read_is) is_step one in
    let three : Next (wanted_of r) (step_of r.what) read_is = subst (λ v. Next v (step_of r.what) read_is) is_w two in
    next_plainly (change_entry k at n (wanted_of r) (step_of r.what) b.target read_is is_last) xs fds three

pub next_renamed : (r : Request) (k : Known) (at : At) (n m : EntryAt) (b : Besides) (is_last : Bool)
    (xs : List Answer) (fds : List ℕ) (other : At) (w : Wanted) → w ≡ wanted_of r
    → other ≡ record at { slashed = b.second; looked = false }
    → EndsNext (rename k at n other m w is_last) xs fds → EndsNext (renamed_by r k at n b m is_last) xs fds
next_renamed r k at n m b is_last xs fds other w is_w is_other next =
    let Next : At → Wanted → Type 0 = λ x v. EndsNext (rename k at n x m v is_last) xs fds in
    let there : At = record at { slashed = b.second; looked = false } in
    let one : Next there w = subst (λ x. Next x w) is_other next in
    let two : Next there (wanted_of r) = subst (Next there) is_w one in
    next_plainly (rename k at n there m (wanted_of r) is_last) xs fds two

-- ---- which dialogue a request is

pub rename_case : (r : Request) (k : Known) (at : At) (b : Besides) (is_last : Bool) (s : CallDialogue) → r.what ≡ 9
    → IsByKernel r k at b is_last s
    → (n : EntryAt) × (m : EntryAt) × IsDivision at.slashed false n × IsDivision b.second false m
    × (s ≡ renamed_by r k at n b m is_last)
rename_case r k at b is_last _ what (opens one) =
    elim one [ inl e ↦ absurd (cc (sym what ∙ e)) | inr e ↦ absurd (cc (sym what ∙ e)) ]
rename_case r k at b is_last _ what (changes n is on) = absurd (cc (sym (ap is_change what) ∙ is))
rename_case r k at b is_last _ what (renames n m is on other) = (n, m, on, other, refl)

pub change_case : (r : Request) (k : Known) (at : At) (b : Besides) (is_last : Bool) (s : CallDialogue)
    → is_change r.what ≡ true → IsByKernel r k at b is_last s
    → (n : EntryAt) × IsDivision at.slashed (takes_slash r.what) n × (s ≡ changed_by r k at n b is_last)
change_case r k at b is_last _ what (opens one) =
    elim one [ inl e ↦ absurd (cc (sym (ap is_change e) ∙ what)) | inr e ↦ absurd (cc (sym (ap is_change e) ∙ what)) ]
change_case r k at b is_last _ what (changes n is on) = (n, on, refl)
change_case r k at b is_last _ what (renames n m is on other) = absurd (cc (sym (ap is_change is) ∙ what))
