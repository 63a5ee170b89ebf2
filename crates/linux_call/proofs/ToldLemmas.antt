-- What a part of a call has come to, as a turn tells it.
use Rattle.std.proofs.Common.{◌≡◌, Bor, not, Bool, true, false, ℕ, List, [], ◌∷◌, ◌++◌, zero, suc, refl, sym, ap, subst, ◌∙◌, arith}
use Rattle.std.specs.Prelude.{◌+◌, if◌then◌else◌, Result, Ok, Err, take}
use Rattle.dialogue.specs.Dialogue.{Ran, asked_of, came, due, ran}
use Rattle.dialogue.specs.declared.calls.Answer.{Answer}
use Rattle.dialogue.specs.declared.calls.Question.{Question}
use Rattle.dialogue.specs.declared.calls.Question.TheVariants.{BySteps}
use Rattle.kernel_calls.specs.Calls.{EndsNext, Ended}
use Rattle.kernel_calls.specs.Entry.{closed_by}
use Rattle.kernel_calls.specs.declared.look.Outcome.{Outcome}
use Rattle.kernel_calls.specs.declared.look.Outcome.TheVariants.{Value, Fails, FailsAt, Steps}
use Rattle.linux_call.specs.Due.{HasTexts, IsAskedBy}
use Rattle.linux_call.specs.Turns.{IsEnd, IsKept, IsLooked, OpensNext, Stands, Tells, Turned, closes_in, is_by_steps, is_told, next_count, told, whole_at}
use Rattle.linux_call.specs.Whole.{CallDialogue, Follows, FollowsPart, as_part, inner, is_open, outcome_of}
use Rattle.linux_call.specs.declared.due.Due.{Due}
use Rattle.linux_call.specs.declared.kept.State.{State}
use Rattle.linux_call.specs.declared.make_all.Gave.{Gave}
use Rattle.linux_call.specs.declared.request.Reply.{Reply}
use Rattle.linux_call.specs.declared.request.Request.{Request}

abbrev PartOf : Type 0
PartOf = Result (Result Reply Gave) Question

err_part : (x : Result Reply Question) (q : Question) → ◌≡◌ {A = PartOf} (Err q) (as_part x) → x ≡ Err q
err_part (Ok reply) q e = absurd (cc (e))
err_part (Err p) q e = cc (e)

ok_part : (x : Result Reply Question) (reply : Reply) → ◌≡◌ {A = PartOf} (Ok (Ok reply)) (as_part x) → x ≡ Ok reply
ok_part (Ok other) reply e = cc (e)
ok_part (Err q) reply e = absurd (cc (e))

gave_part : (x : Result Reply Question) (gave : Gave) → ◌≡◌ {A = PartOf} (Ok (Err gave)) (as_part x) → ⊥
gave_part (Ok other) gave e = cc (e)
gave_part (Err q) gave e = cc (e)

not_open : (b : Bool) → not b ≡ true → b ≡ false
not_open true h = cc (h)
not_open false h = refl

asked_told : (r : Request) (first : List ℕ) (s : CallDialogue) (R : Ran Ended) (closes : List ℕ) (q : Question)
    (st : State) (answers : List Answer) (d : Due) (room : List ℕ) → is_told R ≡ true → Follows R closes (Err q)
    → IsAskedBy (asked_of q) d → HasTexts (asked_of q) room → Stands r first s st answers
    → Tells r first s R st answers d room
asked_told r first s (due p) closes q st answers d room told f asked texts stands =
    (subst (λ x. IsAskedBy x d) f asked, subst (λ x. HasTexts x room) f texts, stands)
asked_told r first s (came e left) closes q st answers d room told f asked texts stands =
    absurd (f (not_open (is_open e.outcome) told))

ended_told : (r : Request) (first : List ℕ) (s : CallDialogue) (R : Ran Ended) (closes : List ℕ) (reply : Reply)
    (st : State) (answers : List Answer) (d : Due) (room : List ℕ) → is_told R ≡ true → Follows R closes (Ok reply)
    → IsEnd (outcome_of reply) d → closes_in d ≡ closes → Tells r first s R st answers d room
ended_told r first s (due p) closes reply st answers d room told f end closed = absurd f
ended_told r first s (came e left) closes reply st answers d room told f end closed =
    let is = f (not_open (is_open e.outcome) told) in
    (subst (λ x. IsEnd x d) is.0 end, closed ∙ is.1)

steps_told : (R : Ran Ended) (closes : List ℕ) (one other : Bor (List ℕ)) → is_told R ≡ true
    → Follows R closes (Err (BySteps one other)) → ⊥
steps_told (due p) closes one other told f =
    let none : not (is_by_steps p) ≡ false = ap (λ x. not (is_by_steps x)) (sym f) in cc (sym none ∙ told)
steps_told (came e left) closes one other told f = f (not_open (is_open e.outcome) told)

pub part_asked : (r : Request) (first : List ℕ) (s : CallDialogue) (R : Ran Ended) (closes : List ℕ) (q : Question)
    (st : State) (answers : List Answer) (d : Due) (room : List ℕ) → is_told R ≡ true
    → FollowsPart R closes (Err q) → IsAskedBy (asked_of q) d → HasTexts (asked_of q) room
    → Stands r first s st answers → Tells r first s R st answers d room
part_asked r first s R closes q st answers d room told f asked texts stands =
    asked_told r first s R closes q st answers d room told (subst (Follows R closes) (err_part f.0 q f.1) f.2) asked
    texts stands

pub part_ended : (r : Request) (first : List ℕ) (s : CallDialogue) (R : Ran Ended) (closes : List ℕ) (reply : Reply)
    (st : State) (answers : List Answer) (d : Due) (room : List ℕ) → is_told R ≡ true
    → FollowsPart R closes (Ok (Ok reply)) → IsEnd (outcome_of reply) d → closes_in d ≡ closes
    → Tells r first s R st answers d room
part_ended r first s R closes reply st answers d room told f end closed =
    ended_told r first s R closes reply st answers d room told (subst (Follows R closes) (ok_part f.0 reply f.1) f.2)
    end closed

pub part_gave : (R : Ran Ended) (closes : List ℕ) (gave : Gave) → FollowsPart R closes (Ok (Err gave)) → ⊥
part_gave R closes gave f = gave_part f.0 gave f.1

pub part_steps : (R : Ran Ended) (closes : List ℕ) (one other : Bor (List ℕ)) → is_told R ≡ true
    → FollowsPart R closes (Err (BySteps one other)) → ⊥
part_steps R closes one other told f =
    steps_told R closes one other told (subst (Follows R closes) (err_part f.0 (BySteps one other) f.1) f.2)

-- ---- what is kept

first_or_later : (count : ℕ) (X : Type 0) → (count ≡ 0 → X) → ((count ≡ 0 → ⊥) → X) → X
first_or_later zero X first later = first refl
first_or_later (suc n) X first later = later (λ z. cc (z))

pub kept : (r : Request) (first : List ℕ) (s : CallDialogue) (old new : State) (answers : List Answer)
    (changes : Bool) (closes : List ℕ) → new.count ≡ old.count → new.changes ≡ changes
    → closed_by new.closes ≡ closes → old.opens ≡ false
    → (old.looked ≡ true → IsLooked (inner r) (whole_at r first false))
    → (old.count ≡ 0 → (new.looked ≡ false) × (new.opens ≡ false))
    → ((old.count ≡ 0 → ⊥) → (new.looked ≡ old.looked) × (new.opens ≡ old.opens))
    → (changes ≡ true → EndsNext s (take old.count answers) closes) → Stands r first s new answers
kept r first s old new answers changes closes count is_changes is_closes not_opens looked at_first later next =
    record {
      looked = λ h.
          first_or_later old.count (IsLooked (inner r) (whole_at r first false))
          (λ z. absurd (cc (sym (at_first z).0 ∙ h))) (λ z. looked (sym (later z).0 ∙ h));
      opens = λ h.
          absurd (first_or_later old.count ⊥ (λ z. cc (sym (at_first z).1 ∙ h))
          (λ z. cc (sym ((later z).1 ∙ not_opens) ∙ h)));
      changes = λ h.
          subst (λ n. EndsNext s (take n answers) (closed_by new.closes)) (sym count)
          (subst (EndsNext s (take old.count answers)) (sym is_closes) (next (sym is_changes ∙ h)));
    }

-- ---- a turn

end_at : (o : Outcome) (d : Due) (n : ℕ) → IsEnd o d → IsEnd o (record d { at = n })
end_at (Value value) d n is = is
end_at (Fails error step) d n is = is
end_at (FailsAt error step) d n is = is
end_at Steps d n is = tt

pub turned : (r : Request) (first : List ℕ) (s : CallDialogue) (R : Ran Ended) (n : ℕ) (old st : State)
    (answers : List Answer) (d : Due) (room : List ℕ) → st ≡ record old { by_steps = false } → old.count ≡ n
    → old.begun ≡ true → Tells r first s R old answers d room
    → Turned r first s R n st answers (record d { at = n }) room
turned r first s (due q) n old st answers d room same count begun t =
    let new : State = record old { by_steps = false } in
    let stands : Stands r first s new answers =
    record { looked = t.2.looked; opens = t.2.opens; changes = t.2.changes } in
    let kept_is : IsKept new = record { alone = refl; fresh = λ z. absurd (cc (sym begun ∙ z)) } in (
      (d, t.0, refl),
      t.1,
      subst (λ x. Stands r first s x answers) (sym same) stands,
      subst IsKept (sym same) kept_is,
      ap (λ (x : State). x.begun) same ∙ begun,
      ap (λ (x : State). x.count) same ∙ count,
    )
turned r first s (came e left) n old st answers d room same count begun t = (end_at e.outcome d n t.0, t.1)

count_by : (begun : Bool) (count : ℕ) (X : Type 0) → (begun ≡ false → X) → (if begun then count + 1 else count) ≡ 0
    → X
count_by true count X at_first z = absurd (omega (arith, z))
count_by false count X at_first z = at_first refl

pub fresh_count : (st : State) → IsKept st → next_count st ≡ 0 → st.looked ≡ false
fresh_count st kept_is z = count_by st.begun st.count (st.looked ≡ false) (λ b. (kept_is.fresh b).1) z

-- ---- an answer that ends the call at once

begun_by : (b : Bool) → (b ≡ false → ⊥) → b ≡ true
begun_by true h = refl
begun_by false h = absurd (h refl)

told_next : (st : State) (answers : List Answer) → st.begun ≡ true → told st answers ≡ take (st.count + 1) answers
told_next st answers b = ap (λ x. take (if x then st.count + 1 else st.count) answers) b

no_closes : (d : Due) → d.closes ≡ 0 → closes_in d ≡ []
no_closes d h = ap (λ n. closed_by (record { first = d.first_closed; second = d.second_closed; count = n })) h

pub opened_turn : (r : Request) (first : List ℕ) (s : CallDialogue) (st st2 : State) (answers : List Answer)
    (a : Answer) (d : Due) (room : List ℕ) → IsKept st → Stands r first s st answers → st.opens ≡ true
    → take 1 answers ≡ a ∷ [] → a.error ≡ 0 → IsEnd (Value a.value) d → d.closes ≡ 0
    → Turned r first s (ran s (told st answers)) (next_count st) st2 answers d room
unfolding OpensNext
opened_turn r first s st st2 answers a d room kept_is stands opens one ok end closes =
    let begun = begun_by st.begun (λ b. cc (sym (kept_is.fresh b).2 ∙ opens)) in
    let o = stands.opens opens in
    let come = o.1 a ok in
    let first_is : told st answers ≡ a ∷ [] =
    told_next st answers begun ∙ ap (λ n. take (n + 1) answers) o.0 ∙ one in
    subst (λ R. Turned r first s R (next_count st) st2 answers d room)
    (sym (ap (λ xs. ran s xs) first_is ∙ come.1)) (end, no_closes d closes)

pub changed_turn : (r : Request) (first : List ℕ) (s : CallDialogue) (st st2 : State) (answers : List Answer)
    (a : Answer) (d : Due) (room : List ℕ) → IsKept st → Stands r first s st answers → st.changes ≡ true
    → take (st.count + 1) answers ≡ take st.count answers ++ a ∷ [] → a.error ≡ 0 → IsEnd (Value 0) d
    → closes_in d ≡ closed_by st.closes
    → Turned r first s (ran s (told st answers)) (next_count st) st2 answers d room
unfolding EndsNext
changed_turn r first s st st2 answers a d room kept_is stands changes next ok end closes =
    let begun = begun_by st.begun (λ b. cc (sym (kept_is.fresh b).3 ∙ changes)) in
    let come = stands.changes changes a ok in
    subst (λ R. Turned r first s R (next_count st) st2 answers d room)
    (sym (ap (λ xs. ran s xs) (told_next st answers begun ∙ next) ∙ come.1)) (end, closes)
