-- What a call leaves behind it that gives an object another name.
use Rattle.std.proofs.Common.{◌≡◌, ◌≢◌, inl, inr, ℕ, List, [], ◌∷◌, ◌++◌, Bool, true, false, not, ◌&&◌, ◌||◌, if◌then◌else◌, Result, Ok, Err, refl, sym, ap, subst, ◌∙◌}
use Rattle.std.specs.Prelude.{◌==◌, Some, None}
use Rattle.std.proofs.lemmas.Bool.{false≢true}
use Rattle.system_calls.specs.Errors.{EBADF, ENOSYS, ENOTDIR}
use Rattle.dialogue.specs.Dialogue.{SystemCall, and_then, asks_open, closes, ends, links}
use Rattle.dialogue.specs.declared.calls.Answer.{Answer}
use Rattle.dialogue.proofs.HeldLemmas.{first_in, same}
use Rattle.dialogue.proofs.HoldLemmas.{Goes, asks_then, both, choose, over}
use Rattle.find_proc.specs.declared.asks.Kept.{Kept}
use Rattle.find_proc.specs.declared.asks.Known.{Known}
use Rattle.find_proc.specs.declared.asks.Proc.{Proc}
use Rattle.give_entry.specs.Seen.{held_first}
use Rattle.give_entry.specs.declared.giving.Made.TheVariants.{Name, Entry}
use Rattle.kernel_calls.specs.Change.{given, is_made, make, make_by, make_change, make_told, mode_of}
use Rattle.kernel_calls.specs.InProc.{Tried, act_by, act_twice, by_proc, closing, done_in, done_told, failed_in, linking, lost_told, tried_in, tried_told, twice_by, why_told, with_proc}
use Rattle.kernel_calls.specs.Look.{Came, came_to}
use Rattle.kernel_calls.specs.Promises.{IsFailing, LinksHold, for_entry}
use Rattle.kernel_calls.specs.Seen.{IsAt, IsProc, IsProgram, IsUnmade, May, Seen, Wish, changed, fds, gets, shut, watch}
use Rattle.kernel_calls.proofs.ChangeLemmas.{Done, Plain, change_of, gave_reply, gives_it, gives_yes, made_alone, more_at, plain}
use Rattle.kernel_calls.proofs.EntryLemmas.{entry_goes}
use Rattle.kernel_calls.proofs.GiveLemmas.{IsTold}
use Rattle.kernel_calls.proofs.ProcLemmas.{FoundBy, Linking, OneBy, errs, finds, lost}

-- ---- linkat(2)

abbrev TriedBy : Answer → Result ℕ ℕ → Bool → Type 0
TriedBy made (Ok value) lost = (made.error ≡ 0) × (lost ≡ false)
TriedBy made (Err error) lost = (error ≢ 0) × (made.error ≢ 0)

record TriedSo (s t : Seen) (r : Tried) : Type 0 where
  made : Answer
  is : t ≡ changed s made
  by : TriedBy made r.0 r.1

done_so : (w : Wish) (s t : Seen) (proc dir : ℕ) (name : List ℕ) (r : Result ℕ ℕ) → Plain s t r
    → Goes (watch w) 0 t (done_told (linking dir name) proc w.how.fd r) (Plain s)
done_so w s t proc dir name (Ok value) p = over p
done_so w s t proc dir name (Err error) p = over p

done : (w : Wish) (s : Seen) (proc dir : ℕ) (name : List ℕ) → May w s (links proc w.how.fd dir name)
    → Goes (watch w) 1 s (done_in proc w.how.fd (linking dir name)) (Plain s)
unfolding done_in
done w s proc dir name may =
    both 1 0 (plain w s (links proc w.how.fd dir name) may (λ a. refl))
    (λ t r p. done_so w s t proc dir name r p)

failed : (w : Wish) (s : Seen) (k : Known) (proc error : ℕ) (made : Answer) → Linking w (changed s made) k
    → IsProc w s proc → error ≢ 0 → made.error ≢ 0
    → Goes (watch w) 8 (changed s made) (failed_in k proc w.how.fd error) (TriedSo s)
unfolding failed_in
failed w s k proc error made h is some bad =
    both 4 4 (errs w (changed s made) k proc error h is some)
    (λ t why e. subst (λ u. Goes (watch w) 4 u (why_told k proc why) (TriedSo s)) (sym e.0)
    (choose ((why == ENOSYS) || (why == ENOTDIR))
    (λ _. both 4 0 (lost w (changed s made) k proc h)
    (λ u gone same. over (record { made = made; is = same; by = (e.1, bad) })))
    (λ _. over (record { made = made; is = refl; by = (e.1, bad) }))))

tried_so : (w : Wish) (s t : Seen) (k : Known) (proc : ℕ) (r : Result ℕ ℕ) → Linking w s k → IsProc w s proc
    → Plain s t r → Goes (watch w) 8 t (tried_told k proc w.how.fd r) (TriedSo s)
tried_so w s t k proc (Ok value) h is p = over (record { made = p.made; is = p.is; by = (p.gave, refl) })
tried_so w s t k proc (Err error) h is p =
    let bad = subst (λ e. e ≢ 0) p.gave.0 p.gave.1 in
    subst (λ u. Goes (watch w) 8 u (failed_in k proc w.how.fd error) (TriedSo s)) (sym p.is)
    (failed w s k proc error p.made (record { linked = h.linked; unmade = bad; program = h.program }) is p.gave.1 bad)

-- the entry's directory is the one, and no look-up has failed
record Ready (w : Wish) (s : Seen) (dir : ℕ) (name : List ℕ) : Type 0 where
  found : s.why ≡ 0
  at : IsAt w.look s.held w.place dir name

tries : (w : Wish) (s : Seen) (k : Known) (proc dir : ℕ) (name : List ℕ) → Linking w s k → Ready w s dir name
    → IsProc w s proc → Goes (watch w) 9 s (tried_in k proc w.how.fd (linking dir name)) (TriedSo s)
unfolding tried_in
tries w s k proc dir name h ready is =
    both 1 8
    (done w s proc dir name
    (record {
      linked = h.linked;
      unmade = h.unmade;
      found = ready.found;
      object = refl;
      proc_is = is;
      at = ready.at;
    }))
    (λ t r p. tried_so w s t k proc r h is p)

-- ---- by one /proc

abbrev ActedBy : Seen → Seen → Result ℕ ℕ → Bool → Type 0
ActedBy s t (Ok value) lost = (lost ≡ false) × (made : Answer) × (t.change ≡ Some made) × (made.error ≡ 0)
ActedBy s t (Err error) lost = (error ≢ 0) × IsUnmade t.change × (lost ≡ true → t.why ≡ s.why)

-- no descriptor is left open, and the program's /proc may be asked again
record Acted (w : Wish) (s t : Seen) (c : Came Tried) : Type 0 where
  held : t.held ≡ s.held
  program : c.known.kept.there ≡ true → IsProgram w t c.known.kept.fd
  by : ActedBy s t c.value.0 c.value.1

acted : (s t : Seen) (made : Answer) (r : Result ℕ ℕ) (gone : Bool) → t.change ≡ Some made → t.why ≡ s.why
    → TriedBy made r gone → ActedBy s t r gone
acted s t made (Ok value) gone is why by = (by.1, made, is, by.0)
acted s t made (Err error) gone is why by = (by.0, subst IsUnmade (sym is) by.1, λ _. why)

-- the program's stays open
stays : (w : Wish) (s u : Seen) (k : Known) (fd dir : ℕ) (name : List ℕ) → u.held ≡ s.held → u.why ≡ s.why
    → Linking w u k → Ready w u dir name → IsProc w u fd
    → Goes (watch w) 10 u (with_proc k w.how.fd (linking dir name) (Ok (record { fd = fd; own = false }))) (Acted w s)
stays w s u k fd dir name held why h ready is =
    both 9 1 (tries w u k fd dir name h ready is)
    (λ t r e. subst
    (λ v. Goes (watch w) 1 v (closing k (record { fd = fd; own = false }) r) (Acted w s)) (sym e.is)
    (over
    (record { held = held; program = h.program; by = acted s (changed u e.made) e.made r.0 r.1 refl why e.by })))

closes_own : (w : Wish) (s : Seen) (k : Known) (q : SystemCall) (fd : ℕ) (made : Answer) (r : Tried)
    → (k.kept.there ≡ true → IsProgram w s k.kept.fd) → TriedBy made r.0 r.1
    → Goes (watch w) 1 (changed (gets s q fd) made) (closing k (record { fd = fd; own = true }) r) (Acted w s)
closes_own w s k q fd made r program by =
    asks_then 0 (closes fd) (first_in fd (fds s.held))
    (λ a. over
    (record {
      held = rw (same fd) refl;
      program = program;
      by = acted s (record (changed (gets s q fd) made) { held = shut fd (record { fd = fd; by = q } ∷ s.held) }) made
          r.0 r.1 refl refl by;
    }))

with_one : (w : Wish) (s t : Seen) (k : Known) (kept : Kept) (fd : ℕ) (own : Bool) (dir : ℕ) (name : List ℕ)
    → Linking w s k → Ready w s dir name → OneBy k s t kept fd own
    → Goes (watch w) 10 t
    (with_proc (record k { kept = kept }) w.how.fd (linking dir name) (Ok (record { fd = fd; own = own }))) (Acted w s)
with_one w s t k kept fd true dir name h ready o =
    let q = o.0 in
    let u = gets s q fd in
    let now = record k { kept = kept } in
    let program = subst (λ (x : Kept). x.there ≡ true → IsProgram w s x.fd) (sym o.3) h.program in
    subst
    (λ v. Goes (watch w) 10 v (with_proc now w.how.fd (linking dir name) (Ok (record { fd = fd; own = true })))
    (Acted w s)) (sym o.2)
    (both 9 1
    (tries w u now fd dir name (record { linked = h.linked; unmade = h.unmade; program = program })
    (record { found = ready.found; at = more_at w s.held (record { fd = fd; by = q }) dir name ready.at })
    (inr (record { by = q; is = o.1; open_now = inl refl })))
    (λ v r e. subst
    (λ x. Goes (watch w) 1 x (closing now (record { fd = fd; own = true }) r) (Acted w s)) (sym e.is)
    (closes_own w s now q fd e.made r program e.by)))
with_one w s t k kept fd false dir name h ready (inl o) =
    let now = record k { kept = kept } in
    let program = subst (λ (x : Kept). x.there ≡ true → IsProgram w s x.fd) (sym o.3) h.program in
    subst
    (λ v. Goes (watch w) 10 v (with_proc now w.how.fd (linking dir name) (Ok (record { fd = fd; own = false })))
    (Acted w s)) (sym o.0)
    (stays w s s now fd dir name refl refl (record { linked = h.linked; unmade = h.unmade; program = program }) ready
    (inl (subst (IsProgram w s) (sym o.1) (h.program o.2))))
with_one w s t k kept fd false dir name h ready (inr o) =
    let now = record k { kept = kept } in
    let u = record s { program = Some fd } in
    subst
    (λ v. Goes (watch w) 10 v (with_proc now w.how.fd (linking dir name) (Ok (record { fd = fd; own = false })))
    (Acted w s)) (sym o.0)
    (stays w s u now fd dir name refl refl
    (record { linked = h.linked; unmade = h.unmade; program = λ _. inr (ap Some (sym o.1)) })
    (record { found = ready.found; at = ready.at }) (inl (inr refl)))

with_found : (w : Wish) (s t : Seen) (k : Known) (kept : Kept) (r : Result Proc ℕ) (dir : ℕ) (name : List ℕ)
    → Linking w s k → Ready w s dir name → FoundBy k s t kept r
    → Goes (watch w) 10 t (with_proc (record k { kept = kept }) w.how.fd (linking dir name) r) (Acted w s)
with_found w s t k kept (Ok proc) dir name h ready is = with_one w s t k kept proc.fd proc.own dir name h ready is
with_found w s t k kept (Err error) dir name h ready is =
    let program = subst (λ (x : Kept). x.there ≡ true → IsProgram w s x.fd) (sym is.2) h.program in
    subst
    (λ v. Goes (watch w) 10 v (ends (came_to (record k { kept = kept }) (Err error, false))) (Acted w s)) (sym is.0)
    (over
    (record { held = refl; program = program; by = (is.1, h.unmade, λ gone. absurd (false≢true gone)) }))

acts : (w : Wish) (s : Seen) (k : Known) (dir : ℕ) (name : List ℕ) (surely : Bool) → Linking w s k
    → Ready w s dir name
    → Goes (watch w) 21 s (act_by k w.how.fd (linking dir name) surely) (Acted w s)
unfolding act_by
acts w s k dir name surely h ready =
    both 11 10 (finds w s k surely h) (λ t f is. with_found w s t k f.kept f.proc dir name h ready is)

-- ---- once more

abbrev LinkedBy : Seen → Result ℕ ℕ → Type 0
LinkedBy t (Ok value) = (made : Answer) × (t.change ≡ Some made) × (made.error ≡ 0)
LinkedBy t (Err error) = (error ≢ 0) × IsUnmade t.change

record Linked (s t : Seen) (c : Came (Result ℕ ℕ)) : Type 0 where
  held : t.held ≡ s.held
  by : LinkedBy t c.value

linked_so : (s t : Seen) (r : Result ℕ ℕ) (gone : Bool) → ActedBy s t r gone → LinkedBy t r
linked_so s t (Ok value) gone h = (h.1, h.2, h.3)
linked_so s t (Err error) gone h = (h.0, h.1)

again : (w : Wish) (s t : Seen) (now : Known) (r : Result ℕ ℕ) (gone : Bool) (dir : ℕ) (name : List ℕ)
    → w.how.linked ≡ true → Ready w s dir name → Acted w s t (came_to now (r, gone))
    → Goes (watch w) 21 t (lost_told w.how.fd (linking dir name) (came_to now (r, gone))) (Linked s)
again w s t now r false dir name linked ready h =
    over (record { held = h.held; by = linked_so s t r false h.by })
again w s t now (Ok value) true dir name linked ready h = absurd (false≢true (sym h.by.0))
again w s t now (Err error) true dir name linked ready h =
    let at = subst (λ hs. IsAt w.look hs w.place dir name) (sym h.held) ready.at in
    both 21 0
    (acts w t now dir name true (record { linked = linked; unmade = h.by.1; program = h.program })
    (record { found = h.by.2 refl ∙ ready.found; at = at }))
    (λ u c g. over (record { held = g.held ∙ h.held; by = linked_so t u c.value.0 c.value.1 g.by }))

open_so : (s t : Seen) (k : Known) (b : Bool) → t.held ≡ s.held → IsUnmade t.change
    → Linked s t (if b then came_to k (Err EBADF) else came_to k (Err ENOSYS))
open_so s t k true held unmade = record { held = held; by = ((λ zero. absurd cc), unmade) }
open_so s t k false held unmade = record { held = held; by = ((λ zero. absurd cc), unmade) }

ends_proc : (w : Wish) (s t : Seen) (now : Known) (r : Result ℕ ℕ) → w.how.linked ≡ true → t.held ≡ s.held
    → LinkedBy t r → Goes (watch w) 1 t (twice_by w.how.fd now r) (Linked s)
ends_proc w s t now (Ok value) linked held by = over (record { held = held; by = by })
ends_proc w s t now (Err error) linked held by =
    choose (error == ENOSYS)
    (λ _. asks_then 0 (asks_open w.how.fd) (linked, refl)
    (λ a. over (open_so s t now (not (a.error == 0)) held by.1)))
    (λ _. over (record { held = held; by = by }))

by_link : (w : Wish) (s : Seen) (k : Known) (dir : ℕ) (name : List ℕ) → Linking w s k → Ready w s dir name
    → Goes (watch w) 43 s (by_proc k w.how.fd (linking dir name)) (Linked s)
unfolding by_proc act_twice
by_link w s k dir name h ready =
    both 42 1
    (both 21 21 (acts w s k dir name false h ready)
    (λ t c a. again w s t c.known c.value.0 c.value.1 dir name h.linked ready a))
    (λ t c l. ends_proc w s t c.known c.value h.linked l.held l.by)

-- ---- the change, and what is given

unhanded : (g m o : Bool) → not g ≡ true → o ≡ false → (g || (m && o)) ≡ false
unhanded true m o is closed = absurd (false≢true is)
unhanded false true o is closed = closed
unhanded false false o is closed = refl

unopened : (m l x : Bool) → l ≡ true → (m && (not l && x)) ≡ false
unopened true true x is = refl
unopened true false x is = absurd (false≢true is)
unopened false l x is = refl

given_link : (w : Wish) (s t : Seen) (k : Known) (made : Answer) (dir : ℕ) (name : List ℕ) (other : ℕ)
    (text read : List ℕ)
    → w.how.linked ≡ true → w.how.opens ≡ false → Ready w s dir name → t.held ≡ s.held → t.change ≡ Some made
    → made.error ≡ 0
    → Goes (watch w) 6 t (given k w.how (change_of w dir name other text) None read) (Done w (fds s.held))
unfolding given
given_link w s t k made dir name other text read linked closed ready held is none =
    choose (not w.how.gives)
    (λ ungiven. let hands = unhanded w.how.gives (w.step == 9) w.how.opens ungiven closed in
    over
    (record {
      held = ap fds held ∙ sym (ap (λ b. (if b then 0 ∷ [] else []) ++ fds s.held) hands);
      replies = (made, is, none, λ _. refl);
    }))
    (λ gives. let opens_now = gives_yes w.how.gives gives in
    let at = subst (λ hs. IsAt w.look hs w.place dir name) (sym held) ready.at in
    let by = λ (l : Bool). if l then Name w.how.fd else Entry (mode_of w.how w.step) w.how.device in
    both 6 0
    (gives_it w t k (fds s.held) made dir name other text read None is
    (record { gives = opens_now; done = none; at = at })
    (subst (λ l. IsTold w (by l) (fds t.held)) (sym linked) (linked, refl))
    (ap fds held ∙ ap (λ l. held_first (by l) ++ fds s.held) (sym linked)))
    (λ u c l. over (gave_reply w (fds s.held) t u made c.known c.value opens_now is none l)))

link_told : (w : Wish) (s t : Seen) (k : Known) (dir : ℕ) (name : List ℕ) (other : ℕ) (text read : List ℕ)
    (r : Result ℕ ℕ)
    → w.how.linked ≡ true → w.how.opens ≡ false → Ready w s dir name → t.held ≡ s.held → LinkedBy t r
    → Goes (watch w) 6 t (make_by w.how (change_of w dir name other text) read k r) (Done w (fds s.held))
link_told w s t k dir name other text read (Ok value) linked closed ready held by =
    subst (λ b. Goes (watch w) 6 t
    (given k w.how (change_of w dir name other text) (if b then Some value else None) read) (Done w (fds s.held)))
    (sym (unopened (w.step == 9) w.how.linked _ linked))
    (given_link w s t k by.0 dir name other text read linked closed ready held by.1 by.2)
link_told w s t k dir name other text read (Err error) linked closed ready held by =
    over (record {
      held = ap fds held;
      replies = subst (λ l. IsFailing l w t.change error w.step) (sym linked) (by.0, inl (refl, by.1));
    })

makes_link : (w : Wish) (s : Seen) (k : Known) (dir : ℕ) (name : List ℕ) (other : ℕ) (text read : List ℕ)
    → w.how.opens ≡ false → is_made w.step ≡ true → Linking w s k → Ready w s dir name
    → Goes (watch w) 49 s (make_change k w.how (change_of w dir name other text) read) (Done w (fds s.held))
unfolding make_change make
makes_link w s k dir name other text read closed made h ready =
    subst (λ b. Goes (watch w) 49 s
    (and_then (if b then by_proc k w.how.fd (linking dir name)
    else made_alone k w (change_of w dir name other text)) (make_told w.how (change_of w dir name other text) read))
    (Done w (fds s.held))) (sym (ap (λ l. l && is_made w.step) h.linked ∙ made))
    (both 43 6 (by_link w s k dir name h ready)
    (λ t c l. link_told w s t c.known dir name other text read c.value h.linked closed ready l.held l.by))

pub links-hold : LinksHold
links-hold k p how step text read is_last linked closed made =
    let w = for_entry k p how step text in
    (entry_goes 49 k p how step text read is_last
    (λ t now same_known dir h. makes_link w t now dir.fd p.entry.name 0 text read closed made
    (record {
      linked = linked;
      unmade = subst IsUnmade (sym h.change) tt;
      program = subst (λ (x : Kept). x.there ≡ true → IsProgram w t x.fd) (sym (ap (λ (x : Known). x.kept) same_known))
          (λ there. inl (there, refl));
    })
    (record { found = h.why; at = record { there = h.is; named = refl } }))).each
