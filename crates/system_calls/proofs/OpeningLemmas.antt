-- What the flags are by which a call opens what it found, and makes what is missing.
use Rattle.std.proofs.Common.{◌≡◌, ◌==◌, ℕ, ◌+◌, Bool, true, false, not, ◌&&◌, ◌||◌, if◌then◌else◌, bit_and, bit_or, refl, sym, subst, ap, ◌∙◌}
use Rattle.std.specs.Int.Bits.{and_zero_r}
use Rattle.std.proofs.lemmas.Bool.{eq-eqb, false≢true}
use Rattle.std.proofs.lemmas.Nat.{and_assoc, and_or_apart, and_or_self}
use Rattle.system_calls.specs.Errors.{ENOTDIR, EISDIR}
use Rattle.system_calls.specs.declared.opening.MachineFlags.{MachineFlags}
use Rattle.system_calls.specs.declared.opening.Opening.{Opening}
use Rattle.system_calls.specs.declared.uses.TheConstants.{USE_GIVES, USE_MAKES, USE_REOPENS}
use Rattle.system_calls.specs.declared.uses.Use.{Use}
use Rattle.system_calls.specs.Uses.{does, fails, use_by, use_of, DIRECTORY}
use Rattle.system_calls.specs.OpenFlags.{has, o_tmpfile, IsOfMachine, on_x86_64, on_x86_64_large, on_arm64, on_arm64_large, O_CREAT, O_EXCL, O_PATH}
use Rattle.system_calls.specs.Opening.{contradict, done, found_flags, is_nameless, opening_of, opens, refused, use_flags, ALWAYS}

-- ---- what contradicts

refused_by : (machine : MachineFlags) (flags : ℕ) (among clash fits : Bool) → clash ≡ true
    → (if among && (not clash && fits) then done machine flags else refused) ≡ refused
refused_by machine flags true true fits h = refl
refused_by machine flags false true fits h = refl
refused_by machine flags among false fits h = elim (false≢true h) [ ]

pub contradiction-refused : (machine : MachineFlags) (flags mode : ℕ) → contradict machine flags ≡ true
    → opening_of machine flags mode ≡ refused
contradiction-refused machine flags mode h = refused_by machine flags _ (contradict machine flags) _ h

-- ---- what was found

abbrev kept : MachineFlags → ℕ
kept machine = bit_or (use_flags machine) (bit_or O_EXCL (o_tmpfile machine))

apart : (flags known others : ℕ) → bit_and ALWAYS others ≡ 0 → bit_and known others ≡ 0
    → bit_and (bit_or (bit_and flags known) ALWAYS) others ≡ 0
apart flags known others always none =
    and_or_apart others (bit_and flags known) ALWAYS always
    ∙ (and_assoc others flags known ∙ (ap (bit_and flags) none ∙ and_zero_r flags))

or_refused : (machine : MachineFlags) (flags others : ℕ) (taken : Bool) → bit_and (found_flags machine flags) others ≡ 0
    → bit_and (if taken then done machine flags else refused).found_flags others ≡ 0
or_refused machine flags others true h = h
or_refused machine flags others false h = refl

abbrev HasNone : MachineFlags → Type 0
HasNone machine =
    (bit_and (kept machine) O_CREAT ≡ 0) × (bit_and (kept machine) machine.nofollow ≡ 0) × (bit_and ALWAYS machine.nofollow ≡ 0)

has_none : (machine : MachineFlags) → IsOfMachine machine → HasNone machine
has_none machine (on_x86_64 e) = subst HasNone (sym e) (refl, refl, refl)
has_none machine (on_x86_64_large e) = subst HasNone (sym e) (refl, refl, refl)
has_none machine (on_arm64 e) = subst HasNone (sym e) (refl, refl, refl)
has_none machine (on_arm64_large e) = subst HasNone (sym e) (refl, refl, refl)

pub found-creates : (machine : MachineFlags) (flags mode : ℕ) → IsOfMachine machine
    → bit_and (opening_of machine flags mode).found_flags O_CREAT ≡ 0
found-creates machine flags mode of =
    or_refused machine flags O_CREAT (opens machine flags mode) (apart flags (kept machine) O_CREAT refl (has_none machine of).0)

pub found-follows : (machine : MachineFlags) (flags mode : ℕ) → IsOfMachine machine
    → bit_and (opening_of machine flags mode).found_flags machine.nofollow ≡ 0
found-follows machine flags mode of =
    or_refused machine flags machine.nofollow (opens machine flags mode)
    (apart flags (kept machine) machine.nofollow (has_none machine of).2 (has_none machine of).1)

-- ---- what is made

made_in : (machine : MachineFlags) (flags : ℕ) (taken : Bool)
    → (if taken then done machine flags else refused).makes ≡ true
    → has (if taken then done machine flags else refused).made_flags (bit_or (O_CREAT + O_EXCL + ALWAYS) machine.nofollow) ≡ true
made_in machine flags true h = eq-eqb _ _ (and_or_self (bit_or (O_CREAT + O_EXCL + ALWAYS) machine.nofollow) flags)
made_in machine flags false h = elim (false≢true h) [ ]

pub made-new : (machine : MachineFlags) (flags mode : ℕ) → (opening_of machine flags mode).makes ≡ true
    → has (opening_of machine flags mode).made_flags (bit_or (O_CREAT + O_EXCL + ALWAYS) machine.nofollow) ≡ true
made-new machine flags mode h = made_in machine flags (opens machine flags mode) h

-- ---- what is done with what was found

abbrev pub same_uses : Opening → Type 0
same_uses opening = (kind other : ℕ) → use_of opening kind ≡ use_of opening other

abbrev by_kind : MachineFlags → ℕ → ℕ → ℕ → Bool → Use
by_kind machine flags dir none is_dir =
    let error = if is_dir then dir else none in
    if not (error == 0) then fails error
    else (if has flags O_PATH then does USE_GIVES 0
    else (if is_nameless machine flags then does USE_MAKES (found_flags machine flags)
    else does USE_REOPENS (found_flags machine flags)))

same_by : (machine : MachineFlags) (flags : ℕ) (creates directory path : Bool) → (creates || directory) ≡ false
    → (a b : Bool) → by_kind machine flags (if creates then EISDIR else 0) (if path && directory then ENOTDIR else 0) a
    ≡ by_kind machine flags (if creates then EISDIR else 0) (if path && directory then ENOTDIR else 0) b
same_by machine flags true directory path h a b = elim (false≢true (sym h)) [ ]
same_by machine flags false true path h a b = elim (false≢true (sym h)) [ ]
same_by machine flags false false true h true true = refl
same_by machine flags false false true h true false = refl
same_by machine flags false false true h false true = refl
same_by machine flags false false true h false false = refl
same_by machine flags false false false h true true = refl
same_by machine flags false false false h true false = refl
same_by machine flags false false false h false true = refl
same_by machine flags false false false h false false = refl

kind_in : (machine : MachineFlags) (flags : ℕ) (taken : Bool)
    → (if taken then done machine flags else refused).asks_kind ≡ false
    → same_uses (if taken then done machine flags else refused)
kind_in machine flags true h = λ kind other.
    same_by machine flags (has flags O_CREAT) (has flags machine.directory) (has flags O_PATH) h
    (kind == DIRECTORY) (other == DIRECTORY)
kind_in machine flags false h = λ kind other. none (kind == DIRECTORY) (other == DIRECTORY)
  where
    none : (a b : Bool) → (if not ((if a then 0 else 0) == 0) then fails (if a then 0 else 0) else does USE_REOPENS 0)
        ≡ (if not ((if b then 0 else 0) == 0) then fails (if b then 0 else 0) else does USE_REOPENS 0)
    none true true = refl
    none true false = refl
    none false true = refl
    none false false = refl

pub kind-asked : (machine : MachineFlags) (flags mode : ℕ) → (opening_of machine flags mode).asks_kind ≡ false
    → same_uses (opening_of machine flags mode)
kind-asked machine flags mode h = kind_in machine flags (opens machine flags mode) h

used_so : (machine : MachineFlags) (flags : ℕ) (creates directory path is_dir : Bool)
    → (if not ((if is_dir then (if creates then EISDIR else 0) else (if path && directory then ENOTDIR else 0)) == 0)
    then fails (if is_dir then (if creates then EISDIR else 0) else (if path && directory then ENOTDIR else 0))
    else (if path then does USE_GIVES 0
    else (if is_nameless machine flags then does USE_MAKES (found_flags machine flags)
    else does USE_REOPENS (found_flags machine flags))))
    ≡ (if creates && is_dir then fails EISDIR
    else (if path then (if directory && not is_dir then fails ENOTDIR else does USE_GIVES 0)
    else (if is_nameless machine flags then does USE_MAKES (found_flags machine flags)
    else does USE_REOPENS (found_flags machine flags))))
used_so machine flags true true true true = refl
used_so machine flags true true true false = refl
used_so machine flags true true false true = refl
used_so machine flags true true false false = refl
used_so machine flags true false true true = refl
used_so machine flags true false true false = refl
used_so machine flags true false false true = refl
used_so machine flags true false false false = refl
used_so machine flags false true true true = refl
used_so machine flags false true true false = refl
used_so machine flags false true false true = refl
used_so machine flags false true false false = refl
used_so machine flags false false true true = refl
used_so machine flags false false true false = refl
used_so machine flags false false false true = refl
used_so machine flags false false false false = refl

pub found-used : (machine : MachineFlags) (flags mode kind : ℕ) → opens machine flags mode ≡ true
    → use_of (opening_of machine flags mode) kind ≡ use_by machine flags kind
found-used machine flags mode kind taken =
    ap (λ t. use_of (if t then done machine flags else refused) kind) taken
    ∙ used_so machine flags (has flags O_CREAT) (has flags machine.directory) (has flags O_PATH) (kind == DIRECTORY)
