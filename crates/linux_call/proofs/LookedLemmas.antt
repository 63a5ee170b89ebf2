-- A path that was looked at before, and what was read, change no dialogue of a plain call.
use Rattle.std.proofs.Common.{◌≡◌, ◌==◌, ◌&&◌, ◌||◌, not, Bool, true, false, ℕ, List, [], refl, sym, ap, subst, ◌∙◌, inl, inr}
use Rattle.std.specs.Prelude.{◌⊎◌, ◌+◌, if◌then◌else◌, bit_or, drop, take, Option, Some, None, Err}
use Rattle.path_text.specs.Text.{begins_with_slash}
use Rattle.system_calls.specs.OpenFlags.{O_PATH}
use Rattle.dialogue.specs.Dialogue.{and_then, ends}
use Rattle.find_proc.specs.declared.asks.Known.{Known}
use Rattle.kernel_calls.specs.Calls.{change_at, change_entry, ended, from_told, is_plain, rename, resolve, resolve_told}
use Rattle.kernel_calls.specs.Entry.{EntryAt, IsDivision, directory_told, find_directory}
use Rattle.kernel_calls.specs.Flags.{BENEATH, has}
use Rattle.kernel_calls.specs.Look.{came_to, is_missing, look_up, may_walk, walk}
use Rattle.kernel_calls.specs.Path.{At, text_in}
use Rattle.kernel_calls.specs.declared.look.Outcome.TheVariants.{Steps}
use Rattle.linux_call.specs.Turns.{IsLooked, IsPlain, IsWhole, ends_behind, texts_beside, whole_at}
use Rattle.linux_call.specs.Whole.{Besides, CallDialogue, IsByKernel, at_in, besides, changed_by, changes, inner, is_change, making, makes, opened_by, opened_plainly, opening, opens, plainly, renamed_by, renames, step_of, takes_slash, wanted_of}
use Rattle.linux_call.specs.declared.path.Texts.{Texts}
use Rattle.linux_call.specs.declared.request.Request.{Request}

-- ---- a path

abbrev at_with : ℕ → ℕ → List ℕ → Bool → At
at_with root flags slashed looked = record { root = root; flags = flags; slashed = slashed; looked = looked }

walk_looked : (k : Known) (root flags : ℕ) (slashed : List ℕ) (how mode : ℕ)
    → may_walk (at_with root flags slashed false) ≡ true
    → walk k (at_with root flags slashed true) how mode ≡ walk k (at_with root flags slashed false) how mode
unfolding walk look_up is_missing
walk_looked k root flags slashed how mode may = rw (may) refl

find_looked : (k : Known) (root flags : ℕ) (slashed : List ℕ) (above : Option (List ℕ))
    → ((path : List ℕ) → above ≡ Some path → may_walk (at_with root flags path false) ≡ true)
    → find_directory k (at_with root flags slashed true) above
    ≡ find_directory k (at_with root flags slashed false) above
unfolding find_directory
find_looked k root flags slashed None may = refl
find_looked k root flags slashed (Some path) may =
    ap (λ w. if has flags BENEATH && begins_with_slash (text_in slashed) then ends (came_to k (Err Steps))
    else and_then w directory_told)
    (walk_looked k root flags path (bit_or O_PATH k.machine.directory) 0 (may path refl))

opened_looked : (r : Request) (k : Known) (root flags : ℕ) (slashed : List ℕ)
    → may_walk (at_with root flags slashed false) ≡ true
    → opened_by r k (at_with root flags slashed true) ≡ opened_by r k (at_with root flags slashed false)
unfolding resolve
opened_looked r k root flags slashed may =
    ap (λ w. and_then (and_then w (resolve_told r.asks_kind)) opened_plainly) (walk_looked k root flags slashed _ 0 may)

changed_looked : (r : Request) (k : Known) (root flags : ℕ) (slashed : List ℕ) (n : EntryAt) (b : Besides)
    (is_last : Bool)
    → ((path : List ℕ) → n.above ≡ Some path → may_walk (at_with root flags path false) ≡ true)
    → changed_by r k (at_with root flags slashed true) n b is_last
    ≡ changed_by r k (at_with root flags slashed false) n b is_last
unfolding change_entry
changed_looked r k root flags slashed n b is_last may =
    let read : List ℕ = if r.gives || r.linked then b.read else [] in
    ap (λ f. and_then (and_then (is_plain k r.gives (step_of r.what) b.target)
    (λ is. if not is then ends (ended k [] Steps)
    else and_then f (change_at n (wanted_of r) (step_of r.what) b.target read is_last))) plainly)
    (find_looked k root flags slashed n.above may)

renamed_looked : (r : Request) (k : Known) (root flags : ℕ) (slashed : List ℕ) (n m : EntryAt) (b : Besides)
    (is_last : Bool)
    → ((path : List ℕ) → n.above ≡ Some path → may_walk (at_with root flags path false) ≡ true)
    → renamed_by r k (at_with root flags slashed true) n b m is_last
    ≡ renamed_by r k (at_with root flags slashed false) n b m is_last
unfolding rename
renamed_looked r k root flags slashed n m b is_last may =
    ap (λ f. and_then
    (and_then f (from_told (wanted_of r) n.name (at_with root flags b.second false) m is_last)) plainly)
    (find_looked k root flags slashed n.above may)

either : (r : Request) → (r.what ≡ 1) ⊎ (r.what ≡ 2) → is_change r.what || (r.what == 9) ≡ false
either r (inl e) = ap (λ w. is_change w || (w == 9)) e
either r (inr e) = ap (λ w. is_change w || (w == 9)) e

as_looked : (r : Request) (k : Known) (root flags : ℕ) (slashed : List ℕ) (b : Besides) (is_last : Bool)
    (s : CallDialogue) → IsLooked r (at_with root flags slashed false)
    → IsByKernel r k (at_with root flags slashed false) b is_last s
    → IsByKernel r k (at_with root flags slashed true) b is_last s
as_looked r k root flags slashed b is_last _ looked (opens one) =
    subst (IsByKernel r k (at_with root flags slashed true) b is_last)
    (opened_looked r k root flags slashed (looked.whole (either r one))) (opens one)
as_looked r k root flags slashed b is_last _ looked (changes n is on) =
    let what = ap (λ c. c || (r.what == 9)) is in
    subst (IsByKernel r k (at_with root flags slashed true) b is_last)
    (changed_looked r k root flags slashed n b is_last (λ path e. looked.entry what n path on e)) (changes n is on)
as_looked r k root flags slashed b is_last _ looked (renames n m is on other) =
    let what = ap (λ w. is_change w || (w == 9)) is in
    let here = subst (λ t. IsDivision slashed t n) (sym (ap takes_slash is)) on in
    subst (IsByKernel r k (at_with root flags slashed true) b is_last)
    (renamed_looked r k root flags slashed n m b is_last (λ path e. looked.entry what n path here e))
    (renames n m is on other)

-- ---- what was read

as_read : (r : Request) (k : Known) (at : At) (second read : List ℕ) (is_last : Bool) (s : CallDialogue)
    → r.gives ≡ false → r.linked ≡ false → IsByKernel r k at (texts_beside second []) is_last s
    → IsByKernel r k at (texts_beside second read) is_last s
as_read r k at second read is_last _ gives linked (opens one) = opens one
as_read r k at second read is_last _ gives linked (changes n is on) =
    let none : (if r.gives || r.linked then read else []) ≡ [] = rw (gives, linked) refl in
    let still : (if r.gives || r.linked then [] else []) ≡ [] = rw (gives, linked) refl in
    subst (IsByKernel r k at (texts_beside second read) is_last)
    (ap (λ t. and_then (change_entry k at n (wanted_of r) (step_of r.what) (drop 1 second) t is_last) plainly)
    (none ∙ sym still)) (changes n is on)
as_read r k at second read is_last _ gives linked (renames n m is on other) = renames n m is on other

-- ---- the call as the code has it

looked_or : (b : Bool) (r : Request) (k : Known) (root flags : ℕ) (slashed : List ℕ) (t : Besides) (is_last : Bool)
    (s : CallDialogue) → (b ≡ true → IsLooked r (at_with root flags slashed false))
    → IsByKernel r k (at_with root flags slashed false) t is_last s
    → IsByKernel r k (at_with root flags slashed b) t is_last s
looked_or true r k root flags slashed t is_last s looked is =
    as_looked r k root flags slashed t is_last s (looked refl) is
looked_or false r k root flags slashed t is_last s looked is = is

inner_root : (r : Request) → (inner r).root ≡ r.root
inner_root r = by_case (r.what == 1) (makes r.what)
  where
    by_case : (one other : Bool) → (if one then opening r else (if other then making r else r)).root ≡ r.root
    by_case true other = refl
    by_case false true = refl
    by_case false false = refl

-- by the texts that the code has
pub as_code : (r : Request) (first second read : List ℕ) (looked : Bool) (s : CallDialogue) (k : Known) (is_last : Bool)
    (texts : Texts) → k ≡ r.known → is_last ≡ ends_behind r.what
    → texts.first.slashed.now ≡ take (1 + r.length) first → besides texts ≡ texts_beside second read
    → texts.looked ≡ looked → IsPlain r → (looked ≡ true → IsLooked (inner r) (whole_at r first false))
    → IsWhole r first second s → IsByKernel (inner r) k (at_in (inner r) texts) (besides texts) is_last s
as_code r first second read looked s k is_last texts is_k is_end is_path is_beside is_looked plain may is =
    let i = inner r in
    let read_is = as_read i r.known (whole_at r first false) second read (ends_behind r.what) s plain.bare.2
    plain.bare.0 is in
    let here = looked_or looked i r.known r.root i.flags (take (1 + r.length) first)
    (texts_beside second read) (ends_behind r.what) s may read_is in
    let one : IsByKernel i k (at_with r.root i.flags (take (1 + r.length) first) looked) (texts_beside second read)
    (ends_behind r.what) s = subst (λ x. IsByKernel i x (at_with r.root i.flags (take (1 + r.length) first) looked)
    (texts_beside second read) (ends_behind r.what) s) (sym is_k) here in
    let two : IsByKernel i k (at_with r.root i.flags (take (1 + r.length) first) looked) (texts_beside second read)
    is_last s = subst (λ x. IsByKernel i k (at_with r.root i.flags (take (1 + r.length) first) looked)
    (texts_beside second read) x s) (sym is_end) one in
    let three : IsByKernel i k (at_with r.root i.flags texts.first.slashed.now looked) (texts_beside second read)
    is_last s = subst (λ x. IsByKernel i k (at_with r.root i.flags x looked) (texts_beside second read) is_last s)
    (sym is_path) two in
    let four : IsByKernel i k (at_with r.root i.flags texts.first.slashed.now texts.looked) (texts_beside second read)
    is_last s = subst (λ x. IsByKernel i k (at_with r.root i.flags texts.first.slashed.now x)
    (texts_beside second read) is_last s) (sym is_looked) three in
    let five : IsByKernel i k (at_with i.root i.flags texts.first.slashed.now texts.looked) (texts_beside second read)
    is_last s = subst (λ x. IsByKernel i k (at_with x i.flags texts.first.slashed.now texts.looked)
    (texts_beside second read) is_last s) (sym (inner_root r)) four in
    subst (λ x. IsByKernel i k (at_in i texts) x is_last s) (sym is_beside) five
