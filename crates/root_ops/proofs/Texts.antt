-- Past the reading of a path text, which has no fault then.
use Rattle.std.proofs.Common.{◌≡◌, List, ℕ, true, false, refl, sym, ap, subst, ◌∙◌}
use Rattle.std.specs.Prelude.{Option, Some, None, Result, Ok, Err, MatchOption, MatchResult}
use Rattle.path_text.specs.declared.errno.Errno.{Errno}
use Rattle.path_text.specs.declared.errno.Errno.TheVariants.{NoMemory}
use Rattle.path_text.specs.declared.path.Split.{Split}
use Rattle.path_text.specs.Reading.{Reading}
use Rattle.path_text.specs.Text.{text_fault, reading_of}
use Rattle.root_ops.specs.Order.{CallTurn, ends, fault, unless_fault, lacks}
use Rattle.root_ops.specs.TurnView.{Either}

-- what a text was read as, where it was read
abbrev pub IsRead : Option Errno → Reading → Reading → Type 0
IsRead why path reading = MatchOption why (path ≡ reading) (λ error. ◌≡◌ {A = Result Reading Errno} (Ok path) (Err error))

is_path : (why : Option Errno) (path reading : Reading) → IsRead why path reading → (why ≡ None) × (path ≡ reading)
is_path None path reading read = (refl, read)
is_path (Some error) path reading read = cc (read)

passed : (why : Option Errno) (begun without turn : CallTurn) → why ≡ None → Either begun without turn → Either (unless_fault why begun) without turn
passed None begun without turn e by = by
passed (Some error) begun without turn e by = cc (e)

lacking : (why : Option Errno) (begun without turn : CallTurn) → why ≡ None → Either begun without turn → Either (unless_fault why begun) (unless_fault why without) turn
lacking None begun without turn e by = by
lacking (Some error) begun without turn e by = cc (e)

-- the first text
pub first_read : (next : Reading → CallTurn) (text given : List ℕ) (path : Reading) (turn : CallTurn) → given ≡ text → IsRead (text_fault given) path (reading_of given)
    → Either (next path) (ends (fault NoMemory)) turn → Either (unless_fault (text_fault text) (next (reading_of text))) (lacks text) turn
first_read next text given path turn same read by =
    let is = is_path (text_fault text) path (reading_of text) (subst (λ (bytes : List ℕ). IsRead (text_fault bytes) path (reading_of bytes)) same read) in
    lacking (text_fault text) (next (reading_of text)) (ends (fault NoMemory)) turn is.0
    (subst (λ (p : Reading). Either (next p) (ends (fault NoMemory)) turn) is.1 by)

-- a further one
pub next_read : (next : Reading → CallTurn) (text given : List ℕ) (path : Reading) (turn : CallTurn) → given ≡ text → IsRead (text_fault given) path (reading_of given)
    → Either (next path) (ends (fault NoMemory)) turn → Either (unless_fault (text_fault text) (next (reading_of text))) (ends (fault NoMemory)) turn
next_read next text given path turn same read by =
    let is = is_path (text_fault text) path (reading_of text) (subst (λ (bytes : List ℕ). IsRead (text_fault bytes) path (reading_of bytes)) same read) in
    passed (text_fault text) (next (reading_of text)) (ends (fault NoMemory)) turn is.0
    (subst (λ (p : Reading). Either (next p) (ends (fault NoMemory)) turn) is.1 by)

-- what a path was split into, or why it wasn't
abbrev pub IsSplit : Result Split Errno → Result Split Errno → Type 0
IsSplit split result = MatchResult split (λ s. MatchResult result (λ parted. parted ≡ s) (λ error. error ≡ NoMemory)) (λ f. ◌≡◌ {A = Result Split Errno} result (Err f))

-- past a split
pub split_by : (next : Result Split Errno → CallTurn) (split : Result Split Errno) (parted : Split) (turn : CallTurn) → IsSplit split (Ok parted)
    → Either (next (Ok parted)) (ends (fault NoMemory)) turn → Either (next split) (ends (fault NoMemory)) turn
split_by next (Ok s) parted turn is by = subst (λ (x : Split). Either (next (Ok x)) (ends (fault NoMemory)) turn) is by
split_by next (Err f) parted turn is by = cc (is)

-- no split: the path has none, or there was no memory
pub unsplit_by : (next : Result Split Errno → CallTurn) (split : Result Split Errno) (error : Errno) (turn : CallTurn) → ((e : Errno) → next (Err e) ≡ ends (fault e)) → IsSplit split (Err error)
    → turn ≡ ends (fault error) → Either (next split) (ends (fault NoMemory)) turn
unsplit_by next (Ok s) error turn over is by = (false, by ∙ ap (λ (e : Errno). ends (fault e)) is)
unsplit_by next (Err f) error turn over is by = (true, by ∙ (sym (over error) ∙ ap next is))
