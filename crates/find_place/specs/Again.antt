-- How often a place is asked for.
use Rattle.std.specs.Prelude.{ℕ, ◌==◌, Bool, ◌&&◌, if◌then◌else◌, nat_le, nat_lt}
use Rattle.system_calls.specs.Errors.{EAGAIN, EXDEV, ERANGE}
use Rattle.find_place.specs.declared.again.NextQuestion.{NextQuestion}

-- so often at most
abbrev pub MOST : ℕ
MOST = 8

abbrev pub is_again : ℕ → ℕ → Bool
is_again asked error = (error == EAGAIN) && nat_lt asked MOST

-- The names and a NUL have no room (getcwd(2)). What nobody finds in so many questions is outside.
abbrev pub error_after : ℕ → ℕ → ℕ → ℕ → ℕ
error_after asked error length size =
    if is_again asked error then 0
    else (if error == EAGAIN then EXDEV else (if (error == 0) && nat_le size length then ERANGE else error))

abbrev pub next_question : ℕ → ℕ → ℕ → ℕ → NextQuestion
next_question asked error length size =
    record { error = error_after asked error length size; again = is_again asked error }
