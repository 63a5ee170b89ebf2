-- Which paths one system call may walk as a whole, through links and `..`: openat2(2) with RESOLVE_IN_ROOT or
-- RESOLVE_BENEATH.
use Rattle.std.specs.Prelude.{ℕ, List, ◌&&◌, Bool, not, is_none}
use Rattle.std.specs.List.{list_all}
use Rattle.path_text.specs.declared.flags.Flags.{Flags}
use Rattle.path_text.specs.Text.{text_fault, between_slashes, begins_with_slash}
use Rattle.walk_plan.specs.Plan.{leads_out}
use Rattle.step_resolver.specs.Meaning.{is_too_long}

-- no part has more than 255 bytes
abbrev pub is_short : List ℕ → Bool
is_short piece = not (is_too_long piece)

-- The text is a path. It isn't refused for the slash at its beginning (RESOLVE_BENEATH), nor for the length of a name
-- of its own.
abbrev pub follows_at_once : Flags → List ℕ → Bool
follows_at_once flags path =
    not (leads_out (begins_with_slash path) flags)
    && (is_none (text_fault path) && list_all is_short (between_slashes path))
