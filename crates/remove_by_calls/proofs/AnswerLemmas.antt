-- What a call met, and by which answer.
use Rattle.std.proofs.Common.{◌≡◌, ℕ, ◌<◌, Bool, true, false, ◌&&◌, ◌||◌, if◌then◌else◌, refl, nat_lt}
use Rattle.std.specs.Prelude.{◌==◌}
use Rattle.std.proofs.lemmas.Bool.{and_parts, eqb-true, ltb-true}
use Rattle.system_calls.specs.Errors.{EBUSY, ENFILE, EMFILE}
use Rattle.remove_by_calls.specs.Answers.{is_bound, met_of}
use Rattle.remove_by_calls.specs.declared.answers.Answer.{Answer}
use Rattle.remove_by_calls.specs.declared.answers.Met.TheVariants.{Gone, Deeper, Bound, Crowded, Failed}

bound_in : (deeper none bound full : Bool) (error : ℕ)
    → (if deeper then Deeper else (if none then Gone else
    (if bound then Bound else (if full then Crowded error else Failed error)))) ≡ Bound → bound ≡ true
bound_in true none bound full error h = absurd (cc)
bound_in false true bound full error h = absurd (cc)
bound_in false false true full error h = refl
bound_in false false false true error h = absurd (cc)
bound_in false false false false error h = absurd (cc)

pub met_bound : (a : Answer) → met_of a ≡ Bound → (a.error ≡ EBUSY) × (a.unmade ≡ 0) × (0 < a.removed)
met_bound a h =
    let all = bound_in a.deeper (a.error == 0) (is_bound a) ((a.error == EMFILE) || (a.error == ENFILE)) a.error h
    in
    let parts = and_parts (a.error == EBUSY) ((a.unmade == 0) && nat_lt 0 a.removed) all in
    let more = and_parts (a.unmade == 0) (nat_lt 0 a.removed) parts.1 in
    (eqb-true a.error EBUSY parts.0, eqb-true a.unmade 0 more.0, ltb-true 0 a.removed more.1)
