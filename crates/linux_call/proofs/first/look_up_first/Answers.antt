use Rattle.std.proofs.Common.{◌+◌, drop, false, take, ap, subst, sym, ◌∙◌}
use Rattle.kernel_calls.specs.Look.{look_up}
use Rattle.linux_call.specs.Turns.{IsAsked, IsLinkText, path_flags}
use Rattle.linux_call.specs.Whole.{making, opening}
use Rattle.linux_call.proofs.TurnLemmas.{Found, first_make, first_open, first_remove, mapped}
use Rattle.linux_call.proofs.first.look_up_first.Goals as goal

pub returns-then-request-eq-RESOLVE : goal.returns-then-request-eq-RESOLVE
returns-then-request-eq-RESOLVE c =
    let r = c.args.request.now in
    let path = c.front-path.ensures ∙ ap (take (1 + r.length)) c.new.ensures in
    mapped c.open_first.result (λ d asked plain s is.
    first_open r c.args.first.now c.args.second.now s d c.open_first.new.room c.if-request-eq-RESOLVE.true is
    (subst (λ t. IsAsked (look_up r.known
    (record { root = r.root; flags = (opening r).flags; slashed = t; looked = false })
    (path_flags r) 0) d c.open_first.new.room) path asked)) c.open_first.ensures

pub returns-else-has : goal.returns-else-has
returns-else-has c =
    let r = c.args.request.now in
    let path = c.front-path.ensures ∙ ap (take (1 + r.length)) c.new.ensures in
    mapped c.change_first.result (λ d f plain s is.
    first_make r c.args.first.now c.args.second.now s d c.change_first.new.room c.if-request-eq-RESOLVE.false
    (sym c.makes.ensures ∙ c.if-makes.true) plain is
    (subst (λ t. Found r (making r).flags t c.args.second.now d c.change_first.new.room) path
    (record {
      n = f.0;
      above = f.1;
      division = f.2;
      is = f.3;
      inside = f.4;
      link = λ w. subst (λ t. IsLinkText (drop 1 t)) c.new-other.ensures (f.5 w);
      asked = f.6;
    }))) c.change_first.ensures

pub returns-then-removes : goal.returns-then-removes
returns-then-removes c =
    let r = c.args.request.now in
    let path = c.front-path.ensures ∙ ap (take (1 + r.length)) c.new.ensures in
    mapped c.change_first-then-removes.result (λ d f plain s is.
    first_remove r c.args.first.now c.args.second.now s d c.change_first-then-removes.new.room
    c.if-request-eq-RESOLVE.false (sym c.makes.ensures ∙ c.if-makes.false) (sym c.removes.ensures ∙ c.if-removes.true)
    plain is
    (subst (λ t. Found r r.flags t c.args.second.now d c.change_first-then-removes.new.room) path
    (record {
      n = f.0;
      above = f.1;
      division = f.2;
      is = f.3;
      inside = f.4;
      link = λ w. subst (λ t. IsLinkText (drop 1 t)) c.new-other.ensures (f.5 w);
      asked = f.6;
    }))) c.change_first-then-removes.ensures
