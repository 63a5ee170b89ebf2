use Rattle.std.proofs.Common.{ℕ, suc, List, length, Bool, true, false, cond, Option, Some, None, option_map, Bor, ◌<◌, ◌+◌, ◌-◌, ◌≡◌, ap, sym, ◌∙◌, arith}
use Rattle.path_text.specs.Name.{same_bytes}
use Rattle.command_line.specs.Position.{START, next_of, key_of, later, or_by, last_among}
use Rattle.command_line.specs.Rows.{is_escaped}
use Rattle.command_line.proofs.position.last_member.Goals as goal
use Rattle.command_line.proofs.position.last_member.Goals.{then-eq, else-eq}

-- what is left begins with a member whose key has an escape or not
member_left : (n c : ℕ) (key member name : List ℕ) (found : Option (List ℕ)) (b : Bool) → c < n → name ≡ key_of member → is_escaped name ≡ b
    → last_among (n - c) key found member
    ≡ cond b None (or_by (next_of START member) (later key member found) (last_among (n - (c + 1)) key (later key member found)))
member_left n c key member name found b before named is =
    let e : n - c ≡ suc (n - (c + 1)) = omega (arith, before) in
    ap (λ k. last_among k key found member) e
    ∙ ap (λ (t : Bool). cond t None (or_by (next_of START member) (later key member found) (last_among (n - (c + 1)) key (later key member found))))
    (ap is_escaped (sym named) ∙ is)

-- the member is the last one found by then, where it has the key
found_then : (key member name bytes : List ℕ) (found now : Option (List ℕ)) (b : Bool) → name ≡ key_of member → bytes ≡ key
    → same_bytes name bytes ≡ b → now ≡ cond b (Some member) found → later key member found ≡ now
found_then key member name bytes found now b named written is are =
    ap (λ (t : Bool). cond t (Some member) found)
    (ap (λ (xs : List ℕ). same_bytes xs key) (sym named) ∙ ap (same_bytes name) (sym written) ∙ is)
    ∙ sym are

-- with no escape, the next member goes on with what was found by then
member_step : (n c : ℕ) (key member name : List ℕ) (found now next : Option (List ℕ)) → c < n → name ≡ key_of member
    → is_escaped name ≡ false → next ≡ next_of START member → later key member found ≡ now
    → or_by next now (last_among (n - (c + 1)) key now) ≡ last_among (n - c) key found member
member_step n c key member name found now next before named plain at is =
    ap (λ (o : Option (List ℕ)). or_by o now (last_among (n - (c + 1)) key now)) at
    ∙ ap (λ (o : Option (List ℕ)). or_by (next_of START member) o (last_among (n - (c + 1)) key o)) (sym is)
    ∙ sym (member_left n c key member name found false before named plain)

pub returns-then-contains : goal.returns-then-contains
returns-then-contains c =
    sym (member_left (length c.args.object.now) c.loop.counter c.args.key.now c.loop.rest.now c.key_of-name.result.now
    (option_map (λ (m : Bor (List ℕ)). m.now) c.loop.found) true c.loop-test.true c.key_of-name.ensures (sym c.contains.ensures.value ∙ c.if-contains.true))
    ∙ c.loop.invariant

pub returns-in-None : goal.returns-in-None
returns-in-None c =
    let bytes = option_map (λ (m : Bor (List ℕ)). m.now) in
    let by = λ (b : Bool). found_then c.args.key.now c.loop.rest.now c.key_of-name.result.now c.as_bytes.result.now (bytes c.loop.found) (bytes c.if-eq.found) b
    c.key_of-name.ensures c.as_bytes.ensures.value in
    member_step (length c.args.object.now) c.loop.counter c.args.key.now c.loop.rest.now c.key_of-name.result.now (bytes c.loop.found) (bytes c.if-eq.found) _
    c.loop-test.true c.key_of-name.ensures (sym c.contains.ensures.value ∙ c.if-contains.false) c.in-None.ensures
    (elim c.if-eq.branch [ then-eq w ↦ by true (sym c.eq.ensures ∙ w.if-eq.true) (ap bytes w.found-is) | else-eq w ↦ by false (sym c.eq.ensures ∙ w.if-eq.false) (ap bytes w.found-is) ])
    ∙ c.loop.invariant

pub loop-preserved : goal.loop-preserved
loop-preserved c =
    let bytes = option_map (λ (m : Bor (List ℕ)). m.now) in
    let by = λ (b : Bool). found_then c.args.key.now c.loop.rest.now c.key_of-name.result.now c.as_bytes.result.now (bytes c.loop.found) (bytes c.if-eq.found) b
    c.key_of-name.ensures c.as_bytes.ensures.value in
    member_step (length c.args.object.now) c.loop.counter c.args.key.now c.loop.rest.now c.key_of-name.result.now (bytes c.loop.found) (bytes c.if-eq.found) _
    c.loop-test.true c.key_of-name.ensures (sym c.contains.ensures.value ∙ c.if-contains.false) c.in-Some.ensures
    (elim c.if-eq.branch [ then-eq w ↦ by true (sym c.eq.ensures ∙ w.if-eq.true) (ap bytes w.found-is) | else-eq w ↦ by false (sym c.eq.ensures ∙ w.if-eq.false) (ap bytes w.found-is) ])
    ∙ c.loop.invariant
