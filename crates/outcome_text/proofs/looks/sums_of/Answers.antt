use Rattle.std.proofs.Common.{◌≡◌, ◌+◌, ◌++◌, ◌∷◌, [], List, ℕ, sym, ap, ◌∙◌, subst, take, arith}
use Rattle.std.specs.Prelude.{if◌then◌else◌, is_some, min, unwrap_or, Option}
use Rattle.std.specs.HashMap.{hash_map_len}
use Rattle.std.proofs.lemmas.List.{take_more}
use Rattle.outcome_text.specs.declared.counts.TheConstants.{COUNT_MAX}
use Rattle.outcome_text.specs.declared.survey.Told.{Told}
use Rattle.outcome_text.specs.Looks.{lists_of, entry_of, AreSums}
use Rattle.outcome_text.proofs.Sums.{sums_more, looks_more, few_lists}
use Rattle.outcome_text.proofs.looks.sums_of.Goals as goal

pub plus-requires : goal.plus-requires
plus-requires c =
    let earlier = take c.loop-told.told-index c.args.all.now in
    let key = c.as_slice-key.result in
    let before : c.unwrap_or-before.result ≡ unwrap_or (lists_of earlier key.now) 0 =
    c.unwrap_or-before.ensures ∙ ap (λ (o : Option ℕ). unwrap_or o 0) (c.copied.ensures ∙ c.get.ensures.value ∙ c.loop-told.invariant.sums key) in
    let few = few_lists earlier key.now in
    omega (arith, before, few)

pub loop-told-preserved : goal.loop-told-preserved
loop-told-preserved c =
    let all = c.args.all.now in
    let at = c.loop-told.told-index in
    let told = c.told-item.result in
    let key = c.as_slice-key.result in
    let sums = c.loop-told.invariant.sums in
    let front : take (at + 1) all ≡ take at all ++ told ∷ [] =
    take_more all at told c.loop-told-test.true ∙ ap (λ (t : Told). take at all ++ t ∷ []) (sym c.told-item.is) in
    let before : c.unwrap_or-before.result ≡ unwrap_or (entry_of c.loop-told.sums key) 0 =
    c.unwrap_or-before.ensures ∙ ap (λ (o : Option ℕ). unwrap_or o 0) (c.copied.ensures ∙ c.get.ensures.value) in
    record {
      looks =
          looks_more all at told (hash_map_len c.loop-told.sums) (hash_map_len c.insert.new.self) _ c.loop-told-test.true c.told-item.is
          (c.in_ok-insert.ensures.len ∙ ap (λ (o : Option ℕ). hash_map_len c.loop-told.sums + (if is_some o then 0 else 1))
          (c.in_ok-insert.ensures.old ∙ sums key ∙ ap (lists_of (take at all)) c.as_slice-key.ensures)) c.loop-told.invariant.looks;
      sums =
          subst (λ (ts : List Told). AreSums c.insert.new.self ts) (sym front)
          (sums_more c.loop-told.sums c.insert.new.self told key c.as_slice-key.ensures (take at all) _ sums
          (c.plus.ensures.sum ∙ ap (λ (n : ℕ). min (n + told.lists) COUNT_MAX) before) c.in_ok-insert.ensures.updates);
    }
