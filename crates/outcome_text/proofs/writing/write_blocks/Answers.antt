use Rattle.std.proofs.Common.{◌≡◌, ◌++◌, ◌∷◌, [], ◌∙◌, List, ℕ, sym, ap, subst, inl, inr, ⊎_elim, take, rules}
use Rattle.std.specs.Prelude.{Some}
use Rattle.std.proofs.lemmas.List.{append-nil}
use Rattle.std.specs.Io.KnownBytes.{Appends}
use Rattle.std.specs.Iterator.Adapters.{zip_first, zip_second}
use Rattle.std.specs.Slice.Iter.{iter_rest}
use Rattle.std.proofs.KnownBytes.{Appends-trans}
use Rattle.outcome_text.specs.Survey.{block_of, woven}
use Rattle.outcome_text.proofs.Pieces.{woven_next, woven_over}
use Rattle.outcome_text.proofs.writing.write_blocks.Goals as goal

pub loop-told-preserved-in-Continue-branch-3 : goal.loop-told-preserved-in-Continue-branch-3
loop-told-preserved-in-Continue-branch-3 g c =
    let before = c.loop-told.invariant in
    let it = c.loop-told.told-iterator in
    let head : List ℕ = c.in-Some-head.head in
    let told = c.in-Some.told.now in
    let begun = g.W.Write.contents c.args.writer.now in
    let now = g.W.Write.contents c.loop-told.writer in
    let middle = g.W.Write.contents c.write_all.new.self in
    let within = g.W.Write.contents c.write_all-in-Some-head.new.self in
    let new = g.W.Write.contents c.write_all-in-Some-head-2.new.self in
    let one : c.in-Some.head.now ≡ Some head = search rules in
    let line : Appends now middle head = search rules in
    let begin : Appends middle within (take told.same told.look) = search rules in
    let rest : Appends within new told.rest = search rules in
    let block : Appends middle new (block_of told) = Appends-trans middle within new (take told.same told.look) told.rest begin rest in (
      before.0 ++ woven (Some head ∷ []) (told ∷ []),
      (
        Appends-trans begun now new before.0 (woven (Some head ∷ []) (told ∷ [])) before.1.0
            (subst (λ (bs : List ℕ). Appends now new bs) (sym (append-nil (head ++ block_of told)))
            (Appends-trans now middle new head (block_of told) line block)),
        woven_next before.0 (iter_rest (zip_second it)) (iter_rest (zip_second c.next.new.self)) (iter_rest (zip_first it))
            (iter_rest (zip_first c.next.new.self)) (Some head) told (woven c.args.heads.now c.args.all.now)
            (subst (λ o. iter_rest (zip_second it) ≡ o ∷ iter_rest (zip_second c.next.new.self)) one c.in-Some.ensures.steps.1)
            c.in-Some.ensures.steps.0 before.1.1,
      ),
    )

pub returns : goal.returns
returns g c =
    let before = c.loop-told.invariant in
    let it = c.loop-told.told-iterator in
    let none : woven (iter_rest (zip_second it)) (iter_rest (zip_first it)) ≡ [] =
    ⊎_elim (λ h. woven_over (iter_rest (zip_second it)) (iter_rest (zip_first it)) (inl h.1.0))
    (λ h. woven_over (iter_rest (zip_second it)) (iter_rest (zip_first it)) (inr h.1.0)) c.in-None.ensures.steps in
    subst (λ (bs : List ℕ). Appends (g.W.Write.contents c.args.writer.now) (g.W.Write.contents c.loop-told.writer) bs)
    (sym (append-nil before.0) ∙ (ap (λ (bs : List ℕ). before.0 ++ bs) (sym none) ∙ before.1.1)) before.1.0
