use Rattle.std.proofs.Common.{◌∙◌, refl, arith, eq-eqb, take}
use Rattle.std.proofs.lemmas.Bool.{ne_eqb}
use Rattle.path_text.specs.declared.name.TheConstants.{SLASH}
use Rattle.open_partial.proofs.BeginningLemmas.{first_on, slash_on, stands_free, stands_within, under_on}
use Rattle.open_partial.proofs.beginnings.scan.Goals.{then-is_free+then-not-is_slash+else-pieces-most, else-is_free, else-is_free-via-then-is_free+else-not-is_slash, else-is_free-via-else-is_free}
use Rattle.open_partial.proofs.beginnings.scan.Goals as goal

pub loop-at-preserved : goal.loop-at-preserved
loop-at-preserved c =
    let i = c.loop-at.invariant in
    let text = c.args.text.now in
    let within = c.loop-at-test.true in
    elim c.if-is_free.branch [
      | then-is_free+then-not-is_slash+else-pieces-most w ↦
          let done = first_on text c.loop-at.at c.loop-at.pieces _ within refl (ne_eqb _ SLASH w.if-not-is_slash.true)
          (stands_free c.loop-at.is_free (take c.loop-at.at text) w.if-is_free.true i.4) i.1 in (
            omega (arith, within),
            w.pieces-is ∙ done.0,
            omega (arith, w.pieces-is, i.2, w.if-pieces-most.false),
            omega (arith, w.pieces-is, i.3),
            done.1,
          )
      | else-is_free w ↦
          elim w.else-is_free.branch [
            | else-is_free-via-then-is_free+else-not-is_slash v ↦
                let done = slash_on text c.loop-at.at c.loop-at.pieces _ within refl (eq-eqb _ SLASH v.if-not-is_slash.false) i.1 in (
                  omega (arith, within),
                  w.pieces-is ∙ done.0,
                  omega (arith, w.pieces-is, i.2),
                  omega (arith, w.pieces-is, i.3),
                  done.1,
                )
            | else-is_free-via-else-is_free v ↦
                let done = under_on text c.loop-at.at c.loop-at.pieces _ within refl
                (stands_within c.loop-at.is_free (take c.loop-at.at text) v.if-is_free.false i.4) i.1 in (
                  omega (arith, within),
                  w.pieces-is ∙ done.0,
                  omega (arith, w.pieces-is, i.2),
                  omega (arith, w.pieces-is, i.3),
                  done.1,
                )
          ]
    ]
