use Rattle.std.proofs.Common.{◌≡◌, true, refl, ap, subst, ◌∙◌}
use Rattle.std.specs.Prelude.{Err, Ok, take}
use Rattle.dialogue.specs.Dialogue.{ran}
use Rattle.kernel_calls.specs.Calls.{EndsNext}
use Rattle.kernel_calls.specs.Entry.{closed_by}
use Rattle.linux_call.specs.Whole.{FollowsPart}
use Rattle.linux_call.proofs.LookedLemmas.{as_code}
use Rattle.linux_call.proofs.ToldLemmas.{kept, part_asked, part_ended, part_gave, part_steps}
use Rattle.linux_call.proofs.turns.go.Goals as goal

pub returns-in-Err-BySteps : goal.returns-in-Err-BySteps
returns-in-Err-BySteps c = λ plain within not_opens fresh looked s is told.
    let r = c.args.request.now in
    let texts = c.texts_of-texts.ensures plain.whole in
    let now = c.new-now.ensures in
    let answers = now.0 ∙ c.between-left.ensures refl within in
    let here = as_code r c.args.first.now c.args.second.now c.args.read.now c.args.state.now.looked s _ _
    c.texts_of-texts.result now.1 (now.2 ∙ c.ends_behind.ensures) texts.0 texts.1 texts.2 plain looked is in
    let f = c.part.ensures.ran plain.whole plain.right plain.walked now.3 s here in
    let xs = take c.args.state.now.count c.args.answers.now in
    let closes = closed_by c.part.new.now.behind.closes in
    absurd (part_steps (ran s xs) closes c.in-Err-BySteps.first c.in-Err-BySteps.second told
    (subst (FollowsPart (ran s xs) closes)
    (c.in-Err-BySteps.is ∙ ap (λ x. Err x) c.in-Err-BySteps.field-0-is)
    (subst (λ a. FollowsPart (ran s a) closes c.part.result) answers f)))

pub returns-in-Err-given : goal.returns-in-Err-given
returns-in-Err-given c = λ plain within not_opens fresh looked s is told.
    let r = c.args.request.now in
    let texts = c.texts_of-texts.ensures plain.whole in
    let now = c.new-now.ensures in
    let here = as_code r c.args.first.now c.args.second.now c.args.read.now c.args.state.now.looked s _ _
    c.texts_of-texts.result now.1 (now.2 ∙ c.ends_behind.ensures) texts.0 texts.1 texts.2 plain looked is in
    let f = c.part.ensures.ran plain.whole plain.right plain.walked now.3 s here in
    let closes = closed_by c.part.new.now.behind.closes in
    let is_gave = c.in-Ok.is ∙ ap (λ x. Ok x) c.in-Err-given.is in
    absurd (part_gave (ran s c.new-now.result.answers.now) closes c.in-Err-given.gave
    (subst (FollowsPart (ran s c.new-now.result.answers.now) closes) is_gave f))

pub returns-in-Ok-given : goal.returns-in-Ok-given
returns-in-Ok-given c = λ plain within not_opens fresh looked s is told.
    let r = c.args.request.now in
    let texts = c.texts_of-texts.ensures plain.whole in
    let now = c.new-now.ensures in
    let answers = now.0 ∙ c.between-left.ensures refl within in
    let here = as_code r c.args.first.now c.args.second.now c.args.read.now c.args.state.now.looked s _ _
    c.texts_of-texts.result now.1 (now.2 ∙ c.ends_behind.ensures) texts.0 texts.1 texts.2 plain looked is in
    let f = c.part.ensures.ran plain.whole plain.right plain.walked now.3 s here in
    let xs = take c.args.state.now.count c.args.answers.now in
    let closes = closed_by c.part.new.now.behind.closes in
    let end = c.end_and_close.ensures in (
      c.end_and_close.result,
      refl,
      refl,
      refl,
      refl,
      part_ended r c.args.first.now s (ran s xs) closes c.in-Ok-given.reply _ c.args.answers.now c.end_and_close.result
          c.end_and_close.new.room told (subst (FollowsPart (ran s xs) closes)
          (c.in-Ok.is ∙ ap (λ x. Ok x) c.in-Ok-given.is)
          (subst (λ a. FollowsPart (ran s a) closes c.part.result) answers f)) end.0 end.1,
    )

pub returns-in-Err : goal.returns-in-Err
returns-in-Err c = λ plain within not_opens fresh looked s is told.
    let r = c.args.request.now in
    let texts = c.texts_of-texts.ensures plain.whole in
    let now = c.new-now.ensures in
    let answers = now.0 ∙ c.between-left.ensures refl within in
    let here = as_code r c.args.first.now c.args.second.now c.args.read.now c.args.state.now.looked s _ _
    c.texts_of-texts.result now.1 (now.2 ∙ c.ends_behind.ensures) texts.0 texts.1 texts.2 plain looked is in
    let f = c.part.ensures.ran plain.whole plain.right plain.walked now.3 s here in
    let xs = take c.args.state.now.count c.args.answers.now in
    let closes = closed_by c.part.new.now.behind.closes in
    let same = c.keep_asked.ensures.same in
    let next : c.part.new.now.behind.changes ≡ true → EndsNext s xs closes = λ changes.
    subst (λ a. EndsNext s a closes) answers
    (c.part.ensures.next plain.whole plain.right plain.walked plain.bare now.4 changes s here) in
    let stands = kept r c.args.first.now s c.args.state.now c.keep_asked.new.state c.args.answers.now
    c.part.new.now.behind.changes closes same.0 same.2 (ap closed_by same.3) not_opens looked
    (c.keep_asked.ensures.first plain.whole) c.keep_asked.ensures.later next in (
      c.due_of.result,
      refl,
      same.0,
      same.1,
      refl,
      part_asked r c.args.first.now s (ran s xs) closes c.in-Err.question c.keep_asked.new.state c.args.answers.now
          c.due_of.result c.due_of.new.room told (subst (FollowsPart (ran s xs) closes) c.in-Err.is
          (subst (λ a. FollowsPart (ran s a) closes c.part.result) answers f)) c.due_of.ensures.call
          c.due_of.ensures.texts
          stands,
    )
