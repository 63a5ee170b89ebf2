use Rattle.std.proofs.Common.{sym, ◌∙◌, subst}
use Rattle.std.proofs.lemmas.Bool.{true≢false, false≢true}
use Rattle.std.proofs.lemmas.Option.{slice_get_within}
use Rattle.local_states.specs.HandleTables.{PartView, IsPartOf}
use Rattle.local_states.proofs.Parted.Parts.{mine_like, like_mine}
use Rattle.local_states.proofs.parts.Part.is_in.Goals as goal

pub returns-then-not-same_places : goal.returns-then-not-same_places
returns-then-not-same_places g c = λ table v once are is.
    let its = subst (λ (p : PartView). IsPartOf table v c.args.actor p) (sym c.self.view_is) is in
    let like = mine_like table c.args.world.now v c.args.actor c.args.outcomes.now c.args.handle_table.now _ once c.requires are its in (
      (λ t. absurd (false≢true t)),
      (λ same. absurd (true≢false (sym (c.same_places.ensures.1 ((like same).outcomes ∙ sym c.as_slice.ensures.value)) ∙ c.if-not-same_places.true))),
    )

pub returns-then-not-is_like : goal.returns-then-not-is_like
returns-then-not-is_like g c = λ table v once are is.
    let its = subst (λ (p : PartView). IsPartOf table v c.args.actor p) (sym c.self.view_is) is in
    let like = mine_like table c.args.world.now v c.args.actor c.args.outcomes.now c.args.handle_table.now _ once c.requires are its in (
      (λ t. absurd (false≢true t)),
      (λ same. absurd (true≢false (sym (c.is_like.ensures.1 (like same).handle_table) ∙ c.if-not-is_like.true))),
    )

pub is_like_seat-requires : goal.is_like_seat-requires
is_like_seat-requires g c = slice_get_within c.args.world.now.seats c.args.actor c.requires.seat c.requires.there

pub returns : goal.returns
returns g c = λ table v once are is.
    let its = subst (λ (p : PartView). IsPartOf table v c.args.actor p) (sym c.self.view_is) is in
    let like = mine_like table c.args.world.now v c.args.actor c.args.outcomes.now c.args.handle_table.now _ once c.requires are its in
    let same = like_mine table c.args.world.now v c.args.actor c.args.outcomes.now c.args.handle_table.now _ once c.requires are its in
    let seats = c.is_like_seat.ensures c.requires.seat c.requires.there in (
      (λ t. same (record {
        seat = seats.0 t;
        outcomes = c.same_places.ensures.0 c.if-not-same_places.false ∙ c.as_slice.ensures.value;
        handle_table = c.is_like.ensures.0 c.if-not-is_like.false;
      })),
      (λ p. seats.1 (like p).seat),
    )
