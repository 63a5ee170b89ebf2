-- So on such books an actor with the same part takes the same turn.
use Rattle.std.specs.Prelude.{◌≡◌, ◌<◌, ◌⊎◌, ℕ, length, Bool, true, Option, Some, None}
use Rattle.std.proofs.Common.{inl, sym, ap, ◌∙◌, subst}
use Rattle.std.proofs.lemmas.Option.{none-some, same_Some}
use Rattle.step_resolver.specs.declared.walk.Root.{Root}
use Rattle.root_ops.specs.Order.{take, due}
use Rattle.root_ops.specs.View.{CallView}
use Rattle.race_core.specs.declared.seat.Seat.{Seat}
use Rattle.race_core.specs.Book.{BookedHistory, tree_now}
use Rattle.race_core.specs.Ledgers.{LedgerView}
use Rattle.race_core.specs.Turns.{Luck, comes, begun, Turned, goes_on, turned, stepped_by}
use Rattle.race_core.specs.Renamed.{call_by, ledger_by}
use Rattle.race_core.proofs.BookMoves.{begun_root}
use Rattle.local_states.specs.Alike.{Pairs, Agree, SameSeats}
use Rattle.local_states.specs.Local.{actor_of, SameGround, GrownAlike}
use Rattle.local_states.proofs.Alike.Steps.{zero_agrees}
use Rattle.local_states.proofs.Alike.Turns.{answered_seat, answered_by, same_begun, same_actor, due_alike}
use Rattle.local_states.proofs.Local.Steps.{PartBy}
use Rattle.local_states.proofs.Local.Books.{not_grown, own_stepped}

-- What was paired still is, and what is paired besides was given; the seats are the same but for pairs; and the books
-- have grown alike.
pub record AfterOwnTurn (a : ℕ) (pairs : Pairs) (b c : BookedHistory) (o u : Turned) : Type 0 where
  pub more : Pairs
  pub grows : (h k : ℕ) → pairs h k ≡ true → more h k ≡ true
  pub news : (h k : ℕ) → more h k ≡ true
      → (pairs h k ≡ true) ⊎ ((h < length (tree_now o.book).handles) × (k < length (tree_now u.book).handles))
  pub trees : PartBy a more (tree_now o.book) (tree_now u.book)
  pub seats : SameSeats more o.seat u.seat
  pub grown : GrownAlike b c o.book u.book

-- the step that is due is made by that actor, and its answer taken
abbrev on_step : Bool → Bool → BookedHistory → LedgerView → CallView → ℕ → Turned
on_step luck room book ledger call a =
    let step = stepped_by luck book a (due call.below call.doing) in
    record { book = step.book; seat = comes ledger call.below (take call.below room call.doing step.answer) }

module _ (a : ℕ) (pairs : Pairs) (b c : BookedHistory) (part : PartBy a pairs (tree_now b) (tree_now c))
    (ground : SameGround b c) where
  own_on_step : (luck room : Bool) (ledger ledger' : LedgerView) (call call' : CallView)
      → SameSeats pairs (record { ledger = ledger; doing = Some call })
      (record { ledger = ledger'; doing = Some call' })
      → AfterOwnTurn a pairs b c (on_step luck room b ledger call a) (on_step luck room c ledger' call' a)
  own_on_step luck room ledger ledger' call call' same =
      let calls : (f g : ℕ → ℕ) → Agree pairs f g → call_by f call ≡ call_by g call' =
      (λ f g agree. same_Some (call_by f call) (call_by g call') (ap (λ (seat : Seat). seat.doing) (same f g agree))) in
      let dues = due_alike pairs ledger ledger' call call' same in
      let after = own_stepped a pairs b c part ground (due call.below call.doing)
      (due call'.below call'.doing) dues luck in
      record {
        more = after.more;
        grows = after.grows;
        news = after.news;
        trees = after.trees;
        seats = λ f g agree.
            let fewer : Agree pairs f g = (λ h k p. agree h k (after.grows h k p)) in
            let ledgers : ledger_by f ledger ≡ ledger_by g ledger' =
            ap (λ (seat : Seat). seat.ledger) (same f g fewer) in
            answered_by f room ledger call (stepped_by luck b a (due call.below call.doing)).answer
            ∙ (λ i. answered_seat room (ledgers i) (calls f g fewer i) (after.answers f g agree i))
            ∙ sym (answered_by g room ledger' call' (stepped_by luck c a (due call'.below call'.doing)).answer);
        grown = after.grown;
      }

  -- with no call under way, or one in each
  own_goes : (luck room : Bool) (ledger ledger' : LedgerView) (doing doing' : Option CallView)
      → a ≡ ledger.root.owner.actor
      → SameSeats pairs (record { ledger = ledger; doing = doing }) (record { ledger = ledger'; doing = doing' })
      → AfterOwnTurn a pairs b c (goes_on luck room b ledger doing) (goes_on luck room c ledger' doing')
  own_goes luck room ledger ledger' None None e same =
      record {
        more = pairs;
        grows = λ h k p. p;
        news = λ h k p. inl p;
        trees = part;
        seats = same;
        grown = not_grown b c;
      }
  own_goes luck room ledger ledger' None (Some call) e same =
      absurd (none-some (call_by (λ h. 0) call)
      (ap (λ (seat : Seat). seat.doing) (same (λ h. 0) (λ h. 0) (zero_agrees pairs))))
  own_goes luck room ledger ledger' (Some call) None e same =
      absurd (none-some (call_by (λ h. 0) call)
      (sym (ap (λ (seat : Seat). seat.doing) (same (λ h. 0) (λ h. 0) (zero_agrees pairs)))))
  own_goes luck room ledger ledger' (Some call) (Some call') e same =
      let actor : ledger.root.owner.actor ≡ ledger'.root.owner.actor =
      same_actor pairs (record { ledger = ledger; doing = Some call })
      (record { ledger = ledger'; doing = Some call' }) same in
      subst (λ n. AfterOwnTurn a pairs b c (on_step luck room b ledger call ledger.root.owner.actor)
      (on_step luck room c ledger' call' n)) (e ∙ actor)
      (subst (λ n. AfterOwnTurn a pairs b c (on_step luck room b ledger call n) (on_step luck room c ledger' call' a)) e
      (own_on_step luck room ledger ledger' call call' same))

  pub own_turned : (luck : Luck) (s t : Seat) → a ≡ actor_of s → SameSeats pairs s t
      → AfterOwnTurn a pairs b c (turned luck b s.ledger s.doing) (turned luck c t.ledger t.doing)
  own_turned luck s t e same =
      let here = begun luck.start s.ledger s.doing in
      let there = begun luck.start t.ledger t.doing in
      let actor : a ≡ here.ledger.root.owner.actor = e
      ∙ sym (ap (λ (root : Root). root.owner.actor) (begun_root luck.start s.ledger s.doing)) in
      own_goes luck.step luck.room here.ledger there.ledger here.doing there.doing actor
      (same_begun pairs luck.start s t same)
