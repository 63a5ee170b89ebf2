-- Seats that are the same but for the numbers of their handles.
use Rattle.std.proofs.Common.{◌≡◌, ℕ, List, [], ◌∷◌, ◌++◌, Option, Some, None, append_assoc, refl, sym, ap, ◌∙◌}
use Rattle.std.specs.Prelude.{map}
use Rattle.std.specs.List.{flat_map}
use Rattle.std.specs.Option.{option_map}
use Rattle.std.proofs.lemmas.Option.{same_Some}
use Rattle.handles.specs.Objects.{StandingObject}
use Rattle.root_ops.specs.View.{CallView}
use Rattle.step_resolver.specs.declared.walk.Root.{Root}
use Rattle.race_core.specs.declared.plan.Planned.{Planned}
use Rattle.race_core.specs.declared.plan.Planned.TheVariants as plans
use Rattle.race_core.specs.declared.report.Outcome.{Outcome}
use Rattle.race_core.specs.declared.report.Outcome.TheVariants as outcomes
use Rattle.race_core.specs.declared.seat.Seat.{Seat}
use Rattle.race_core.specs.Ledgers.{LedgerView}
use Rattle.race_core.specs.Renamed.{numbers_by, root_by, standing_by, call_by, planned_by, plans_by, outcome_by, outcomes_by, standings_by, kept_by, ledger_by, seat_by, seats_by, planned_handles, plans_handles, outcome_handles, outcomes_handles, option_handles, standings_handles, kept_handles, ledger_handles, doing_call_handles, LikeSeats, LikeSeatsAgree}
use Rattle.race_core.specs.WithoutOutcomes.{without_outcomes}
use Rattle.root_ops.proofs.HandlesRenamed.{answer_numbers, op_numbers}
use Rattle.root_ops.proofs.LikeCalls.{like_answers_agree, like_requests_agree, like_calls_agree}
use Rattle.race_core.proofs.LikeLists.{KeepsHandles, Agree, AgreeFirst, agree_first, all_agree_first}

-- ---- the lists of a ledger, as maps

pub plans_map : (f : ℕ → ℕ) (xs : List Planned) → plans_by f xs ≡ map (planned_by f) xs
plans_map f [] = refl
plans_map f (x ∷ xs) = ap (λ ys. planned_by f x ∷ ys) (plans_map f xs)

pub plans_flat : (xs : List Planned) → plans_handles xs ≡ flat_map planned_handles xs
plans_flat [] = refl
plans_flat (x ∷ xs) = ap (λ hs. planned_handles x ++ hs) (plans_flat xs)

pub outcomes_map : (f : ℕ → ℕ) (xs : List Outcome) → outcomes_by f xs ≡ map (outcome_by f) xs
outcomes_map f [] = refl
outcomes_map f (x ∷ xs) = ap (λ ys. outcome_by f x ∷ ys) (outcomes_map f xs)

pub outcomes_flat : (xs : List Outcome) → outcomes_handles xs ≡ flat_map outcome_handles xs
outcomes_flat [] = refl
outcomes_flat (x ∷ xs) = ap (λ hs. outcome_handles x ++ hs) (outcomes_flat xs)

pub standings_map : (f : ℕ → ℕ) (xs : List (Option StandingObject)) → standings_by f xs ≡ map (option_map (standing_by f)) xs
standings_map f [] = refl
standings_map f (x ∷ xs) = ap (λ ys. option_map (standing_by f) x ∷ ys) (standings_map f xs)

pub standings_flat : (xs : List (Option StandingObject)) → standings_handles xs ≡ flat_map option_handles xs
standings_flat [] = refl
standings_flat (x ∷ xs) = ap (λ hs. option_handles x ++ hs) (standings_flat xs)

-- the one handle of what was opened
abbrev pub standing_handles : StandingObject → List ℕ
standing_handles standing = standing.handle ∷ []

pub kept_map : (f : ℕ → ℕ) (xs : List StandingObject) → kept_by f xs ≡ map (standing_by f) xs
kept_map f [] = refl
kept_map f (x ∷ xs) = ap (λ ys. standing_by f x ∷ ys) (kept_map f xs)

pub kept_flat : (xs : List StandingObject) → kept_handles xs ≡ flat_map standing_handles xs
kept_flat [] = refl
kept_flat (x ∷ xs) = ap (λ hs. x.handle ∷ hs) (kept_flat xs)

pub seats_map : (f : ℕ → ℕ) (xs : List Seat) → seats_by f xs ≡ map (seat_by f) xs
seats_map f [] = refl
seats_map f (x ∷ xs) = ap (λ ys. seat_by f x ∷ ys) (seats_map f xs)

-- ---- handles listed part by part

pub listed : (ledger : LedgerView) (old one two three four : List ℕ) → one ≡ old ++ ledger.root.handle ∷ [] → two ≡ one ++ flat_map planned_handles ledger.to_come
    → three ≡ two ++ flat_map outcome_handles ledger.outcomes → four ≡ three ++ flat_map option_handles ledger.standings
    → four ++ flat_map standing_handles ledger.kept ≡ old ++ ledger_handles ledger
listed ledger old one two three four p q r s =
    let root = ledger.root.handle ∷ [] in
    let to_come = plans_handles ledger.to_come in
    let told = outcomes_handles ledger.outcomes in
    let standings = standings_handles ledger.standings in
    let kept = kept_handles ledger.kept in
    let q' : two ≡ (old ++ root) ++ to_come = q ∙ (ap (λ hs. hs ++ flat_map planned_handles ledger.to_come) p ∙ ap (λ hs. (old ++ root) ++ hs) (sym (plans_flat ledger.to_come))) in
    let r' : three ≡ ((old ++ root) ++ to_come) ++ told = r ∙ (ap (λ hs. hs ++ flat_map outcome_handles ledger.outcomes) q' ∙ ap (λ hs. ((old ++ root) ++ to_come) ++ hs) (sym (outcomes_flat ledger.outcomes))) in
    let s' : four ≡ (((old ++ root) ++ to_come) ++ told) ++ standings =
    s ∙ (ap (λ hs. hs ++ flat_map option_handles ledger.standings) r' ∙ ap (λ hs. (((old ++ root) ++ to_come) ++ told) ++ hs) (sym (standings_flat ledger.standings))) in
    let all : four ++ flat_map standing_handles ledger.kept ≡ ((((old ++ root) ++ to_come) ++ told) ++ standings) ++ kept =
    ap (λ hs. hs ++ flat_map standing_handles ledger.kept) s' ∙ ap (λ hs. ((((old ++ root) ++ to_come) ++ told) ++ standings) ++ hs) (sym (kept_flat ledger.kept)) in
    let join : ((((old ++ root) ++ to_come) ++ told) ++ standings) ++ kept ≡ old ++ (root ++ (to_come ++ (told ++ (standings ++ kept)))) = simp append_assoc in
    all ∙ join

-- ---- the handles of what has other numbers

pub planned_keeps : KeepsHandles planned_by planned_handles
planned_keeps f (plans.Call request) = op_numbers f request.op
planned_keeps f (plans.Single step) = refl
planned_keeps f (plans.Release number) = refl

pub outcome_keeps : KeepsHandles outcome_by outcome_handles
outcome_keeps f (outcomes.Opened x kind names) = refl
outcome_keeps f (outcomes.Text text) = refl
outcome_keeps f outcomes.Done = refl
outcome_keeps f (outcomes.Count n) = refl
outcome_keeps f (outcomes.Stepped answer) = answer_numbers f answer
outcome_keeps f (outcomes.Fault error) = refl

-- ---- each part

planned_agree : Agree planned_by planned_handles
planned_agree f g (plans.Call r) (plans.Call s) like same = ap (λ x. plans.Call x) (like_requests_agree f g r s (cc) same)
planned_agree f g (plans.Single step) (plans.Single other) like same = cc
planned_agree f g (plans.Release number) (plans.Release other) like same = cc
planned_agree f g a b like same = cc

outcome_agree : Agree outcome_by outcome_handles
outcome_agree f g (outcomes.Stepped a) (outcomes.Stepped b) like same = ap (λ x. outcomes.Stepped x) (like_answers_agree f g a b (cc) same)
outcome_agree f g (outcomes.Opened x kind names) (outcomes.Opened y kind' names') like same = cc
outcome_agree f g (outcomes.Text text) (outcomes.Text other) like same = cc
outcome_agree f g outcomes.Done outcomes.Done like same = refl
outcome_agree f g (outcomes.Count n) (outcomes.Count m) like same = cc
outcome_agree f g (outcomes.Fault error) (outcomes.Fault other) like same = cc
outcome_agree f g a b like same = cc

standing_first : AgreeFirst standing_by standing_handles
standing_first f g a b more others like same =
    let numbers : f a.handle ≡ g b.handle = cc in
    (ap (λ (s : StandingObject). record s { handle = f a.handle }) like ∙ ap (λ n. record b { handle = n }) numbers, cc)

option_first : AgreeFirst (λ f. option_map (standing_by f)) option_handles
option_first f g None None more others like same = (refl, same)
option_first f g None (Some b) more others like same = cc
option_first f g (Some a) None more others like same = cc
option_first f g (Some a) (Some b) more others like same =
    let first = standing_first f g a b more others (same_Some (standing_by (λ h. 0) a) (standing_by (λ h. 0) b) like) same in
    (ap Some first.0, first.1)

planned_first : AgreeFirst planned_by planned_handles
planned_first = agree_first planned_by planned_handles planned_keeps planned_agree

outcome_first : AgreeFirst outcome_by outcome_handles
outcome_first = agree_first outcome_by outcome_handles outcome_keeps outcome_agree

-- ---- the lists of a ledger

plans_first : AgreeFirst plans_by plans_handles
plans_first f g xs ys more others like same =
    let first = all_agree_first planned_by planned_handles planned_first f g xs ys more others
    (sym (plans_map (λ h. 0) xs) ∙ (like ∙ plans_map (λ h. 0) ys))
    (sym (ap (λ hs. numbers_by f (hs ++ more)) (plans_flat xs)) ∙ (same ∙ ap (λ hs. numbers_by g (hs ++ others)) (plans_flat ys))) in
    (plans_map f xs ∙ (first.0 ∙ sym (plans_map g ys)), first.1)

outcomes_first : AgreeFirst outcomes_by outcomes_handles
outcomes_first f g xs ys more others like same =
    let first = all_agree_first outcome_by outcome_handles outcome_first f g xs ys more others
    (sym (outcomes_map (λ h. 0) xs) ∙ (like ∙ outcomes_map (λ h. 0) ys))
    (sym (ap (λ hs. numbers_by f (hs ++ more)) (outcomes_flat xs)) ∙ (same ∙ ap (λ hs. numbers_by g (hs ++ others)) (outcomes_flat ys))) in
    (outcomes_map f xs ∙ (first.0 ∙ sym (outcomes_map g ys)), first.1)

standings_first : AgreeFirst standings_by standings_handles
standings_first f g xs ys more others like same =
    let first = all_agree_first (λ f. option_map (standing_by f)) option_handles option_first f g xs ys more others
    (sym (standings_map (λ h. 0) xs) ∙ (like ∙ standings_map (λ h. 0) ys))
    (sym (ap (λ hs. numbers_by f (hs ++ more)) (standings_flat xs)) ∙ (same ∙ ap (λ hs. numbers_by g (hs ++ others)) (standings_flat ys))) in
    (standings_map f xs ∙ (first.0 ∙ sym (standings_map g ys)), first.1)

kept_first : AgreeFirst kept_by kept_handles
kept_first f g xs ys more others like same =
    let first = all_agree_first standing_by standing_handles standing_first f g xs ys more others
    (sym (kept_map (λ h. 0) xs) ∙ (like ∙ kept_map (λ h. 0) ys))
    (sym (ap (λ hs. numbers_by f (hs ++ more)) (kept_flat xs)) ∙ (same ∙ ap (λ hs. numbers_by g (hs ++ others)) (kept_flat ys))) in
    (kept_map f xs ∙ (first.0 ∙ sym (kept_map g ys)), first.1)

root_first : (f g : ℕ → ℕ) (a b : Root) (more others : List ℕ) → root_by (λ h. 0) a ≡ root_by (λ h. 0) b
    → numbers_by f (a.handle ∷ more) ≡ numbers_by g (b.handle ∷ others) → (root_by f a ≡ root_by g b) × (numbers_by f more ≡ numbers_by g others)
root_first f g a b more others like same =
    let numbers : f a.handle ≡ g b.handle = cc in
    (ap (λ (r : Root). record r { handle = f a.handle }) like ∙ ap (λ n. record b { handle = n }) numbers, cc)

-- ---- ledgers and seats

same_ledgers : (root root' : Root) → root ≡ root' → (to_come to_come' : List Planned) → to_come ≡ to_come' → (told told' : List Outcome) → told ≡ told'
    → (standings standings' : List (Option StandingObject)) → standings ≡ standings' → (kept kept' : List StandingObject) → kept ≡ kept'
    → (let l : LedgerView = record { root = root; to_come = to_come; outcomes = told; standings = standings; kept = kept } in l)
    ≡ record { root = root'; to_come = to_come'; outcomes = told'; standings = standings'; kept = kept' }
same_ledgers root root' r to_come to_come' t told told' o standings standings' s kept kept' k = cc

ledger_first : AgreeFirst ledger_by ledger_handles
ledger_first f g a b more others like same =
    let apart : (l : LedgerView) (hs : List ℕ) → ledger_handles l ++ hs ≡ l.root.handle ∷ (plans_handles l.to_come ++ (outcomes_handles l.outcomes ++ (standings_handles l.standings ++ (kept_handles l.kept ++ hs)))) =
    λ l hs. simp append_assoc in
    let root = root_first f g a.root b.root _ _ (ap (λ (l : LedgerView). l.root) like) (ap (numbers_by f) (sym (apart a more)) ∙ (same ∙ ap (numbers_by g) (apart b others))) in
    let to_come = plans_first f g a.to_come b.to_come _ _ (ap (λ (l : LedgerView). l.to_come) like) root.1 in
    let outcomes = outcomes_first f g a.outcomes b.outcomes _ _ (ap (λ (l : LedgerView). l.outcomes) like) to_come.1 in
    let standings = standings_first f g a.standings b.standings _ _ (ap (λ (l : LedgerView). l.standings) like) outcomes.1 in
    let kept = kept_first f g a.kept b.kept more others (ap (λ (l : LedgerView). l.kept) like) standings.1 in (
      same_ledgers (root_by f a.root) (root_by g b.root) root.0 (plans_by f a.to_come) (plans_by g b.to_come) to_come.0
          (outcomes_by f a.outcomes) (outcomes_by g b.outcomes) outcomes.0 (standings_by f a.standings) (standings_by g b.standings) standings.0
          (kept_by f a.kept) (kept_by g b.kept) kept.0,
      kept.1,
    )

same_seats : (ledger ledger' : LedgerView) → ledger ≡ ledger' → (doing doing' : Option CallView) → doing ≡ doing'
    → (let s : Seat = record { ledger = ledger; doing = doing } in s) ≡ record { ledger = ledger'; doing = doing' }
same_seats ledger ledger' l doing doing' d = cc

doing_agree : (f g : ℕ → ℕ) (a b : Option CallView) → option_map (call_by (λ h. 0)) a ≡ option_map (call_by (λ h. 0)) b
    → numbers_by f (doing_call_handles a) ≡ numbers_by g (doing_call_handles b) → option_map (call_by f) a ≡ option_map (call_by g) b
doing_agree f g None None like same = refl
doing_agree f g None (Some b) like same = cc
doing_agree f g (Some a) None like same = cc
doing_agree f g (Some a) (Some b) like same = ap Some (like_calls_agree f g a b (same_Some (call_by (λ h. 0) a) (call_by (λ h. 0) b) like) same)

pub like_seats_agree : LikeSeatsAgree
like_seats_agree f g s t like same =
    let first = ledger_first f g s.ledger t.ledger (doing_call_handles s.doing) (doing_call_handles t.doing) (ap (λ (seat : Seat). seat.ledger) like) same in
    let doing = doing_agree f g s.doing t.doing (ap (λ (seat : Seat). seat.doing) like) first.1 in
    same_seats (ledger_by f s.ledger) (ledger_by g t.ledger) first.0 (option_map (call_by f) s.doing) (option_map (call_by g) t.doing) doing

-- ---- seats without outcomes

none_by : (f : ℕ → ℕ) (xs : List Outcome) → [] ≡ outcomes_by f xs → xs ≡ []
none_by f [] none = refl
none_by f (x ∷ xs) none = cc

pub like_without : (x y : Seat) → y.ledger.outcomes ≡ []
    → ledger_by (λ h. 0) (record x.ledger { outcomes = [] }) ≡ ledger_by (λ h. 0) (record y.ledger { outcomes = [] })
    → option_map (call_by (λ h. 0)) x.doing ≡ option_map (call_by (λ h. 0)) y.doing → LikeSeats (without_outcomes x) y
like_without x y none like doing =
    same_seats (ledger_by (λ h. 0) (record x.ledger { outcomes = [] })) (ledger_by (λ h. 0) y.ledger)
    (like ∙ ap (λ (told : List Outcome). ledger_by (λ h. 0) (record y.ledger { outcomes = told })) (sym none))
    (option_map (call_by (λ h. 0)) x.doing) (option_map (call_by (λ h. 0)) y.doing) doing

pub none_told : (x y : Seat) → LikeSeats (without_outcomes x) y → y.ledger.outcomes ≡ []
none_told x y like = none_by (λ h. 0) y.ledger.outcomes (ap (λ (s : Seat). s.ledger.outcomes) like)

pub ledgers_without : (x y : Seat) → LikeSeats (without_outcomes x) y
    → ledger_by (λ h. 0) (record x.ledger { outcomes = [] }) ≡ ledger_by (λ h. 0) (record y.ledger { outcomes = [] })
ledgers_without x y like =
    ap (λ (s : Seat). s.ledger) like
    ∙ ap (λ (told : List Outcome). ledger_by (λ h. 0) (record y.ledger { outcomes = told })) (none_told x y like)

pub calls_without : (x y : Seat) → LikeSeats (without_outcomes x) y → option_map (call_by (λ h. 0)) x.doing ≡ option_map (call_by (λ h. 0)) y.doing
calls_without x y like = ap (λ (s : Seat). s.doing) like
