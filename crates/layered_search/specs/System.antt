-- What a search of all schedules asks of a system: actors take turns, and each turn leads from a state to one other.
use Rattle.std.specs.Prelude.{◌≡◌, ◌<◌, ◌↔◌, ℕ, suc, List, Bool, true, false}
use Rattle.layered_search.specs.Moves.{Moves, after}

-- ---- the system

-- The state in which each schedule begins, and how many actors there are; the state after an actor's turn, and whether
-- an actor has something left to do. An actor that is within a call is cut off from it by another's turn. One state may
-- be gone on from in place of another that is alike. Two ends agree where they come to the same outcome. States count
-- as one where nobody needs to tell them apart in a number of states.
pub record System (State : Type 0) : Type 1 where
  pub begin : State
  pub actors : ℕ
  pub turn : State → ℕ → State
  pub is_busy : State → ℕ → Bool
  pub is_within : State → ℕ → Bool
  pub Alike : State → State → Type 0
  pub Agree : State → State → Type 0
  pub CountAsOne : State → State → Type 0

abbrev pub moves_of : {State : Type 0} → System State → Moves State
moves_of s = record { turn = s.turn; is_busy = s.is_busy; is_within = s.is_within }

module _ {State : Type 0} (s : System State) where
  -- the state after these actors' turns
  abbrev pub after_turns : State → List ℕ → State
  after_turns v is = after (moves_of s) v is

  -- and from the beginning on
  abbrev pub state_after : List ℕ → State
  state_after is = after_turns s.begin is

  -- Only the actors have turns, and who has nothing left to do is within no call. States that are alike go on alike, to
  -- ends that agree; and these are equivalences.
  pub record IsSystem : Type 0 where
    pub few : (is : List ℕ) (i : ℕ) → s.is_busy (state_after is) i ≡ true → i < s.actors
    pub idle_outside : (is : List ℕ) (i : ℕ) → s.is_busy (state_after is) i ≡ false
        → s.is_within (state_after is) i ≡ false
    pub alike_itself : (v : State) → s.Alike v v
    pub alike_on : (v u w : State) → s.Alike v u → s.Alike u w → s.Alike v w
    pub alike_turns : (v w : State) (i : ℕ) → s.Alike v w → s.Alike (s.turn v i) (s.turn w i)
    pub alike_busy : (v w : State) (i : ℕ) → s.Alike v w → s.is_busy v i ≡ s.is_busy w i
    pub alike_within : (v w : State) (i : ℕ) → s.Alike v w → s.is_within v i ≡ s.is_within w i
    pub alike_agree : (v w : State) → s.Alike v w → s.Agree v w
    pub agree_itself : (v : State) → s.Agree v v
    pub agree_back : (v w : State) → s.Agree v w → s.Agree w v
    pub agree_on : (v u w : State) → s.Agree v u → s.Agree u w → s.Agree v w

-- ---- how states are known

-- A search knows a state by a key. What a key means lies in a memory, which only grows, and is sound. The number is how
-- many turns led to the state. Keys that are the same are of states that are alike; a number is common to keys that
-- count as one.
pub record Keys (State Memory Key : Type 0) : Type 1 where
  pub IsSound : Memory → Type 0
  pub Grows : Memory → Memory → Type 0
  pub IsKey : Memory → ℕ → State → Key → Type 0
  pub AreSame : Key → Key → Type 0
  pub CountAsOne : Key → Key → Type 0
  pub print_of : Key → ℕ

module _ {State Memory Key : Type 0} (s : System State) (k : Keys State Memory Key) where
  -- the key of each state with the one key becomes, after the actor's turn, the other
  abbrev pub Follows : Memory → Memory → ℕ → Key → ℕ → Key → Type 0
  Follows before now n key i next = (v : State) → k.IsKey before n v key → k.IsKey now (suc n) (s.turn v i) next

  -- where keys count as one exactly where their states do
  abbrev pub CountStates : Memory → Type 0
  CountStates memory = (n : ℕ) (v w : State) (key other : Key) → k.IsKey memory n v key → k.IsKey memory n w other
      → (k.CountAsOne key other ↔ s.CountAsOne v w)

  pub record AreKeys : Type 0 where
    pub grows_itself : (memory : Memory) → k.Grows memory memory
    pub grows_on : (a b c : Memory) → k.Grows a b → k.Grows b c → k.Grows a c
    pub stays : (a b : Memory) (n : ℕ) (v : State) (key : Key) → k.Grows a b → k.IsKey a n v key → k.IsKey b n v key
    pub same_alike : (memory : Memory) (n : ℕ) (v w : State) (key other : Key) → k.IsKey memory n v key
        → k.IsKey memory n w other → k.AreSame key other → s.Alike v w
    pub same_key : (memory : Memory) (n : ℕ) (v : State) (key other : Key) → k.IsKey memory n v key
        → k.AreSame key other → k.IsKey memory n v other
    pub same_itself : (key : Key) → k.AreSame key key
    pub same_counts : (key other : Key) → k.AreSame key other → k.CountAsOne key other
    pub one_itself : (key : Key) → k.CountAsOne key key
    pub one_back : (key other : Key) → k.CountAsOne key other → k.CountAsOne other key
    pub one_on : (a b c : Key) → k.CountAsOne a b → k.CountAsOne b c → k.CountAsOne a c
    pub one_print : (key other : Key) → k.CountAsOne key other → k.print_of key ≡ k.print_of other

-- ---- what an end comes to

-- An outcome is of a state in which nobody has anything left to do. Two are the same where the states agree.
pub record Outcomes (State Outcome : Type 0) : Type 1 where
  pub Tells : State → Outcome → Type 0
  pub AreSame : Outcome → Outcome → Type 0

module _ {State Outcome : Type 0} (s : System State) (o : Outcomes State Outcome) where
  pub record AreOutcomes : Type 0 where
    pub same_agree : (v w : State) (one other : Outcome) → o.Tells v one → o.Tells w other → o.AreSame one other
        → s.Agree v w
    pub agree_same : (v w : State) (one other : Outcome) → o.Tells v one → o.Tells w other → s.Agree v w
        → o.AreSame one other
