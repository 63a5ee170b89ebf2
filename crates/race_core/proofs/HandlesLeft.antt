-- The handles that an actor's calls leave open, one call after another.
use Rattle.std.proofs.Common.{◌≡◌, ◌≢◌, ℕ, ◌==◌, Bool, true, false, if◌then◌else◌, List, [], ◌∷◌, ◌++◌, Option, Some, None, refl, sym, ap, ◌∙◌, subst}
use Rattle.std.proofs.lemmas.Bool.{eqb-true, eqb-false}
use Rattle.std.proofs.lemmas.List.Elements.{filter-append}
use Rattle.tree_model.specs.declared.answer.Event.{Event}
use Rattle.tree_model.specs.History.{IsLegal, after_events}
use Rattle.tree_model.specs.State.{State}
use Rattle.tree_model.specs.Steps.{held}
use Rattle.tree_model.proofs.HistoryLaws.{IsLegal-front, IsLegal-back, after_events-append}
use Rattle.tree_model.proofs.StepLaws.{others_handles_stay}
use Rattle.handles.specs.Objects.{StandingObject}
use Rattle.step_resolver.specs.declared.walk.Root.{Root}
use Rattle.step_resolver.specs.Order.{events_of}
use Rattle.step_resolver.specs.WalkHistory.{own_events}
use Rattle.step_resolver.proofs.Underway.LegalHistory.{nothing_more}
use Rattle.root_ops.specs.CallHistory.{CallInHistory, IsCallInHistory, begin_of, end_of, actor_of, HandlesAfter, AfterDone, CallsTell}
use Rattle.root_ops.specs.declared.op.Op.{Op}
use Rattle.root_ops.specs.declared.op.Op.TheVariants.{Resolve, ResolveNoFollow, ReadLink, CreateFile, CreateDir, CreateLink, RemoveFile, RemoveDir, Rename, MkdirAll, RemoveAll, Single, Release}
use Rattle.root_ops.specs.declared.op.Request.{Request}
use Rattle.root_ops.specs.Order.{Reply, opened, link_text, done, count, stepped, kept, fault}
use Rattle.root_ops.specs.TurnView.{below_of}
use Rattle.bulk_ops.proofs.OwnEvents.{cut}
use Rattle.root_ops.proofs.Handles.WalkParts.{HasRoot, root_later}
use Rattle.race_core.specs.EndHandles.{Word, words_of_done, words_of, words_of_call, all_words, last_word, HandlesAtEnd, RootsStayOpen, KeptIsReleased}
use Rattle.race_core.specs.OwnHistory.{NoneCloses}
use Rattle.race_core.specs.Turns.{request_of}
use Rattle.race_core.specs.WorldCalls.{opening_of, root_of, CallMade, IsMadeAs, kept_after, AreMade, events_of_calls, KeptAreReleased}
use Rattle.race_core.proofs.KeptOpen.{done_at}
use Rattle.race_core.proofs.OwnHistory.{none_first, none_rest, root_stays}

-- ---- words

pub words_on : (before : Option ℕ) (h : ℕ) (words others : List Word) → last_word before h (words ++ others) ≡ last_word (last_word before h words) h others
words_on before h [] others = refl
words_on before h (word ∷ words) others = words_on (if word.handle == h then word.node else before) h words others

-- where each other handle is as it was
one_word : (before new : ℕ → Option ℕ) (k : ℕ) (node : Option ℕ) → new k ≡ node → ((h : ℕ) → h ≢ k → new h ≡ before h) → (h : ℕ)
    → new h ≡ last_word (before h) h (record { handle = k; node = node } ∷ [])
one_word before new k node is others h = on (k == h) refl
  where
    on : (b : Bool) → (k == h) ≡ b → new h ≡ (if k == h then node else before h)
    on true e = ap new (sym (eqb-true k h e)) ∙ is ∙ ap (λ b. if b then node else before h) (sym e)
    on false e = others h (λ q. eqb-false k h e (sym q)) ∙ ap (λ b. if b then node else before h) (sym e)

module _ (c : CallInHistory) where
  abbrev was : ℕ → Option ℕ
  was h = held (begin_of c) (actor_of c) h

  abbrev now : ℕ → Option ℕ
  now h = held (end_of c) (actor_of c) h

  done_words : (op : Op) → AfterDone c op → (h : ℕ) → now h ≡ last_word (was h) h (words_of_done op)
  done_words (Resolve path) stay h = stay h
  done_words (ResolveNoFollow path) stay h = stay h
  done_words (ReadLink path) stay h = stay h
  done_words (CreateFile path) stay h = stay h
  done_words (CreateDir path) stay h = stay h
  done_words (CreateLink path text) stay h = stay h
  done_words (RemoveFile path) stay h = stay h
  done_words (RemoveDir path) stay h = stay h
  done_words (Rename old new mode) stay h = stay h
  done_words (MkdirAll path) stay h = stay h
  done_words (RemoveAll path) stay h = stay h
  done_words (Single step) stay h = stay h
  done_words (Release standing) less h = one_word (λ k. was k) (λ k. now k) standing.handle None less.closed less.others h

  call_words : (reply : Reply) → HandlesAfter c reply → (h : ℕ) → now h ≡ last_word (was h) h (words_of c.op reply)
  call_words (opened handle names) more h = one_word (λ k. was k) (λ k. now k) handle.number (Some handle.node) more.is_open more.others h
  call_words (link_text text) stay h = stay h
  call_words done after h = done_words c.op after h
  call_words (count n) stay h = stay h
  call_words (stepped answer) stay h = stay h
  call_words (kept standing) stay h = stay h
  call_words (fault error) stay h = stay h

-- ---- one call after another

module _ (tell : CallsTell) (root : Root) (node : ℕ) where
  abbrev a : ℕ
  a = root.owner.actor

  -- the tree here, and the root open in it
  pub record IsHere (s : State) (rest : List Event) : Type 0 where
    pub has : (request : Request) → HasRoot (below_of root request.flags) node s
    pub legal : IsLegal s rest

  after_one : (s : State) (rest : List Event) (c : CallMade) (request : Option Request) → IsMadeAs root request c → IsHere s rest → own_events a rest ≡ events_of a c.lines
      → (h : ℕ) → held (after_events s rest) a h ≡ last_word (held s a h) h (words_of_call request c.reply)
  after_one s rest c None made here own h = nothing_more others_handles_stay a rest s (own ∙ ap (events_of a) made.0) h
  after_one s rest c (Some request) made here own h =
      let the_call : CallInHistory = record {
        opening = s;
        before = [];
        window = rest;
        below = below_of root request.flags;
        root = node;
        room = c.room;
        op = request.op;
        lines = c.lines;
      } in
      let has = here.has request in
      let placed : IsCallInHistory the_call = record { tree = has.tree; legal_before = tt; legal = here.legal; own = own; root = has.root; root_is_dir = has.root_is_dir } in
      call_words the_call c.reply (tell the_call c.reply placed made) h

  after_all : (calls : List CallMade) (standings : List (Option StandingObject)) (s : State) (rest : List Event) → AreMade root standings calls → IsHere s rest
      → own_events a rest ≡ events_of_calls a calls → NoneCloses root.handle (events_of_calls a calls)
      → (h : ℕ) → held (after_events s rest) a h ≡ last_word (held s a h) h (all_words root standings calls)
  after_all [] standings s rest made here own none h = nothing_more others_handles_stay a rest s own h
  after_all (c ∷ calls) standings s rest made here own none h =
      let parts = cut a rest (events_of a c.lines) (events_of_calls a calls) own in
      let whole : IsLegal s (parts.before ++ parts.after) = subst (IsLegal s) parts.whole here.legal in
      let first : IsHere s parts.before = record { has = here.has; legal = IsLegal-front s parts.before parts.after whole } in
      let closes_none : NoneCloses root.handle (own_events a parts.before) =
      subst (NoneCloses root.handle) (sym parts.own_before) (none_first root.handle (events_of a c.lines) (events_of_calls a calls) none) in
      let next : IsHere (after_events s parts.before) parts.after = record {
        has = λ request. root_later (below_of root request.flags) node s parts.before (here.has request)
            (root_stays a root.handle node parts.before s (here.has request).root closes_none);
        legal = IsLegal-back s parts.before parts.after whole;
      } in
      ap (λ es. held (after_events s es) a h) parts.whole
      ∙ ap (λ (t : State). held t a h) (after_events-append s parts.before parts.after)
      ∙ after_all calls (kept_after root.owner standings c) (after_events s parts.before) parts.after made.1 next parts.own_after
      (none_rest root.handle (events_of a c.lines) (events_of_calls a calls) none) h
      ∙ ap (λ o. last_word o h (all_words root (kept_after root.owner standings c) calls))
      (after_one s parts.before c (request_of root standings c.planned) made.0 first parts.own_before h)
      ∙ sym (words_on (held s a h) h (words_of_call (request_of root standings c.planned) c.reply) (all_words root (kept_after root.owner standings c) calls))

pub handles_at_end : CallsTell → HandlesAtEnd
handles_at_end tell r i plan of closes_own h =
    let opening = opening_of r in
    let here : IsHere tell (root_of r i) of.node opening r.events = record {
      has = λ request. record { tree = of.history.tree; root = of.history.opened; root_is_dir = of.history.directory };
      legal = of.history.legal;
    } in
    ap (λ (s : State). held s i h) of.leads
    ∙ after_all tell (root_of r i) of.node of.calls [] opening r.events of.made here of.own (subst (NoneCloses (root_of r i).handle) of.own (of.spared closes_own)) h

-- ---- the root, and what is kept

pub roots_stay_open : RootsStayOpen
roots_stay_open r i plan of before after closes_own whole =
    let own_first : own_events i r.events ≡ own_events i before ++ own_events i after = ap (own_events i) whole ∙ filter-append (λ (v : Event). v.actor == i) before after in
    root_stays i (root_of r i).handle of.node before (opening_of r) of.history.opened
    (none_first (root_of r i).handle (own_events i before) (own_events i after) (subst (NoneCloses (root_of r i).handle) own_first (of.spared closes_own)))

pub kept_is_released : KeptIsReleased
kept_is_released r i plan of earlier c later closes_own split =
    done_at (root_of r i).owner [] earlier c later (subst (KeptAreReleased (root_of r i).owner []) split (of.released closes_own))
