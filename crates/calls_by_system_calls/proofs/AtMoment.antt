-- A step that was made by system calls was made at the moment of one of them.
use Rattle.std.proofs.Common.{◌≡◌, ◌≢◌, ⊎_elim, inl, inr, ℕ, ◌+◌, ◌-◌, ◌<◌, ◌≤◌, Bool, true, false, List, length, Option, Some, None, refl, sym, ap, ◌∙◌, subst, arith}
use Rattle.std.proofs.lemmas.Bool.{eq-eqb, false≢true}
use Rattle.std.proofs.lemmas.Option.{same_Some}
use Rattle.path_text.specs.declared.errno.Errno.{Errno}
use Rattle.tree_model.specs.declared.answer.Answer.{Answer}
use Rattle.tree_model.specs.declared.answer.Answer.TheVariants.{Opened, Text, Done, Refused}
use Rattle.tree_model.specs.declared.inode.Inode.{Inode}
use Rattle.tree_model.specs.declared.inode.Object.TheVariants as object
use Rattle.tree_model.specs.declared.step.Kind.{Kind}
use Rattle.tree_model.specs.declared.step.StepOf.TheVariants as steps
use Rattle.tree_model.specs.State.{State, names_below, object_at}
use Rattle.tree_model.specs.Steps.{held, is_full, outcome, shows}
use Rattle.tree_model.specs.StepLaws.{is_close_of, only_tells}
use Rattle.tree_model.specs.StepWith.{StepWith}
use Rattle.dialogue.specs.Dialogue.{Dialogue}
use Rattle.linux_steps.specs.Linux.{Linux as Moments, moment_behind}
use Rattle.linux_steps.specs.Promises.{Answered, DupStood, IsFound, IsNoLink, LinkStood, OpenStood, ParentStood}
use Rattle.linux_steps.specs.Steps.{dup_step, open_step, parent_step, read_link_step, Entry}
use Rattle.linux_steps.specs.declared.ended.Ended.{Ended}
use Rattle.linux_steps.specs.declared.ended.Ended.TheVariants as ended
use Rattle.linux_steps.proofs.LinkLemmas.{dups-stood, links-were-read}
use Rattle.linux_steps.proofs.OpenLemmas.{opens-stood}
use Rattle.linux_steps.proofs.ParentLemmas.{parents-stood}
use Rattle.root_ops.specs.Renumbered.{Numbering, step_by, answer_by}
use Rattle.calls_by_system_calls.specs.Linux.{Linux, state_at}
use Rattle.calls_by_system_calls.specs.Lines.{seen, Descriptors, HasRoom, IsTalked, LookIsMade, NameIsPassed, NamesAreListed, Tells, TextIsPassed, TextIsRefused, UpIsPassed, after_step, with_opened, with_closed}
use Rattle.calls_by_system_calls.specs.Places.{PlaceIsTold}
use Rattle.calls_by_system_calls.proofs.Answers.{alone, at_number, bad_text, missing_name, passed_name, passed_up, same_close, same_dup, same_list, same_open, same_parent, same_place, same_text, text_there}
use Rattle.calls_by_system_calls.proofs.Moments.{seen_is_linux}
use Rattle.calls_by_system_calls.proofs.Places.{place_stood}

abbrev pub numbering : (ℕ → ℕ) → (ℕ → ℕ) → Numbering
numbering f nodes = record { handle = f; node = nodes }

-- the step table answers so in each state with the nodes of that moment, where the handles are open
pub record AtMoment (x : Linux) (nodes : ℕ → ℕ) (m calls : ℕ) (table : Descriptors) (step : StepWith ℕ)
    (answer : Answer) : Type 0 where
  pub n : ℕ
  pub by : n ≤ calls
  pub tells : (t : State) (f g : ℕ → ℕ) → t.nodes ≡ (state_at x (m + n)).nodes
      → ((h d : ℕ) → table.on h ≡ Some d → held t 0 (f h) ≡ Some d)
      → (HasRoom table → is_full t 0 ≡ false)
      → ((h y : ℕ) (k : Kind) → answer ≡ Opened h y k → g h ≡ length t.handles)
      → (outcome t 0 (step_by (numbering f nodes) step)).answer ≡ answer_by (numbering g nodes) answer

-- what it does to the descriptors
pub data Effect (nodes : ℕ → ℕ) (table : Descriptors) (step : StepWith ℕ) (answer : Answer) : Type 0 where
  opens_one : (h y : ℕ) (k : Kind) → answer ≡ Opened h y k → HasRoom table
      → ((f : Numbering) (j : ℕ) → is_close_of j (step_by f step) ≡ false)
      → after_step nodes table step answer ≡ with_opened table h (nodes y) → Effect nodes table step answer
  closes_one : (h d : ℕ) → step ≡ steps.Close h → answer ≡ Done → table.on h ≡ Some d
      → after_step nodes table step answer ≡ with_closed table h → Effect nodes table step answer
  tells_only : only_tells answer ≡ true → after_step nodes table step answer ≡ table → Effect nodes table step answer

pub record Made (x : Linux) (nodes : ℕ → ℕ) (m calls : ℕ) (table : Descriptors) (step : StepWith ℕ)
    (answer : Answer) : Type 0 where
  pub at : AtMoment x nodes m calls table step answer
  pub effect : Effect nodes table step answer
  pub by_handles : (f g : ℕ → ℕ) → ((h d : ℕ) → table.on h ≡ Some d → f h ≡ g h)
      → step_by (numbering f nodes) step ≡ step_by (numbering g nodes) step

-- ---- what a step does to the descriptors

-- a step that is no Close, and opens nothing, leaves them
pub leaves : (nodes : ℕ → ℕ) (table : Descriptors) (step : StepWith ℕ) (answer : Answer)
    → ((j : ℕ) → is_close_of j step ≡ false) → ((h y : ℕ) (k : Kind) → answer ≡ Opened h y k → ⊥)
    → after_step nodes table step answer ≡ table
leaves nodes table (steps.Close h) answer other none = absurd (false≢true (sym (other h) ∙ eq-eqb h h refl))
leaves nodes table step (Opened h y k) other none = absurd (none h y k refl)
leaves nodes table step answer other none = refl

-- an answer whose handle has the number 1, with another number in that place
numbered : (nodes g : ℕ → ℕ) (number : ℕ) (answer : Answer)
    → ((h y : ℕ) (k : Kind) → answer ≡ Opened h y k → g h ≡ number)
    → at_number number (answer_by (numbering (λ h. 1) nodes) answer) ≡ answer_by (numbering g nodes) answer
unfolding at_number
numbered nodes g number (Opened h y k) is = ap (λ i. Opened i (nodes y) k) (sym (is h y k refl))
numbered nodes g number answer is = refl

same_opened : (y z : ℕ) (k l : Kind) → y ≡ z → k ≡ l → Opened 1 y k ≡ Opened 1 z l
same_opened y z k l p q = λ i. Opened 1 (p i) (q i)

module _ (x : Linux) (nodes : ℕ → ℕ) (m calls : ℕ) (table : Descriptors) where
  -- ---- a step by one handle

  -- It is no Close. It is answered by the nodes and by the node of that handle alone, but for the number of what it
  -- opens.
  record IsByHandle (step : ℕ → StepWith ℕ) (d : ℕ) : Type 0 where
    by : (f : Numbering) (h : ℕ) → step_by f (step h) ≡ step (f.handle h)
    other : (h j : ℕ) → is_close_of j (step h) ≡ false
    same : (ns : List Inode) (t : State) (k : ℕ) → t.nodes ≡ ns → held t 0 k ≡ Some d
        → (HasRoom table → is_full t 0 ≡ false)
        → (outcome t 0 (step k)).answer ≡ at_number (length t.handles) (outcome (alone ns d) 0 (step 0)).answer

  -- the end of a conversation as the step table has it, at one of its moments
  abbrev Ends : Moments → ℕ → ℕ → StepWith ℕ → Answer → Ended → Type 0
  Ends w now d step answer (ended.Opened fd kind) = HasRoom table × IsFound w m now d step fd kind
  Ends w now d step answer (ended.Text length) = Answered w m now d step (Text (w.text now))
  Ends w now d step answer (ended.Refused error) =
      (why : Errno) → answer ≡ Refused why → Answered w m now d step (Refused error)
  Ends w now d step answer end = Unit {0}

  module _ (step : ℕ → StepWith ℕ) (h d : ℕ) (is : IsByHandle step d) (on : table.on h ≡ Some d) where
    at : (answer : Answer) → Effect nodes table (step h) answer → (n : ℕ) → m ≤ n → n ≤ m + calls
        → (outcome (alone (state_at x n).nodes d) 0 (step 0)).answer ≡ answer_by (numbering (λ j. 1) nodes) answer
        → Made x nodes m calls table (step h) answer
    at answer effect n after before stood =
        let there : m + (n - m) ≡ n = omega (arith, after) in
        record {
          at = record {
            n = n - m;
            by = omega (arith, after, before);
            tells = λ t f g same helds full number.
                ap (λ z. (outcome t 0 z).answer) (is.by (numbering f nodes) h)
                ∙ is.same (state_at x n).nodes t (f h) (same ∙ ap (λ i. (state_at x i).nodes) there) (helds h d on) full
                ∙ ap (at_number (length t.handles)) stood
                ∙ numbered nodes g (length t.handles) answer number;
          };
          effect = effect;
          by_handles = λ f g same.
              is.by (numbering f nodes) h ∙ ap step (same h d on) ∙ sym (is.by (numbering g nodes) h);
        }

    opens : (j y : ℕ) (k : Kind) → HasRoom table → Effect nodes table (step h) (Opened j y k)
    opens j y k room =
        opens_one j y k refl room (λ f i. ap (is_close_of i) (is.by f h) ∙ is.other (f.handle h) i) refl

    tells : (answer : Answer) → only_tells answer ≡ true → Effect nodes table (step h) answer
    tells answer only =
        tells_only only (leaves nodes table (step h) answer (is.other h)
        (λ j y k e. false≢true (sym (ap only_tells e) ∙ only)))

    ended_so : (asks : Bool) (fds : ℕ → ℕ → Option ℕ) (layered : ℕ → Bool) (text : ℕ → List ℕ) (end : Ended)
        (answer : Answer) → Ends (seen x asks fds layered text) (m + calls) d (step 0) answer end
        → Tells nodes (fds (m + calls)) (text (m + calls)) end answer → Made x nodes m calls table (step h) answer
    ended_so asks fds layered text (ended.Opened fd kind) (Opened j y k) stood told =
        let found = stood.1 in
        let same = same_Some found.node (nodes y) (sym found.one.is_on ∙ told.1) in
        at (Opened j y k) (opens j y k stood.0) found.stood.0 (omega (arith, found.stood.1)) found.stood.2
        (found.stood.3 ∙ same_opened found.node (nodes y) kind k same (sym told.0))
    ended_so asks fds layered text (ended.Text length) (Text bytes) stood told =
        at (Text bytes) (tells (Text bytes) refl) stood.0 (omega (arith, stood.1)) stood.2
        (stood.3 ∙ ap Text (sym told))
    ended_so asks fds layered text (ended.Refused error) (Refused why) stood told =
        let refused = stood why refl in
        at (Refused why) (tells (Refused why) refl) refused.0 (omega (arith, refused.1)) refused.2
        (refused.3 ∙ ap Refused (sym told))
    ended_so asks fds layered text end answer stood told = absurd told

    talked : (asks : Bool) (dialogue : ℕ → Dialogue Ended) (answer : Answer)
        → (talk : IsTalked x nodes m calls d asks dialogue answer)
        → Ends (seen x asks talk.on talk.layered talk.text) (moment_behind m talk.exchanges) d (step 0) answer talk.end
        → Made x nodes m calls table (step h) answer
    talked asks dialogue answer talk stood =
        ended_so asks talk.on talk.layered talk.text talk.end answer
        (subst (λ now. Ends (seen x asks talk.on talk.layered talk.text) now d (step 0) answer talk.end) talk.all stood)
        talk.tells

  -- ---- Open

  open_is_by : (name : List ℕ) (d : ℕ) → HasRoom table → IsByHandle (λ i. steps.Open i name) d
  open_is_by name d room = record {
    by = λ f h. refl;
    other = λ h j. refl;
    same = λ ns t k e on full. same_open ns t k d name e on (full room);
  }

  open_ends : (w : Moments) (now d : ℕ) (name : List ℕ) (answer : Answer) (end : Ended) → HasRoom table
      → OpenStood w m now d name end → Ends w now d (steps.Open 0 name) answer end
  open_ends w now d name answer (ended.Opened fd kind) room stood = (room, stood)
  open_ends w now d name answer (ended.Refused error) room stood = λ why is. stood.1
  open_ends w now d name answer (ended.Text length) room stood = absurd stood
  open_ends w now d name answer end room stood = tt

  at_open : (h dir : ℕ) (name : List ℕ) (no_xdev : Bool) (answer : Answer) → HasRoom table → table.on h ≡ Some dir
      → IsTalked x nodes m calls dir false (λ fd. open_step fd name no_xdev) answer
      → Made x nodes m calls table (steps.Open h name) answer
  at_open h dir name no_xdev answer room on t =
      let w = seen x false t.on t.layered t.text in
      talked (λ i. steps.Open i name) h dir (open_is_by name dir room) on false (λ fd. open_step fd name no_xdev) answer t
      (open_ends w (moment_behind m t.exchanges) dir name answer t.end room
      (opens-stood w m t.fd dir name no_xdev t.exchanges t.end (seen_is_linux x false t.on t.layered t.text)
      t.is_on t.says t.is))

  at_name : (h dir : ℕ) (name : List ℕ) (answer : Answer) → HasRoom table → table.on h ≡ Some dir
      → NameIsPassed x nodes m calls dir name answer → Made x nodes m calls table (steps.Open h name) answer
  at_name h dir name (Opened j y k) room on made =
      let step : ℕ → StepWith ℕ = λ i. steps.Open i name in
      let is = open_is_by name dir room in
      at step h dir is on (Opened j y k) (opens step h dir is on j y k room) (m + made.0) (omega arith)
      (omega (arith, made.1))
      (passed_name (state_at x (m + made.0)).nodes dir name (nodes y) made.2 made.3 made.4 made.5
      ∙ ap (Opened 1 (nodes y)) (sym made.6))
  at_name h dir name (Refused error) room on made =
      let step : ℕ → StepWith ℕ = λ i. steps.Open i name in
      let is = open_is_by name dir room in
      at step h dir is on (Refused error) (tells step h dir is on (Refused error) refl) (m + made.0) (omega arith)
      (omega (arith, made.1))
      (missing_name (state_at x (m + made.0)).nodes dir name made.2 made.3 ∙ ap Refused (sym made.4))
  at_name h dir name answer room on made = absurd made

  -- ---- Parent

  parent_is_by : (d : ℕ) → HasRoom table → IsByHandle (λ i. steps.Parent i) d
  parent_is_by d room = record {
    by = λ f h. refl;
    other = λ h j. refl;
    same = λ ns t k e on full. same_parent ns t k d e on (full room);
  }

  parent_ends : (w : Moments) (now d : ℕ) (answer : Answer) (end : Ended) → HasRoom table → w.asks ≡ true
      → ParentStood w m now d end → Ends w now d (steps.Parent 0) answer end
  parent_ends w now d answer (ended.Opened fd kind) room asks (inl found) = (room, found)
  parent_ends w now d answer (ended.Opened fd kind) room asks (inr none) =
      absurd (false≢true (sym none.0 ∙ asks))
  parent_ends w now d answer (ended.Refused error) room asks stood = λ why is. stood.1
  parent_ends w now d answer (ended.Text length) room asks stood = absurd stood
  parent_ends w now d answer end room asks stood = tt

  at_parent : (h dir : ℕ) (no_xdev : Bool) (answer : Answer) → HasRoom table → table.on h ≡ Some dir
      → IsTalked x nodes m calls dir true (λ fd. parent_step fd no_xdev) answer
      → Made x nodes m calls table (steps.Parent h) answer
  at_parent h dir no_xdev answer room on t =
      let w = seen x true t.on t.layered t.text in
      talked (λ i. steps.Parent i) h dir (parent_is_by dir room) on true (λ fd. parent_step fd no_xdev) answer t
      (parent_ends w (moment_behind m t.exchanges) dir answer t.end room refl
      (parents-stood w m t.fd dir no_xdev t.exchanges t.end (seen_is_linux x true t.on t.layered t.text)
      t.is_on t.says t.is))

  at_up : (h dir : ℕ) (answer : Answer) → HasRoom table → table.on h ≡ Some dir
      → UpIsPassed x nodes m calls dir answer → Made x nodes m calls table (steps.Parent h) answer
  at_up h dir (Opened j y k) room on made =
      let step : ℕ → StepWith ℕ = λ i. steps.Parent i in
      let is = parent_is_by dir room in
      at step h dir is on (Opened j y k) (opens step h dir is on j y k room) (m + made.0) (omega arith)
      (omega (arith, made.1))
      (passed_up (state_at x (m + made.0)).nodes dir (nodes y) made.2 made.3 made.4
      ∙ ap (Opened 1 (nodes y)) (sym made.5))
  at_up h dir answer room on made = absurd made

  -- ---- Dup and ReadLink

  dup_ends : (w : Moments) (now d : ℕ) (answer : Answer) (end : Ended) → HasRoom table
      → DupStood w m now d end → Ends w now d (steps.Dup 0) answer end
  dup_ends w now d answer (ended.Opened fd kind) room stood = (room, stood)
  dup_ends w now d answer (ended.Refused error) room stood = absurd stood
  dup_ends w now d answer (ended.Text length) room stood = absurd stood
  dup_ends w now d answer end room stood = tt

  at_dup : (h dir : ℕ) (no_xdev : Bool) (answer : Answer) → HasRoom table → table.on h ≡ Some dir
      → IsTalked x nodes m calls dir false (λ fd. dup_step fd no_xdev) answer
      → Made x nodes m calls table (steps.Dup h) answer
  at_dup h dir no_xdev answer room on t =
      let w = seen x false t.on t.layered t.text in
      talked (λ i. steps.Dup i) h dir
      (record {
        by = λ f i. refl;
        other = λ i j. refl;
        same = λ ns z k e held full. same_dup ns z k dir e held (full room);
      })
      on false (λ fd. dup_step fd no_xdev) answer t
      (dup_ends w (moment_behind m t.exchanges) dir answer t.end room
      (dups-stood w m t.fd dir no_xdev t.exchanges t.end t.is_on t.says t.is))

  link_ends : (w : Moments) (now link : ℕ) (answer : Answer) (end : Ended)
      → ((error : Errno) → answer ≡ Refused error → IsNoLink w link)
      → LinkStood w m now link end → Ends w now link (steps.ReadLink 0) answer end
  link_ends w now link answer (ended.Opened fd kind) none stood = absurd stood
  link_ends w now link answer (ended.Refused error) none stood = λ why is. stood.1 (none why is)
  link_ends w now link answer (ended.Text length) none stood = stood.1
  link_ends w now link answer end none stood = tt

  text_is_by : (link : ℕ) → IsByHandle (λ i. steps.ReadLink i) link
  text_is_by link = record {
    by = λ f i. refl;
    other = λ i j. refl;
    same = λ ns z k e held full. same_text ns z k link e held;
  }

  at_link : (h link : ℕ) (answer : Answer) → table.on h ≡ Some link → TextIsPassed x m calls link answer
      → Made x nodes m calls table (steps.ReadLink h) answer
  at_link h link (Text text) on made =
      let step : ℕ → StepWith ℕ = λ i. steps.ReadLink i in
      let is = text_is_by link in
      at step h link is on (Text text) (tells step h link is on (Text text) refl) (m + made.0) (omega arith)
      (omega (arith, made.1)) (text_there (state_at x (m + made.0)).nodes link text made.2)
  at_link h link answer on made = absurd made

  at_text : (h link : ℕ) (is_link : Bool) (entry : Option Entry) (answer : Answer) → table.on h ≡ Some link
      → IsTalked x nodes m calls link false (λ fd. read_link_step fd is_link entry) answer
      → ((error : Errno) (n : ℕ) (text : List ℕ) → answer ≡ Refused error
      → object_at (state_at x n).nodes link ≢ Some (object.Link text))
      → Made x nodes m calls table (steps.ReadLink h) answer
  at_text h link is_link entry answer on t none =
      let w = seen x false t.on t.layered t.text in
      talked (λ i. steps.ReadLink i) h link (text_is_by link) on false (λ fd. read_link_step fd is_link entry) answer t
      (link_ends w (moment_behind m t.exchanges) link answer t.end (λ error is n text. none error n text is)
      (links-were-read w m t.fd link is_link entry t.exchanges t.end t.is_on t.says t.is))

  -- ---- NameBelow, List, Close

  tells_place : (r h : ℕ) (s : State) (o : Option (List (List ℕ))) → Effect nodes table (steps.NameBelow r h) (shows s o).answer
  tells_place r h s None = tells_only refl refl
  tells_place r h s (Some names) = tells_only refl refl

  same_names : (f : Numbering) (s : State) (o : Option (List (List ℕ))) → (shows s o).answer ≡ answer_by f (shows s o).answer
  same_names f s None = refl
  same_names f s (Some names) = refl

  at_place : (r h top node : ℕ) (answer : Answer) → table.on r ≡ Some top → table.on h ≡ Some node
      → PlaceIsTold x m calls top node answer → Made x nodes m calls table (steps.NameBelow r h) answer
  at_place r h top node answer on_top on_node made =
      let s = state_at x (m + made.n) in
      let o = names_below s.nodes top node in
      subst (λ a. Made x nodes m calls table (steps.NameBelow r h) a) (sym made.stood) (record {
        at = record {
          n = made.n;
          by = made.by;
          tells = λ t f g same helds full number.
              same_place s t (f r) (f h) top node same (helds r top on_top) (helds h node on_node)
              ∙ same_names (numbering g nodes) s o;
        };
        effect = tells_place r h s o;
        by_handles = λ f g same.
            λ i. steps.NameBelow (same r top on_top i) (same h node on_node i);
      })

  at_list : (h dir : ℕ) (answer : Answer) → table.on h ≡ Some dir → NamesAreListed x m calls dir answer
      → Made x nodes m calls table (steps.List h) answer
  at_list h dir answer on made =
      let s = state_at x (m + made.n) in
      subst (λ a. Made x nodes m calls table (steps.List h) a) (sym made.stood) (record {
        at = record {
          n = made.n;
          by = made.within;
          tells = λ t f g same helds full number. same_list s t (f h) dir same (helds h dir on) made.directory;
        };
        effect = tells_only refl refl;
        by_handles = λ f g same. ap (λ i. steps.List i) (same h dir on);
      })

  at_bad_text : (h dir : ℕ) (name text : List ℕ) (answer : Answer) → table.on h ≡ Some dir → TextIsRefused text answer
      → Made x nodes m calls table (steps.MakeLink h name text) answer
  at_bad_text h dir name text answer on made =
      subst (λ a. Made x nodes m calls table (steps.MakeLink h name text) a) (sym made.refused) (record {
        at = record {
          n = 0;
          by = omega arith;
          tells = λ t f g same helds full number. bad_text t (f h) dir name text made.fault (helds h dir on) made.why;
        };
        effect = tells_only refl refl;
        by_handles = λ f g same. ap (λ i. steps.MakeLink i name text) (same h dir on);
      })

  at_close : (h node : ℕ) (answer : Answer) → table.on h ≡ Some node → answer ≡ Done
      → Made x nodes m calls table (steps.Close h) answer
  at_close h node answer on made =
      subst (λ a. Made x nodes m calls table (steps.Close h) a) (sym made) (record {
        at = record {
          n = 0;
          by = omega arith;
          tells = λ t f g same helds full number. same_close t (f h) node (helds h node on);
        };
        effect = closes_one h node refl refl on refl;
        by_handles = λ f g same. ap (λ i. steps.Close i) (same h node on);
      })

  pub made_at_moment : ((h d : ℕ) → table.on h ≡ Some d → d < length (state_at x m).nodes)
      → (step : StepWith ℕ) (answer : Answer) → LookIsMade x nodes m table calls step answer → Made x nodes m calls table step answer
  made_at_moment within (steps.Open h name) answer made =
      ⊎_elim (λ talk. at_open h made.1 name talk.0 answer made.0 made.2 talk.1)
      (at_name h made.1 name answer made.0 made.2) made.3
  made_at_moment within (steps.Dup h) answer made = at_dup h made.1 made.3 answer made.0 made.2 made.4
  made_at_moment within (steps.Parent h) answer made =
      ⊎_elim (λ talk. at_parent h made.1 talk.0 answer made.0 made.2 talk.1)
      (at_up h made.1 answer made.0 made.2) made.3
  made_at_moment within (steps.ReadLink h) answer made =
      ⊎_elim (λ talk. at_text h made.0 talk.0 talk.1 answer made.1 talk.2 talk.3) (at_link h made.0 answer made.1) made.2
  made_at_moment within (steps.NameBelow r h) answer made =
      at_place r h made.0 made.1 answer made.2 made.3
      (place_stood x m calls made.0 made.1 answer (within h made.1 made.3) made.4)
  made_at_moment within (steps.Close h) answer made = at_close h made.0 answer made.1 made.2
  made_at_moment within (steps.List h) answer made = at_list h made.0 answer made.1 made.2
  made_at_moment within (steps.MakeLink h n text) answer made = at_bad_text h made.0 n text answer made.1 made.2
  made_at_moment within step answer made = absurd made
