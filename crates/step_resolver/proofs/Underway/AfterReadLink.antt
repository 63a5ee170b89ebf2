-- What the answer to a ReadLink makes of a walk.
use Rattle.std.specs.Prelude.{◌≡◌, ℕ, suc, List, [], ◌∷◌, ◌++◌, Bool, true, false, if◌then◌else◌, Option, Some, None, refl}
use Rattle.std.proofs.Common.{sym, ap, subst, ◌∙◌, le_trans, append-nil, inr}
use Rattle.std.proofs.Math.Nat.{le-suc}
use Rattle.std.proofs.lemmas.Bool.{and_parts}
use Rattle.path_text.specs.declared.errno.Errno.TheVariants.{NoMemory, CrossRoot}
use Rattle.path_text.specs.Text.{text_fault, parts_of, begins_with_slash}
use Rattle.tree_model.specs.declared.answer.Answer.{Answer}
use Rattle.tree_model.specs.declared.answer.Answer.TheVariants.{Text}
use Rattle.tree_model.specs.declared.inode.Object.TheVariants.{Link}
use Rattle.tree_model.specs.declared.step.StepOf.TheVariants.{ReadLink}
use Rattle.tree_model.specs.State.{object_at}
use Rattle.tree_model.specs.Steps.{outcome, answered, reads}
use Rattle.walk_plan.specs.Plan.{leads_out}
use Rattle.step_resolver.specs.Asked.{AskedPart, Named, followed}
use Rattle.step_resolver.specs.TrailLaws.{Split, passed, stopped}
use Rattle.step_resolver.specs.Trail.{Timeline, Spot, Trail, through, into, IsLinkAt, from_text}
use Rattle.step_resolver.specs.Order.{Handle, Position, root_itself, todo, onward, reading, names_of, handles_of, gives_up, take, read_text, from_link}
use Rattle.step_resolver.specs.WalkHistory.{WalkInHistory, state_at, timeline}
use Rattle.step_resolver.specs.Failures.{IsWithinLink, TellsError}
use Rattle.step_resolver.proofs.Trail.Joined.{split}
use Rattle.step_resolver.proofs.Underway.StepOutcomes.{read_is}
use Rattle.step_resolver.proofs.Underway.WalkInvariant.{Lived, StepAt, held_at, HandlesAre, handles_kept, held_node, node_at, spot_at, IsPositionHeld, Going, going_later, stop_at, trail_at, no_stop, passes, GoodReading, Good}
use Rattle.step_resolver.proofs.Underway.NextPart.{gave_up, closes_good, all_apart}
use Rattle.step_resolver.proofs.Underway.HandlesHeld.{kept_on, position_kept}

-- whatever leads over a link's parts and what comes after them leads over the link's name and what comes after it
pub spliced : (timeline : Timeline) (n text : List ℕ) (s : Spot) (t b : ℕ) → IsLinkAt timeline s n t text b
    → (ps : List AskedPart) (z : Spot) (next : Option AskedPart) → Trail timeline (followed (parts_of text) ++ ps) (from_text timeline s text b (suc t)) z next
    → Trail timeline (Named true n ∷ ps) s z next
spliced timeline n text s t b is ps z next tr = on (split timeline (followed (parts_of text)) ps tr)
  where
    on : Split timeline (followed (parts_of text)) ps (from_text timeline s text b (suc t)) z next → Trail timeline (Named true n ∷ ps) s z next
    on (passed mid u v) = through t text b mid is u v
    on (stopped p e u) = subst (Trail timeline (Named true n ∷ ps) s z) (sym e) (into t text b is u)

module _ {w : WalkInHistory} (lived : Lived w) (now u : ℕ) (room : Bool) (want : room ≡ false → TellsError w NoMemory)
    (position : Position) (link : Handle) (inner rest : List AskedPart) (b : ℕ)
    (good : GoodReading w now position link inner rest b) (answer : Answer)
    (is : StepAt w now u (ReadLink link.number) answer) where
  abbrev text : List ℕ
  text = good.text

  object_is : object_at (state_at w u).nodes link.node ≡ Some (Link text)
  object_is =
      let o = held_node (state_at w u) w.actor link.number link.node (lived.states u) (is.kept link.number ∙ good.link_held.is_open) in
      o.1 ∙ sym (lived.objects u link.node o.0 o.1) ∙ good.is_link

  outcome_is : outcome (state_at w u) w.actor (ReadLink link.number) ≡ answered (state_at w u) (Text text)
  outcome_is = read_is (state_at w u) w.actor link.number link.node (is.kept link.number ∙ good.link_held.is_open) ∙ ap (reads (state_at w u)) object_is

  no_fault : text_fault text ≡ None
  no_fault = (lived.states u).tree.links_have_texts link.node text object_is

  kept : (h : ℕ) → held_at w (suc u) h ≡ held_at w now h
  kept = kept_on is (ap (λ r. r.after) outcome_is)

  handles_now : HandlesAre w (suc u) (link.number ∷ handles_of position)
  handles_now = handles_kept kept good.handles

  position_now : IsPositionHeld w (suc u) position
  position_now = position_kept w now (suc u) position kept good.position_held

  -- the parts of the text come in the place of the link's name
  going_on : leads_out (begins_with_slash text) w.way.flags ≡ false → (to : Position) → from_text (timeline w) (spot_at w position (suc b) good.m) text b (suc good.t) ≡ spot_at w to b (suc good.t)
      → Going w (suc u) to (followed (parts_of text) ++ inner) rest b
  going_on within to e = going_later (le_trans good.past (le_trans is.at.later (le-suc u)))
      (passes good.own (Named true good.name) position inner rest (suc b) good.going (followed (parts_of text)) to b (suc good.t)
      (λ ps z next tr. spliced (timeline w) good.name text (spot_at w position (suc b) good.m) good.t b
      (record { link = link.node; child = good.at; is_link = good.is_link; links = refl; allowed = good.allowed; within = within })
      ps z next (subst (λ s. Trail (timeline w) (followed (parts_of text) ++ ps) s z next) (sym e) tr))
      (λ g z q tr. within_text (is_at within) g z q (split (timeline w) (followed (parts_of text)) []
      (subst (λ s. Trail (timeline w) (followed (parts_of text) ++ []) s z (Some q)) (sym e) tr))))
    where
      is_at : leads_out (begins_with_slash text) w.way.flags ≡ false → IsLinkAt (timeline w) (spot_at w position (suc b) good.m) good.name good.t text b
      is_at inside = record { link = link.node; child = good.at; is_link = good.is_link; links = refl; allowed = good.allowed; within = inside }

      within_text : IsLinkAt (timeline w) (spot_at w position (suc b) good.m) good.name good.t text b → Going w good.m position [] (Named true good.name ∷ rest) (suc b)
          → (z : Spot) (q : AskedPart) → Split (timeline w) (followed (parts_of text)) [] (from_text (timeline w) (spot_at w position (suc b) good.m) text b (suc good.t)) z (Some q)
          → IsWithinLink w z q
      within_text is_link g z q (passed mid u v) = absurd (no_stop v)
      within_text is_link g z q (stopped p same u) = record {
        front = g.taken;
        name = good.name;
        rest = rest;
        parts = g.parts;
        mid = spot_at w position (suc b) good.m;
        trail = trail_at g;
        when = good.t;
        text = text;
        left = b;
        link = is_link;
        stop = subst (λ x. Trail (timeline w) (followed (parts_of text)) (from_text (timeline w) (spot_at w position (suc b) good.m) text b (suc good.t)) z x) (sym same) u;
      }

  abbrev starting : Bool → Spot
  starting x = record {
    node = if x then w.root else node_at w position;
    names = if x then [] else names_of position;
    links = b;
    moment = suc good.t;
  }

  from_good : leads_out (begins_with_slash text) w.way.flags ≡ false → (x : Bool) → begins_with_slash text ≡ x → (r : Bool) → room ≡ r
      → Good w (suc u) (from_link w.way r position link x (followed (parts_of text)) (todo inner rest b))
  from_good within true e true q =
      closes_good lived (suc u) (link.number ∷ handles_of position) (onward root_itself (todo (followed (parts_of text) ++ inner) rest b))
      (going_on within root_itself (ap starting e), tt)
      (all_apart (link.number ∷ handles_of position))
      (subst (HandlesAre w (suc u)) (sym (append-nil (link.number ∷ handles_of position))) handles_now)
  from_good within false e true q =
      closes_good lived (suc u) (link.number ∷ []) (onward position (todo (followed (parts_of text) ++ inner) rest b))
      (going_on within position (ap starting e), position_now) (good.apart, tt) handles_now
  from_good within true e false q = gave_up lived (link.number ∷ handles_of position) NoMemory (want q) handles_now
  from_good within false e false q = gave_up lived (link.number ∷ handles_of position) NoMemory (want q) handles_now

  text_good : (x : Bool) → leads_out (begins_with_slash text) w.way.flags ≡ x → Good w (suc u) (read_text w.way room position link (todo inner rest b) text None)
  text_good true e =
      subst (Good w (suc u)) (sym (ap (λ x. if x then gives_up (link.number ∷ handles_of position) CrossRoot
      else from_link w.way room position link (begins_with_slash text) (followed (parts_of text)) (todo inner rest b)) e))
      (gave_up lived (link.number ∷ handles_of position) CrossRoot (record {
        beneath = (and_parts w.way.flags.beneath (begins_with_slash text) e).0;
        why = inr (inr (record {
          to = spot_at w position (suc b) good.m;
          name = good.name;
          stop = stop_at w good.own (Named true good.name) position (todo inner rest (suc b)) good.going;
          left = b;
          links = refl;
          allowed = good.allowed;
          text = text;
          absolute = (and_parts w.way.flags.beneath (begins_with_slash text) e).1;
          when = good.t;
          link = record { dir = good.at.dir; short = good.at.short; at = good.at.at; link = link.node; child = good.at.child; is_link = good.is_link };
        }));
      }) handles_now)
  text_good false e =
      subst (Good w (suc u)) (sym (ap (λ x. if x then gives_up (link.number ∷ handles_of position) CrossRoot
      else from_link w.way room position link (begins_with_slash text) (followed (parts_of text)) (todo inner rest b)) e))
      (from_good e (begins_with_slash text) refl room refl)

  -- what an answer to ReadLink makes of it
  pub reading_good : Good w (suc u) (take w.way room (reading position link (todo inner rest b)) answer)
  reading_good =
      subst (λ v. Good w (suc u) (take w.way room (reading position link (todo inner rest b)) v)) (sym (is.told ∙ ap (λ r. r.answer) outcome_is))
      (subst (λ f. Good w (suc u) (read_text w.way room position link (todo inner rest b) text f)) (sym no_fault)
      (text_good (leads_out (begins_with_slash text) w.way.flags) refl))
