-- What is passed from a ReadLink on.
use Rattle.std.specs.Prelude.{◌≡◌, ℕ, suc, ◌+◌, ◌≤◌, List, [], ◌∷◌, ◌++◌, Bool, true, false, if◌then◌else◌, length, Some, None, refl}
use Rattle.std.proofs.Common.{sym, ap, subst, ◌∙◌, le_refl, le_trans, inr, arith}
use Rattle.std.proofs.Math.Nat.{le-suc}
use Rattle.std.proofs.lemmas.Bool.{and_parts}
use Rattle.std.proofs.lemmas.List.{length-map}
use Rattle.path_text.specs.declared.errno.Errno.{Errno}
use Rattle.path_text.specs.declared.errno.Errno.TheVariants.{NoMemory, CrossRoot}
use Rattle.path_text.specs.Text.{text_fault, parts_of, begins_with_slash}
use Rattle.tree_model.specs.declared.answer.Answer.{Answer}
use Rattle.tree_model.specs.declared.answer.Answer.TheVariants.{Text}
use Rattle.tree_model.specs.declared.inode.Object.TheVariants.{Link}
use Rattle.tree_model.specs.declared.step.StepOf.TheVariants.{ReadLink}
use Rattle.tree_model.specs.State.{object_at}
use Rattle.tree_model.specs.Steps.{outcome, answered, reads}
use Rattle.walk_plan.specs.Plan.{leads_out}
use Rattle.step_resolver.specs.Asked.{AskedPart, Named, ask, followed}
use Rattle.step_resolver.specs.Trail.{Spot, IsChildAt, from_text}
use Rattle.step_resolver.specs.Order.{Handle, Position, todo, reading, Turn, failed, names_of, handles_of, gives_up, take, read_text, from_link}
use Rattle.step_resolver.specs.WalkHistory.{WalkInHistory, state_at, timeline}
use Rattle.step_resolver.proofs.WalkSteps.{one_handle}
use Rattle.step_resolver.proofs.Underway.StepOutcomes.{read_is}
use Rattle.step_resolver.proofs.Underway.WalkInvariant.{Lived, StepAt, held_node, node_at, spot_at, GoodReading}
use Rattle.further_walk_laws.specs.TrailSteps.{parts_told}
use Rattle.further_walk_laws.proofs.Splitting.{through_link}
use Rattle.further_walk_laws.proofs.Passing.{TellsOf, tells_whole, on_the_way, Ahead, AheadFor, AheadAt, passed_for, stopped_for, given_up}

failed_pays : (n k : ℕ) → n ≤ suc k → k ≤ 1 → suc n ≤ 3
failed_pays n k le few = omega (arith, le, few)

read_pays : (n k : ℕ) → k ≤ 1 → suc n + (suc k + 4) ≤ n + 3 + 4
read_pays n k few = omega (arith, few)

module _ {w : WalkInHistory} (lived : Lived w) (end : Turn) (texts now u n : ℕ) (room : Bool) (position : Position) (link : Handle) (inner rest : List AskedPart) (b : ℕ)
    (good : GoodReading w now position link inner rest b) (answer : Answer) (is : StepAt w now u (ReadLink link.number) answer)
    (own : Bool) (alone : own ≡ true → inner ≡ []) (name : List ℕ) (m t : ℕ) (text : List ℕ)
    (at : IsChildAt (timeline w) (spot_at w position (suc b) m) name t link.node) (past : suc t ≤ now) (allowed : w.way.flags.no_links ≡ false)
    (is_link : (timeline w).object_of link.node ≡ Some (Link text)) where
  -- what is passed from the name of the link on
  abbrev Before : Type 0
  Before = AheadFor w end (parts_told answer + texts) own (Named true name) inner rest (spot_at w position (suc b) m) (suc n) 3

  abbrev Then : Turn → Type 0
  Then turn = AheadAt w end texts (suc u) turn n

  -- the walk gives up, and stops before the name of the link
  stopped : (error : Errno) → TellsOf w (failed error) [] (spot_at w position (suc b) m) (Some (Named true name)) → Then (gives_up (link.number ∷ handles_of position) error) → Before
  stopped error told ahead =
      let fails = given_up w end texts (suc u) n (link.number ∷ handles_of position) error ahead in
      stopped_for w end (parts_told answer + texts) (suc n) 3 m own (Named true name) inner rest (spot_at w position (suc b) m) alone (le_refl m)
      (failed_pays n (length (handles_of position)) fails.0 (one_handle position)) fails.2 (fails.1 [] (spot_at w position (suc b) m) (Some (Named true name)) told)

  object_is : object_at (state_at w u).nodes link.node ≡ Some (Link text)
  object_is =
      let o = held_node (state_at w u) w.actor link.number link.node (lived.states u) (is.kept link.number ∙ good.link_held.is_open) in
      o.1 ∙ sym (lived.objects u link.node o.0 o.1) ∙ is_link

  outcome_is : outcome (state_at w u) w.actor (ReadLink link.number) ≡ answered (state_at w u) (Text text)
  outcome_is = read_is (state_at w u) w.actor link.number link.node (is.kept link.number ∙ good.link_held.is_open) ∙ ap (reads (state_at w u)) object_is

  no_fault : text_fault text ≡ None
  no_fault = (lived.states u).tree.links_have_texts link.node text object_is

  parts_come : parts_told answer + texts ≡ length (followed (parts_of text)) + texts
  parts_come = ap (λ v. parts_told v + texts) (is.told ∙ ap (λ r. r.answer) outcome_is) ∙ ap (λ k. k + texts) (sym (length-map (parts_of text) (ask true)))

  earlier : suc t ≤ suc u
  earlier = le_trans past (le_trans is.at.later (le-suc u))

  -- the parts of the text come in the place of the link's name
  through_text : (k : ℕ) → k ≤ 1 → leads_out (begins_with_slash text) w.way.flags ≡ false
      → Ahead w end texts (followed (parts_of text) ++ inner) rest (from_text (timeline w) (spot_at w position (suc b) m) text b (suc t)) n (suc k + 4) → Before
  through_text k few within ahead = passed_for (spot_at w position (suc b) m) texts (parts_told answer + texts) n (suc k + 4) (suc n) 3 own (Named true name) (followed (parts_of text)) inner rest alone
      (read_pays n k few) parts_come
      (λ ps z next trail. through_link (timeline w) name text (spot_at w position (suc b) m) t b
      (record { link = link.node; child = at; is_link = is_link; links = refl; allowed = allowed; within = within }) ps z next trail)
      ahead

  abbrev starting : Bool → Spot
  starting x = record {
    node = if x then w.root else node_at w position;
    names = if x then [] else names_of position;
    links = b;
    moment = suc t;
  }

  from_link_ahead : leads_out (begins_with_slash text) w.way.flags ≡ false → (x : Bool) → begins_with_slash text ≡ x → (r : Bool)
      → Then (from_link w.way r position link x (followed (parts_of text)) (todo inner rest b)) → Before
  from_link_ahead within true e true ahead = through_text (length (handles_of position)) (one_handle position) within
      (subst (λ s. Ahead w end texts (followed (parts_of text) ++ inner) rest s n (suc (length (handles_of position)) + 4)) (sym (ap starting e)) (ahead (suc t) earlier))
  from_link_ahead within false e true ahead = through_text 0 (omega arith) within
      (subst (λ s. Ahead w end texts (followed (parts_of text) ++ inner) rest s n (suc 0 + 4)) (sym (ap starting e)) (ahead (suc t) earlier))
  from_link_ahead within true e false ahead = stopped NoMemory (on_the_way w [] (spot_at w position (suc b) m) (Some (Named true name))) ahead
  from_link_ahead within false e false ahead = stopped NoMemory (on_the_way w [] (spot_at w position (suc b) m) (Some (Named true name))) ahead

  text_ahead : Then (read_text w.way room position link (todo inner rest b) text None) → Before
  text_ahead ahead = on (leads_out (begins_with_slash text) w.way.flags) refl ahead
    where
      on : (x : Bool) → leads_out (begins_with_slash text) w.way.flags ≡ x
          → Then (if x then gives_up (link.number ∷ handles_of position) CrossRoot else from_link w.way room position link (begins_with_slash text) (followed (parts_of text)) (todo inner rest b))
          → Before
      on true e a = stopped CrossRoot (tells_whole w (failed CrossRoot) [] (spot_at w position (suc b) m) (Some (Named true name)) refl
          (λ stop few exact. inr (inr (
            record {
              to = spot_at w position (suc b) m;
              name = name;
              stop = stop;
              left = b;
              links = refl;
              allowed = allowed;
              text = text;
              absolute = (and_parts w.way.flags.beneath (begins_with_slash text) e).1;
              when = t;
              link = record { dir = at.dir; short = at.short; at = at.at; link = link.node; child = at.child; is_link = is_link };
            },
            few,
          )))) a
      on false e a = from_link_ahead e (begins_with_slash text) refl room a

  -- what the answer to a ReadLink leads to
  pub reading_ahead : Then (take w.way room (reading position link (todo inner rest b)) answer) → Before
  reading_ahead ahead = text_ahead
      (subst (λ f. Then (read_text w.way room position link (todo inner rest b) text f)) no_fault
      (subst (λ v. Then (take w.way room (reading position link (todo inner rest b)) v)) (is.told ∙ ap (λ r. r.answer) outcome_is) ahead))
