-- A rename was made, or refused, as the step table has it in the tree that its one system call finds.
use Rattle.std.proofs.Common.{◌≡◌, ◌≢◌, ⊎_elim, inl, inr, ℕ, List, Bool, true, false, not, if◌then◌else◌, Option, Some, None, Result, Ok, Err, refl, sym, ap, ◌∙◌, eq-eqb, ne_eqb}
use Rattle.std.specs.Prelude.{◌==◌}
use Rattle.std.proofs.lemmas.Bool.{eqb-true, eqb-false, true≢false}
use Rattle.path_text.specs.declared.errno.Errno.{Errno}
use Rattle.path_text.specs.declared.errno.Errno.TheVariants.{NotFound, Exists, IsDir, NotDir, NotEmpty}
use Rattle.system_calls.specs.Errors.{ENOENT, EEXIST, ENOTDIR, EISDIR, ENOTEMPTY}
use Rattle.tree_model.specs.declared.answer.Answer.{Answer}
use Rattle.tree_model.specs.declared.answer.Answer.TheVariants as answers
use Rattle.tree_model.specs.declared.inode.Inode.{Inode}
use Rattle.tree_model.specs.declared.step.Mode.{Mode}
use Rattle.tree_model.specs.declared.step.Mode.TheVariants.{Plain, NoReplace, Exchange}
use Rattle.tree_model.specs.declared.step.StepOf.TheVariants.{MakeDir, MakeFile, MakeLink, RemoveFile, RemoveDir, Rename}
use Rattle.tree_model.specs.Entries.{exchanges, renames, renames_child, replaces}
use Rattle.tree_model.specs.State.{State, child, has_entries, is_dir, is_gone, is_within}
use Rattle.tree_model.specs.Steps.{held, outcome}
use Rattle.tree_model.specs.Steps as tree
use Rattle.tree_model.specs.StepWith.{StepWith}
use Rattle.linux_steps.specs.Changes.{Both, ChangesStood, ExchangeSays, HasBoth, HasNoEntry, IsFull, IsIn, IsMissing, MayMove, MayReplace, NoReplaceSays, PlainSays, change_ended}
use Rattle.linux_steps.specs.declared.ended.Ended.TheVariants.{Refused, Unmade}
use Rattle.linux_steps.proofs.ChangeLemmas.{Stood, Tells, directories, directory_removals, ended, files, if_elim, links, on_held, refuses, removals}

-- ---- the step table

module _ (s : State) (b : Both) (dir : is_dir s.nodes b.d ≡ true) (dir2 : is_dir s.nodes b.e ≡ true) where
  abbrev nodes : List Inode
  nodes = s.nodes

  -- what a result of the tree's change answers
  abbrev told : Result (List Inode) Errno → Answer
  told r = (tree.changes s r).answer

  abbrev renamed : Mode → Result (List Inode) Errno
  renamed mode = renames nodes b.d b.name b.e b.new mode

  abbrev child_renamed : ℕ → Mode → Option ℕ → Result (List Inode) Errno
  child_renamed c mode o = renames_child nodes c b.d b.name b.e b.new mode o

  no_old : (mode : Mode) → HasNoEntry nodes b.d b.name → told (renamed mode) ≡ answers.Refused NotFound
  no_old mode none = simp (dir, dir2, none)

  no_directory : (mode : Mode) (c : ℕ) → child nodes b.d b.name ≡ Some c → is_gone nodes b.e ≡ true
      → told (renamed mode) ≡ answers.Refused NotFound
  no_directory mode c old gone = simp (dir, dir2, old, gone)

  missing : (mode : Mode) → IsMissing nodes b → told (renamed mode) ≡ answers.Refused NotFound
  missing mode (inl none) = no_old mode none
  missing mode (inr gone) = by (child nodes b.d b.name) refl
    where
      by : (o : Option ℕ) → child nodes b.d b.name ≡ o → told (renamed mode) ≡ answers.Refused NotFound
      by None none = no_old mode none
      by (Some c) old = no_directory mode c old gone

  module _ (c : ℕ) (old : child nodes b.d b.name ≡ Some c) (there : is_gone nodes b.e ≡ false) where
    with_old : (mode : Mode) (o : Option ℕ) → child nodes b.e b.new ≡ o → renamed mode ≡ child_renamed c mode o
    with_old mode o is = simp (dir, dir2, old, there, is)

    answered : (mode : Mode) (o : Option ℕ) (r : Result (List Inode) Errno) → child nodes b.e b.new ≡ o
        → child_renamed c mode o ≡ r → told (renamed mode) ≡ told r
    answered mode o r is same = ap told (with_old mode o is ∙ same)

    exists : (e : ℕ) → child nodes b.e b.new ≡ Some e → told (renamed NoReplace) ≡ answers.Refused Exists
    exists e is = answered NoReplace (Some e) (Err Exists) is refl

    no_new : child nodes b.e b.new ≡ None → told (renamed Exchange) ≡ answers.Refused NotFound
    no_new none = answered Exchange None (Err NotFound) none refl

  no_other : HasNoEntry nodes b.e b.new → told (renamed Exchange) ≡ answers.Refused NotFound
  no_other none = by (child nodes b.d b.name) (is_gone nodes b.e) refl refl
    where
      by : (o : Option ℕ) (g : Bool) → child nodes b.d b.name ≡ o → is_gone nodes b.e ≡ g
          → told (renamed Exchange) ≡ answers.Refused NotFound
      by None g old gone = no_old Exchange old
      by (Some c) true old gone = no_directory Exchange c old gone
      by (Some c) false old gone = no_new c old gone none

  module _ (at : MayMove nodes b) where
    abbrev c : ℕ
    c = at.old

    abbrev onto_it : ℕ → Result (List Inode) Errno
    onto_it e = replaces nodes c b.e b.new e

    abbrev with_it : ℕ → Result (List Inode) Errno
    with_it e = exchanges nodes c b.d b.name e b.e b.new

    moves_plain : child nodes b.e b.new ≡ None → told (renamed Plain) ≡ answers.Done
    moves_plain none =
        let outside = at.outside in
        let is : told (child_renamed c Plain None) ≡ answers.Done = simp (outside) in
        answered c at.is_old at.there Plain None (child_renamed c Plain None) none refl ∙ is

    moves_new : child nodes b.e b.new ≡ None → told (renamed NoReplace) ≡ answers.Done
    moves_new none =
        let outside = at.outside in
        let is : told (child_renamed c NoReplace None) ≡ answers.Done = simp (outside) in
        answered c at.is_old at.there NoReplace None (child_renamed c NoReplace None) none refl ∙ is

    module _ (e : ℕ) (is : child nodes b.e b.new ≡ Some e) where
      -- onto another object
      onto : c ≢ e → told (renamed Plain) ≡ told (onto_it e)
      onto apart =
          answered c at.is_old at.there Plain (Some e) (onto_it e) is
          (ap (λ (t : Bool). if t then Ok nodes else onto_it e) (ne_eqb c e apart))

      onto_itself : c ≡ e → told (renamed Plain) ≡ answers.Done
      onto_itself same =
          answered c at.is_old at.there Plain (Some e) (Ok nodes) is
          (ap (λ (t : Bool). if t then Ok nodes else onto_it e) (eq-eqb c e same))

      kinds_differ : (t : Bool) → is_dir nodes c ≡ t → is_dir nodes e ≡ not t → c ≢ e
      kinds_differ true one other same = true≢false (sym one ∙ ap (is_dir nodes) same ∙ other)
      kinds_differ false one other same = true≢false (sym other ∙ ap (is_dir nodes) (sym same) ∙ one)

      not_a_directory : is_dir nodes c ≡ true → is_dir nodes e ≡ false → told (renamed Plain) ≡ answers.Refused NotDir
      not_a_directory one other =
          let outside = at.outside in onto (kinds_differ true one other) ∙ simp (outside, one, other)

      a_directory : is_dir nodes c ≡ false → is_dir nodes e ≡ true → told (renamed Plain) ≡ answers.Refused IsDir
      a_directory one other =
          let outside = at.outside in onto (kinds_differ false one other) ∙ simp (outside, one, other)

      a_full_one : c ≢ e → is_dir nodes c ≡ true → is_dir nodes e ≡ true → has_entries nodes e ≡ true
          → told (renamed Plain) ≡ answers.Refused NotEmpty
      a_full_one apart one other full =
          let outside = at.outside in onto apart ∙ simp (outside, one, other, full)

      no_directories : is_dir nodes c ≡ false → is_dir nodes e ≡ false → told (onto_it e) ≡ answers.Done
      no_directories one other = let outside = at.outside in simp (outside, one, other)

      an_empty_one : is_dir nodes c ≡ true → is_dir nodes e ≡ true → has_entries nodes e ≡ false
          → told (onto_it e) ≡ answers.Done
      an_empty_one one other empty = let outside = at.outside in simp (outside, one, other, empty)

      takes_place : told (onto_it e) ≡ answers.Done → told (renamed Plain) ≡ answers.Done
      takes_place done = by (c == e) refl
        where
          by : (t : Bool) → (c == e) ≡ t → told (renamed Plain) ≡ answers.Done
          by true q = onto_itself (eqb-true c e q)
          by false q = onto (eqb-false c e q) ∙ done

      changes_places : is_within nodes e b.d ≡ false → told (renamed Exchange) ≡ answers.Done
      changes_places outside2 = by (c == e) refl
        where
          both : (t : Bool) → (c == e) ≡ t → told (renamed Exchange) ≡ told (if t then Ok nodes else with_it e)
          both t q =
              answered c at.is_old at.there Exchange (Some e) (if t then Ok nodes else with_it e) is
              (ap (λ (u : Bool). if u then Ok nodes else with_it e) q)

          swapped : told (with_it e) ≡ answers.Done
          swapped = let outside = at.outside in simp (outside, outside2)

          by : (t : Bool) → (c == e) ≡ t → told (renamed Exchange) ≡ answers.Done
          by true q = both true q
          by false q = both false q ∙ swapped

  replaced : (both : HasBoth nodes b) → MayReplace both → told (renamed Plain) ≡ answers.Done
  replaced both may =
      ⊎_elim (λ same. onto_itself both.moves both.object both.is_new same)
      (λ o. takes_place both.moves both.object both.is_new
      (⊎_elim (λ k. no_directories both.moves both.object both.is_new k.0 k.1)
      (λ k. an_empty_one both.moves both.object both.is_new k.0.0 k.0.1 k.1) o)) may

-- ---- the step

module _ (s : State) (a h k : ℕ) (name new : List ℕ) (d : IsIn s a h) (e : IsIn s a k) (second : Bool) (error : ℕ) where
  abbrev b : Both
  b = record { d = d.node; name = name; e = e.node; new = new }

  abbrev it : Mode → StepWith ℕ
  it mode = Rename h name k new mode

  -- what the table answers, by the nodes
  same : (mode : Mode) → (outcome s a (it mode)).answer ≡ told s b d.directory e.directory (renamed s b d.directory e.directory mode)
  same mode =
      on_held s a h d.node (λ n. tree.on_handle s a k (λ g. tree.changes s (renames s.nodes n name g new mode))) d.is_open
      ∙ on_held s a k e.node (λ g. tree.changes s (renames s.nodes d.node name g new mode)) e.is_open

  lacks : (mode : Mode) → IsMissing s.nodes b → Tells s a (it mode) (answers.Refused NotFound)
  lacks mode none = same mode ∙ missing s b d.directory e.directory mode none

  onto_full : (both : HasBoth s.nodes b) → both.moves.old ≢ both.object → is_dir s.nodes both.object ≡ true
      → IsFull both true → (t : Bool) → is_dir s.nodes both.moves.old ≡ t → Stood s a (it Plain) (Refused NotEmpty)
  onto_full both apart other full true is =
      inl (same Plain ∙ a_full_one s b d.directory e.directory both.moves both.object both.is_new apart is other full)
  onto_full both apart other full false is =
      inr (refl, record { d = d; e = e; both = both; are = (is, other); full = full })

  pub plain : PlainSays s.nodes b error → Stood s a (it Plain) (change_ended (it Plain) second error)
  plain says =
      ended s a (it Plain) second error
      (λ q. same Plain
      ∙ ⊎_elim (λ o. moves_plain s b d.directory e.directory o.0 o.1)
      (λ o. replaced s b d.directory e.directory o.0 o.1) (says.renamed q))
      (refuses s a (it Plain) error ENOENT NotFound _ (λ q. lacks Plain (says.missing q))
      (refuses s a (it Plain) error ENOTDIR NotDir _
      (λ q. let is = says.other q in let both = is.0 in
      same Plain ∙ not_a_directory s b d.directory e.directory both.moves both.object both.is_new is.1.0 is.1.1)
      (refuses s a (it Plain) error EISDIR IsDir _
      (λ q. let is = says.directory q in let both = is.0 in
      same Plain ∙ a_directory s b d.directory e.directory both.moves both.object both.is_new is.1.0 is.1.1)
      (if_elim (Stood s a (it Plain)) (error == ENOTEMPTY) (Refused NotEmpty) (Unmade error)
      (λ q. let is = says.full (eqb-true error ENOTEMPTY q) in
      onto_full is.0 is.1 is.2 is.3 (is_dir s.nodes is.0.moves.old) refl) (λ q. tt)))))

  pub no_replace : NoReplaceSays s.nodes b error → Stood s a (it NoReplace) (change_ended (it NoReplace) second error)
  no_replace says =
      ended s a (it NoReplace) second error
      (λ q. let is = says.renamed q in same NoReplace ∙ moves_new s b d.directory e.directory is.0 is.1)
      (refuses s a (it NoReplace) error ENOENT NotFound _ (λ q. lacks NoReplace (says.missing q))
      (refuses s a (it NoReplace) error EEXIST Exists (Unmade error)
      (λ q. let some = says.exists q in
      same NoReplace ∙ exists s b d.directory e.directory some.0 some.2 some.4 some.1 some.3) tt))

  pub exchange : ExchangeSays s.nodes b error → Stood s a (it Exchange) (change_ended (it Exchange) second error)
  exchange says =
      ended s a (it Exchange) second error
      (λ q. let is = says.renamed q in let both = is.0 in
      same Exchange ∙ changes_places s b d.directory e.directory both.moves both.object both.is_new is.1)
      (refuses s a (it Exchange) error ENOENT NotFound (Unmade error)
      (λ q. ⊎_elim (λ o. lacks Exchange o) (λ none. same Exchange ∙ no_other s b d.directory e.directory none)
      (says.missing q)) tt)

-- ---- the law

pub changes-stood : ChangesStood
changes-stood s a (MakeDir h name) second error says = directories s a h name says.0 second error says.1
changes-stood s a (MakeFile h name) second error says = files s a h name says.0 second error says.1
changes-stood s a (MakeLink h name text) second error says =
    links s a h name says.0 second error text says.1 says.2
changes-stood s a (RemoveFile h name) second error says = removals s a h name says.0 second error says.1
changes-stood s a (RemoveDir h name) second error says = directory_removals s a h name says.0 second error says.1
changes-stood s a (Rename h name k new Plain) second error says = plain s a h k name new says.0 says.1 second error says.2
changes-stood s a (Rename h name k new NoReplace) second error says =
    no_replace s a h k name new says.0 says.1 second error says.2
changes-stood s a (Rename h name k new Exchange) second error says =
    exchange s a h k name new says.0 says.1 second error says.2
changes-stood s a step second error says = absurd says
