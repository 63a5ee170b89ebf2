-- The race, computed.
use Rattle.std.proofs.Common.{◌≡◌, ◌≢◌, inl, inr, ℕ, zero, suc, ◌+◌, ◌≤◌, ◌⊎◌, ⊎_elim, Bool, true, false, if◌then◌else◌, List, [], ◌∷◌, length, Option, Some, None, refl, sym, ap, ◌∙◌, subst, ne_eqb, arith}
use Rattle.std.specs.Prelude.{◌==◌, nat_le, codes}
use Rattle.std.specs.List.{AllByRecursion}
use Rattle.std.proofs.lemmas.Bool.{eq-eqb, eqb-true, false≢true}
use Rattle.std.proofs.lemmas.Option.{same_Some}
use Rattle.path_text.specs.declared.name.TheConstants.{SLASH}
use Rattle.tree_model.specs.declared.answer.Answer.TheVariants.{Opened, Names, Done}
use Rattle.tree_model.specs.declared.answer.Event.{Event}
use Rattle.tree_model.specs.declared.inode.Object.TheVariants as object
use Rattle.tree_model.specs.declared.step.Kind.TheVariants as kind
use Rattle.tree_model.specs.declared.step.StepOf.TheVariants.{MakeDir}
use Rattle.tree_model.specs.History.{IsLegal, after_events}
use Rattle.tree_model.specs.State.{State, child, object_at}
use Rattle.tree_model.proofs.TreeTests.{IsState-from_test}
use Rattle.system_calls.specs.declared.objects.Object.{Object}
use Rattle.dialogue.specs.Dialogue.{Talks, and_then, asking, open_above, open_name, stats, stats_file_system}
use Rattle.dialogue.specs.declared.calls.Answer.{Answer as Given}
use Rattle.find_place.specs.Moments.{IsAnswer, TextsTell, World}
use Rattle.find_place.specs.Place.{confirmed, is_there, link, place}
use Rattle.find_place.specs.Questions.{Asked, Exchange, link_again, looks_up, object_link, root_link}
use Rattle.find_place.specs.Witness.{Tells}
use Rattle.find_place.specs.declared.places.Facts.{Facts as PlaceFacts}
use Rattle.linux_steps.specs.Linux.{IsAbove, IsEntry, StatSays}
use Rattle.linux_steps.specs.Steps.{by_file_system, by_path, open_step, opening, parent_step, there}
use Rattle.linux_steps.specs.declared.ended.Ended.TheVariants as ended
use Rattle.calls_by_system_calls.specs.Changes.{IsChange}
use Rattle.calls_by_system_calls.specs.Linux.{Change, ChangeNothing, IsLinux, found_behind, state_at, with_change}
use Rattle.calls_by_system_calls.specs.Lines.{seen, AllDiffer, AreMade, Descriptors, IsTalked, numbers_opened}
use Rattle.calls_by_system_calls.specs.Places.{place_world, PlaceIsAsked}
use Rattle.calls_by_system_calls.specs.WorkedRace.{mkdir, move, race, race_counts, race_lines, race_nodes, race_opening, RaceIsMade}

-- ---- conversations

-- the descriptor 3 is open on the node d, and behind moment m the descriptor 4 on the node y
abbrev on_two : ℕ → ℕ → ℕ → ℕ → ℕ → Option ℕ
on_two m d y n fd = if fd == 3 then Some d else (if fd == 4 then (if nat_le n m then None else Some y) else None)

others_stay : (m d y n k fd : ℕ) → fd ≢ 4 → on_two m d y n fd ≡ on_two m d y k fd
others_stay m d y n k fd apart =
    let none : (i : ℕ) → on_two m d y i fd ≡ (if fd == 3 then Some d else None) =
    λ i. ap (λ b. if fd == 3 then Some d else (if b then (if nat_le i m then None else Some y) else None))
    (ne_eqb fd 4 apart) in
    none n ∙ sym (none k)

-- a directory of ext4, with two links
abbrev gives : Given
gives = record {
  file_system = 61267;
  flags = 0;
  device = 0;
  inode = 0;
  mount = 0;
  node = 0;
  value = 4;
  error = 0;
  links = 2;
  mode = 16877;
  has_mount = true;
}

-- a name is opened by one system call, as a directory
opens_name : (m d y h : ℕ) (name : List ℕ) → nat_le m m ≡ true
    → nat_le (suc m) m ≡ false → object_at (state_at race (suc m)).nodes d ≡ Some object.Dir
    → child (state_at race (suc m)).nodes d name ≡ Some y → object_at (state_at race (suc m)).nodes y ≡ Some object.Dir
    → race_nodes h ≡ y → IsTalked race race_nodes m 1 d false (λ fd. open_step fd name false) (Opened h h kind.Dir)
unfolding open_step opening asking and_then Talks
opens_name m d y h name now later directory entry is number =
    let next : suc m ≡ m + 1 = omega arith in
    let on : on_two m d y (suc m) 4 ≡ Some y = ap (λ b. if b then None else Some y) later in
    record {
      fd = 3;
      on = on_two m d y;
      layered = λ z. false;
      text = λ n. [];
      exchanges = record { asked = open_name 3 name (by_path true false); answer = gives } ∷ [];
      end = ended.Opened 4 kind.Dir;
      is_on = refl;
      all = next;
      says = (
        record {
          opened = λ e. record {
            node = y;
            what = object.Dir;
            free = ap (λ b. if b then None else Some y) now;
            is_on = on;
            others = λ other apart. others_stay m d y (suc m) m other apart;
            is = is;
            directory = λ only. refl;
            finds = λ stays z on_z.
                subst (IsEntry (seen race false (on_two m d y) (λ z. false) (λ n. [])) (suc m) name (Some y))
                (same_Some d z on_z) (directory, entry);
          };
          failed = λ e. absurd (e refl);
          missing = λ e. absurd (omega (arith, e));
        },
        (λ asks. refl),
        tt,
      );
      is = (refl, refl);
      tells = (refl, ap (λ n. on_two m d y n 4) (sym next) ∙ on ∙ ap Some (sym number));
    }

-- ---- what others do

-- what others do, where that is one event, between one moment and the next
others_at : (at : ℕ) (event : Event) (P : ℕ → List Event → Type 0) → P at (event ∷ []) → ((n : ℕ) → P n [])
    → (n : ℕ) → P n (if n == at then event ∷ [] else [])
others_at at event P there else_none n = by (n == at) refl
  where
    by : (b : Bool) → (n == at) ≡ b → P n (if b then event ∷ [] else [])
    by true e = subst (λ (i : ℕ). P i (event ∷ [])) (sym (eqb-true n at e)) there
    by false e = else_none n

kept : (s : State) (own : Option Change) → length (with_change s own).handles ≡ length s.handles
kept s None = refl
kept s (Some change) = refl

three : (n : ℕ) → length (state_at race n).handles ≡ 3
three zero = refl
three (suc n) =
    kept (found_behind race n) (race.own (suc n))
    ∙ others_at 15 move (λ i events. length (state_at race i).handles ≡ 3
    → length (after_events (state_at race i) events).handles ≡ 3)
    (λ e. refl) (λ i e. e) n (three n)

linux : IsLinux race 0
linux = record {
  tree = IsState-from_test race_opening refl;
  legal = others_at 15 move (λ n events. IsLegal (state_at race n) events) (refl, tt) (λ n. tt);
  by_others = others_at 15 move (λ n events. AllByRecursion (λ (event : Event). event.actor ≢ 0) events)
      ((λ e. absurd (omega (arith, e))), tt) (λ n. tt);
}

-- no call but the sixteenth changes anything
nothing : (m calls : ℕ) → (m + calls ≤ 15) ⊎ (16 ≤ m) → ChangeNothing race m calls
nothing m calls apart n less =
    ap (λ (b : Bool). if b then Some mkdir else None)
    (ne_eqb (suc (m + n)) 16 (λ e. ⊎_elim (λ before. absurd (omega (arith, e, less, before)))
    (λ behind. absurd (omega (arith, e, behind))) apart))

opens_above : IsTalked race race_nodes 3 3 3 true (λ fd. parent_step fd false) (Opened 53 53 kind.Dir)
unfolding parent_step there by_file_system opening asking and_then Talks
opens_above =
    let w = seen race true (on_two 3 3 2) (λ z. false) (λ n. []) in
    record {
      fd = 3;
      on = on_two 3 3 2;
      layered = λ z. false;
      text = λ n. [];
      exchanges =
          record { asked = open_above 3 (by_path true false); answer = gives }
          ∷ record { asked = stats 3; answer = gives }
          ∷ record { asked = stats_file_system 3; answer = gives }
          ∷ [];
      end = ended.Opened 4 kind.Dir;
      is_on = refl;
      all = refl;
      says = (
        record {
          opened = λ e. record {
            node = 2;
            what = object.Dir;
            free = refl;
            is_on = refl;
            others = λ other apart. others_stay 3 3 2 4 3 other apart;
            is = refl;
            directory = λ only. refl;
            finds = λ z on. subst (IsAbove w 4 2) (same_Some 3 z on) (refl, inr refl);
          };
          failed = λ e. absurd (e refl);
          missing = λ e. absurd (omega (arith, e));
        },
        (λ asks. refl),
        (
          record {
            same = λ fd. refl;
            tells = λ z on e. subst (λ y. StatSays w 5 y gives) (same_Some 3 z on) (record {
              what = object.Dir;
              is = refl;
              kind = refl;
              none = λ is none. absurd (omega (arith, none));
              some = λ is some. inr refl;
            });
          },
          (λ asks. refl),
          (record { same = λ fd. refl; tells = λ z on e type. refl }, (λ asks. refl), tt),
        ),
      );
      is = (refl, (refl, (refl, refl)));
      tells = (refl, refl);
    }

-- ---- the place

abbrev no_object : Object
no_object = record { device = 0; inode = 0; mount = 0 }

abbrev said : Asked → List ℕ → Exchange
said asked text = record {
  asked = asked;
  answer = record {
    text = record { ref_ptr = (0, 0); now = text };
    held = no_object;
    found = no_object;
    links = 1;
    error = 0;
    yes = false;
  };
}

abbrev read_root : Exchange
read_root = said root_link (codes "/c")

abbrev read_a : Exchange
read_a = said object_link (codes "/c/a")

abbrev looked_up : Exchange
looked_up = said (looks_up (codes "/a")) []

abbrev read_again : Exchange
read_again = said link_again (codes "/c/a")

abbrev of_directory : PlaceFacts
of_directory = record { directory = true; seen = false }

abbrev place_moments : World
place_moments = place_world race 7 1 2 (λ n place. true) (λ n. codes "/c") (λ n. codes "/c/a")

says_root : IsAnswer place_moments of_directory 0 read_root
says_root = record {
  link_again = λ worked plain. absurd (cc (worked.0));
  link_before = λ worked plain. absurd (cc (worked.0));
  dead = λ directory asks no. absurd (cc (asks));
  object_link = λ worked. absurd (cc (worked.0));
  root_link = λ worked. refl;
  look_up = λ place found. refl;
  looked_root = λ found. absurd (cc (found.0.0));
}

says_a : IsAnswer place_moments of_directory 1 read_a
says_a = record {
  link_again = λ worked plain. absurd (cc (worked.0));
  link_before = λ worked plain. refl;
  dead = λ directory asks no. absurd (cc (asks));
  object_link = λ worked. refl;
  root_link = λ worked. absurd (cc (worked.0));
  look_up = λ place found. refl;
  looked_root = λ found. absurd (cc (found.0.0));
}

far : (p q : List ℕ) → looks_up p ≡ looks_up q → (length p == length q) ≡ false → ⊥
far p q is apart =
    let same : p ≡ q = cc in
    absurd (false≢true (sym apart ∙ (ap (λ x. length x == length q) same ∙ eq-eqb (length q) (length q) refl)))

says_looked_up : IsAnswer place_moments of_directory 2 looked_up
says_looked_up = record {
  link_again = λ worked plain. absurd (cc (worked.0));
  link_before = λ worked plain. absurd (cc (worked.0));
  dead = λ directory asks no. absurd (cc (asks));
  object_link = λ worked. absurd (cc (worked.0));
  root_link = λ worked. absurd (cc (worked.0));
  look_up = λ place found. refl;
  looked_root = λ found. absurd (far (codes "/a") (SLASH ∷ []) found.0.0 refl);
}

says_again : IsAnswer place_moments of_directory 3 read_again
says_again = record {
  link_again = λ worked plain. refl;
  link_before = λ worked plain. absurd (cc (worked.0));
  dead = λ directory asks no. absurd (cc (asks));
  object_link = λ worked. absurd (cc (worked.0));
  root_link = λ worked. absurd (cc (worked.0));
  look_up = λ place found. refl;
  looked_root = λ found. absurd (cc (found.0.0));
}

texts : TextsTell place_moments
texts = record {
  stays = refl;
  below = λ place told plain.
      inr (subst (λ p. place_moments.stands 1 p ≡ true) (same_Some (codes "/a") place told) refl);
}

tells_a : Tells of_directory (read_root ∷ read_a ∷ looked_up ∷ read_again ∷ []) (codes "/a")
unfolding Talks place link confirmed is_there and_then asking
tells_a = (refl, (refl, (refl, (refl, refl))))

asks_a : PlaceIsAsked race 7 4 1 2 (Names (codes "a" ∷ []))
asks_a = record {
  facts = of_directory;
  exchanges = read_root ∷ read_a ∷ looked_up ∷ read_again ∷ [];
  place = codes "/a";
  passed = λ n place. true;
  root = λ n. codes "/c";
  object = λ n. codes "/c/a";
  is = tells_a;
  all = refl;
  says = (says_root, (says_a, (says_looked_up, (says_again, tt))));
  texts = λ plain. texts;
  seen = λ e. absurd (false≢true e);
  names = codes "a" ∷ [];
  reads = refl;
  tells = refl;
}

makes_new : IsChange race 15 1 2 2 (MakeDir 0 (codes "new")) Done
makes_new =
    let eleven : length (found_behind race 15).nodes ≡ 11 = refl in
    record {
      second_name = false;
      error = 0;
      one = refl;
      own = refl;
      says = (
        record { node = 2; is_open = refl; directory = refl },
        record {
          few = omega (arith, eleven);
          made = λ e. (refl, refl);
          exists = λ e. absurd (omega (arith, e));
          missing = λ e. absurd (omega (arith, e));
        },
      );
      tells = tt;
      not_above = λ e. absurd (cc (e));
    }

abbrev race_before : Descriptors
race_before = record { count = 1; on = λ h. if h == 0 then Some 1 else None }

steps_made : AreMade race race_nodes 0 race_before race_lines race_counts
steps_made = (
  inl (
    nothing 0 1 (inl (omega arith)),
    (omega arith, 1, refl, inl (false, opens_name 0 1 2 51 (codes "a") refl refl refl refl refl refl)),
  ),
  (
    inl (
      nothing 1 1 (inl (omega arith)),
      (omega arith, 2, refl, inl (false, opens_name 1 2 3 52 (codes "b") refl refl refl refl refl refl)),
    ),
    (
      inl (nothing 2 1 (inl (omega arith)), (2, refl, refl)),
      (
        inl (nothing 3 3 (inl (omega arith)), (omega arith, 3, refl, inl (false, opens_above))),
        (
          inl (nothing 6 1 (inl (omega arith)), (3, refl, refl)),
          (
            inl (nothing 7 4 (inl (omega arith)), (1, 2, refl, refl, inr (inl asks_a))),
            (
              inl (
                nothing 11 4 (inl (omega arith)),
                (1, 2, refl, refl, inr (inr (record { n = 0; by = omega arith; stood = refl }))),
              ),
              (
                inr (2, refl, makes_new),
                (inl (nothing 16 1 (inr (omega arith)), (2, refl, refl)), tt),
              ),
            ),
          ),
        ),
      ),
    ),
  ),
)

all_differ : AllDiffer (0 ∷ numbers_opened race_lines)
all_differ = (
  ((λ e. absurd (omega (arith, e))), ((λ e. absurd (omega (arith, e))), ((λ e. absurd (omega (arith, e))), tt))),
  (
    ((λ e. absurd (omega (arith, e))), ((λ e. absurd (omega (arith, e))), tt)),
    (((λ e. absurd (omega (arith, e))), tt), (tt, tt)),
  ),
)

pub race_is_made : RaceIsMade
race_is_made = record {
  made = record {
    linux = linux;
    program = refl;
    held = refl;
    directory = refl;
    made = steps_made;
    differ = all_differ;
    few = λ n. omega (arith, three n);
  };
  new = refl;
  outside = refl;
}
