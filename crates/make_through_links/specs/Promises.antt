-- What holds of whole conversations.
use Rattle.std.specs.Prelude.{◌≡◌, ◌≤◌, ◌+◌, ◌++◌, ◌==◌, ℕ, zero, suc, List, [], ◌∷◌, true, Some, if◌then◌else◌, take}
use Rattle.std.specs.List.{list_all}
use Rattle.path_text.specs.Text.{begins_with_slash}
use Rattle.path_text.specs.declared.name.TheConstants.{SLASH}
use Rattle.dialogue.specs.Dialogue.{and_then, ends}
use Rattle.dialogue.specs.Holds.{EachHolds}
use Rattle.make_through_links.specs.Asking.{Talk, reads_end, reads_link}
use Rattle.make_through_links.specs.Pass.{end_read, link_read, pass}
use Rattle.open_or_make.specs.Paths.{before_rest, way}
use Rattle.make_through_links.specs.Seen.{Seen, Wish, May, at_first, begun, text_for, watch}
use Rattle.open_or_make.specs.declared.asking.Outcome.{Outcome}
use Rattle.make_through_links.specs.declared.making.Came.{Came}
use Rattle.make_through_links.specs.declared.making.Came.TheVariants.{Given, Again, Led}
use Rattle.make_through_links.specs.declared.making.Making.{Making}

-- ---- a whole call: one pass after another

abbrev pub go_on : Wish → (Making → List ℕ → Talk Came) → Making → List ℕ → Came → Talk Came
go_on w next m path (Again now) = next now path
go_on w next m path (Led now front at) = next now (way path (text_for w m) front at)
go_on w next m path other = ends other

-- so many passes at most
abbrev pub passes : Wish → ℕ → Making → List ℕ → Talk Came
passes w zero m path = ends (Again m)
passes w (suc n) m path = and_then (pass m path (text_for w m)) (go_on w (passes w n) m path)

-- one for each of 40 links and of 32 tries
abbrev pub PASSES : ℕ
PASSES = 72

abbrev pub make_all : Wish → Talk Came
make_all w = passes w PASSES (begun w) w.path

-- ---- how it ends

-- So many calls are the most: five in each pass.
abbrev pub CALLS_MAX : ℕ
CALLS_MAX = 360

abbrev pub given : Came → List ℕ
given (Given fd) = fd ∷ []
given other = []

abbrev pub IsReply : Came → Type 0
IsReply (Again m) = ⊥
IsReply (Led m front at) = ⊥
IsReply other = Unit {0}

-- The reply is what the last call's answer says, and nothing is open but that.
pub record Ends (s : Seen) (c : Came) : Type 0 where
  pub is : IsReply c
  pub said : s.came ≡ Some c
  pub held : s.held ≡ given c
  pub few : s.calls ≤ CALLS_MAX

abbrev pub CallsHold : Type 0
CallsHold = (w : Wish) → EachHolds (watch w) 504 (at_first w) (make_all w) Ends

-- ---- links

-- The link's name stands in the old path, behind that of its directory. In the new one its text stands there, or at the
-- beginning if it begins with a slash, before what comes behind the name and the slashes there.
pub record IsLed (dir old new text link : List ℕ) : Type 0 where
  pub name : List ℕ
  pub slashes : List ℕ
  pub rest : List ℕ
  pub path : link ≡ dir ++ name
  pub place : old ≡ dir ++ (name ++ (slashes ++ rest))
  pub only : list_all (λ b. b == SLASH) slashes ≡ true
  pub leads : new ≡ (if begins_with_slash text then [] else dir) ++ before_rest text rest

-- The link's text stands in its place, and one link more was followed; else the path stays.
abbrev pub Leads : Wish → Seen → List ℕ → List ℕ → Came → Type 0
Leads w s dir link (Led m front rest) =
    IsLed dir s.path (way s.path (text_for w s.making) front rest) (text_for w s.making) link
    × (m.links ≡ s.making.links + 1)
Leads w s dir link other = Unit {0}

-- A link on the way stands in the directory that is there; one at the path's end in that of the directories' path.
pub record LinksLead : Type 0 where
  pub on_the_way : (w : Wish) (s : Seen) (p : List ℕ) (a : Outcome) → May w s (reads_link p)
      → Leads w s (take s.there (take s.making.above s.path)) p
      (link_read s.making s.path s.there (text_for w s.making) a)
  pub at_the_end : (w : Wish) (s : Seen) (p : List ℕ) (a : Outcome) → May w s (reads_end p)
      → Leads w s (take s.making.above s.path) p (end_read s.making s.path (text_for w s.making) a)
