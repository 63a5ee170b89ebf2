-- Which lines the exchanges of a call stand for, directory by directory.
use Rattle.std.proofs.Common.{◌≡◌, ◌≢◌, inl, inr, ℕ, List, [], ◌∷◌, ◌++◌, Bool, true, false, not, if◌then◌else◌, refl, sym, ap, subst, ◌∙◌, true≢false}
use Rattle.std.specs.Prelude.{◌==◌, ◌&&◌, ◌||◌, bit_and, bit_or, get_or, is_none, Some, None}
use Rattle.std.proofs.lemmas.List.{append-nil, append_assoc}
use Rattle.std.proofs.lemmas.List.Sums.{AllPass-from_list_all}
use Rattle.path_text.specs.declared.errno.Errno.TheVariants.{NotFound}
use Rattle.path_text.specs.declared.name.TheConstants.{SLASH}
use Rattle.path_text.specs.declared.path.Split.{Split}
use Rattle.path_text.specs.Name.{is_name, name_fault, same_bytes}
use Rattle.path_text.specs.Print.{after_slashes, names_read, printed}
use Rattle.path_text.specs.Reading.{Reading}
use Rattle.path_text.specs.Text.{begins_with_slash, has_final_slash, text_fault}
use Rattle.path_text.proofs.PrintLemmas.{printed_read}
use Rattle.path_text.proofs.TextLemmas.{and_true}
use Rattle.system_calls.specs.Errors.{EINTR, ENOENT}
use Rattle.system_calls.specs.OpenFlags.{IsOfMachine, O_PATH, arm64, on_arm64, on_arm64_large, on_x86_64, on_x86_64_large, x86_64}
use Rattle.system_calls.specs.declared.opening.MachineFlags.{MachineFlags}
use Rattle.tree_model.specs.StepWith.{StepWith}
use Rattle.dialogue.specs.Dialogue.{Exchange, SystemCall, again, closes, is_look}
use Rattle.dialogue.specs.declared.calls.Answer.{Answer}
use Rattle.dialogue.proofs.HoldLemmas.{exchange}
use Rattle.find_proc.specs.declared.asks.Known.{Known}
use Rattle.step_resolver.specs.Order.{Handle, Line}
use Rattle.walk_plan.specs.declared.goal.Goal.TheVariants.{Follow}
use Rattle.root_ops.specs.declared.aim.Aim.{Aim}
use Rattle.root_ops.specs.declared.below.Below.{Below}
use Rattle.root_ops.specs.declared.op.Op.TheVariants.{Resolve}
use Rattle.root_ops.specs.declared.reply.Reply.{Reply as Told}
use Rattle.root_ops.specs.declared.reply.Reply.TheVariants.{Fault}
use Rattle.root_ops.specs.CallHistory.{CallInHistory}
use Rattle.root_ops.specs.Order.{CallTurn, gives_up, goal_of, held_by, reached, walks}
use Rattle.root_ops.specs.View.{reply_view}
use Rattle.kernel_calls.specs.Calls.{behind_of}
use Rattle.kernel_calls.specs.Flags.{BENEATH, NO_LINKS, has, resolve_of}
use Rattle.kernel_calls.specs.Path.{At, place_in, text_in}
use Rattle.kernel_calls.specs.declared.entry.Dir.{Dir}
use Rattle.kernel_calls.specs.declared.look.Outcome.{Outcome}
use Rattle.kernel_calls.specs.declared.look.Outcome.TheVariants.{Value, Fails, FailsAt, Steps}
use Rattle.kernel_walks.specs.AtOnce.{FailsAtOnceTell, has_names, misses_at_once, spells_place}
use Rattle.kernel_walks.specs.Behind.{IsDirectoryText}
use Rattle.kernel_walks.proofs.AtOnce.{no_fault, placed, reprinted, same_text}
use Rattle.calls_by_system_calls.specs.SystemCalls.{Descriptors, Misses, Says, StandFor, WalksTo, close_line, closed, ends_looks, resolves}
use Rattle.calls_by_system_calls.specs.WholeCalls.{FailsSo, IsBelowRoot, IsOn, RepliesBy}
use Rattle.calls_by_system_calls.proofs.Noted.{Closed, Enters, Failed, NoSignals, Unfound, Within, by_missing, by_signal, seeks, way}
use Rattle.calls_by_system_calls.proofs.Reaching as reaching
use Rattle.calls_by_system_calls.proofs.Reaching.{Leads, not_there}

-- ---- flags

-- of the four flags of inroot.h, and with RESOLVE_NO_SYMLINKS added
record Bits (resolve : ℕ) (beneath links : Bool) : Type 0 where
  in_root : has resolve 16 ≡ not beneath
  beneath_is : has resolve 8 ≡ beneath
  no_links : has resolve 4 ≡ links
  added : has (bit_or resolve 4) 4 ≡ true

bits_by : (beneath links mount : Bool)
    → Bits (bit_or (bit_or (bit_or 2 (if not beneath then 8 else 16)) (if not links then 4 else 0))
    (if not mount then 1 else 0)) (not beneath) (not links)
bits_by true true true = record { in_root = refl; beneath_is = refl; no_links = refl; added = refl }
bits_by true true false = record { in_root = refl; beneath_is = refl; no_links = refl; added = refl }
bits_by true false true = record { in_root = refl; beneath_is = refl; no_links = refl; added = refl }
bits_by true false false = record { in_root = refl; beneath_is = refl; no_links = refl; added = refl }
bits_by false true true = record { in_root = refl; beneath_is = refl; no_links = refl; added = refl }
bits_by false true false = record { in_root = refl; beneath_is = refl; no_links = refl; added = refl }
bits_by false false true = record { in_root = refl; beneath_is = refl; no_links = refl; added = refl }
bits_by false false false = record { in_root = refl; beneath_is = refl; no_links = refl; added = refl }

bits : (flags : ℕ) → Bits (resolve_of flags) (has flags BENEATH) (has flags NO_LINKS)
bits flags = bits_by (bit_and flags 1 == 0) (bit_and flags 2 == 0) (bit_and flags 128 == 0)

-- O_PATH, O_NOFOLLOW and O_DIRECTORY are apart
pub record PathBits (follows : Bool) (m : MachineFlags) (how : ℕ) : Type 0 where
  pub path : has how O_PATH ≡ true
  pub stays : has how m.nofollow ≡ not follows

abbrev of_flags : Bool → Bool → MachineFlags → ℕ
of_flags follows directory m =
    bit_or (bit_or O_PATH (if not follows then m.nofollow else 0)) (if directory then m.directory else 0)

of_x86_64 : (follows directory : Bool) (largefile : ℕ)
    → PathBits follows (x86_64 largefile) (of_flags follows directory (x86_64 largefile))
of_x86_64 true true largefile = record { path = refl; stays = refl }
of_x86_64 true false largefile = record { path = refl; stays = refl }
of_x86_64 false true largefile = record { path = refl; stays = refl }
of_x86_64 false false largefile = record { path = refl; stays = refl }

of_arm64 : (follows directory : Bool) (largefile : ℕ)
    → PathBits follows (arm64 largefile) (of_flags follows directory (arm64 largefile))
of_arm64 true true largefile = record { path = refl; stays = refl }
of_arm64 true false largefile = record { path = refl; stays = refl }
of_arm64 false true largefile = record { path = refl; stays = refl }
of_arm64 false false largefile = record { path = refl; stays = refl }

abbrev pub AreApart : Bool → Bool → MachineFlags → Type 0
AreApart follows directory m = PathBits follows m (of_flags follows directory m)

pub path_bits : (follows directory : Bool) (m : MachineFlags) → IsOfMachine m → AreApart follows directory m
path_bits follows directory m (on_x86_64 is) = subst (AreApart follows directory) (sym is) (of_x86_64 follows directory _)
path_bits follows directory m (on_x86_64_large is) =
    subst (AreApart follows directory) (sym is) (of_x86_64 follows directory _)
path_bits follows directory m (on_arm64 is) = subst (AreApart follows directory) (sym is) (of_arm64 follows directory _)
path_bits follows directory m (on_arm64_large is) =
    subst (AreApart follows directory) (sym is) (of_arm64 follows directory _)

pub machine_bits : (m : MachineFlags) → IsOfMachine m → has (bit_or O_PATH m.directory) O_PATH ≡ true
machine_bits m is = (path_bits true true m is).path

-- a look-up, as kernel_calls asks for it, is in the table
pub walks_by : (below : Below) (d : Descriptors) (k : Known) (at : At) → IsBelowRoot below d at → IsOn d k
    → (how : ℕ) (no_follow : Bool) → has how k.machine.nofollow ≡ no_follow
    → (path : List ℕ) (b : Bool) (a : Answer) (own : List Line) → a.error ≡ 0
    → Says below d b (seeks at path how) a own → WalksTo below d (resolves no_follow (text_in path)) a.value own
walks_by below d k at is on how no_follow stays path b a own done says =
    let f = bits at.flags in
    subst (λ t. WalksTo below d (resolves t (text_in path)) a.value own)
    (ap (λ (x : MachineFlags). has how x.nofollow) on.1 ∙ stays)
    (says.opened done (record {
      root = is.root;
      in_root = f.in_root ∙ ap not is.beneath;
      beneath = f.beneath_is ∙ is.beneath;
      no_links = f.no_links ∙ is.no_links;
    }))

-- ---- exchanges, and what is closed behind them

pub record AllLines (below : Below) (d : Descriptors) (s : List Exchange) (fds : List ℕ) (lines : List Line) : Type 0
  where
    pub own : List Line
    pub stand : StandFor below d s own
    pub quiet : NoSignals s
    pub all : lines ≡ own ++ closed d fds

quiet_before : (xs ys : List Exchange) → NoSignals (xs ++ ys) → NoSignals xs
quiet_before [] ys quiet = tt
quiet_before (x ∷ xs) ys quiet = (quiet.0, quiet_before xs ys quiet.1)

closed_both : (d : Descriptors) (xs ys : List ℕ) → closed d (xs ++ ys) ≡ closed d xs ++ closed d ys
closed_both d [] ys = refl
closed_both d (x ∷ xs) ys = ap (λ ls. close_line (d.handle x) ∷ ls) (closed_both d xs ys)

still_ends : (xs : List Exchange) (fd : ℕ) (a : Answer) → ends_looks (xs ++ exchange (closes fd) a ∷ []) ≡ ends_looks xs
still_ends [] fd a = refl
still_ends (x ∷ xs) fd a = refl

stand_closed : (below : Below) (d : Descriptors) (s : List Exchange) (fd : ℕ) (a : Answer) (lines : List Line)
    → StandFor below d (s ++ exchange (closes fd) a ∷ []) lines
    → (own : List Line) × StandFor below d s own × (lines ≡ own ++ close_line (d.handle fd) ∷ [])
stand_closed below d [] fd a lines st =
    ([], refl, st.4 ∙ ap (λ ls. st.0 ++ ls) st.3 ∙ ap (λ ls. ls ++ []) st.2)
stand_closed below d (x ∷ xs) fd a lines st =
    let more = stand_closed below d xs fd a st.1 st.3 in (
      st.0 ++ more.0,
      (st.0, more.0, subst (λ b. Says below d b x.asked x.answer st.0) (still_ends xs fd a) st.2, more.1, refl),
      st.4 ∙ ap (λ ls. st.0 ++ ls) more.2 ∙ sym (append_assoc st.0 more.0 (close_line (d.handle fd) ∷ [])),
    )

-- the one line of a system call, behind which nothing is closed
pub one_line : (below : Below) (d : Descriptors) (q : SystemCall) (a : Answer) (s : List Exchange) (fds : List ℕ)
    (lines : List Line) → s ≡ exchange q a ∷ [] → fds ≡ [] → AllLines below d s fds lines
    → Says below d true q a lines
one_line below d q a s fds lines is none all =
    let st = subst (λ z. StandFor below d z all.own) is all.stand in
    subst (Says below d true q a)
    (sym (all.all ∙ ap (λ z. all.own ++ closed d z) none ∙ append-nil all.own ∙ st.4 ∙ ap (λ ls. st.0 ++ ls) st.3
    ∙ append-nil st.0)) st.2

-- The directory's close is the last of these lines, whether before the call's end or behind it.
record Shut (below : Below) (d : Descriptors) (mid : List Exchange) (behind : List ℕ) (fd : ℕ) (lines : List Line) : Type 0
  where
    inner : List Line
    stand : AllLines below d mid behind inner
    all : lines ≡ inner ++ close_line (d.handle fd) ∷ []

shut : (below : Below) (d : Descriptors) (is_last : Bool) (mid last : List Exchange) (behind : List ℕ) (fd : ℕ)
    (own : List Line) → (is_last ≡ false → behind ≡ []) → Closed (not is_last) fd last
    → StandFor below d (mid ++ last) own → NoSignals (mid ++ last)
    → Shut below d mid behind fd (own ++ closed d (behind ++ behind_of is_last (fd ∷ [])))
shut below d true mid last behind fd own at_once none stand quiet =
    let same = ap (λ z. mid ++ z) none ∙ append-nil mid in
    record {
      inner = own ++ closed d behind;
      stand = record {
        own = own;
        stand = subst (λ z. StandFor below d z own) same stand;
        quiet = quiet_before mid last quiet;
        all = refl;
      };
      all = ap (λ ls. own ++ ls) (closed_both d behind (fd ∷ []))
          ∙ sym (append_assoc own (closed d behind) (close_line (d.handle fd) ∷ []));
    }
shut below d false mid last behind fd own at_once closed_so stand quiet =
    let st = stand_closed below d mid fd closed_so.0 own
    (subst (λ z. StandFor below d (mid ++ z) own) closed_so.1 stand) in
    subst (λ z. Shut below d mid z fd (own ++ closed d (z ++ []))) (sym (at_once refl))
    (record {
      inner = st.0;
      stand = record {
        own = st.0;
        stand = st.1;
        quiet = quiet_before mid last quiet;
        all = sym (append-nil st.0);
      };
      all = append-nil own ∙ st.2;
    })

-- ---- a directory

-- the call fails so, and these lines lead it from the turn to the reply
abbrev pub Ends : Below → CallTurn → List Line → Told → Outcome → Type 0
Ends below turn lines reply outcome = FailsSo outcome × Leads below turn lines (reply_view reply)

never_again : (q : SystemCall) (a : Answer) → is_look q ≡ true → a.error ≡ EINTR → again q a ≡ false → ⊥
never_again q a look signal no_more =
    true≢false (sym (ap (λ b. b && (a.error == EINTR)) look ∙ ap (λ n. n == EINTR) signal) ∙ no_more)

printed_is : (names : List (List ℕ)) (b : ℕ) (bs : List ℕ) → after_slashes names ≡ b ∷ bs → printed names ≡ b ∷ bs
printed_is [] b bs h = cc (h)
printed_is (n ∷ names) b bs h = h

slash_either : (path text : List ℕ) (first : ℕ) (t : Bool) → same_bytes path (SLASH ∷ first ∷ text) ≡ t
    → (t || same_bytes path (first ∷ text)) ≡ true → has_final_slash path ≡ has_final_slash (SLASH ∷ first ∷ text)
slash_either path text first true e h = ap has_final_slash (same_text path (SLASH ∷ first ∷ text) e)
slash_either path text first false e h = ap has_final_slash (same_text path (first ∷ text) h)

-- a path of names alone has no slash at its end
bare : (beneath : Bool) (path place : List ℕ) (names : List (List ℕ)) → misses_at_once beneath path place ≡ true
    → names_read place ≡ Some names → has_final_slash path ≡ false
bare beneath path place names at_once read =
    let inside = and_true (not (beneath && begins_with_slash path)) _ at_once in
    let whole = and_true (is_none (text_fault path)) _ inside.1 in
    let spells = and_true (has_names (names_read place)) (spells_place path place) whole.1 in
    let p = placed place names spells.0 read in
    let as_printed = printed_is names SLASH (p.first ∷ p.text)
    (ap after_slashes (sym p.pieces) ∙ reprinted (p.first ∷ p.text)) in
    let no_slash = printed_read names
    (λ n d l. no_fault (name_fault (get_or names n d)) (AllPass-from_list_all is_name names p.valid n d l)) in
    slash_either path p.text p.first (same_bytes path (SLASH ∷ p.first ∷ p.text)) refl
    (subst (λ (t : List ℕ). spells_place path t ≡ true) p.is spells.1)
    ∙ ap has_final_slash (sym as_printed) ∙ ap (λ (r : Reading). r.slash) no_slash

-- a look-up found a name missing
pub record Missed (below : Below) (at : At) (error : ℕ) (lines : List Line) : Type 0 where
  pub is : error ≡ ENOENT
  pub at_once : misses_at_once below.flags.beneath (text_in at.slashed) (place_in at.slashed) ≡ true
  pub misses : Misses below (place_in at.slashed) lines

pub missed_so : (below : Below) (d : Descriptors) (at : At) (path : List ℕ) (how error : ℕ) (s : List Exchange)
    (lines : List Line) → IsBelowRoot below d at → Failed (seeks at path how) at s error → StandFor below d s lines
    → NoSignals s → Missed below at error lines
missed_so below d at path how error s lines is (by_signal a is_one signal) stand quiet =
    absurd (never_again (seeks at path how) a refl signal (subst NoSignals is_one quiet).0)
missed_so below d at path how error s lines is (by_missing a b are enoent missing may error_is) stand quiet =
    let st = subst (λ z. StandFor below d z lines) are stand in
    let at_once = subst (λ t. misses_at_once t (text_in at.slashed) (place_in at.slashed) ≡ true) is.beneath may in
    let none = st.2.failed (λ zero. absurd cc) refl in
    record {
      is = error_is;
      at_once = at_once;
      misses = subst (Misses below (place_in at.slashed))
          (sym (st.4 ∙ ap (λ ls. ls ++ st.1) none ∙ st.3.4 ∙ ap (λ ls. st.3.0 ++ ls) st.3.3 ∙ append-nil st.3.0))
          (st.3.2.missed (place_in at.slashed) missing refl is.root (bits at.flags).added at_once);
    }

no_behind : (b : Bool) → behind_of b [] ≡ []
no_behind true = refl
no_behind false = refl

-- in the root itself: that is the caller's
pub in_itself : (below : Below) (d : Descriptors) (k : Known) (at : At)
    (Inner : Dir → List Exchange → List ℕ → Outcome → Type 0) (s : List Exchange) (fds : List ℕ) (outcome : Outcome)
    (lines : List Line) → (m : Within k at None Inner s fds outcome) → AllLines below d s fds lines
    → AllLines below d m.mid m.behind lines
in_itself below d k at Inner s fds outcome lines m all =
    let own_is = ap (λ (x : Dir). x.own) m.finds.1 in
    let last_is = subst (λ b. Closed (b && not m.is_last) m.dir.fd m.last) own_is m.closed in
    let same = m.all ∙ ap (λ z. z ++ (m.mid ++ m.last)) m.finds.0 ∙ ap (λ z. m.mid ++ z) last_is ∙ append-nil m.mid in
    let fds_is = m.closes
    ∙ ap (λ b. m.behind ++ behind_of m.is_last (if b then m.dir.fd ∷ [] else [])) own_is
    ∙ ap (λ z. m.behind ++ z) (no_behind m.is_last) ∙ append-nil m.behind in
    record {
      own = all.own;
      stand = subst (λ z. StandFor below d z all.own) same all.stand;
      quiet = subst NoSignals same all.quiet;
      all = all.all ∙ ap (λ z. all.own ++ closed d z) fds_is;
    }

-- in a directory whose path was looked up
module _ (tell : FailsAtOnceTell) (c : CallInHistory) (d : Descriptors) (k : Known) (is_on : IsOn d k) (at : At)
    (is_below : IsBelowRoot c.below d at) (aim : Aim) (follow : goal_of aim ≡ Follow) (split : Split) (path : List ℕ)
    (same : IsDirectoryText (text_in path) split) (Inner : Dir → List Exchange → List ℕ → Outcome → Type 0)
    (step : StepWith ℕ) (reply : Told) (s : List Exchange) (fds : List ℕ) (lines tail : List Line)
    (all : AllLines c.below d s fds lines) where
  abbrev Reaches : Outcome → Type 0
  Reaches outcome = Ends c.below (walks c.below aim split.dir) (lines ++ tail) reply outcome

  abbrev Goes : Outcome → Type 0
  Goes outcome = (dir : Dir) (h : Handle) (names : List (List ℕ)) (mid : List Exchange) (behind : List ℕ)
      (inner : List Line) → d.handle dir.fd ≡ h.number → dir.fd ≢ d.root → Inner dir mid behind outcome
      → AllLines c.below d mid behind inner
      → Ends c.below (reached c.below true h names aim) ((inner ++ close_line h.number ∷ []) ++ tail) reply outcome

  found_there : (outcome : Outcome) → Within k at (Some path) Inner s fds outcome → Goes outcome → Reaches outcome
  found_there outcome m goes =
      let a = m.finds.0.0 in
      let fd = m.dir.fd in
      let s_is = m.all ∙ ap (λ z. z ++ (m.mid ++ m.last)) m.finds.0.1 in
      let st = subst (λ z. StandFor c.below d z all.own) s_is all.stand in
      let w = subst (λ n. WalksTo c.below d (Resolve (text_in path)) n st.0) m.finds.0.3
      (walks_by c.below d k at is_below is_on (way k) false (path_bits true true k.machine is_on.0).stays path
      (ends_looks (m.mid ++ m.last)) a st.0 m.finds.0.2 st.2) in
      let behind = shut c.below d m.is_last m.mid m.last m.behind fd st.1 m.at_once
      (subst (λ b. Closed (b && not m.is_last) fd m.last) m.finds.1 m.closed) st.3
      (subst NoSignals s_is all.quiet).1 in
      let closing = behind.inner ++ close_line w.object.number ∷ [] in
      let fds_is = m.closes ∙ ap (λ b. m.behind ++ behind_of m.is_last (if b then fd ∷ [] else [])) m.finds.1 in
      let lines_are = all.all
      ∙ ap (λ z. all.own ++ closed d z) fds_is
      ∙ ap (λ ls. ls ++ closed d (m.behind ++ behind_of m.is_last (fd ∷ []))) st.4
      ∙ append_assoc st.0 st.1 (closed d (m.behind ++ behind_of m.is_last (fd ∷ [])))
      ∙ ap (λ ls. st.0 ++ ls) (behind.all ∙ ap (λ n. behind.inner ++ close_line n ∷ []) w.is) in
      let next = goes m.dir w.object w.names m.mid m.behind behind.inner w.is w.free m.inner behind.stand in (
        next.0,
        subst (λ ls. Leads c.below (walks c.below aim split.dir) ls (reply_view reply))
            (sym (ap (λ ls. ls ++ tail) lines_are ∙ append_assoc st.0 closing tail))
            (reaching.by_path c.below aim follow (reply_view reply) (text_in path) split d fd st.0 (closing ++ tail) same w
            next.1),
      )

  lacks_there : (outcome : Outcome) → RepliesBy step outcome reply
      → Unfound (seeks at path (way k)) (record at { slashed = path }) s outcome → fds ≡ []
      → Leads c.below (gives_up (held_by aim) NotFound) tail (reply_view (Fault NotFound)) → Reaches outcome
  lacks_there (Value value) by none fds_is gives = absurd none
  lacks_there (FailsAt error blamed) by none fds_is gives = absurd none
  lacks_there Steps by none fds_is gives = absurd by
  lacks_there (Fails error blamed) by failed fds_is gives =
      let m = missed_so c.below d (record at { slashed = path }) path (way k) error s lines
      (record { root = is_below.root; beneath = is_below.beneath; no_links = is_below.no_links }) failed
      (subst (StandFor c.below d s) (sym (all.all ∙ ap (λ z. all.own ++ closed d z) fds_is ∙ append-nil all.own)) all.stand)
      all.quiet in (
        m.is,
        subst (λ (r : Told). Leads c.below (walks c.below aim split.dir) (lines ++ tail) (reply_view r)) (sym by)
            (not_there c.below aim follow (reply_view (Fault NotFound)) tell c (text_in path) (place_in path) split lines
            tail same (bare c.below.flags.beneath (text_in path) (place_in path) _ m.at_once m.misses.names) m.misses
            m.at_once gives),
      )

  pub by_path : (outcome : Outcome) → RepliesBy step outcome reply → Enters k at (Some path) Inner s fds outcome
      → Leads c.below (gives_up (held_by aim) NotFound) tail (reply_view (Fault NotFound)) → Goes outcome
      → Reaches outcome
  by_path outcome by (inl lacks) gives goes = lacks_there outcome by lacks.0 lacks.1 gives
  by_path outcome by (inr m) gives goes = found_there outcome m goes
