-- From what was read, opened and resolved to the line that is written.
use Rattle.std.proofs.Common.{◌≡◌, ◌≢◌, ℕ, List, [], true, refl, sym, ap, ◌∙◌, subst, inl, inr}
use Rattle.std.specs.Prelude.{Option, Some, None, reverse, unwrap_or, Result, Ok, Err, IfOk, MatchOption}
use Rattle.std.specs.Io.KnownBytes.{Keeps}
use Rattle.std.proofs.lemmas.List.{reverse-reverse}
use Rattle.serde_json.specs.Data.{Data}
use Rattle.path_text.specs.declared.errno.Errno.{Errno}
use Rattle.path_text.specs.declared.errno.Errno.TheVariants as errno
use Rattle.path_text.specs.declared.flags.Flags.{Flags}
use Rattle.path_text.specs.Reading.{Reading}
use Rattle.path_text.specs.Text.{text_fault, reading_of}
use Rattle.tree_model.specs.declared.inode.Inode.{Inode}
use Rattle.tree_model.specs.declared.inode.Object.{Object}
use Rattle.tree_model.specs.declared.step.Kind.{Kind}
use Rattle.tree_model.specs.Entries.{with_some}
use Rattle.tree_model.specs.PlaceLaws.{NamesBelowAreStanding}
use Rattle.tree_model.specs.State.{State, TOP, names_below}
use Rattle.tree_model.specs.Steps.{held, kind_of}
use Rattle.tree_model.specs.Trees.{IsTree}
use Rattle.handles.specs.Objects.{StandingObject}
use Rattle.step_resolver.specs.Meaning.{Ground, Meant, object, fails, reading_means, resolves, resolved}
use Rattle.scripts.specs.declared.fault.RunFault.{RunFault}
use Rattle.scripts.specs.declared.fault.RunFault.TheVariants.{Script, ReadFailed, WriteFailed, NoMemory, BookFull}
use Rattle.scripts.specs.declared.fault.ScriptFault.{ScriptFault}
use Rattle.step_resolver.specs.Driver.{node_of, IsReady, Resolves}
use Rattle.step_resolver.specs.declared.driver.Resolved.{Resolved}
use Rattle.step_resolver.specs.declared.driver.Resolved.TheVariants.{Found}
use Rattle.event_log.specs.Output.{opened_line, fault_line}
use Rattle.scripts.specs.Actors.{RootedTree, IsAtHand}
use Rattle.scripts.specs.Script.{rooted_tree_of}
use Rattle.scripts.specs.Checks.{then_with}
use Rattle.scripts.proofs.Texts.{first_byte}
use Rattle.run_command.specs.Run.{line_of, line_for, IsRunFaultOf, IsRun, WritesNothingIfRefused}

-- ---- the text

-- where the text was read as this path, what comes of the path comes of the text
pub read_by : (nodes : List Inode) (r : ℕ) (text : List ℕ) (flags : Flags) (path : Reading) (result : Result Resolved Errno)
    → MatchOption (text_fault text) (path ≡ reading_of text) (λ fault. ◌≡◌ {A = Result Reading Errno} (Ok path) (Err fault))
    → Resolves nodes r (reading_means (record { nodes = nodes; root = r; flags = flags }) path true) result
    → Resolves nodes r (resolved nodes r text true flags) result
read_by nodes r text flags path result read is = by_fault (text_fault text) read
  where
    g : Ground
    g = record { nodes = nodes; root = r; flags = flags }

    by_fault : (fault : Option Errno) → MatchOption fault (path ≡ reading_of text) (λ f. ◌≡◌ {A = Result Reading Errno} (Ok path) (Err f))
        → Resolves nodes r (resolves g text true fault) result
    by_fault None e = subst (λ p. Resolves nodes r (reading_means g p true) result) e is
    by_fault (Some f) e = cc (e)

-- ---- the line

-- what was opened has the line of what the path means
pub opened_means : NamesBelowAreStanding → (nodes : List Inode) → IsTree nodes → (r : ℕ) (meant : Meant) (standing : StandingObject)
    → Resolves nodes r meant (Ok (Found standing)) → opened_line standing.kind standing.node standing.names ≡ line_of nodes r meant
opened_means below nodes tree r (fails cause reads) standing is = absurd is
opened_means below nodes tree r (object x b reads) standing is =
    let there : names_below nodes r x ≡ Some (reverse standing.names) = ((below nodes tree r x).0 (reverse standing.names)).1 is.names in
    let shown : Option Object → Option (List (List ℕ)) → List ℕ = λ what names.
    with_some what [] (λ o. with_some names [] (λ ns. opened_line (kind_of o) x (reverse ns))) in
    ap (λ (kind : Kind). opened_line kind standing.node standing.names) is.kind
    ∙ ap (λ (node : ℕ). opened_line (kind_of is.what) node standing.names) is.node
    ∙ ap (λ (names : List (List ℕ)). opened_line (kind_of is.what) x names) (sym (reverse-reverse standing.names))
    ∙ ap (λ (names : Option (List (List ℕ))). shown (Some is.what) names) (sym there)
    ∙ ap (λ (what : Option Object). shown what (names_below nodes r x)) (sym is.is_what)

refused_means : (nodes : List Inode) (r : ℕ) (meant : Meant) (error : Errno) → Resolves nodes r meant (Err error) → error ≢ errno.NoMemory
    → fault_line error ≡ line_of nodes r meant
refused_means nodes r (object x b reads) error is apart = absurd (apart is)
refused_means nodes r (fails cause reads) error (inl e) apart = absurd (apart e)
refused_means nodes r (fails cause reads) error (inr e) apart = ap fault_line e

-- and an error has it where there was memory
pub refused_line : (nodes : List Inode) (r : ℕ) (meant : Meant) (error : Errno) → Resolves nodes r meant (Err error) → (result : Result (List ℕ) RunFault)
    → IfOk result (λ line. (error ≢ errno.NoMemory) × (line ≡ fault_line error)) → IfOk result (λ line. line ≡ line_of nodes r meant)
refused_line nodes r meant error is (Ok line) told = told.1 ∙ refused_means nodes r meant error is told.0
refused_line nodes r meant error is (Err fault) told = tt

-- ---- a root at hand

root_is : (s : State) (a h r : ℕ) → held s a h ≡ Some r → node_of s a h ≡ r
root_is s a h r e = ap (λ (o : Option ℕ). unwrap_or o TOP) e

pub opened_by : (said : Result RootedTree ScriptFault) (s : State) (a h : ℕ) → IsAtHand said s a h → IsReady s a h (node_of s a h)
opened_by (Ok tree) s a h hand = subst (λ (r : ℕ). IsReady s a h r) (sym (root_is s a h tree.root hand.ready.held)) hand.ready
opened_by (Err fault) s a h hand = absurd hand

said_by : (said : Result RootedTree ScriptFault) (s : State) (a h : ℕ) → IsAtHand said s a h
    → said ≡ Ok (record { nodes = s.nodes; root = node_of s a h })
said_by (Ok tree) s a h hand =
    ap (λ (r : ℕ). Ok (record { nodes = tree.nodes; root = r })) (sym (root_is s a h tree.root hand.ready.held))
    ∙ ap (λ (nodes : List Inode). Ok (record { nodes = nodes; root = node_of s a h })) (sym hand.nodes)
said_by (Err fault) s a h hand = absurd hand

-- the line is that of what the text means
pub line_by : (d : Data) (text line : List ℕ) (flags : Flags) (s : State) (a h : ℕ) → IsAtHand (rooted_tree_of d) s a h
    → line ≡ line_of s.nodes (node_of s a h) (resolved s.nodes (node_of s a h) text true flags) → line_for d text flags ≡ Ok line
line_by d text line flags s a h hand is =
    ap (λ (said : Result RootedTree ScriptFault). then_with said (λ tree. Ok (line_of tree.nodes tree.root (resolved tree.nodes tree.root text true flags))))
    (said_by (rooted_tree_of d) s a h hand)
    ∙ ap (λ (l : List ℕ). Ok l) (sym is)

-- and so it is where there is a line
pub lines_by : (d : Data) (text : List ℕ) (flags : Flags) (s : State) (a h : ℕ) (result : Result (List ℕ) RunFault) → IsAtHand (rooted_tree_of d) s a h
    → IfOk result (λ line. line ≡ line_of s.nodes (node_of s a h) (resolved s.nodes (node_of s a h) text true flags))
    → IfOk result (λ line. line_for d text flags ≡ Ok line)
lines_by d text flags s a h (Ok line) hand is = line_by d text line flags s a h hand is
lines_by d text flags s a h (Err fault) hand is = tt

-- ---- what is written

pub opened_is_some : (kind : Kind) (node : ℕ) (names : List (List ℕ)) (line : List ℕ) → line ≡ opened_line kind node names → line ≢ []
opened_is_some kind node names line e = first_byte line _ 111 e

pub fault_is_some : (error : Errno) (line : List ℕ) → line ≡ fault_line error → line ≢ []
fault_is_some error line e = first_byte line _ 102 e

-- a run over a refused script doesn't fail by a write, and leaves what was written
pub nothing_if_refused : {T : Type 0} (said : Result (List ℕ) ScriptFault) (old new : Option (List ℕ)) (result : Result T RunFault)
    → IsRun said old new result → WritesNothingIfRefused said old new
nothing_if_refused (Ok text) old new result run = tt
nothing_if_refused (Err fault) old new (Ok x) run = absurd run
nothing_if_refused (Err fault) old new (Err told) run = by told run.0 run.1
  where
    by : (told : RunFault) → IsRunFaultOf (Err fault) told → (told ≢ WriteFailed → Keeps old new) → Keeps old new
    by (Script f) is keeps = keeps (λ e. cc (e))
    by NoMemory is keeps = keeps (λ e. cc (e))
    by ReadFailed is keeps = absurd is
    by WriteFailed is keeps = absurd is
    by BookFull is keeps = absurd is

pub nothing_yet : (said : Result (List ℕ) ScriptFault) (old : Option (List ℕ)) → WritesNothingIfRefused said old old
nothing_yet (Ok text) old = tt
nothing_yet (Err fault) None = tt
nothing_yet (Err fault) (Some bytes) = refl
