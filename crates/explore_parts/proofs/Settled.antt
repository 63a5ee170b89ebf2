-- A value with its members in any order is read from its text, with them in the order of their keys.
use Rattle.std.proofs.Common.{◌≡◌, suc, ◌<◌, ◌≤◌, ◌^◌, max, [], Some, refl, sym, ap, ◌∙◌, arith, append-nil}
use Rattle.std.specs.Prelude.{⊤, option_map, option_and_then}
use Rattle.json.specs.Json as json
use Rattle.json.specs.Json.{if_last}
use Rattle.json.specs.Lex.{tokens}
use Rattle.json.specs.Print.{IsNumber}
use Rattle.json.specs.Tree as tree
use Rattle.json.specs.Tree.{json_tokens}
use Rattle.json.proofs.Printed.Decimals.{IsNumber-decimal}
use Rattle.json.proofs.Printed.Tokens.{tokens-print}
use Rattle.json.proofs.Printed.Trees.{value-json_tokens, ArePrintable-json_tokens}
use Rattle.serde_json.specs.Data.{Num, unsigned, negative, float, Data, null, boolean, number, string, array, object, Items, no_items, item, Members, no_members, member, put, depth, items_depth, members_depth}
use Rattle.serde_json.specs.Read.{read, max_depth, number_of, of_json, of_items, of_members}
use Rattle.serde_json.specs.Written.{compact_text, number_text, outline, items_outline, members_outline}
use Rattle.serde_json.proofs.Numbers.{number_of-decimal}
use Rattle.serde_json.proofs.Texts.{print-outline}

abbrev mutual
  pub settled : Data → Data
  settled null = null
  settled (boolean b) = boolean b
  settled (number n) = number n
  settled (string s) = string s
  settled (array ds) = array (settled_items ds)
  settled (object ms) = object (settled_members ms no_members)

  pub settled_items : Items → Items
  settled_items no_items = no_items
  settled_items (item d ds) = item (settled d) (settled_items ds)

  pub settled_members : Members → Members → Members
  settled_members no_members found = found
  settled_members (member k d ms) found = settled_members ms (put k (settled d) found)

abbrev pub IsCount : Num → Type 0
IsCount (unsigned n) = n < 2 ^ 64
IsCount (negative z) = ⊥
IsCount (float x) = ⊥

-- each number is below 2^64
abbrev mutual
  pub HasCounts : Data → Type 0
  HasCounts null = ⊤
  HasCounts (boolean b) = ⊤
  HasCounts (number n) = IsCount n
  HasCounts (string s) = ⊤
  HasCounts (array ds) = ItemsHaveCounts ds
  HasCounts (object ms) = MembersHaveCounts ms

  pub ItemsHaveCounts : Items → Type 0
  ItemsHaveCounts no_items = ⊤
  ItemsHaveCounts (item d ds) = HasCounts d × ItemsHaveCounts ds

  pub MembersHaveCounts : Members → Type 0
  MembersHaveCounts no_members = ⊤
  MembersHaveCounts (member k d ms) = HasCounts d × MembersHaveCounts ms

number_read : (n : Num) → IsCount n → option_map number (number_of (number_text n)) ≡ Some (number n)
number_read (unsigned n) h = ap (option_map number) (number_of-decimal n h)
number_read (negative z) h = absurd h
number_read (float x) h = absurd h

number_is : (n : Num) → IsCount n → IsNumber (number_text n)
number_is (unsigned n) h = IsNumber-decimal n h
number_is (negative z) h = absurd h
number_is (float x) h = absurd h

mutual
  of_json-outline : (d : Data) → HasCounts d → of_json (outline d) ≡ Some (settled d)
  of_json-outline null h = refl
  of_json-outline (boolean b) h = refl
  of_json-outline (number n) h = number_read n h
  of_json-outline (string s) h = refl
  of_json-outline (array ds) h = ap (option_map array) (of_items-outline ds h)
  of_json-outline (object ms) h = ap (option_map object) (of_members-outline ms no_members h)

  of_items-outline : (ds : Items) → ItemsHaveCounts ds → of_items (items_outline ds) ≡ Some (settled_items ds)
  of_items-outline no_items h = refl
  of_items-outline (item d ds) h =
      ap (option_and_then (λ e. option_map (item e) (of_items (items_outline ds)))) (of_json-outline d h.0) ∙ ap (option_map (item (settled d))) (of_items-outline ds h.1)

  of_members-outline : (ms : Members) (found : Members) → MembersHaveCounts ms → of_members (members_outline ms) found ≡ Some (settled_members ms found)
  of_members-outline no_members found h = refl
  of_members-outline (member k d ms) found h =
      ap (option_and_then (λ e. of_members (members_outline ms) (put k e found))) (of_json-outline d h.0) ∙ of_members-outline ms (put k (settled d) found) h.1

mutual
  HasNumbers-outline : (d : Data) → HasCounts d → tree.HasNumbers (outline d)
  HasNumbers-outline null h = tt
  HasNumbers-outline (boolean b) h = tt
  HasNumbers-outline (number n) h = number_is n h
  HasNumbers-outline (string s) h = tt
  HasNumbers-outline (array ds) h = ItemsHaveNumbers-outline ds h
  HasNumbers-outline (object ms) h = MembersHaveNumbers-outline ms h

  ItemsHaveNumbers-outline : (ds : Items) → ItemsHaveCounts ds → tree.ItemsHaveNumbers (items_outline ds)
  ItemsHaveNumbers-outline no_items h = tt
  ItemsHaveNumbers-outline (item d ds) h = (HasNumbers-outline d h.0, ItemsHaveNumbers-outline ds h.1)

  MembersHaveNumbers-outline : (ms : Members) → MembersHaveCounts ms → tree.MembersHaveNumbers (members_outline ms)
  MembersHaveNumbers-outline no_members h = tt
  MembersHaveNumbers-outline (member k d ms) h = (HasNumbers-outline d h.0, MembersHaveNumbers-outline ms h.1)

mutual
  depth-outline : (d : Data) → tree.depth (outline d) ≡ depth d
  depth-outline null = refl
  depth-outline (boolean b) = refl
  depth-outline (number n) = refl
  depth-outline (string s) = refl
  depth-outline (array ds) = ap suc (items_depth-outline ds)
  depth-outline (object ms) = ap suc (members_depth-outline ms)

  items_depth-outline : (ds : Items) → tree.items_depth (items_outline ds) ≡ items_depth ds
  items_depth-outline no_items = refl
  items_depth-outline (item d ds) = λ i. max (depth-outline d i) (items_depth-outline ds i)

  members_depth-outline : (ms : Members) → tree.members_depth (members_outline ms) ≡ members_depth ms
  members_depth-outline no_members = refl
  members_depth-outline (member k d ms) = λ i. max (depth-outline d i) (members_depth-outline ms i)

-- the members go in one after another
pub reads_back : (d : Data) → HasCounts d → depth d ≤ max_depth → read (compact_text d) ≡ Some (settled d)
reads_back d counts shallow =
    let ts = json_tokens (outline d) in
    let lexed : tokens (compact_text d) ≡ ts =
    ap tokens (sym (print-outline d)) ∙ tokens-print ts (ArePrintable-json_tokens (outline d) (HasNumbers-outline d counts)) in
    ap (λ us. option_and_then of_json (option_and_then (λ p. if_last p.0 p.1) (json.value max_depth us))) (lexed ∙ sym (append-nil ts))
    ∙ ap (λ o. option_and_then of_json (option_and_then (λ p. if_last p.0 p.1) o)) (value-json_tokens (outline d) max_depth [] (omega (arith, depth-outline d)))
    ∙ of_json-outline d counts
