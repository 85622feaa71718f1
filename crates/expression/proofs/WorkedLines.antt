-- The worked lines hold: what the search and the reader of turns give for each is compared at once, by computation.
use Rattle.std.proofs.Common.{◌≡◌, ℕ, List, [], ◌∷◌, map, sym, refl, ap, ◌∙◌, arith, Some, None, Option}
use Rattle.std.specs.Option.{option_map}
use Prim.{tt}
use Rattle.expression.specs.Members.{Each}
use Rattle.expression.specs.Trees.{Tree}
use Rattle.expression.specs.Turns.{turns, tree_with}
use Rattle.expression.specs.Search.{first_tree}
use Rattle.expression.specs.WorkedLines.{Line, reads, a_tree, no_tree, Holds, worked_lines, WorkedLines}
use Rattle.expression.proofs.FirstTree.{first_some}
use Rattle.expression.proofs.Decoding.{tree_with_only, tree_with_complete}

abbrev given : Line → Option (List ℕ)
given (reads e w ts) = option_map turns (first_tree e w)
given (a_tree e ts) = option_map turns (tree_with e ts)
given (no_tree e ts) = option_map turns (tree_with e ts)

abbrev wanted : Line → Option (List ℕ)
wanted (reads e w ts) = Some ts
wanted (a_tree e ts) = Some ts
wanted (no_tree e ts) = None

-- A tree with the turns that are given.
tree_of : (o : Option Tree) (ts : List ℕ) → option_map turns o ≡ Some ts → (t : Tree) × (o ≡ Some t) × (turns t ≡ ts)
tree_of None ts p = let z : ◌≡◌ {A = ℕ} 0 1 = cc in absurd (omega arith)
tree_of (Some t) ts p = (t, refl, cc)

line_holds : (l : Line) → given l ≡ wanted l → Holds l
line_holds (reads e w ts) p = let (t, q, r) = tree_of (first_tree e w) ts p in (t, first_some e w t q, r)
line_holds (a_tree e ts) p = let (t, q, r) = tree_of (tree_with e ts) ts p in (t, (tree_with_only e ts t q).0, r)
line_holds (no_tree e ts) p = λ t h q. clash (sym (ap (option_map turns) (tree_with_complete e ts t h q)) ∙ p)
  where
    clash : {x : List ℕ} → Some x ≡ None → ⊥
    clash p = let z : ◌≡◌ {A = ℕ} 0 1 = cc in omega arith

all_hold : (ls : List Line) → map given ls ≡ map wanted ls → Each Holds ls
all_hold [] p = tt
all_hold (l ∷ ls) p = (line_holds l (cc), all_hold ls (cc))

pub worked_lines_hold : WorkedLines
worked_lines_hold = all_hold worked_lines refl
