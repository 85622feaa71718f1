-- The turns of a tree: its choices, written down as numbers.
use Rattle.std.specs.Prelude.{ℕ, zero, suc, if◌then◌else◌, List, [], ◌∷◌, ◌++◌, length, Some, None, Option}
use Rattle.expression.specs.Expressions.{Expr, letter, empty, pair, or, star}
use Rattle.expression.specs.Trees.{Tree, leaf, unit, both, left, right, end, more, has_letters}
use Rattle.expression.specs.Optional.{and_then}

-- An or writes 0 for its left side and 1 for its right, and then the turns below; a star writes 0 before each member and 1 after the last.
abbrev pub turns : Tree → List ℕ
turns (leaf a) = []
turns unit = []
turns (both t u) = turns t ++ turns u
turns (left t) = 0 ∷ turns t
turns (right t) = 1 ∷ turns t
turns end = 1 ∷ []
turns (more t u) = 0 ∷ (turns t ++ turns u)

-- A tree that was read from turns, and the turns after it.
pub record Decoded : Type 0 where
  pub tree : Tree
  pub rest : List ℕ

abbrev pub decoded : Tree → List ℕ → Decoded
decoded t s = record { tree = t; rest = s }

-- A list read from turns, each member by d; a member without letters is refused. There are at most n members.
abbrev pub decode_list : (List ℕ → Option Decoded) → ℕ → List ℕ → Option Decoded
decode_list d zero ts = None
decode_list d (suc n) [] = None
decode_list d (suc n) (zero ∷ ts) =
    and_then (d ts)
    (λ x. if has_letters x.tree then and_then (decode_list d n x.rest) (λ y. Some (decoded (more x.tree y.tree) y.rest)) else None)
decode_list d (suc n) (suc zero ∷ ts) = Some (decoded end ts)
decode_list d (suc n) (suc (suc x) ∷ ts) = None

-- The tree of e whose turns a list of turns begins with, and the rest of the list.
abbrev pub decode : Expr → List ℕ → Option Decoded
decode (letter a) ts = Some (decoded (leaf a) ts)
decode empty ts = Some (decoded unit ts)
decode (pair e f) ts = and_then (decode e ts) (λ x. and_then (decode f x.rest) (λ y. Some (decoded (both x.tree y.tree) y.rest)))
decode (or e f) [] = None
decode (or e f) (zero ∷ ts) = and_then (decode e ts) (λ x. Some (decoded (left x.tree) x.rest))
decode (or e f) (suc zero ∷ ts) = and_then (decode f ts) (λ x. Some (decoded (right x.tree) x.rest))
decode (or e f) (suc (suc x) ∷ ts) = None
decode (star e) ts = decode_list (decode e) (length ts) ts

-- The tree where nothing is left over.
abbrev pub whole : Tree → List ℕ → Option Tree
whole t [] = Some t
whole t (x ∷ s) = None

-- The tree of e with just these turns.
abbrev pub tree_with : Expr → List ℕ → Option Tree
tree_with e ts = and_then (decode e ts) (λ x. whole x.tree x.rest)
