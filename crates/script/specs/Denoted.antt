-- What a form says: the expression that its brackets denote, and the table of nodes for it.
use Rattle.std.specs.Prelude.{◌≡◌, ℕ, ◌≤◌, List, [], ◌∷◌, ◌++◌, Some, None, vec_items, Option}
use Rattle.expression.specs.Expressions as expression
use Rattle.expression.specs.Expressions.{Expr}
use Rattle.expression.specs.declared.raw.RawNode.{RawNode}
use Rattle.expression.specs.declared.raw.RawNode.TheVariants.{Letter, Empty, Pair, Or, Star}
use Rattle.script.specs.Dialects.{Dialect, code_named}
use Rattle.script.specs.Forms.{Brackets, mark, empty, pair, or, star, Written, lodge, nodes, Low}
use Rattle.script.specs.declared.form.Form.{Form}
use Rattle.script.specs.declared.form.Form.TheVariants.{Lodge}

-- An expression of one letter, of two parts, and of one, where the letter and the parts are there.
abbrev pub lettered : Option ℕ → Option Expr
lettered (Some c) = Some (expression.letter c)
lettered None = None

abbrev pub joined : (Expr → Expr → Expr) → Option Expr → Option Expr → Option Expr
joined f (Some x) (Some y) = Some (f x y)
joined f (Some x) None = None
joined f None y = None

abbrev pub repeated : Option Expr → Option Expr
repeated (Some x) = Some (expression.star x)
repeated None = None

-- The expression that brackets denote, where each mark names a letter.
abbrev pub denoted : Dialect → Brackets → Option Expr
denoted d (mark ns) = lettered (code_named d ns)
denoted d empty = Some expression.empty
denoted d (pair e f) = joined expression.pair (denoted d e) (denoted d f)
denoted d (or e f) = joined expression.or (denoted d e) (denoted d f)
denoted d (star e) = repeated (denoted d e)

-- The nodes of an expression, each after its parts.
abbrev pub postfix : Expr → List RawNode
postfix (expression.letter c) = Letter c ∷ []
postfix expression.empty = Empty ∷ []
postfix (expression.pair x y) = postfix x ++ (postfix y ++ (Pair ∷ []))
postfix (expression.or x y) = postfix x ++ (postfix y ++ (Or ∷ []))
postfix (expression.star x) = postfix x ++ (Star ∷ [])

-- An expression within the limits: no number is too large, each mark names a letter, and there are 255 nodes at most.
pub record Lodgeable (d : Dialect) (e : Brackets) : Type 0 where
  pub low : Low e
  pub expr : Expr
  pub denotes : denoted d e ≡ Some expr
  pub small : nodes e ≤ 255

-- A form within the limits.
abbrev pub Within : Dialect → Written → Type 0
Within d (lodge e) = Lodgeable d e

-- The form that the code holds is the one written, its nodes those of the expression denoted.
abbrev pub Holds : Dialect → Written → Form → Type 0
Holds d (lodge e) (Lodge table) = (x : Expr) × (denoted d e ≡ Some x) × (vec_items table ≡ postfix x)
