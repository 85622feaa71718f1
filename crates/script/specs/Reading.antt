-- What the functions of the reader say of the walk: ts are the tokens before a call, and us those after it. This file serves the proofs only.
use Rattle.std.specs.Prelude.{◌≡◌, ℕ, suc, ◌+◌, ◌-◌, ◌<◌, ◌≤◌, List, [], ◌∷◌, ◌++◌, map, Some, Option}
use Rattle.expression.specs.Expressions.{Expr}
use Rattle.expression.specs.declared.raw.RawNode.{RawNode}
use Rattle.expression.specs.declared.raw.RawNode.TheVariants as raw
use Rattle.script.specs.Denoted.{denoted, postfix, Within, Holds}
use Rattle.script.specs.Dialects.{Dialect, mark_word, mark_size, code_named}
use Rattle.script.specs.Forms.{Brackets, Written, bracketed, body, nodes, AllLow, Low, is_none, is_pair, is_or, is_star, is_lodge}
use Rattle.script.specs.Machine.{Want, an_expr, more, the, wanted, headed, going, walk, judged, Told}
use Rattle.script.specs.Tokens.{Placed, bare, sign, word, number, opening, closing, finish}
use Rattle.script.specs.declared.fault.FormFault.{FormFault}
use Rattle.script.specs.declared.form.Form.{Form}
use Rattle.script.specs.declared.name.FormName.{FormName}
use Rattle.script.specs.declared.name.FormName.TheVariants.{Lodge}
use Rattle.script.specs.declared.name.Name.{Name}
use Rattle.script.specs.declared.name.Name.TheVariants.{Mark, Nothing, Pair, Or, Star}

-- The bytes of a name.
abbrev pub name_bytes : Dialect → Name → List ℕ
name_bytes d Mark = mark_word d
name_bytes d Nothing = is_none
name_bytes d Pair = is_pair
name_bytes d Or = is_or
name_bytes d Star = is_star

-- The node of a name with two parts.
abbrev pub joint_of : Name → RawNode
joint_of Mark = raw.Pair
joint_of Nothing = raw.Pair
joint_of Pair = raw.Pair
joint_of Or = raw.Or
joint_of Star = raw.Pair

abbrev pub head_bytes : FormName → List ℕ
head_bytes Lodge = is_lodge

-- The walk stops at what is wanted first.
abbrev pub Halted : List Placed → Want → FormFault → Type 0
Halted ts w f = (d : Dialect) (left : ℕ) (k : List Want) → Told f (walk d (going left (w ∷ k)) ts)

-- The walk goes by the sign that is wanted first.
pub record Passed (ts : List Placed) (b : ℕ) (us : List Placed) : Type 0 where
  pub walks : (d : Dialect) (left : ℕ) (k : List Want) → walk d (going left (the b ∷ k)) ts ≡ walk d (going left k) us
  pub tokens : map bare ts ≡ sign b ∷ map bare us

-- The line ends where its end is wanted.
pub record Ended (ts : List Placed) : Type 0 where
  pub walks : (d : Dialect) (left : ℕ) (k : List Want) → walk d (going left (the 10 ∷ k)) ts ≡ going left k
  pub tokens : map bare ts ≡ finish ∷ []

-- The walk goes by a number of a mark.
pub record Numbered (ts : List Placed) (n : ℕ) (us : List Placed) : Type 0 where
  pub low : n ≤ 65535
  pub walks : (d : Dialect) (left m : ℕ) (ns : List ℕ) (k : List Want) → walk d (going left (more (suc m) ns ∷ k)) ts ≡ walk d (going left (more m (ns ++ n ∷ []) ∷ k)) us
  pub tokens : map bare ts ≡ number n ∷ map bare us

-- The walk stops where a number of a mark is wanted.
abbrev pub Uncounted : List Placed → FormFault → Type 0
Uncounted ts f = (d : Dialect) (left m : ℕ) (ns : List ℕ) (k : List Want) → Told f (walk d (going left (more (suc m) ns ∷ k)) ts)

-- The walk goes by the bracket that closes a mark whose numbers name the code c.
pub record Sealed (ts : List Placed) (code : Option ℕ) (c : ℕ) (us : List Placed) : Type 0 where
  pub walks : (d : Dialect) (left : ℕ) (ns : List ℕ) (k : List Want) → code_named d ns ≡ code → walk d (going left (more 0 ns ∷ k)) ts ≡ walk d (going left k) us
  pub tokens : map bare ts ≡ closing ∷ map bare us
  pub named : code ≡ Some c

abbrev pub Unsealed : List Placed → Option ℕ → FormFault → Type 0
Unsealed ts code f = (d : Dialect) (left : ℕ) (ns : List ℕ) (k : List Want) → code_named d ns ≡ code → Told f (walk d (going left (more 0 ns ∷ k)) ts)

-- The walk goes by the numbers of a mark and its bracket; the mark names the code c.
pub record Lettered (d : Dialect) (ts : List Placed) (c : ℕ) (us : List Placed) : Type 0 where
  pub numbers : List ℕ
  pub low : AllLow numbers
  pub walks : (left : ℕ) (k : List Want) → walk d (going left (more (mark_size d) [] ∷ k)) ts ≡ walk d (going left k) us
  pub tokens : map bare ts ≡ map number numbers ++ (closing ∷ map bare us)
  pub named : code_named d numbers ≡ Some c

abbrev pub Unlettered : Dialect → List Placed → FormFault → Type 0
Unlettered d ts f = (left : ℕ) (k : List Want) → Told f (walk d (going left (more (mark_size d) [] ∷ k)) ts)

-- The walk stops within the expression that is wanted first.
abbrev pub Stuck : Dialect → List Placed → ℕ → FormFault → Type 0
Stuck d ts left f = (k : List Want) → Told f (walk d (going left (an_expr ∷ k)) ts)

-- The walk goes by the bracket and the name of an expression.
pub record Headed (d : Dialect) (ts : List Placed) (left : ℕ) (x : Name) (us : List Placed) : Type 0 where
  pub some : 0 < left
  pub walks : (k : List Want) → walk d (going left (an_expr ∷ k)) ts ≡ walk d (going (left - 1) (wanted d x k)) us
  pub tokens : map bare ts ≡ opening ∷ (word (name_bytes d x) ∷ map bare us)

-- The walk goes by an expression, after which l nodes may open, and whose nodes were added to the table.
pub record Read (d : Dialect) (ts : List Placed) (left l : ℕ) (us : List Placed) (was is : List RawNode) : Type 0 where
  pub less : l < left
  pub walks : (k : List Want) → walk d (going left (an_expr ∷ k)) ts ≡ walk d (going l k) us
  pub brackets : Brackets
  pub tokens : map bare ts ≡ bracketed d brackets ++ map bare us
  pub low : Low brackets
  pub expr : Expr
  pub denotes : denoted d brackets ≡ Some expr
  pub table : is ≡ was ++ postfix expr
  pub count : l + nodes brackets ≡ left

-- The walk goes by the bracket and the name of a form.
pub record Led (ts : List Placed) (x : FormName) (us : List Placed) : Type 0 where
  pub walks : (d : Dialect) → judged d ts ≡ walk d (going 255 (headed x [])) us
  pub tokens : map bare ts ≡ opening ∷ (word (head_bytes x) ∷ map bare us)

abbrev pub Unled : List Placed → FormFault → Type 0
Unled ts f = (d : Dialect) → Told f (judged d ts)

-- The walk goes by what follows the name of a form, to the line's end, and the code holds the form.
pub record Completed (d : Dialect) (x : FormName) (ts : List Placed) (f : Form) : Type 0 where
  pub left : ℕ
  pub walks : walk d (going 255 (headed x [])) ts ≡ going left []
  pub form : Written
  pub tokens : body d form ≡ word (head_bytes x) ∷ map bare ts
  pub within : Within d form
  pub holds : Holds d form f

abbrev pub Broken : Dialect → FormName → List Placed → FormFault → Type 0
Broken d x ts f = Told f (walk d (going 255 (headed x [])) ts)
