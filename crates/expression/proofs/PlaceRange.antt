-- Each place that follows another is one of the places 1 to the last.
use Rattle.std.proofs.Common.{◌≡◌, ℕ, zero, suc, ◌+◌, ◌≤◌, true, List, [], ◌∷◌, arith}
use Prim.{tt}
use Rattle.expression.specs.Expressions.{Expr, letter, empty, pair, or, star, admits_empty}
use Rattle.expression.specs.Members.{Each}
use Rattle.expression.specs.Places.{letter_count, Item, item, continuations, continuation, heads, all_heads, followers, follows}
use Rattle.expression.proofs.Members.{each_append, each_cond, each_at, each_any}

module _ (n : ℕ) where
  abbrev Place : ℕ → Type 0
  Place q = (1 ≤ q) × (q ≤ n)

  -- A part ends at the last place or before it.
  abbrev Fits : Item → Type 0
  Fits x = x.before + letter_count x.expr ≤ n

  heads_within : (o : ℕ) (e : Expr) → o + letter_count e ≤ n → Each Place (heads o e)
  heads_within o (letter a) h = ((omega arith, omega arith), tt)
  heads_within o empty h = tt
  heads_within o (pair e f) h = each_append Place _ _ (heads_within o e (omega arith)) (each_cond Place (admits_empty e) _ (heads_within (o + letter_count e) f (omega arith)))
  heads_within o (or e f) h = each_append Place _ _ (heads_within o e (omega arith)) (heads_within (o + letter_count e) f (omega arith))
  heads_within o (star e) h = heads_within o e h

  all_heads_within : (k : List Item) → Each Fits k → Each Place (all_heads k)
  all_heads_within [] f = tt
  all_heads_within (x ∷ k) f = each_append Place _ _ (heads_within x.before x.expr f.0) (each_cond Place (admits_empty x.expr) _ (all_heads_within k f.1))

  continuations_fit : (o : ℕ) (e : Expr) (k : List Item) → o + letter_count e ≤ n → Each Fits k → Each (Each Fits) (continuations o e k)
  continuations_fit o (letter a) k h f = (f, tt)
  continuations_fit o empty k h f = tt
  continuations_fit o (pair e g) k h f =
      let l : o + letter_count e + letter_count g ≤ n = omega arith in
      each_append (Each Fits) _ _ (continuations_fit o e (item (o + letter_count e) g ∷ k) (omega arith) (l, f)) (continuations_fit (o + letter_count e) g k l f)
  continuations_fit o (or e g) k h f = each_append (Each Fits) _ _ (continuations_fit o e k (omega arith) f) (continuations_fit (o + letter_count e) g k (omega arith) f)
  continuations_fit o (star e) k h f = continuations_fit o e (item o (star e) ∷ k) h (h, f)

continuation_fits : (e : Expr) (p : ℕ) → Each (Fits (letter_count e)) (continuation e p)
continuation_fits e zero = (omega arith, tt)
continuation_fits e (suc j) = each_at (Each (Fits (letter_count e))) [] (continuations 0 e []) j tt (continuations_fit (letter_count e) 0 e [] (omega arith) tt)

pub follows_within : (e : Expr) (p q : ℕ) → follows e p q ≡ true → (1 ≤ q) × (q ≤ letter_count e)
follows_within e p q f = each_any (Place (letter_count e)) q (followers e p) (all_heads_within (letter_count e) (continuation e p) (continuation_fits e p)) f
