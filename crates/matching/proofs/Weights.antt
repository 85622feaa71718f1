-- How many turns a leg has at most.
use Rattle.std.proofs.Common.{ℕ, zero, suc, ◌+◌, ◌*◌, ◌≤◌, Bool, true, false, cond, List, [], ◌∷◌, length, add-mul, arith, length-append}
use Prim.{tt}
use Rattle.expression.specs.Expressions.{Expr, letter, empty, pair, or, star}
use Rattle.expression.specs.Members.{Each}
use Rattle.expression.specs.Places.{letter_count, Item, item, continuations, continuation}
use Rattle.expression.proofs.Members.{each_append, each_at}
use Rattle.expression.specs.Coming.{size}
use Rattle.expression.proofs.EmptyTurns.{blank_few}
use Rattle.matching.specs.Passes.{enters, enters_in}
use Rattle.matching.specs.Turned.{blank}
use Rattle.matching.specs.Legs.{Leg, behind, route, leg, rest_turns}

-- The number of nodes that items take.
abbrev weight : List Item → ℕ
weight [] = 0
weight (x ∷ k) = size x.expr + weight k

behind_short : (l : List ℕ) (g : Leg) (a b n : ℕ) → length l ≤ a → length g.turned ≤ b → a + b ≤ n → length (behind l g).turned ≤ n
behind_short l g a b n p q r = omega (arith, length-append l g.turned)

either : (c : Bool) (g h : Leg) (n : ℕ) → length g.turned ≤ n → length h.turned ≤ n → length (cond c g h).turned ≤ n
either true g h n p q = p
either false g h n p q = q

module _ (a : ℕ) (next : ℕ → Bool) where
  route_short : (o : ℕ) (e : Expr) → length (route a next o e).turned ≤ size e
  route_short o (letter b) = omega arith
  route_short o empty = omega arith
  route_short o (pair e f) =
      let x = route_short o e in let y = route_short (o + letter_count e) f in
      either (enters a next o e) _ _ _ (omega arith) (behind_short (blank e) (route a next (o + letter_count e) f) _ _ _ (blank_few e) y (omega arith))
  route_short o (or e f) =
      let x = route_short o e in let y = route_short (o + letter_count e) f in
      either (enters a next o e) _ _ _ (behind_short (0 ∷ []) (route a next o e) 1 _ _ (omega arith) x (omega arith))
      (behind_short (1 ∷ []) (route a next (o + letter_count e) f) 1 _ _ (omega arith) y (omega arith))
  route_short o (star e) = behind_short (0 ∷ []) (route a next o e) 1 _ _ (omega arith) (route_short o e) (omega arith)

  leg_short : (k : List Item) → length (leg a next k).turned ≤ weight k
  leg_short [] = omega arith
  leg_short (x ∷ k) =
      let y = route_short x.before x.expr in
      either (enters_in a next x) _ _ _ (omega arith) (behind_short (blank x.expr) (leg a next k) _ _ _ (blank_few x.expr) (leg_short k) (omega arith))

rest_short : (k : List Item) → length (rest_turns k) ≤ weight k
rest_short [] = omega arith
rest_short (x ∷ k) = let y = blank_few x.expr in let z = rest_short k in omega (arith, length-append (blank x.expr) (rest_turns k))

abbrev Light : ℕ → List Item → Type 0
Light n k = weight k ≤ n

raise : (m r : ℕ) (l : List (List Item)) → m ≤ r → Each (Light m) l → Each (Light r) l
raise m r [] a f = tt
raise m r (k ∷ l) a f = let x = f.0 in (omega arith, raise m r l a f.1)

all_light : (m o : ℕ) (e : Expr) (k : List Item) → size e ≤ m → Each (Light (weight k + size e * m)) (continuations o e k)
all_light m o (letter a) k h = (omega arith, tt)
all_light m o empty k h = tt
all_light m o (pair e f) k h =
    let x = add-mul (size e + size f) 1 m in let y = add-mul (size e) (size f) m in
    each_append (Light (weight k + size (pair e f) * m)) _ _ (raise _ _ _ (omega arith) (all_light m o e (item (o + letter_count e) f ∷ k) (omega arith)))
    (raise _ _ _ (omega arith) (all_light m (o + letter_count e) f k (omega arith)))
all_light m o (or e f) k h =
    let x = add-mul (size e + size f) 1 m in let y = add-mul (size e) (size f) m in
    each_append (Light (weight k + size (or e f) * m)) _ _ (raise _ _ _ (omega arith) (all_light m o e k (omega arith)))
    (raise _ _ _ (omega arith) (all_light m (o + letter_count e) f k (omega arith)))
all_light m o (star e) k h = let x = add-mul (size e) 1 m in raise _ _ _ (omega arith) (all_light m o e (item o (star e) ∷ k) (omega arith))

light : (e : Expr) → size e ≤ 255 → (p : ℕ) → weight (continuation e p) ≤ 65536
light e h zero = omega arith
light e h (suc j) =
    let x = each_at (Light (0 + size e * 255)) [] (continuations 0 e []) j (omega arith) (all_light 255 0 e [] h) in omega arith

-- Each leg of an expression with at most 255 nodes.
module _ (e : Expr) (small : size e ≤ 255) (p : ℕ) where
  pub leg_light : (a : ℕ) (next : ℕ → Bool) → length (leg a next (continuation e p)).turned ≤ 65536
  leg_light a next = let x = leg_short a next (continuation e p) in let y = light e small p in omega arith

  pub rest_light : length (rest_turns (continuation e p)) ≤ 65536
  rest_light = let x = rest_short (continuation e p) in let y = light e small p in omega arith
