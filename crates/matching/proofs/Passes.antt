-- The two passes over the nodes for one letter.
use Rattle.std.proofs.Common.{◌≡◌, ℕ, suc, ◌+◌, ◌<◌, ◌≤◌, Bool, true, false, eqb, ◌≢◌, List, [], ◌∷◌, ◌++◌, map, length, get_or, set, replicate, sym, refl, ap, ◌∙◌, arith, length-append, get_or-set_other, get_or-set_same, eqb-true}
use mathlib.Core.Bool.{and-false}
use mathlib.Core.List.{map-map}
use borrow.Author.Tests.{eqb-false}
use Rattle.std.proofs.lemmas.List.{map-append, length-map, get_or-replicate}
use Rattle.expression.specs.Expressions.{Expr, letter, empty, pair, or, star}
use Rattle.expression.specs.Places.{letter_count, Item, item, continuations}
use Rattle.expression.specs.Layouts.{nodes_of}
use Rattle.expression.specs.Spelling.{written as lay}
use Rattle.expression.specs.declared.layout.Layout.{Layout}
use Rattle.expression.specs.declared.node.Node.{Node}
use Rattle.expression.specs.declared.node.Shape.TheVariants.{Pair, Or, Star}
use Rattle.expression.proofs.Writing.{written_append}
use Rattle.matching.specs.Holding.{held, Tells}
use Rattle.matching.specs.Rows.{bit}
use Rattle.matching.specs.Passes.{enters, enters_in, reaches, usable, Entries, bits, bits_in}
use Rattle.matching.proofs.Holding.{made_as}

-- Where no place can finish what comes next, nothing can be entered.
pub enters_none : (a o : ℕ) (e : Expr) → enters a (usable []) o e ≡ false
enters_none a o (letter c) = and-false (eqb a c)
enters_none a o empty = refl
enters_none a o (pair e f) = rw (enters_none a o e, enters_none a (o + letter_count e) f, and-false)
enters_none a o (or e f) = rw (enters_none a o e, enters_none a (o + letter_count e) f)
enters_none a o (star e) = enters_none a o e

pub entries_none : (l : Layout) → length (nodes_of l) ≤ 255 → Entries l 0 [] (replicate 256 false) (length (nodes_of l))
entries_none l h j b = get_or-replicate 256 j false false (omega arith) ∙ sym (enters_none 0 (held l j).before (held l j).expr)

-- One more node is told.
pub enter_more : (l : Layout) (a : ℕ) (next : List ℕ) (told : List Bool) (i at : ℕ) → Entries l a next told i → at ≡ i → i < length told → (value : Bool) → value ≡ enters_in a (usable next) (held l i)
    → Entries l a next (set told at value) (i + 1)
enter_more l a next told i at below is b value v j c = go (eqb j i) refl
  where
    go : (q : Bool) → eqb j i ≡ q → get_or (set told at value) j false ≡ enters_in a (usable next) (held l j)
    go true q = let eq : j ≡ i = eqb-true j i q in rw (is, eq, get_or-set_same) v
    go false q = let ne : j ≢ i = eqb-false j i q in rw (is, get_or-set_other) (below j (omega (arith, ne)))

-- What is to come after a place inside e goes on with what is to come after e.
pub continuations_append : (o : ℕ) (e : Expr) (k l : List Item) → continuations o e (k ++ l) ≡ map (λ x. x ++ l) (continuations o e k)
continuations_append o (letter c) k l = refl
continuations_append o empty k l = refl
continuations_append o (pair e f) k l =
    rw (map-append, continuations_append o e (item (o + letter_count e) f ∷ k) l, continuations_append (o + letter_count e) f k l)
continuations_append o (or e f) k l = rw (map-append, continuations_append o e k l, continuations_append (o + letter_count e) f k l)
continuations_append o (star e) k l = continuations_append o e (item o (star e) ∷ k) l

pub count_continuations : (o : ℕ) (e : Expr) (k : List Item) → length (continuations o e k) ≡ letter_count e
count_continuations o (letter c) k = refl
count_continuations o empty k = refl
count_continuations o (pair e f) k =
    length-append (continuations o e (item (o + letter_count e) f ∷ k)) _
    ∙ rw (count_continuations o e (item (o + letter_count e) f ∷ k), count_continuations (o + letter_count e) f k)
count_continuations o (or e f) k = length-append (continuations o e k) _ ∙ rw (count_continuations o e k, count_continuations (o + letter_count e) f k)
count_continuations o (star e) k = count_continuations o e (item o (star e) ∷ k)

-- The second pass.
module _ (a : ℕ) (next : ℕ → Bool) (on : Bool) where
  count_bits : (o : ℕ) (e : Expr) → length (bits a next on (continuations o e [])) ≡ letter_count e
  count_bits o e = length-map (continuations o e []) _ ∙ count_continuations o e []

  reaches_append : (k l : List Item) → reaches a next (k ++ l) on ≡ reaches a next k (reaches a next l on)
  reaches_append [] l = refl
  reaches_append (x ∷ k) l = rw (reaches_append k l)

  -- The bytes of the places inside e, where x is to come after it.
  bits_before : (o : ℕ) (e : Expr) (x : Item) → bits a next on (continuations o e (x ∷ [])) ≡ bits a next (reaches a next (x ∷ []) on) (continuations o e [])
  bits_before o e x = rw (continuations_append o e [] (x ∷ []), map-map) (same (continuations o e []))
    where
      same : (l : List (List Item)) → map (λ k. bit (reaches a next (k ++ (x ∷ [])) on)) l ≡ bits a next (reaches a next (x ∷ []) on) l
      same [] = refl
      same (k ∷ l) = rw (reaches_append k (x ∷ []), same l)

-- Two lists, written one after the other.
lay_two : (x y : List ℕ) (o m b : ℕ) (u v w : List ℕ) → length x ≡ m → b ≡ o + m → v ≡ lay x (suc o) u → w ≡ lay y (suc b) v → w ≡ lay (x ++ y) (suc o) u
lay_two x y o m b u v w l q p r = let z : suc b ≡ suc o + length x = omega arith in r ∙ rw (z, p) (sym (written_append x y (suc o) u))

-- The bytes of the places inside a node.
module _ {l : Layout} {i : ℕ} {n : Node} (here : Tells l i n) (a : ℕ) (next : ℕ → Bool) (on : Bool) where
  abbrev Spread : Bool → ℕ → List ℕ → List ℕ → Type 0
  Spread o j old new = new ≡ lay (bits_in a next o (held l j)) (suc (held l j).before) old

  pub spread_pair : {j k : ℕ} → n.shape ≡ Pair j k → (after : Bool) → after ≡ reaches a next (held l k ∷ []) on → (u v w : List ℕ) → Spread after j u v → Spread on k v w → Spread on i u w
  spread_pair {j} {k} q after f u v w p r =
      let t = made_as here q in
      rw (t.is, ← t.second_before, map-append, bits_before a next on (held l i).before (held l j).expr (held l k), ← f)
      (lay_two _ _ (held l i).before (letter_count (held l j).expr) (held l k).before u v w (count_bits a next after (held l i).before (held l j).expr) t.second_before
      (rw t.first_before at p) r)

  pub spread_or : {j k : ℕ} → n.shape ≡ Or j k → (u v w : List ℕ) → Spread on j u v → Spread on k v w → Spread on i u w
  spread_or {j} {k} q u v w p r =
      let t = made_as here q in
      rw (t.is, ← t.second_before, map-append)
      (lay_two _ _ (held l i).before (letter_count (held l j).expr) (held l k).before u v w (count_bits a next on (held l i).before (held l j).expr) t.second_before
      (rw t.first_before at p) r)

  pub spread_star : {j : ℕ} → n.shape ≡ Star j → (again : Bool) → again ≡ reaches a next (held l i ∷ []) on → (u w : List ℕ) → Spread again j u w → Spread on i u w
  spread_star {j} q again f u w r =
      let t = made_as here q in
      let f' : again ≡ reaches a next (item (held l i).before (star (held l j).expr) ∷ []) on = f ∙ ap (λ (e : Expr). reaches a next (item (held l i).before e ∷ []) on) t.is in
      rw (t.is, bits_before a next on (held l i).before (held l j).expr (item (held l i).before (star (held l j).expr)), ← f') (rw t.before at r)
