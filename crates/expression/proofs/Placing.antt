-- The stops after a place are at places with the continuation and the letter that the stop names.
use Rattle.std.proofs.Common.{◌≡◌, ℕ, zero, suc, ◌+◌, ◌<◌, List, [], ◌∷◌, ◌++◌, map, length, get_or, sym, refl, ap, ◌∙◌, add-zero, add_assoc, arith, length-append, get_or-append-add, Some, None, Option}
use Prim.{Unit, tt}
use lib.ListN.{get_or-append}
use Rattle.expression.specs.Expressions.{Expr, letter, empty, pair, or, star}
use Rattle.expression.specs.Trees.{Tree}
use Rattle.expression.specs.Turns.{turns}
use Rattle.expression.specs.Search.{empty_tree}
use Rattle.expression.specs.Places.{letter_count, codes, code, Item, item, continuations, continuation}
use Rattle.expression.specs.Members.{Each}
use Rattle.expression.specs.Walks.{Stop, after, past, stops, all_stops}
use Rattle.expression.proofs.Members.{each_append, each_at}

module _ (c : ℕ → List Item) (d : ℕ → ℕ) where
  -- The functions c and d give the continuation and the letter of each place inside e, where o letters stand before e and k is to come after it.
  abbrev Placed : ℕ → Expr → List Item → Type 0
  Placed o (letter a) k = (c (suc o) ≡ k) × (d (suc o) ≡ a)
  Placed o empty k = Unit {0}
  Placed o (pair e f) k = Placed o e (item (o + letter_count e) f ∷ k) × Placed (o + letter_count e) f k
  Placed o (or e f) k = Placed o e k × Placed (o + letter_count e) f k
  Placed o (star e) k = Placed o e (item o (star e) ∷ k)

  -- Each item of a continuation is placed, with the items after it.
  abbrev AllPlaced : List Item → Type 0
  AllPlaced [] = Unit {0}
  AllPlaced (x ∷ k) = Placed x.before x.expr k × AllPlaced k

  -- A stop that names its place's continuation and letter.
  pub record Right (s : Stop) : Type 0 where
    pub goes : c s.place ≡ s.items
    pub reads : d s.place ≡ s.letter

  right_after : (ts : List ℕ) (l : List Stop) → Each Right l → Each Right (map (after ts) l)
  right_after ts [] f = tt
  right_after ts (s ∷ l) f = (record { goes = f.0.goes; reads = f.0.reads }, right_after ts l f.1)

  right_past : (o : Option Tree) (l : List Stop) → Each Right l → Each Right (past o l)
  right_past None l f = tt
  right_past (Some t) l f = right_after (turns t) l f

  stops_right : (o : ℕ) (e : Expr) (k : List Item) → Placed o e k → Each Right (stops o e k)
  stops_right o (letter a) k p = (record { goes = p.0; reads = p.1 }, tt)
  stops_right o empty k p = tt
  stops_right o (pair e f) k p =
      each_append Right _ _ (stops_right o e (item (o + letter_count e) f ∷ k) p.0) (right_past (empty_tree e) _ (stops_right (o + letter_count e) f k p.1))
  stops_right o (or e f) k p = each_append Right _ _ (right_after (0 ∷ []) _ (stops_right o e k p.0)) (right_after (1 ∷ []) _ (stops_right (o + letter_count e) f k p.1))
  stops_right o (star e) k p = right_after (0 ∷ []) _ (stops_right o e (item o (star e) ∷ k) p)

  all_stops_right : (k : List Item) → AllPlaced k → Each Right (all_stops k)
  all_stops_right [] s = tt
  all_stops_right (x ∷ k) s = each_append Right _ _ (stops_right x.before x.expr k s.0) (right_past (empty_tree x.expr) _ (all_stops_right k s.1))

  each_placed : (o : ℕ) (e : Expr) (k : List Item) → Placed o e k → AllPlaced k → Each AllPlaced (continuations o e k)
  each_placed o (letter a) k p s = (s, tt)
  each_placed o empty k p s = tt
  each_placed o (pair e f) k p s =
      each_append AllPlaced _ _ (each_placed o e (item (o + letter_count e) f ∷ k) p.0 (p.1, s)) (each_placed (o + letter_count e) f k p.1 s)
  each_placed o (or e f) k p s = each_append AllPlaced _ _ (each_placed o e k p.0 s) (each_placed (o + letter_count e) f k p.1 s)
  each_placed o (star e) k p s = each_placed o e (item o (star e) ∷ k) p (p, s)

count_continuations : (o : ℕ) (e : Expr) (k : List Item) → length (continuations o e k) ≡ letter_count e
count_continuations o (letter a) k = refl
count_continuations o empty k = refl
count_continuations o (pair e f) k =
    length-append (continuations o e (item (o + letter_count e) f ∷ k)) _
    ∙ rw (count_continuations o e (item (o + letter_count e) f ∷ k), count_continuations (o + letter_count e) f k)
count_continuations o (or e f) k = length-append (continuations o e k) _ ∙ rw (count_continuations o e k, count_continuations (o + letter_count e) f k)
count_continuations o (star e) k = count_continuations o e (item o (star e) ∷ k)

count_codes : (e : Expr) → length (codes e) ≡ letter_count e
count_codes (letter a) = refl
count_codes empty = refl
count_codes (pair e f) = length-append (codes e) _ ∙ rw (count_codes e, count_codes f)
count_codes (or e f) = length-append (codes e) _ ∙ rw (count_codes e, count_codes f)
count_codes (star e) = count_codes e

-- A function has the members of a list at the places from suc o on.
module _ {A : Type 0} (c : ℕ → A) (x : A) where
  abbrev Lists : ℕ → List A → Type 0
  Lists o l = (j : ℕ) → j < length l → c (suc (o + j)) ≡ get_or l j x

  lists_left : (o : ℕ) (l m : List A) → Lists o (l ++ m) → Lists o l
  lists_left o l m h j b = let b' : j < length (l ++ m) = omega (arith, length-append l m) in h j b' ∙ get_or-append l m x j b

  lists_right : (o n : ℕ) (l m : List A) → length l ≡ n → Lists o (l ++ m) → Lists (o + n) m
  lists_right o n l m q h j b =
      let b' : n + j < length (l ++ m) = omega (arith, length-append l m, q) in
      ap (λ (i : ℕ). c (suc i)) (add_assoc o n j) ∙ h (n + j) b' ∙ ap (λ (i : ℕ). get_or (l ++ m) (i + j) x) (sym q) ∙ get_or-append-add l m j x

module _ (c : ℕ → List Item) (d : ℕ → ℕ) where
  placed : (o : ℕ) (e : Expr) (k : List Item) → Lists c [] o (continuations o e k) → Lists d 0 o (codes e) → Placed c d o e k
  placed o (letter a) k h g = (ap (λ (i : ℕ). c (suc i)) (sym (add-zero o)) ∙ h 0 (omega arith), ap (λ (i : ℕ). d (suc i)) (sym (add-zero o)) ∙ g 0 (omega arith))
  placed o empty k h g = tt
  placed o (pair e f) k h g =
      let x = item (o + letter_count e) f ∷ k in (
        placed o e x (lists_left c [] o (continuations o e x) _ h) (lists_left d 0 o (codes e) _ g),
        placed (o + letter_count e) f k (lists_right c [] o _ (continuations o e x) _ (count_continuations o e x) h) (lists_right d 0 o _ (codes e) _ (count_codes e) g),
      )
  placed o (or e f) k h g = (
    placed o e k (lists_left c [] o (continuations o e k) _ h) (lists_left d 0 o (codes e) _ g),
    placed (o + letter_count e) f k (lists_right c [] o _ (continuations o e k) _ (count_continuations o e k) h) (lists_right d 0 o _ (codes e) _ (count_codes e) g),
  )
  placed o (star e) k h g = placed o e (item o (star e) ∷ k) h g

root_placed : (e : Expr) → Placed (continuation e) (code e) 0 e []
root_placed e =
    placed (continuation e) (code e) 0 e [] (λ j b. ap (λ (i : ℕ). get_or (continuations 0 e []) i []) (zero_add j)) (λ j b. ap (λ (i : ℕ). get_or (codes e) i 0) (zero_add j))
  where
    zero_add : (j : ℕ) → 0 + j ≡ j
    zero_add j = omega arith

place_placed : (e : Expr) (p : ℕ) → AllPlaced (continuation e) (code e) (continuation e p)
place_placed e zero = (root_placed e, tt)
place_placed e (suc j) = each_at (AllPlaced (continuation e) (code e)) [] (continuations 0 e []) j tt (each_placed (continuation e) (code e) 0 e [] (root_placed e) tt)

pub place_right : (e : Expr) (p : ℕ) → Each (Right (continuation e) (code e)) (all_stops (continuation e p))
place_right e p = all_stops_right (continuation e) (code e) (continuation e p) (place_placed e p)
