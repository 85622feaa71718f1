-- A place can finish letters exactly if the walk from it comes to their end.
use Rattle.std.proofs.Common.{◌≡◌, ℕ, ◌+◌, Bool, true, false, cond, ◌&&◌, ◌||◌, eqb, List, [], ◌∷◌, ◌++◌, map, sym, refl, ap, ◌∙◌, Some, None, Option, is_some}
use Rattle.std.specs.Option.{option_map, option_or}
use Rattle.expression.specs.Expressions.{Expr, letter, empty, pair, or, star, admits_empty}
use Rattle.expression.specs.Trees.{Tree, left, right}
use Rattle.expression.specs.Turns.{turns}
use Rattle.expression.specs.Optional.{lift2}
use Rattle.expression.specs.Members.{any, Each}
use Rattle.expression.specs.Tuples.{turn_all}
use Rattle.expression.specs.Search.{empty_tree, empty_trees, greedy}
use Rattle.expression.specs.Places.{letter_count, code, Item, item, exprs, continuation, all_admit_empty, heads, all_heads, finishes}
use Rattle.expression.specs.Walks.{Stop, after, past, stops, all_stops, choose, walk}
use Rattle.expression.proofs.Placing.{Right, place_right}
use Rattle.expression.proofs.Walking.{walk_is}

some_map : {A B : Type 0} (f : A → B) (x : Option A) → is_some (option_map f x) ≡ is_some x
some_map f None = refl
some_map f (Some x) = refl

some_or : {A : Type 0} (x y : Option A) → is_some (option_or x y) ≡ is_some x || is_some y
some_or None y = refl
some_or (Some x) y = refl

some_lift : {A B C : Type 0} (f : A → B → C) (x : Option A) (y : Option B) → is_some (lift2 f x y) ≡ is_some x && is_some y
some_lift f None y = refl
some_lift f (Some x) None = refl
some_lift f (Some x) (Some y) = refl

pub admits_is : (e : Expr) → admits_empty e ≡ is_some (empty_tree e)
admits_is (letter a) = refl
admits_is empty = refl
admits_is (pair e f) = rw (some_lift, ← admits_is e, ← admits_is f)
admits_is (or e f) = rw (some_or, some_map left, some_map right, ← admits_is e, ← admits_is f)
admits_is (star e) = refl

all_admit_is : (k : List Item) → all_admit_empty k ≡ is_some (empty_trees (exprs k))
all_admit_is [] = refl
all_admit_is (x ∷ k) = rw (some_lift, ← admits_is x.expr, ← all_admit_is k)

-- The heads are the places of the stops.
abbrev places : List Stop → List ℕ
places l = map (λ (s : Stop). s.place) l

places_append : (l m : List Stop) → places (l ++ m) ≡ places l ++ places m
places_append [] m = refl
places_append (s ∷ l) m = ap (λ (r : List ℕ). s.place ∷ r) (places_append l m)

places_after : (x : List ℕ) (l : List Stop) → places (map (after x) l) ≡ places l
places_after x [] = refl
places_after x (s ∷ l) = ap (λ (r : List ℕ). s.place ∷ r) (places_after x l)

places_past : (o : Option Tree) (l : List Stop) → places (past o l) ≡ cond (is_some o) (places l) []
places_past None l = refl
places_past (Some t) l = places_after (turns t) l

heads_are : (o : ℕ) (e : Expr) (k : List Item) → heads o e ≡ places (stops o e k)
heads_are o (letter a) k = refl
heads_are o empty k = refl
heads_are o (pair e f) k =
    rw (places_append, places_past, ← heads_are o e (item (o + letter_count e) f ∷ k), ← heads_are (o + letter_count e) f k, admits_is e)
heads_are o (or e f) k = rw (places_append, places_after (0 ∷ []), places_after (1 ∷ []), ← heads_are o e k, ← heads_are (o + letter_count e) f k)
heads_are o (star e) k = rw (places_after (0 ∷ []), ← heads_are o e (item o (star e) ∷ k))

all_heads_are : (k : List Item) → all_heads k ≡ places (all_stops k)
all_heads_are [] = refl
all_heads_are (x ∷ k) = rw (places_append, places_past, ← heads_are x.before x.expr k, ← all_heads_are k, admits_is x.expr)

module _ (c : ℕ → List Item) (d : ℕ → ℕ) (a : ℕ) (g : ℕ → Bool) (H : ℕ → Option (List ℕ)) (same : (p : ℕ) → g p ≡ is_some (H p)) where
  abbrev chosen : List Stop → Option (List ℕ)
  chosen = choose a (λ s. H s.place)

  any_chosen : (l : List Stop) → Each (Right c d) l → any (λ q. eqb a (d q) && g q) (places l) ≡ is_some (chosen l)
  any_chosen [] f = refl
  any_chosen (s ∷ l) f = rw (f.0.reads, same s.place, any_chosen l f.1) (one (eqb a s.letter) (H s.place) ∙ sym (some_or _ (chosen l)))
    where
      one : (b : Bool) (o : Option (List ℕ)) → (b && is_some o) || is_some (chosen l) ≡ is_some (cond b (option_map (λ r. s.turned ++ r) o) None) || is_some (chosen l)
      one true None = refl
      one true (Some r) = refl
      one false o = refl

finishes_walks : (e : Expr) (w : List ℕ) (p : ℕ) → finishes e w p ≡ is_some (walk e w p)
finishes_walks e [] p = all_admit_is (continuation e p) ∙ sym (some_map turn_all _)
finishes_walks e (a ∷ w) p =
    ap (any (λ q. eqb a (code e q) && finishes e w q)) (all_heads_are (continuation e p))
    ∙ any_chosen (continuation e) (code e) a (finishes e w) (walk e w) (finishes_walks e w) (all_stops (continuation e p)) (place_right e p)

pub finishes_is : (e : Expr) (w : List ℕ) (p : ℕ) → finishes e w p ≡ is_some (greedy w (exprs (continuation e p)))
finishes_is e w p = finishes_walks e w p ∙ ap is_some (walk_is e w p) ∙ some_map turn_all _
