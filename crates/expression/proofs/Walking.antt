-- The turns of what the search finds are those up to the first usable stop, and then those of what the search finds from there.
use Rattle.std.proofs.Common.{◌≡◌, ℕ, ◌+◌, Bool, true, false, cond, eqb, List, [], ◌∷◌, ◌++◌, map, sym, refl, ap, ◌∙◌, append_assoc, append-nil, Some, None, Option}
use Rattle.std.specs.Option.{option_map, option_or}
use Rattle.expression.specs.Expressions.{Expr, letter, empty, pair, or, star}
use Rattle.expression.specs.Trees.{Tree, leaf, both, left, right, more}
use Rattle.expression.specs.Turns.{turns}
use Rattle.expression.specs.Optional.{lift2}
use Rattle.expression.specs.Members.{Each}
use Rattle.expression.specs.Tuples.{TreesOf, is_nil, is_cons, turn_all, Parses, Lex, on_first, merge}
use Rattle.expression.specs.Search.{empty_tree, enter, scan, greedy, head, first_tree, FirstOf}
use Rattle.expression.specs.Routes.{Begins, begins}
use Rattle.expression.specs.Places.{letter_count, code, Item, item, exprs, continuation}
use Rattle.expression.specs.Walks.{Stop, after, past, stops, all_stops, choose, walk}
use Rattle.expression.proofs.Greedy.{enter_first, greedy_first}
use Rattle.expression.proofs.Placing.{Right, place_right}

or_assoc : {A : Type 0} (x y z : Option A) → option_or (option_or x y) z ≡ option_or x (option_or y z)
or_assoc None y z = refl
or_assoc (Some x) y z = refl

omap_or : {A B : Type 0} (f : A → B) (x y : Option A) → option_map f (option_or x y) ≡ option_or (option_map f x) (option_map f y)
omap_or f None y = refl
omap_or f (Some x) y = refl

omap_omap : {A B C : Type 0} (f : B → C) (g : A → B) (o : Option A) → option_map f (option_map g o) ≡ option_map (λ x. f (g x)) o
omap_omap f g None = refl
omap_omap f g (Some x) = refl

-- Two functions that agree on a set agree on its first.
same_on : {A B : Type 0} (P : A → Type 0) (R : A → A → Type 0) (f g : A → B) (o : Option A) → FirstOf P R o → ((u : A) → P u → f u ≡ g u) → option_map f o ≡ option_map g o
same_on P R f g None h s = refl
same_on {B = B} P R f g (Some u) h s = ap {B = Option B} Some (s u h.0)

abbrev lead : List ℕ → List ℕ → List ℕ
lead x r = x ++ r

-- The turns of trees that are made of others.
turns_both : (u : List Tree) → turn_all (merge both u) ≡ turn_all u
turns_both [] = refl
turns_both (t ∷ []) = refl
turns_both (t ∷ (t' ∷ u)) = append_assoc (turns t) (turns t') (turn_all u)

turns_more : {e f : Expr} {k : List Expr} {w : List ℕ} (u : List Tree) → Begins e (f ∷ k) w u → turn_all (merge more u) ≡ lead (0 ∷ []) (turn_all u)
turns_more v (begins {t = t} h x (is_cons {t = t'} {u = u} h' hs) p) = ap (λ (l : List ℕ). 0 ∷ l) (append_assoc (turns t) (turns t') (turn_all u))

turns_second : {f : Expr} {k : List Expr} {w : List ℕ} (s : Tree) (u : List Tree) → Begins f k w u → turn_all (on_first (both s) u) ≡ lead (turns s) (turn_all u)
turns_second s v (begins {t = t} {u = u} h x hs p) = append_assoc (turns s) (turns t) (turn_all u)

turns_left : {e : Expr} {k : List Expr} {w : List ℕ} (u : List Tree) → Begins e k w u → turn_all (on_first left u) ≡ lead (0 ∷ []) (turn_all u)
turns_left v (begins h x hs p) = refl

turns_right : {e : Expr} {k : List Expr} {w : List ℕ} (u : List Tree) → Begins e k w u → turn_all (on_first right u) ≡ lead (1 ∷ []) (turn_all u)
turns_right v (begins h x hs p) = refl

-- Choosing looks only at a stop's letter, its turns and what H makes of it.
module _ (a : ℕ) (H : List Item → Option (List ℕ)) where
  abbrev chosen : List Stop → Option (List ℕ)
  chosen = choose a (λ s. H s.items)

  chosen_append : (l m : List Stop) → chosen (l ++ m) ≡ option_or (chosen l) (chosen m)
  chosen_append [] m = refl
  chosen_append (s ∷ l) m = rw (chosen_append l m) (sym (or_assoc _ (chosen l) (chosen m)))

  chosen_after : (x : List ℕ) (l : List Stop) → chosen (map (after x) l) ≡ option_map (lead x) (chosen l)
  chosen_after x [] = refl
  chosen_after x (s ∷ l) =
      rw (chosen_after x l)
      (ap (λ (y : Option (List ℕ)). option_or y (option_map (lead x) (chosen l))) (one (eqb a s.letter) (H s.items)) ∙ sym (omap_or (lead x) _ (chosen l)))
    where
      one : (c : Bool) (o : Option (List ℕ)) → cond c (option_map (λ r. (x ++ s.turned) ++ r) o) None ≡ option_map (lead x) (cond c (option_map (λ r. s.turned ++ r) o) None)
      one true None = refl
      one true (Some u) = ap {B = Option (List ℕ)} Some (append_assoc x s.turned u)
      one false o = refl

module _ (a : ℕ) (w : List ℕ) (G : List Expr → Option (List Tree)) (best : (k : List Expr) → FirstOf (Parses k w) (Lex k) (G k)) where
  abbrev rest : List Item → Option (List ℕ)
  rest k = option_map turn_all (G (exprs k))

  letter_turns : (b : ℕ) (c : Bool) (o : Option (List Tree))
      → option_map turn_all (cond c (option_map (λ u. leaf b ∷ u) o) None) ≡ option_or (cond c (option_map (λ r. [] ++ r) (option_map turn_all o)) None) None
  letter_turns b true None = refl
  letter_turns b true (Some u) = refl
  letter_turns b false o = refl

  -- One step more in front.
  led : (e : Expr) (k : List Expr) (h : List Tree → List Tree) (x : List ℕ) (l : List Stop) → ((u : List Tree) → Begins e k (a ∷ w) u → turn_all (h u) ≡ lead x (turn_all u))
      → option_map turn_all (enter a G e k) ≡ chosen a rest l → option_map turn_all (option_map h (enter a G e k)) ≡ chosen a rest (map (after x) l)
  led e k h x l s ih =
      omap_omap turn_all h (enter a G e k)
      ∙ same_on (Begins e k (a ∷ w)) (Lex (e ∷ k)) (λ u. turn_all (h u)) (λ u. lead x (turn_all u)) (enter a G e k) (enter_first a w G best e k) s
      ∙ sym (omap_omap (lead x) turn_all (enter a G e k)) ∙ ap (option_map (lead x)) ih ∙ sym (chosen_after a rest x l)

  past_turns : (f : Expr) (k : List Item) (l : List Stop) (x : Option Tree) → option_map turn_all (enter a G f (exprs k)) ≡ chosen a rest l
      → option_map turn_all (lift2 (λ s. on_first (both s)) x (enter a G f (exprs k))) ≡ chosen a rest (past x l)
  past_turns f k l None ih = refl
  past_turns f k l (Some t) ih = led f (exprs k) (on_first (both t)) (turns t) l (turns_second t) ih

  first_turns : (o : Option (List Tree)) → option_map turn_all (option_map (merge both) o) ≡ option_map turn_all o
  first_turns None = refl
  first_turns (Some u) = ap {B = Option (List ℕ)} Some (turns_both u)

  either : (x y : Option (List Tree)) (l m : List Stop) → option_map turn_all x ≡ chosen a rest l → option_map turn_all y ≡ chosen a rest m
      → option_map turn_all (option_or x y) ≡ chosen a rest (l ++ m)
  either x y l m p q = omap_or turn_all x y ∙ (rw (p, q) refl) ∙ sym (chosen_append a rest l m)

  enter_turns : (o : ℕ) (e : Expr) (k : List Item) → option_map turn_all (enter a G e (exprs k)) ≡ chosen a rest (stops o e k)
  enter_turns o (letter b) k = letter_turns b (eqb a b) (G (exprs k))
  enter_turns o empty k = refl
  enter_turns o (pair e f) k =
      either _ _ _ _ (first_turns _ ∙ enter_turns o e (item (o + letter_count e) f ∷ k)) (past_turns f k _ (empty_tree e) (enter_turns (o + letter_count e) f k))
  enter_turns o (or e f) k =
      either _ _ _ _ (led e (exprs k) (on_first left) (0 ∷ []) _ turns_left (enter_turns o e k))
      (led f (exprs k) (on_first right) (1 ∷ []) _ turns_right (enter_turns (o + letter_count e) f k))
  enter_turns o (star e) k = led e (star e ∷ exprs k) (merge more) (0 ∷ []) _ turns_more (enter_turns o e (item o (star e) ∷ k))

  passed_turns : (x : Option Tree) (y : Option (List Tree)) (l : List Stop) → option_map turn_all y ≡ chosen a rest l → option_map turn_all (lift2 ◌∷◌ x y) ≡ chosen a rest (past x l)
  passed_turns None y l ih = refl
  passed_turns (Some t) y l ih =
      omap_omap turn_all (λ u. t ∷ u) y ∙ sym (omap_omap (lead (turns t)) turn_all y) ∙ ap (option_map (lead (turns t))) ih ∙ sym (chosen_after a rest (turns t) l)

  scan_turns : (k : List Item) → option_map turn_all (scan a G (exprs k)) ≡ chosen a rest (all_stops k)
  scan_turns [] = refl
  scan_turns (x ∷ k) = either _ _ _ _ (enter_turns x.before x.expr k) (passed_turns (empty_tree x.expr) (scan a G (exprs k)) (all_stops k) (scan_turns k))

-- To go on from a stop's place is to go on with what the stop says is to come.
module _ (c : ℕ → List Item) (d : ℕ → ℕ) (a : ℕ) (H : List Item → Option (List ℕ)) (H' : ℕ → Option (List ℕ)) (same : (p : ℕ) → H' p ≡ H (c p)) where
  choose_same : (l : List Stop) → Each (Right c d) l → choose a (λ s. H' s.place) l ≡ chosen a H l
  choose_same [] f = refl
  choose_same (s ∷ l) f = let q : H' s.place ≡ H s.items = same s.place ∙ ap H f.0.goes in rw (q, choose_same l f.1) refl

pub walk_is : (e : Expr) (w : List ℕ) (p : ℕ) → walk e w p ≡ option_map turn_all (greedy w (exprs (continuation e p)))
walk_is e [] p = refl
walk_is e (a ∷ w) p =
    choose_same (continuation e) (code e) a (λ k. option_map turn_all (greedy w (exprs k))) (walk e w) (walk_is e w) (all_stops (continuation e p)) (place_right e p)
    ∙ sym (scan_turns a w (greedy w) (greedy_first w) (continuation e p))

turns_one : (e : Expr) (w : List ℕ) (o : Option (List Tree)) → FirstOf (Parses (e ∷ []) w) (Lex (e ∷ [])) o → option_map turn_all o ≡ option_map turns (option_map head o)
turns_one e w None h = refl
turns_one e w (Some u) h = ap {B = Option (List ℕ)} Some (go u h.0.are)
  where
    go : (u : List Tree) → TreesOf (e ∷ []) u → turn_all u ≡ turns (head u)
    go u (is_cons {t = t} h is_nil) = append-nil (turns t)

pub walk_first : (e : Expr) (w : List ℕ) → walk e w 0 ≡ option_map turns (first_tree e w)
walk_first e w = walk_is e w 0 ∙ turns_one e w (greedy w (e ∷ [])) (greedy_first w (e ∷ []))
