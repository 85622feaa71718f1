-- The greedy search finds the first trees that spell a word.
use Rattle.std.proofs.Common.{◌≡◌, ℕ, Bool, true, false, cond, eqb, ◌⊎◌, List, [], ◌∷◌, sym, refl, inl, inr, eqb-true, None, Option}
use Rattle.std.specs.Option.{option_map}
use borrow.Author.Tests.{clash, eqb-false}
use Rattle.expression.specs.Expressions.{Expr, letter, empty, pair, or, star}
use Rattle.expression.specs.Trees.{Tree, leaf, both, left, right, more, is_leaf, is_unit, spells, has_letters}
use Rattle.expression.specs.Words.{Parse}
use Rattle.expression.specs.Order.{Before}
use Rattle.expression.specs.Tuples.{TreesOf, is_nil, is_cons, spell_all, Parses, Lex, here, there, on_first, merge}
use Rattle.expression.specs.Search.{empty_tree, enter, scan, greedy, FirstOf}
use Rattle.expression.specs.Routes.{Begins, begins}
use Rattle.expression.proofs.Letters.{cons≢nil, cons_head, cons_tail, no_letters, nil_empty}
use Rattle.expression.proofs.RankLaws.{letters_before}
use Rattle.expression.proofs.Firsts.{Image, Image2, image, image2, first_iff, first_or, first_map, first_lift2}
use Rattle.expression.proofs.EmptyTrees.{empty_tree_first, pass, empty_trees_first}
use Rattle.expression.proofs.Beginnings.{to_first, to_second, from_pair, to_left, to_right, from_or, to_member, from_star, first_order, second_order, left_order, right_order, first_then_second, passed_order, left_then_right, member_order}

module _ (a : ℕ) (w : List ℕ) (G : List Expr → Option (List Tree)) (best : (k : List Expr) → FirstOf (Parses k w) (Lex k) (G k)) where
  letter_first : (b : ℕ) (k : List Expr) (c : Bool) → eqb a b ≡ c → FirstOf (Begins (letter b) k (a ∷ w)) (Lex (letter b ∷ k)) (cond c (option_map (λ u. leaf b ∷ u) (G k)) None)
  letter_first b k true q =
      first_iff _ _ _ _ (first_map (Parses k w) (Lex k) (Lex (letter b ∷ k)) (λ u. leaf b ∷ u) (G k) (best k) (λ u u' s s' l. there refl l))
      (image (λ u. leaf b ∷ u) (Parses k w) (Begins (letter b) k (a ∷ w)) (λ u s. let e = eqb-true a b q in let o = s.spelt in begins is_leaf refl s.are (cc)))
      from
    where
      from : (v : List Tree) → Begins (letter b) k (a ∷ w) v → Image (λ u. leaf b ∷ u) (Parses k w) v
      from v (begins {u = u} is_leaf x hs p) = (u, record { are = hs; spelt = cons_tail p }, refl)
  letter_first b k false q = from
    where
      from : (v : List Tree) → Begins (letter b) k (a ∷ w) v → ⊥
      from v (begins is_leaf x hs p) = eqb-false a b q (sym (cons_head p))

  pub enter_first : (e : Expr) (k : List Expr) → FirstOf (Begins e k (a ∷ w)) (Lex (e ∷ k)) (enter a G e k)
  enter_first (letter b) k = letter_first b k (eqb a b) refl
  enter_first empty k = from
    where
      from : (v : List Tree) → Begins empty k (a ∷ w) v → ⊥
      from v (begins is_unit x hs p) = clash x
  enter_first (pair e f) k =
      first_or _ _ _ _ _ _
      (first_map (Begins e (f ∷ k) (a ∷ w)) (Lex (e ∷ (f ∷ k))) (Lex (pair e f ∷ k)) (merge both) _ (enter_first e (f ∷ k)) first_order)
      (first_lift2 (Parse e []) (Begins f k (a ∷ w)) (Before e) (Lex (f ∷ k)) (Lex (pair e f ∷ k)) (λ s. on_first (both s)) _ _ (empty_tree_first e) (enter_first f k)
      (λ s s' u u' c c' b b'. passed_order u u' s s' b b') (λ s u u' c. second_order u u' s))
      (λ v v' m m'. image (merge both) (Begins e (f ∷ k) (a ∷ w)) (λ x. Lex (pair e f ∷ k) x v')
      (λ u b. image2 (λ s. on_first (both s)) (Parse e []) (Begins f k (a ∷ w)) (Lex (pair e f ∷ k) (merge both u)) (λ s u' c b'. first_then_second u u' s b c b') v' m') v m)
      (image (merge both) (Begins e (f ∷ k) (a ∷ w)) (Begins (pair e f) k (a ∷ w)) to_first)
      (image2 (λ s. on_first (both s)) (Parse e []) (Begins f k (a ∷ w)) (Begins (pair e f) k (a ∷ w)) to_second)
      from_pair
  enter_first (or e f) k =
      first_or _ _ _ _ _ _
      (first_map (Begins e k (a ∷ w)) (Lex (e ∷ k)) (Lex (or e f ∷ k)) (on_first left) _ (enter_first e k) left_order)
      (first_map (Begins f k (a ∷ w)) (Lex (f ∷ k)) (Lex (or e f ∷ k)) (on_first right) _ (enter_first f k) right_order)
      (λ v v' m m'. image (on_first left) (Begins e k (a ∷ w)) (λ x. Lex (or e f ∷ k) x v')
      (λ u b. image (on_first right) (Begins f k (a ∷ w)) (Lex (or e f ∷ k) (on_first left u)) (λ u' b'. left_then_right u u' b b') v' m') v m)
      (image (on_first left) (Begins e k (a ∷ w)) (Begins (or e f) k (a ∷ w)) to_left)
      (image (on_first right) (Begins f k (a ∷ w)) (Begins (or e f) k (a ∷ w)) to_right)
      from_or
  enter_first (star e) k =
      first_iff _ _ _ _
      (first_map (Begins e (star e ∷ k) (a ∷ w)) (Lex (e ∷ (star e ∷ k))) (Lex (star e ∷ k)) (merge more) _ (enter_first e (star e ∷ k)) member_order)
      (image (merge more) (Begins e (star e ∷ k) (a ∷ w)) (Begins (star e) k (a ∷ w)) to_member)
      from_star

  scan_first : (k : List Expr) → FirstOf (Parses k (a ∷ w)) (Lex k) (scan a G k)
  scan_first [] = λ u s. go u s.are s.spelt
    where
      go : (u : List Tree) → TreesOf [] u → spell_all u ≡ a ∷ w → ⊥
      go u is_nil p = cons≢nil (sym p)
  scan_first (e ∷ k) =
      first_or _ _ _ _ _ _ (enter_first e k)
      (first_lift2 (Parse e []) (Parses k (a ∷ w)) (Before e) (Lex k) (Lex (e ∷ k)) ◌∷◌ (empty_tree e) (scan a G k) (empty_tree_first e) (scan_first k)
      (λ t t' u u' p p' q q' r. here r) (λ t u u' p q q' r. there refl r))
      (λ u v b m. image2 ◌∷◌ (Parse e []) (Parses k (a ∷ w)) (Lex (e ∷ k) u) (λ t u' c s. across u t u' b c) v m)
      to
      (image2 ◌∷◌ (Parse e []) (Parses k (a ∷ w)) (Parses (e ∷ k) (a ∷ w)) pass)
      (λ v s. from v s.are s.spelt)
    where
      across : (u : List Tree) (t : Tree) (u' : List Tree) → Begins e k (a ∷ w) u → Parse e [] t → Lex (e ∷ k) u (t ∷ u')
      across u t u' (begins h x hs p) c = here (letters_before x (nil_empty c.spelt))

      to : (u : List Tree) → Begins e k (a ∷ w) u → Parses (e ∷ k) (a ∷ w) u
      to u (begins h x hs p) = record { are = is_cons h hs; spelt = p }

      from : (v : List Tree) → TreesOf (e ∷ k) v → spell_all v ≡ a ∷ w → Begins e k (a ∷ w) v ⊎ Image2 ◌∷◌ (Parse e []) (Parses k (a ∷ w)) v
      from v (is_cons {t = t} {u = u} h hs) p = go (has_letters t) refl
        where
          go : (b : Bool) → has_letters t ≡ b → Begins e k (a ∷ w) (t ∷ u) ⊎ Image2 ◌∷◌ (Parse e []) (Parses k (a ∷ w)) (t ∷ u)
          go true q = inl (begins h q hs p)
          go false q = let n : spells t ≡ [] = no_letters (spells t) q in inr (t, u, record { is = h; spelt = n }, record { are = hs; spelt = rw n at p }, refl)

pub greedy_first : (w : List ℕ) (k : List Expr) → FirstOf (Parses k w) (Lex k) (greedy w k)
greedy_first [] k = empty_trees_first k
greedy_first (a ∷ w) k = scan_first a w (greedy w) (greedy_first w) k
