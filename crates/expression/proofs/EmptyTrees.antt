-- The first trees without letters are found.
use Rattle.std.proofs.Common.{◌≡◌, ℕ, ◌⊎◌, List, [], ◌∷◌, refl, inl, inr}
use Rattle.expression.specs.Expressions.{Expr, letter, empty, pair, or, star}
use Rattle.expression.specs.Trees.{Tree, unit, both, left, right, end, TreeOf, is_leaf, is_unit, is_both, is_left, is_right, is_end, is_more, spells, has_letters}
use Rattle.expression.specs.Words.{Parse}
use Rattle.expression.specs.Order.{Before, by_first, by_second, by_left, by_right}
use Rattle.expression.specs.Tuples.{TreesOf, is_nil, is_cons, spell_all, Parses, Lex, here, there}
use Rattle.expression.specs.Search.{empty_tree, empty_trees, FirstOf}
use Rattle.expression.proofs.Letters.{cons≢nil, append_nils, nil_empty, nil_nonempty, alike}
use Rattle.expression.proofs.RankLaws.{left_before, parts_before}
use Rattle.expression.proofs.Firsts.{Image, Image2, image, image2, first_iff, first_or, first_map, first_lift2}

module _ {e f : Expr} where
  empty_both : (t u : Tree) → Parse e [] t → Parse f [] u → Parse (pair e f) [] (both t u)
  empty_both t u b c = record { is = is_both b.is c.is; spelt = rw (b.spelt, c.spelt) }

  both_empty : (v : Tree) → Parse (pair e f) [] v → Image2 both (Parse e []) (Parse f []) v
  both_empty v b = go v b.is b.spelt
    where
      go : (v : Tree) → TreeOf (pair e f) v → spells v ≡ [] → Image2 both (Parse e []) (Parse f []) v
      go v (is_both {t = t} {u = u} h k) p =
          let (q, r) = append_nils (spells t) (spells u) p in (t, u, record { is = h; spelt = q }, record { is = k; spelt = r }, refl)

  or_empty : (v : Tree) → Parse (or e f) [] v → Image left (Parse e []) v ⊎ Image right (Parse f []) v
  or_empty v b = go v b.is b.spelt
    where
      go : (v : Tree) → TreeOf (or e f) v → spells v ≡ [] → Image left (Parse e []) v ⊎ Image right (Parse f []) v
      go v (is_left {t = t} h) p = inl (t, record { is = h; spelt = p }, refl)
      go v (is_right {t = t} h) p = inr (t, record { is = h; spelt = p }, refl)

-- Two trees without letters are alike in this.
alike_empty : {e f : Expr} {t u : Tree} → Parse e [] t → Parse f [] u → has_letters t ≡ has_letters u
alike_empty p q = alike (nil_empty p.spelt) (nil_empty q.spelt)

pub empty_tree_first : (e : Expr) → FirstOf (Parse e []) (Before e) (empty_tree e)
empty_tree_first (letter a) = λ t b. go t b.is b.spelt
  where
    go : (t : Tree) → TreeOf (letter a) t → spells t ≡ [] → ⊥
    go t is_leaf p = cons≢nil p
empty_tree_first empty = (record { is = is_unit; spelt = refl }, λ u b. go u b.is)
  where
    go : (u : Tree) → TreeOf empty u → (unit ≡ u) ⊎ Before empty unit u
    go u is_unit = inl refl
empty_tree_first (pair e f) =
    first_iff _ _ _ _
    (first_lift2 (Parse e []) (Parse f []) (Before e) (Before f) (Before (pair e f)) both (empty_tree e) (empty_tree f) (empty_tree_first e) (empty_tree_first f)
    (λ t t' u u' p p' q q' r. parts_before (alike_empty (empty_both t u p q) (empty_both t' u' p' q')) (by_first r))
    (λ t u u' p q q' r. parts_before (alike_empty (empty_both t u p q) (empty_both t u' p q')) (by_second refl r)))
    (image2 both (Parse e []) (Parse f []) (Parse (pair e f) []) empty_both) both_empty
empty_tree_first (or e f) =
    first_or _ _ _ _ _ _
    (first_map (Parse e []) (Before e) (Before (or e f)) left (empty_tree e) (empty_tree_first e) (λ t u p q r. parts_before (alike_empty p q) (by_left r)))
    (first_map (Parse f []) (Before f) (Before (or e f)) right (empty_tree f) (empty_tree_first f) (λ t u p q r. parts_before (alike_empty p q) (by_right r)))
    (λ v v' m m'. image left (Parse e []) (λ x. Before (or e f) x v')
    (λ t b. image right (Parse f []) (Before (or e f) (left t)) (λ t' b'. left_before (alike_empty b b')) v' m') v m)
    (image left (Parse e []) (Parse (or e f) []) (λ t b. record { is = is_left b.is; spelt = b.spelt }))
    (image right (Parse f []) (Parse (or e f) []) (λ t b. record { is = is_right b.is; spelt = b.spelt }))
    or_empty
empty_tree_first (star e) = (record { is = is_end; spelt = refl }, λ u b. go u b.is b.spelt)
  where
    go : (u : Tree) → TreeOf (star e) u → spells u ≡ [] → (end ≡ u) ⊎ Before (star e) end u
    go u is_end p = inl refl
    go u (is_more {t = t} {u = r} h x k) p = absurd (nil_nonempty (append_nils (spells t) (spells r) p).0 x)

-- A first tree without letters, and trees of the other items.
pub pass : {e : Expr} {k : List Expr} {w : List ℕ} (t : Tree) (u : List Tree) → Parse e [] t → Parses k w u → Parses (e ∷ k) w (t ∷ u)
pass t u b s = record { are = is_cons b.is s.are; spelt = rw b.spelt s.spelt }

pub empty_trees_first : (k : List Expr) → FirstOf (Parses k []) (Lex k) (empty_trees k)
empty_trees_first [] = (record { are = is_nil; spelt = refl }, λ u s. go u s.are)
  where
    go : (u : List Tree) → TreesOf [] u → ([] ≡ u) ⊎ Lex [] [] u
    go u is_nil = inl refl
empty_trees_first (e ∷ k) =
    first_iff _ _ _ _
    (first_lift2 (Parse e []) (Parses k []) (Before e) (Lex k) (Lex (e ∷ k)) ◌∷◌ (empty_tree e) (empty_trees k) (empty_tree_first e) (empty_trees_first k)
    (λ t t' u u' p p' q q' r. here r) (λ t u u' p q q' r. there refl r))
    (image2 ◌∷◌ (Parse e []) (Parses k []) (Parses (e ∷ k) []) pass) (λ v s. go v s.are s.spelt)
  where
    go : (v : List Tree) → TreesOf (e ∷ k) v → spell_all v ≡ [] → Image2 ◌∷◌ (Parse e []) (Parses k []) v
    go v (is_cons {t = t} {u = u} h hs) p =
        let (q, r) = append_nils (spells t) (spell_all u) p in (t, u, record { is = h; spelt = q }, record { are = hs; spelt = r }, refl)
