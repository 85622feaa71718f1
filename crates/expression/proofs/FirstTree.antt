-- The first tree of a word: it is found, and there is at most one.
use Rattle.std.proofs.Common.{◌≡◌, ℕ, ◌⊎◌, List, [], ◌∷◌, sym, refl, ap, ◌∙◌, subst, inl, inr, append-nil, Some, None, Option}
use Rattle.expression.specs.Expressions.{Expr}
use Rattle.expression.specs.Trees.{Tree, spells}
use Rattle.expression.specs.Words.{Parse, Word}
use Rattle.expression.specs.Order.{Before, First}
use Rattle.expression.specs.Tuples.{TreesOf, is_nil, is_cons, spell_all, Parses, Lex, here, there}
use Rattle.expression.specs.Search.{head, first_tree, FirstOf}
use Rattle.expression.proofs.Firsts.{image, first_iff, first_map}
use Rattle.expression.proofs.Strict.{asymmetric}
use Rattle.expression.proofs.Greedy.{greedy_first}

-- A tuple of one tree.
head_order : {e : Expr} (u u' : List Tree) → TreesOf (e ∷ []) u → TreesOf (e ∷ []) u' → Lex (e ∷ []) u u' → Before e (head u) (head u')
head_order u u' (is_cons h is_nil) (is_cons h' is_nil) (here b) = b
head_order u u' (is_cons h is_nil) (is_cons h' is_nil) (there q l) = elim l [ ]

pub head_parse : {e : Expr} (w : List ℕ) (u : List Tree) → Parses (e ∷ []) w u → Parse e w (head u)
head_parse {e} w u s = go u s.are s.spelt
  where
    go : (u : List Tree) → TreesOf (e ∷ []) u → spell_all u ≡ w → Parse e w (head u)
    go u (is_cons {t = t} h is_nil) p = record { is = h; spelt = sym (append-nil (spells t)) ∙ p }

pub one_parse : {e : Expr} (w : List ℕ) (t : Tree) → Parse e w t → Parses (e ∷ []) w (t ∷ [])
one_parse w t s = record { are = is_cons s.is is_nil; spelt = append-nil (spells t) ∙ s.spelt }

first_tree_first : (e : Expr) (w : List ℕ) → FirstOf (Parse e w) (Before e) (first_tree e w)
first_tree_first e w =
    first_iff _ _ _ _ (first_map (Parses (e ∷ []) w) (Lex (e ∷ [])) (Before e) head _ (greedy_first w (e ∷ [])) (λ u u' s s' l. head_order u u' s.are s'.are l))
    (image head (Parses (e ∷ []) w) (Parse e w) (head_parse w))
    (λ t s. (t ∷ [], one_parse w t s, refl))

pub first_some : (e : Expr) (w : List ℕ) (t : Tree) → first_tree e w ≡ Some t → First e w t
first_some e w t p = let l = subst (FirstOf (Parse e w) (Before e)) p (first_tree_first e w) in record { parse = l.0; leads = l.1 }

pub first_none : (e : Expr) (w : List ℕ) → first_tree e w ≡ None → Word e w → ⊥
first_none e w p t = subst (FirstOf (Parse e w) (Before e)) p (first_tree_first e w) t.0 t.1

pub first_unique : (e : Expr) (w : List ℕ) (t u : Tree) → First e w t → First e w u → t ≡ u
first_unique e w t u f g = go (f.leads u g.parse) (g.leads t f.parse)
  where
    go : (t ≡ u) ⊎ Before e t u → (u ≡ t) ⊎ Before e u t → t ≡ u
    go (inl p) y = p
    go (inr b) (inl p) = sym p
    go (inr b) (inr c) = absurd (asymmetric b c)

pub some_first : (e : Expr) (w : List ℕ) (t : Tree) → First e w t → first_tree e w ≡ Some t
some_first e w t f = go (first_tree e w) refl
  where
    go : (o : Option Tree) → first_tree e w ≡ o → first_tree e w ≡ Some t
    go None p = absurd (first_none e w p (t, f.parse))
    go (Some u) p = p ∙ ap {B = Option Tree} Some (first_unique e w u t (first_some e w u p) f)

pub none_first : (e : Expr) (w : List ℕ) → (Word e w → ⊥) → first_tree e w ≡ None
none_first e w f = go (first_tree e w) refl
  where
    go : (o : Option Tree) → first_tree e w ≡ o → first_tree e w ≡ None
    go None p = p
    go (Some u) p = absurd (f (u, (first_some e w u p).parse))

pub word_first : (e : Expr) (w : List ℕ) → Word e w → (t : Tree) × First e w t
word_first e w t = go (first_tree e w) refl
  where
    go : (o : Option Tree) → first_tree e w ≡ o → (t : Tree) × First e w t
    go None p = absurd (first_none e w p t)
    go (Some u) p = (u, first_some e w u p)
