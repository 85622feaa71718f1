-- The theorems on places, from their parts.
use Rattle.std.proofs.Common.{◌≡◌, ℕ, Bool, true, false, ◌&&◌, eqb, List, [], ◌∷◌, sym, refl, ◌∙◌, eq-eqb, eqb-true}
use borrow.Author.Tests.{clash}
use Rattle.expression.specs.Expressions.{Expr}
use Rattle.expression.specs.Trees.{Tree}
use Rattle.expression.specs.Words.{Parse}
use Rattle.expression.specs.Order.{Before}
use Rattle.expression.specs.Tuples.{Parses, Lex}
use Rattle.expression.specs.Search.{head}
use Rattle.expression.specs.Places.{code, exprs, continuation, followers, follows, finishes}
use Rattle.expression.specs.PlaceTheorems.{Automaton, Finishes, Walks}
use Rattle.expression.proofs.Members.{any_found, any_holds}
use Rattle.expression.proofs.Firsts.{found, found_some}
use Rattle.expression.proofs.EmptyTrees.{empty_tree_first}
use Rattle.expression.proofs.Greedy.{greedy_first}
use Rattle.expression.proofs.FirstTree.{head_parse, one_parse}
use Rattle.expression.proofs.Walking.{walk_is, walk_first}
use Rattle.expression.proofs.Finishing.{admits_is, finishes_is}
use Rattle.expression.proofs.PlaceRange.{follows_within}

both_true : (b c : Bool) → b && c ≡ true → (b ≡ true) × (c ≡ true)
both_true true c p = (refl, p)
both_true false c p = absurd (clash p)

module _ (e : Expr) (a : ℕ) (w : List ℕ) (p : ℕ) where
  abbrev step : ℕ → Bool
  step q = eqb a (code e q) && finishes e w q

  next_place : finishes e (a ∷ w) p ≡ true → (q : ℕ) × (follows e p q ≡ true) × (code e q ≡ a) × (finishes e w q ≡ true)
  next_place h = let (q, f, s) = any_found step (followers e p) h in let (c, r) = both_true (eqb a (code e q)) (finishes e w q) s in (q, f, sym (eqb-true a (code e q) c), r)

  by_next_place : (q : ℕ) × (follows e p q ≡ true) × (code e q ≡ a) × (finishes e w q ≡ true) → finishes e (a ∷ w) p ≡ true
  by_next_place (q, f, c, r) = any_holds step q (followers e p) f (rw (eq-eqb a (code e q) (sym c)) r)

pub automaton : Automaton
automaton = record { within = follows_within; ends = λ e p. (λ h. h, λ h. h); goes_on = λ e a w p. (next_place e a w p, by_next_place e a w p) }

module _ (e : Expr) (w : List ℕ) (p : ℕ) where
  trees_of : finishes e w p ≡ true → (u : List Tree) × Parses (exprs (continuation e p)) w u
  trees_of h = found (Parses (exprs (continuation e p)) w) (Lex (exprs (continuation e p))) _ (greedy_first w _) (sym (finishes_is e w p) ∙ h)

  by_trees : (u : List Tree) → Parses (exprs (continuation e p)) w u → finishes e w p ≡ true
  by_trees u s = finishes_is e w p ∙ found_some (Parses (exprs (continuation e p)) w) (Lex (exprs (continuation e p))) _ (greedy_first w _) u s

pub finishing : Finishes
finishing = record {
  empty_word = λ e. (
    λ h. found (Parse e []) (Before e) _ (empty_tree_first e) (sym (admits_is e) ∙ h),
    λ x. admits_is e ∙ found_some (Parse e []) (Before e) _ (empty_tree_first e) x.0 x.1,
  );
  place = λ e w p. (trees_of e w p, λ x. by_trees e w p x.0 x.1);
  start = λ e w. (λ h. let x = trees_of e w 0 h in (head x.0, head_parse w x.0 x.1), λ x. by_trees e w 0 (x.0 ∷ []) (one_parse w x.0 x.1));
}

pub walks : Walks
walks = record { place = walk_is; start = walk_first }
