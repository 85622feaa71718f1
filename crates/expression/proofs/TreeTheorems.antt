-- The theorems on trees, from their parts.
use Rattle.std.proofs.Common.{◌≡◌, ◌⊎◌, refl, ap, ◌∙◌, inl, inr}
use Rattle.expression.specs.Expressions.{Expr}
use Rattle.expression.specs.Trees.{Tree}
use Rattle.expression.specs.Order.{Before}
use Rattle.expression.specs.Turns.{decode}
use Rattle.expression.specs.TreeTheorems.{Ordered, OneFirst, TurnsDetermine, Decodes, Finds, Unrolls}
use Rattle.expression.proofs.Strict as strict
use Rattle.expression.proofs.Total.{Compared, same, before, after, total}
use Rattle.expression.proofs.EmptyTrees.{empty_tree_first}
use Rattle.expression.proofs.Greedy.{greedy_first}
use Rattle.expression.proofs.FirstTree.{first_some, some_first, first_none, none_first, first_unique, word_first}
use Rattle.expression.proofs.Decoding.{decode_only, decode_complete, tree_with_only, tree_with_complete, prefix}
use Rattle.expression.proofs.Unroll.{unroll, rolled, roll_unique}
use Rattle.expression.proofs.RouteOrder.{lex_roll, roll_lex}

compared : {e : Expr} {t u : Tree} → Compared e t u → (t ≡ u) ⊎ (Before e t u ⊎ Before e u t)
compared (same p) = inl p
compared (before b) = inr (inl b)
compared (after b) = inr (inr b)

pub ordered : Ordered
ordered = record { irreflexive = λ e t b. strict.irreflexive b refl; transitive = λ e t u v. strict.transitive; total = λ e t u h k. compared (total h k) }

pub one_first : OneFirst
one_first = record { unique = first_unique; exists = λ e w. (λ x. (x.0, x.1.parse), word_first e w) }

pub turns_determine : TurnsDetermine
turns_determine = prefix

pub decodes : Decodes
decodes = record {
  prefix = λ e ts t s. (decode_only e ts t s, λ x. ap (decode e) x.1 ∙ decode_complete e t x.0 s);
  exact = λ e ts t. (tree_with_only e ts t, λ x. tree_with_complete e ts t x.0 x.1);
}

pub finds : Finds
finds = record {
  tree = λ e w t. (first_some e w t, some_first e w t);
  missing = λ e w. (first_none e w, none_first e w);
  items = greedy_first;
  without_letters = empty_tree_first;
}

pub unrolls : Unrolls
unrolls = record {
  apart = unroll;
  together = λ e k k₁ r a u. rolled u;
  unique = λ e k k₁ k₂ r₁ r₂ a₁ a₂ u₁ u₂. roll_unique u₁ u₂;
  order = λ e k k₁ k₂ r₁ r₂ a₁ a₂ u₁ u₂ w₁ w₂ h₁ h₂. (lex_roll u₁ u₂ w₁ w₂ h₁ h₂, roll_lex u₁ u₂ w₁ w₂ h₁ h₂);
}
