-- What a layout means.
use Rattle.std.proofs.Common.{◌≡◌, ℕ, zero, suc, ◌<◌, ◌≤◌, List, length, take, Option, sym, refl, ap, ◌∙◌, add-one, arith}
use mathlib.Core.HLevel.{Π_prop}
use mathlib.Core.Logic.{∥∥₁_elim}
use base.Stored.{Coded-set}
use Rattle.std.specs.contracts.option.Option as option
use Rattle.std.proofs.lemmas.List.{get_or-map, length-map, take_all, take_more_same}
use Rattle.expression.specs.contracts.node.Node as row
use Rattle.expression.specs.declared.layout.Layout.{Layout}
use Rattle.expression.specs.declared.node.Node.{Node}
use Rattle.expression.specs.declared.raw.RawNode.TheVariants.{Unknown}
use Rattle.expression.specs.Fitted.{letters_to, Fitted}
use Rattle.expression.specs.Layouts.{nodes_of, table_of, Means, Stands}
use Rattle.expression.specs.Making.{Laid}
use Rattle.expression.specs.Nodes.{no_node, node, last, raw_of}
use Rattle.expression.specs.Tables.{raw, letters_below}
use Rattle.expression.proofs.Fitting.{fitted}
use Rattle.expression.proofs.Standing.{letters_same, part_at, stands, built}

option_set : IsSet (Option Node)
option_set = Coded-set (option.the_row row.the_row).coded

laid_prop : (ns : List Node) → IsProp (Laid ns)
laid_prop ns = Π_prop (λ i. Π_prop (λ h. option_set _ _))

pub layout_laid : (l : Layout) → Laid (nodes_of l)
layout_laid l = ∥∥₁_elim l.laid (laid_prop (nodes_of l)) (λ x. x)

module _ (l : Layout) where
  fits : (i : ℕ) → i < length (nodes_of l) → Fitted (nodes_of l) i (node (nodes_of l) i)
  fits = fitted (nodes_of l) (layout_laid l)

  long : length (table_of l) ≡ length (nodes_of l)
  long = length-map (nodes_of l) raw_of

  agree : (i : ℕ) → i < length (nodes_of l) → raw (table_of l) i ≡ raw_of (node (nodes_of l) i)
  agree i h = get_or-map raw_of (nodes_of l) i no_node (Unknown 0) h

  letters_at : (i : ℕ) → i ≤ length (nodes_of l) → letters_to (nodes_of l) i ≡ letters_below (table_of l) i
  letters_at = letters_same (nodes_of l) (table_of l) fits agree

  means : (i : ℕ) → i < length (nodes_of l) → Means l i
  means i h =
      let s = stands (nodes_of l) (table_of l) fits agree i h in
      record { part = s.part; made = built (nodes_of l) (table_of l) fits agree i h; admits = s.admits; letters = letters_at (suc i) h; fits = fits i h }

  pub layout_stands : Stands l
  layout_stands =
      let k : last (nodes_of l) < length (nodes_of l) = omega (arith, l.whole.0) in
      let z : suc (last (nodes_of l)) ≡ length (table_of l) = omega (arith, l.whole.0, long) in
      record {
        denotes = part_at (table_of l) l.whole.2 z (means (last (nodes_of l)) k).part;
        means = means;
        places = letters_at (suc (last (nodes_of l))) k ∙ ap (letters_below (table_of l)) z;
      }

-- Nodes that are made of the same raw nodes are the same.
module _ (l l' : Layout) (e : table_of l ≡ table_of l') where
  same_length : length (nodes_of l) ≡ length (nodes_of l')
  same_length = sym (long l) ∙ ap length e ∙ long l'

  same_next : (i : ℕ) → i < length (nodes_of l) → take i (nodes_of l) ≡ take i (nodes_of l') → node (nodes_of l) i ≡ node (nodes_of l') i
  same_next i h t =
      let h' : i < length (nodes_of l') = omega (arith, same_length) in
      let r = sym (agree l i h) ∙ ap (λ ts. raw ts i) e ∙ agree l' i h' in
      let p = layout_laid l i h in
      let q = layout_laid l' i h' in
      cc

  same_front : (i : ℕ) → i ≤ length (nodes_of l) → take i (nodes_of l) ≡ take i (nodes_of l')
  same_front zero h = refl
  same_front (suc i) h =
      let t = same_front i (omega arith) in
      rw (← add-one) (take_more_same (nodes_of l) (nodes_of l') i no_node h (omega (arith, same_length)) t (same_next i h t))

  pub same_nodes : nodes_of l ≡ nodes_of l'
  same_nodes =
      sym (take_all (length (nodes_of l)) (nodes_of l) (omega arith)) ∙ same_front (length (nodes_of l)) (omega arith)
      ∙ take_all (length (nodes_of l)) (nodes_of l') (omega (arith, same_length))
