-- What is read of a form, from its parts.
use Rattle.std.proofs.Common.{◌≡◌, ℕ, ◌+◌, ◌-◌, cond, ◌⊎◌, List, [], ◌∷◌, ◌++◌, map, Some, Option, Result, sym, refl, ap, ◌∙◌, subst, inl, inr, append_assoc, arith, eq-eqb, ne_eqb, MatchResult}
use Rattle.std.proofs.lemmas.Result.{MatchResult-weaker}
use Rattle.expression.specs.Expressions as expression
use Rattle.expression.specs.Expressions.{Expr}
use Rattle.expression.specs.declared.raw.RawNode.{RawNode}
use Rattle.expression.specs.declared.raw.RawNode.TheVariants as raw
use Rattle.script.specs.Denoted.{lettered, joined, repeated, denoted, postfix}
use Rattle.script.specs.Dialects.{Dialect, marks, bytes, dialect, mark_word, code_named}
use Rattle.script.specs.Forms.{Brackets, mark, empty, pair, or, star, bracketed, nodes, Low, is_none, is_star}
use Rattle.script.specs.Machine.{Want, an_expr, the, going, walk, Told}
use Rattle.script.specs.Reading.{name_bytes, joint_of, Numbered, Sealed, Unsealed, Lettered, Unlettered, Passed, Headed, Read}
use Rattle.script.specs.Tokens.{Placed, bare, word, number, opening, closing}
use Rattle.script.specs.declared.fault.FormFault.{FormFault}
use Rattle.script.specs.declared.name.Name.{Name}
use Rattle.script.specs.declared.name.Name.TheVariants.{Mark, Nothing, Pair, Or, Star}

-- The dialect that a kind tells.
pub tells_marks : (kind : ℕ) → kind ≡ 0 → dialect kind ≡ marks
tells_marks kind e = ap (λ b. cond b marks bytes) (eq-eqb kind 0 e)

pub tells_bytes : (kind : ℕ) → (kind ≡ 0 → ⊥) → dialect kind ≡ bytes
tells_bytes kind n = ap (λ b. cond b marks bytes) (ne_eqb kind 0 n)

module _ (ts us : List Placed) (n : ℕ) (h : Numbered ts n us) where
  -- A record number and a class, of which the code is told.
  module _ (vs ws : List Placed) (c : ℕ) (g : Numbered us c vs) (o : Option ℕ) (e : o ≡ code_named marks (n ∷ (c ∷ []))) where
    lettered_mark : (l : ℕ) → Sealed vs o l ws → Lettered marks ts l ws
    lettered_mark l s =
        record {
          numbers = n ∷ (c ∷ []);
          low = (h.low, (g.low, tt));
          walks = λ left k. h.walks marks left 1 [] k ∙ (g.walks marks left 0 (n ∷ []) k ∙ s.walks marks left (n ∷ (c ∷ [])) k (sym e));
          tokens = h.tokens ∙ ap (λ ts. number n ∷ ts) (g.tokens ∙ ap (λ ts. number c ∷ ts) s.tokens);
          named = sym e ∙ s.named;
        }

    unlettered_mark : (f : FormFault) → Unsealed vs o f → Unlettered marks ts f
    unlettered_mark f u left k = subst (Told f) (sym (h.walks marks left 1 [] k ∙ g.walks marks left 0 (n ∷ []) k)) (u marks left (n ∷ (c ∷ [])) k (sym e))

    pub marked : (d : Dialect) → d ≡ marks → (r : Result ℕ FormFault) → MatchResult r (λ l. Sealed vs o l ws) (λ f. Unsealed vs o f) → MatchResult r (λ l. Lettered d ts l ws) (λ f. Unlettered d ts f)
    marked d q r m = rw q (MatchResult-weaker r m lettered_mark unlettered_mark)

  -- A byte's value, of which the code is told.
  module _ (vs : List Placed) (o : Option ℕ) (e : o ≡ code_named bytes (n ∷ [])) where
    lettered_byte : (l : ℕ) → Sealed us o l vs → Lettered bytes ts l vs
    lettered_byte l s =
        record {
          numbers = n ∷ [];
          low = (h.low, tt);
          walks = λ left k. h.walks bytes left 0 [] k ∙ s.walks bytes left (n ∷ []) k (sym e);
          tokens = h.tokens ∙ ap (λ ts. number n ∷ ts) s.tokens;
          named = sym e ∙ s.named;
        }

    unlettered_byte : (f : FormFault) → Unsealed us o f → Unlettered bytes ts f
    unlettered_byte f u left k = subst (Told f) (sym (h.walks bytes left 0 [] k)) (u bytes left (n ∷ []) k (sym e))

    pub valued_byte : (d : Dialect) → d ≡ bytes → (r : Result ℕ FormFault) → MatchResult r (λ l. Sealed us o l vs) (λ f. Unsealed us o f) → MatchResult r (λ l. Lettered d ts l vs) (λ f. Unlettered d ts f)
    valued_byte d q r m = rw q (MatchResult-weaker r m lettered_byte unlettered_byte)

as_head : (d : Dialect) (ts us : List Placed) (left : ℕ) (h : Name) → Headed d ts left h us → (x : Name) → h ≡ x → Headed d ts left x us
as_head d ts us left h g x q = subst (λ y. Headed d ts left y us) q g

two : {A : Type 0} (a b c d : List A) → (a ++ (b ++ c)) ++ d ≡ a ++ (b ++ (c ++ d))
two a b c d = append_assoc a (b ++ c) d ∙ ap (λ x. a ++ x) (append_assoc b c d)

tabled : {A : Type 0} (was mid now is a b c : List A) → mid ≡ was ++ a → now ≡ mid ++ b → is ≡ now ++ c → is ≡ was ++ (a ++ (b ++ c))
tabled was mid now is a b c p q r = r ∙ (ap (λ x. x ++ c) (q ∙ ap (λ x. x ++ b) p) ∙ (append_assoc (was ++ a) b c ∙ append_assoc was a (b ++ c)))

module _ (d : Dialect) (ts us : List Placed) (left : ℕ) (h : Name) (g : Headed d ts left h us) where
  pub read_mark : (l : ℕ) (vs : List Placed) (was is : List RawNode) → h ≡ Mark → Lettered d us l vs → is ≡ was ++ raw.Letter l ∷ []
      → Read d ts left (left - 1) vs was is
  read_mark l vs was is q r t =
      let b = as_head d ts us left h g Mark q in
      record {
        less = omega (arith, g.some);
        walks = λ k. b.walks k ∙ r.walks (left - 1) k;
        brackets = mark r.numbers;
        tokens = b.tokens ∙ ap (λ ts. opening ∷ (word (mark_word d) ∷ ts)) (r.tokens ∙ sym (append_assoc (map number r.numbers) (closing ∷ []) (map bare vs)));
        low = r.low;
        expr = expression.letter l;
        denotes = ap lettered r.named;
        table = t;
        count = omega (arith, g.some);
      }

  pub read_empty : (vs : List Placed) (was is : List RawNode) → h ≡ Nothing → Passed us 41 vs → is ≡ was ++ raw.Empty ∷ []
      → Read d ts left (left - 1) vs was is
  read_empty vs was is q r t =
      let b = as_head d ts us left h g Nothing q in
      record {
        less = omega (arith, g.some);
        walks = λ k. b.walks k ∙ r.walks d (left - 1) k;
        brackets = empty;
        tokens = b.tokens ∙ ap (λ ts. opening ∷ (word is_none ∷ ts)) r.tokens;
        low = tt;
        expr = expression.empty;
        denotes = refl;
        table = t;
        count = omega (arith, g.some);
      }

  -- Two parts read, with their bracket.
  module _ (l l' : ℕ) (vs ws xs : List Placed) (was mid now is : List RawNode) (a : Read d us (left - 1) l vs was mid) (b : Read d vs l l' ws mid now) (r : Passed ws 41 xs) where
    walked : (k : List Want) → walk d (going (left - 1) (an_expr ∷ (an_expr ∷ (the 41 ∷ k)))) us ≡ walk d (going l' k) xs
    walked k = a.walks (an_expr ∷ (the 41 ∷ k)) ∙ (b.walks (the 41 ∷ k) ∙ r.walks d l' k)

    spelt : map bare us ≡ (bracketed d a.brackets ++ (bracketed d b.brackets ++ closing ∷ [])) ++ map bare xs
    spelt =
        a.tokens
        ∙ (ap (λ ts. bracketed d a.brackets ++ ts) (b.tokens ∙ ap (λ ts. bracketed d b.brackets ++ ts) r.tokens)
        ∙ sym (two (bracketed d a.brackets) (bracketed d b.brackets) (closing ∷ []) (map bare xs)))

    meaning : (f : Expr → Expr → Expr) → joined f (denoted d a.brackets) (denoted d b.brackets) ≡ Some (f a.expr b.expr)
    meaning f = rw (a.denotes, b.denotes)

    -- Brackets with two parts, by how they join them.
    joint : (x : Name) (e : Brackets) (y : Expr) → h ≡ x → ((k : List Want) → walk d (going left (an_expr ∷ k)) ts ≡ walk d (going (left - 1) (an_expr ∷ (an_expr ∷ (the 41 ∷ k)))) us)
        → bracketed d e ≡ opening ∷ (word (name_bytes d x) ∷ (bracketed d a.brackets ++ (bracketed d b.brackets ++ closing ∷ [])))
        → Low e → denoted d e ≡ Some y → postfix y ≡ postfix a.expr ++ (postfix b.expr ++ joint_of h ∷ []) → nodes e ≡ 1 + nodes a.brackets + nodes b.brackets
        → is ≡ now ++ joint_of h ∷ [] → Read d ts left l' xs was is
    joint x e y q ws sp low dn pf nd t =
        let c = as_head d ts us left h g x q in
        record {
          less = omega (arith, g.some, a.less, b.less);
          walks = λ k. ws k ∙ walked k;
          brackets = e;
          tokens = c.tokens ∙ (ap (λ ts. opening ∷ (word (name_bytes d x) ∷ ts)) spelt ∙ ap (λ ts. ts ++ map bare xs) (sym sp));
          low = low;
          expr = y;
          denotes = dn;
          table = tabled was mid now is (postfix a.expr) (postfix b.expr) (joint_of h ∷ []) a.table b.table t ∙ ap (λ ts. was ++ ts) (sym pf);
          count = omega (arith, g.some, a.count, b.count, nd);
        }

    pub read_two : (h ≡ Pair) ⊎ (h ≡ Or) → (n : RawNode) → n ≡ joint_of h → is ≡ now ++ n ∷ [] → Read d ts left l' xs was is
    read_two (inl q) n m t =
        joint Pair (pair a.brackets b.brackets) (expression.pair a.expr b.expr) q (as_head d ts us left h g Pair q).walks refl (a.low, b.low) (meaning expression.pair)
        (ap (λ x. postfix a.expr ++ (postfix b.expr ++ joint_of x ∷ [])) (sym q)) refl (t ∙ ap (λ x. now ++ x ∷ []) m)
    read_two (inr q) n m t =
        joint Or (or a.brackets b.brackets) (expression.or a.expr b.expr) q (as_head d ts us left h g Or q).walks refl (a.low, b.low) (meaning expression.or)
        (ap (λ x. postfix a.expr ++ (postfix b.expr ++ joint_of x ∷ [])) (sym q)) refl (t ∙ ap (λ x. now ++ x ∷ []) m)

  pub read_star : (l : ℕ) (vs ws : List Placed) (was mid is : List RawNode) → h ≡ Star → Read d us (left - 1) l vs was mid
      → Passed vs 41 ws → is ≡ mid ++ raw.Star ∷ [] → Read d ts left l ws was is
  read_star l vs ws was mid is q a r t =
      let b = as_head d ts us left h g Star q in
      record {
        less = omega (arith, g.some, a.less);
        walks = λ k. b.walks k ∙ (a.walks (the 41 ∷ k) ∙ r.walks d l k);
        brackets = star a.brackets;
        tokens =
            b.tokens
            ∙ ap (λ ts. opening ∷ (word is_star ∷ ts))
            (a.tokens ∙ (ap (λ ts. bracketed d a.brackets ++ ts) r.tokens ∙ sym (append_assoc (bracketed d a.brackets) (closing ∷ []) (map bare ws))));
        low = a.low;
        expr = expression.star a.expr;
        denotes = ap repeated a.denotes;
        table = t ∙ (ap (λ x. x ++ raw.Star ∷ []) a.table ∙ append_assoc was (postfix a.expr) (raw.Star ∷ []));
        count = omega (arith, g.some, a.count);
      }
