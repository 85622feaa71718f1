-- One token's step of the reader.
use Rattle.std.proofs.Common.{◌≡◌, ◌≢◌, ℕ, suc, pred, ◌-◌, ◌<◌, Bool, true, false, cond, ltb, List, [], ◌∷◌, ◌++◌, map, Some, None, sym, refl, ap, ◌∙◌, subst, sub-one, arith, eq-eqb, ne_eqb, ltb-false}
use Rattle.script.specs.Dialects.{Dialect}
use Rattle.script.specs.Lexing.{meaning, onward, Took, Misfits, valued}
use Rattle.script.specs.Machine as machine
use Rattle.script.specs.Machine.{Want, an_expr, a_name, more, the, a_head, name_of, wanted, after_name, head_of, headed, after_head, fits, start, off, on, unnamed, limited, fitted, landed, going, fault, walk, judged}
use Rattle.script.specs.Reading.{Numbered, Uncounted, Sealed, Unsealed, Stuck, Headed, Led, Unled}
use Rattle.script.specs.Tokens.{Placed, bare, word, opening, decimal}
use Rattle.script.specs.declared.fault.TokenFault.TheVariants.{TooLarge}
use Rattle.script.specs.declared.fault.FormFault.TheVariants.{Token as OfToken, Misfit, TooManyNodes}
use Rattle.script.specs.declared.name.FormName.{FormName}
use Rattle.script.specs.declared.name.Name.{Name as Named}
use Rattle.script.specs.declared.token.Sort.{Sort}
use Rattle.script.specs.declared.token.Sort.TheVariants.{Open, Close, Name, Digits}
use Rattle.script.proofs.Judge.{walk_fault}
use Rattle.script.proofs.Same.{never}
use Rattle.script.proofs.Wide.{name_is, head_is}

module _ (ts us : List Placed) (x : Sort) (p : ℕ) (w : List ℕ) (h : Took ts x p w us) where
  -- A token that does not fit.
  pub unfit : (d : Dialect) (left : ℕ) (k : List Want) → fits d k (meaning x w) ≡ None → walk d (going left k) ts ≡ fault (Misfit p)
  unfit d left k f =
      ap (walk d (going left k)) h ∙ (ap (λ o. walk d (landed p (fitted d left k (meaning x w) o)) (onward x us)) f ∙ walk_fault d (Misfit p) (onward x us))

  -- A token of another sort than the one that alone fits.
  pub misfits : (y : Sort) → (x ≢ y) → Misfits ts y (Misfit p)
  misfits y n d left k none = unfit d left k (none x w n)

  -- A token that fits, by what the limits say of it.
  pub fitting : (d : Dialect) (left : ℕ) (k k' : List Want) → fits d k (meaning x w) ≡ Some k'
      → walk d (going left k) ts ≡ walk d (landed p (limited d left k (meaning x w) k')) (onward x us)
  fitting d left k k' f = ap (walk d (going left k)) h ∙ ap (λ o. walk d (landed p (fitted d left k (meaning x w) o)) (onward x us)) f

  pub bared : map bare ts ≡ meaning x w ∷ map bare (onward x us)
  bared = ap (map bare) h

module _ (ts us : List Placed) (p : ℕ) (w : List ℕ) where
  module _ (d : Dialect) (h : Took ts Open p w us) where
    pub open_steps : (left : ℕ) → 0 < left → (k : List Want) → walk d (going left (an_expr ∷ k)) ts ≡ walk d (going (left - 1) (a_name ∷ k)) us
    open_steps left l k =
        let z : left ≡ 0 → ⊥ = λ e. omega arith in
        fitting ts us Open p w h d left (an_expr ∷ k) (a_name ∷ k) refl
        ∙ (ap (λ b. walk d (landed p (cond b (off TooManyNodes) (on (pred left) (a_name ∷ k)))) us) (ne_eqb left 0 z) ∙ ap (λ n. walk d (going n (a_name ∷ k)) us) (sym (sub-one left)))

    pub open_none : (left : ℕ) → left ≡ 0 → (k : List Want) → walk d (going left (an_expr ∷ k)) ts ≡ fault (TooManyNodes p)
    open_none left l k =
        fitting ts us Open p w h d left (an_expr ∷ k) (a_name ∷ k) refl
        ∙ (ap (λ b. walk d (landed p (cond b (off TooManyNodes) (on (pred left) (a_name ∷ k)))) us) (eq-eqb left 0 l) ∙ walk_fault d (TooManyNodes p) us)

  module _ (d : Dialect) (h : Took ts Name p w us) where
    pub name_steps : (x : Named) → name_of d w ≡ Some x → (left : ℕ) (k : List Want) → walk d (going left (a_name ∷ k)) ts ≡ walk d (going left (wanted d x k)) us
    name_steps x e left k = fitting ts us Name p w h d left (a_name ∷ k) (wanted d x k) (ap (λ o. after_name d o k) e)

    pub name_unfit : name_of d w ≡ None → (left : ℕ) (k : List Want) → walk d (going left (a_name ∷ k)) ts ≡ fault (Misfit p)
    name_unfit e left k = unfit ts us Name p w h d left (a_name ∷ k) (ap (λ o. after_name d o k) e)

    pub head_unfit : head_of w ≡ None → (left : ℕ) (k : List Want) → walk d (going left (a_head ∷ k)) ts ≡ fault (Misfit p)
    head_unfit e left k = unfit ts us Name p w h d left (a_head ∷ k) (ap (λ o. after_head o k) e)

  -- A bracket that closes a mark: its numbers name a code, or none.
  module _ (h : Took ts Close p w us) where
    pub sealed : (c : ℕ) → Sealed ts (Some c) c us
    sealed c =
        record {
          walks = λ d left ns k e.
              fitting ts us Close p w h d left (more 0 ns ∷ k) k refl ∙ ap (λ o. walk d (landed p (cond (unnamed o) (off Misfit) (on left k))) us) e;
          tokens = bared ts us Close p w h;
          named = refl;
        }

    pub unsealed : Unsealed ts None (Misfit p)
    unsealed d left ns k e =
        fitting ts us Close p w h d left (more 0 ns ∷ k) k refl
        ∙ (ap (λ o. walk d (landed p (cond (unnamed o) (off Misfit) (on left k))) us) e ∙ walk_fault d (Misfit p) us)

  -- A number of a mark, which is low or too large.
  module _ (h : Took ts Digits p w us) where
    steps : (d : Dialect) (left m : ℕ) (ns : List ℕ) (k : List Want) (b : Bool) → ltb 65535 (decimal w) ≡ b
        → walk d (going left (more (suc m) ns ∷ k)) ts ≡ walk d (landed p (cond b (off machine.too_large) (on left (more m (ns ++ decimal w ∷ []) ∷ k)))) us
    steps d left m ns k b l =
        fitting ts us Digits p w h d left (more (suc m) ns ∷ k) (more m (ns ++ decimal w ∷ []) ∷ k) refl
        ∙ ap (λ b. walk d (landed p (cond b (off machine.too_large) (on left (more m (ns ++ decimal w ∷ []) ∷ k)))) us) l

    pub counted : (n : ℕ) → valued (decimal w) ≡ Some n → Numbered ts n us
    counted n e = go (ltb 65535 (decimal w)) refl e
      where
        go : (b : Bool) → ltb 65535 (decimal w) ≡ b → cond b None (Some (decimal w)) ≡ Some n → Numbered ts n us
        go true l e = never e
        go false l e =
            let q : decimal w ≡ n = cc in
            subst (λ v. Numbered ts v us) q
            (record { low = ltb-false 65535 (decimal w) l; walks = λ d left m ns k. steps d left m ns k false l; tokens = bared ts us Digits p w h })

    pub uncounted : valued (decimal w) ≡ None → Uncounted ts (OfToken (TooLarge p))
    uncounted e d left m ns k = go (ltb 65535 (decimal w)) refl e
      where
        go : (b : Bool) → ltb 65535 (decimal w) ≡ b → cond b None (Some (decimal w)) ≡ None → walk d (going left (more (suc m) ns ∷ k)) ts ≡ fault (OfToken (TooLarge p))
        go true l e = steps d left m ns k true l ∙ walk_fault d (OfToken (TooLarge p)) us
        go false l e = never (sym e)

pub started : (ts us : List Placed) (p : ℕ) (w : List ℕ) → Took ts Open p w us → (d : Dialect) → judged d ts ≡ walk d (going 255 (a_head ∷ [])) us
started ts us p w h d = fitting ts us Open p w h d 255 start (a_head ∷ []) refl

-- An opening bracket and a name.
module _ (ts us vs : List Placed) (p q : ℕ) (v w : List ℕ) (h : Took ts Open p v us) (h' : Took us Name q w vs) where
  pub headed_by : (d : Dialect) (left : ℕ) (x : Named) → 0 < left → name_of d w ≡ Some x → Headed d ts left x vs
  headed_by d left x l e =
      record {
        some = l;
        walks = λ k. open_steps ts us p v d h left l k ∙ name_steps us vs q w d h' x e (left - 1) k;
        tokens = bared ts us Open p v h ∙ ap (λ ts. opening ∷ ts) (bared us vs Name q w h' ∙ ap (λ w. word w ∷ map bare vs) (name_is d w x e));
      }

  pub unnamed_by : (d : Dialect) (left : ℕ) → 0 < left → name_of d w ≡ None → Stuck d ts left (Misfit q)
  unnamed_by d left l e k = open_steps ts us p v d h left l k ∙ name_unfit us vs q w d h' e (left - 1) k

  pub led : (x : FormName) → head_of w ≡ Some x → Led ts x vs
  led x e =
      record {
        walks = λ d. started ts us p v h d ∙ fitting us vs Name q w h' d 255 (a_head ∷ []) (headed x []) (ap (λ o. after_head o []) e);
        tokens = bared ts us Open p v h ∙ ap (λ ts. opening ∷ ts) (bared us vs Name q w h' ∙ ap (λ w. word w ∷ map bare vs) (head_is w x e));
      }

  pub unled : head_of w ≡ None → Unled ts (Misfit q)
  unled e d = started ts us p v h d ∙ head_unfit us vs q w d h' e 255 []
