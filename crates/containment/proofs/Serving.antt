-- The search along the rows of a place, and the test of a set.
use Rattle.std.proofs.Common.{◌≡◌, ℕ, zero, suc, ◌+◌, ◌-◌, ◌<◌, ◌≤◌, Bool, true, false, ◌&&◌, ◌||◌, List, [], ◌∷◌, length, get_or, drop, sym, ap, ◌∙◌, subst, arith, drop_of_length-le, drop-cons, eq-eqb, ne_eqb}
use mathlib.Core.Bool.{and-true}
use lib.ListN.{get_or-append}
use Rattle.std.proofs.lemmas.List.Folds.{list_all-append}
use Rattle.std.specs.List.{list_all, IsLastAndRest}
use Rattle.expression.specs.Members.{any}
use Rattle.containment.specs.Rows.{Row, row, row_at}
use Rattle.containment.specs.Indexing.{Low, NextRow}
use Rattle.containment.specs.Serving.{all_step, serves_by}

-- Does a row pass, from row n on?
module _ (g : Row → Bool) (rows : List Row) where
  turn : (n : ℕ) → n < length rows → any g (drop n rows) ≡ g (row_at rows n) || any g (drop (suc n) rows)
  turn n l = ap (any g) (drop-cons rows n (row 0 []) l)

  -- Rows that do not pass can be left out.
  skip : (d i j : ℕ) → i + d ≡ j → j ≤ length rows → ((n : ℕ) → i ≤ n → n < j → g (row_at rows n) ≡ false) → any g (drop i rows) ≡ any g (drop j rows)
  skip zero i j e h f = let s : i ≡ j = omega arith in ap (λ n. any g (drop n rows)) s
  skip (suc d) i j e h f =
      turn i (omega arith) ∙ ap (λ t. t || any g (drop (suc i) rows)) (f i (omega arith) (omega arith)) ∙ skip d (suc i) j (omega arith) h (λ n l b. f n (omega arith) b)

module _ (rows : List Row) (follow : List Bool) (codes : List ℕ) (c f : ℕ) where
  abbrev serves : Row → Bool
  serves = serves_by follow codes c f

  -- No row below n serves f, and row n is one for f.
  pub record Looking (n : ℕ) : Type 0 where
    pub same : any serves rows ≡ any serves (drop n rows)
    pub within : n ≤ length rows
    pub here : n < length rows → (row_at rows n).place ≡ f

  other : (n : ℕ) → ((row_at rows n).place ≡ f → ⊥) → serves (row_at rows n) ≡ false
  other n h = ap (λ t. t && all_step follow codes c (row_at rows n).set) (ne_eqb (row_at rows n).place f h)

  pub look_first : (n : ℕ) → NextRow rows f 0 n → Looking n
  look_first n h = record {
    same = skip serves rows n 0 n (omega arith) h.high (λ m l b. other m (h.none m l b));
    within = h.high;
    here = h.here;
  }

  -- Row n, whose set was read.
  module _ (n : ℕ) (h : Looking n) (l : n < length rows) (set : List ℕ) (is : set ≡ (row_at rows n).set) where
    tested : (t : Bool) → t ≡ all_step follow codes c set → serves (row_at rows n) ≡ t
    tested t e =
        ap (λ b. b && all_step follow codes c (row_at rows n).set) (eq-eqb (row_at rows n).place f (h.here l))
        ∙ ap (all_step follow codes c) (sym is) ∙ sym e

    pub look_found : true ≡ all_step follow codes c set → true ≡ any serves rows
    look_found t = sym (h.same ∙ turn serves rows n l ∙ ap (λ b. b || any serves (drop (suc n) rows)) (tested true t))

    pub look_next : false ≡ all_step follow codes c set → (j : ℕ) → NextRow rows (row_at rows n).place (suc n) j → Looking j
    look_next t j x =
        let y : NextRow rows f (suc n) j = subst (λ v. NextRow rows v (suc n) j) (h.here l) x in
        record {
          same = h.same ∙ turn serves rows n l ∙ ap (λ b. b || any serves (drop (suc n) rows)) (tested false t)
              ∙ skip serves rows (j - suc n) (suc n) j (let k = y.low in omega arith) y.high (λ m b k. other m (y.none m b k));
          within = y.high;
          here = y.here;
        }

  pub look_none : (n : ℕ) → Looking n → length rows ≤ n → false ≡ any serves rows
  look_none n h l = sym (h.same ∙ ap (any serves) (drop_of_length-le rows l))

-- The test of a set, its last place first.
module _ (set : List ℕ) (last : ℕ) (rest : List ℕ) (parts : IsLastAndRest set last rest) where
  pub rest_low : Low set → Low rest
  rest_low h i d lt =
      subst (λ (q : ℕ). q < 129) (get_or-append rest (last ∷ []) d i lt) (subst (λ (l : List ℕ). get_or l i d < 129) parts.0 (h i d (omega (arith, parts.1))))

  pub rest_all : (t : ℕ → Bool) → true ≡ t last → list_all t rest ≡ list_all t set
  rest_all t e =
      sym (
      ap (list_all t) parts.0 ∙ list_all-append t rest (last ∷ []) ∙ ap (λ b. list_all t rest && (b && true)) (sym e) ∙ and-true (list_all t rest)
      )
