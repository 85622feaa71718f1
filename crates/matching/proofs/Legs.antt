-- The legs from place to place make up the walk, and tell which places can finish letters.
use Rattle.std.proofs.Common.{◌≡◌, ℕ, zero, suc, ◌+◌, ◌≤◌, Bool, true, false, cond, ◌&&◌, ◌||◌, eqb, List, [], ◌∷◌, ◌++◌, map, Some, None, Option, is_some, sym, refl, ap, ◌∙◌, append_assoc, arith}
use Prim.{tt}
use borrow.Author.Tests.{clash}
use Rattle.expression.specs.Expressions.{Expr, letter, empty, pair, or, star, admits_empty}
use Rattle.expression.specs.Trees.{Tree}
use Rattle.expression.specs.Turns.{turns}
use Rattle.std.specs.Option.{option_map, option_or}
use Rattle.expression.specs.Optional.{lift2}
use Rattle.expression.specs.Members.{Each}
use Rattle.expression.specs.Tuples.{turn_all}
use Rattle.expression.specs.Search.{empty_tree, empty_trees, greedy}
use Rattle.expression.specs.Places.{letter_count, Item, item, exprs, continuations, continuation, all_admit_empty, finishes}
use Rattle.expression.specs.Walks.{Stop, after, past, stops, all_stops, choose, walk}
use Rattle.expression.proofs.Members.{each_append, each_at}
use Rattle.expression.proofs.Walking.{walk_is}
use Rattle.expression.proofs.Finishing.{finishes_is}
use Rattle.expression.proofs.EmptyTurns.{blank_none, blank_some}
use Rattle.matching.specs.Passes.{enters, reaches}
use Rattle.matching.specs.Turned.{blank}
use Rattle.matching.specs.Legs.{Leg, behind, route, leg, rest_turns}

-- The first tree without letters.
data Bare (e : Expr) : Type 0 where
  bare_no : admits_empty e ≡ false → empty_tree e ≡ None → Bare e
  bare_yes : (t : Tree) → admits_empty e ≡ true → empty_tree e ≡ Some t → Bare e

bare : (e : Expr) → Bare e
bare e = go (admits_empty e) refl (empty_tree e) refl
  where
    go : (b : Bool) → admits_empty e ≡ b → (o : Option Tree) → empty_tree e ≡ o → Bare e
    go false p None q = bare_no p q
    go true p (Some t) q = bare_yes t p q
    go true p None q = absurd (let z : ◌≡◌ {A = Option (List ℕ)} None (Some []) = rw q at (blank_some e p) in cc)
    go false p (Some t) q = absurd (let z : ◌≡◌ {A = Option (List ℕ)} (Some (turns t)) None = rw q at (blank_none e p) in cc)

-- The parts of a continuation end at the last place or before it.
module _ (n : ℕ) where
  abbrev pub Within : Item → Type 0
  Within x = x.before + letter_count x.expr ≤ n

  continuations_within : (o : ℕ) (e : Expr) (k : List Item) → o + letter_count e ≤ n → Each Within k → Each (Each Within) (continuations o e k)
  continuations_within o (letter a) k h f = (f, tt)
  continuations_within o empty k h f = tt
  continuations_within o (pair e g) k h f =
      let l : o + letter_count e + letter_count g ≤ n = omega arith in
      each_append (Each Within) _ _ (continuations_within o e (item (o + letter_count e) g ∷ k) (omega arith) (l, f)) (continuations_within (o + letter_count e) g k l f)
  continuations_within o (or e g) k h f = each_append (Each Within) _ _ (continuations_within o e k (omega arith) f) (continuations_within (o + letter_count e) g k (omega arith) f)
  continuations_within o (star e) k h f = continuations_within o e (item o (star e) ∷ k) h (h, f)

pub continuation_within : (e : Expr) (p : ℕ) → Each (Within (letter_count e)) (continuation e p)
continuation_within e zero = (omega arith, tt)
continuation_within e (suc j) = each_at (Each (Within (letter_count e))) [] (continuations 0 e []) j tt (continuations_within (letter_count e) 0 e [] (omega arith) tt)

abbrev lead : List ℕ → List ℕ → List ℕ
lead x r = x ++ r

module _ (a n : ℕ) (next : ℕ → Bool) (H : ℕ → Option (List ℕ)) (same : (q : ℕ) → q ≤ n → next q ≡ is_some (H q)) where
  abbrev chosen : List Stop → Option (List ℕ)
  chosen = choose a (λ s. H s.place)

  -- What is chosen is what a leg leads to.
  pub data Out (x : Option (List ℕ)) (b : Bool) (g : Leg) : Type 0 where
    out_no : b ≡ false → x ≡ None → Out x b g
    out_yes : (q : ℕ) (r : List ℕ) → b ≡ true → g.place ≡ Some q → q ≤ n → H q ≡ Some r → x ≡ Some (g.turned ++ r) → Out x b g

  out_or : {x y : Option (List ℕ)} {b c : Bool} {g h : Leg} → Out x b g → Out y c h → Out (option_or x y) (b || c) (cond b g h)
  out_or (out_yes q r p i l h s) o = rw (p, s) (out_yes q r refl i l h refl)
  out_or (out_no p s) o = rw (p, s) o

  out_then : {x : Option (List ℕ)} {b : Bool} {g : Leg} (t : List ℕ) → Out x b g → Out (option_map (lead t) x) b (behind t g)
  out_then t (out_no p s) = out_no p (rw s)
  out_then {g = g} t (out_yes q r p i l h s) = out_yes q r p i l h (rw s (ap {B = Option (List ℕ)} Some (sym (append_assoc t g.turned r))))

  chosen_append : (l m : List Stop) → chosen (l ++ m) ≡ option_or (chosen l) (chosen m)
  chosen_append [] m = refl
  chosen_append (s ∷ l) m = rw (chosen_append l m) (assoc _ (chosen l) (chosen m))
    where
      assoc : (x y z : Option (List ℕ)) → option_or x (option_or y z) ≡ option_or (option_or x y) z
      assoc None y z = refl
      assoc (Some x) y z = refl

  chosen_after : (x : List ℕ) (l : List Stop) → chosen (map (after x) l) ≡ option_map (lead x) (chosen l)
  chosen_after x [] = refl
  chosen_after x (s ∷ l) = rw (chosen_after x l) (one (eqb a s.letter) (H s.place) (chosen l))
    where
      one : (c : Bool) (o y : Option (List ℕ))
          → option_or (cond c (option_map (λ r. (x ++ s.turned) ++ r) o) None) (option_map (lead x) y) ≡ option_map (lead x) (option_or (cond c (option_map (λ r. s.turned ++ r) o) None) y)
      one true None y = refl
      one true (Some u) y = ap {B = Option (List ℕ)} Some (append_assoc x s.turned u)
      one false o y = refl

  out_past : (e : Expr) (l : List Stop) (b : Bool) (g : Leg) → Out (chosen l) b g → Out (chosen (past (empty_tree e) l)) (admits_empty e && b) (behind (blank e) g)
  out_past e l b g o = go (bare e)
    where
      go : Bare e → Out (chosen (past (empty_tree e) l)) (admits_empty e && b) (behind (blank e) g)
      go (bare_no p q) = rw (p, q) (out_no refl refl)
      go (bare_yes t p q) = rw (p, q, chosen_after (turns t) l) (out_then (turns t) o)

  out_letter : (o : ℕ) → suc o ≤ n → (c d : Bool) → d ≡ is_some (H (suc o))
      → Out (option_or (cond c (option_map (λ r. [] ++ r) (H (suc o))) None) None) (c && d) (record { turned = []; place = Some (suc o) })
  out_letter o l false d s = out_no refl refl
  out_letter o l true d s = go (H (suc o)) refl
    where
      go : (h : Option (List ℕ)) → H (suc o) ≡ h → Out (option_or (option_map (λ r. [] ++ r) (H (suc o))) None) d (record { turned = []; place = Some (suc o) })
      go None q = out_no (s ∙ ap is_some q) (rw q)
      go (Some r) q = out_yes (suc o) r (s ∙ ap is_some q) refl l q (rw q)

  out_enter : (o : ℕ) (e : Expr) (k : List Item) → o + letter_count e ≤ n → Out (chosen (stops o e k)) (enters a next o e) (route a next o e)
  out_enter o (letter b) k l = out_letter o (omega arith) (eqb a b) (next (suc o)) (same (suc o) (omega arith))
  out_enter o empty k l = out_no refl refl
  out_enter o (pair e f) k l =
      rw (chosen_append (stops o e (item (o + letter_count e) f ∷ k)) (past (empty_tree e) (stops (o + letter_count e) f k)))
      (out_or (out_enter o e (item (o + letter_count e) f ∷ k) (omega arith)) (out_past e _ _ _ (out_enter (o + letter_count e) f k (omega arith))))
  out_enter o (or e f) k l =
      rw (
        chosen_append (map (after (0 ∷ [])) (stops o e k)) (map (after (1 ∷ [])) (stops (o + letter_count e) f k)),
        chosen_after (0 ∷ []) (stops o e k),
        chosen_after (1 ∷ []) (stops (o + letter_count e) f k),
      )
      (out_or (out_then (0 ∷ []) (out_enter o e k (omega arith))) (out_then (1 ∷ []) (out_enter (o + letter_count e) f k (omega arith))))
  out_enter o (star e) k l = rw (chosen_after (0 ∷ []) (stops o e (item o (star e) ∷ k))) (out_then (0 ∷ []) (out_enter o e (item o (star e) ∷ k) l))

  pub out_all : (k : List Item) → Each (Within n) k → Out (chosen (all_stops k)) (reaches a next k false) (leg a next k)
  out_all [] i = out_no refl refl
  out_all (x ∷ k) i =
      rw (chosen_append (stops x.before x.expr k) (past (empty_tree x.expr) (all_stops k)))
      (out_or (out_enter x.before x.expr k i.0) (out_past x.expr (all_stops k) _ _ (out_all k i.1)))

-- A place can finish letters exactly if the walk from it gives turns.
pub finishes_walks : (e : Expr) (w : List ℕ) (p : ℕ) → finishes e w p ≡ is_some (walk e w p)
finishes_walks e w p = finishes_is e w p ∙ sym (some_map (greedy w (exprs (continuation e p)))) ∙ sym (ap is_some (walk_is e w p))
  where
    some_map : (x : Option (List Tree)) → is_some (option_map turn_all x) ≡ is_some x
    some_map None = refl
    some_map (Some x) = refl

-- From a place that can finish a ∷ w, the leg leads to one that can finish w, and its turns are the next ones.
pub record Led (e : Expr) (a : ℕ) (w : List ℕ) (p : ℕ) (g : Leg) : Type 0 where
  pub to : ℕ
  pub place : g.place ≡ Some to
  pub within : to ≤ letter_count e
  pub alive : finishes e w to ≡ true
  pub goes_on : walk e (a ∷ w) p ≡ option_map (λ r. g.turned ++ r) (walk e w to)

module _ (e : Expr) (a : ℕ) (w : List ℕ) (next : ℕ → Bool) (same : (q : ℕ) → q ≤ letter_count e → next q ≡ finishes e w q) (p : ℕ) where
  tells : (q : ℕ) → q ≤ letter_count e → next q ≡ is_some (walk e w q)
  tells q l = same q l ∙ finishes_walks e w q

  abbrev OutAt : Type 0
  OutAt = Out a (letter_count e) next (walk e w) tells (walk e (a ∷ w) p) (reaches a next (continuation e p) false) (leg a next (continuation e p))

  out_at : OutAt
  out_at = out_all a (letter_count e) next (walk e w) tells (continuation e p) (continuation_within e p)

  pub finishes_by : finishes e (a ∷ w) p ≡ reaches a next (continuation e p) false
  finishes_by = finishes_walks e (a ∷ w) p ∙ go out_at
    where
      go : OutAt → is_some (walk e (a ∷ w) p) ≡ reaches a next (continuation e p) false
      go (out_no b x) = ap is_some x ∙ sym b
      go (out_yes q r b i l h x) = ap is_some x ∙ sym b

  pub leads : finishes e (a ∷ w) p ≡ true → Led e a w p (leg a next (continuation e p))
  leads f = go out_at
    where
      go : OutAt → Led e a w p (leg a next (continuation e p))
      go (out_no b x) = absurd (clash (sym b ∙ sym finishes_by ∙ f))
      go (out_yes q r b i l h x) = record {
        to = q;
        place = i;
        within = l;
        alive = finishes_walks e w q ∙ ap is_some h;
        goes_on = x ∙ sym (ap (option_map (λ (t : List ℕ). (leg a next (continuation e p)).turned ++ t)) h);
      }

-- At the end of the letters, the walk passes over what is to come.
ended_one : (t : Tree) (o : Option (List Tree)) (l : List ℕ) → option_map turn_all o ≡ Some l → option_map turn_all (option_map (λ u. t ∷ u) o) ≡ Some (turns t ++ l)
ended_one t None l y = absurd (let z : ◌≡◌ {A = ℕ} 0 1 = cc in omega arith)
ended_one t (Some u) l y = let q : turn_all u ≡ l = cc in rw q

ended : (k : List Item) → all_admit_empty k ≡ true → option_map turn_all (empty_trees (exprs k)) ≡ Some (rest_turns k)
ended [] p = refl
ended (x ∷ k) p = go (bare x.expr) (ended k)
  where
    go : Bare x.expr → (all_admit_empty k ≡ true → option_map turn_all (empty_trees (exprs k)) ≡ Some (rest_turns k))
        → option_map turn_all (lift2 ◌∷◌ (empty_tree x.expr) (empty_trees (exprs k))) ≡ Some (blank x.expr ++ rest_turns k)
    go (bare_no q r) ih = absurd (clash (rw q at p))
    go (bare_yes t q r) ih = rw r (ended_one t (empty_trees (exprs k)) (rest_turns k) (ih (rw q at p)))

pub walk_ended : (e : Expr) (p : ℕ) → finishes e [] p ≡ true → walk e [] p ≡ Some (rest_turns (continuation e p))
walk_ended e p f = ended (continuation e p) f
