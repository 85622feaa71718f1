-- A whole walk along a layout.
use Rattle.std.proofs.Common.{◌≡◌, ℕ, ◌+◌, ◌*◌, ◌<◌, ◌≤◌, Bool, true, false, ltb, List, [], ◌∷◌, ◌++◌, length, reverse, filter_map, set, Some, None, Ok, Option, is_some, sym, refl, ap, ◌∙◌, append_assoc, append-nil, zero-add, arith, length-append, le-ltb}
use Rattle.std.specs.Option.{option_map}
use Rattle.std.proofs.lemmas.List.Elements.{filter_map-append}
use borrow.Author.Tests.{clash}
use Rattle.expression.specs.declared.walk.Walk.{Walk}
use Rattle.expression.specs.declared.walk.Pending.{Pending}
use Rattle.expression.specs.Coming.{due, bare_after, along, dues, weight, Fits}
use Rattle.expression.specs.Expressions.{Expr}
use Rattle.expression.specs.Following.{to_come, left, Moved}
use Rattle.expression.specs.Layouts.{nodes_of, expression_of}
use Rattle.expression.specs.Nodes.{last}
use Rattle.expression.specs.Optional.{and_then}
use Rattle.expression.specs.Passing.{Put, Spelled}
use Rattle.expression.specs.Spelling.{codes, spelt_into}
use Rattle.expression.specs.Trees.{Tree, spells}
use Rattle.expression.specs.Turns.{Decoded, decode, whole}
use Rattle.expression.specs.declared.layout.Layout.{Layout}
use Rattle.expression.proofs.Sizes.{node_size}
use Rattle.expression.proofs.Visiting.{at_once}
use Rattle.expression.proofs.Writing.{written_append, written_all}

-- What is spelled along one expression.
along_one : (e : Expr) (ts : List ℕ) → along (due false e ∷ []) false ts ≡ codes e ts
along_one e ts = by (decode e ts)
  where
    ended : (t : Tree) (c : Bool) (s : List ℕ) → option_map (λ w. spells t ++ w) (along [] c s) ≡ option_map spells (whole t s)
    ended t c [] = ap Some (append-nil (spells t))
    ended t c (x ∷ s) = refl

    by : (o : Option Decoded) → and_then o (λ x. option_map (λ w. spells x.tree ++ w) (along [] (bare_after false (spells x.tree)) x.rest)) ≡ option_map spells (and_then o (λ x. whole x.tree x.rest))
    by None = refl
    by (Some x) = ended x.tree (bare_after false (spells x.tree)) x.rest

-- The root of a layout is all that is to come.
module _ (l : Layout) (items : List Pending) (e : reverse items ≡ at_once (last (nodes_of l)) ∷ []) where
  inside : last (nodes_of l) < length (nodes_of l)
  inside = omega (arith, l.whole.0)

  pub start_fits : Fits (nodes_of l) (reverse items)
  start_fits = rw e (inside, omega (arith, node_size l (last (nodes_of l)) inside, l.whole.1), tt)

  pub start_weight : weight (dues (nodes_of l) (reverse items)) ≤ 255
  start_weight = rw e (omega (arith, node_size l (last (nodes_of l)) inside, l.whole.1))

  pub start_codes : (ts : List ℕ) → along (dues (nodes_of l) (reverse items)) false ts ≡ codes (expression_of l) ts
  start_codes ts = rw e (along_one (expression_of l) ts)

-- A walk that has passed the codes in `done`, of those that the turns spell along the layout.
pub record Passed (l : Layout) (ts : List ℕ) (w : Walk) (done : List ℕ) : Type 0 where
  pub spelled : codes (expression_of l) ts ≡ option_map (λ x. done ++ x) (to_come w)
  pub letters : w.letters ≡ length done
  pub few : w.letters + left w ≤ 255 * (length ts + 1)

omap_more : {A : Type 0} (a : List A) (c : A) (o : Option (List A)) → option_map (λ x. a ++ x) (option_map (λ x. c ∷ x) o) ≡ option_map (λ x. (a ++ (c ∷ [])) ++ x) o
omap_more a c None = refl
omap_more a c (Some x) = ap Some (sym (append_assoc a (c ∷ []) x))

module _ (l : Layout) (ts : List ℕ) where
  module _ (w w' : Walk) (done : List ℕ) (p : Passed l ts w done) where
    pub pass_letter : (c : ℕ) → Moved w (Ok (Some c)) w' → Passed l ts w' (done ++ (c ∷ []))
    pass_letter c m = record {
      spelled = p.spelled ∙ ap (option_map (λ x. done ++ x)) m.0 ∙ omap_more done c (to_come w');
      letters = omega (arith, m.1.letters, p.letters, length-append done (c ∷ []));
      few = omega (arith, m.1.letters, m.1.less, p.few);
    }

    pub pass_any : (o : Option ℕ) → true ≡ is_some o → Moved w (Ok o) w' → (after : List ℕ) × Passed l ts w' after
    pass_any (Some c) e m = (done ++ (c ∷ []), pass_letter c m)
    pass_any None e m = absurd (clash (sym e))

  -- The count of letters fits.
  pub few : (w : Walk) (done : List ℕ) → Passed l ts w done → length done ≤ 255 * (length ts + 1)
  few w done p = omega (arith, p.few, p.letters)

-- The letters of one more code.
module _ {L : Type 0} (f : ℕ → Option L) (done : List ℕ) (c count : ℕ) (start buf : List L) (p : Put (filter_map f done) 0 count start buf) where
  pub put_letter : (x : L) (buf' : List L) → Some x ≡ f c → buf' ≡ set buf count x → Put (filter_map f (done ++ (c ∷ []))) 0 (count + 1) start buf'
  put_letter x buf' e q =
      let m : filter_map f (done ++ (c ∷ [])) ≡ filter_map f done ++ (x ∷ []) = filter_map-append f done (c ∷ []) ∙ rw (← e) refl in
      record {
        count = rw m (omega (arith, p.count, length-append (filter_map f done) (x ∷ [])));
        buffer = q ∙ rw (m, written_append (filter_map f done) (x ∷ []) 0 start, zero-add, ← p.count, ← p.buffer);
      }

  pub put_mute : None ≡ f c → Put (filter_map f (done ++ (c ∷ []))) 0 count start buf
  put_mute e =
      let m : filter_map f (done ++ (c ∷ [])) ≡ filter_map f done = filter_map-append f done (c ∷ []) ∙ rw (← e) (append-nil (filter_map f done)) in
      rw m p

-- What is written, after a count that showed that there is room.
pub spelt_all : {L : Type 0} (o : Option (List L)) (n m : ℕ) (none none' buf buf' : List L) → Spelled o (Ok n) none none' → n ≤ length buf → Spelled o (Ok m) buf buf' → buf' ≡ spelt_into o buf
spelt_all o n m none none' buf buf' x h y =
    let e : Some x.0 ≡ Some y.0 = sym x.1 ∙ y.1 in
    let z : x.0 ≡ y.0 = cc in
    let k = ap length z in
    let f : ltb (length buf) (length y.0) ≡ false = le-ltb (length buf) (length y.0) (omega (arith, x.2)) in
    rw (y.1, f) (y.3 ∙ written_all y.0 buf (omega (arith, x.2)))
