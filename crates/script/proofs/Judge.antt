-- What the walk finds wrong is the leftmost wrong token, and where it finds nothing, nothing is wrong.
use Rattle.std.proofs.Common.{◌≡◌, ℕ, zero, suc, pred, ◌+◌, ◌<◌, ◌≤◌, Bool, true, false, cond, eqb, ◌⊎◌, List, [], ◌∷◌, ◌++◌, map, length, Some, None, Option, sym, refl, ap, ◌∙◌, subst, inl, inr, append_assoc, append-nil, arith, length-append, ltb-false, ltb-true, ne_eqb, eqb-true}
use mathlib.Core.List.{map-append}
use borrow.Author.Tests.{eqb-false}
use Rattle.script.specs.Dialects.{Dialect, marks, bytes, mark_word, mark_size, code_named}
use Rattle.script.specs.Faults.{place}
use Rattle.script.specs.Forms.{is_lodge}
use Rattle.script.specs.Law.{Begins, opens, Wrong, misfit, too_large, too_many, no_letter, Clean, Leftmost}
use Rattle.script.specs.Machine as machine
use Rattle.script.specs.Machine.{Want, an_expr, a_name, more, the, a_head, name_of, wanted, after_name, head_of, headed, after_head, fits, start, Step, on, off, large, unnamed, odd, opening_node, counted, fitted, step, State, going, fault, landed, walk, judged}
use Rattle.script.specs.Reading.{name_bytes}
use Rattle.script.specs.Tokens.{Token, sign, word, number, opening, closing, same, Placed, bare}
use Rattle.script.specs.declared.fault.FormFault.{FormFault}
use Rattle.script.specs.declared.fault.FormFault.TheVariants.{Misfit, TooManyNodes}
use Rattle.script.specs.declared.name.FormName.{FormName}
use Rattle.script.specs.declared.name.FormName.TheVariants.{Lodge}
use Rattle.script.specs.declared.name.Name.{Name}
use Rattle.script.specs.declared.name.Name.TheVariants.{Mark, Nothing, Pair, Or, Star}
use Rattle.script.proofs.Same.{same_true, never, opposed, let_through}
use Rattle.script.proofs.Wide.{stepped, run, run_none, run-++, run_numbers, name_is, name_again, head_is, begins, begun}

pub walk_fault : (d : Dialect) (f : FormFault) (ts : List Placed) → walk d (fault f) ts ≡ fault f
walk_fault d f [] = refl
walk_fault d f (t ∷ ts) = walk_fault d f ts

-- Below the first want stand only expressions and signs, and no sign is an opening bracket.
abbrev plain : Want → Type 0
plain an_expr = Unit {0}
plain a_name = ⊥
plain (more i ns) = ⊥
plain (the b) = b ≡ 40 → ⊥
plain a_head = ⊥

abbrev Plain : List Want → Type 0
Plain [] = Unit {0}
Plain (w ∷ k) = plain w × Plain k

-- What the first want says of the tokens so far.
abbrev Top : Dialect → List Token → Want → Type 0
Top d ts an_expr = Unit {0}
Top d ts a_name = Unit {0}
Top d ts (more i ns) = (us : List Token) × (ts ≡ us ++ (word (mark_word d) ∷ map number ns)) × (i + length ns ≡ mark_size d)
Top d ts (the b) = b ≡ 40 → ⊥
Top d ts a_head = ⊥

abbrev Trail : Dialect → List Token → List Want → Type 0
Trail d ts [] = Unit {0}
Trail d ts (w ∷ k) = Top d ts w × Plain k

plain_top : (d : Dialect) (ts : List Token) (w : Want) → plain w → Top d ts w
plain_top d ts an_expr p = tt
plain_top d ts a_name p = elim p [ ]
plain_top d ts (more i ns) p = elim p [ ]
plain_top d ts (the b) p = p
plain_top d ts a_head p = elim p [ ]

plain_trail : (d : Dialect) (ts : List Token) (k : List Want) → Plain k → Trail d ts k
plain_trail d ts [] p = tt
plain_trail d ts (w ∷ k) p = (plain_top d ts w p.0, p.1)

trail_name : (d : Dialect) (ts : List Token) (x : Name) (k : List Want) → Plain k → Trail d (ts ++ word (mark_word d) ∷ []) (more (mark_size d) [] ∷ k) → (w : List ℕ) → (x ≡ Mark → w ≡ mark_word d) → Trail d (ts ++ word w ∷ []) (wanted d x k)
trail_name d ts Mark k p m w e = rw (e refl) m
trail_name d ts Nothing k p m w e = ((λ q. omega (arith, q)), p)
trail_name d ts Pair k p m w e = (tt, (tt, ((λ q. omega (arith, q)), p)))
trail_name d ts Or k p m w e = (tt, (tt, ((λ q. omega (arith, q)), p)))
trail_name d ts Star k p m w e = (tt, ((λ q. omega (arith, q)), p))

begun_mark : (d : Dialect) (ts : List Token) (k : List Want) → Plain k → Trail d (ts ++ word (mark_word d) ∷ []) (more (mark_size d) [] ∷ k)
begun_mark d ts k p = ((ts, refl, omega arith), p)

after_word : (d : Dialect) (ts : List Token) (w : List ℕ) (k k' : List Want) (o : Option Name) → Plain k → name_of d w ≡ o → after_name d o k ≡ Some k' → Trail d (ts ++ word w ∷ []) k'
after_word d ts w k k' None p n e = never e
after_word d ts w k k' (Some x) p n e =
    let q : wanted d x k ≡ k' = cc in
    subst (Trail d (ts ++ word w ∷ [])) q
    (trail_name d ts x k p (begun_mark d ts k p) w (λ m. name_is d w x n ∙ ap (name_bytes d) m))

trail_on : (d : Dialect) (ts : List Token) (t : Token) (k k' : List Want) → Trail d ts k → fits d k t ≡ Some k' → Trail d (ts ++ t ∷ []) k'
trail_on d ts t [] k' h e = never e
trail_on d ts t (an_expr ∷ k) k' h e = subst (Trail d (ts ++ t ∷ [])) (let_through (same t opening) (a_name ∷ k) k' e).1 (tt, h.1)
trail_on d ts (sign b) (a_name ∷ k) k' h e = never e
trail_on d ts (word w) (a_name ∷ k) k' h e = after_word d ts w k k' (name_of d w) h.1 refl e
trail_on d ts (number n) (a_name ∷ k) k' h e = never e
trail_on d ts t (more zero ns ∷ k) k' h e = subst (Trail d (ts ++ t ∷ [])) (let_through (same t closing) k k' e).1 (plain_trail d _ k h.1)
trail_on d ts (sign b) (more (suc i) ns ∷ k) k' h e = never e
trail_on d ts (word w) (more (suc i) ns ∷ k) k' h e = never e
trail_on d ts (number n) (more (suc i) ns ∷ k) k' h e =
    let (us, q, l) = h.0 in
    let r : more i (ns ++ n ∷ []) ∷ k ≡ k' = cc in
    let z : ts ++ number n ∷ [] ≡ us ++ (word (mark_word d) ∷ map number (ns ++ n ∷ [])) =
    ap (λ x. x ++ number n ∷ []) q
    ∙ (append_assoc us (word (mark_word d) ∷ map number ns) (number n ∷ []) ∙ ap (λ x. us ++ (word (mark_word d) ∷ x)) (sym (map-append number ns (n ∷ [])))) in
    let y : i + length (ns ++ n ∷ []) ≡ mark_size d = rw (length-append ns (n ∷ [])) (omega (arith, l)) in
    subst (Trail d (ts ++ number n ∷ [])) r ((us, z, y), h.1)
trail_on d ts t (the b ∷ k) k' h e = subst (Trail d (ts ++ t ∷ [])) (let_through (same t (sign b)) k k' e).1 (plain_trail d _ k h.1)
trail_on d ts t (a_head ∷ k) k' h e = elim h.0 [ ]

-- How far into a line the tokens have come, with the nodes that may still open.
pub data Stage (d : Dialect) (ts : List Token) (left : ℕ) (k : List Want) : Type 0 where
  at_start : ts ≡ [] → k ≡ start → left ≡ 255 → Stage d ts left k
  at_head : ts ≡ opening ∷ [] → k ≡ a_head ∷ [] → left ≡ 255 → Stage d ts left k
  in_lodge : (us : List Token) → ts ≡ opening ∷ (word is_lodge ∷ us) → left + opens us ≡ 255 → Trail d ts k → Stage d ts left k

-- What holds while nothing was wrong.
pub record Kept (d : Dialect) (ts : List Token) (left : ℕ) (k : List Want) : Type 0 where
  pub runs : run d (Some start) ts ≡ Some k
  pub stage : Stage d ts left k

-- The ways of one step.
pub data Went (d : Dialect) (left : ℕ) (k : List Want) (t : Token) : Step → Type 0 where
  w_misfit : fits d k t ≡ None → Went d left k t (off Misfit)
  w_large : (n : ℕ) (k' : List Want) → t ≡ number n → 65535 < n → fits d k t ≡ Some k' → Went d left k t (off machine.too_large)
  w_odd : (ns : List ℕ) (k₀ k' : List Want) → k ≡ more 0 ns ∷ k₀ → code_named d ns ≡ None → t ≡ closing → fits d k t ≡ Some k' → Went d left k t (off Misfit)
  w_many : (k' : List Want) → left ≡ 0 → opening_node k ≡ true → fits d k t ≡ Some k' → Went d left k t (off TooManyNodes)
  w_open : (k' : List Want) → large t ≡ false → odd d k ≡ false → opening_node k ≡ true → (left ≡ 0 → ⊥) → fits d k t ≡ Some k' → Went d left k t (on (pred left) k')
  w_on : (k' : List Want) → large t ≡ false → odd d k ≡ false → opening_node k ≡ false → fits d k t ≡ Some k' → Went d left k t (on left k')

is_large : (t : Token) → large t ≡ true → (n : ℕ) × (t ≡ number n) × (65535 < n)
is_large (sign b) e = opposed (sym e)
is_large (word w) e = opposed (sym e)
is_large (number n) e = (n, refl, ltb-true 65535 n e)

not_large : (t : Token) → large t ≡ false → (n : ℕ) → t ≡ number n → n ≤ 65535
not_large t l n e = ltb-false 65535 n (ap large (sym e) ∙ l)

is_unnamed : (o : Option ℕ) → unnamed o ≡ true → o ≡ None
is_unnamed (Some c) e = opposed (sym e)
is_unnamed None e = refl

is_odd : (d : Dialect) (k k' : List Want) (t : Token) → odd d k ≡ true → fits d k t ≡ Some k' → (ns : List ℕ) × (k₀ : List Want) × (k ≡ more 0 ns ∷ k₀) × (code_named d ns ≡ None) × (t ≡ closing)
is_odd d [] k' t o e = never e
is_odd d (an_expr ∷ k) k' t o e = opposed (sym o)
is_odd d (a_name ∷ k) k' t o e = opposed (sym o)
is_odd d (more zero ns ∷ k) k' t o e = (ns, k, refl, is_unnamed (code_named d ns) o, same_true t closing (let_through (same t closing) k k' e).0)
is_odd d (more (suc i) ns ∷ k) k' t o e = opposed (sym o)
is_odd d (the b ∷ k) k' t o e = opposed (sym o)
is_odd d (a_head ∷ k) k' t o e = opposed (sym o)

pub view : (d : Dialect) (left : ℕ) (k : List Want) (t : Token) → Went d left k t (step d left k t)
view d left k t = go (fits d k t) refl
  where
    nodes : (a b : Bool) → opening_node k ≡ a → eqb left 0 ≡ b → (k' : List Want) → large t ≡ false → odd d k ≡ false → fits d k t ≡ Some k'
        → Went d left k t (cond a (cond b (off TooManyNodes) (on (pred left) k')) (on left k'))
    nodes true true p z k' l o f = w_many k' (eqb-true left 0 z) p f
    nodes true false p z k' l o f = w_open k' l o p (eqb-false left 0 z) f
    nodes false b p z k' l o f = w_on k' l o p f

    limits : (a b : Bool) → large t ≡ a → odd d k ≡ b → (k' : List Want) → fits d k t ≡ Some k'
        → Went d left k t (cond a (off machine.too_large) (cond b (off Misfit) (counted left (opening_node k) k')))
    limits true b l o k' f = let (n, p, q) = is_large t l in w_large n k' p q f
    limits false true l o k' f = let (ns, k₀, p, q, r) = is_odd d k k' t o f in w_odd ns k₀ k' p q r f
    limits false false l o k' f = nodes (opening_node k) (eqb left 0) refl refl k' l o f

    go : (o : Option (List Want)) → fits d k t ≡ o → Went d left k t (fitted d left k t o)
    go None f = w_misfit f
    go (Some k') f = limits (large t) (odd d k) refl refl k' f

opens_on : (ts : List Token) (t : Token) → opens (ts ++ t ∷ []) ≡ opens ts + cond (same t opening) 1 0
opens_on [] t = omega arith
opens_on (x ∷ ts) t = let h = opens_on ts t in omega arith

run_on : (d : Dialect) (ts : List Token) (t : Token) (k : List Want) → run d (Some start) ts ≡ Some k → run d (Some start) (ts ++ t ∷ []) ≡ fits d k t
run_on d ts t k e = run-++ d (Some start) ts (t ∷ []) ∙ ap (λ o. stepped d o t) e

goes_on : (d : Dialect) (ts : List Token) (t : Token) (left : ℕ) (k k' : List Want) → Kept d ts left k → fits d k t ≡ Some k' → Begins d (ts ++ t ∷ [])
goes_on d ts t left k k' h f = begins d (ts ++ t ∷ []) k' (run_on d ts t k h.runs ∙ f)

-- What opens a node is a bracket.
opens_node : (d : Dialect) (k k' : List Want) (t : Token) → opening_node k ≡ true → fits d k t ≡ Some k' → t ≡ opening
opens_node d [] k' t o e = opposed (sym o)
opens_node d (an_expr ∷ k) k' t o e = same_true t opening (let_through (same t opening) (a_name ∷ k) k' e).0
opens_node d (a_name ∷ k) k' t o e = opposed (sym o)
opens_node d (more i ns ∷ k) k' t o e = opposed (sym o)
opens_node d (the b ∷ k) k' t o e = opposed (sym o)
opens_node d (a_head ∷ k) k' t o e = opposed (sym o)

-- Within a form no other bracket opens.
opens_none : (d : Dialect) (ts : List Token) (k k' : List Want) (t : Token) → Trail d ts k → opening_node k ≡ false → fits d k t ≡ Some k' → same t opening ≡ false
opens_none d ts [] k' t h o e = never e
opens_none d ts (an_expr ∷ k) k' t h o e = opposed o
opens_none d ts (a_name ∷ k) k' (sign b) h o e = never e
opens_none d ts (a_name ∷ k) k' (word w) h o e = refl
opens_none d ts (a_name ∷ k) k' (number n) h o e = refl
opens_none d ts (more zero ns ∷ k) k' t h o e = ap (λ x. same x opening) (same_true t closing (let_through (same t closing) k k' e).0)
opens_none d ts (more (suc i) ns ∷ k) k' (sign b) h o e = never e
opens_none d ts (more (suc i) ns ∷ k) k' (word w) h o e = refl
opens_none d ts (more (suc i) ns ∷ k) k' (number n) h o e = refl
opens_none d ts (the b ∷ k) k' t h o e = ap (λ x. same x opening) (same_true t (sign b) (let_through (same t (sign b)) k k' e).0) ∙ ne_eqb b 40 h.0
opens_none d ts (a_head ∷ k) k' t h o e = elim h.0 [ ]

-- Where a mark is wanted, or a node opens, the tokens are within a form.
trail_of_mark : (d : Dialect) (ts : List Token) (left i : ℕ) (ns : List ℕ) (k : List Want) → Stage d ts left (more i ns ∷ k) → Top d ts (more i ns)
trail_of_mark d ts left i ns k (at_start a e b) = cc
trail_of_mark d ts left i ns k (at_head a e b) = cc
trail_of_mark d ts left i ns k (in_lodge us a b h) = h.0

within_lodge : (d : Dialect) (ts : List Token) (left : ℕ) (k : List Want) → Stage d ts left k → opening_node k ≡ true → (us : List Token) × (ts ≡ opening ∷ (word is_lodge ∷ us)) × (left + opens us ≡ 255)
within_lodge d ts left k (at_start a e b) o = opposed (sym (ap opening_node (sym e) ∙ o))
within_lodge d ts left k (at_head a e b) o = opposed (sym (ap opening_node (sym e) ∙ o))
within_lodge d ts left k (in_lodge us a b h) o = (us, a, b)

-- What the step finds wrong is wrong.
pub wrong_of : {f : ℕ → FormFault} (d : Dialect) (ts : List Token) (left : ℕ) (k : List Want) (t : Token) (p : ℕ) → Kept d ts left k → Went d left k t (off f) → (place (f p) ≡ p) × Wrong d ts t p (f p)
wrong_of d ts left k t p h (w_misfit f) =
    (refl, misfit (begins d ts k h.runs) (λ b. let (k', r) = begun d (ts ++ t ∷ []) b in never (sym f ∙ (sym (run_on d ts t k h.runs) ∙ r))))
wrong_of d ts left k t p h (w_large n k' e l f) = (refl, too_large n e l (goes_on d ts t left k k' h f))
wrong_of d ts left k t p h (w_odd ns k₀ k' e c q f) =
    let (us, a, b) = trail_of_mark d ts left 0 ns k₀ (subst (Stage d ts left) e h.stage) in
    (refl, no_letter us ns q (goes_on d ts t left k k' h f) a (omega (arith, b)) c)
wrong_of d ts left k t p h (w_many k' z o f) =
    let (us, a, b) = within_lodge d ts left k h.stage o in
    (refl, too_many us (opens_node d k k' t o f) (goes_on d ts t left k k' h f) a (omega (arith, b, z)))

-- The next stage.
stage_head : (d : Dialect) (t : Token) (k' : List Want) → fits d (a_head ∷ []) t ≡ Some k' → (t ≡ word is_lodge) × (k' ≡ headed Lodge [])
stage_head d (sign b) k' e = never e
stage_head d (word w) k' e = go (head_of w) refl e
  where
    go : (o : Option FormName) → head_of w ≡ o → after_head o [] ≡ Some k' → (word w ≡ word is_lodge) × (k' ≡ headed Lodge [])
    go None p e = never e
    go (Some Lodge) p e = (ap word (head_is w Lodge p), cc)
stage_head d (number n) k' e = never e

stage_on : (d : Dialect) (ts : List Token) (left left' : ℕ) (k k' : List Want) (t : Token) → Stage d ts left k → fits d k t ≡ Some k'
    → ((opening_node k ≡ true) × (suc left' ≡ left)) ⊎ ((opening_node k ≡ false) × (left' ≡ left)) → Stage d (ts ++ t ∷ []) left' k'
stage_on d ts left left' k k' t (at_start a e b) f (inl o) = opposed (sym (ap opening_node (sym e) ∙ o.0))
stage_on d ts left left' k k' t (at_start a e b) f (inr o) =
    let p = let_through (same t opening) (a_head ∷ []) k' (ap (λ x. fits d x t) (sym e) ∙ f) in
    let q = same_true t opening p.0 in
    at_head (ap (λ x. x ++ t ∷ []) a ∙ ap (λ x. x ∷ []) q) (sym p.1) (o.1 ∙ b)
stage_on d ts left left' k k' t (at_head a e b) f (inl o) = opposed (sym (ap opening_node (sym e) ∙ o.0))
stage_on d ts left left' k k' t (at_head a e b) f (inr o) =
    let (p, q) = stage_head d t k' (ap (λ x. fits d x t) (sym e) ∙ f) in
    let h : Trail d (ts ++ t ∷ []) (headed Lodge []) = (tt, ((λ z. omega (arith, z)), ((λ z. omega (arith, z)), tt))) in
    in_lodge [] (ap (λ x. x ++ t ∷ []) a ∙ ap (λ x. opening ∷ (x ∷ [])) p) (omega (arith, o.1, b)) (subst (Trail d (ts ++ t ∷ [])) (sym q) h)
stage_on d ts left left' k k' t (in_lodge us a b h) f (inl o) =
    let q = opens_node d k k' t o.0 f in
    let c : opens (us ++ t ∷ []) ≡ opens us + 1 = opens_on us t ∙ ap (λ x. opens us + cond (same x opening) 1 0) q in
    in_lodge (us ++ t ∷ []) (ap (λ x. x ++ t ∷ []) a) (omega (arith, o.1, b, c)) (trail_on d ts t k k' h f)
stage_on d ts left left' k k' t (in_lodge us a b h) f (inr o) =
    let c : opens (us ++ t ∷ []) ≡ opens us + 0 = opens_on us t ∙ ap (λ x. opens us + cond x 1 0) (opens_none d ts k k' t h o.0 f) in
    in_lodge (us ++ t ∷ []) (ap (λ x. x ++ t ∷ []) a) (omega (arith, o.1, b, c)) (trail_on d ts t k k' h f)

one_less : (n : ℕ) → (n ≡ 0 → ⊥) → suc (pred n) ≡ n
one_less zero h = absurd (h refl)
one_less (suc n) h = refl

pub kept_on : {left' : ℕ} {k' : List Want} (d : Dialect) (ts : List Token) (left : ℕ) (k : List Want) (t : Token) → Kept d ts left k → Went d left k t (on left' k') → Kept d (ts ++ t ∷ []) left' k'
kept_on d ts left k t h (w_open k' l o p z f) =
    record { runs = run_on d ts t k h.runs ∙ f; stage = stage_on d ts left (pred left) k k' t h.stage f (inl (p, one_less left z)) }
kept_on d ts left k t h (w_on k' l o p f) =
    record { runs = run_on d ts t k h.runs ∙ f; stage = stage_on d ts left left k k' t h.stage f (inr (p, refl)) }

-- Only what begins a mark takes its word.
takes_word : (d : Dialect) (k k' : List Want) → fits d k (word (mark_word d)) ≡ Some k' → (k₀ : List Want) × (k' ≡ more (mark_size d) [] ∷ k₀)
takes_word d [] k' e = never e
takes_word d (an_expr ∷ k) k' e = never e
takes_word d (a_name ∷ k) k' e = let q : Some (wanted d Mark k) ≡ Some k' = sym (ap (λ o. after_name d o k) (name_again d Mark)) ∙ e in (k, cc)
takes_word d (more zero ns ∷ k) k' e = never e
takes_word d (more (suc i) ns ∷ k) k' e = never e
takes_word d (the b ∷ k) k' e = never e
takes_word marks (a_head ∷ k) k' e = never e
takes_word bytes (a_head ∷ k) k' e = never e

last_mark : (d : Dialect) (us : List Token) (ns : List ℕ) (k : List Want) → length ns ≡ mark_size d → run d (Some start) (us ++ (word (mark_word d) ∷ map number ns)) ≡ Some k → (k₀ : List Want) × (k ≡ more 0 ns ∷ k₀)
last_mark d us ns k l e = go (run d (Some start) us) (sym (run-++ d (Some start) us (word (mark_word d) ∷ map number ns)) ∙ e)
  where
    after : (o : Option (List Want)) (k₁ : List Want) → fits d k₁ (word (mark_word d)) ≡ o → run d o (map number ns) ≡ Some k → (k₀ : List Want) × (k ≡ more 0 ns ∷ k₀)
    after None k₁ p e = never (sym (run_none d (map number ns)) ∙ e)
    after (Some k₂) k₁ p e =
        let (k₀, q) = takes_word d k₁ k₂ p in
        let r : run d (Some (more (mark_size d) [] ∷ k₀)) (map number ns ++ []) ≡ Some k = ap (run d (Some (more (mark_size d) [] ∷ k₀))) (append-nil (map number ns)) ∙ (ap (λ x. run d (Some x) (map number ns)) (sym q) ∙ e) in
        let z : Some (more 0 ns ∷ k₀) ≡ Some k = sym (run_numbers d (mark_size d) [] ns k₀ [] l) ∙ r in
        (k₀, cc)

    go : (o : Option (List Want)) → run d o (word (mark_word d) ∷ map number ns) ≡ Some k → (k₀ : List Want) × (k ≡ more 0 ns ∷ k₀)
    go None e = never (sym (run_none d (map number ns)) ∙ e)
    go (Some k₁) e = after (fits d k₁ (word (mark_word d))) k₁ refl e

-- What the step lets pass.
pub record Sound (d : Dialect) (left : ℕ) (k : List Want) (t : Token) (k' : List Want) : Type 0 where
  pub low : large t ≡ false
  pub even : odd d k ≡ false
  pub fit : fits d k t ≡ Some k'
  pub room : opening_node k ≡ true → left ≡ 0 → ⊥

went_sound : {left' : ℕ} {k' : List Want} (d : Dialect) (left : ℕ) (k : List Want) (t : Token) → Went d left k t (on left' k') → Sound d left k t k'
went_sound d left k t (w_open k' l o p z f) = record { low = l; even = o; fit = f; room = λ _ q. z q }
went_sound d left k t (w_on k' l o p f) = record { low = l; even = o; fit = f; room = λ q _. opposed (sym q ∙ p) }

opened : (d : Dialect) (ts us : List Token) (left : ℕ) (k k' : List Want) (t : Token) → Stage d ts left k → ts ≡ opening ∷ (word is_lodge ∷ us) → opens us ≡ 255 → t ≡ opening
    → fits d k t ≡ Some k' → (opening_node k ≡ true → left ≡ 0 → ⊥) → ⊥
opened d ts us left k k' t (at_start a e b) q c o f r = cc
opened d ts us left k k' t (at_head a e b) q c o f r = cc
opened d ts us left k k' t (in_lodge vs a b h) q c o f r = go (opening_node k) refl
  where
    v : vs ≡ us
    v = cc

    go : (x : Bool) → opening_node k ≡ x → ⊥
    go true p = r p (omega (arith, b, c, ap opens v))
    go false p = opposed (sym (ap (λ y. same y opening) o) ∙ opens_none d ts k k' t h p f)

-- What the step lets pass is not wrong.
pub clean_of : {left' : ℕ} {k' : List Want} {f : FormFault} (d : Dialect) (ts : List Token) (left : ℕ) (k : List Want) (t : Token) (p : ℕ)
    → Kept d ts left k → Went d left k t (on left' k') → Wrong d ts t p f → ⊥
clean_of {k' = k'} d ts left k t p h w x = go (went_sound d left k t w) x
  where
    go : {f : FormFault} → Sound d left k t k' → Wrong d ts t p f → ⊥
    go s (misfit b nb) = nb (goes_on d ts t left k k' h s.fit)
    go s (too_large n e l b) = omega (arith, not_large t s.low n e, l)
    go s (too_many us e b q c) = opened d ts us left k k' t h.stage q c e s.fit s.room
    go s (no_letter us ns e b q l c) =
        let (k₀, r) = last_mark d us ns k l (ap (run d (Some start)) (sym q) ∙ h.runs) in
        opposed (sym (ap unnamed c) ∙ (sym (ap (odd d) r) ∙ s.even))

snoc_split : {A : Type 0} (a u v : List A) (x y : A) → a ++ x ∷ [] ≡ u ++ y ∷ v → ((a ≡ u) × (x ≡ y)) ⊎ ((v' : List A) × (a ≡ u ++ y ∷ v'))
snoc_split [] [] v x y e = inl (refl, cc)
snoc_split [] (c ∷ []) v x y e = cc
snoc_split [] (c ∷ (d ∷ u)) v x y e = cc
snoc_split (b ∷ a) [] v x y e = inr (a, cc)
snoc_split {A} (b ∷ a) (c ∷ u) v x y e = go (snoc_split a u v x y (cc))
  where
    q : b ≡ c
    q = cc

    go : ((a ≡ u) × (x ≡ y)) ⊎ ((v' : List A) × (a ≡ u ++ y ∷ v')) → ((b ∷ a ≡ c ∷ u) × (x ≡ y)) ⊎ ((v' : List A) × (b ∷ a ≡ c ∷ (u ++ y ∷ v')))
    go (inl h) = let r = q in let h₀ = h.0 in inl (cc, h.1)
    go (inr h) = let r = q in let h₁ = h.1 in inr (h.0, cc)

clean_on : (d : Dialect) (a : List Placed) (t : Placed) → Clean d a → ((f : FormFault) → Wrong d (map bare a) t.token t.place f → ⊥) → Clean d (a ++ t ∷ [])
clean_on d a t h w u v y f e x = go (snoc_split a u v t y e)
  where
    go : ((a ≡ u) × (t ≡ y)) ⊎ ((v' : List Placed) × (a ≡ u ++ y ∷ v')) → ⊥
    go (inl q) = w f (subst (λ z. Wrong d (map bare z) t.token t.place f) (sym q.0) (subst (λ (z : Placed). Wrong d (map bare u) z.token z.place f) (sym q.1) x))
    go (inr q) = h u q.0 y f q.1 x

-- What is said of tokens by how the walk ends.
abbrev pub Verdict : Dialect → List Placed → State → Type 0
Verdict d ts (going left k) = Clean d ts
Verdict d ts (fault f) = Leftmost d ts f

found : (d : Dialect) (a ts : List Placed) (left : ℕ) (k : List Want) → Kept d (map bare a) left k → Clean d a → Verdict d (a ++ ts) (walk d (going left k) ts)
found d a [] left k h c = rw (append-nil a) c
found d a (t ∷ ts) left k h c = go (step d left k t.token) (view d left k t.token) (λ left' k'. found d (a ++ t ∷ []) ts left' k')
  where
    go : (s : Step) → Went d left k t.token s
        → ((left' : ℕ) (k' : List Want) → Kept d (map bare (a ++ t ∷ [])) left' k' → Clean d (a ++ t ∷ []) → Verdict d ((a ++ t ∷ []) ++ ts) (walk d (going left' k') ts))
        → Verdict d (a ++ t ∷ ts) (walk d (landed t.place s) ts)
    go (off f) w ih =
        let (e, x) = wrong_of d (map bare a) left k t.token t.place h w in
        let l : Leftmost d (a ++ t ∷ ts) (f t.place) =
        record {
          before = a;
          token = t.token;
          after = ts;
          split = ap (λ z. a ++ (record { token = t.token; place = z }) ∷ ts) (sym e);
          wrong = subst (λ z. Wrong d (map bare a) t.token z (f t.place)) (sym e) x;
          clean = c;
        } in
        subst (Verdict d (a ++ t ∷ ts)) (sym (walk_fault d (f t.place) ts)) l
    go (on left' k') w ih =
        let kept : Kept d (map bare (a ++ t ∷ [])) left' k' = subst (λ z. Kept d z left' k') (sym (map-append bare a (t ∷ []))) (kept_on d (map bare a) left k t.token h w) in
        subst (λ z. Verdict d z (walk d (going left' k') ts)) (append_assoc a (t ∷ []) ts)
        (ih left' k' kept (clean_on d a t c (λ f x. clean_of d (map bare a) left k t.token t.place h w x)))

clean_none : (d : Dialect) → Clean d []
clean_none d [] v t f e w = cc
clean_none d (x ∷ u) v t f e w = cc

pub verdict : (d : Dialect) (ts : List Placed) → Verdict d ts (judged d ts)
verdict d ts = found d [] ts 255 start (record { runs = refl; stage = at_start refl refl refl }) (clean_none d)
