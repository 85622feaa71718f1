-- A form within the limits passes, so a line with a wrong token is none.
use Rattle.std.proofs.Common.{◌≡◌, ℕ, zero, suc, ◌+◌, ◌-◌, cond, List, [], ◌∷◌, ◌++◌, map, length, Some, None, Option, sym, refl, ap, ◌∙◌, subst, append_assoc, append-nil, arith, le-ltb, ne_eqb}
use Rattle.expression.specs.Expressions as expression
use Rattle.expression.specs.Expressions.{Expr}
use Rattle.script.specs.Bytes.{Known}
use Rattle.script.specs.Denoted.{lettered, joined, repeated, denoted, Within}
use Rattle.script.specs.Dialects.{Dialect, marks, bytes, mark_size, code_named}
use Rattle.script.specs.Forms.{Brackets, mark, empty, pair, or, star, Written, lodge, bracketed, spelled, nodes, AllLow, Low}
use Rattle.script.specs.Law.{Clean, Refused, Refusal}
use Rattle.script.specs.Machine as machine
use Rattle.script.specs.Machine.{Want, an_expr, a_name, more, the, wanted, after_name, start, Step, on, off, unnamed, fitted, step, going, fault, landed, walk, judged, Told}
use Rattle.script.specs.Reading.{name_bytes}
use Rattle.script.specs.Tokens.{Token, word, number, opening, closing, finish, Placed, bare, tokens}
use Rattle.script.specs.declared.fault.TokenFault.TheVariants.{BadByte, TooLarge}
use Rattle.script.specs.declared.fault.FormFault.{FormFault}
use Rattle.script.specs.declared.fault.FormFault.TheVariants.{Token as OfToken, Misfit, TooManyNodes, NoMemory}
use Rattle.script.specs.declared.name.Name.{Name}
use Rattle.script.specs.declared.name.Name.TheVariants.{Mark, Nothing, Pair, Or, Star}
use Rattle.script.proofs.Judge.{Verdict, verdict}
use Rattle.script.proofs.Same.{never}
use Rattle.script.proofs.Wide.{name_again}

-- The steps over tokens without their places.
abbrev strides : Dialect → Step → List Token → Step
strides d s [] = s
strides d (off f) (t ∷ ts) = off f
strides d (on left k) (t ∷ ts) = strides d (step d left k t) ts

strides_off : (d : Dialect) (f : ℕ → FormFault) (ts : List Token) → strides d (off f) ts ≡ off f
strides_off d f [] = refl
strides_off d f (t ∷ ts) = refl

-- A walk that no fault stops is the same without the places.
walks_as : (d : Dialect) (ts : List Placed) (left left' : ℕ) (k k' : List Want) → strides d (on left k) (map bare ts) ≡ on left' k' → walk d (going left k) ts ≡ going left' k'
walks_as d [] left left' k k' e = let p : left ≡ left' = cc in let q : k ≡ k' = cc in cc
walks_as d (t ∷ ts) left left' k k' e = go (step d left k t.token) e (λ l j. walks_as d ts l left' j k')
  where
    go : (s : Step) → strides d s (map bare ts) ≡ on left' k' → ((l : ℕ) (j : List Want) → strides d (on l j) (map bare ts) ≡ on left' k' → walk d (going l j) ts ≡ going left' k') → walk d (landed t.place s) ts ≡ going left' k'
    go (on l j) e ih = ih l j e
    go (off f) e ih = let z : off f ≡ on left' k' = sym (strides_off d f (map bare ts)) ∙ e in cc

-- A bracket and a name.
names : (d : Dialect) (x : Name) (left : ℕ) (k : List Want) (s : List Token) → strides d (on (suc left) (an_expr ∷ k)) (opening ∷ (word (name_bytes d x) ∷ s)) ≡ strides d (on left (wanted d x k)) s
names d x left k s =
    let n : suc left ≡ 0 → ⊥ = λ e. omega arith in
    ap (λ b. strides d (cond b (off TooManyNodes) (on left (a_name ∷ k))) (word (name_bytes d x) ∷ s)) (ne_eqb (suc left) 0 n)
    ∙ ap (λ o. strides d (fitted d left (a_name ∷ k) (word (name_bytes d x)) (after_name d o k)) s) (name_again d x)

-- A mark that names a letter has the right count of numbers.
named_size : (d : Dialect) (ns : List ℕ) (c : ℕ) → code_named d ns ≡ Some c → length ns ≡ mark_size d
named_size marks [] c e = never e
named_size marks (n ∷ []) c e = never e
named_size marks (n ∷ (m ∷ [])) c e = refl
named_size marks (n ∷ (m ∷ (x ∷ xs))) c e = never e
named_size bytes [] c e = never e
named_size bytes (n ∷ []) c e = refl
named_size bytes (n ∷ (x ∷ xs)) c e = never e

strides_numbers : (d : Dialect) (i left : ℕ) (ms ns : List ℕ) (k : List Want) (s : List Token) → length ns ≡ i → AllLow ns → strides d (on left (more i ms ∷ k)) (map number ns ++ s) ≡ strides d (on left (more 0 (ms ++ ns) ∷ k)) s
strides_numbers d zero left ms [] k s e h = ap (λ v. strides d (on left (more 0 v ∷ k)) s) (sym (append-nil ms))
strides_numbers d (suc i) left ms [] k s e h = absurd (omega arith)
strides_numbers d zero left ms (n ∷ ns) k s e h = absurd (omega arith)
strides_numbers d (suc i) left ms (n ∷ ns) k s e h =
    ap (λ b. strides d (cond b (off machine.too_large) (on left (more i (ms ++ n ∷ []) ∷ k))) (map number ns ++ s)) (le-ltb 65535 n h.0)
    ∙ (strides_numbers d i left (ms ++ n ∷ []) ns k s (omega arith) h.1 ∙ ap (λ v. strides d (on left (more 0 v ∷ k)) s) (append_assoc ms (n ∷ []) ns))

-- The tokens of an expression within the limits meet the want of one.
abbrev Passes : Dialect → Brackets → Type 0
Passes d e = (left : ℕ) (k : List Want) (s : List Token) → strides d (on (nodes e + left) (an_expr ∷ k)) (bracketed d e ++ s) ≡ strides d (on left k) s

is_letter : (o : Option ℕ) (x : Expr) → lettered o ≡ Some x → (c : ℕ) × (o ≡ Some c)
is_letter (Some c) x e = (c, refl)
is_letter None x e = never e

are_joined : (f : Expr → Expr → Expr) (a b : Option Expr) (x : Expr) → joined f a b ≡ Some x → (y : Expr) × (z : Expr) × (a ≡ Some y) × (b ≡ Some z)
are_joined f (Some y) (Some z) x e = (y, z, refl, refl)
are_joined f (Some y) None x e = never e
are_joined f None b x e = never e

is_repeated : (a : Option Expr) (x : Expr) → repeated a ≡ Some x → (y : Expr) × (a ≡ Some y)
is_repeated (Some y) x e = (y, refl)
is_repeated None x e = never e

passes_mark : (d : Dialect) (ns : List ℕ) (c : ℕ) → AllLow ns → code_named d ns ≡ Some c → Passes d (mark ns)
passes_mark d ns c h e left k s =
    ap (λ n. strides d (on n (an_expr ∷ k)) (bracketed d (mark ns) ++ s)) (let z : 1 + left ≡ suc left = omega arith in z)
    ∙ (names d Mark left k ((map number ns ++ closing ∷ []) ++ s)
    ∙ (ap (strides d (on left (more (mark_size d) [] ∷ k))) (append_assoc (map number ns) (closing ∷ []) s)
    ∙ (strides_numbers d (mark_size d) left [] ns k (closing ∷ s) (named_size d ns c e) h ∙ ap (λ o. strides d (cond (unnamed o) (off Misfit) (on left k)) s) e)))

passes_two : (d : Dialect) (e f : Brackets) → Passes d e → Passes d f → (left : ℕ) (k : List Want) (s : List Token)
    → strides d (on (nodes e + (nodes f + left)) (an_expr ∷ (an_expr ∷ (the 41 ∷ k)))) ((bracketed d e ++ (bracketed d f ++ closing ∷ [])) ++ s) ≡ strides d (on left k) s
passes_two d e f a b left k s =
    ap (strides d (on (nodes e + (nodes f + left)) (an_expr ∷ (an_expr ∷ (the 41 ∷ k))))) (append_assoc (bracketed d e) (bracketed d f ++ closing ∷ []) s)
    ∙ (a (nodes f + left) _ _ ∙ (ap (strides d (on (nodes f + left) (an_expr ∷ (the 41 ∷ k)))) (append_assoc (bracketed d f) (closing ∷ []) s) ∙ b left _ _))

pub passes : (d : Dialect) (e : Brackets) (x : Expr) → Low e → denoted d e ≡ Some x → Passes d e
passes d (mark ns) x h e left k s = let (c, q) = is_letter (code_named d ns) x e in passes_mark d ns c h q left k s
passes d empty x h e left k s =
    ap (λ n. strides d (on n (an_expr ∷ k)) (bracketed d empty ++ s)) (let z : 1 + left ≡ suc left = omega arith in z) ∙ names d Nothing left k (closing ∷ s)
passes d (pair e f) x h q left k s =
    let (y, z, a, b) = are_joined expression.pair (denoted d e) (denoted d f) x q in
    ap (λ n. strides d (on n (an_expr ∷ k)) (bracketed d (pair e f) ++ s)) (let w : 1 + nodes e + nodes f + left ≡ suc (nodes e + (nodes f + left)) = omega arith in w)
    ∙ (names d Pair (nodes e + (nodes f + left)) k ((bracketed d e ++ (bracketed d f ++ closing ∷ [])) ++ s) ∙ passes_two d e f (passes d e y h.0 a) (passes d f z h.1 b) left k s)
passes d (or e f) x h q left k s =
    let (y, z, a, b) = are_joined expression.or (denoted d e) (denoted d f) x q in
    ap (λ n. strides d (on n (an_expr ∷ k)) (bracketed d (or e f) ++ s)) (let w : 1 + nodes e + nodes f + left ≡ suc (nodes e + (nodes f + left)) = omega arith in w)
    ∙ (names d Or (nodes e + (nodes f + left)) k ((bracketed d e ++ (bracketed d f ++ closing ∷ [])) ++ s) ∙ passes_two d e f (passes d e y h.0 a) (passes d f z h.1 b) left k s)
passes d (star e) x h q left k s =
    let (y, a) = is_repeated (denoted d e) x q in
    ap (λ n. strides d (on n (an_expr ∷ k)) (bracketed d (star e) ++ s)) (let w : 1 + nodes e + left ≡ suc (nodes e + left) = omega arith in w)
    ∙ (names d Star (nodes e + left) k ((bracketed d e ++ closing ∷ []) ++ s)
    ∙ (ap (strides d (on (nodes e + left) (an_expr ∷ (the 41 ∷ k)))) (append_assoc (bracketed d e) (closing ∷ []) s) ∙ passes d e y h a left _ _))

-- No fault stops the walk over a form within the limits.
pub form_passes : (d : Dialect) (w : Written) (ts : List Placed) → Within d w → spelled d w ≡ map bare ts → (left : ℕ) × (judged d ts ≡ going left [])
form_passes d (lodge e) ts h q =
    let left = 255 - nodes e in
    let z : nodes e + left ≡ 255 = omega (arith, h.small) in
    (left, walks_as d ts 255 left start [] (ap (strides d (on 255 start)) (sym q) ∙ (ap (λ n. strides d (on n (an_expr ∷ (the 41 ∷ (the 10 ∷ [])))) (bracketed d e ++ (closing ∷ (finish ∷ [])))) (sym z) ∙ passes d e h.expr h.low h.denotes left _ _)))

refused : (d : Dialect) (line : List ℕ) (f : FormFault) → Known line (length line) → judged d (tokens line) ≡ fault f → Refused d line f
refused d line f k e =
    record {
      known = k;
      leftmost = subst (Verdict d (tokens line)) e (verdict d (tokens line));
      no_form = λ w q h. let (left, p) = form_passes d w (tokens line) h q in let z : fault f ≡ going left [] = sym e ∙ p in cc;
    }

pub told_refused : (d : Dialect) (line : List ℕ) (f : FormFault) → Known line (length line) → Told f (judged d (tokens line)) → Refusal d line f
told_refused d line (OfToken (BadByte p)) k t = elim t [ ]
told_refused d line (OfToken (TooLarge p)) k t = refused d line (OfToken (TooLarge p)) k t
told_refused d line (Misfit p) k t = refused d line (Misfit p) k t
told_refused d line (TooManyNodes p) k t = refused d line (TooManyNodes p) k t
told_refused d line NoMemory k t = tt

pub none_wrong : (d : Dialect) (ts : List Placed) (left : ℕ) (k : List Want) → judged d ts ≡ going left k → Clean d ts
none_wrong d ts left k e = subst (Verdict d ts) e (verdict d ts)
