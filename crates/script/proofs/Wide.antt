-- Tokens begin a form exactly if each fits.
use Rattle.std.proofs.Common.{◌≡◌, ℕ, zero, suc, Bool, true, false, cond, List, [], ◌∷◌, ◌++◌, map, length, Some, None, Option, sym, refl, ap, ◌∙◌, subst, append_assoc, append-nil, arith}
use Rattle.std.specs.Str.{bytes_eq}
use Rattle.script.specs.Dialects.{Dialect, marks, bytes, mark_word, mark_size}
use Rattle.script.specs.Forms.{Brackets, mark, empty, pair, or, star, Written, lodge, inner, bracketed, body, spelled, Shaped, Formed, is_none, is_pair, is_or, is_star, is_lodge}
use Rattle.script.specs.Law.{Begins}
use Rattle.script.specs.Machine.{Want, an_expr, a_name, more, the, a_head, name_of, wanted, after_name, head_of, headed, after_head, fits, start}
use Rattle.script.specs.Reading.{name_bytes, head_bytes}
use Rattle.script.specs.Tokens.{Token, sign, word, number, opening, closing, finish, same}
use Rattle.script.specs.declared.name.FormName.{FormName}
use Rattle.script.specs.declared.name.FormName.TheVariants.{Lodge}
use Rattle.script.specs.declared.name.Name.{Name}
use Rattle.script.specs.declared.name.Name.TheVariants.{Mark, Nothing, Pair, Or, Star}
use Rattle.script.proofs.Same.{text_true, same_refl, same_true, never, let_through}

-- The names.
pub name_is : (d : Dialect) (w : List ℕ) (x : Name) → name_of d w ≡ Some x → w ≡ name_bytes d x
name_is d w x = go (bytes_eq w (mark_word d)) (bytes_eq w is_none) (bytes_eq w is_pair) (bytes_eq w is_or) (bytes_eq w is_star) refl refl refl refl refl
  where
    go : (a b c g f : Bool) → bytes_eq w (mark_word d) ≡ a → bytes_eq w is_none ≡ b → bytes_eq w is_pair ≡ c → bytes_eq w is_or ≡ g → bytes_eq w is_star ≡ f
        → cond a (Some Mark) (cond b (Some Nothing) (cond c (Some Pair) (cond g (Some Or) (cond f (Some Star) None)))) ≡ Some x
        → w ≡ name_bytes d x
    go true b c g f pa pb pc pg pf e = let q : Mark ≡ x = cc in text_true w (mark_word d) pa ∙ ap (name_bytes d) q
    go false true c g f pa pb pc pg pf e = let q : Nothing ≡ x = cc in text_true w is_none pb ∙ ap (name_bytes d) q
    go false false true g f pa pb pc pg pf e = let q : Pair ≡ x = cc in text_true w is_pair pc ∙ ap (name_bytes d) q
    go false false false true f pa pb pc pg pf e = let q : Or ≡ x = cc in text_true w is_or pg ∙ ap (name_bytes d) q
    go false false false false true pa pb pc pg pf e = let q : Star ≡ x = cc in text_true w is_star pf ∙ ap (name_bytes d) q
    go false false false false false pa pb pc pg pf e = never e

pub name_again : (d : Dialect) (x : Name) → name_of d (name_bytes d x) ≡ Some x
name_again marks Mark = refl
name_again bytes Mark = refl
name_again marks Nothing = refl
name_again bytes Nothing = refl
name_again marks Pair = refl
name_again bytes Pair = refl
name_again marks Or = refl
name_again bytes Or = refl
name_again marks Star = refl
name_again bytes Star = refl

pub head_is : (w : List ℕ) (x : FormName) → head_of w ≡ Some x → w ≡ head_bytes x
head_is w x = go (bytes_eq w is_lodge) refl
  where
    go : (a : Bool) → bytes_eq w is_lodge ≡ a → cond a (Some Lodge) None ≡ Some x → w ≡ head_bytes x
    go true p e = let q : Lodge ≡ x = cc in text_true w is_lodge p ∙ ap head_bytes q
    go false p e = never e

-- The steps without the limits.
abbrev pub stepped : Dialect → Option (List Want) → Token → Option (List Want)
stepped d None t = None
stepped d (Some k) t = fits d k t

abbrev pub run : Dialect → Option (List Want) → List Token → Option (List Want)
run d o [] = o
run d o (t ∷ ts) = run d (stepped d o t) ts

pub run_none : (d : Dialect) (ts : List Token) → run d None ts ≡ None
run_none d [] = refl
run_none d (t ∷ ts) = run_none d ts

pub run-++ : (d : Dialect) (o : Option (List Want)) (a b : List Token) → run d o (a ++ b) ≡ run d (run d o a) b
run-++ d o [] b = refl
run-++ d o (t ∷ a) b = run-++ d (stepped d o t) a b

-- A name is followed by what it wants.
named : (d : Dialect) (x : Name) (k : List Want) (s : List Token) → run d (Some (a_name ∷ k)) (word (name_bytes d x) ∷ s) ≡ run d (Some (wanted d x k)) s
named d x k s = ap (λ o. run d (after_name d o k) s) (name_again d x)

pub run_numbers : (d : Dialect) (i : ℕ) (ms ns : List ℕ) (k : List Want) (s : List Token) → length ns ≡ i → run d (Some (more i ms ∷ k)) (map number ns ++ s) ≡ run d (Some (more 0 (ms ++ ns) ∷ k)) s
run_numbers d zero ms [] k s e = ap (λ v. run d (Some (more 0 v ∷ k)) s) (sym (append-nil ms))
run_numbers d (suc i) ms [] k s e = absurd (omega arith)
run_numbers d zero ms (n ∷ ns) k s e = absurd (omega arith)
run_numbers d (suc i) ms (n ∷ ns) k s e =
    run_numbers d i (ms ++ n ∷ []) ns k s (omega arith) ∙ ap (λ v. run d (Some (more 0 v ∷ k)) s) (append_assoc ms (n ∷ []) ns)

-- The tokens of an expression meet the want of one.
abbrev Runs : Dialect → Brackets → Type 0
Runs d e = (k : List Want) (s : List Token) → run d (Some (an_expr ∷ k)) (bracketed d e ++ s) ≡ run d (Some k) s

run_two : (d : Dialect) (e f : Brackets) → Runs d e → Runs d f → (k : List Want) (s : List Token)
    → run d (Some (an_expr ∷ (an_expr ∷ (the 41 ∷ k)))) ((bracketed d e ++ (bracketed d f ++ closing ∷ [])) ++ s) ≡ run d (Some k) s
run_two d e f a b k s =
    ap (run d (Some (an_expr ∷ (an_expr ∷ (the 41 ∷ k))))) (append_assoc (bracketed d e) (bracketed d f ++ closing ∷ []) s)
    ∙ (a _ _ ∙ (ap (run d (Some (an_expr ∷ (the 41 ∷ k)))) (append_assoc (bracketed d f) (closing ∷ []) s) ∙ b _ _))

pub run_bracketed : (d : Dialect) (e : Brackets) → Shaped d e → Runs d e
run_bracketed d (mark ns) h k s =
    named d Mark k ((map number ns ++ closing ∷ []) ++ s)
    ∙ (ap (run d (Some (more (mark_size d) [] ∷ k))) (append_assoc (map number ns) (closing ∷ []) s) ∙ run_numbers d (mark_size d) [] ns k (closing ∷ s) h)
run_bracketed d empty h k s = named d Nothing k (closing ∷ s)
run_bracketed d (pair e f) h k s =
    named d Pair k ((bracketed d e ++ (bracketed d f ++ closing ∷ [])) ++ s) ∙ run_two d e f (run_bracketed d e h.0) (run_bracketed d f h.1) k s
run_bracketed d (or e f) h k s =
    named d Or k ((bracketed d e ++ (bracketed d f ++ closing ∷ [])) ++ s) ∙ run_two d e f (run_bracketed d e h.0) (run_bracketed d f h.1) k s
run_bracketed d (star e) h k s =
    named d Star k ((bracketed d e ++ closing ∷ []) ++ s)
    ∙ (ap (run d (Some (an_expr ∷ (the 41 ∷ k)))) (append_assoc (bracketed d e) (closing ∷ []) s) ∙ run_bracketed d e h _ _)

pub run_spelled : (d : Dialect) (w : Written) → Formed d w → run d (Some start) (spelled d w) ≡ Some []
run_spelled d (lodge e) h = run_bracketed d e h _ _

-- Tokens that fill what is wanted.
abbrev numbers : ℕ → List Token → List Token
numbers zero ts = closing ∷ ts
numbers (suc i) ts = number 0 ∷ numbers i ts

abbrev pub ending : List Want → List Token
ending [] = []
ending (an_expr ∷ k) = opening ∷ (word is_none ∷ (closing ∷ ending k))
ending (a_name ∷ k) = word is_none ∷ (closing ∷ ending k)
ending (more i ns ∷ k) = numbers i (ending k)
ending (the b ∷ k) = sign b ∷ ending k
ending (a_head ∷ k) = word is_lodge ∷ (opening ∷ (word is_none ∷ (closing ∷ (closing ∷ (finish ∷ ending k)))))

run_more : (d : Dialect) (i : ℕ) (ns : List ℕ) (k : List Want) (ts : List Token) → run d (Some (more i ns ∷ k)) (numbers i ts) ≡ run d (Some k) ts
run_more d zero ns k ts = refl
run_more d (suc i) ns k ts = run_more d i (ns ++ 0 ∷ []) k ts

pub run_ending : (d : Dialect) (k : List Want) → run d (Some k) (ending k) ≡ Some []
run_ending d [] = refl
run_ending d (an_expr ∷ k) = named d Nothing k (closing ∷ ending k) ∙ run_ending d k
run_ending d (a_name ∷ k) = named d Nothing k (closing ∷ ending k) ∙ run_ending d k
run_ending d (more i ns ∷ k) = run_more d i ns k (ending k) ∙ run_ending d k
run_ending d (the b ∷ k) = ap (λ x. run d (cond x (Some k) None) (ending k)) (same_refl (sign b)) ∙ run_ending d k
run_ending d (a_head ∷ k) = named d Nothing (the 41 ∷ (the 10 ∷ k)) (closing ∷ (closing ∷ (finish ∷ ending k))) ∙ run_ending d k

-- Tokens that are what is wanted.
pub data Fills (d : Dialect) : List Want → List Token → Type 0 where
  filled : Fills d [] []
  with_expr : {k : List Want} {ts : List Token} (e : Brackets) (s : List Token) → Shaped d e → ts ≡ bracketed d e ++ s → Fills d k s → Fills d (an_expr ∷ k) ts
  with_name : {k : List Want} {ts : List Token} (e : Brackets) (s : List Token) → Shaped d e → ts ≡ inner d e ++ s → Fills d k s → Fills d (a_name ∷ k) ts
  with_more : {k : List Want} {ts : List Token} {i : ℕ} {ns : List ℕ} (ms : List ℕ) (s : List Token) → length ms ≡ i → ts ≡ map number ms ++ (closing ∷ s) → Fills d k s → Fills d (more i ns ∷ k) ts
  with_the : {k : List Want} {ts : List Token} {b : ℕ} (s : List Token) → ts ≡ sign b ∷ s → Fills d k s → Fills d (the b ∷ k) ts
  with_head : {k : List Want} {ts : List Token} (w : Written) (s : List Token) → Formed d w → ts ≡ body d w ++ s → Fills d k s → Fills d (a_head ∷ k) ts

after_open : {d : Dialect} {k k' : List Want} {ts : List Token} (t : Token) → t ≡ opening → a_name ∷ k ≡ k' → Fills d k' ts → Fills d (an_expr ∷ k) (t ∷ ts)
after_open {d} {k} {k'} {ts} t p q f = go (subst (λ x. Fills d x ts) (sym q) f)
  where
    go : Fills d (a_name ∷ k) ts → Fills d (an_expr ∷ k) (t ∷ ts)
    go (with_name e s h x f) = with_expr e s h (cc) f

after_number : {d : Dialect} {k : List Want} {ts : List Token} {i : ℕ} {ms : List ℕ} (ns : List ℕ) (n : ℕ) → Fills d (more i ms ∷ k) ts → Fills d (more (suc i) ns ∷ k) (number n ∷ ts)
after_number ns n (with_more ms s h x f) = with_more (n ∷ ms) s (ap suc h) (cc) f

two_tokens : (d : Dialect) (e f : Brackets) (s : List Token)
    → (bracketed d e ++ (bracketed d f ++ closing ∷ [])) ++ s ≡ bracketed d e ++ (bracketed d f ++ (closing ∷ s))
two_tokens d e f s =
    append_assoc (bracketed d e) (bracketed d f ++ closing ∷ []) s ∙ ap (λ ts. bracketed d e ++ ts) (append_assoc (bracketed d f) (closing ∷ []) s)

with_word : {d : Dialect} {k : List Want} {ts : List Token} (x : Name) → Fills d (wanted d x k) ts → Fills d (a_name ∷ k) (word (name_bytes d x) ∷ ts)
with_word {d} Mark (with_more ms s h x f) =
    let a = append_assoc (map number ms) (closing ∷ []) s in with_name (mark ms) s h (cc) f
with_word {d} Nothing (with_the s x f) = with_name empty s tt (cc) f
with_word {d} Pair (with_expr e s h x (with_expr f s₂ h₂ x₂ (with_the s₃ x₃ r))) =
    let q = two_tokens d e f s₃ in with_name (pair e f) s₃ (h, h₂) (cc) r
with_word {d} Or (with_expr e s h x (with_expr f s₂ h₂ x₂ (with_the s₃ x₃ r))) =
    let q = two_tokens d e f s₃ in with_name (or e f) s₃ (h, h₂) (cc) r
with_word {d} Star (with_expr e s h x (with_the s₃ x₃ r)) =
    let a = append_assoc (bracketed d e) (closing ∷ []) s₃ in with_name (star e) s₃ h (cc) r

with_lead : {d : Dialect} {k : List Want} {ts : List Token} (x : FormName) → Fills d (headed x k) ts → Fills d (a_head ∷ k) (word (head_bytes x) ∷ ts)
with_lead {d} Lodge (with_expr e s h x (with_the s₂ x₂ (with_the s₃ x₃ r))) =
    let a = append_assoc (bracketed d e) (closing ∷ (finish ∷ [])) s₃ in with_head (lodge e) s₃ h (cc) r

back_name : {d : Dialect} {k k' : List Want} {ts : List Token} (w : List ℕ) (o : Option Name) → name_of d w ≡ o → after_name d o k ≡ Some k' → Fills d k' ts → Fills d (a_name ∷ k) (word w ∷ ts)
back_name w None p e f = never e
back_name {d} {k} {k'} {ts} w (Some x) p e f =
    let q : wanted d x k ≡ k' = cc in rw (name_is d w x p) (with_word x (subst (λ z. Fills d z ts) (sym q) f))

back_head : {d : Dialect} {k k' : List Want} {ts : List Token} (w : List ℕ) (o : Option FormName) → head_of w ≡ o → after_head o k ≡ Some k' → Fills d k' ts → Fills d (a_head ∷ k) (word w ∷ ts)
back_head w None p e f = never e
back_head {d} {k} {k'} {ts} w (Some x) p e f =
    let q : headed x k ≡ k' = cc in rw (head_is w x p) (with_lead x (subst (λ z. Fills d z ts) (sym q) f))

back : {d : Dialect} {ts : List Token} (k k' : List Want) (t : Token) → fits d k t ≡ Some k' → Fills d k' ts → Fills d k (t ∷ ts)
back [] k' t e f = never e
back (an_expr ∷ k) k' t e f = let p = let_through (same t opening) (a_name ∷ k) k' e in after_open t (same_true t opening p.0) p.1 f
back (a_name ∷ k) k' (sign b) e f = never e
back {d} (a_name ∷ k) k' (word w) e f = back_name w (name_of d w) refl e f
back (a_name ∷ k) k' (number n) e f = never e
back {d} {ts} (more zero ns ∷ k) k' t e f =
    let p = let_through (same t closing) k k' e in let q = same_true t closing p.0 in
    with_more [] ts refl (cc) (subst (λ x. Fills d x ts) (sym p.1) f)
back (more (suc i) ns ∷ k) k' (sign b) e f = never e
back (more (suc i) ns ∷ k) k' (word w) e f = never e
back {d} {ts} (more (suc i) ns ∷ k) k' (number n) e f =
    let q : k' ≡ more i (ns ++ n ∷ []) ∷ k = cc in after_number ns n (subst (λ x. Fills d x ts) q f)
back {d} {ts} (the b ∷ k) k' t e f =
    let p = let_through (same t (sign b)) k k' e in let q = same_true t (sign b) p.0 in
    with_the ts (cc) (subst (λ x. Fills d x ts) (sym p.1) f)
back (a_head ∷ k) k' (sign b) e f = never e
back (a_head ∷ k) k' (word w) e f = back_head w (head_of w) refl e f
back (a_head ∷ k) k' (number n) e f = never e

pub sound : (d : Dialect) (k : List Want) (ts : List Token) → run d (Some k) ts ≡ Some [] → Fills d k ts
sound d k [] e = let q : [] ≡ k = cc in subst (λ x. Fills d x []) q filled
sound d k (t ∷ ts) e = go (fits d k t) refl e (λ k'. sound d k' ts)
  where
    go : (o : Option (List Want)) → fits d k t ≡ o → run d o ts ≡ Some [] → ((k' : List Want) → run d (Some k') ts ≡ Some [] → Fills d k' ts) → Fills d k (t ∷ ts)
    go None p e ih = never (sym (run_none d ts) ∙ e)
    go (Some k') p e ih = back k k' t p (ih k' e)

whole : (d : Dialect) (ts : List Token) → run d (Some start) ts ≡ Some [] → (w : Written) × Formed d w × (spelled d w ≡ ts)
whole d ts r = go (sound d start ts r)
  where
    go : Fills d start ts → (w : Written) × Formed d w × (spelled d w ≡ ts)
    go (with_the s₁ x₁ (with_head w s₂ h x₂ filled)) = let a = append-nil (body d w) in (w, h, cc)

pub begins : (d : Dialect) (ts : List Token) (k : List Want) → run d (Some start) ts ≡ Some k → Begins d ts
begins d ts k r =
    let q : run d (Some start) (ts ++ ending k) ≡ Some [] = run-++ d (Some start) ts (ending k) ∙ (ap (λ o. run d o (ending k)) r ∙ run_ending d k) in
    let (w, h, e) = whole d (ts ++ ending k) q in record { form = w; formed = h; rest = ending k; spells = e }

pub begun : (d : Dialect) (ts : List Token) → Begins d ts → (k : List Want) × (run d (Some start) ts ≡ Some k)
begun d ts b = go (run d (Some start) ts) refl (sym (run-++ d (Some start) ts b.rest) ∙ (ap (run d (Some start)) (sym b.spells) ∙ run_spelled d b.form b.formed))
  where
    go : (o : Option (List Want)) → run d (Some start) ts ≡ o → run d o b.rest ≡ Some [] → (k : List Want) × (run d (Some start) ts ≡ Some k)
    go None p e = never (sym (run_none d b.rest) ∙ e)
    go (Some k) p e = (k, p)
